-- The statements of all sections, put together.
use Rattle.std.proofs.Common.{◌≡◌, Bool, true, false, List, [], ◌∷◌, ◌++◌, map, refl, sym, ap, subst}
use Rattle.std.specs.List.{flat_map}
use Rattle.std.proofs.lemmas.Grind.{flat_map-append}
use Rattle.std.proofs.lemmas.List.Folds.{flat_map-map}
use Rattle.um_model.specs.Values.{DeckValue}
use Rattle.um_model.specs.WellFormed.{IsDeck}
use Rattle.um_statements.specs.Statements.{Name, Statement, Title}
use Rattle.um_statements.specs.Said.{Said, nothing_said}
use Rattle.um_statements.specs.CallRules.{rules_of, with_statement}
use Rattle.um_make.specs.NormalLines.{sides_of, ranges_of, column_bounds}
use Rattle.um_round.proofs.NormalTold.{section_told, sense_told, rows_told, columns_told, side_told, range_told, bound_told, sets_told, arc_told, front_told, back_told, normal_statements}
use Rattle.um_round.proofs.NormalSaid.{Runs, HasObjectiveArcs, behind_rows, behind_columns, behind_sides, behind_ranges, behind_bounds, behind_sets, normal_said}
use Rattle.um_round.proofs.Runs.{run_none, run_both}
use Rattle.um_round.proofs.RowsRun.{rows-run-law}
use Rattle.um_round.proofs.ColumnsRun.{columns-run-law}
use Rattle.um_round.proofs.SidesRun.{sides-run-law, ranges-run-law}
use Rattle.um_round.proofs.BoundsRun.{bounds-run-law}
use Rattle.um_round.proofs.SetsRun.{sets-run-law}
use Rattle.um_round.proofs.ArcsRun.{arcs-run-law}

abbrev all_of : List (List Statement) → List Statement
all_of = flat_map (λ told. told)

section_all : (tss : List (List Statement)) → all_of (section_told tss) ≡ all_of tss
section_all [] = refl
section_all (t ∷ tss) = refl

abbrev begun : Name → Bool → Said
begun name maximise = record nothing_said { name = name; maximise = maximise }

head_run : (name : Name) (maximise : Bool) → Runs nothing_said (Title name ∷ all_of (sense_told maximise)) (begun name maximise)
unfolding rules_of with_statement
head_run name true = record { fine = refl; knows = refl }
head_run name false = record { fine = refl; knows = refl }

run_list : (a b : Said) (tss : List (List Statement)) (told : List Statement) → all_of tss ≡ told → Runs a told b → Runs a (all_of tss) b
run_list a b tss told e run = subst (λ (x : List Statement). Runs a x b) (sym e) run

run_lists : (a b c : Said) (xs ys : List (List Statement)) → Runs a (all_of xs) b → Runs b (all_of ys) c → Runs a (all_of (xs ++ ys)) c
run_lists a b c xs ys first second = run_list a c (xs ++ ys) (all_of xs ++ all_of ys) (flat_map-append (λ told. told) xs ys) (run_both a b c (all_of xs) (all_of ys) first second)

section_run : (a b : Said) (tss : List (List Statement)) → Runs a (all_of tss) b → Runs a (all_of (section_told tss)) b
section_run a b tss run = run_list a b (section_told tss) (all_of tss) (section_all tss) run

mapped_run : {X : Type 0} (a b : Said) (f : X → List Statement) (xs : List X) → Runs a (flat_map f xs) b → Runs a (all_of (section_told (map f xs))) b
mapped_run a b f xs run = section_run a b (map f xs) (run_list a b (map f xs) (flat_map f xs) (flat_map-map (λ told. told) f xs) run)

front_run : (d : DeckValue) → IsDeck d → Runs nothing_said (all_of (front_told d)) (behind_rows d)
front_run d deck =
    let head = head_run d.name d.maximise in
    let rows = rows-run-law d deck in
    let told : all_of (front_told d) ≡ (Title d.name ∷ all_of (sense_told d.maximise)) ++ all_of (rows_told d) = ap (λ (x : List Statement). Title d.name ∷ x) (flat_map-append (λ told. told) (sense_told d.maximise) ([] ∷ rows_told d)) in
    run_list nothing_said (behind_rows d) (front_told d) ((Title d.name ∷ all_of (sense_told d.maximise)) ++ all_of (rows_told d)) told
    (run_both nothing_said (begun d.name d.maximise) (behind_rows d) (Title d.name ∷ all_of (sense_told d.maximise)) (all_of (rows_told d)) head rows)

-- from behind COLUMNS on
back_run : (d : DeckValue) → IsDeck d → HasObjectiveArcs d → Runs (behind_columns d) (all_of (back_told d)) (normal_said d)
back_run d deck only =
    let end = normal_said d in
    let t1 = section_told (map side_told (sides_of d)) in
    let t2 = section_told (map range_told (ranges_of d)) in
    let t3 = section_told (map bound_told (flat_map column_bounds d.columns)) in
    let t4 = section_told (sets_told d) in
    let t5 = section_told (map (arc_told d) d.arcs) in
    let sides = mapped_run (behind_columns d) (behind_sides d) side_told (sides_of d) (sides-run-law d deck) in
    let ranges = mapped_run (behind_sides d) (behind_ranges d) range_told (ranges_of d) (ranges-run-law d deck) in
    let bounds = mapped_run (behind_ranges d) (behind_bounds d) bound_told (flat_map column_bounds d.columns) (bounds-run-law d deck) in
    let sets = section_run (behind_bounds d) (behind_sets d) (sets_told d) (sets-run-law d deck) in
    let arcs = mapped_run (behind_sets d) end (arc_told d) d.arcs (arcs-run-law d deck only) in
    let a5 = run_lists (behind_sets d) end end t5 ([] ∷ []) arcs (run_none end) in
    let a4 = run_lists (behind_bounds d) (behind_sets d) end t4 (t5 ++ [] ∷ []) sets a5 in
    let a3 = run_lists (behind_ranges d) (behind_bounds d) end t3 (t4 ++ (t5 ++ [] ∷ [])) bounds a4 in
    let a2 = run_lists (behind_sides d) (behind_ranges d) end t2 (t3 ++ (t4 ++ (t5 ++ [] ∷ []))) ranges a3 in
    run_lists (behind_columns d) (behind_sides d) end t1 (t2 ++ (t3 ++ (t4 ++ (t5 ++ [] ∷ [])))) sides a2

pub run-law : (d : DeckValue) → IsDeck d → HasObjectiveArcs d → Runs nothing_said (normal_statements d) (normal_said d)
run-law d deck only =
    run_lists nothing_said (behind_rows d) (normal_said d) (front_told d) ([] ∷ columns_told d ++ back_told d) (front_run d deck)
    (run_lists (behind_rows d) (behind_columns d) (normal_said d) ([] ∷ columns_told d) (back_told d) (columns-run-law d deck) (back_run d deck only))
