-- The first of the broken rules is the one that is found line by line.
use Rattle.std.proofs.Common.{◌≡◌, ℕ, ◌+◌, Bool, true, false, List, [], ◌∷◌, ◌++◌, length, length-append, find, Option, Some, None, refl, ap, ◌∙◌, arith, option_map, option_to_list, if◌then◌else◌}
use Rattle.std.specs.List.{list_any}
use Rattle.std.specs.Option.{option_or}
use Rattle.um_statements.specs.declared.fault.Fault.{Fault}
use Rattle.um_statements.specs.declared.fault.Fault.TheVariants.{NoEnd}
use Rattle.um_decktext.specs.DeckLines.{Line}
use Rattle.um_decktext.specs.DeckText.{each_from, line_fault, is_end, counted, broken, broken_line, first_broken}
use Rattle.um_decktext.specs.LineByLine.{fault_behind}

abbrev first_behind : List Line → List Line → Option (ℕ × Fault)
first_behind before lines = option_or (find (λ (a : ℕ × Fault). true) (each_from broken_line before (counted lines))) (if list_any is_end lines then None else Some (length before + length lines, NoEnd))

none_here : (before : List Line) (line : Line) → line_fault before line ≡ None → broken_line before line ≡ []
none_here before line none = ap (λ o. option_to_list (option_map (λ fault. (length before + 1, fault)) o)) none

some_here : (before : List Line) (line : Line) (fault : Fault) → line_fault before line ≡ Some fault → broken_line before line ≡ (length before + 1, fault) ∷ []
some_here before line fault some = ap (λ o. option_to_list (option_map (λ f. (length before + 1, f)) o)) some

same_behind : (before lines : List Line) → first_behind before lines ≡ fault_behind before lines
unfolding counted
same_behind before [] = ap (λ n. Some (n, NoEnd)) (omega arith)
same_behind before (line ∷ lines) = by (line_fault before line) (is_end line) refl refl (same_behind (before ++ line ∷ []) lines)
  where
    by : (o : Option Fault) (last : Bool) → line_fault before line ≡ o → is_end line ≡ last
        → first_behind (before ++ line ∷ []) lines ≡ fault_behind (before ++ line ∷ []) lines
        → first_behind before (line ∷ lines) ≡ fault_behind before (line ∷ lines)
    by (Some fault) true f e more = rw (e, some_here before line fault f, f) refl
    by (Some fault) false f e more = rw (e, some_here before line fault f, f) refl
    by None true f e more = rw (e, none_here before line f, f) refl
    by None false f e more =
        let count : length before + length (line ∷ lines) ≡ length (before ++ line ∷ []) + length lines = omega (arith, length-append before (line ∷ [])) in
        rw (e, none_here before line f, f)
        (ap (λ n. option_or (find (λ (a : ℕ × Fault). true) (each_from broken_line (before ++ line ∷ []) (counted lines))) (if list_any is_end lines then None else Some (n, NoEnd))) count ∙ more)

pub first_found : (lines : List Line) → first_broken lines ≡ fault_behind [] lines
unfolding broken
first_found lines =
    let count : length lines ≡ length {A = Line} [] + length lines = omega arith in
    ap (λ n. option_or (find (λ (a : ℕ × Fault). true) (broken lines)) (if list_any is_end lines then None else Some (n, NoEnd))) count ∙ same_behind [] lines
