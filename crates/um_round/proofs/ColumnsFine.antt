-- The columns that are known behind a deck's normal text break no rule of a whole deck.
use Rattle.std.proofs.Common.{◌≡◌, ◌≢◌, ℕ, suc, ◌+◌, ◌^◌, nat_eq, int_lt, Bool, true, false, ◌&&◌, ◌||◌, List, [], ◌∷◌, map, length, Option, Some, None, is_none, unwrap_or, IsSome, ℤ, pos, ◌≤ℤ◌, refl, sym, ap, ◌∙◌, subst, arith, if◌then◌else◌}
use Rattle.std.specs.List.{list_any, enumerate_from, flat_map}
use Rattle.std.specs.Option.{ForSome}
use Rattle.std.proofs.lemmas.Int.{ints}
use Rattle.std.proofs.lemmas.Bool.{or_from, false≢true}
use Rattle.std.proofs.lemmas.Bool.Decides.{nat_tests}
use Rattle.um_model.specs.Values.{DeckValue, ColumnValue}
use Rattle.um_model.specs.WellFormed.{IsDeck, IsColumn, IsSet, IsMember, IsArc, IsWithin, InOrder, HasTwoEnds, KindFits, AtPlace, has_arc}
use Rattle.um_model.specs.declared.deck.Kind.{Kind}
use Rattle.um_model.specs.declared.deck.Kind.TheVariants.{Continuous, Integer, Semi}
use Rattle.um_model.specs.declared.deck.Arc.{Arc}
use Rattle.um_statements.specs.declared.parts.Ends.{Ends}
use Rattle.um_statements.specs.declared.parts.MemberPart.{MemberPart}
use Rattle.um_statements.specs.Statements.{Name}
use Rattle.um_statements.specs.Said.{SetSaid, ends_of}
use Rattle.um_statements.specs.CallRules.{first_fault, has_kept_arc}
use Rattle.um_statements.specs.Made.{threshold, low_end, high_end, kind_of}
use Rattle.um_statements.specs.DeckRules.{is_above, are_crossed, is_below_zero_or_none, is_member, needs_ends, column_rules}
use Rattle.um_statements.proofs.Tests.{same_number}
use Rattle.um_make.specs.NormalLines.{kind_bounds}
use Rattle.um_round.proofs.EachItem.{Each-from, Each-so, Each-map, each_at_place, some_passes}
use Rattle.um_round.proofs.NormalSaid.{normal_said, column_known, set_known, member_known, is_integer, pairs_of, IsEndsBack, HasObjectiveArcs}
use Rattle.um_round.proofs.EndsBack.{ends-back-law, threshold-back}
use Rattle.um_round.proofs.ArcsBack.{arc_is_kept}
use Rattle.um_round.proofs.RulesFine.{both_fine, each_fine, not_above}

-- ---- tests

-- b is looked at only where a holds
only_where : (a b : Bool) → (a ≡ true → b ≡ false) → (a && b) ≡ false
only_where true b h = h refl
only_where false b h = refl

-- a column whose kind, set or arc needs something has it
needed : (kind member arc lacks : Bool) → (kind && lacks) ≡ false → (member ≡ true → lacks ≡ false) → (arc ≡ true → lacks ≡ false) → ((kind || member || arc) && lacks) ≡ false
needed true member arc lacks h p q = h
needed false true arc lacks h p q = p refl
needed false false arc lacks h p q = only_where arc lacks q

not_both : (a b : Bool) → (a ≡ true → b ≡ false) → b ≡ true → a ≡ false
not_both true b h t = absurd (false≢true (sym (h refl) ∙ t))
not_both false b h t = refl

-- ---- kinds

-- the kind of a semicontinuous column
abbrev is_semi : Kind → Bool
is_semi (Semi least) = true
is_semi other = false

not_semi : (kind : Kind) → ((least : ℤ) → kind ≢ Semi least) → is_semi kind ≡ false
not_semi Continuous h = refl
not_semi Integer h = refl
not_semi (Semi least) h = absurd (h least refl)

semi_is : (ends : Ends) → ends.semi ≡ is_semi (kind_of ends)
semi_is ends = by ends.semi ends.integer
  where
    by : (semi integer : Bool) → semi ≡ is_semi (if semi then Semi (unwrap_or (threshold ends) (pos 0)) else if integer then Integer else Continuous)
    by true integer = refl
    by false true = refl
    by false false = refl

continuous_is : (ends : Ends) → kind_of ends ≡ Continuous → (ends.integer || ends.semi) ≡ false
continuous_is ends = by ends.semi ends.integer
  where
    by : (semi integer : Bool) → (if semi then Semi (unwrap_or (threshold ends) (pos 0)) else if integer then Integer else Continuous) ≡ Continuous → (integer || semi) ≡ false
    by true integer is = cc
    by false true is = cc
    by false false is = refl

-- ---- ends

two_there : (low high : Option ℤ) → HasTwoEnds low high → (is_none low || is_none high) ≡ false
two_there (Some low) (Some high) ends = refl
two_there None high ends = absurd (false≢true ends.low)
two_there (Some low) None ends = absurd (false≢true ends.high)

some_zero : (low : Option ℤ) → low ≡ Some (pos 0) → IsSome low
some_zero None is = cc
some_zero (Some low) is = refl

-- an integer or semicontinuous column has two ends
kind_needs : (kind : Kind) (low high : Option ℤ) (ends : Ends) → kind_of ends ≡ kind → KindFits kind low high → ((ends.integer || ends.semi) && (is_none low || is_none high)) ≡ false
kind_needs Continuous low high ends is fits = rw (continuous_is ends is) refl
kind_needs Integer low high ends is fits = only_where _ _ (λ t. two_there low high fits)
kind_needs (Semi least) low high ends is fits = only_where _ _ (λ t. two_there low high (record { low = some_zero low fits.0; high = fits.1 }))

uncrossed : (low high : Option ℤ) → InOrder low high → are_crossed low high ≡ false
uncrossed None high h = refl
uncrossed (Some low) None h = refl
uncrossed (Some low) (Some high) h = let order : low ≤ℤ high = h low refl high refl in grind (arith, ints, nat_tests)

from_zero : (z : ℤ) → pos 0 ≤ℤ z → int_lt z (pos 0) ≡ false
from_zero z h = grind (arith, ints, nat_tests)

-- the ends of a column's bounds
abbrev ends_from : Kind → Name → Option ℤ → Option ℤ → Ends
ends_from kind name low high = ends_of (is_integer kind) (pairs_of (kind_bounds name kind low high))

-- a threshold is at least 0 and below the high end
record HasThreshold (ends : Ends) (high : Option ℤ) : Type 0 where
  above : (ends.semi && is_below_zero_or_none (threshold ends)) ≡ false
  below : (ends.semi && are_crossed (threshold ends) high) ≡ false

without_threshold : (ends : Ends) (high : Option ℤ) → ends.semi ≡ false → HasThreshold ends high
without_threshold ends high none = record { above = rw none refl; below = rw none refl }

threshold_fits : (kind : Kind) (name : Name) (low high : Option ℤ) → KindFits kind low high → ForSome high (IsWithin (10 ^ 10)) → IsEndsBack kind low high (ends_from kind name low high) → HasThreshold (ends_from kind name low high) high
threshold_fits Continuous name low high fits most back = without_threshold (ends_from Continuous name low high) high (semi_is (ends_from Continuous name low high) ∙ ap is_semi back.kind)
threshold_fits Integer name low high fits most back = without_threshold (ends_from Integer name low high) high (semi_is (ends_from Integer name low high) ∙ ap is_semi back.kind)
threshold_fits (Semi least) name low high fits most back =
    let ends = ends_from (Semi least) name low high in
    let is = threshold-back least name low high fits most in
    record {
      above = only_where ends.semi (is_below_zero_or_none (threshold ends)) (λ t. ap is_below_zero_or_none is ∙ from_zero least fits.2);
      below = only_where ends.semi (are_crossed (threshold ends) high) (λ t. ap (λ o. are_crossed o high) is ∙ uncrossed (Some least) high (λ x e h f. let same : least ≡ x = cc in subst (λ z. z ≤ℤ h) same (fits.3 h f)));
    }

-- ---- what sets and arcs ask of a column

-- a column with an arc has two small ends, and isn't semicontinuous
record ArcFacts (c : ColumnValue) : Type 0 where
  ends : HasTwoEnds c.low c.high
  low : ForSome c.low (IsWithin 8000000)
  high : ForSome c.high (IsWithin 8000000)
  no_semi : is_semi c.kind ≡ false

-- a member of a set has a low end of 0, a high end and no arc
record MemberFacts (d : DeckValue) (j : ℕ) (c : ColumnValue) : Type 0 where
  low : c.low ≡ Some (pos 0)
  high : IsSome c.high
  no_arc : has_arc d.arcs j ≡ false

module _ (d : DeckValue) (deck : IsDeck d) (in_objective : HasObjectiveArcs d) (j : ℕ) (c : ColumnValue) (at : AtPlace d.columns j c) where
  arc_asks : has_kept_arc (normal_said d) j ≡ true → ArcFacts c
  arc_asks t =
      some_passes (ArcFacts c) (λ (a : Arc). nat_eq a.column j) d.arcs
      (Each-so (IsArc d) (λ (a : Arc). nat_eq a.column j ≡ true → ArcFacts c)
      (λ a is here.
      let there : AtPlace d.columns a.column c = subst (λ k. AtPlace d.columns k c) (sym (same_number a.column j here)) at in
      record { ends = is.ends c there; low = is.low c there; high = is.high c there; no_semi = not_semi c.kind (λ least. is.kind c least there) })
      d.arcs (Each-from (IsArc d) d.arcs deck.arcs))
      (sym (arc_is_kept d deck in_objective j) ∙ t)

  member_asks : is_member (normal_said d) j ≡ true → MemberFacts d j c
  member_asks t =
      some_passes (MemberFacts d j c) (λ (s : SetSaid). list_any (λ (m : MemberPart). nat_eq m.column j) s.members) (map set_known d.sets)
      (Each-map (IsSet d) (λ (s : SetSaid). list_any (λ (m : MemberPart). nat_eq m.column j) s.members ≡ true → MemberFacts d j c) set_known
      (λ s is.
      some_passes (MemberFacts d j c) (λ (m : MemberPart). nat_eq m.column j) (map member_known s.members)
      (Each-map (IsMember d) (λ (m : MemberPart). nat_eq m.column j ≡ true → MemberFacts d j c) member_known
      (λ m fits here.
      let same = same_number m.column j here in
      let there : AtPlace d.columns m.column c = subst (λ k. AtPlace d.columns k c) (sym same) at in
      record { low = fits.low c there; high = fits.high c there; no_arc = subst (λ k. has_arc d.arcs k ≡ false) same fits.no_arc })
      s.members (Each-from (IsMember d) s.members is.members)))
      d.sets (Each-from (IsSet d) d.sets deck.sets))
      t

  -- ---- the rules

  column_fine : first_fault (column_rules (normal_said d) (j, column_known d c)) ≡ None
  column_fine =
      let said = normal_said d in
      let ends = (column_known d c).ends in
      let is = each_at_place (IsColumn (length d.rows)) d.columns j c (Each-from (IsColumn (length d.rows)) d.columns deck.columns) at in
      let back = ends-back-law c.kind c.name c.low c.high is.kind is.low is.high in
      let least = threshold_fits c.kind c.name c.low c.high is.kind is.high back in
      let both = two_there c.low c.high in
      let lacking : (is_none (low_end ends) || is_none (high_end ends)) ≡ (is_none c.low || is_none c.high) = rw (back.low, back.high) refl in
      let small : has_kept_arc said j ≡ true → (is_above 8000000 (low_end ends) || is_above 8000000 (high_end ends)) ≡ false
      = λ t. or_from _ _ (ap (is_above 8000000) back.low ∙ not_above 8000000 c.low (arc_asks t).low) (ap (is_above 8000000) back.high ∙ not_above 8000000 c.high (arc_asks t).high) in
      let order : are_crossed (low_end ends) (high_end ends) ≡ false = rw (back.low, back.high) (uncrossed c.low c.high is.order) in
      let below : (ends.semi && are_crossed (threshold ends) (high_end ends)) ≡ false = rw back.high least.below in
      let finite : (needs_ends said j ends && (is_none (low_end ends) || is_none (high_end ends))) ≡ false
      = rw lacking (needed (ends.integer || ends.semi) (is_member said j) (has_kept_arc said j) (is_none c.low || is_none c.high) (kind_needs c.kind c.low c.high ends back.kind is.kind)
      (λ t. both (record { low = some_zero c.low (member_asks t).low; high = (member_asks t).high })) (λ t. both (arc_asks t).ends)) in
      let zero_low : is_member said j ≡ true → is_above 0 (low_end ends) ≡ false = λ t. ap (is_above 0) (back.low ∙ (member_asks t).low) in
      let alone : has_kept_arc said j ≡ true → (is_member said j || ends.semi) ≡ false
      = λ t. or_from _ _ (not_both (is_member said j) (has_kept_arc said j) (λ m. arc_is_kept d deck in_objective j ∙ (member_asks m).no_arc) t) (semi_is ends ∙ ap is_semi back.kind ∙ (arc_asks t).no_semi) in
      each_fine (column_rules said (j, column_known d c)) (only_where _ _ small, (least.above, (or_from _ _ order below, (finite, (only_where _ _ zero_low, (only_where _ _ alone, tt))))))

module _ (d : DeckValue) (deck : IsDeck d) (in_objective : HasObjectiveArcs d) where
  columns_from : (n : ℕ) (cs : List ColumnValue) → ((i : ℕ) (c : ColumnValue) → AtPlace cs i c → (j : ℕ) → j ≡ n + i → first_fault (column_rules (normal_said d) (j, column_known d c)) ≡ None)
      → first_fault (flat_map (column_rules (normal_said d)) (enumerate_from n (map (column_known d) cs))) ≡ None
  columns_from n [] h = refl
  columns_from n (c ∷ cs) h =
      both_fine (column_rules (normal_said d) (n, column_known d c)) (flat_map (column_rules (normal_said d)) (enumerate_from (n + 1) (map (column_known d) cs))) (h 0 c refl n (omega arith))
      (columns_from (n + 1) cs (λ i x at j e. h (suc i) x at j (omega (arith, e))))

  pub columns_fine : first_fault (flat_map (column_rules (normal_said d)) (enumerate_from 0 (map (column_known d) d.columns))) ≡ None
  columns_fine = columns_from 0 d.columns (λ i c at j e. let same : i ≡ j = omega (arith, e) in column_fine d deck in_objective j c (subst (λ k. AtPlace d.columns k c) same at))
