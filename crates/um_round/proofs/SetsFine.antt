-- The sets that are known behind a deck's normal text break no rule of a whole deck.
use Rattle.std.proofs.Common.{◌≡◌, ◌*◌, ◌^◌, ◌≤◌, nat_eq, int_le, false, ◌&&◌, List, [], ◌∷◌, map, length, Some, None, ℤ, ◌<ℤ◌, All, AllPairs, refl, ap, ◌∙◌, arith}
use Rattle.std.specs.List.{list_any, flat_map}
use Rattle.std.proofs.lemmas.Int.{ints}
use Rattle.std.proofs.lemmas.Bool.{or_from}
use Rattle.std.proofs.lemmas.Bool.Decides.{nat_tests}
use Rattle.std.proofs.lemmas.List.Elements.{All-head, All-tail}
use Rattle.um_model.specs.Values.{DeckValue, SetValue}
use Rattle.um_model.specs.WellFormed.{IsDeck, IsSet, IsMember}
use Rattle.um_model.specs.declared.deck.Member.{Member}
use Rattle.um_statements.specs.Said.{Said}
use Rattle.um_statements.specs.CallRules.{first_fault}
use Rattle.um_statements.specs.Made.{weight_of}
use Rattle.um_statements.specs.DeckRules.{is_above, has_twice, set_rules}
use Rattle.um_statements.proofs.ListFacts.{pairs_head, pairs_tail}
use Rattle.um_round.proofs.EachItem.{Each, Each-from}
use Rattle.um_round.proofs.NormalSaid.{normal_said, set_known, member_known}
use Rattle.um_round.proofs.SetsBack.{Less}
use Rattle.um_round.proofs.RulesFine.{both_fine, each_fine, one_above}

-- ---- weights

abbrev weights_of : List Member → List ℤ
weights_of ms = map (λ (m : Member). m.weight) ms

weights_are : (said : Said) (s : SetValue) → map (weight_of said (set_known s)) (map member_known s.members) ≡ weights_of s.members
weights_are said s = by s.members
  where
    by : (ms : List Member) → map (weight_of said (set_known s)) (map member_known ms) ≡ weights_of ms
    by [] = refl
    by (m ∷ ms) = ap (λ (more : List ℤ). m.weight ∷ more) (by ms)

none_large : (d : DeckValue) (ms : List Member) → Each (IsMember d) ms → list_any (λ w. is_above (2 ^ 31 * 10 ^ 6) (Some w)) (weights_of ms) ≡ false
none_large d [] is = refl
none_large d (m ∷ ms) is = or_from _ _ (one_above (2 ^ 31 * 10 ^ 6) m.weight is.0.weight) (none_large d ms is.1)

other_weight : (a b : ℤ) → a <ℤ b → (int_le b a && int_le a b) ≡ false
other_weight a b h = let above : int_le b a ≡ false = grind (arith, ints, nat_tests) in rw above refl

none_same : (m : Member) (ms : List Member) → All (Less m) ms → list_any (λ y. int_le y m.weight && int_le m.weight y) (weights_of ms) ≡ false
none_same m [] rise = refl
none_same m (x ∷ ms) rise = or_from _ _ (other_weight m.weight x.weight (All-head (Less m) x ms rise)) (none_same m ms (All-tail (Less m) x ms rise))

none_twice : (ms : List Member) → AllPairs Less ms → has_twice (weights_of ms) ≡ false
none_twice [] rise = refl
none_twice (m ∷ ms) rise = or_from _ _ (none_same m ms (pairs_head Less m ms rise)) (none_twice ms (pairs_tail Less m ms rise))

-- ---- the rules

not_empty : (ms : List Member) → 1 ≤ length ms → nat_eq (length (map member_known ms)) 0 ≡ false
not_empty [] some = absurd (omega (arith, some))
not_empty (m ∷ ms) some = grind (arith, nat_tests)

module _ (d : DeckValue) where
  set_fine : (s : SetValue) → IsSet d s → first_fault (set_rules (normal_said d) (set_known s)) ≡ None
  set_fine s is =
      let weights = weights_are (normal_said d) s in
      let small = ap (list_any (λ w. is_above (2 ^ 31 * 10 ^ 6) (Some w))) weights ∙ none_large d s.members (Each-from (IsMember d) s.members is.members) in
      let once = ap has_twice weights ∙ none_twice s.members is.weights in
      each_fine (set_rules (normal_said d) (set_known s)) (refl, (small, (not_empty s.members is.some, (once, tt))))

  pub sets_fine : IsDeck d → first_fault (flat_map (set_rules (normal_said d)) (map set_known d.sets)) ≡ None
  sets_fine deck = by d.sets (Each-from (IsSet d) d.sets deck.sets)
    where
      by : (sets : List SetValue) → Each (IsSet d) sets → first_fault (flat_map (set_rules (normal_said d)) (map set_known sets)) ≡ None
      by [] is = refl
      by (s ∷ sets) is = both_fine (set_rules (normal_said d) (set_known s)) (flat_map (set_rules (normal_said d)) (map set_known sets)) (set_fine s is.0) (by sets is.1)
