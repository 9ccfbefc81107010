-- The sets of the deck of what was said.
use Rattle.std.proofs.Common.{◌≡◌, ◌≢◌, ℕ, ◌≤◌, ◌<◌, ◌*◌, ◌^◌, Bool, true, false, ◌&&◌, ◌||◌, nat_eq, ℤ, pos, List, [], map, length, get_or, All, Option, None, Some, IsSome, refl, sym, ap, subst, ◌∙◌, true≢false, arith}
use Rattle.std.specs.List.{list_any}
use Rattle.std.proofs.lemmas.List.{length-map}
use Rattle.std.proofs.lemmas.List.Elements.{All-map}
use Rattle.um_model.specs.Values.{ColumnValue}
use Rattle.um_model.specs.WellFormed.{IsSet, IsMember, HasTwoEnds, AtPlace}
use Rattle.um_model.specs.declared.deck.Member.{Member}
use Rattle.um_statements.specs.declared.parts.MemberPart.{MemberPart}
use Rattle.um_statements.specs.declared.parts.Ends.{Ends}
use Rattle.um_statements.specs.Said.{Said, ColumnSaid, SetSaid}
use Rattle.um_statements.specs.CallRules.{has_kept_arc, bare_ends}
use Rattle.um_statements.specs.Made.{low_end, high_end, column_made, weight_of, members_of, by_weight, set_made, deck_value}
use Rattle.um_statements.specs.DeckRules.{set_rules, needs_ends, is_member, is_above}
use Rattle.um_statements.specs.WellSaid.{IsSaid}
use Rattle.um_statements.proofs.CollectedSteps.{none_broken}
use Rattle.um_statements.proofs.ListFacts.{pairs_map, pairs_unmapped, unmapped, any_at, none_pass, placed}
use Rattle.um_statements.proofs.DeckFine.{IsFine}
use Rattle.um_statements.proofs.Tests.{and_false, other_number, within_most, size_zero}
use Rattle.um_statements.proofs.ByWeight.{all_sorted, pairs_sorted, weights_rise, length_sorted, all_apart}
use Rattle.um_statements.proofs.MadeColumns.{ColumnFacts, columns_fine, two_ends}
use Rattle.um_statements.proofs.MadeArcs.{same_arcs, is_same}

-- ---- one member

abbrev member_made : Said → SetSaid → MemberPart → Member
member_made said s m = record { column = m.column; weight = weight_of said s m }

member_is : (said : Said) (k : ℕ) (d : SetSaid) (i : ℕ) (e : MemberPart) → k < length said.sets → i < length (get_or said.sets k d).members → is_member said (get_or (get_or said.sets k d).members i e).column ≡ true
member_is said k d i e within inside =
    let j : ℕ = (get_or (get_or said.sets k d).members i e).column in
    any_at (λ (s : SetSaid). list_any (λ (m : MemberPart). nat_eq m.column j) s.members) said.sets k d within
    (any_at (λ (m : MemberPart). nat_eq m.column j) (get_or said.sets k d).members i e inside (is_same j j refl))

member_needs : (said : Said) (j : ℕ) (ends : Ends) → is_member said j ≡ true → needs_ends said j ends ≡ true
member_needs said j ends is = rw is (by (ends.integer || ends.semi))
  where
    by : (b : Bool) → ((b || true) || has_kept_arc said j) ≡ true
    by true = refl
    by false = refl

zero_end : (o : Option ℤ) → IsSome o → is_above 0 o ≡ false → o ≡ Some (pos 0)
zero_end None some h = absurd (true≢false (sym some))
zero_end (Some z) some h = ap (λ (y : ℤ). Some y) (size_zero z (within_most 0 z h))

member_fits : (said : Said) → IsSaid said → IsFine said → (k : ℕ) (d : SetSaid) → k < length said.sets → All (λ (w : ℤ). is_above (2 ^ 31 * 10 ^ 6) (Some w) ≡ false) (map (weight_of said (get_or said.sets k d)) (get_or said.sets k d).members)
    → (i : ℕ) (e : MemberPart) → i < length (get_or said.sets k d).members → IsMember (deck_value said) (member_made said (get_or said.sets k d) (get_or (get_or said.sets k d).members i e))
unfolding deck_value
member_fits said is fine k d within small i e inside =
    let s : SetSaid = get_or said.sets k d in
    let m : MemberPart = get_or s.members i e in
    let j : ℕ = m.column in
    let said_place = ((is.set_part.each k d within).parts i e inside).place in
    let member = member_is said k d i e within inside in
    let there : (c : ColumnValue) → AtPlace (map (column_made said) said.columns) j c → (x : ColumnSaid) × ColumnFacts said j x.ends × (c ≡ column_made said x)
    = placed (λ n (x : ColumnSaid). ColumnFacts said n x.ends) (column_made said) said.columns (columns_fine said fine) j in
    let two : (x : ColumnSaid) → ColumnFacts said j x.ends → HasTwoEnds (low_end x.ends) (high_end x.ends) = λ x facts. two_ends said j x.ends facts (member_needs said j x.ends member) in
    let bare : ColumnSaid = record { name = []; ends = bare_ends false; entries = [] } in
    record {
      column = subst (λ n. j < n) (sym (length-map said.columns (column_made said))) said_place;
      weight = within_most (2 ^ 31 * 10 ^ 6) (weight_of said s m) (unmapped (λ (w : ℤ). is_above (2 ^ 31 * 10 ^ 6) (Some w) ≡ false) (weight_of said s) s.members small i e inside);
      low = λ c at. let x = there c at in
          subst (λ (v : ColumnValue). v.low ≡ Some (pos 0)) (sym x.2) (zero_end (low_end x.0.ends) (two x.0 x.1).low (and_false (is_member said j) (is_above 0 (low_end x.0.ends)) x.1.from_zero member));
      high = λ c at. let x = there c at in subst (λ (v : ColumnValue). IsSome v.high) (sym x.2) (two x.0 x.1).high;
      no_arc = same_arcs said said.arcs j ∙ arc_apart (has_kept_arc said j) (is_member said j) (get_or said.columns j bare).ends.semi member (columns_fine said fine j bare said_place).arc_alone;
    }
  where
    arc_apart : (a b c : Bool) → b ≡ true → (a && (b || c)) ≡ false → a ≡ false
    arc_apart true true c is h = h
    arc_apart true false c is h = absurd (true≢false (sym is))
    arc_apart false b c is h = refl

-- ---- sets

some_length : (n m : ℕ) → nat_eq n 0 ≡ false → m ≡ n → 1 ≤ m
some_length n m h e = let apart = other_number n 0 h in omega (arith, apart, e)

deck_set : (said : Said) → IsSaid said → IsFine said → (k : ℕ) (d : SetSaid) → k < length said.sets → IsSet (deck_value said) (set_made said (get_or said.sets k d))
deck_set said is fine k d within =
    let s : SetSaid = get_or said.sets k d in
    let rules = none_broken (set_rules said s) (fine.each_set k d within) in
    let ms : List Member = members_of said s in
    let small = none_pass (λ (w : ℤ). is_above (2 ^ 31 * 10 ^ 6) (Some w)) (map (weight_of said s) s.members) rules.1.0 in
    record {
      some = some_length (length s.members) (length (by_weight ms)) rules.1.1.0 (length_sorted ms ∙ length-map s.members (member_made said s));
      columns = pairs_sorted (λ (a : Member) (b : Member). a.column ≢ b.column) (λ a b apart same. apart (sym same)) ms
          (pairs_map (λ (a : Member) (b : Member). a.column ≢ b.column) (member_made said s) s.members (is.set_part.each k d within).distinct);
      weights = weights_rise ms
          (pairs_map (λ (a : Member) (b : Member). a.weight ≢ b.weight) (member_made said s) s.members
          (pairs_unmapped (λ (a : ℤ) (b : ℤ). a ≢ b) (weight_of said s) s.members (all_apart (map (weight_of said s) s.members) rules.1.1.1.0)));
      members = all_sorted (IsMember (deck_value said)) ms (All-map (IsMember (deck_value said)) (member_made said s) s.members (member_fits said is fine k d within small));
    }

pub made_sets : (said : Said) → IsSaid said → IsFine said → All (IsSet (deck_value said)) (deck_value said).sets
unfolding deck_value
made_sets said is fine = All-map (IsSet (deck_value said)) (set_made said) said.sets (deck_set said is fine)
