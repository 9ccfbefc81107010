-- What was said keeps its form behind more sets, members and arcs.
use Rattle.std.proofs.Common.{◌≡◌, ◌≢◌, ℕ, ◌*◌, ◌^◌, ◌<◌, ◌≤◌, ◌+◌, Bool, true, false, not, cond, ◌&&◌, ◌||◌, nat_le, nat_eq, List, [], ◌∷◌, ◌++◌, map, length, get_or, count_by, All, AllPairs, Option, None, Some, is_some, option_map, option_and_then, refl, sym, ap, subst, ◌∙◌, true≢false, arith}
use Rattle.std.specs.Option.{ForSome, option_map_or}
use Rattle.std.specs.List.{range_with_len, list_any}
use Rattle.std.specs.Str.{bytes_eq}
use Rattle.std.proofs.lemmas.List.{length_push}
use Rattle.std.proofs.lemmas.List.Elements.{All-nil, All-map, All-push}
use Rattle.std.proofs.lemmas.List.Folds.{list_any-append}
use Rattle.std.proofs.lemmas.List.Quantifiers.{all_pairs_push}
use Rattle.um_num.specs.declared.decimal.Decimal.{Decimal}
use Rattle.um_model.specs.WellFormed.{IsWithin}
use Rattle.um_model.specs.declared.deck.SetKind.{SetKind}
use Rattle.um_statements.specs.declared.parts.MemberPart.{MemberPart}
use Rattle.um_statements.specs.declared.parts.ArcPart.{ArcPart}
use Rattle.um_statements.specs.Statements.{Name}
use Rattle.um_statements.specs.Scaled.{times_ten, is_within_at}
use Rattle.um_statements.specs.Said.{SetSaid}
use Rattle.um_statements.specs.CallRules.{is_at, is_zero, last_has, change_last, option_list}
use Rattle.um_statements.specs.WellSaid.{IsNumber, IsMemberSaid, IsSetSaid, AreSets, IsArcSaid, AreArcs, keeps_arc}
use Rattle.um_statements.proofs.ListFacts.{pairs_none, none_pass}
use Rattle.um_statements.proofs.Tests.{not_true, is_most, same_number, other_number}
use Rattle.um_statements.proofs.PushedLists.{pairs_push_map, other_names, length_last, map_last_kept, all_last, count_one_more}
use Rattle.um_statements.proofs.KeptRows.{not_full}

-- ---- a set

names_apart : (name : Name) (sets : List SetSaid) → list_any (λ (s : SetSaid). bytes_eq name s.name) sets ≡ false → All (λ n. n ≢ name) (map (λ (s : SetSaid). s.name) sets)
names_apart name sets new =
    other_names name (map (λ (s : SetSaid). s.name) sets) (All-map (λ n. bytes_eq name n ≡ false) (λ (s : SetSaid). s.name) sets (none_pass (λ (s : SetSaid). bytes_eq name s.name) sets new))

pub sets_kept : (rows columns : ℕ) (sets : List SetSaid) (kind : SetKind) (name : Name) (found : Option ℕ) → ((row : ℕ) → found ≡ Some row → row < rows) → list_any (λ (s : SetSaid). bytes_eq name s.name) sets ≡ false → nat_le 256 (length sets) ≡ false
    → AreSets rows columns sets → AreSets rows columns (sets ++ record { name = name; kind = kind; reference = found; members = [] } ∷ [])
sets_kept rows columns sets kind name found within new room is =
    let added : SetSaid = record { name = name; kind = kind; reference = found; members = [] } in
    let fits = not_full 256 (length sets) room in
    let long = length_push sets added in
    record {
      names = pairs_push_map (λ (a : Name) (b : Name). a ≢ b) (λ (s : SetSaid). s.name) sets added is.names (names_apart name sets new);
      count = omega (arith, fits, long);
      each = All-push (IsSetSaid rows columns) sets added is.each (record {
        weights_row = within;
        parts = All-nil (IsMemberSaid columns);
        distinct = pairs_none (λ (a : MemberPart) (b : MemberPart). a.column ≢ b.column);
      });
    }

-- ---- a member

abbrev pub with_member : Option ℕ → Option Decimal → SetSaid → SetSaid
with_member found weight s = record s { members = s.members ++ option_list (option_map (λ place. record { column = place; weight = option_map (λ v. times_ten v 6) weight }) found) }

weight_size : (weight : Option Decimal) → option_map_or (λ v. not (is_within_at (2 ^ 31 * 10 ^ 6) 6 v)) weight false ≡ false → ForSome (option_map (λ v. times_ten v 6) weight) (IsWithin (2 ^ 31 * 10 ^ 6))
weight_size None fits = λ z e. cc
weight_size (Some v) fits = λ z e. let same : times_ten v 6 ≡ z = cc in subst (IsWithin (2 ^ 31 * 10 ^ 6)) same (is_most _ (2 ^ 31 * 10 ^ 6) (not_true (is_within_at (2 ^ 31 * 10 ^ 6) 6 v) fits))

apart_from : (j : ℕ) (ms : List MemberPart) → list_any (λ (m : MemberPart). nat_eq j m.column) ms ≡ false → All (λ (m : MemberPart). m.column ≢ j) ms
apart_from j ms none = λ k d within same. other_number j (get_or ms k d).column (none_pass (λ (m : MemberPart). nat_eq j m.column) ms none k d within) (sym same)

member_kept : (rows columns j : ℕ) (weight : Option Decimal) → j < columns → option_map_or (λ v. not (is_within_at (2 ^ 31 * 10 ^ 6) 6 v)) weight false ≡ false
    → (s : SetSaid) → list_any (λ (m : MemberPart). nat_eq j m.column) s.members ≡ false → IsSetSaid rows columns s → IsSetSaid rows columns (with_member (Some j) weight s)
member_kept rows columns j weight within fits s new is =
    let added : MemberPart = record { column = j; weight = option_map (λ v. times_ten v 6) weight } in
    record {
      weights_row = is.weights_row;
      parts = All-push (IsMemberSaid columns) s.members added is.parts (record { place = within; size = weight_size weight fits });
      distinct = all_pairs_push (λ (a : MemberPart) (b : MemberPart). a.column ≢ b.column) s.members added is.distinct (apart_from j s.members new);
    }

pub members_kept : (rows columns : ℕ) (sets : List SetSaid) (found : Option ℕ) (weight : Option Decimal) → not (is_some found) ≡ false → ((j : ℕ) → found ≡ Some j → j < columns)
    → last_has (λ (s : SetSaid). list_any (λ (m : MemberPart). is_at found m.column) s.members) sets ≡ false → option_map_or (λ v. not (is_within_at (2 ^ 31 * 10 ^ 6) 6 v)) weight false ≡ false
    → AreSets rows columns sets → AreSets rows columns (change_last (with_member found weight) sets)
members_kept rows columns sets None weight known within new fits is = absurd (true≢false known)
members_kept rows columns sets (Some j) weight known within new fits is = record {
  names = subst (AllPairs (λ (a : Name) (b : Name). a ≢ b)) (sym (map_last_kept (λ (s : SetSaid). s.name) (with_member (Some j) weight) (λ s. refl) sets)) is.names;
  count = subst (λ n. n ≤ 256) (sym (length_last (with_member (Some j) weight) sets)) is.count;
  each = all_last (IsSetSaid rows columns) (λ (s : SetSaid). list_any (λ (m : MemberPart). nat_eq j m.column) s.members) (with_member (Some j) weight) (λ s none one. member_kept rows columns j weight (within j refl) fits s none one) sets new is.each;
}

-- ---- an arc

is_place : (o : Option ℕ) (i : ℕ) → is_at o i ≡ true → o ≡ Some i
is_place None i h = absurd (true≢false (sym h))
is_place (Some j) i h = ap (λ (n : ℕ). Some n) (same_number j i h)

or_nothing : (b : Bool) → (b || false) ≡ b
or_nothing true = refl
or_nothing false = refl

keeps_push : (arcs : List ArcPart) (a : ArcPart) (k : ℕ) → keeps_arc (arcs ++ a ∷ []) k ≡ (keeps_arc arcs k || (nat_eq a.column k && not (is_zero a.value)))
keeps_push arcs a k =
    list_any-append (λ (b : ArcPart). nat_eq b.column k && not (is_zero b.value)) arcs (a ∷ []) ∙ ap (λ (t : Bool). keeps_arc arcs k || t) (or_nothing (nat_eq a.column k && not (is_zero a.value)))

-- an arc that is not 0 adds its column to those with an arc, where it had none
pub arcs_counted : (arcs : List ArcPart) (a : ArcPart) (columns : ℕ) → a.column < columns
    → count_by (keeps_arc (arcs ++ a ∷ [])) (range_with_len 0 columns) ≡ count_by (keeps_arc arcs) (range_with_len 0 columns) + cond (not (is_zero a.value) && not (keeps_arc arcs a.column)) 1 0
arcs_counted arcs a columns within =
    ap (λ (q : ℕ → Bool). count_by q (range_with_len 0 columns)) (λ i k. keeps_push arcs a k i) ∙ by (is_zero a.value) (keeps_arc arcs a.column) refl
  where
    and_false_last : (t : Bool) → (t && false) ≡ false
    and_false_last true = refl
    and_false_last false = refl

    and_true_last : (t : Bool) → (t && true) ≡ t
    and_true_last true = refl
    and_true_last false = refl

    as_before : (z : Bool) → ((k : ℕ) → (keeps_arc arcs k || (nat_eq a.column k && z)) ≡ keeps_arc arcs k) → count_by (λ k. keeps_arc arcs k || (nat_eq a.column k && z)) (range_with_len 0 columns) ≡ count_by (keeps_arc arcs) (range_with_len 0 columns) + 0
    as_before z same =
        let none : count_by (keeps_arc arcs) (range_with_len 0 columns) ≡ count_by (keeps_arc arcs) (range_with_len 0 columns) + 0 = omega arith in
        ap (λ (q : ℕ → Bool). count_by q (range_with_len 0 columns)) (λ i k. same k i) ∙ none

    zero_same : (k : ℕ) → (keeps_arc arcs k || (nat_eq a.column k && false)) ≡ keeps_arc arcs k
    zero_same k = ap (λ (t : Bool). keeps_arc arcs k || t) (and_false_last (nat_eq a.column k)) ∙ or_nothing (keeps_arc arcs k)

    kept_same : keeps_arc arcs a.column ≡ true → (k : ℕ) → (keeps_arc arcs k || (nat_eq a.column k && true)) ≡ keeps_arc arcs k
    kept_same kept k = two (nat_eq a.column k) refl (keeps_arc arcs k) refl
      where
        two : (t : Bool) → nat_eq a.column k ≡ t → (s : Bool) → keeps_arc arcs k ≡ s → (s || (t && true)) ≡ s
        two t is true is2 = refl
        two false is false is2 = refl
        two true is false is2 = absurd (true≢false (sym kept ∙ (ap (keeps_arc arcs) (same_number a.column k is) ∙ is2)))

    one_more : keeps_arc arcs a.column ≡ false → count_by (λ k. keeps_arc arcs k || (nat_eq a.column k && true)) (range_with_len 0 columns) ≡ count_by (keeps_arc arcs) (range_with_len 0 columns) + 1
    one_more none =
        ap (λ (q : ℕ → Bool). count_by q (range_with_len 0 columns)) (λ i k. ap (λ (t : Bool). keeps_arc arcs k || t) (and_true_last (nat_eq a.column k)) i) ∙ count_one_more (keeps_arc arcs) a.column columns within none

    by : (z kept : Bool) → keeps_arc arcs a.column ≡ kept
        → count_by (λ k. keeps_arc arcs k || (nat_eq a.column k && not z)) (range_with_len 0 columns) ≡ count_by (keeps_arc arcs) (range_with_len 0 columns) + cond (not z && not kept) 1 0
    by true kept is = as_before false zero_same
    by false true is = as_before true (kept_same is)
    by false false is = one_more is

still_few : (b c : Bool) (n : ℕ) → (b && c && nat_le 64 n) ≡ false → n ≤ 64 → n + cond (b && c) 1 0 ≤ 64
still_few true true n room few = let fits = not_full 64 n room in omega (arith, fits)
still_few true false n room few = omega (arith, few)
still_few false c n room few = omega (arith, few)

arcs_apart : (i j : ℕ) (arcs : List ArcPart) → list_any (λ (a : ArcPart). nat_eq i a.row && nat_eq j a.column) arcs ≡ false → All (λ (a : ArcPart). a.row ≡ i → a.column ≢ j) arcs
arcs_apart i j arcs new = λ k d within rows columns.
    let a : ArcPart = get_or arcs k d in
    let none : (nat_eq i a.row && nat_eq j a.column) ≡ false = none_pass (λ (b : ArcPart). nat_eq i b.row && nat_eq j b.column) arcs new k d within in
    by (nat_eq i a.row) (nat_eq j a.column) none (λ e. other_number i a.row e (sym rows)) (λ e. other_number j a.column e (sym columns))
  where
    by : (s t : Bool) → (s && t) ≡ false → (s ≡ false → ⊥) → (t ≡ false → ⊥) → ⊥
    by true t none x y = y none
    by false t none x y = x refl

pub arcs_kept : (objective row column : Option ℕ) (columns : ℕ) (arcs : List ArcPart) (value : Decimal) → IsNumber value → not (is_some row) ≡ false → not (is_some column) ≡ false → ((j : ℕ) → column ≡ Some j → j < columns)
    → not (option_map_or (is_at objective) row false) ≡ false → list_any (λ (a : ArcPart). is_at row a.row && is_at column a.column) arcs ≡ false
    → (not (is_zero value) && option_map_or (λ j. not (keeps_arc arcs j)) column false && nat_le 64 (count_by (keeps_arc arcs) (range_with_len 0 columns))) ≡ false
    → AreArcs objective columns arcs → AreArcs objective columns (arcs ++ option_list (option_and_then (λ i. option_map (λ j. record { row = i; column = j; value = value }) column) row))
arcs_kept objective None column columns arcs value number known known2 within at new room is = absurd (true≢false known)
arcs_kept objective (Some i) None columns arcs value number known known2 within at new room is = absurd (true≢false known2)
arcs_kept objective (Some i) (Some j) columns arcs value number known known2 within at new room is =
    let added : ArcPart = record { row = i; column = j; value = value } in
    record {
      each = All-push (IsArcSaid objective columns) arcs added is.each (record { row_place = is_place objective i (not_true (is_at objective i) at); place = within j refl; number = number });
      distinct = all_pairs_push (λ (a : ArcPart) (b : ArcPart). a.row ≡ b.row → a.column ≢ b.column) arcs added is.distinct (arcs_apart i j arcs new);
      count = subst (λ n. n ≤ 64) (sym (arcs_counted arcs added columns (within j refl))) (still_few (not (is_zero value)) (not (keeps_arc arcs j)) (count_by (keeps_arc arcs) (range_with_len 0 columns)) room is.count);
    }
