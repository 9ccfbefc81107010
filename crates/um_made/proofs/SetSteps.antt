-- Members with their weights.
use Rattle.std.proofs.Common.{◌≡◌, ◌⊎◌, inl, inr, ℕ, ◌+◌, ◌<◌, ◌≤◌, Bool, true, false, not, nat_le, nat_lt, ◌^◌, ◌*◌, ℤ, pos, unsigned_abs, List, [], ◌∷◌, ◌++◌, map, flat_map, nat_eq, length, get_or, take, drop, slice_get, zero, suc, Option, None, Some, unwrap_or, refl, sym, ap, ◌∙◌, subst, arith, if◌then◌else◌}
use Rattle.std.specs.List.{list_any}
use Rattle.std.specs.Option.{ForSome, option_map_or}
use Rattle.std.proofs.lemmas.Option.{slice_get-get_or}
use Rattle.um_statements.specs.declared.fault.Fault.TheVariants.{Memory}
use Rattle.std.proofs.lemmas.Bool.Decides.{nat_tests}
use Rattle.std.proofs.lemmas.List.{map-append}
use Rattle.um_num.specs.declared.decimal.Decimal.{Decimal}
use Rattle.um_model.specs.WellFormed.{IsWithin}
use Rattle.um_model.specs.declared.deck.Member.{Member}
use Rattle.um_statements.specs.declared.parts.MemberPart.{MemberPart}
use Rattle.um_statements.specs.Said.{Said, ColumnSaid, SetSaid}
use Rattle.um_statements.specs.Scaled.{times_ten, least_scale}
use Rattle.um_statements.specs.CallRules.{first_fault}
use Rattle.um_num.specs.Listed.{Listed}
use Rattle.um_statements.specs.declared.fault.Fault.{Fault}
use Rattle.um_statements.specs.declared.fault.Fault.TheVariants.{TooFine, TooLarge, EmptySet, TwiceWeight}
use Rattle.um_statements.specs.Statements.{Name}
use Rattle.um_made.specs.declared.parts.SetPart.{SetPart}
use Rattle.um_made.specs.Views.{set_said}
use Rattle.um_statements.specs.Made.{weight_of, members_of, by_weight, entry_in, nothing, coefficients}
use Rattle.um_statements.specs.DeckRules.{is_above, set_rules, has_twice}
use Rattle.um_statements.proofs.Tests.{scaled_zero}
use Rattle.um_made.specs.declared.numbers.RowNumbers.{RowNumbers}
use Rattle.um_made.specs.RowWords.{AreNumbers}
use Rattle.um_made.specs.SetWords.{has_large_weight, numbers_at, AreMembersOf}
use Rattle.um_made.proofs.Walks.{rest_more, mapped_taken, mapped_rest, any_mapped, first_of_both, first_of_first}

abbrev pub weighted_member : Said → SetSaid → MemberPart → Member
weighted_member said s m = record { column = m.column; weight = weight_of said s m }

abbrev pub is_large_member : Said → SetSaid → MemberPart → Bool
is_large_member said s m = is_above (2 ^ 31 * 10 ^ 6) (Some (weight_of said s m))

-- the weight, where it is not too large
abbrev pub weight_within : ℤ → Option ℤ
weight_within w = if nat_le (unsigned_abs w) (2 ^ 31 * 10 ^ 6) then Some w else None

pub none_within : (w : ℤ) → weight_within w ≡ None → is_above (2 ^ 31 * 10 ^ 6) (Some w) ≡ true
none_within w is = by (nat_le (unsigned_abs w) (2 ^ 31 * 10 ^ 6)) is
  where
    by : (b : Bool) → (if b then Some w else None) ≡ None → not b ≡ true
    by true is = cc
    by false is = refl

pub some_within : (w z : ℤ) → weight_within w ≡ Some z → (is_above (2 ^ 31 * 10 ^ 6) (Some w) ≡ false) × (w ≡ z)
some_within w z is = by (nat_le (unsigned_abs w) (2 ^ 31 * 10 ^ 6)) is
  where
    by : (b : Bool) → (if b then Some w else None) ≡ Some z → (not b ≡ false) × (w ≡ z)
    by true is = (refl, cc)
    by false is = cc

is_within : (w : ℤ) → unsigned_abs w ≤ 2 ^ 31 * 10 ^ 6 → weight_within w ≡ Some w
is_within w h = let fits : nat_le (unsigned_abs w) (2 ^ 31 * 10 ^ 6) ≡ true = grind (arith, nat_tests) in rw fits refl

-- ---- one weight

-- its own
pub own_weight : (said : Said) (s : SetSaid) (m : MemberPart) → s.reference ≡ None → ForSome m.weight (IsWithin (2 ^ 31 * 10 ^ 6)) → Some (unwrap_or m.weight (pos 0)) ≡ weight_within (weight_of said s m)
own_weight said s m none size = rw none (sym (is_within (unwrap_or m.weight (pos 0)) (by m.weight size)))
  where
    by : (o : Option ℤ) → ForSome o (IsWithin (2 ^ 31 * 10 ^ 6)) → unsigned_abs (unwrap_or o (pos 0)) ≤ 2 ^ 31 * 10 ^ 6
    by None size = omega arith
    by (Some z) size = size z refl

pub slice_at : {X Y : Type 0} (f : X → Y) (xs : List X) (i : ℕ) (d : X) → i < length xs → slice_get (map f xs) i ≡ Some (f (get_or xs i d))
slice_at f [] i d within = absurd (omega (arith, within))
slice_at f (x ∷ xs) zero d within = refl
slice_at f (x ∷ xs) (suc i) d within = slice_at f xs i d (omega (arith, within))

-- what its column has in the reference row
pub row_weight : (said : Said) (s : SetSaid) (m : MemberPart) (place : ℕ) (c : ColumnSaid) → s.reference ≡ Some place → slice_get said.columns m.column ≡ Some c → weight_of said s m ≡ times_ten (unwrap_or (entry_in place c) nothing) 6
row_weight said s m place c some there = rw (some, there) refl

pub zero_weight : (said : Said) (s : SetSaid) (m : MemberPart) (place : ℕ) (c : ColumnSaid) → s.reference ≡ Some place → slice_get said.columns m.column ≡ Some c → entry_in place c ≡ None → Some (pos 0) ≡ weight_within (weight_of said s m)
zero_weight said s m place c some there none =
    let is : weight_of said s m ≡ pos 0 = row_weight said s m place c some there ∙ (ap (λ o. times_ten (unwrap_or o nothing) 6) none ∙ scaled_zero 6) in
    sym (ap weight_within is)

pub found_weight : (said : Said) (s : SetSaid) (m : MemberPart) (place : ℕ) (c : ColumnSaid) (v : Decimal) → s.reference ≡ Some place → slice_get said.columns m.column ≡ Some c → entry_in place c ≡ Some v → weight_of said s m ≡ times_ten v 6
found_weight said s m place c v some there is = row_weight said s m place c some there ∙ ap (λ o. times_ten (unwrap_or o nothing) 6) is

-- ---- a walk over the members

pub large_is : (said : Said) (s : SetSaid) → has_large_weight said s ≡ list_any (is_large_member said s) s.members
large_is said s = any_mapped (λ (w : ℤ). is_above (2 ^ 31 * 10 ^ 6) (Some w)) (weight_of said s) s.members

pub large_here : (said : Said) (s : SetSaid) (ms : List MemberPart) (i : ℕ) (d : MemberPart) → i < length ms → is_large_member said s (get_or ms i d) ≡ true → list_any (is_large_member said s) (drop i ms) ≡ true
large_here said s ms i d within h = rw (rest_more ms i d within) (rw h refl)

pub large_later : (said : Said) (s : SetSaid) (ms : List MemberPart) (i : ℕ) (d : MemberPart) → i < length ms → is_large_member said s (get_or ms i d) ≡ false → list_any (is_large_member said s) (drop i ms) ≡ list_any (is_large_member said s) (drop (i + 1) ms)
large_later said s ms i d within h = rw (rest_more ms i d within) (rw h refl)

-- ---- a walk over the sets

pub members_push : (said : Said) (xs : List SetSaid) (left : List (Listed Member)) (x : SetSaid) (m : Listed Member) → AreMembersOf said xs left → m.items ≡ by_weight (members_of said x) → AreMembersOf said (xs ++ x ∷ []) (left ++ m ∷ [])
members_push said xs left x m before one =
    map-append (λ (l : Listed Member). l.items) left (m ∷ [])
    ∙ (ap (λ (ls : List (List Member)). ls ++ m.items ∷ []) before
    ∙ (ap (λ (l : List Member). map (λ (s : SetSaid). by_weight (members_of said s)) xs ++ l ∷ []) one ∙ sym (map-append (λ (s : SetSaid). by_weight (members_of said s)) xs (x ∷ []))))

module _ (said : Said) (sets : List (Name × SetPart)) (i : ℕ) (x : Name × SetPart) (within : i < length sets) (is : x ≡ get_or sets i x) where
  set_left : map set_said (drop i sets) ≡ set_said x ∷ map set_said (drop (i + 1) sets)
  set_left = mapped_rest set_said sets i x within ∙ ap (λ (y : Name × SetPart). set_said y ∷ map set_said (drop (i + 1) sets)) (sym is)

  pub set_broken_here : (f : Fault) → first_fault (set_rules said (set_said x)) ≡ Some f → first_fault (flat_map (set_rules said) (map set_said (drop i sets))) ≡ Some f
  set_broken_here f broken = ap (λ ss. first_fault (flat_map (set_rules said) ss)) set_left ∙ first_of_first (set_rules said (set_said x)) (flat_map (set_rules said) (map set_said (drop (i + 1) sets))) f broken

  pub set_fine_here : first_fault (set_rules said (set_said x)) ≡ None → first_fault (flat_map (set_rules said) (map set_said (drop i sets))) ≡ first_fault (flat_map (set_rules said) (map set_said (drop (i + 1) sets)))
  set_fine_here fine = ap (λ ss. first_fault (flat_map (set_rules said) ss)) set_left ∙ first_of_both (set_rules said (set_said x)) (flat_map (set_rules said) (map set_said (drop (i + 1) sets))) fine

  pub set_made_here : (left : List (Listed Member)) (m : Listed Member) → AreMembersOf said (map set_said (take i sets)) left → m.items ≡ by_weight (members_of said (set_said x)) → AreMembersOf said (map set_said (take (i + 1) sets)) (left ++ m ∷ [])
  set_made_here left m before one =
      rw (mapped_taken set_said sets i x within) (members_push said (map set_said (take i sets)) left (set_said (get_or sets i x)) m before (one ∙ ap (λ (y : Name × SetPart). by_weight (members_of said (set_said y))) is))

-- ---- the rules of one set

module _ (a b c d : Bool) where
  four_large : a ≡ false → b ≡ true → first_fault ((a, TooFine) ∷ (b, TooLarge) ∷ (c, EmptySet) ∷ (d, TwiceWeight) ∷ []) ≡ Some TooLarge
  four_large e f = rw (e, f) refl

  four_empty : a ≡ false → b ≡ false → c ≡ true → first_fault ((a, TooFine) ∷ (b, TooLarge) ∷ (c, EmptySet) ∷ (d, TwiceWeight) ∷ []) ≡ Some EmptySet
  four_empty e f g = rw (e, f, g) refl

  four_twice : a ≡ false → b ≡ false → c ≡ false → d ≡ true → first_fault ((a, TooFine) ∷ (b, TooLarge) ∷ (c, EmptySet) ∷ (d, TwiceWeight) ∷ []) ≡ Some TwiceWeight
  four_twice e f g h = rw (e, f, g, h) refl

  four_none : a ≡ false → b ≡ false → c ≡ false → d ≡ false → first_fault ((a, TooFine) ∷ (b, TooLarge) ∷ (c, EmptySet) ∷ (d, TwiceWeight) ∷ []) ≡ None
  four_none e f g h = rw (e, f, g, h) refl

module _ (said : Said) (s : SetSaid) where
  abbrev pub is_fine : Bool
  is_fine = option_map_or (λ place. nat_lt 6 (least_scale (coefficients said place))) s.reference false

  abbrev is_none : Bool
  is_none = nat_eq (length s.members) 0

  abbrev is_twice : Bool
  is_twice = has_twice (map (weight_of said s) s.members)

  pub set_too_fine : is_fine ≡ true → first_fault (set_rules said s) ≡ Some TooFine
  set_too_fine e = rw e refl

  pub set_too_large : is_fine ≡ false → has_large_weight said s ≡ true → first_fault (set_rules said s) ≡ Some TooLarge
  set_too_large e f = four_large is_fine (has_large_weight said s) is_none is_twice e f

  pub set_empty : is_fine ≡ false → has_large_weight said s ≡ false → nat_eq (length s.members) 0 ≡ true → first_fault (set_rules said s) ≡ Some EmptySet
  set_empty e f g = four_empty is_fine (has_large_weight said s) is_none is_twice e f g

  pub set_twice : is_fine ≡ false → has_large_weight said s ≡ false → nat_eq (length s.members) 0 ≡ false → has_twice (map (weight_of said s) s.members) ≡ true → first_fault (set_rules said s) ≡ Some TwiceWeight
  set_twice e f g h = four_twice is_fine (has_large_weight said s) is_none is_twice e f g h

  pub set_fine : is_fine ≡ false → has_large_weight said s ≡ false → nat_eq (length s.members) 0 ≡ false → has_twice (map (weight_of said s) s.members) ≡ false → first_fault (set_rules said s) ≡ None
  set_fine e f g h = four_none is_fine (has_large_weight said s) is_none is_twice e f g h

  pub weights_refused : (f : Fault) → is_fine ≡ false → (f ≡ Memory) ⊎ ((f ≡ TooLarge) × (has_large_weight said s ≡ true)) → (f ≡ Memory) ⊎ (first_fault (set_rules said s) ≡ Some f)
  weights_refused f e (inl memory) = inl memory
  weights_refused f e (inr large) = inr (set_too_large e large.1 ∙ ap (λ (g : Fault). Some g) (sym large.0))

-- ---- reference rows

abbrev no_row : RowNumbers
no_row = record { coefficients = record { items = []; spare = 0 }; arcs = record { items = []; spare = 0 } }

pub same_fine : (said : Said) (rows : List RowNumbers) → AreNumbers said rows → (reference : Option ℕ) → ForSome reference (λ place. place < length rows)
    → option_map_or (λ place. nat_lt 6 (least_scale (numbers_at rows place))) reference false ≡ option_map_or (λ place. nat_lt 6 (least_scale (coefficients said place))) reference false
same_fine said rows are None within = refl
same_fine said rows are (Some place) within =
    let there : numbers_at rows place ≡ coefficients said place = ap (λ (o : Option RowNumbers). option_map_or (λ (r : RowNumbers). r.coefficients.items) o []) (slice_get-get_or rows place no_row (within place refl)) ∙ are.coefficients_there place no_row (within place refl) in
    ap (λ (vs : List Decimal). nat_lt 6 (least_scale vs)) there

not_above : (n : ℕ) → nat_lt 6 n ≡ false → n ≤ 6
not_above n h = grind (arith, nat_tests)

pub fine_reference : (said : Said) (reference : Option ℕ) → option_map_or (λ place. nat_lt 6 (least_scale (coefficients said place))) reference false ≡ false → ForSome reference (λ place. least_scale (coefficients said place) ≤ 6)
fine_reference said None fine = λ place e. cc
fine_reference said (Some place) fine = λ k e. let same : place ≡ k = cc in subst (λ j. least_scale (coefficients said j) ≤ 6) same (not_above (least_scale (coefficients said place)) fine)

pub none_empty : {X : Type 0} (xs : List X) → xs ≡ [] → nat_eq (length xs) 0 ≡ true
none_empty xs e = rw e refl

pub some_not_empty : {X : Type 0} (xs : List X) → (xs ≡ [] → ⊥) → nat_eq (length xs) 0 ≡ false
some_not_empty [] h = absurd (h refl)
some_not_empty (x ∷ xs) h = grind (arith, nat_tests)

-- weights are those of the members as they were told
pub weights_are : (said : Said) (s : SetSaid) → map (λ (m : Member). m.weight) (members_of said s) ≡ map (weight_of said s) s.members
weights_are said s = by s.members
  where
    by : (ms : List MemberPart) → map (λ (m : Member). m.weight) (map (weighted_member said s) ms) ≡ map (weight_of said s) ms
    by [] = refl
    by (m ∷ ms) = ap (λ (zs : List ℤ). weight_of said s m ∷ zs) (by ms)

-- what stands in for a member past the end of a list
abbrev pub no_member : MemberPart
no_member = record { column = 0; weight = None }
