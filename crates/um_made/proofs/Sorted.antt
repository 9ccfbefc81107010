-- Members sorted by weight: there is one such order.
use Rattle.std.proofs.Common.{◌≡◌, ◌≢◌, ◌⊎◌, inl, inr, ℕ, zero, suc, ◌+◌, ◌<◌, Bool, true, false, ◌&&◌, ℤ, ◌<ℤ◌, ◌≤ℤ◌, int_lt, int_le, List, [], ◌∷◌, map, length, get_or, All, AllPairs, None, Some, refl, sym, ap, ◌∙◌, subst, true≢false, arith, if◌then◌else◌}
use Rattle.std.specs.List.{list_any, Contains}
use Rattle.std.specs.List.Sorted.{IsPermutation, IsSortedByKey}
use Rattle.std.specs.Ordering.{is_lt, int_cmp}
use Rattle.std.proofs.Common.{Less as Before, Greater as After, Equal as Tie, cond}
use Rattle.std.proofs.lemmas.Int.{ints}
use Rattle.std.proofs.lemmas.Bool.Decides.{nat_tests}
use Rattle.std.proofs.lemmas.List.Elements.{All-nil, All-cons, All-head, All-tail, All-contains}
use Rattle.std.proofs.lemmas.List.Kept.{AllPairs-cons}
use Rattle.std.proofs.lemmas.List.Sorted.{IsPermutation-refl, IsPermutation-sym, IsPermutation-cons, IsPermutation-trans, IsPermutation-middle, Contains-permutation}
use Rattle.std.proofs.lemmas.Map.Keys.{IsDistinct-from_apart, apart_from_distinct, IsDistinct-IsPermutation}
use Rattle.um_model.specs.declared.deck.Member.{Member}
use Rattle.um_statements.specs.Made.{put_by_weight, by_weight}
use Rattle.um_statements.specs.DeckRules.{has_twice}
use Rattle.um_statements.proofs.ListFacts.{pairs_none, pairs_head, pairs_tail, pairs_map, pairs_unmapped}
use Rattle.um_statements.proofs.ByWeight.{weights_rise, all_apart}
use Rattle.um_statements.proofs.Tests.{or_false}
use Rattle.um_made.specs.SetWords.{has_twice_behind}

abbrev Less : Member → Member → Type 0
Less a b = a.weight <ℤ b.weight

abbrev pub Apart : Member → Member → Type 0
Apart a b = a.weight ≢ b.weight

-- ---- elements

cons_cases : (y : Member) (ys : List Member) (z : Member) → Contains (y ∷ ys) z → (y ≡ z) ⊎ Contains ys z
cons_cases y ys z (zero, within, is) = inl is
cons_cases y ys z (suc k, within, is) = inr (k, omega (arith, within), is)

cons_here : (y : Member) (ys : List Member) → Contains (y ∷ ys) y
cons_here y ys = (zero, omega arith, refl)

cons_there : (y : Member) (ys : List Member) (z : Member) → Contains ys z → Contains (y ∷ ys) z
cons_there y ys z (k, within, is) = (suc k, omega (arith, within), is)

none_there : (z : Member) → Contains [] z → ⊥
none_there z (k, within, is) = omega (arith, within)

-- ---- one rising order

not_both : (a b : ℤ) → a <ℤ b → b <ℤ a → ⊥
not_both a b x y = omega (arith, ints, x, y)

same_head : (x y : Member) (xs ys : List Member) → AllPairs Less (x ∷ xs) → AllPairs Less (y ∷ ys) → Contains (y ∷ ys) x → Contains (x ∷ xs) y → x ≡ y
same_head x y xs ys rise other there back = by (cons_cases y ys x there) (cons_cases x xs y back)
  where
    by : (y ≡ x) ⊎ Contains ys x → (x ≡ y) ⊎ Contains xs y → x ≡ y
    by (inl e) h = sym e
    by (inr inside) (inl e) = e
    by (inr inside) (inr within) = absurd (not_both x.weight y.weight (All-contains (Less x) xs y (pairs_head Less x xs rise) within) (All-contains (Less y) ys x (pairs_head Less y ys other) inside))

rest_there : (x y : Member) (xs ys : List Member) → x ≡ y → AllPairs Less (x ∷ xs) → ((z : Member) → Contains (x ∷ xs) z → Contains (y ∷ ys) z) → (z : Member) → Contains xs z → Contains ys z
rest_there x y xs ys same rise there z inside = by (cons_cases y ys z (there z (cons_there x xs z inside)))
  where
    by : (y ≡ z) ⊎ Contains ys z → Contains ys z
    by (inl e) =
        let less : x.weight <ℤ z.weight = All-contains (Less x) xs z (pairs_head Less x xs rise) inside in
        let equal : x.weight ≡ z.weight = ap (λ (m : Member). m.weight) (same ∙ e) in
        absurd (omega (arith, ints, less, equal))
    by (inr found) = found

rising_same : (xs ys : List Member) → AllPairs Less xs → AllPairs Less ys → ((z : Member) → Contains xs z → Contains ys z) → ((z : Member) → Contains ys z → Contains xs z) → xs ≡ ys
rising_same [] [] rise other there back = refl
rising_same [] (y ∷ ys) rise other there back = absurd (none_there y (back y (cons_here y ys)))
rising_same (x ∷ xs) [] rise other there back = absurd (none_there x (there x (cons_here x xs)))
rising_same (x ∷ xs) (y ∷ ys) rise other there back =
    let same : x ≡ y = same_head x y xs ys rise other (there x (cons_here x xs)) (back y (cons_here y ys)) in
    let rest : xs ≡ ys = rising_same xs ys (pairs_tail Less x xs rise) (pairs_tail Less y ys other) (rest_there x y xs ys same rise there) (rest_there y x ys xs (sym same) other back) in
    cc

-- ---- the sort of the definition keeps the members

put_moves : (m : Member) (xs : List Member) → IsPermutation (m ∷ xs) (put_by_weight m xs)
put_moves m [] = IsPermutation-refl (m ∷ [])
put_moves m (x ∷ xs) = by (int_lt m.weight x.weight) (put_moves m xs)
  where
    by : (b : Bool) → IsPermutation (m ∷ xs) (put_by_weight m xs) → IsPermutation (m ∷ x ∷ xs) (if b then m ∷ x ∷ xs else x ∷ put_by_weight m xs)
    by true more = IsPermutation-refl (m ∷ x ∷ xs)
    by false more = IsPermutation-trans (m ∷ x ∷ xs) (x ∷ m ∷ xs) (x ∷ put_by_weight m xs) (IsPermutation-middle (m ∷ []) x xs) (IsPermutation-cons x (m ∷ xs) (put_by_weight m xs) more)

sort_moves : (ms : List Member) → IsPermutation ms (by_weight ms)
sort_moves [] = IsPermutation-refl []
sort_moves (m ∷ ms) = IsPermutation-trans (m ∷ ms) (m ∷ by_weight ms) (by_weight (m ∷ ms)) (IsPermutation-cons m ms (by_weight ms) (sort_moves ms)) (put_moves m (by_weight ms))

-- ---- neighbours

less_from : (a b : ℤ) → a ≤ℤ b → (int_le a b && int_le b a) ≡ false → a <ℤ b
less_from a b le h = grind (arith, ints, nat_tests)

at_most_from : (a b : ℤ) → int_lt b a ≡ false → a ≤ℤ b
at_most_from a b h = grind (arith, ints, nat_tests)

less_trans : (a b c : ℤ) → a <ℤ b → b <ℤ c → a <ℤ c
less_trans a b c x y = omega (arith, ints, x, y)

-- no weight is below the one before it
abbrev pub Rises : List Member → Type 0
Rises ms = (k : ℕ) (d : Member) → k + 1 < length ms → (get_or ms k d).weight ≤ℤ (get_or ms (k + 1) d).weight

rises_tail : (m : Member) (ms : List Member) → Rises (m ∷ ms) → Rises ms
rises_tail m ms h = λ k d within.
    let next : suc k + 1 ≡ suc (k + 1) = omega arith in
    subst (λ n. (get_or ms k d).weight ≤ℤ (get_or (m ∷ ms) n d).weight) next (h (suc k) d (omega (arith, within)))

rising : (m : Member) (ms : List Member) → Rises (m ∷ ms) → has_twice_behind (Some m.weight) ms ≡ false → AllPairs Less (m ∷ ms)
rising m [] up once = AllPairs-cons Less m [] (All-nil (Less m)) (pairs_none Less)
rising m (n ∷ ms) up once =
    let both = or_false (int_le m.weight n.weight && int_le n.weight m.weight) (has_twice_behind (Some n.weight) ms) once in
    let rest : AllPairs Less (n ∷ ms) = rising n ms (rises_tail m (n ∷ ms) up) both.1 in
    let le : m.weight ≤ℤ n.weight = up 0 m (omega arith) in
    let first : m.weight <ℤ n.weight = less_from m.weight n.weight le both.0 in
    AllPairs-cons Less m (n ∷ ms) (All-cons (Less m) n ms first (λ k d within. less_trans _ _ _ first (pairs_head Less n ms rest k d within))) rest

all_rising : (ms : List Member) → Rises ms → has_twice_behind None ms ≡ false → AllPairs Less ms
all_rising [] up once = pairs_none Less
all_rising (m ∷ ms) up once = rising m ms up once

-- ---- no weight twice, before and after a sort

apart_cases : (a b : ℤ) → a ≢ b → (int_le a b && int_le b a) ≡ false
apart_cases a b apart = grind (arith, ints, nat_tests)

no_twice_behind : (m : Member) (ms : List Member) → AllPairs Apart (m ∷ ms) → has_twice_behind (Some m.weight) ms ≡ false
no_twice_behind m [] apart = refl
no_twice_behind m (n ∷ ms) apart =
    rw (apart_cases m.weight n.weight (All-head (Apart m) n ms (pairs_head Apart m (n ∷ ms) apart))) (no_twice_behind n ms (pairs_tail Apart m (n ∷ ms) apart))

no_twice_beside : (ms : List Member) → AllPairs Apart ms → has_twice_behind None ms ≡ false
no_twice_beside [] apart = refl
no_twice_beside (m ∷ ms) apart = no_twice_behind m ms apart

none_same : (z : ℤ) (zs : List ℤ) → All (λ (y : ℤ). z ≢ y) zs → list_any (λ (y : ℤ). int_le y z && int_le z y) zs ≡ false
none_same z [] apart = refl
none_same z (y ∷ ys) apart =
    rw (apart_cases y z (λ e. All-head (λ (x : ℤ). z ≢ x) y ys apart (sym e))) (none_same z ys (All-tail (λ (x : ℤ). z ≢ x) y ys apart))

no_twice : (zs : List ℤ) → AllPairs (λ (a : ℤ) (b : ℤ). a ≢ b) zs → has_twice zs ≡ false
no_twice [] apart = refl
no_twice (z ∷ zs) apart = rw (none_same z zs (pairs_head (λ (a : ℤ) (b : ℤ). a ≢ b) z zs apart)) (no_twice zs (pairs_tail (λ (a : ℤ) (b : ℤ). a ≢ b) z zs apart))

-- two weights are one
abbrev same_weight : Member → Member → Bool
same_weight a b = int_le a.weight b.weight && int_le b.weight a.weight

weights_apart : (a b : Member) → same_weight a b ≡ false → Apart a b
weights_apart a b h e = true≢false (sym (at_self b.weight) ∙ (ap (λ (z : ℤ). int_le z b.weight && int_le b.weight z) (sym e) ∙ h))
  where
    at_self : (z : ℤ) → (int_le z z && int_le z z) ≡ true
    at_self z = grind (arith, ints, nat_tests)

flips : (a b : Member) → same_weight a b ≡ same_weight b a
flips a b = by (int_le a.weight b.weight) (int_le b.weight a.weight)
  where
    by : (x y : Bool) → (x && y) ≡ (y && x)
    by true true = refl
    by true false = refl
    by false true = refl
    by false false = refl

-- what stands apart does so in any order
moved_apart : (xs ys : List Member) → IsPermutation xs ys → AllPairs Apart xs → AllPairs Apart ys
moved_apart xs ys moves apart =
    let distinct = IsDistinct-IsPermutation same_weight flips xs ys moves (IsDistinct-from_apart same_weight xs (λ i j d less within. apart_cases (get_or xs i d).weight (get_or xs j d).weight (apart i j d less within))) in
    λ i j d less within. weights_apart (get_or ys i d) (get_or ys j d) (apart_from_distinct same_weight ys i j d distinct less within)

less_apart : (ms : List Member) → AllPairs Less ms → AllPairs Apart ms
less_apart ms up = λ i j d less within e. let below = up i j d less within in omega (arith, ints, below, e)

-- ---- the two ends of a sort: `sorted` are the members `ms` in the order of their weights

pub sorted_once : (ms sorted : List Member) → IsPermutation ms sorted → Rises sorted → has_twice_behind None sorted ≡ false → sorted ≡ by_weight ms
sorted_once ms sorted moves up once =
    let strict : AllPairs Less sorted = all_rising sorted up once in
    let apart : AllPairs Apart ms = moved_apart sorted ms (IsPermutation-sym ms sorted moves) (less_apart sorted strict) in
    rising_same sorted (by_weight ms) strict (weights_rise ms apart)
    (λ z inside. Contains-permutation ms (by_weight ms) z (sort_moves ms) (Contains-permutation sorted ms z (IsPermutation-sym ms sorted moves) inside))
    (λ z inside. Contains-permutation ms sorted z moves (Contains-permutation (by_weight ms) ms z (IsPermutation-sym ms (by_weight ms) (sort_moves ms)) inside))

pub weights_once : (ms sorted : List Member) → IsPermutation ms sorted → Rises sorted → has_twice_behind None sorted ≡ false → has_twice (map (λ (m : Member). m.weight) ms) ≡ false
weights_once ms sorted moves up once =
    no_twice (map (λ (m : Member). m.weight) ms)
    (pairs_map (λ (a : ℤ) (b : ℤ). a ≢ b) (λ (m : Member). m.weight) ms (moved_apart sorted ms (IsPermutation-sym ms sorted moves) (less_apart sorted (all_rising sorted up once))))

pub weights_twice : (ms sorted : List Member) → IsPermutation ms sorted → has_twice_behind None sorted ≡ true → has_twice (map (λ (m : Member). m.weight) ms) ≡ true
weights_twice ms sorted moves twice = by (has_twice (map (λ (m : Member). m.weight) ms)) refl
  where
    by : (b : Bool) → has_twice (map (λ (m : Member). m.weight) ms) ≡ b → b ≡ true
    by true is = refl
    by false is =
        let apart : AllPairs Apart ms = pairs_unmapped (λ (a : ℤ) (b : ℤ). a ≢ b) (λ (m : Member). m.weight) ms (all_apart (map (λ (m : Member). m.weight) ms) is) in
        sym (no_twice_beside sorted (moved_apart ms sorted moves apart)) ∙ twice

-- ---- what a sort by weight ensures

not_before : (a b : ℤ) → is_lt (int_cmp a b) ≡ false → b ≤ℤ a
not_before a b h = by (int_lt a b) refl h
  where
    by : (t : Bool) → int_lt a b ≡ t → is_lt (cond t Before (cond (int_lt b a) After Tie)) ≡ false → b ≤ℤ a
    by true is h = absurd (true≢false h)
    by false is h = at_most_from b a is

pub rises_from : (ms : List Member) → IsSortedByKey (λ (m : Member). m.weight) int_cmp ms → Rises ms
rises_from ms up = λ k d within. not_before (get_or ms (k + 1) d).weight (get_or ms k d).weight (up k d (omega arith) within)
