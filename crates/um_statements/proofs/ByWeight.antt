-- Members sorted by weight.
use Rattle.std.proofs.Common.{◌≡◌, ◌≢◌, suc, Bool, true, false, ◌&&◌, ℤ, ◌≤ℤ◌, ◌<ℤ◌, int_lt, int_le, List, [], ◌∷◌, length, All, AllPairs, refl, sym, ap, ◌∙◌, true≢false, arith, if◌then◌else◌}
use Rattle.std.specs.List.{list_any}
use Rattle.std.proofs.lemmas.Int.{ints}
use Rattle.std.proofs.lemmas.Bool.Decides.{nat_tests}
use Rattle.std.proofs.lemmas.List.Elements.{All-nil, All-cons, All-head, All-tail}
use Rattle.std.proofs.lemmas.List.Kept.{AllPairs-cons}
use Rattle.um_model.specs.declared.deck.Member.{Member}
use Rattle.um_statements.specs.Made.{put_by_weight, by_weight}
use Rattle.um_statements.specs.DeckRules.{has_twice}
use Rattle.um_statements.proofs.ListFacts.{pairs_none, pairs_head, pairs_tail, none_pass}
use Rattle.um_statements.proofs.Tests.{or_false}

module _ (P : Member → Type 0) where
  all_put : (m : Member) (xs : List Member) → P m → All P xs → All P (put_by_weight m xs)
  all_put m [] one all = All-cons P m [] one (All-nil P)
  all_put m (x ∷ xs) one all = by (int_lt m.weight x.weight) (all_put m xs one (All-tail P x xs all))
    where
      by : (b : Bool) → All P (put_by_weight m xs) → All P (if b then m ∷ x ∷ xs else x ∷ put_by_weight m xs)
      by true more = All-cons P m (x ∷ xs) one all
      by false more = All-cons P x (put_by_weight m xs) (All-head P x xs all) more

  pub all_sorted : (ms : List Member) → All P ms → All P (by_weight ms)
  all_sorted [] all = all
  all_sorted (m ∷ ms) all = all_put m (by_weight ms) (All-head P m ms all) (all_sorted ms (All-tail P m ms all))

module _ (R : Member → Member → Type 0) (turn : (a b : Member) → R a b → R b a) where
  pairs_put : (m : Member) (xs : List Member) → All (R m) xs → AllPairs R xs → AllPairs R (put_by_weight m xs)
  pairs_put m [] one all = AllPairs-cons R m [] one all
  pairs_put m (x ∷ xs) one all = by (int_lt m.weight x.weight) (pairs_put m xs (All-tail (R m) x xs one) (pairs_tail R x xs all))
    where
      by : (b : Bool) → AllPairs R (put_by_weight m xs) → AllPairs R (if b then m ∷ x ∷ xs else x ∷ put_by_weight m xs)
      by true more = AllPairs-cons R m (x ∷ xs) one all
      by false more = AllPairs-cons R x (put_by_weight m xs) (all_put (R x) m xs (turn m x (All-head (R m) x xs one)) (pairs_head R x xs all)) more

  pub pairs_sorted : (ms : List Member) → AllPairs R ms → AllPairs R (by_weight ms)
  pairs_sorted [] all = all
  pairs_sorted (m ∷ ms) all = pairs_put m (by_weight ms) (all_sorted (R m) ms (pairs_head R m ms all)) (pairs_sorted ms (pairs_tail R m ms all))

-- ---- weights rise

abbrev Less : Member → Member → Type 0
Less a b = a.weight <ℤ b.weight

less_is : (a b : ℤ) → int_lt a b ≡ true → a <ℤ b
less_is a b h = grind (arith, ints, nat_tests)

not_less : (a b : ℤ) → int_lt a b ≡ false → b ≤ℤ a
not_less a b h = grind (arith, ints, nat_tests)

apart_less : (a b : ℤ) → b ≤ℤ a → a ≢ b → b <ℤ a
apart_less a b le apart = omega (arith, ints, le, apart)

less_trans : (a b c : ℤ) → a <ℤ b → b <ℤ c → a <ℤ c
less_trans a b c x y = omega (arith, ints, x, y)

rising_put : (m : Member) (xs : List Member) → All (λ (x : Member). m.weight ≢ x.weight) xs → AllPairs Less xs → AllPairs Less (put_by_weight m xs)
rising_put m [] one all = AllPairs-cons Less m [] (All-nil (Less m)) all
rising_put m (x ∷ xs) one all = by (int_lt m.weight x.weight) refl (rising_put m xs (All-tail (λ (y : Member). m.weight ≢ y.weight) x xs one) (pairs_tail Less x xs all))
  where
    by : (b : Bool) → int_lt m.weight x.weight ≡ b → AllPairs Less (put_by_weight m xs) → AllPairs Less (if b then m ∷ x ∷ xs else x ∷ put_by_weight m xs)
    by true is more =
        let first : m.weight <ℤ x.weight = less_is m.weight x.weight is in
        AllPairs-cons Less m (x ∷ xs) (All-cons (Less m) x xs first (λ k d within. less_trans _ _ _ first (pairs_head Less x xs all k d within))) all
    by false is more =
        AllPairs-cons Less x (put_by_weight m xs)
        (all_put (Less x) m xs (apart_less m.weight x.weight (not_less m.weight x.weight is) (All-head (λ (y : Member). m.weight ≢ y.weight) x xs one)) (pairs_head Less x xs all)) more

pub weights_rise : (ms : List Member) → AllPairs (λ (a : Member) (b : Member). a.weight ≢ b.weight) ms → AllPairs Less (by_weight ms)
weights_rise [] all = pairs_none Less
weights_rise (m ∷ ms) all =
    rising_put m (by_weight ms) (all_sorted (λ (x : Member). m.weight ≢ x.weight) ms (pairs_head (λ (a : Member) (b : Member). a.weight ≢ b.weight) m ms all))
    (weights_rise ms (pairs_tail (λ (a : Member) (b : Member). a.weight ≢ b.weight) m ms all))

-- ---- how many

length_put : (m : Member) (xs : List Member) → length (put_by_weight m xs) ≡ suc (length xs)
length_put m [] = refl
length_put m (x ∷ xs) = by (int_lt m.weight x.weight) (length_put m xs)
  where
    by : (b : Bool) → length (put_by_weight m xs) ≡ suc (length xs) → length (if b then m ∷ x ∷ xs else x ∷ put_by_weight m xs) ≡ suc (suc (length xs))
    by true more = refl
    by false more = ap suc more

pub length_sorted : (ms : List Member) → length (by_weight ms) ≡ length ms
length_sorted [] = refl
length_sorted (m ∷ ms) = length_put m (by_weight ms) ∙ ap suc (length_sorted ms)

-- ---- no weight twice

self_within : (z : ℤ) → int_le z z ≡ true
self_within z = grind (arith, ints, nat_tests)

pub all_apart : (zs : List ℤ) → has_twice zs ≡ false → AllPairs (λ (a : ℤ) (b : ℤ). a ≢ b) zs
all_apart [] h = pairs_none (λ (a : ℤ) (b : ℤ). a ≢ b)
all_apart (z ∷ zs) h =
    let both = or_false (list_any (λ (y : ℤ). int_le y z && int_le z y) zs) (has_twice zs) h in
    let none = none_pass (λ (y : ℤ). int_le y z && int_le z y) zs both.0 in
    AllPairs-cons (λ (a : ℤ) (b : ℤ). a ≢ b) z zs
    (λ k d within same. true≢false (sym (at_self z) ∙ (ap (λ (y : ℤ). int_le y z && int_le z y) same ∙ none k d within)))
    (all_apart zs both.1)
  where
    at_self : (z : ℤ) → (int_le z z && int_le z z) ≡ true
    at_self z = rw (self_within z) refl
