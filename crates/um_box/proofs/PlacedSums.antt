-- Sums over a list's elements with their places, where one place changes.
use Rattle.std.proofs.Common.{◌≡◌, ◌∙◌, ap, sym, refl, ℕ, ◌+◌, ◌<◌, ◌≤◌, ◌≢◌, zero, suc, List, [], ◌∷◌, length, get_or, arith, Bool, true, false, cond, ltb, ◌||◌}
use Rattle.std.specs.List.{list_any, sum_by, count_by, enumerate_from}
use Rattle.std.proofs.lemmas.Bool.{lt-ltb}
use Rattle.std.proofs.lemmas.List.Sums.{sum_by-cons}

-- sums of terms that are equal from this place on
sums_agree : {X : Type 0} (f g : ℕ × X → ℕ) (n : ℕ) (xs : List X) → ((k : ℕ) (x : X) → n ≤ k → f (k, x) ≡ g (k, x)) → sum_by f (enumerate_from n xs) ≡ sum_by g (enumerate_from n xs)
sums_agree f g n [] h = refl
sums_agree f g n (x ∷ xs) h =
    let rest = sums_agree f g (n + 1) xs (λ k y l. h k y (omega arith)) in
    let here = h n x (omega arith) in
    omega (arith, rest, here, sum_by-cons f (n, x) (enumerate_from (n + 1) xs), sum_by-cons g (n, x) (enumerate_from (n + 1) xs))

-- sums of terms that are equal but for one place
pub sums_apart : {X : Type 0} (f g : ℕ × X → ℕ) (n : ℕ) (xs : List X) (i : ℕ) (d : X) → i < length xs → ((k : ℕ) (x : X) → k ≢ n + i → f (k, x) ≡ g (k, x))
    → sum_by f (enumerate_from n xs) + g (n + i, get_or xs i d) ≡ sum_by g (enumerate_from n xs) + f (n + i, get_or xs i d)
sums_apart f g n [] i d l h = absurd (omega arith)
sums_apart f g n (x ∷ xs) zero d l h =
    let rest = sums_agree f g (n + 1) xs (λ k y m. h k y (omega arith)) in
    let place : n + 0 ≡ n = omega arith in
    let f_here : f (n + 0, x) ≡ f (n, x) = ap (λ (k : ℕ). f (k, x)) place in
    let g_here : g (n + 0, x) ≡ g (n, x) = ap (λ (k : ℕ). g (k, x)) place in
    omega (arith, rest, f_here, g_here, sum_by-cons f (n, x) (enumerate_from (n + 1) xs), sum_by-cons g (n, x) (enumerate_from (n + 1) xs))
sums_apart f g n (x ∷ xs) (suc i) d l h =
    let rest = sums_apart f g (n + 1) xs i d (omega arith) (λ k y m. h k y (omega arith)) in
    let here = h n x (omega arith) in
    let place : n + 1 + i ≡ n + suc i = omega arith in
    let f_there : f (n + 1 + i, get_or xs i d) ≡ f (n + suc i, get_or xs i d) = ap (λ (k : ℕ). f (k, get_or xs i d)) place in
    let g_there : g (n + 1 + i, get_or xs i d) ≡ g (n + suc i, get_or xs i d) = ap (λ (k : ℕ). g (k, get_or xs i d)) place in
    omega (arith, rest, here, f_there, g_there, sum_by-cons f (n, x) (enumerate_from (n + 1) xs), sum_by-cons g (n, x) (enumerate_from (n + 1) xs))

-- ---- whether a sum is above 0

above_zero : (a b : ℕ) → (ltb 0 a || ltb 0 b) ≡ ltb 0 (a + b)
above_zero zero b = ap (ltb 0) (let e : b ≡ 0 + b = omega arith in e)
above_zero (suc a) b = ap (λ (t : Bool). t || ltb 0 b) (lt-ltb 0 (suc a) (omega arith)) ∙ sym (lt-ltb 0 (suc a + b) (omega arith))

pub any_above_zero : {X : Type 0} (f : X → ℕ) (xs : List X) → list_any (λ x. ltb 0 (f x)) xs ≡ ltb 0 (sum_by f xs)
any_above_zero f [] = refl
any_above_zero f (x ∷ xs) = ap (λ (t : Bool). ltb 0 (f x) || t) (any_above_zero f xs) ∙ above_zero (f x) (sum_by f xs) ∙ ap (ltb 0) (sym (sum_by-cons f x xs))

one_above_zero : (t : Bool) → t ≡ ltb 0 (cond t 1 0)
one_above_zero true = refl
one_above_zero false = refl

-- a test holds somewhere just where its count is above 0
pub any_counted : {X : Type 0} (p : X → Bool) (xs : List X) → list_any p xs ≡ ltb 0 (count_by p xs)
any_counted {X} p xs = (λ i. list_any (λ (x : X). one_above_zero (p x) i) xs) ∙ any_above_zero (λ (x : X). cond (p x) 1 0) xs
