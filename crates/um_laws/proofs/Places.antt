-- Items of lists at their places.
use Rattle.std.proofs.Common.{◌≡◌, ◌≢◌, ℕ, ◌<◌, ◌≤◌, zero, suc, ℤ, pos, negsuc, ◌⊎◌, inl, inr, List, [], ◌∷◌, length, map, slice_get, slice_index_or, slice_set, Some, refl, arith}

pub below_or : (m n : ℕ) → (m < n) ⊎ (n ≤ m)
below_or m n = grind arith

-- what stands at a place that is there
pub record IsItem {X : Type 0} (xs : List X) (place : ℕ) (x : X) : Type 0 where
  pub inside : place < length xs
  pub is : (default : X) → slice_index_or xs place default ≡ x

pub item_of : {X : Type 0} (xs : List X) (place : ℕ) (x : X) → slice_get xs place ≡ Some x → IsItem xs place x
item_of [] place x e = absurd (cc)
item_of (y ∷ ys) zero x e = record { inside = omega arith; is = λ _. cc }
item_of (y ∷ ys) (suc place) x e = let r = item_of ys place x e in record { inside = let h = r.inside in omega arith; is = λ default. r.is default }

pub get_of : {X : Type 0} (xs : List X) (place : ℕ) (default : X) → place < length xs → slice_get xs place ≡ Some (slice_index_or xs place default)
get_of [] place default h = absurd (omega arith)
get_of (x ∷ xs) zero default h = refl
get_of (x ∷ xs) (suc place) default h = get_of xs place default (omega arith)

pub item_at : {X : Type 0} (xs : List X) (place : ℕ) → place < length xs → (x : X) × (slice_get xs place ≡ Some x)
item_at [] place h = absurd (omega arith)
item_at (x ∷ xs) zero h = (x, refl)
item_at (x ∷ xs) (suc place) h = item_at xs place (omega arith)

-- after a write, a place has what was written, or what it had
pub after_set : {X : Type 0} (xs : List X) (i j : ℕ) (v default : X)
    → ((slice_index_or (slice_set xs i v) j default ≡ v) × (j ≡ i)) ⊎ (slice_index_or (slice_set xs i v) j default ≡ slice_index_or xs j default)
after_set [] i j v default = inr refl
after_set (x ∷ xs) zero zero v default = inl (refl, refl)
after_set (x ∷ xs) zero (suc j) v default = inr refl
after_set (x ∷ xs) (suc i) zero v default = inr refl
after_set (x ∷ xs) (suc i) (suc j) v default = elim (after_set xs i j v default) [ inl r ↦ inl (r.0, omega (arith, r.1)) | inr r ↦ inr r ]

-- a place that is there has what was written
pub at_set : {X : Type 0} (xs : List X) (i : ℕ) (v default : X) → i < length xs → slice_index_or (slice_set xs i v) i default ≡ v
at_set [] i v default h = absurd (omega arith)
at_set (x ∷ xs) zero v default h = refl
at_set (x ∷ xs) (suc i) v default h = at_set xs i v default (omega arith)

pub past_end : {X : Type 0} (xs : List X) (i : ℕ) (default : X) → length xs ≤ i → slice_index_or xs i default ≡ default
past_end [] i default h = refl
past_end (x ∷ xs) zero default h = absurd (omega arith)
past_end (x ∷ xs) (suc i) default h = past_end xs i default (omega arith)

pub at_map : {X Y : Type 0} (f : X → Y) (xs : List X) (i : ℕ) (x : X) (y : Y) → i < length xs → slice_index_or (map f xs) i y ≡ f (slice_index_or xs i x)
at_map f [] i x y h = absurd (omega arith)
at_map f (z ∷ zs) zero x y h = refl
at_map f (z ∷ zs) (suc i) x y h = at_map f zs i x y (omega arith)

pub length-map : {X Y : Type 0} (f : X → Y) (xs : List X) → length (map f xs) ≡ length xs
length-map f [] = refl
length-map f (x ∷ xs) = omega (arith, length-map f xs)

-- ---- numbers that are 0, and numbers that are not
pub zero_or_not : (x : ℤ) → (x ≡ pos 0) ⊎ (x ≢ pos 0)
zero_or_not (pos zero) = inl refl
zero_or_not (pos (suc n)) = inr (λ e. cc)
zero_or_not (negsuc n) = inr (λ e. cc)

pub zero_if : (x : ℤ) → ¬ (x ≢ pos 0) → x ≡ pos 0
zero_if x h = elim (zero_or_not x) [ inl e ↦ e | inr n ↦ absurd (h n) ]
