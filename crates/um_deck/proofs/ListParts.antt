-- What holds of the items of a list, and of their images.
use Rattle.std.proofs.Common.{◌≡◌, ℕ, zero, suc, List, [], ◌∷◌, map, Some, subst, arith}
use Rattle.std.specs.Prelude.{All, AllPairs, slice_get}
use Rattle.std.proofs.lemmas.List.{get_or-map, length-map}
use Rattle.std.proofs.lemmas.List.Elements.{All-map}
use Rattle.std.proofs.lemmas.List.Kept.{AllPairs-cons}

-- what holds of each image holds of each item's image
pub All-of_map : {X Y : Type 0} (P : Y → Type 0) (f : X → Y) (xs : List X) → All P (map f xs) → All (λ x. P (f x)) xs
All-of_map P f xs h = λ k d within. subst P (get_or-map f xs k d (f d) within) (h k (f d) (omega (arith, length-map xs f)))

-- a relation of the images holds of the list of images
pub AllPairs-map : {X Y : Type 0} (R : Y → Y → Type 0) (f : X → Y) (xs : List X) → AllPairs (λ a b. R (f a) (f b)) xs → AllPairs R (map f xs)
AllPairs-map R f [] h = λ i j d below within. absurd (omega arith)
AllPairs-map R f (x ∷ xs) h =
    AllPairs-cons R (f x) (map f xs) (All-map (R (f x)) f xs (λ k d within. h 0 (suc k) d (omega arith) (omega arith)))
    (AllPairs-map R f xs (λ i j d below within. h (suc i) (suc j) d (omega arith) (omega arith)))

-- what holds of each item holds of the one at a place
pub all_at : {X : Type 0} (P : X → Type 0) (xs : List X) (i : ℕ) (x : X) → All P xs → slice_get xs i ≡ Some x → P x
all_at P [] i x h e = absurd (cc)
all_at P (y ∷ ys) zero x h e = let same : y ≡ x = cc in subst P same (h 0 y (omega arith))
all_at P (y ∷ ys) (suc i) x h e = all_at P ys i x (λ k d within. h (suc k) d (omega arith)) e
