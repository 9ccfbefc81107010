-- Lists through a function.
use Rattle.std.proofs.Common.{◌≡◌, ℕ, zero, suc, ◌<◌, List, [], ◌∷◌, ◌++◌, length, map, slice_index_or, slice_set, refl, ap, ◌∙◌, arith}

pub length_map : {X Y : Type 0} (f : X → Y) (xs : List X) → length (map f xs) ≡ length xs
length_map f [] = refl
length_map f (x ∷ xs) = omega (arith, length_map f xs)

pub map_push : {X Y : Type 0} (f : X → Y) (xs : List X) (x : X) → map f (xs ++ x ∷ []) ≡ map f xs ++ f x ∷ []
map_push f [] x = refl
map_push f (y ∷ ys) x = ap (λ (zs : List _). f y ∷ zs) (map_push f ys x)

pub map_set : {X Y : Type 0} (f : X → Y) (xs : List X) (i : ℕ) (x : X) → map f (slice_set xs i x) ≡ slice_set (map f xs) i (f x)
map_set f [] i x = refl
map_set f (y ∷ ys) zero x = refl
map_set f (y ∷ ys) (suc i) x = ap (λ (zs : List _). f y ∷ zs) (map_set f ys i x)

pub map_at : {X Y : Type 0} (f : X → Y) (xs : List X) (i : ℕ) (d : X) (e : Y) → i < length xs → slice_index_or (map f xs) i e ≡ f (slice_index_or xs i d)
map_at f [] i d e h = absurd (omega arith)
map_at f (x ∷ xs) zero d e h = refl
map_at f (x ∷ xs) (suc i) d e h = map_at f xs i d e (omega arith)

pub two_more : {X : Type 0} (xs : List X) (a b : X) → (xs ++ a ∷ []) ++ b ∷ [] ≡ xs ++ (a ∷ b ∷ [])
two_more [] a b = refl
two_more (x ∷ xs) a b = ap (λ (ys : List _). x ∷ ys) (two_more xs a b)

-- a write and two more
pub map_written : {X Y : Type 0} (f : X → Y) (xs news : List X) (i : ℕ) (x a b : X) → news ≡ (slice_set xs i x ++ a ∷ []) ++ b ∷ [] → map f news ≡ slice_set (map f xs) i (f x) ++ (f a ∷ f b ∷ [])
map_written f xs news i x a b e =
    ap (map f) e ∙ map_push f (slice_set xs i x ++ a ∷ []) b
    ∙ ap (λ (ys : List _). ys ++ f b ∷ []) (map_push f (slice_set xs i x) a ∙ ap (λ (ys : List _). ys ++ f a ∷ []) (map_set f xs i x))
    ∙ two_more (slice_set (map f xs) i (f x)) (f a) (f b)
