-- Lists with one item more, and what holds of each item.
use Rattle.std.proofs.Common.{◌≡◌, ℕ, zero, suc, ◌<◌, ◌⊎◌, inl, inr, List, [], ◌∷◌, ◌++◌, length, slice_get, Some, refl, ap, subst, arith}
use Rattle.um_progress.specs.Waits.{Every}

-- ---- places
pub get_pushed : {X : Type 0} (xs : List X) (y : X) (place : ℕ) (x : X) → slice_get (xs ++ y ∷ []) place ≡ Some x → (slice_get xs place ≡ Some x) ⊎ ((place ≡ length xs) × (y ≡ x))
get_pushed [] y zero x e = inr (refl, cc)
get_pushed [] y (suc place) x e = absurd (cc)
get_pushed (z ∷ zs) y zero x e = inl e
get_pushed (z ∷ zs) y (suc place) x e = elim (get_pushed zs y place x e) [ inl h ↦ inl h | inr h ↦ inr (ap suc h.0, h.1) ]

pub get_still : {X : Type 0} (xs : List X) (y : X) (place : ℕ) (x : X) → slice_get xs place ≡ Some x → slice_get (xs ++ y ∷ []) place ≡ Some x
get_still [] y place x e = absurd (cc)
get_still (z ∷ zs) y zero x e = e
get_still (z ∷ zs) y (suc place) x e = get_still zs y place x e

pub get_last : {X : Type 0} (xs : List X) (y : X) → slice_get (xs ++ y ∷ []) (length xs) ≡ Some y
get_last [] y = refl
get_last (z ∷ zs) y = get_last zs y

pub get_inside : {X : Type 0} (xs : List X) (place : ℕ) (x : X) → slice_get xs place ≡ Some x → place < length xs
get_inside [] place x e = absurd (cc)
get_inside (y ∷ ys) zero x e = omega arith
get_inside (y ∷ ys) (suc place) x e = let h = get_inside ys place x e in omega arith

-- ---- each item
pub every_map : {X : Type 0} (P Q : X → Type 0) (xs : List X) → ((x : X) → P x → Q x) → Every P xs → Every Q xs
every_map P Q [] f e = tt
every_map P Q (x ∷ xs) f e = (f x e.0, every_map P Q xs f e.1)

pub every_both : {X : Type 0} (P Q R : X → Type 0) (xs : List X) → ((x : X) → P x → Q x → R x) → Every P xs → Every Q xs → Every R xs
every_both P Q R [] f p q = tt
every_both P Q R (x ∷ xs) f p q = (f x p.0 q.0, every_both P Q R xs f p.1 q.1)

pub every_last : {X : Type 0} (P : X → Type 0) (xs : List X) (x : X) → Every P (xs ++ x ∷ []) → P x × Every P xs
every_last P [] x e = (e.0, tt)
every_last P (y ∷ ys) x e = let r = every_last P ys x e.1 in (r.0, (e.0, r.1))

pub every_more : {X : Type 0} (P : X → Type 0) (xs : List X) (x : X) → Every P xs → P x → Every P (xs ++ x ∷ [])
every_more P [] x e h = (h, tt)
every_more P (y ∷ ys) x e h = (e.0, every_more P ys x e.1 h)

pub every_out : {X : Type 0} (P : X → Type 0) (front behind : List X) (x : X) → Every P (front ++ x ∷ behind) → P x × Every P (front ++ behind)
every_out P [] behind x e = e
every_out P (y ∷ ys) behind x e = let r = every_out P ys behind x e.1 in (r.0, (e.0, r.1))

-- what holds of the item at each place holds of each item
pub every_place : {X : Type 0} (P : X → Type 0) (xs : List X) → ((place : ℕ) (x : X) → slice_get xs place ≡ Some x → P x) → Every P xs
every_place P [] f = tt
every_place P (x ∷ xs) f = (f 0 x refl, every_place P xs (λ place y e. f (suc place) y e))

-- and what holds of each item holds of the one at a place
pub every_at : {X : Type 0} (P : X → Type 0) (xs : List X) (place : ℕ) (x : X) → Every P xs → slice_get xs place ≡ Some x → P x
every_at P [] place x e at = absurd (cc)
every_at P (y ∷ ys) zero x e at = let same : y ≡ x = cc in subst P same e.0
every_at P (y ∷ ys) (suc place) x e at = every_at P ys place x e.1 at
