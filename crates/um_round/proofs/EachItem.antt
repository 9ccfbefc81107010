-- What holds of each item of a list.
use Rattle.std.proofs.Common.{◌≡◌, ℕ, zero, suc, Bool, true, false, List, [], ◌∷◌, ◌++◌, map, All, ◌||◌, if◌then◌else◌, refl, subst}
use Rattle.std.specs.List.{flat_map, list_all, list_any}
use Rattle.std.specs.Bool.{⊤}
use Rattle.std.proofs.lemmas.Bool.{and_parts, false≢true}
use Rattle.um_model.specs.WellFormed.{AtPlace}
use Rattle.std.proofs.lemmas.List.Elements.{All-nil, All-cons, All-head, All-tail}

-- each of these items has this
abbrev pub Each : {X : Type 0} → (X → Type 0) → List X → Type 0
Each P [] = ⊤
Each P (x ∷ xs) = P x × Each P xs

pub Each-append : {X : Type 0} (P : X → Type 0) (xs ys : List X) → Each P xs → Each P ys → Each P (xs ++ ys)
Each-append P [] ys h k = k
Each-append P (x ∷ xs) ys h k = (h.0, Each-append P xs ys h.1 k)

pub Each-from : {X : Type 0} (P : X → Type 0) (xs : List X) → All P xs → Each P xs
Each-from P [] h = tt
Each-from P (x ∷ xs) h = (All-head P x xs h, Each-from P xs (All-tail P x xs h))

pub Each-true : {X : Type 0} (q : X → Bool) (xs : List X) → list_all q xs ≡ true → Each (λ x. q x ≡ true) xs
Each-true q [] t = tt
Each-true q (x ∷ xs) t = let both = and_parts (q x) _ t in (both.0, Each-true q xs both.1)

pub Each-both : {X : Type 0} (P Q : X → Type 0) (xs : List X) → Each P xs → Each Q xs → Each (λ x. P x × Q x) xs
Each-both P Q [] h k = tt
Each-both P Q (x ∷ xs) h k = ((h.0, k.0), Each-both P Q xs h.1 k.1)

pub Each-so : {X : Type 0} (P Q : X → Type 0) → ((x : X) → P x → Q x) → (xs : List X) → Each P xs → Each Q xs
Each-so P Q is [] h = tt
Each-so P Q is (x ∷ xs) h = (is x h.0, Each-so P Q is xs h.1)

pub Each-map : {X Y : Type 0} (P : X → Type 0) (Q : Y → Type 0) (f : X → Y) → ((x : X) → P x → Q (f x)) → (xs : List X) → Each P xs → Each Q (map f xs)
Each-map P Q f is [] h = tt
Each-map P Q f is (x ∷ xs) h = (is x h.0, Each-map P Q f is xs h.1)

pub Each-flat : {X Y : Type 0} (P : X → Type 0) (Q : Y → Type 0) (f : X → List Y) → ((x : X) → P x → Each Q (f x)) → (xs : List X) → Each P xs → Each Q (flat_map f xs)
Each-flat P Q f is [] h = tt
Each-flat P Q f is (x ∷ xs) h = Each-append Q (f x) (flat_map f xs) (is x h.0) (Each-flat P Q f is xs h.1)

pub Each-if : {X : Type 0} (P : X → Type 0) (b : Bool) (x : X) → P x → Each P (if b then [] else x ∷ [])
Each-if P true x h = tt
Each-if P false x h = (h, tt)

pub each_all : {X : Type 0} (P : X → Type 0) (xs : List X) → Each P xs → All P xs
each_all P [] h = All-nil P
each_all P (x ∷ xs) h = All-cons P x xs h.0 (each_all P xs h.1)

pub each_at_place : {X : Type 0} (P : X → Type 0) (xs : List X) (i : ℕ) (x : X) → Each P xs → AtPlace xs i x → P x
each_at_place P [] i x h at = cc
each_at_place P (y ∷ xs) zero x h at = let same : y ≡ x = cc in subst P same h.0
each_at_place P (y ∷ xs) (suc i) x h at = each_at_place P xs i x h.1 at

-- what follows from each item that passes a test follows where one passes
pub some_passes : {X : Type 0} (P : Type 0) (test : X → Bool) (xs : List X) → Each (λ x. test x ≡ true → P) xs → list_any test xs ≡ true → P
some_passes P test [] h t = absurd (false≢true t)
some_passes P test (x ∷ xs) h t = by (test x) refl t (some_passes P test xs h.1)
  where
    by : (b : Bool) → test x ≡ b → (b || list_any test xs) ≡ true → (list_any test xs ≡ true → P) → P
    by true passes t more = h.0 passes
    by false fails t more = more t
