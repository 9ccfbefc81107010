-- Sums over a set's members with the parts beside them.
use Rattle.std.proofs.Common.{[], ◌∷◌, refl, ◌≡◌, ℕ, zero, suc, ◌+◌, ◌<◌, ◌≤◌, ℤ, pos, ◌+ℤ◌, ◌*ℤ◌, ◌≤ℤ◌, ◌<ℤ◌, List, length, get_or, take, arith, sym, ap, ◌∙◌}
use Rattle.std.proofs.lemmas.Int.{ints}
use Rattle.um_laws.specs.Sums.{sum_of, dot}
use Rattle.um_laws.proofs.WholeLaws.{*ℤ-+ℤ}
use Rattle.um_model.specs.Feasible.{part}
use Rattle.um_model.specs.declared.deck.Member.{Member}
use Rattle.um_deck.proofs.BoundedSums.{dot_more}
use Rattle.um_point.specs.MemberParts.{parts_of}
use Rattle.um_point.proofs.SetRules.{part_at, same_length}

-- ---- parts of 0

pub sum-zeros : {A : Type 0} (f : A → ℤ) (xs : List A) (ps : List ℤ) → ((k : ℕ) → part ps k ≡ pos 0) → dot f xs ps ≡ pos 0
sum-zeros f [] ps h = refl
sum-zeros f (x ∷ xs) [] h = refl
sum-zeros f (x ∷ xs) (p ∷ ps) h = let here : p ≡ pos 0 = h 0 in rw here (omega (arith, ints, sum-zeros f xs ps (λ k. h (suc k))))

-- before a place
pub sum-before : {A : Type 0} (f : A → ℤ) (xs : List A) (ps : List ℤ) (n : ℕ) → ((k : ℕ) → k < n → part ps k ≡ pos 0) → dot f (take n xs) ps ≡ pos 0
sum-before f xs ps zero h = refl
sum-before f [] ps (suc n) h = refl
sum-before f (x ∷ xs) [] (suc n) h = refl
sum-before f (x ∷ xs) (p ∷ ps) (suc n) h =
    let here : p ≡ pos 0 = h 0 (omega arith) in rw here (omega (arith, ints, sum-before f xs ps n (λ k l. h (suc k) (omega arith))))

-- from a place on
pub sum-behind : {A : Type 0} (f : A → ℤ) (xs : List A) (ps : List ℤ) (n : ℕ) → ((k : ℕ) → n ≤ k → part ps k ≡ pos 0) → dot f (take n xs) ps ≡ dot f xs ps
sum-behind f xs ps zero h = omega (arith, ints, sum-zeros f xs ps (λ k. h k (omega arith)))
sum-behind f [] ps (suc n) h = refl
sum-behind f (x ∷ xs) [] (suc n) h = refl
sum-behind f (x ∷ xs) (p ∷ ps) (suc n) h = omega (arith, ints, sum-behind f xs ps n (λ k l. h (suc k) (omega arith)))

-- ---- two factors

-- the same factor for each part
pub sum-same_factor : {A : Type 0} (c : ℤ) (xs : List A) (ps : List ℤ) → length ps ≡ length xs → dot (λ (x : A). c) xs ps ≡ c *ℤ sum_of (λ (p : ℤ). p) ps
sum-same_factor c [] [] n = omega (arith, ints)
sum-same_factor c [] (p ∷ ps) n = absurd (omega arith)
sum-same_factor c (x ∷ xs) [] n = absurd (omega arith)
sum-same_factor c (x ∷ xs) (p ∷ ps) n = omega (arith, ints, sum-same_factor c xs ps (omega arith), *ℤ-+ℤ c p (sum_of (λ (p : ℤ). p) ps))

-- no term above the other's
pub sum-at_most : {A : Type 0} (f g : A → ℤ) (xs : List A) (ps : List ℤ) → ((k : ℕ) (d : A) → k < length xs → (f (get_or xs k d) *ℤ part ps k) ≤ℤ (g (get_or xs k d) *ℤ part ps k)) → dot f xs ps ≤ℤ dot g xs ps
sum-at_most f g [] ps h = omega (arith, ints)
sum-at_most f g (x ∷ xs) [] h = omega (arith, ints)
sum-at_most f g (x ∷ xs) (p ∷ ps) h = omega (arith, ints, h 0 x (omega arith), sum-at_most f g xs ps (λ k d l. h (suc k) d (omega arith)))

-- and one below
pub sum-below : {A : Type 0} (f g : A → ℤ) (xs : List A) (ps : List ℤ) → ((k : ℕ) (d : A) → k < length xs → (f (get_or xs k d) *ℤ part ps k) ≤ℤ (g (get_or xs k d) *ℤ part ps k))
    → (n : ℕ) → n < length xs → n < length ps → ((d : A) → (f (get_or xs n d) *ℤ part ps n) <ℤ (g (get_or xs n d) *ℤ part ps n)) → dot f xs ps <ℤ dot g xs ps
sum-below f g [] ps h n l m lt = absurd (omega arith)
sum-below f g (x ∷ xs) [] h n l m lt = absurd (omega arith)
sum-below f g (x ∷ xs) (p ∷ ps) h zero l m lt = omega (arith, ints, lt x, sum-at_most f g xs ps (λ k d q. h (suc k) d (omega arith)))
sum-below f g (x ∷ xs) (p ∷ ps) h (suc n) l m lt =
    omega (arith, ints, h 0 x (omega arith), sum-below f g xs ps (λ k d q. h (suc k) d (omega arith)) n (omega arith) (omega arith) lt)

-- ---- one member more

pub sum-more : (f : Member → ℤ) (members : List Member) (parts : List ℤ) (i : ℕ) (d : Member) (t : ℤ) → i < length members → t ≡ f (get_or members i d) *ℤ part parts (get_or members i d).column
    → dot f (take (i + 1) members) (parts_of parts members) ≡ dot f (take i members) (parts_of parts members) +ℤ t
sum-more f members parts i d t l e =
    let xs = parts_of parts members in
    let more = dot_more f members xs i d (pos 0) l (omega (arith, l, same_length parts members)) in
    more ∙ ap (λ (z : ℤ). dot f (take i members) xs +ℤ z) (ap (λ (z : ℤ). f (get_or members i d) *ℤ z) (part_at parts members i d l) ∙ sym e)
