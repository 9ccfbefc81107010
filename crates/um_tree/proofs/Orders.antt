-- The preorder of a tree in which a leaf became a split.
use Rattle.std.proofs.Common.{◌≡◌, ℕ, suc, ◌+◌, ◌<◌, ◌≤◌, ◌⊎◌, inl, inr, List, [], ◌∷◌, ◌++◌, length, slice_index_or, Option, Some, None, refl, sym, ap, ◌∙◌, subst, arith}
use Rattle.um_model.specs.declared.branch.Branch.{Branch}
use Rattle.um_model.specs.AnswerValues.{WhatValue}
use Rattle.um_model.specs.AnswerValues.{Split, Bounded, Empty, Void, OpenLeaf}
use Rattle.um_tree.specs.declared.growing.Origin.{Origin}
use Rattle.um_tree.specs.Growths.{GrowthValue, origin_at, what_at, IsLeaf, left_of, right_of, origins_behind, AreInOrder, IsAmong, IsNew, AreDistinct, AreInside}
use Rattle.um_tree.specs.Links.{AreLinked}

-- ---- ids

-- where an id stands
pub record StandsIn (id : ℕ) (ids : List ℕ) : Type 0 where
  pub before : List ℕ
  pub behind : List ℕ
  pub is : ids ≡ before ++ id ∷ behind

pub stands_in : (id : ℕ) (ids : List ℕ) → IsAmong id ids → StandsIn id ids
stands_in id [] h = absurd h
stands_in id (j ∷ js) (inl e) = record { before = []; behind = js; is = ap (λ (x : ℕ). x ∷ js) (sym e) }
stands_in id (j ∷ js) (inr h) = let s = stands_in id js h in record { before = j ∷ s.before; behind = s.behind; is = ap (λ (xs : List ℕ). j ∷ xs) s.is }

-- an id at or above the number is new
pub new_above : (n id : ℕ) (ids : List ℕ) → AreInside n ids → n ≤ id → IsNew id ids
new_above n id [] h le = tt
new_above n id (j ∷ js) h le = ((λ e. let below = h.0 in absurd (omega arith)), new_above n id js h.1 le)

pub inside_more : (m n : ℕ) (ids : List ℕ) → m ≤ n → AreInside m ids → AreInside n ids
inside_more m n [] le h = tt
inside_more m n (j ∷ js) le h = ((let below = h.0 in omega arith), inside_more m n js le h.1)

pub inside_split : (n id : ℕ) (before behind : List ℕ) → AreInside n (before ++ id ∷ behind) → AreInside (n + 2) (before ++ id ∷ n ∷ suc n ∷ behind)
inside_split n id [] behind h = ((let below = h.0 in omega arith), (omega arith, (omega arith, inside_more n (n + 2) behind (omega arith) h.1)))
inside_split n id (j ∷ js) behind h = ((let below = h.0 in omega arith), inside_split n id js behind h.1)

pub new_split : (n k id : ℕ) (before behind : List ℕ) → k < n → IsNew k (before ++ id ∷ behind) → IsNew k (before ++ id ∷ n ∷ suc n ∷ behind)
new_split n k id [] behind below h = (h.0, ((λ e. absurd (omega arith)), ((λ e. absurd (omega arith)), h.1)))
new_split n k id (j ∷ js) behind below h = (h.0, new_split n k id js behind below h.1)

pub distinct_split : (n id : ℕ) (before behind : List ℕ) → AreInside n (before ++ id ∷ behind) → AreDistinct (before ++ id ∷ behind) → AreDistinct (before ++ id ∷ n ∷ suc n ∷ behind)
distinct_split n id [] behind i d = (
  ((λ e. let below = i.0 in absurd (omega arith)), ((λ e. let below = i.0 in absurd (omega arith)), d.0)),
  (((λ e. absurd (omega arith)), new_above n n behind i.1 (omega arith)), (new_above n (suc n) behind i.1 (omega arith), d.1)),
)
distinct_split n id (j ∷ js) behind i d = (new_split n j id js behind i.0 d.0, distinct_split n id js behind i.1 d.1)

-- the ids after a split are those before it, and two more
pub among_split : (n k id : ℕ) (before behind : List ℕ) → IsAmong k (before ++ id ∷ behind) ⊎ ((k ≡ n) ⊎ (k ≡ suc n)) → IsAmong k (before ++ id ∷ n ∷ suc n ∷ behind)
among_split n k id [] behind (inl (inl e)) = inl e
among_split n k id [] behind (inl (inr h)) = inr (inr (inr h))
among_split n k id [] behind (inr (inl e)) = inr (inl e)
among_split n k id [] behind (inr (inr e)) = inr (inr (inl e))
among_split n k id (j ∷ js) behind (inl (inl e)) = inl e
among_split n k id (j ∷ js) behind (inl (inr h)) = inr (among_split n k id js behind (inl h))
among_split n k id (j ∷ js) behind (inr e) = inr (among_split n k id js behind (inr e))

pub length_split : (n id : ℕ) (before behind : List ℕ) → length (before ++ id ∷ n ∷ suc n ∷ behind) ≡ length (before ++ id ∷ behind) + 2
length_split n id [] behind = omega arith
length_split n id (j ∷ js) behind = omega (arith, length_split n id js behind)

-- ---- orders

-- two trees say the same of all nodes below a number but one
pub record AgreeBut (g h : GrowthValue) (n id : ℕ) : Type 0 where
  pub origin : (j : ℕ) → j < n → origin_at h j ≡ origin_at g j
  pub what : (j : ℕ) → j < n → ¬ (id ≡ j) → what_at h j ≡ what_at g j

pub same_order : (g h : GrowthValue) (n id : ℕ) → AgreeBut g h n id → (os : List (Option Origin)) (ids : List ℕ) → AreInside n ids → IsNew id ids → AreInOrder g os ids → AreInOrder h os ids
same_order g h n id a [] [] i new o = tt
same_order g h n id a [] (j ∷ js) i new o = absurd o
same_order g h n id a (x ∷ os) [] i new o = absurd o
same_order g h n id a (x ∷ os) (j ∷ js) i new o = (
  a.origin j i.0 ∙ o.0,
  subst (λ (w : WhatValue). AreInOrder h (origins_behind j w os) js) (sym (a.what j i.0 new.0)) (same_order g h n id a (origins_behind j (what_at g j) os) js i.1 new.1 o.1),
)

pub leaf_behind : (j : ℕ) (w : WhatValue) (os : List (Option Origin)) → IsLeaf w → origins_behind j w os ≡ os
leaf_behind j (Split branch) os h = absurd h
leaf_behind j (Bounded y) os h = refl
leaf_behind j (Empty y) os h = refl
leaf_behind j (Void column) os h = refl
leaf_behind j (OpenLeaf y) os h = refl

-- what a split writes
pub record IsParted (g h : GrowthValue) (n id : ℕ) (branch : Branch) : Type 0 where
  pub agree : AgreeBut g h n id
  pub leaf : IsLeaf (what_at g id)
  pub what : what_at h id ≡ Split branch
  pub left : origin_at h n ≡ left_of id branch
  pub right : origin_at h (suc n) ≡ right_of id branch
  pub left_leaf : IsLeaf (what_at h n)
  pub right_leaf : IsLeaf (what_at h (suc n))

module _ (g h : GrowthValue) (n id : ℕ) (branch : Branch) (p : IsParted g h n id branch) where
  order_here : (x : Option Origin) (os : List (Option Origin)) (behind : List ℕ) → AreInside n (id ∷ behind) → IsNew id behind → AreInOrder g (x ∷ os) (id ∷ behind)
      → AreInOrder h (x ∷ os) (id ∷ n ∷ suc n ∷ behind)
  order_here x os behind i new o = (
    p.agree.origin id i.0 ∙ o.0,
    subst (λ (w : WhatValue). AreInOrder h (origins_behind id w os) (n ∷ suc n ∷ behind)) (sym p.what) (
      p.left,
      subst (λ (rest : List (Option Origin)). AreInOrder h rest (suc n ∷ behind)) (sym (leaf_behind n (what_at h n) (right_of id branch ∷ os) p.left_leaf)) (
        p.right,
        subst (λ (rest : List (Option Origin)). AreInOrder h rest behind) (sym (leaf_behind (suc n) (what_at h (suc n)) os p.right_leaf))
            (same_order g h n id p.agree os behind i.1 new (subst (λ (rest : List (Option Origin)). AreInOrder g rest behind) (leaf_behind id (what_at g id) os p.leaf) o.1)),
      ),
    ),
  )

  pub order_split : (os : List (Option Origin)) (before behind : List ℕ) → AreInside n (before ++ id ∷ behind) → AreDistinct (before ++ id ∷ behind) → AreInOrder g os (before ++ id ∷ behind)
      → AreInOrder h os (before ++ id ∷ n ∷ suc n ∷ behind)
  order_split [] [] behind i d o = absurd o
  order_split (x ∷ os) [] behind i d o = order_here x os behind i d.0 o
  order_split [] (j ∷ js) behind i d o = absurd o
  order_split (x ∷ os) (j ∷ js) behind i d o = (
    p.agree.origin j i.0 ∙ o.0,
    subst (λ (w : WhatValue). AreInOrder h (origins_behind j w os) (js ++ id ∷ n ∷ suc n ∷ behind)) (sym (p.agree.what j i.0 (apart js d.0)))
        (order_split (origins_behind j (what_at g j) os) js behind i.1 d.1 o.1),
  )
    where
      apart : (js : List ℕ) → IsNew j (js ++ id ∷ behind) → ¬ (id ≡ j)
      apart [] new e = new.0 (sym e)
      apart (k ∷ ks) new e = apart ks new.1 e

-- ---- links

-- two lists of links are the same below a number but at one id
abbrev pub LinksAgreeBut : List (Option ℕ) → List (Option ℕ) → ℕ → ℕ → Type 0
LinksAgreeBut nexts news n id = (j : ℕ) → j < n → ¬ (id ≡ j) → slice_index_or news j None ≡ slice_index_or nexts j None

pub same_links : (nexts news : List (Option ℕ)) (n id : ℕ) → LinksAgreeBut nexts news n id → (first : Option ℕ) (ids : List ℕ) → AreInside n ids → IsNew id ids → AreLinked first nexts ids → AreLinked first news ids
same_links nexts news n id a first [] i new l = l
same_links nexts news n id a first (j ∷ js) i new l = (
  l.0,
  same_links nexts news n id a (slice_index_or news j None) js i.1 new.1 (subst (λ (o : Option ℕ). AreLinked o nexts js) (sym (a j i.0 new.0)) l.1),
)

pub record IsRelinked (nexts news : List (Option ℕ)) (n id : ℕ) : Type 0 where
  pub agree : LinksAgreeBut nexts news n id
  pub here : slice_index_or news id None ≡ Some n
  pub left : slice_index_or news n None ≡ Some (suc n)
  pub right : slice_index_or news (suc n) None ≡ slice_index_or nexts id None

pub links_split : (nexts news : List (Option ℕ)) (n id : ℕ) → IsRelinked nexts news n id → (first : Option ℕ) (before behind : List ℕ) → AreInside n (before ++ id ∷ behind) → AreDistinct (before ++ id ∷ behind)
    → AreLinked first nexts (before ++ id ∷ behind) → AreLinked first news (before ++ id ∷ n ∷ suc n ∷ behind)
links_split nexts news n id r first [] behind i d l = (
  l.0,
  (r.here, (r.left, same_links nexts news n id r.agree (slice_index_or news (suc n) None) behind i.1 d.0 (subst (λ (o : Option ℕ). AreLinked o nexts behind) (sym r.right) l.1))),
)
links_split nexts news n id r first (j ∷ js) behind i d l = (
  l.0,
  links_split nexts news n id r (slice_index_or news j None) js behind i.1 d.1 (subst (λ (o : Option ℕ). AreLinked o nexts (js ++ id ∷ behind)) (sym (r.agree j i.0 (apart js d.0))) l.1),
)
  where
    apart : (js : List ℕ) → IsNew j (js ++ id ∷ behind) → ¬ (id ≡ j)
    apart [] new e = new.0 (sym e)
    apart (k ∷ ks) new e = apart ks new.1 e
