-- The numbers of a tree after an act on one node.
use Rattle.std.proofs.Common.{◌≡◌, ℕ, zero, suc, ◌<◌, ◌⊎◌, inl, inr, List, [], ◌∷◌, ◌++◌, length, slice_get, Some, None, refl, sym, ap, ◌∙◌, subst, arith}
use Rattle.um_model.specs.Values.{DeckValue}
use Rattle.um_model.specs.AnswerValues.{NodeValue}
use Rattle.um_model.specs.declared.tree.Solved.{Solved}
use Rattle.um_tree.specs.Growths.{GrowthValue, node_at}
use Rattle.um_progress.specs.Numbers.{Number, Bears, IsNumbered}
use Rattle.um_progress.proofs.Changes.{IsChange, which}

-- ---- a list with one more item
get_pushed : {X : Type 0} (xs : List X) (y : X) (place : ℕ) (x : X) → slice_get (xs ++ y ∷ []) place ≡ Some x → (slice_get xs place ≡ Some x) ⊎ ((place ≡ length xs) × (y ≡ x))
get_pushed [] y zero x e = inr (refl, cc)
get_pushed [] y (suc place) x e = absurd (cc)
get_pushed (z ∷ zs) y zero x e = inl e
get_pushed (z ∷ zs) y (suc place) x e = elim (get_pushed zs y place x e) [ inl h ↦ inl h | inr h ↦ inr (ap suc h.0, h.1) ]

get_still : {X : Type 0} (xs : List X) (y : X) (place : ℕ) (x : X) → slice_get xs place ≡ Some x → slice_get (xs ++ y ∷ []) place ≡ Some x
get_still [] y place x e = absurd (cc)
get_still (z ∷ zs) y zero x e = e
get_still (z ∷ zs) y (suc place) x e = get_still zs y place x e

get_last : {X : Type 0} (xs : List X) (y : X) → slice_get (xs ++ y ∷ []) (length xs) ≡ Some y
get_last [] y = refl
get_last (z ∷ zs) y = get_last zs y

module _ {W : Type 0} (d : DeckValue) (g h : GrowthValue) (id : ℕ) (c : IsChange d g h id) (history : List (Number W)) (was : (node_at g id).solved ≡ None) where
  -- the node of a number is another one
  apart_from : IsNumbered W g history → (place : ℕ) (n : Number W) → slice_get history place ≡ Some n → ¬ (id ≡ n.id)
  apart_from k place n e same = let on = k.on place n e in let at : (node_at g n.id).solved ≡ None = subst (λ (j : ℕ). (node_at g j).solved ≡ None) same was in absurd (cc)

  on_on : IsNumbered W g history → (place : ℕ) (n : Number W) → slice_get history place ≡ Some n → (node_at h n.id).solved ≡ Some (record { number = suc place; pivots = n.pivots })
  on_on k place n e = ap (λ (x : NodeValue). x.solved) (c.node n.id (k.inside place n e) (apart_from k place n e)) ∙ k.on place n e

  inside_on : IsNumbered W g history → (place : ℕ) (n : Number W) → slice_get history place ≡ Some n → n.id < length h.nodes
  inside_on k place n e = let a = k.inside place n e in let b = c.size in omega arith

  pub numbered_on : IsNumbered W g history → (node_at h id).solved ≡ None → IsNumbered W h history
  numbered_on k none = record {
    inside = inside_on k;
    on = on_on k;
    only = λ j inside s e. elim (which d g h id c j) [
      | inl same ↦ let at : (node_at h j).solved ≡ None = subst (λ (i : ℕ). (node_at h i).solved ≡ None) same none in absurd (cc)
      | inr rest ↦ elim rest [
        | inl old ↦ k.only j old.0 s (sym (ap (λ (x : NodeValue). x.solved) (c.node j old.0 old.1)) ∙ e)
        | inr new ↦ let at = c.unsolved j new inside in absurd (cc)
      ]
    ];
  }

  bears_on : (n : Number W) (j : ℕ) (s : Solved) → Bears history j s → Bears (history ++ n ∷ []) j s
  bears_on n j s b = (b.0, b.1, get_still history n b.0 b.1 b.2, b.3, b.4)

  pub numbered_more : (n : Number W) → n.id ≡ id → id < length h.nodes → (node_at h id).solved ≡ Some (record { number = suc (length history); pivots = n.pivots }) → IsNumbered W g history → IsNumbered W h (history ++ n ∷ [])
  numbered_more n is inside solved k = record {
    inside = λ place m e. elim (get_pushed history n place m e) [
      | inl old ↦ inside_on k place m old
      | inr new ↦ let at = ap (λ (x : Number W). x.id) new.1 in omega (arith, at, is, inside)
    ];
    on = λ place m e. elim (get_pushed history n place m e) [
      | inl old ↦ on_on k place m old
      | inr new ↦
          let at : id ≡ m.id = sym is ∙ ap (λ (x : Number W). x.id) new.1 in
          subst (λ (j : ℕ). (node_at h j).solved ≡ Some (record { number = suc place; pivots = m.pivots })) at (solved ∙ (λ i. Some (record { number = suc (sym new.0 i); pivots = (new.1 i).pivots })))
    ];
    only = λ j there s e. elim (which d g h id c j) [
      | inl same ↦
          let f : Some (record { number = suc (length history); pivots = n.pivots }) ≡ Some s = sym solved ∙ ap (λ (i : ℕ). (node_at h i).solved) same ∙ e in
          (length history, n, get_last history n, is ∙ same, some_same s (record { number = suc (length history); pivots = n.pivots }) f)
      | inr rest ↦ elim rest [
        | inl old ↦ bears_on n j s (k.only j old.0 s (sym (ap (λ (x : NodeValue). x.solved) (c.node j old.0 old.1)) ∙ e))
        | inr new ↦ let at = c.unsolved j new there in absurd (cc)
      ]
    ];
  }
    where
      some_same : (s t : Solved) → Some t ≡ Some s → s ≡ t
      some_same s t f = cc
