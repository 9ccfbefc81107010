-- The place of the node that comes first, and what is left where it is taken.
use Rattle.std.proofs.Common.{◌≡◌, ℕ, zero, suc, ◌+◌, ◌<◌, ◌⊎◌, inl, inr, List, [], ◌∷◌, ◌++◌, length, slice_index_or, take, drop, refl, sym, ap, ◌∙◌, subst, arith}
use Rattle.std.specs.Prelude.{All}
use Rattle.um_laws.proofs.Places.{below_or}
use Rattle.um_nodes.specs.Keys.{IsKey, AreKeys, Precedes}
use Rattle.um_nodes.specs.Taking.{IsTaken, IsFirstBelow}
use Rattle.um_nodes.specs.declared.open_nodes.Key.{Key}
use Rattle.um_nodes.specs.declared.open_nodes.OpenNode.{OpenNode}
use Rattle.um_nodes.proofs.KeyOrder.{precedes_chain, precedes_itself}

-- what is read of a place that is there does not depend on the default
read_same : {X : Type 0} (xs : List X) (k : ℕ) (d e : X) → k < length xs → slice_index_or xs k d ≡ slice_index_or xs k e
read_same [] k d e h = absurd (omega arith)
read_same (x ∷ xs) zero d e h = refl
read_same (x ∷ xs) (suc k) d e h = read_same xs k d e (omega arith)

last_or_below : (k n : ℕ) → k < n + 1 → (k < n) ⊎ (n ≡ k)
last_or_below k n h = elim (below_or k n) [ inl b ↦ inl b | inr a ↦ inr (omega arith) ]

module _ (nodes : List OpenNode) (keys : AreKeys nodes) (place first : ℕ) (inside : place < length nodes) (f : IsFirstBelow nodes place first) (x y : OpenNode) (x_is : x ≡ slice_index_or nodes place x) (y_is : y ≡ slice_index_or nodes first y) where
  here : (d : OpenNode) → slice_index_or nodes place d ≡ x
  here d = read_same nodes place d x inside ∙ sym x_is

  there : (d : OpenNode) → slice_index_or nodes first d ≡ y
  there d = let h = f.inside in read_same nodes first d y (omega arith) ∙ sym y_is

  abbrev key : ℕ → OpenNode → Key
  key k d = (slice_index_or nodes k d).key

  is_key : (k : ℕ) → k < length nodes → (d : OpenNode) → IsKey (key k d)
  is_key k h d = keys k d h

  -- the new place comes first
  pub new_first : Precedes x.key y.key → IsFirstBelow nodes (place + 1) place
  new_first p = record {
    inside = omega arith;
    before = λ d k h. elim (last_or_below k place h) [
      | inl below ↦
          let fi = f.inside in
          let q : Precedes (key place d) (key first d) = subst (λ (w : OpenNode). Precedes w.key (key first d)) (sym (here d)) (subst (λ (w : OpenNode). Precedes x.key w.key) (sym (there d)) p) in
          precedes_chain (key place d) (key first d) (key k d) (is_key place inside d) (is_key first (omega arith) d) (is_key k (omega arith) d) q (f.before d k below)
      | inr same ↦ subst (λ (j : ℕ). Precedes (key place d) (key j d)) same (precedes_itself (key place d) (is_key place inside d))
    ];
  }

  -- the old place still does
  pub still_first : Precedes y.key x.key → IsFirstBelow nodes (place + 1) first
  still_first p = record {
    inside = let fi = f.inside in omega arith;
    before = λ d k h. elim (last_or_below k place h) [
      | inl below ↦ f.before d k below
      | inr same ↦ subst (λ (j : ℕ). Precedes (key first d) (key j d)) same (subst (λ (w : OpenNode). Precedes w.key (key place d)) (sym (there d)) (subst (λ (w : OpenNode). Precedes y.key w.key) (sym (here d)) p))
    ];
  }

-- the first of one node
pub alone_first : (nodes : List OpenNode) → AreKeys nodes → 0 < length nodes → IsFirstBelow nodes 1 0
alone_first nodes keys some = record { inside = omega arith; before = λ d k h. let e : 0 ≡ k = omega arith in subst (λ (j : ℕ). Precedes (slice_index_or nodes 0 d).key (slice_index_or nodes j d).key) e (precedes_itself (slice_index_or nodes 0 d).key (keys 0 d some)) }

-- ---- taking it
around : {X : Type 0} (xs : List X) (k : ℕ) (x : X) → k < length xs → x ≡ slice_index_or xs k x → xs ≡ take k xs ++ x ∷ drop (suc k) xs
around [] k x h e = absurd (omega arith)
around (y ∷ ys) zero x h e = ap (λ (z : _). z ∷ ys) (sym e)
around (y ∷ ys) (suc k) x h e = ap (λ (zs : List _). y ∷ zs) (around ys k x (omega arith) e)

-- a node that stays stood somewhere
stood : {X : Type 0} (xs : List X) (place k : ℕ) (d : X) → place < length xs → k < length (take place xs ++ drop (suc place) xs) → (j : ℕ) × (j < length xs) × (slice_index_or xs j d ≡ slice_index_or (take place xs ++ drop (suc place) xs) k d)
stood [] place k d h b = absurd (omega arith)
stood (y ∷ ys) zero k d h b = (suc k, omega arith, refl)
stood (y ∷ ys) (suc place) zero d h b = (zero, omega arith, refl)
stood (y ∷ ys) (suc place) (suc k) d h b = let r = stood ys place k d (omega arith) (omega arith) in (suc r.0, (let g = r.1 in omega arith), r.2)

pub taken : (nodes after : List OpenNode) (place : ℕ) (x : OpenNode) → IsFirstBelow nodes (length nodes) place → x ≡ slice_index_or nodes place x → after ≡ take place nodes ++ drop (place + 1) nodes → IsTaken nodes x after
taken nodes after place x f is given = record {
  front = take place nodes;
  behind = drop (suc place) nodes;
  before_is = around nodes place x f.inside is;
  after_is = left;
  first = subst (All (λ (v : OpenNode). Precedes x.key v.key)) (sym left) (λ k d h.
      let s = stood nodes place k d f.inside h in
      subst (λ (w : OpenNode). Precedes w.key (slice_index_or (take place nodes ++ drop (suc place) nodes) k d).key) (read_same nodes place d x f.inside ∙ sym is)
      (subst (λ (w : OpenNode). Precedes (slice_index_or nodes place d).key w.key) s.2 (f.before d s.0 s.1)));
}
  where
    left : after ≡ take place nodes ++ drop (suc place) nodes
    left = let e : place + 1 ≡ suc place = omega arith in subst (λ (n : ℕ). after ≡ take place nodes ++ drop n nodes) e given
