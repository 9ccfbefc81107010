-- What a key says of the multipliers that it goes with: it is in order, and it gives their bound.
use Rattle.std.proofs.Common.{◌≡◌, ℕ, ◌<◌, ◌^◌, ◌≤ℤ◌, ◌<ℤ◌, ℤ, pos, unsigned_abs, Bool, true, Option, Some, None, refl, sym, ap, ◌∙◌, subst, arith}
use Rattle.std.proofs.lemmas.Int.{ints}
use Rattle.um_laws.specs.Rational.{Rational}
use Rattle.um_multipliers.specs.PlainMultipliers.{plain_multipliers}
use Rattle.um_model.specs.Values.{DeckValue}
use Rattle.um_model.specs.Boxes.{BoxValue}
use Rattle.um_model.specs.LeafValue.{leaf_value, leaf_bound}
use Rattle.um_model.specs.Accepted.{bound_in}
use Rattle.um_model.specs.declared.leaf.Leaf.{Leaf}
use Rattle.um_model.specs.declared.leaf.Leaf.TheVariants.{Value, EndlessColumn, EndlessRow}
use Rattle.um_tree.specs.Growths.{GrowthValue}
use Rattle.um_cover.specs.Sites.{box_at}
use Rattle.um_nodes.specs.Keys.{IsKey}
use Rattle.um_nodes.specs.declared.open_nodes.Key.{Key}
use Rattle.um_nodes.specs.declared.open_nodes.OpenNode.{OpenNode}
use Rattle.um_progress.specs.Waits.{KeyIs, WaitsIn}
use Rattle.um_progress.specs.Searches.{IsEntryOf, IsLesser}
use Rattle.um_progress.specs.Stops.{Counts}

-- ---- the key is in order
key_from : (k : Key) (y0 : ℤ) → pos 0 ≤ℤ y0 → unsigned_abs y0 < 2 ^ 40 → k.y0 ≡ y0 → unsigned_abs k.value < 2 ^ 126 → IsKey k
key_from k y0 up small e value = record {
  y0 = subst (λ (z : ℤ). pos 0 ≤ℤ z) (sym e) up;
  y0_in = let f : unsigned_abs k.y0 ≡ unsigned_abs y0 = ap unsigned_abs e in omega (arith, f, small);
  value_in = omega (arith, value);
}

pub key_in_order : (leaf : Leaf) (y0 : ℤ) (k : Key) → pos 0 <ℤ y0 → unsigned_abs y0 < 2 ^ 40 → KeyIs leaf y0 k → unsigned_abs k.value < 2 ^ 126 → IsKey k
key_in_order (Value value) y0 k up small h size = key_from k y0 (omega (arith, ints)) small h.0 size
key_in_order (EndlessColumn column) y0 k up small h size = key_from k (pos 0) (omega (arith, ints)) (omega arith) h.0 size
key_in_order (EndlessRow row) y0 k up small h size = key_from k (pos 0) (omega (arith, ints)) (omega arith) h.0 size

pub entry_key : (d : DeckValue) (b : BoxValue) (id : ℕ) (w : OpenNode) → IsEntryOf d b id w → IsKey w.key
entry_key d b id w e = key_in_order (leaf_value d b (plain_multipliers w.y)) w.y.y0 w.key e.bounds.y0 e.bounds.small.y0 e.key e.size

pub waits_key : (d : DeckValue) (g : GrowthValue) (w : OpenNode) → WaitsIn d g w → IsKey w.key
waits_key d g w e = key_in_order (leaf_value d (box_at d g w.node) (plain_multipliers w.y)) w.y.y0 w.key e.bounds.y0 e.bounds.small.y0 e.key e.size

-- ---- the bound of a key
endless_bound : (d : DeckValue) (leaf : Leaf) (y0 : ℤ) (k : Key) → pos 0 <ℤ y0 → KeyIs leaf y0 k → k.y0 ≡ pos 0 → bound_in d y0 leaf ≡ None
endless_bound d (Value value) y0 k up h e = absurd (let a = h.0 in omega (arith, ints))
endless_bound d (EndlessColumn column) y0 k up h e = refl
endless_bound d (EndlessRow row) y0 k up h e = refl

some_bound : (d : DeckValue) (leaf : Leaf) (y0 : ℤ) (k : Key) → KeyIs leaf y0 k → ¬ (k.y0 ≡ pos 0) → bound_in d y0 leaf ≡ Some (leaf_bound d k.y0 k.value)
some_bound d (Value value) y0 k h some = (λ i. Some (leaf_bound d (sym h.0 i) (sym h.1 i)))
some_bound d (EndlessColumn column) y0 k h some = absurd (some h.0)
some_bound d (EndlessRow row) y0 k h some = absurd (some h.0)

module _ (d : DeckValue) (leaf : Leaf) (y0 : ℤ) (k : Key) (is : KeyIs leaf y0 k) (endless : Bool) (least : Option Rational) where
  -- a key without a bound makes the bounds endless
  pub counts_endless : pos 0 <ℤ y0 → k.y0 ≡ pos 0 → Counts endless least (bound_in d y0 leaf) true least
  counts_endless up none = subst (λ (o : Option Rational). Counts endless least o true least) (sym (endless_bound d leaf y0 k up is none)) (refl, refl)

  -- a key with one: x is the bound of its numbers, as the program has them
  pub counts_some : (x : Rational) (after : Option Rational) (own value : ℤ) → ¬ (k.y0 ≡ pos 0) → own ≡ k.y0 → value ≡ k.value → x ≡ leaf_bound d own value → IsLesser least x after → Counts endless least (bound_in d y0 leaf) endless after
  counts_some x after own value some e f at lesser =
      let bound : bound_in d y0 leaf ≡ Some x = some_bound d leaf y0 k is some ∙ (λ i. Some (leaf_bound d (sym e i) (sym f i))) ∙ ap (λ (r : Rational). Some r) (sym at) in
      subst (λ (o : Option Rational). Counts endless least o endless after) (sym bound) (refl, lesser)
