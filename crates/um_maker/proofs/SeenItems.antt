-- Items with names, seen one by one: what stands at a place, and at the end.
use Rattle.std.proofs.Common.{◌≡◌, ℕ, zero, suc, ◌-◌, Bool, false, List, [], ◌∷◌, map, length, None, Some, refl, sym, ap, ◌∙◌, slice_get, option_map, arith}
use Rattle.um_statements.specs.Statements.{Name}
use Rattle.um_statements.specs.CallRules.{last_has, change_last}
use Rattle.um_maker.specs.NamedLists.{with_item}

pub behind : {V : Type 0} (e f : Name × V) (items : List (Name × V)) → length (e ∷ (f ∷ items)) - 1 ≡ suc (length (f ∷ items) - 1)
behind e f items = omega arith

module _ {V W : Type 0} (seen : Name × V → W) where
  -- what is seen at a place is seen of the item there
  pub seen_at : {A : Type 0} (f : W → A) (x : A) (items : List (Name × V)) (i : ℕ) (part : V) → slice_get (map (λ (e : Name × V). e.1) items) i ≡ Some part
      → ((n : Name) → f (seen (n, part)) ≡ x) → option_map f (slice_get (map seen items) i) ≡ Some x
  seen_at f x [] i part at is = cc
  seen_at {A = A} f x (e ∷ items) zero part at is =
      let same : e.1 ≡ part = cc in ap (λ (p : V). Some (f (seen (e.0, p)))) same ∙ ap (λ (y : A). Some y) (is e.0)
  seen_at f x (e ∷ items) (suc i) part at is = seen_at f x items i part at is

  -- the last thing seen is that of the last item
  pub last_seen : (test : W → Bool) (b : Bool) (items : List (Name × V)) (part : V) → Some part ≡ option_map (λ (e : Name × V). e.1) (slice_get items (length items - 1))
      → ((n : Name) → test (seen (n, part)) ≡ b) → last_has test (map seen items) ≡ b
  last_seen test b [] part last is = cc
  last_seen test b (e ∷ []) part last is = let same : e.1 ≡ part = cc in ap (λ (p : V). test (seen (e.0, p))) same ∙ is e.0
  last_seen test b (e ∷ (f ∷ items)) part last is =
      last_seen test b (f ∷ items) part (last ∙ ap (λ k. option_map (λ (p : Name × V). p.1) (slice_get (e ∷ (f ∷ items)) k)) (behind e f items)) is

  pub none_seen : (test : W → Bool) (items : List (Name × V)) → None ≡ option_map (λ (e : Name × V). e.1) (slice_get items (length items - 1)) → last_has test (map seen items) ≡ false
  none_seen test [] none = refl
  none_seen test (e ∷ []) none = cc
  none_seen test (e ∷ (f ∷ items)) none = none_seen test (f ∷ items) (none ∙ ap (λ k. option_map (λ (p : Name × V). p.1) (slice_get (e ∷ (f ∷ items)) k)) (behind e f items))

  -- a change of the last item is one of the last thing seen
  pub last_changed : (change : W → W) (items : List (Name × V)) (part changed : V) → slice_get (map (λ (e : Name × V). e.1) items) (length items - 1) ≡ Some part
      → ((n : Name) → seen (n, changed) ≡ change (seen (n, part))) → map seen (with_item items (length items - 1) changed) ≡ change_last change (map seen items)
  last_changed change [] part changed last by = refl
  last_changed change (e ∷ []) part changed last by =
      let same : e.1 ≡ part = cc in ap (λ (w : W). w ∷ []) (by e.0 ∙ ap (λ (p : V). change (seen (e.0, p))) (sym same))
  last_changed change (e ∷ (f ∷ items)) part changed last by =
      let k = behind e f items in
      let rest = last_changed change (f ∷ items) part changed (sym (ap (slice_get (map (λ (p : Name × V). p.1) (e ∷ (f ∷ items)))) k) ∙ last) by in
      ap (λ j. map seen (with_item (e ∷ (f ∷ items)) j changed)) k ∙ ap (λ (ws : List W). seen e ∷ ws) rest

-- the last item put back
pub last_same : {V : Type 0} (items : List (Name × V)) (part : V) → slice_get (map (λ (e : Name × V). e.1) items) (length items - 1) ≡ Some part → with_item items (length items - 1) part ≡ items
last_same [] part last = refl
last_same {V = V} (e ∷ []) part last =
    let same : e.1 ≡ part = cc in ap (λ (p : V). (e.0, p) ∷ []) (sym same)
last_same {V = V} (e ∷ (f ∷ items)) part last =
    let k = behind e f items in
    let rest = last_same (f ∷ items) part (sym (ap (slice_get (map (λ (p : Name × V). p.1) (e ∷ (f ∷ items)))) k) ∙ last) in
    ap (λ j. with_item (e ∷ (f ∷ items)) j part) k ∙ ap (λ (es : List (Name × V)). e ∷ es) rest
