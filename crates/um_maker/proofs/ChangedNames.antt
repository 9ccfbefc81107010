-- A change of the item of one name, where names are distinct.
use Rattle.std.proofs.Common.{◌≡◌, ℕ, zero, suc, ◌<◌, true, false, List, [], ◌∷◌, length, get_or, map, slice_get, Some, refl, sym, ap, ◌∙◌, if◌then◌else◌, arith}
use Rattle.std.specs.Str.{bytes_eq}
use Rattle.std.specs.List.{IsDistinct, AllByRecursion}
use Rattle.std.specs.Cmp.Lexicographic.{nat_list_eq_equiv}
use Rattle.std.proofs.lemmas.List.Quantifiers.{position-Some}
use Rattle.std.proofs.lemmas.Map.Keys.{IsDistinct-head, IsDistinct-tail}
use Rattle.um_statements.specs.Statements.{Name}
use Rattle.um_maker.specs.NamedLists.{place_of, with_item}

module _ {V W : Type 0} (seen : Name × V → W) (name_of : W → Name) (named : (e : Name × V) → name_of (seen e) ≡ e.0) (name : Name) where
  -- the first item of the name stands at this place
  abbrev FirstAt : List (Name × V) → ℕ → Type 0
  FirstAt [] i = ⊥
  FirstAt (e ∷ es) zero = bytes_eq name e.0 ≡ true
  FirstAt (e ∷ es) (suc i) = (bytes_eq name e.0 ≡ false) × FirstAt es i

  first_from : (es : List (Name × V)) (i : ℕ) → i < length (map (λ (e : Name × V). e.0) es) → bytes_eq name (get_or (map (λ (e : Name × V). e.0) es) i []) ≡ true
      → ((k : ℕ) → k < i → bytes_eq name (get_or (map (λ (e : Name × V). e.0) es) k []) ≡ false) → FirstAt es i
  first_from [] i within at below = absurd (omega (arith, within))
  first_from (e ∷ es) zero within at below = at
  first_from (e ∷ es) (suc i) within at below = (below 0 (omega arith), first_from es i (omega (arith, within)) at (λ k low. below (suc k) (omega (arith, low))))

  first_at : (es : List (Name × V)) (i : ℕ) → place_of es name ≡ Some i → FirstAt es i
  first_at es i place =
      let h = position-Some (bytes_eq name) (map (λ (e : Name × V). e.0) es) i [] place in
      first_from es i h.0 h.1 h.2

  -- the items of the name, changed so
  abbrev changed_so : (W → W) → List W → List W
  changed_so change ws = map (λ (w : W). if bytes_eq name (name_of w) then change w else w) ws

  -- no other item has the name
  none_behind : (own : Name) (es : List (Name × V)) → bytes_eq name own ≡ true → AllByRecursion (λ y. bytes_eq own y ≡ false) (map (λ (e : Name × V). e.0) es)
      → (change : W → W) → changed_so change (map seen es) ≡ map seen es
  none_behind own [] same apart change = refl
  none_behind own (e ∷ es) same apart change =
      let other : bytes_eq name (name_of (seen e)) ≡ false = ap (bytes_eq name) (named e) ∙ (nat_list_eq_equiv.congr name own e.0 same ∙ apart.0) in
      rw other (ap (λ (ws : List W). seen e ∷ ws) (none_behind own es same apart.1 change))

  change_first : (es : List (Name × V)) (i : ℕ) (part changed : V) (change : W → W) → FirstAt es i → slice_get (map (λ (e : Name × V). e.1) es) i ≡ Some part
      → IsDistinct bytes_eq (map (λ (e : Name × V). e.0) es) → ((n : Name) → change (seen (n, part)) ≡ seen (n, changed)) → map seen (with_item es i changed) ≡ changed_so change (map seen es)
  change_first [] i part changed change first value distinct is = absurd first
  change_first (e ∷ es) zero part changed change first value distinct is =
      let same : e.1 ≡ part = cc in
      let here : bytes_eq name (name_of (seen e)) ≡ true = ap (bytes_eq name) (named e) ∙ first in
      let one : change (seen e) ≡ seen (e.0, changed) = ap (λ (p : V). change (seen (e.0, p))) same ∙ is e.0 in
      rw (here, one) (ap (λ (ws : List W). seen (e.0, changed) ∷ ws) (sym (none_behind e.0 es first (IsDistinct-head bytes_eq e.0 (map (λ (p : Name × V). p.0) es) distinct) change)))
  change_first (e ∷ es) (suc i) part changed change first value distinct is =
      let other : bytes_eq name (name_of (seen e)) ≡ false = ap (bytes_eq name) (named e) ∙ first.0 in
      rw other (ap (λ (ws : List W). seen e ∷ ws) (change_first es i part changed change first.1 value (IsDistinct-tail bytes_eq e.0 (map (λ (p : Name × V). p.0) es) distinct) is))

  -- a change of the item at the place of the name is one of the items of the name
  pub change_one : (es : List (Name × V)) (i : ℕ) (part changed : V) (change : W → W) → place_of es name ≡ Some i → slice_get (map (λ (e : Name × V). e.1) es) i ≡ Some part
      → IsDistinct bytes_eq (map (λ (e : Name × V). e.0) es) → ((n : Name) → change (seen (n, part)) ≡ seen (n, changed)) → map seen (with_item es i changed) ≡ changed_so change (map seen es)
  change_one es i part changed change place value distinct is = change_first es i part changed change (first_at es i place) value distinct is
