-- Items with names, in order.
use Rattle.std.specs.Prelude.{ℕ, zero, suc, List, [], ◌∷◌, Option, position, map}
use Rattle.std.specs.Str.{bytes_eq}
use Rattle.um_statements.specs.Statements.{Name}

-- the place of the item of this name
abbrev pub place_of : {V : Type 0} → List (Name × V) → Name → Option ℕ
place_of items name = position (bytes_eq name) (map (λ e. e.0) items)

-- the item at this place, changed
abbrev pub with_item : {V : Type 0} → List (Name × V) → ℕ → V → List (Name × V)
with_item [] i w = []
with_item (e ∷ es) zero w = (e.0, w) ∷ es
with_item (e ∷ es) (suc i) w = e ∷ with_item es i w
