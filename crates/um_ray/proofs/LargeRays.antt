-- The denominator of a ray is the size of one of its numbers, so that one of these is too large where that is.
use Rattle.std.proofs.Common.{◌≡◌, ℕ, ◌^◌, ◌<◌, arith, ap, sym, subst, ◌∙◌, inl, inr, length}
use Rattle.std.specs.Prelude.{ℤ, pos, negsuc, ◌*ℤ◌, ◌<ℤ◌, unsigned_abs}
use Rattle.std.proofs.lemmas.Int.{ints}
use Rattle.um_laws.specs.Rational.{whole, mul}
use Rattle.um_model.specs.Values.{DeckValue}
use Rattle.um_model.specs.Boxes.{root}
use Rattle.um_model.specs.Feasible.{part}
use Rattle.um_lp.specs.States.{State, value_of}
use Rattle.um_lp.specs.WideStates.{common_denominator}
use Rattle.um_lp.specs.declared.board.Costs.TheVariants.{Given}
use Rattle.um_duality.specs.Laws.{IsOnBox}
use Rattle.um_duality.proofs.Wholes.{whole-mul, whole-same}
use Rattle.um_relax.specs.Limits.{AreSmall}
use Rattle.um_ray.specs.Directions.{directions}
use Rattle.um_ray.specs.Rays.{column_values, direction, slope}
use Rattle.um_ray.specs.Starts.{AreRayNumbers}
use Rattle.um_ray.proofs.Slopes.{scale, direction-length, part-is}
use Rattle.um_ray.proofs.Values.{some_unit}

module _ (d : DeckValue) (t : State) (on : IsOnBox (directions d) (root (directions d)) t) (given : t.costs ≡ Given) where
  abbrev den : ℕ
  den = common_denominator (column_values t)

  part_at : (j : ℕ) (z : ℤ) → j < length d.columns → value_of t j ≡ whole z → part (direction t) j ≡ pos den *ℤ z
  part_at j z l e = whole-same (part (direction t) j) (pos den *ℤ z) (part-is d t on j l ∙ ap (mul (scale t)) e ∙ sym (whole-mul (pos den) z))

  size_up : (x : ℤ) → x ≡ pos den *ℤ pos 1 → unsigned_abs x ≡ den
  size_up x e = omega (arith, ints, e)

  size_down : (x : ℤ) → x ≡ pos den *ℤ negsuc 0 → unsigned_abs x ≡ den
  size_down x e = omega (arith, ints, e)

  -- the size of some part is the denominator
  some_size : slope d t <ℤ pos 0 → (j : ℕ) × (j < length d.columns) × (unsigned_abs (part (direction t) j) ≡ den)
  some_size falls =
      let u = some_unit d t on given (λ e. absurd (omega (arith, ints, e, falls))) in
      (u.0, u.1, elim u.2 [ inl e ↦ size_up (part (direction t) u.0) (part_at u.0 (pos 1) u.1 e) | inr e ↦ size_down (part (direction t) u.0) (part_at u.0 (negsuc 0) u.1 e) ])

  pub too_large : slope d t <ℤ pos 0 → ¬ AreSmall (2 ^ 62) (column_values t) → ¬ AreRayNumbers (direction t)
  too_large falls large small =
      let s = some_size falls in
      let inside : s.0 < length (direction t) = (let l = s.1 in omega (arith, l, direction-length d t on)) in
      large (record { denominator = subst (λ (n : ℕ). n < 2 ^ 62) s.2 (small s.0 (pos 0) inside); multiples = small })
