-- The ends of columns with arcs, in the deck and in boxes that branches make.
use Rattle.std.proofs.Common.{◌≡◌, sym, subst, refl, ℕ, ◌<◌, ◌≤◌, ℤ, pos, ◌+ℤ◌, ◌*ℤ◌, ◌<ℤ◌, unsigned_abs, [], length, get_or, arith, Bool, true, false, cond, eqb-true, Option, Some, None, IsSomeAnd, inl, inr}
use Rattle.std.specs.Prelude.{◌==◌, IsSome}
use Rattle.std.specs.Option.{ForSome}
use Rattle.std.proofs.lemmas.Bool.{false≢true, cases_eq}
use Rattle.std.proofs.lemmas.Int.{ints}
use Rattle.std.proofs.lemmas.List.{get_or-map, get_or-set_same, get_or-set_other}
use Rattle.std.proofs.lemmas.List.Folds.{Any-from_list_any}
use Rattle.std.proofs.lemmas.Option.{slice_get-get_or}
use Rattle.um_model.specs.Values.{DeckValue, ColumnValue}
use Rattle.um_model.specs.WellFormed.{AtPlace, IsDeck, IsArc, IsWithin, has_arc}
use Rattle.um_model.specs.Boxes.{Ends, free, root, ends_at, ends_of, is_shut_out}
use Rattle.um_model.specs.Branches.{kind_of, FitsInt, FitsCut}
use Rattle.um_model.specs.declared.deck.Arc.{Arc}
use Rattle.um_model.specs.declared.deck.Kind.TheVariants.{Continuous, Semi}
use Rattle.um_box.specs.NodeBoxes.{NodeBoxValue, IsNodeBox, HasCurveEnds, put_ends}
use Rattle.um_box.proofs.EndSizes.{kind_at}

-- ---- in the deck

-- an arc of a column that has one
arc_of_column : (d : DeckValue) (column : ℕ) → IsDeck d → has_arc d.arcs column ≡ true → (a : Arc) × IsArc d a × (a.column ≡ column)
arc_of_column d column formed h =
    let some = Any-from_list_any (λ (a : Arc). a.column == column) d.arcs h in
    (some.1, subst (IsArc d) some.3 (formed.arcs some.0 some.1 some.2), eqb-true some.1.column column some.4)

there_within : (o : Option ℤ) → IsSome o → ForSome o (IsWithin 8000000) → IsSomeAnd o (IsWithin 8000000)
there_within None some within = absurd (false≢true some)
there_within (Some z) some within = within z refl

module _ (d : DeckValue) (column : ℕ) (formed : IsDeck d) (h : has_arc d.arcs column ≡ true) where
  abbrev arc : (a : Arc) × IsArc d a × (a.column ≡ column)
  arc = arc_of_column d column formed h

  pub arc_inside : column < length d.columns
  arc_inside = subst (λ (n : ℕ). n < length d.columns) arc.2 arc.1.column

  own_ends_of : (c : ColumnValue) → AtPlace d.columns column c → HasCurveEnds (record { low = c.low; high = c.high })
  own_ends_of c at =
      let here : AtPlace d.columns arc.0.column c = subst (λ (n : ℕ). AtPlace d.columns n c) (sym arc.2) at in
      let two = arc.1.ends c here in
      record { low = there_within c.low two.low (arc.1.low c here); high = there_within c.high two.high (arc.1.high c here) }

  -- the root's
  pub root_curve : HasCurveEnds (ends_at (root d) column)
  root_curve =
      let none : ColumnValue = record { name = []; kind = Continuous; low = None; high = None; cost = pos 0; entries = [] } in
      let c : ColumnValue = get_or d.columns column none in
      let there : ends_at (root d) column ≡ record { low = c.low; high = c.high } = get_or-map (λ (x : ColumnValue). record { low = x.low; high = x.high }) d.columns column none free arc_inside in
      subst HasCurveEnds (sym there) (own_ends_of c (slice_get-get_or d.columns column none arc_inside))

  -- a semicontinuous column has no arc
  pub not_semi : (threshold : ℤ) → ¬ (kind_of d column ≡ Some (Semi threshold))
  not_semi threshold e =
      let found = kind_at d.columns column (Semi threshold) e in
      let at : AtPlace d.columns column (get_or d.columns column found.0) = slice_get-get_or d.columns column found.0 found.1 in
      let here : AtPlace d.columns arc.0.column found.0 = subst (λ (n : ℕ). AtPlace d.columns n found.0) (sym arc.2) (subst (λ (c : ColumnValue). AtPlace d.columns column c) found.2 at) in
      arc.1.kind found.0 threshold here found.3

-- ---- in a box

chosen_curve : (t : Bool) (e : Ends) → HasCurveEnds e → HasCurveEnds (cond t (record { low = e.low; high = Some (pos 0) }) e)
chosen_curve true e h = record { low = h.low; high = omega arith }
chosen_curve false e h = h

-- the ends that a box gives
pub curve_ends : (b : NodeBoxValue) (column : ℕ) → IsNodeBox b → has_arc b.deck.arcs column ≡ true → HasCurveEnds (ends_of b.deck b.limits column)
curve_ends b column node h = chosen_curve (is_shut_out b.deck b.limits column) (ends_at b.limits column) (node.curves column h)

-- other ends in a box
pub curves_put : (b : NodeBoxValue) (column : ℕ) (e : Ends) → IsNodeBox b → column < length b.deck.columns → (has_arc b.deck.arcs column ≡ true → HasCurveEnds e)
    → (k : ℕ) → has_arc b.deck.arcs k ≡ true → HasCurveEnds (ends_at (put_ends b column e).limits k)
curves_put b column e node inside curve k h = elim (cases_eq k column) [
  | inl same ↦
      let each = node.ends in
      let there : ends_at (put_ends b column e).limits column ≡ e = get_or-set_same b.limits.ends column e free (omega arith) in
      subst (λ (n : ℕ). HasCurveEnds (ends_at (put_ends b column e).limits n)) (sym same) (subst HasCurveEnds (sym there) (curve (subst (λ (n : ℕ). has_arc b.deck.arcs n ≡ true) same h)))
  | inr other ↦ subst HasCurveEnds (sym (get_or-set_other b.limits.ends column k e free other)) (node.curves k h)
]

-- ---- where a branch fits

above : (o : Option ℤ) (z : ℤ) → IsSomeAnd o (IsWithin 8000000) → IsSomeAnd o (λ l. l <ℤ z) → pos 0 <ℤ (z +ℤ pos 8000000)
above None z within up = absurd up
above (Some l) z within up = omega (arith, ints, within, up)

below : (o : Option ℤ) (z : ℤ) → IsSomeAnd o (IsWithin 8000000) → IsSomeAnd o (λ h. z <ℤ h) → z <ℤ pos 8000000
below None z within down = absurd down
below (Some h) z within down = omega (arith, ints, within, down)

-- a cut
pub cut_curve : (b : NodeBoxValue) (column : ℕ) (at : ℤ) → IsNodeBox b → FitsCut b.deck b.limits column at → unsigned_abs at ≤ 8000000
cut_curve b column at node fits =
    let e = curve_ends b column node fits.arc in
    let low = above (ends_of b.deck b.limits column).low at e.low fits.low in
    let high = below (ends_of b.deck b.limits column).high at e.high fits.high in
    omega (arith, ints, low, high)

-- the next whole numbers of an integer column, in thousandths
pub record AreNextWithin (whole : ℤ) : Type 0 where
  pub here : unsigned_abs (pos 1000 *ℤ whole) ≤ 8000000
  pub next : unsigned_abs (pos 1000 *ℤ (whole +ℤ pos 1)) ≤ 8000000

pub int_curve : (b : NodeBoxValue) (column : ℕ) (whole : ℤ) → IsNodeBox b → FitsInt b.deck b.limits column whole → has_arc b.deck.arcs column ≡ true → AreNextWithin whole
int_curve b column whole node fits h =
    let e = curve_ends b column node h in
    let low = above (ends_of b.deck b.limits column).low (pos 1000 *ℤ (whole +ℤ pos 1)) e.low fits.low in
    let high = below (ends_of b.deck b.limits column).high (pos 1000 *ℤ whole) e.high fits.high in
    record { here = omega (arith, ints, low, high); next = omega (arith, ints, low, high) }
