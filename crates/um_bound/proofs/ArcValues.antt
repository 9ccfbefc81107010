-- The arc of a column: it has at most one, since all arcs are in the objective.
use Rattle.std.proofs.Common.{◌≡◌, ◌≢◌, ◌∙◌, ap, sym, subst, refl, ℕ, suc, ◌^◌, ℤ, pos, ◌+ℤ◌, ◌-ℤ◌, ◌*ℤ◌, List, [], ◌∷◌, get_or, arith, Bool, true, false, cond, Option, Some, None, eqb-true, to_z, of_z, w64}
use Rattle.std.specs.Prelude.{◌==◌, ◌&&◌, ◌||◌, if◌then◌else◌, find, option_map, All, AllPairs}
use Rattle.std.proofs.lemmas.Bool.{ne_eqb}
use Rattle.std.proofs.lemmas.Int.{ints, to_z-of_z, fits_signed_from_abs}
use Rattle.std.proofs.lemmas.Option.{same_Some, none-some}
use Rattle.std.proofs.lemmas.List.Elements.{All-head, All-tail}
use Rattle.um_laws.specs.Sums.{sum_of}
use Rattle.um_laws.proofs.SumLaws.{sum_of-same, sum_of-same_in, sum_of-zero}
use Rattle.um_model.specs.Values.{DeckValue}
use Rattle.um_model.specs.WellFormed.{IsArc, IsWithin, has_arc}
use Rattle.um_model.specs.Feasible.{is_arc_of}
use Rattle.um_model.specs.LeafValue.{square_coefficient, reduced_square}
use Rattle.um_model.specs.declared.deck.Arc.{Arc}
use Rattle.um_multipliers.specs.PlainMultipliers.{MultipliersValue}
use Rattle.um_multipliers.specs.declared.multipliers.Price.{Price}
use Rattle.um_deck.specs.Decks.{IsDeckNow}

abbrev pub found_arc : List Arc → ℕ → Option Arc
found_arc arcs column = find (λ (a : Arc). a.column == column) arcs

-- ---- whether there is one

has_on : (t : Bool) (x : Arc) (arcs : List Arc) (column : ℕ) (a : Arc) → cond t (Some x) (found_arc arcs column) ≡ Some a → (found_arc arcs column ≡ Some a → has_arc arcs column ≡ true) → (t || has_arc arcs column) ≡ true
has_on true x arcs column a e rest = refl
has_on false x arcs column a e rest = rest e

pub found_has : (arcs : List Arc) (column : ℕ) (a : Arc) → found_arc arcs column ≡ Some a → has_arc arcs column ≡ true
found_has [] column a e = absurd (none-some a e)
found_has (x ∷ arcs) column a e = has_on (x.column == column) x arcs column a e (found_has arcs column a)

none_on : (t : Bool) (x : Arc) (arcs : List Arc) (column : ℕ) → cond t (Some x) (found_arc arcs column) ≡ None → (found_arc arcs column ≡ None → has_arc arcs column ≡ false) → (t || has_arc arcs column) ≡ false
none_on true x arcs column e rest = absurd (none-some x (sym e))
none_on false x arcs column e rest = rest e

pub none_has : (arcs : List Arc) (column : ℕ) → found_arc arcs column ≡ None → has_arc arcs column ≡ false
none_has [] column e = refl
none_has (x ∷ arcs) column e = none_on (x.column == column) x arcs column e (none_has arcs column)

-- what is said of all arcs holds of the one that is found
found_on : (P : Arc → Type 0) (t : Bool) (x : Arc) (arcs : List Arc) (column : ℕ) (a : Arc) → P x → cond t (Some x) (found_arc arcs column) ≡ Some a → (found_arc arcs column ≡ Some a → P a) → P a
found_on P true x arcs column a here e rest = subst P (same_Some x a e) here
found_on P false x arcs column a here e rest = rest e

pub found_all : (P : Arc → Type 0) (arcs : List Arc) (column : ℕ) (a : Arc) → All P arcs → found_arc arcs column ≡ Some a → P a
found_all P [] column a all e = absurd (none-some a e)
found_all P (x ∷ arcs) column a all e = found_on P (x.column == column) x arcs column a (All-head P x arcs all) e (found_all P arcs column a (All-tail P x arcs all))

-- ---- its value is the column's square coefficient

abbrev IsOfObjective : Arc → Type 0
IsOfObjective a = a.row ≡ None

abbrev AreApart : Arc → Arc → Type 0
AreApart a b = (a.row ≡ b.row) → a.column ≢ b.column

-- what an arc adds to the square coefficient of a column in a row
abbrev square_term : Option ℕ → ℕ → Arc → ℤ
square_term row column a = if is_arc_of row a && (a.column == column) then a.value else pos 0

of_objective : (a : Arc) → IsOfObjective a → is_arc_of None a ≡ true
of_objective a e = ap (λ (row : Option ℕ). is_arc_of None (record a { row = row })) e

of_no_row : (row : ℕ) (a : Arc) → IsOfObjective a → is_arc_of (Some row) a ≡ false
of_no_row row a e = ap (λ (r : Option ℕ). is_arc_of (Some row) (record a { row = r })) e

other_term : (t u : Bool) (z : ℤ) → u ≡ false → (if t && u then z else pos 0) ≡ pos 0
other_term true u z e = ap (λ (b : Bool). if b then z else pos 0) e
other_term false u z e = refl

own_term : (t u : Bool) (z : ℤ) → t ≡ true → u ≡ true → (if t && u then z else pos 0) ≡ z
own_term t u z e f = ap (λ (b : Bool). if b && u then z else pos 0) e ∙ ap (λ (b : Bool). if b then z else pos 0) f

no_term : (t u : Bool) (z : ℤ) → t ≡ false → (if t && u then z else pos 0) ≡ pos 0
no_term t u z e = ap (λ (b : Bool). if b && u then z else pos 0) e

-- none of these arcs is the column's
no_more : (arcs : List Arc) (column : ℕ) → All (λ (a : Arc). a.column ≢ column) arcs → sum_of (square_term None column) arcs ≡ pos 0
no_more arcs column other =
    sum_of-same_in (square_term None column) (λ _. pos 0) arcs (λ k a l. let b = get_or arcs k a in other_term (is_arc_of None b) (b.column == column) b.value (ne_eqb b.column column (other k a l))) ∙ sum_of-zero arcs

pairs_tail : (x : Arc) (arcs : List Arc) → AllPairs AreApart (x ∷ arcs) → AllPairs AreApart arcs
pairs_tail x arcs apart i j d l m = apart (suc i) (suc j) d (omega (arith, l)) (omega (arith, m))

-- the arcs behind one of a column are of other columns
others : (x : Arc) (arcs : List Arc) (column : ℕ) → x.column ≡ column → All IsOfObjective (x ∷ arcs) → AllPairs AreApart (x ∷ arcs) → All (λ (a : Arc). a.column ≢ column) arcs
others x arcs column e objective apart k a l same =
    apart 0 (suc k) a (omega arith) (omega (arith, l)) (objective 0 a (omega arith) ∙ sym (objective (suc k) a (omega (arith, l)))) (e ∙ sym same)

square_step : (x : Arc) (arcs : List Arc) (column : ℕ) (a : Arc) → All IsOfObjective (x ∷ arcs) → AllPairs AreApart (x ∷ arcs) → (t : Bool) → (x.column == column) ≡ t → cond t (Some x) (found_arc arcs column) ≡ Some a
    → (found_arc arcs column ≡ Some a → sum_of (square_term None column) arcs ≡ a.value) → square_term None column x +ℤ sum_of (square_term None column) arcs ≡ a.value
square_step x arcs column a objective apart true h f rest =
    let term = own_term (is_arc_of None x) (x.column == column) x.value (of_objective x (objective 0 x (omega arith))) h in
    let none = no_more arcs column (others x arcs column (eqb-true x.column column h) objective apart) in
    let same : x.value ≡ a.value = ap (λ (b : Arc). b.value) (same_Some x a f) in
    omega (arith, ints, term, none, same)
square_step x arcs column a objective apart false h f rest =
    let term = other_term (is_arc_of None x) (x.column == column) x.value h in
    let behind = rest f in
    omega (arith, ints, term, behind)

pub square_found : (arcs : List Arc) (column : ℕ) (a : Arc) → All IsOfObjective arcs → AllPairs AreApart arcs → found_arc arcs column ≡ Some a → sum_of (square_term None column) arcs ≡ a.value
square_found [] column a objective apart e = absurd (none-some a e)
square_found (x ∷ arcs) column a objective apart e =
    square_step x arcs column a objective apart (x.column == column) refl e (square_found arcs column a (All-tail IsOfObjective x arcs objective) (pairs_tail x arcs apart))

-- no row has an arc
no_square : (d : DeckValue) (row column : ℕ) → All IsOfObjective d.arcs → square_coefficient d (Some row) column ≡ pos 0
no_square d row column objective =
    sum_of-same_in (square_term (Some row) column) (λ _. pos 0) d.arcs (λ k a l. let b = get_or d.arcs k a in no_term (is_arc_of (Some row) b) (b.column == column) b.value (of_no_row row b (objective k a l))) ∙ sum_of-zero d.arcs

times_zero : (a b : ℤ) → b ≡ pos 0 → a *ℤ b ≡ pos 0
times_zero a b e = ap (λ (z : ℤ). a *ℤ z) e ∙ (let zero_times : a *ℤ pos 0 ≡ pos 0 = omega (arith, ints) in zero_times)

-- the square that multipliers make of a column with this arc
pub reduced_square_is : (d : DeckValue) (y : MultipliersValue) (column : ℕ) (a : Arc) → IsDeckNow d → found_arc d.arcs column ≡ Some a → reduced_square d y column ≡ y.y0 *ℤ a.value
reduced_square_is d y column a h e =
    let own : square_coefficient d None column ≡ a.value = square_found d.arcs column a h.objective_arcs h.formed.distinct_arcs e in
    let paid : sum_of (λ (p : Price). p.value *ℤ square_coefficient d (Some p.row) column) y.rows ≡ pos 0 =
    sum_of-same (λ (p : Price). p.value *ℤ square_coefficient d (Some p.row) column) (λ _. pos 0) y.rows (λ p. times_zero p.value (square_coefficient d (Some p.row) column) (no_square d p.row column h.objective_arcs)) ∙ sum_of-zero y.rows in
    ap (λ (z : ℤ). y.y0 *ℤ z -ℤ sum_of (λ (p : Price). p.value *ℤ square_coefficient d (Some p.row) column) y.rows) own
    ∙ ap (λ (z : ℤ). y.y0 *ℤ a.value -ℤ z) paid ∙ (let less_zero : y.y0 *ℤ a.value -ℤ pos 0 ≡ y.y0 *ℤ a.value = omega (arith, ints) in less_zero)

-- ---- what the program finds

arc_found : (o : Option Arc) (v : ℤ) → Some v ≡ option_map (λ (a : Arc). a.value) o → (a : Arc) × (o ≡ Some a) × (a.value ≡ v)
arc_found None v e = absurd (none-some v (sym e))
arc_found (Some a) v e = (a, refl, sym (same_Some v a.value e))

no_arc_found : (o : Option Arc) → None ≡ option_map (λ (a : Arc). a.value) o → o ≡ None
no_arc_found None e = refl
no_arc_found (Some a) e = absurd (none-some a.value e)

module _ (d : DeckValue) (h : IsDeckNow d) (arcs : List Arc) (same : arcs ≡ d.arcs) (column : ℕ) where
  -- the column has no arc
  pub without_arc : None ≡ option_map (λ (a : Arc). a.value) (found_arc arcs column) → has_arc d.arcs column ≡ false
  without_arc e = none_has d.arcs column (no_arc_found (found_arc d.arcs column) (e ∙ ap (λ (as_ : List Arc). option_map (λ (a : Arc). a.value) (found_arc as_ column)) same))

  -- the column has an arc of this value
  module _ (v : ℤ) (e : Some v ≡ option_map (λ (a : Arc). a.value) (found_arc arcs column)) where
    there : (a : Arc) × (found_arc d.arcs column ≡ Some a) × (a.value ≡ v)
    there = arc_found (found_arc d.arcs column) v (e ∙ ap (λ (as_ : List Arc). option_map (λ (a : Arc). a.value) (found_arc as_ column)) same)

    pub with_arc : has_arc d.arcs column ≡ true
    with_arc = found_has d.arcs column there.0 there.1

    pub square_is : (y : MultipliersValue) → reduced_square d y column ≡ y.y0 *ℤ v
    square_is y = reduced_square_is d y column there.0 h there.1 ∙ ap (λ (z : ℤ). y.y0 *ℤ z) there.2

    pub arc_size : IsWithin (2 ^ 24) v
    arc_size = subst (IsWithin (2 ^ 24)) there.2 (found_all (IsArc d) d.arcs column there.0 h.formed.arcs there.1).size

    pub arc_held : to_z w64 (of_z w64 v) ≡ v
    arc_held = let small = arc_size in to_z-of_z w64 v (fits_signed_from_abs w64 v (omega (arith, small)))
