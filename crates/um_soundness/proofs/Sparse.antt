-- Reduced costs and squares by the entries and arcs of a column, as code takes them: each entry times the multiplier of its row.
use Rattle.std.proofs.Common.{◌≡◌, ℕ, ◌<◌, ◌==◌, suc, ℤ, pos, ◌+ℤ◌, ◌-ℤ◌, ◌*ℤ◌, Bool, true, false, cond, eqb, eqb-true, ◌&&◌, List, [], ◌∷◌, length, slice_index_or, Option, Some, None, refl, sym, ◌∙◌, ap, subst, arith, AllPairs, if◌then◌else◌}
use Rattle.std.specs.Prelude.{nat_eq}
use Rattle.std.specs.Option.{option_eq}
use Rattle.std.proofs.lemmas.Int.{ints}
use Rattle.std.proofs.lemmas.Bool.Decides.{nat_tests}
use Rattle.um_laws.specs.Sums.{sum_of}
use Rattle.um_laws.proofs.SumLaws.{sum_of-zero, sum_of-same, sum_of-*ℤ, sum_of-swap, sum_of-+ℤ}
use Rattle.um_laws.proofs.WholeLaws.{*ℤ-+ℤ}
use Rattle.um_laws.proofs.Polynomials.{term, number, ◌⊖◌, ◌⊗◌, same}
use Rattle.um_model.specs.Values.{DeckValue, ColumnValue}
use Rattle.um_multipliers.specs.PlainMultipliers.{MultipliersValue}
use Rattle.um_model.specs.Feasible.{coefficient}
use Rattle.um_model.specs.LeafValue.{reduced_cost, reduced_square}
use Rattle.um_model.specs.declared.deck.Entry.{Entry}
use Rattle.um_model.specs.declared.deck.Arc.{Arc}
use Rattle.um_multipliers.specs.declared.multipliers.Price.{Price}

-- the multiplier of a row, 0 where it is not named
abbrev pub price_at : ℕ → List Price → ℤ
price_at row [] = pos 0
price_at row (p ∷ ps) = if p.row == row then p.value else price_at row ps

-- the multiplier of an arc's row, and y0 taken the other way for the objective
abbrev pub price_of : MultipliersValue → Option ℕ → ℤ
price_of y None = y.y0
price_of y (Some row) = pos 0 -ℤ price_at row y.rows

-- the rows rise
abbrev pub RowsRise : List Price → Type 0
RowsRise ps = AllPairs (λ (a : Price) (b : Price). a.row < b.row) ps

-- ---- look-ups as sums
price_sum : ℕ → List Price → ℤ
price_sum row ps = sum_of (λ (p : Price). cond (eqb p.row row) p.value (pos 0)) ps

-- rows behind the first are above it
Lacks : ℕ → List Price → Type 0
Lacks row ps = (k : ℕ) (d : Price) → k < length ps → row < (slice_index_or ps k d).row

rise_tail : (p : Price) (ps : List Price) → RowsRise (p ∷ ps) → RowsRise ps
rise_tail p ps r i j d h l = r (suc i) (suc j) d (omega arith) (omega arith)

rise_head : (p : Price) (ps : List Price) → RowsRise (p ∷ ps) → Lacks p.row ps
unfolding Lacks
rise_head p ps r k d h = r 0 (suc k) d (omega arith) (omega arith)

unequal_above : (m n : ℕ) → n < m → eqb m n ≡ false
unequal_above m n h = grind (arith, nat_tests)

none_priced : (row : ℕ) (ps : List Price) → Lacks row ps → price_sum row ps ≡ pos 0
unfolding Lacks price_sum
none_priced row [] h = refl
none_priced row (p ∷ ps) h = rw (unequal_above p.row row (h 0 p (omega arith))) (omega (arith, ints, none_priced row ps (λ k d l. h (suc k) d (omega arith))))

pick_first : (b : Bool) (x s t : ℤ) → (b ≡ true → s ≡ pos 0) → s ≡ t → cond b x t ≡ cond b x (pos 0) +ℤ s
pick_first true x s t h e = omega (arith, ints, h refl)
pick_first false x s t h e = omega (arith, ints)

price_at-sum : (row : ℕ) (ps : List Price) → RowsRise ps → price_at row ps ≡ price_sum row ps
unfolding price_sum
price_at-sum row [] h = refl
price_at-sum row (p ∷ ps) h =
    pick_first (eqb p.row row) p.value (price_sum row ps) (price_at row ps) (λ e. none_priced row ps (subst (λ (r : ℕ). Lacks r ps) (eqb-true p.row row e) (rise_head p ps h))) (sym (price_at-sum row ps (rise_tail p ps h)))

price_at-sum' : (row : ℕ) (ps : List Price) → RowsRise ps → price_at row ps ≡ sum_of (λ (p : Price). cond (eqb p.row row) p.value (pos 0)) ps
unfolding price_sum
price_at-sum' row ps h = price_at-sum row ps h

-- ---- the exchange of rows and entries
same_test : (m n : ℕ) → eqb m n ≡ eqb n m
same_test m n = grind (arith, nat_tests)

pick_swap : (b c : Bool) (x y : ℤ) → b ≡ c → x *ℤ cond b y (pos 0) ≡ y *ℤ cond c x (pos 0)
pick_swap true true x y e = omega (arith, ints)
pick_swap false false x y e = omega (arith, ints)
pick_swap true false x y e = absurd (cc)
pick_swap false true x y e = absurd (cc)

by_entries : (c : ColumnValue) (ps : List Price) → sum_of (λ (p : Price). p.value *ℤ coefficient p.row c) ps ≡ sum_of (λ (e : Entry). e.value *ℤ price_sum e.row ps) c.entries
unfolding price_sum
by_entries c ps =
    sum_of-same _ _ ps (λ p. sym (sum_of-*ℤ p.value (λ (e : Entry). cond (eqb e.row p.row) e.value (pos 0)) c.entries))
    ∙ sum_of-swap (λ (p : Price) (e : Entry). p.value *ℤ cond (eqb e.row p.row) e.value (pos 0)) ps c.entries
    ∙ sum_of-same _ _ c.entries (λ e. sum_of-same _ _ ps (λ p. pick_swap (eqb e.row p.row) (eqb p.row e.row) p.value e.value (same_test e.row p.row)) ∙ sum_of-*ℤ e.value (λ (p : Price). cond (eqb p.row e.row) p.value (pos 0)) ps)

-- a reduced cost by the column's entries
pub reduced_cost-by_entries : (y : MultipliersValue) (c : ColumnValue) → RowsRise y.rows → reduced_cost y c ≡ y.y0 *ℤ c.cost -ℤ sum_of (λ (e : Entry). e.value *ℤ price_at e.row y.rows) c.entries
reduced_cost-by_entries y c h = ap (λ (z : ℤ). y.y0 *ℤ c.cost -ℤ z) (by_entries c y.rows ∙ sum_of-same _ _ c.entries (λ e. ap (λ (z : ℤ). e.value *ℤ z) (sym (price_at-sum e.row y.rows h))))

-- ---- the same for arcs
-- what an arc adds to the square of a column
abbrev pub arc_share : MultipliersValue → ℕ → Arc → ℤ
arc_share y column a = if a.column == column then price_of y a.row *ℤ a.value else pos 0

-- the arc of a column in a row
abbrev arc_pick : Option ℕ → Bool → Option ℕ → ℤ → ℤ
arc_pick row own arc_row v = cond (option_eq nat_eq arc_row row && own) v (pos 0)

zero_sum : (g : Price → ℤ) (ps : List Price) → ((p : Price) → g p ≡ pos 0) → sum_of (λ (p : Price). p.value *ℤ g p) ps ≡ pos 0
zero_sum g ps h = sum_of-same (λ (p : Price). p.value *ℤ g p) (λ _. pos 0) ps (λ p. rw (h p) (omega (arith, ints))) ∙ sum_of-zero ps

and_false : (b : Bool) (v : ℤ) → cond (b && false) v (pos 0) ≡ pos 0
and_false true v = refl
and_false false v = refl

and_true : (b : Bool) (v : ℤ) → cond (b && true) v (pos 0) ≡ cond b v (pos 0)
and_true true v = refl
and_true false v = refl

-- one arc
one_arc : (y : MultipliersValue) (arc_row : Option ℕ) (own : Bool) (v : ℤ) → RowsRise y.rows
    → y.y0 *ℤ arc_pick None own arc_row v -ℤ sum_of (λ (p : Price). p.value *ℤ arc_pick (Some p.row) own arc_row v) y.rows ≡ cond own (price_of y arc_row *ℤ v) (pos 0)
one_arc y None true v h = rw (zero_sum (λ (p : Price). arc_pick (Some p.row) true None v) y.rows (λ p. refl)) (omega (arith, ints))
one_arc y None false v h = rw (zero_sum (λ (p : Price). arc_pick (Some p.row) false None v) y.rows (λ p. refl)) (omega (arith, ints))
one_arc y (Some r) false v h = rw (zero_sum (λ (p : Price). arc_pick (Some p.row) false (Some r) v) y.rows (λ p. and_false (eqb r p.row) v)) (omega (arith, ints))
one_arc y (Some r) true v h =
    let rows : sum_of (λ (p : Price). p.value *ℤ arc_pick (Some p.row) true (Some r) v) y.rows ≡ v *ℤ price_at r y.rows =
    sum_of-same _ _ y.rows (λ p. ap (λ (z : ℤ). p.value *ℤ z) (and_true (eqb r p.row) v) ∙ pick_swap (eqb r p.row) (eqb p.row r) p.value v (same_test r p.row))
    ∙ sum_of-*ℤ v (λ (p : Price). cond (eqb p.row r) p.value (pos 0)) y.rows ∙ ap (λ (z : ℤ). v *ℤ z) (sym (price_at-sum' r y.rows h)) in
    rw rows (same (term y.y0 ⊗ number 0 ⊖ term v ⊗ term (price_at r y.rows)) ((number 0 ⊖ term (price_at r y.rows)) ⊗ term v) (omega arith))

by_arcs : (y : MultipliersValue) (column : ℕ) (arcs : List Arc) → RowsRise y.rows
    → y.y0 *ℤ sum_of (λ (a : Arc). arc_pick None (a.column == column) a.row a.value) arcs -ℤ sum_of (λ (p : Price). p.value *ℤ sum_of (λ (a : Arc). arc_pick (Some p.row) (a.column == column) a.row a.value) arcs) y.rows
    ≡ sum_of (arc_share y column) arcs
by_arcs y column [] h = rw (zero_sum (λ _. pos 0) y.rows (λ p. refl)) (omega (arith, ints))
by_arcs y column (a ∷ as_) h =
    let rest = by_arcs y column as_ h in
    let here = one_arc y a.row (a.column == column) a.value h in
    let A : ℤ = arc_pick None (a.column == column) a.row a.value in
    let B : ℤ = sum_of (λ (a : Arc). arc_pick None (a.column == column) a.row a.value) as_ in
    let f = λ (p : Price). arc_pick (Some p.row) (a.column == column) a.row a.value in
    let g = λ (p : Price). sum_of (λ (a : Arc). arc_pick (Some p.row) (a.column == column) a.row a.value) as_ in
    let rows : sum_of (λ (p : Price). p.value *ℤ (f p +ℤ g p)) y.rows ≡ sum_of (λ (p : Price). p.value *ℤ f p) y.rows +ℤ sum_of (λ (p : Price). p.value *ℤ g p) y.rows =
    sum_of-same _ _ y.rows (λ p. *ℤ-+ℤ p.value (f p) (g p)) ∙ sum_of-+ℤ (λ (p : Price). p.value *ℤ f p) (λ (p : Price). p.value *ℤ g p) y.rows in
    omega (arith, ints, rows, rest, here, *ℤ-+ℤ y.y0 A B)

pub reduced_square-by_arcs : (d : DeckValue) (y : MultipliersValue) (column : ℕ) → RowsRise y.rows → reduced_square d y column ≡ sum_of (arc_share y column) d.arcs
reduced_square-by_arcs d y column h = by_arcs y column d.arcs h
