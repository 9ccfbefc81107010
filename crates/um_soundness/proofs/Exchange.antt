-- What the columns pay under multipliers is what the objective and the rows pay: for the coefficients, and for the arcs.
use Rattle.std.proofs.Common.{◌≡◌, ℕ, ◌+◌, ◌<◌, ◌==◌, zero, suc, ℤ, pos, ◌+ℤ◌, ◌-ℤ◌, ◌*ℤ◌, Bool, true, false, cond, eqb, ◌&&◌, ◌||◌, List, [], ◌∷◌, length, map, Option, Some, None, refl, sym, ◌∙◌, ap, arith, if◌then◌else◌}
use Rattle.std.specs.List.{enumerate_from}
use Rattle.std.proofs.lemmas.Int.{ints}
use Rattle.std.proofs.lemmas.Bool.Decides.{nat_tests}
use Rattle.um_laws.specs.Sums.{sum_of, dot}
use Rattle.um_laws.proofs.SumLaws.{sum_of-same, sum_of-zero, dot--ℤ, dot-*ℤ, dot-sum_of}
use Rattle.um_model.specs.Values.{DeckValue, ColumnValue}
use Rattle.um_multipliers.specs.PlainMultipliers.{MultipliersValue}
use Rattle.um_model.specs.WellFormed.{has_arc}
use Rattle.um_model.specs.Feasible.{part, coefficient, linear_sum, is_arc_of, square_sum}
use Rattle.um_model.specs.Objective.{cost_sum}
use Rattle.um_model.specs.LeafValue.{reduced_cost, square_coefficient, reduced_square}
use Rattle.um_model.specs.declared.deck.Arc.{Arc}
use Rattle.um_multipliers.specs.declared.multipliers.Price.{Price}

-- ---- one exchange for both
exchange : {A : Type 0} (f : A → ℤ) (g : Price → A → ℤ) (y0 : ℤ) (ps : List Price) (xs : List A) (zs : List ℤ)
    → dot (λ x. y0 *ℤ f x -ℤ sum_of (λ (p : Price). p.value *ℤ g p x) ps) xs zs ≡ y0 *ℤ dot f xs zs -ℤ sum_of (λ (p : Price). p.value *ℤ dot (g p) xs zs) ps
exchange {A} f g y0 ps xs zs =
    dot--ℤ (λ (x : A). y0 *ℤ f x) (λ (x : A). sum_of (λ (p : Price). p.value *ℤ g p x) ps) xs zs
    ∙ ap (λ (z : ℤ). z -ℤ dot (λ (x : A). sum_of (λ (p : Price). p.value *ℤ g p x) ps) xs zs) (dot-*ℤ y0 f xs zs)
    ∙ ap (λ (z : ℤ). y0 *ℤ dot f xs zs -ℤ z)
    (dot-sum_of (λ (p : Price) (x : A). p.value *ℤ g p x) ps xs zs ∙ sum_of-same _ _ ps (λ p. dot-*ℤ p.value (g p) xs zs))

pub reduced_cost-sum : (d : DeckValue) (y : MultipliersValue) (parts : List ℤ)
    → dot (reduced_cost y) d.columns parts ≡ y.y0 *ℤ cost_sum d parts -ℤ sum_of (λ (p : Price). p.value *ℤ linear_sum d p.row parts) y.rows
reduced_cost-sum d y parts = exchange (λ (c : ColumnValue). c.cost) (λ (p : Price). coefficient p.row) y.y0 y.rows d.columns parts

-- ---- arcs
abbrev pub squares : List ℤ → List ℤ
squares parts = map (λ x. x *ℤ x) parts

-- the value of an arc at its own column
abbrev at_own : Bool → ℤ → ℕ → ℕ × ColumnValue → ℤ
at_own r v column c = if r && (column == c.0) then v else pos 0

unequal : (m n : ℕ) → m < n → eqb m n ≡ false
unequal m n h = grind (arith, nat_tests)

unequal_above : (m n : ℕ) → n < m → eqb m n ≡ false
unequal_above m n h = grind (arith, nat_tests)

equal : (m n : ℕ) → m ≡ n → eqb m n ≡ true
equal m n h = grind (arith, nat_tests)

and_false : (r : Bool) (v : ℤ) → cond (r && false) v (pos 0) ≡ pos 0
and_false true v = refl
and_false false v = refl

and_true : (r : Bool) (v : ℤ) → cond (r && true) v (pos 0) ≡ cond r v (pos 0)
and_true true v = refl
and_true false v = refl

cond_times : (r : Bool) (v z : ℤ) → cond r v (pos 0) *ℤ z ≡ cond r (v *ℤ z) (pos 0)
cond_times true v z = refl
cond_times false v z = omega (arith, ints)

pick_before : (r : Bool) (v : ℤ) (column from : ℕ) (cs : List ColumnValue) (zs : List ℤ) → column < from → dot (at_own r v column) (enumerate_from from cs) zs ≡ pos 0
pick_before r v column from [] zs h = refl
pick_before r v column from (c ∷ cs) [] h = refl
pick_before r v column from (c ∷ cs) (z ∷ zs) h = rw (unequal column from h, and_false r v) (omega (arith, ints, pick_before r v column (from + 1) cs zs (omega arith)))

pick_at : (r : Bool) (v : ℤ) (column from i : ℕ) (cs : List ColumnValue) (xs : List ℤ) → column ≡ from + i → length xs ≡ length cs
    → dot (at_own r v column) (enumerate_from from cs) (squares xs) ≡ cond r (v *ℤ (part xs i *ℤ part xs i)) (pos 0)
pick_at r v column from i [] [] h n = sym (cond_zero r)
  where
    cond_zero : (r : Bool) → cond r (v *ℤ (pos 0 *ℤ pos 0)) (pos 0) ≡ pos 0
    cond_zero true = omega (arith, ints)
    cond_zero false = refl
pick_at r v column from i [] (x ∷ xs) h n = absurd (omega arith)
pick_at r v column from i (c ∷ cs) [] h n = absurd (omega arith)
pick_at r v column from zero (c ∷ cs) (x ∷ xs) h n =
    rw (equal column from (omega arith), and_true r v) (omega (arith, ints, cond_times r v (x *ℤ x), pick_before r v column (from + 1) cs (squares xs) (omega arith)))
pick_at r v column from (suc i) (c ∷ cs) (x ∷ xs) h n =
    rw (unequal_above column from (omega arith), and_false r v) (omega (arith, ints, pick_at r v column (from + 1) i cs xs (omega arith) (omega arith)))

-- the arcs of a row, by columns
square_coefficient-sum : (d : DeckValue) (row : Option ℕ) (parts : List ℤ) → length parts ≡ length d.columns
    → dot (λ (c : ℕ × ColumnValue). square_coefficient d row c.0) (enumerate_from 0 d.columns) (squares parts) ≡ square_sum d row parts
square_coefficient-sum d row parts n =
    dot-sum_of (λ (a : Arc) (c : ℕ × ColumnValue). at_own (is_arc_of row a) a.value a.column c) d.arcs (enumerate_from 0 d.columns) (squares parts)
    ∙ sum_of-same _ _ d.arcs (λ a. pick_at (is_arc_of row a) a.value a.column 0 a.column d.columns parts (omega arith) n)

pub reduced_square-sum : (d : DeckValue) (y : MultipliersValue) (parts : List ℤ) → length parts ≡ length d.columns
    → dot (λ (c : ℕ × ColumnValue). reduced_square d y c.0) (enumerate_from 0 d.columns) (squares parts)
    ≡ y.y0 *ℤ square_sum d None parts -ℤ sum_of (λ (p : Price). p.value *ℤ square_sum d (Some p.row) parts) y.rows
reduced_square-sum d y parts n =
    exchange (λ (c : ℕ × ColumnValue). square_coefficient d None c.0) (λ (p : Price) (c : ℕ × ColumnValue). square_coefficient d (Some p.row) c.0) y.y0 y.rows (enumerate_from 0 d.columns) (squares parts)
    ∙ ap (λ (z : ℤ). y.y0 *ℤ z -ℤ sum_of (λ (p : Price). p.value *ℤ dot (λ (c : ℕ × ColumnValue). square_coefficient d (Some p.row) c.0) (enumerate_from 0 d.columns) (squares parts)) y.rows) (square_coefficient-sum d None parts n)
    ∙ ap (λ (z : ℤ). y.y0 *ℤ square_sum d None parts -ℤ z) (sum_of-same _ _ y.rows (λ p. ap (λ (z : ℤ). p.value *ℤ z) (square_coefficient-sum d (Some p.row) parts n)))

-- a column without arcs has no squares
none_squared : (row : Option ℕ) (column : ℕ) (arcs : List Arc) → has_arc arcs column ≡ false → sum_of (λ (a : Arc). if is_arc_of row a && (a.column == column) then a.value else pos 0) arcs ≡ pos 0
none_squared row column [] h = refl
none_squared row column (a ∷ as_) h = go (eqb a.column column) refl h (λ k. none_squared row column as_ k)
  where
    go : (t : Bool) → eqb a.column column ≡ t → (t || has_arc as_ column) ≡ false → (has_arc as_ column ≡ false → sum_of (λ (a : Arc). if is_arc_of row a && (a.column == column) then a.value else pos 0) as_ ≡ pos 0)
        → (cond (is_arc_of row a && eqb a.column column) a.value (pos 0) +ℤ sum_of (λ (a : Arc). if is_arc_of row a && (a.column == column) then a.value else pos 0) as_) ≡ pos 0
    go true e h rest = absurd (cc)
    go false e h rest = rw (e, and_false (is_arc_of row a) a.value) (omega (arith, ints, rest h))

pub no_square : (d : DeckValue) (y : MultipliersValue) (column : ℕ) → has_arc d.arcs column ≡ false → reduced_square d y column ≡ pos 0
no_square d y column h =
    let own = none_squared None column d.arcs h in
    let rows : sum_of (λ (p : Price). p.value *ℤ square_coefficient d (Some p.row) column) y.rows ≡ pos 0 =
    sum_of-same _ _ y.rows (λ p. ap (λ (z : ℤ). p.value *ℤ z) (none_squared (Some p.row) column d.arcs h) ∙ (let z : p.value *ℤ pos 0 ≡ pos 0 = omega (arith, ints) in z)) ∙ sum_of-zero y.rows in
    rw own (rw rows (omega (arith, ints)))
