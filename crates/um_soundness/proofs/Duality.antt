-- No feasible point of a box has an objective below the value of any multipliers there.
use Rattle.std.proofs.Common.{◌≡◌, ℕ, ◌+◌, ◌<◌, zero, suc, ℤ, pos, negsuc, ◌+ℤ◌, ◌-ℤ◌, ◌*ℤ◌, ◌≤ℤ◌, Bool, true, false, cond, ◌||◌, List, [], ◌∷◌, length, find, slice_get, Option, Some, None, is_none, unwrap_or, refl, subst, arith, if◌then◌else◌}
use Rattle.std.specs.Option.{option_map}
use Rattle.std.specs.List.{enumerate_from}
use Rattle.std.proofs.lemmas.Int.{ints}
use Rattle.um_laws.specs.Sums.{sum_of, dot}
use Rattle.um_laws.proofs.WholeLaws.{*ℤ-mono, *ℤ-anti, *ℤ-+ℤ}
use Rattle.um_laws.proofs.Polynomials.{Polynomial, term, number, ◌⊕◌, ◌⊖◌, ◌⊗◌, same, at_most, at_most_of}
use Rattle.um_model.specs.Values.{DeckValue, ColumnValue, PointValue}
use Rattle.um_multipliers.specs.PlainMultipliers.{MultipliersValue}
use Rattle.um_model.specs.WellFormed.{has_arc}
use Rattle.um_model.specs.Feasible.{part, Between, Feasible, linear_sum, square_sum, row_times}
use Rattle.um_model.specs.Objective.{cost_sum}
use Rattle.um_model.specs.Boxes.{BoxValue, Ends, ends_of}
use Rattle.um_model.specs.Rounding.{floor_div}
use Rattle.um_model.specs.LeafValue.{leaf_value, least, row_least_in, row_least, reduced_cost, reduced_square, linear_least, curve_least, curve_between, arc_least, total, leaf_total, is_endless_row, is_endless_column, leaf_of}
use Rattle.um_soundness.specs.Laws.{BoundLaw}
use Rattle.um_model.specs.declared.deck.Row.{Row}
use Rattle.um_multipliers.specs.declared.multipliers.Price.{Price}
use Rattle.um_model.specs.declared.leaf.Leaf.TheVariants.{Value}
use Rattle.um_laws.proofs.Places.{item_of}
use Rattle.um_soundness.proofs.Rounding.{floor_is}
use Rattle.um_soundness.proofs.VoidBoxes.{in_ends_of}
use Rattle.um_soundness.proofs.Curves.{square_up, curve_least-le}
use Rattle.um_soundness.proofs.Exchange.{squares, reduced_cost-sum, reduced_square-sum, no_square}

-- ---- what is there
is_there : {T : Type 0} (o : Option T) → is_none o ≡ false → (v : T) × (o ≡ Some v)
is_there None e = absurd (cc)
is_there (Some v) e = (v, refl)

worth : (o : Option ℤ) (v : ℤ) → o ≡ Some v → unwrap_or o (pos 0) ≡ v
worth None v e = absurd (cc)
worth (Some w) v e = cc

mapped : (f : ℤ → ℤ) (o : Option ℤ) (v : ℤ) → option_map f o ≡ Some v → (t : ℤ) × (o ≡ Some t) × (v ≡ f t)
mapped f None v e = absurd (cc)
mapped f (Some t) v e = (t, refl, cc)

-- none is found: the first item does not pass, and none of the rest
pub none_found : {X : Type 0} (test : X → Bool) (x : X) (xs : List X) → find test (x ∷ xs) ≡ None → (test x ≡ false) × (find test xs ≡ None)
none_found test x xs e = go (test x) refl e
  where
    go : (t : Bool) → test x ≡ t → cond t (Some x) (find test xs) ≡ None → (test x ≡ false) × (find test xs ≡ None)
    go true f e = absurd (cc)
    go false f e = (f, e)

neither : (a b : Bool) → (a || b) ≡ false → (a ≡ false) × (b ≡ false)
neither true b e = absurd (cc)
neither false b e = (refl, e)

-- ---- the least of k times a number
least-le : (k : ℤ) (low high : Option ℤ) (q x v : ℤ) → Between low high q x → least k low high ≡ Some v → (v *ℤ q) ≤ℤ (k *ℤ x)
least-le (pos zero) low high q x v b e = let z : v ≡ pos 0 = cc in rw z (omega (arith, ints))
least-le (pos (suc n)) low high q x v b e =
    let t = mapped (λ l. pos (suc n) *ℤ l) low v e in
    let m = *ℤ-mono (pos (suc n)) (t.0 *ℤ q) x (omega (arith, ints)) (b.above t.0 t.1) in
    let k : Polynomial = term (pos (suc n)) in
    rw t.2 (at_most (k ⊗ term t.0 ⊗ term q) (k ⊗ term x) (omega (arith, at_most_of (k ⊗ (term t.0 ⊗ term q)) (k ⊗ term x) m)))
least-le (negsuc n) low high q x v b e =
    let t = mapped (λ h. negsuc n *ℤ h) high v e in
    let m = *ℤ-anti (negsuc n) x (t.0 *ℤ q) (omega (arith, ints)) (b.below t.0 t.1) in
    let k : Polynomial = term (negsuc n) in
    rw t.2 (at_most (k ⊗ term t.0 ⊗ term q) (k ⊗ term x) (omega (arith, at_most_of (k ⊗ (term t.0 ⊗ term q)) (k ⊗ term x) m)))

-- ---- the rows
row-le : (d : DeckValue) (p : PointValue) (f : Feasible d p) (w : Price) (o : Option Row) (v : ℤ) → slice_get d.rows w.row ≡ o → row_least_in w o ≡ Some v
    → (v *ℤ (p.den *ℤ p.den)) ≤ℤ (pos 1000 *ℤ (w.value *ℤ row_times d p w.row))
row-le d p f w None v g e = absurd (cc)
row-le d p f w (Some r) v g e =
    let t = mapped (λ x. pos 1000 *ℤ x) (least w.value r.low r.high) v e in
    let i = item_of d.rows w.row r g in
    let holds : Between r.low r.high (p.den *ℤ p.den) (row_times d p w.row) = subst (λ (x : Row). Between x.low x.high (p.den *ℤ p.den) (row_times d p w.row)) (i.is r) (f.rows w.row r i.inside) in
    let h = least-le w.value r.low r.high (p.den *ℤ p.den) (row_times d p w.row) t.0 holds t.1 in
    let q : Polynomial = term (p.den *ℤ p.den) in
    let s : Polynomial = term w.value ⊗ term (row_times d p w.row) in
    rw t.2 (at_most (number 1000 ⊗ term t.0 ⊗ q) (number 1000 ⊗ s) (omega (arith, at_most_of (term t.0 ⊗ q) s h)))

rows-le : (d : DeckValue) (p : PointValue) (f : Feasible d p) (ps : List Price) → find (is_endless_row d) ps ≡ None
    → (total (row_least d) ps *ℤ (p.den *ℤ p.den)) ≤ℤ (pos 1000 *ℤ sum_of (λ (w : Price). w.value *ℤ row_times d p w.row) ps)
rows-le d p f [] e = omega (arith, ints)
rows-le d p f (w ∷ ws) e =
    let n = none_found (is_endless_row d) w ws e in
    let v = is_there (row_least d w) n.0 in
    let here = row-le d p f w (slice_get d.rows w.row) v.0 refl v.1 in
    let rest = rows-le d p f ws n.1 in
    let q : Polynomial = term (p.den *ℤ p.den) in
    let a : Polynomial = term (w.value *ℤ row_times d p w.row) in
    let b : Polynomial = term (sum_of (λ (w : Price). w.value *ℤ row_times d p w.row) ws) in
    let t : Polynomial = term (total (row_least d) ws) in
    rw (worth (row_least d w) v.0 v.1) (at_most ((term v.0 ⊕ t) ⊗ q) (number 1000 ⊗ (a ⊕ b)) (omega (arith, at_most_of (term v.0 ⊗ q) (number 1000 ⊗ a) here, at_most_of (t ⊗ q) (number 1000 ⊗ b) rest)))

-- what the multipliers make of the rows: coefficients and arcs apart
rows-apart : (d : DeckValue) (p : PointValue) (ps : List Price)
    → sum_of (λ (w : Price). w.value *ℤ row_times d p w.row) ps
    ≡ p.den *ℤ sum_of (λ (w : Price). w.value *ℤ linear_sum d w.row p.parts) ps +ℤ sum_of (λ (w : Price). w.value *ℤ square_sum d (Some w.row) p.parts) ps
rows-apart d p [] = omega (arith, ints)
rows-apart d p (w ∷ ws) =
    let W : Polynomial = term w.value in
    let Q : Polynomial = term p.den in
    let L : Polynomial = term (linear_sum d w.row p.parts) in
    let S : Polynomial = term (square_sum d (Some w.row) p.parts) in
    let here = same (W ⊗ (Q ⊗ L ⊕ S)) (Q ⊗ (W ⊗ L) ⊕ W ⊗ S) (omega arith) in
    omega (arith, ints, here, rows-apart d p ws, *ℤ-+ℤ p.den (w.value *ℤ linear_sum d w.row p.parts) (sum_of (λ (w : Price). w.value *ℤ linear_sum d w.row p.parts) ws))

-- ---- the columns
-- thousandths v and millionths w of a column are at most what it pays at x / q
abbrev Pays : ℤ → ℤ → ℤ → ℤ → ℤ → ℤ → Type 0
Pays q linear square x v w = ((pos 1000 *ℤ v +ℤ w) *ℤ (q *ℤ q)) ≤ℤ (pos 1000000 *ℤ (q *ℤ (linear *ℤ x) +ℤ square *ℤ (x *ℤ x)))

pays_line : (q linear x v : ℤ) (e : Ends) → pos 0 ≤ℤ q → Between e.low e.high q (pos 1000 *ℤ x) → least linear e.low e.high ≡ Some v → Pays q linear (pos 0) x v (pos 0)
pays_line q linear x v e positive b h =
    let l = least-le linear e.low e.high q (pos 1000 *ℤ x) v b h in
    let m = *ℤ-mono q (v *ℤ q) (linear *ℤ (pos 1000 *ℤ x)) positive l in
    let Q : Polynomial = term q in
    let L : Polynomial = term linear in
    let X : Polynomial = term x in
    at_most ((number 1000 ⊗ term v ⊕ number 0) ⊗ (Q ⊗ Q)) (number 1000000 ⊗ (Q ⊗ (L ⊗ X) ⊕ number 0 ⊗ (X ⊗ X))) (omega (arith, at_most_of (Q ⊗ (term v ⊗ Q)) (Q ⊗ (L ⊗ (number 1000 ⊗ X))) m))

pays_arc : (q linear square x w : ℤ) (low high : Option ℤ) → pos 0 ≤ℤ q → Between low high q (pos 1000 *ℤ x) → curve_between linear square low high ≡ Some w → Pays q linear square x (pos 0) w
pays_arc q linear square x w None high positive b h = absurd (cc)
pays_arc q linear square x w (Some low) None positive b h = absurd (cc)
pays_arc q linear square x w (Some low) (Some high) positive b h =
    let z : w ≡ curve_least linear square low high = cc in
    let l = curve_least-le linear square q (pos 1000 *ℤ x) low high positive (b.above low refl) (b.below high refl) in
    let Q : Polynomial = term q in
    let L : Polynomial = term linear in
    let S : Polynomial = term square in
    let X : Polynomial = term x in
    let C : Polynomial = term (curve_least linear square low high) in
    rw z (at_most ((number 1000 ⊗ number 0 ⊕ C) ⊗ (Q ⊗ Q)) (number 1000000 ⊗ (Q ⊗ (L ⊗ X) ⊕ S ⊗ (X ⊗ X)))
    (omega (arith, at_most_of (C ⊗ (Q ⊗ Q)) (number 1000 ⊗ L ⊗ (number 1000 ⊗ X ⊗ Q) ⊕ S ⊗ (number 1000 ⊗ X ⊗ (number 1000 ⊗ X))) l)))

column-le : (d : DeckValue) (b : BoxValue) (y : MultipliersValue) (q x v w : ℤ) (c : ℕ × ColumnValue) → pos 0 ≤ℤ q → Between (ends_of d b c.0).low (ends_of d b c.0).high q (pos 1000 *ℤ x)
    → linear_least d b y c ≡ Some v → arc_least d b y c ≡ Some w → Pays q (reduced_cost y c.1) (reduced_square d y c.0) x v w
column-le d b y q x v w c positive between linear_is arc_is = go (has_arc d.arcs c.0) refl linear_is arc_is
  where
    go : (t : Bool) → has_arc d.arcs c.0 ≡ t → (if t then Some (pos 0) else least (reduced_cost y c.1) (ends_of d b c.0).low (ends_of d b c.0).high) ≡ Some v
        → (if t then curve_between (reduced_cost y c.1) (reduced_square d y c.0) (ends_of d b c.0).low (ends_of d b c.0).high else Some (pos 0)) ≡ Some w → Pays q (reduced_cost y c.1) (reduced_square d y c.0) x v w
    go true h f g = let z : v ≡ pos 0 = cc in rw z (pays_arc q (reduced_cost y c.1) (reduced_square d y c.0) x w (ends_of d b c.0).low (ends_of d b c.0).high positive between g)
    go false h f g = let z : w ≡ pos 0 = cc in rw (z, no_square d y c.0 h) (pays_line q (reduced_cost y c.1) x v (ends_of d b c.0) positive between f)

columns-le : (d : DeckValue) (b : BoxValue) (y : MultipliersValue) (q : ℤ) (from : ℕ) (cs : List ColumnValue) (xs : List ℤ) → pos 0 ≤ℤ q → length xs ≡ length cs
    → ((i : ℕ) → i < length cs → Between (ends_of d b (from + i)).low (ends_of d b (from + i)).high q (pos 1000 *ℤ part xs i)) → find (is_endless_column d b y) (enumerate_from from cs) ≡ None
    → ((pos 1000 *ℤ total (linear_least d b y) (enumerate_from from cs) +ℤ total (arc_least d b y) (enumerate_from from cs)) *ℤ (q *ℤ q))
    ≤ℤ (pos 1000000 *ℤ (q *ℤ dot (reduced_cost y) cs xs +ℤ dot (λ (c : ℕ × ColumnValue). reduced_square d y c.0) (enumerate_from from cs) (squares xs)))
columns-le d b y q from [] xs positive n within e = at_most (number 0 ⊗ (term q ⊗ term q)) (number 1000000 ⊗ (term q ⊗ number 0 ⊕ number 0)) (omega arith)
columns-le d b y q from (c ∷ cs) [] positive n within e = absurd (omega arith)
columns-le d b y q from (c ∷ cs) (x ∷ xs) positive n within e =
    let t = none_found (is_endless_column d b y) (from, c) (enumerate_from (from + 1) cs) e in
    let u = neither (is_none (linear_least d b y (from, c))) (is_none (arc_least d b y (from, c))) t.0 in
    let v = is_there (linear_least d b y (from, c)) u.0 in
    let w = is_there (arc_least d b y (from, c)) u.1 in
    let first : Between (ends_of d b from).low (ends_of d b from).high q (pos 1000 *ℤ x) = subst (λ (j : ℕ). Between (ends_of d b j).low (ends_of d b j).high q (pos 1000 *ℤ x)) (let z : from + 0 ≡ from = omega arith in z) (within 0 (omega arith)) in
    let here = column-le d b y q x v.0 w.0 (from, c) positive first v.1 w.1 in
    let later = λ (i : ℕ) (h : i < length cs). subst (λ (j : ℕ). Between (ends_of d b j).low (ends_of d b j).high q (pos 1000 *ℤ part xs i)) (let z : from + suc i ≡ from + 1 + i = omega arith in z) (within (suc i) (omega arith)) in
    let rest = columns-le d b y q (from + 1) cs xs positive (omega arith) later t.1 in
    let Q : Polynomial = term q in
    let X : Polynomial = term x in
    let A : Polynomial = term (total (linear_least d b y) (enumerate_from (from + 1) cs)) in
    let B : Polynomial = term (total (arc_least d b y) (enumerate_from (from + 1) cs)) in
    let R : Polynomial = term (reduced_cost y c) in
    let S : Polynomial = term (reduced_square d y from) in
    let F : Polynomial = term (dot (reduced_cost y) cs xs) in
    let G : Polynomial = term (dot (λ (c : ℕ × ColumnValue). reduced_square d y c.0) (enumerate_from (from + 1) cs) (squares xs)) in
    rw (worth (linear_least d b y (from, c)) v.0 v.1) (rw (worth (arc_least d b y (from, c)) w.0 w.1)
    (at_most ((number 1000 ⊗ (term v.0 ⊕ A) ⊕ (term w.0 ⊕ B)) ⊗ (Q ⊗ Q)) (number 1000000 ⊗ (Q ⊗ (R ⊗ X ⊕ F) ⊕ (S ⊗ (X ⊗ X) ⊕ G)))
    (omega (arith, at_most_of ((number 1000 ⊗ term v.0 ⊕ term w.0) ⊗ (Q ⊗ Q)) (number 1000000 ⊗ (Q ⊗ (R ⊗ X) ⊕ S ⊗ (X ⊗ X))) here, at_most_of ((number 1000 ⊗ A ⊕ B) ⊗ (Q ⊗ Q)) (number 1000000 ⊗ (Q ⊗ F ⊕ G)) rest))))

-- ---- all together
-- r, c, a: rows, columns without arcs, columns with arcs in millionths; s, sq: what the multipliers make of the rows' sums; m, mq: costs and objective arcs
together : (q r c a fa s sq m mq y k : ℤ) → pos 0 ≤ℤ (q *ℤ q) → (fa *ℤ pos 1000) ≤ℤ a → (r *ℤ (q *ℤ q)) ≤ℤ (pos 1000 *ℤ (q *ℤ s +ℤ sq))
    → ((pos 1000 *ℤ c +ℤ a) *ℤ (q *ℤ q)) ≤ℤ (pos 1000000 *ℤ (q *ℤ (y *ℤ m -ℤ s) +ℤ (y *ℤ mq -ℤ sq)))
    → ((r +ℤ c +ℤ fa +ℤ pos 1000 *ℤ y *ℤ k) *ℤ (q *ℤ q)) ≤ℤ (pos 1000 *ℤ y *ℤ (q *ℤ m +ℤ mq +ℤ k *ℤ (q *ℤ q)))
together q r c a fa s sq m mq y k positive floor rows columns =
    let w = *ℤ-mono (q *ℤ q) (fa *ℤ pos 1000) a positive floor in
    let Q : Polynomial = term q in
    let M : Polynomial = term y ⊗ term m ⊖ term s in
    let MQ : Polynomial = term y ⊗ term mq ⊖ term sq in
    at_most ((term r ⊕ term c ⊕ term fa ⊕ number 1000 ⊗ term y ⊗ term k) ⊗ (Q ⊗ Q)) (number 1000 ⊗ term y ⊗ (Q ⊗ term m ⊕ term mq ⊕ term k ⊗ (Q ⊗ Q)))
    (omega (arith, at_most_of ((Q ⊗ Q) ⊗ (term fa ⊗ number 1000)) ((Q ⊗ Q) ⊗ term a) w, at_most_of (term r ⊗ (Q ⊗ Q)) (number 1000 ⊗ (Q ⊗ term s ⊕ term sq)) rows, at_most_of ((number 1000 ⊗ term c ⊕ term a) ⊗ (Q ⊗ Q)) (number 1000000 ⊗ (Q ⊗ M ⊕ MQ)) columns))

-- a value has no endless row and no endless column
pub record HasValue (row : Option Price) (column : Option (ℕ × ColumnValue)) (all value : ℤ) : Type 0 where
  pub rows : row ≡ None
  pub columns : column ≡ None
  pub is : value ≡ all

has_value : (row : Option Price) (column : Option (ℕ × ColumnValue)) (all value : ℤ) → leaf_of row column all ≡ Value value → HasValue row column all value
has_value (Some r) column all value e = absurd (cc)
has_value None (Some c) all value e = absurd (cc)
has_value None None all value e = record { rows = refl; columns = refl; is = cc }

pub bound-law : BoundLaw
unfolding leaf_value
bound-law d b y value p y0 e f inside =
    let cs = enumerate_from 0 d.columns in
    let h = has_value (find (is_endless_row d) y.rows) (find (is_endless_column d b y) cs) (leaf_total d b y) value e in
    let positive : pos 0 ≤ℤ p.den = omega (arith, ints, f.den) in
    let rows = subst (λ (z : ℤ). (total (row_least d) y.rows *ℤ (p.den *ℤ p.den)) ≤ℤ (pos 1000 *ℤ z)) (rows-apart d p y.rows) (rows-le d p f y.rows h.rows) in
    let within = λ (i : ℕ) (k : i < length d.columns). subst (λ (j : ℕ). Between (ends_of d b j).low (ends_of d b j).high p.den (pos 1000 *ℤ part p.parts i)) (let z : i ≡ 0 + i = omega arith in z) (in_ends_of d b p i inside k) in
    let columns = columns-le d b y p.den 0 d.columns p.parts positive f.parts within h.columns in
    let all = λ (z w : ℤ). ((pos 1000 *ℤ total (linear_least d b y) cs +ℤ total (arc_least d b y) cs) *ℤ (p.den *ℤ p.den)) ≤ℤ (pos 1000000 *ℤ (p.den *ℤ z +ℤ w)) in
    let columns' = subst (λ (z : ℤ). all z (dot (λ (c : ℕ × ColumnValue). reduced_square d y c.0) cs (squares p.parts))) (reduced_cost-sum d y p.parts) columns in
    let columns'' = subst (λ (w : ℤ). all (y.y0 *ℤ cost_sum d p.parts -ℤ sum_of (λ (w : Price). w.value *ℤ linear_sum d w.row p.parts) y.rows) w) (reduced_square-sum d y p.parts f.parts) columns' in
    let floor = floor_is (total (arc_least d b y) cs) 1000 (omega arith) in
    rw h.is (together p.den (total (row_least d) y.rows) (total (linear_least d b y) cs) (total (arc_least d b y) cs) (floor_div (total (arc_least d b y) cs) 1000)
    (sum_of (λ (w : Price). w.value *ℤ linear_sum d w.row p.parts) y.rows) (sum_of (λ (w : Price). w.value *ℤ square_sum d (Some w.row) p.parts) y.rows)
    (cost_sum d p.parts) (square_sum d None p.parts) y.y0 d.constant (square_up p.den) floor.at_most rows columns'')
