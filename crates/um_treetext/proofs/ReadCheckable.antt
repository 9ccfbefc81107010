-- What is read can be checked: its parts speak of rows and columns that the deck has.
use Rattle.std.proofs.Common.{◌≡◌, ℕ, zero, suc, ◌+◌, ◌<◌, ◌≤◌, Bool, true, false, ℤ, pos, negsuc, ◌≤ℤ◌, List, [], ◌∷◌, length, Option, Some, None, Result, Ok, Err, IfOk, if◌then◌else◌, refl, ap, arith}
use Rattle.std.specs.Prelude.{All, IfSome, codes, drop, not, nat_lt, nat_le, nat_eq, unsigned_abs, ◌||◌}
use Rattle.std.specs.List.{before_first, after_first}
use Rattle.std.proofs.lemmas.Bool.{not-false, or_parts, ltb-false, leb-true, leb-false}
use Rattle.std.proofs.lemmas.Int.{ints}
use Rattle.std.proofs.lemmas.List.Elements.{All-cons, All-nil, All-weaker}
use Rattle.std.proofs.lemmas.List.Kept.{AllPairs-cons}
use Rattle.um_num.specs.Numbers.{in_range, then_step}
use Rattle.um_multipliers.specs.NormalForm.{HasRisingRows}
use Rattle.um_multipliers.specs.PlainMultipliers.{MultipliersValue}
use Rattle.um_multipliers.specs.declared.multipliers.Price.{Price}
use Rattle.um_model.specs.Values.{DeckValue, PointValue}
use Rattle.um_model.specs.AnswerValues.{AnswerValue, NodeValue, WhatValue, Bounded, Empty, OpenLeaf}
use Rattle.um_model.specs.Checkable.{IsCheckable, IsCheckablePoint, IsCheckableWhat}
use Rattle.um_model.specs.declared.branch.Branch.{Branch}
use Rattle.um_model.specs.declared.branch.Branch.TheVariants as branch
use Rattle.um_treetext.specs.declared.reading.nodes.WhatWord.{WhatWord}
use Rattle.um_treetext.specs.declared.reading.nodes.WhatWord.TheVariants as what
use Rattle.um_treetext.specs.Words.{Words, Says, Taken, numeral, taking, is_next, over, labelled, is_at_least, from_zero_word}
use Rattle.um_treetext.specs.FrontLines.{numbers, den_said, point_said, point_line, ray_said, ray_line, nodes_line}
use Rattle.um_treetext.specs.NodeLines.{is_colon, has_one_colon, price_parts_said, price_of, price_said, prices_said, multipliers_said, zero_word, index_said, column_said, cut_said, set_said, semi_said, void_said, shown_said, split_said, what_called, what_said, became_said, solved_said, node_line}
use Rattle.um_treetext.specs.Reading.{Pieces, Read, ValuesSaid, at_line, next_line_said, front_read, values_read, nodes_read, end_read, pieces_read, tree_read}

-- ---- steps

then_steps : {A B E : Type 0} (P : A → Type 0) (Q : B → Type 0) (said : Result A E) (more : A → Result B E) → IfOk said P → ((x : A) → P x → IfOk (more x) Q) → IfOk (then_step said more) Q
then_steps P Q (Ok x) more h k = k x h
then_steps P Q (Err fault) more h k = tt

-- where nothing of the first step is asked
then_any : {A B E : Type 0} (Q : B → Type 0) (said : Result A E) (more : A → Result B E) → ((x : A) → IfOk (more x) Q) → IfOk (then_step said more) Q
then_any Q (Ok x) more k = k x
then_any Q (Err fault) more k = tt

then_if : {A E : Type 0} (P : A → Type 0) (b : Bool) (x y : Result A E) → (b ≡ true → IfOk x P) → (b ≡ false → IfOk y P) → IfOk (if b then x else y) P
then_if P true x y h k = h refl
then_if P false x y h k = k refl

of_taking : {A : Type 0} (P : A → Type 0) (says : List ℕ → Says A) → ((word : List ℕ) → IfOk (says word) P) → (ws : Words) → IfOk (taking says ws) (λ (t : Taken A). P t.value)
unfolding taking
of_taking {A} P says h ws = then_any (λ (t : Taken A). P t.value) _ _ (λ w. then_steps P (λ (t : Taken A). P t.value) (says w.value) _ (h w.value) (λ v is. is))

of_over : {A : Type 0} (P : A → Type 0) (value : A) (ws : Words) → P value → IfOk (over value ws) P
of_over P value [] is = is
of_over P value (w ∷ ws) is = tt

of_labelled : {A : Type 0} (P : A → Type 0) (label : List ℕ) (says : Words → Says A) → ((ws : Words) → IfOk (says ws) P) → (ws : Words) → IfOk (labelled label says ws) P
of_labelled P label says h ws = then_any P _ says h

of_line : {A : Type 0} (P : A → Type 0) (number : ℕ) (said : Says A) → IfOk said P → IfOk (at_line number said) P
of_line P number (Ok x) h = h
of_line P number (Err fault) h = tt

of_next : {A : Type 0} (P : A → Type 0) (says : Words → Says A) → ((ws : Words) → IfOk (says ws) P) → (before : ℕ) (ps : Pieces) → IfOk (next_line_said says before ps) (λ (r : Read A). P r.value)
unfolding next_line_said
of_next {A} P says h before ps = then_any (λ (r : Read A). P r.value) _ _ (λ line.
    then_steps P (λ (r : Read A). P r.value) (at_line (before + 1) (says line.value)) _ (of_line P (before + 1) (says line.value) (h line.value)) (λ v is. is))

-- ---- the point and the ray

-- a number for each column
abbrev AreMany : ℕ → List ℤ → Type 0
AreMany columns parts = length parts ≡ columns

many_more : (n : ℕ) (x : ℤ) (xs : List ℤ) → length xs ≡ n → length (x ∷ xs) ≡ suc n
many_more n x xs e = ap suc e

of_numbers : (n : ℕ) (ws : Words) → IfOk (numbers n ws) (λ (t : Taken (List ℤ)). AreMany n t.value)
unfolding numbers
of_numbers zero ws = refl
of_numbers (suc n) ws = then_any (λ (t : Taken (List ℤ)). AreMany (suc n) t.value) _ _ (λ t.
    then_steps (λ (more : Taken (List ℤ)). AreMany n more.value) (λ (all : Taken (List ℤ)). AreMany (suc n) all.value) _ _ (of_numbers n t.left) (λ more is. many_more n t.value more.value is))

from_one : (z : ℤ) → is_at_least 1 z ≡ true → pos 1 ≤ℤ z
from_one (pos n) e = let least = leb-true 1 n e in omega (arith, ints)
from_one (negsuc n) e = cc

of_den : (word : List ℕ) → IfOk (den_said word) (λ z. pos 1 ≤ℤ z)
unfolding den_said
of_den word = then_any (λ z. pos 1 ≤ℤ z) (numeral word) _ (λ z.
    then_if (λ z. pos 1 ≤ℤ z) (not (is_at_least 1 z)) _ _ (λ no. tt) (λ one.
    then_if (λ z. pos 1 ≤ℤ z) (not (in_range z)) _ _ (λ no. tt) (λ range. from_one z (not-false _ one))))

-- a point over a denominator from 1 on, with a part for each column
record IsPoint (columns : ℕ) (p : PointValue) : Type 0 where
  pub den : pos 1 ≤ℤ p.den
  pub parts : AreMany columns p.parts

of_point : (columns : ℕ) (ws : Words) → IfOk (point_said columns ws) (λ o. IfSome o (IsPoint columns))
of_point columns ws =
    then_if (λ o. IfSome o (IsPoint columns)) (is_next (codes "none") ws) _ _
    (λ e. of_over (λ o. IfSome o (IsPoint columns)) None (drop 1 ws) tt)
    (λ e. then_steps (λ (den : Taken ℤ). pos 1 ≤ℤ den.value) (λ o. IfSome o (IsPoint columns)) _ _ (of_taking (λ z. pos 1 ≤ℤ z) den_said of_den ws) (λ den positive.
    then_steps (λ (parts : Taken (List ℤ)). AreMany columns parts.value) (λ o. IfSome o (IsPoint columns)) _ _ (of_numbers columns den.left) (λ parts many.
    of_over (λ o. IfSome o (IsPoint columns)) (Some (record { den = den.value; parts = parts.value })) parts.left (record { den = positive; parts = many }))))

of_ray : (columns : ℕ) (ws : Words) → IfOk (ray_said columns ws) (λ o. IfSome o (AreMany columns))
of_ray columns ws =
    then_if (λ o. IfSome o (AreMany columns)) (is_next (codes "none") ws) _ _
    (λ e. of_over (λ o. IfSome o (AreMany columns)) None (drop 1 ws) tt)
    (λ e. then_if (λ o. IfSome o (AreMany columns)) (nat_eq columns 0) _ _ (λ e. tt) (λ e.
    then_steps (λ (parts : Taken (List ℤ)). AreMany columns parts.value) (λ o. IfSome o (AreMany columns)) _ _ (of_numbers columns ws) (λ parts many.
    of_over (λ o. IfSome o (AreMany columns)) (Some parts.value) parts.left many)))

-- ---- multipliers

-- a row from the next one on, and one of the deck
record IsNextRow (rows next : ℕ) (p : Price) : Type 0 where
  pub not_before : next ≤ p.row
  pub within : p.row < rows

of_price_of : (rows next : ℕ) (p : ℕ × ℤ) → IfOk (price_of rows next p) (IsNextRow rows next)
of_price_of rows next p = then_if (IsNextRow rows next) (nat_lt p.0 next || nat_eq (unsigned_abs p.1) 0 || nat_le rows p.0) _ _ (λ e. tt) (λ e.
    let outer = or_parts (nat_lt p.0 next || nat_eq (unsigned_abs p.1) 0) (nat_le rows p.0) e in
    let inner = or_parts (nat_lt p.0 next) (nat_eq (unsigned_abs p.1) 0) outer.0 in
    record { not_before = ltb-false _ _ inner.0; within = leb-false _ _ outer.1 })

of_price : (rows next : ℕ) (word : List ℕ) → IfOk (price_said rows next word) (IsNextRow rows next)
unfolding price_said
of_price rows next word = then_if (IsNextRow rows next) (has_one_colon word) _ _
    (λ e. then_any (IsNextRow rows next) (numeral (before_first is_colon word)) _ (λ row.
    then_any (IsNextRow rows next) (numeral (after_first is_colon word)) _ (λ value.
    then_any (IsNextRow rows next) (price_parts_said row value) _ (of_price_of rows next))))
    (λ e. tt)

-- rows that rise from the next one on, all of the deck
record AreNextRows (rows next : ℕ) (ps : List Price) : Type 0 where
  pub none_before : All (λ (p : Price). next ≤ p.row) ps
  pub rising : HasRisingRows rows ps

no_rows : (rows next : ℕ) → AreNextRows rows next []
no_rows rows next = record {
  none_before = All-nil (λ (p : Price). next ≤ p.row);
  rising = record { within = All-nil (λ (p : Price). p.row < rows); rise = λ i j d below in'. absurd (omega arith) };
}

more_rows : (rows next : ℕ) (p : Price) (ps : List Price) → IsNextRow rows next p → AreNextRows rows (p.row + 1) ps → AreNextRows rows next (p ∷ ps)
more_rows rows next p ps h k = record {
  none_before = All-cons (λ (q : Price). next ≤ q.row) p ps h.not_before (All-weaker (λ (q : Price). p.row + 1 ≤ q.row) (λ (q : Price). next ≤ q.row) (λ q above. let first = h.not_before in omega (arith, first, above)) ps k.none_before);
  rising = record {
    within = All-cons (λ (q : Price). q.row < rows) p ps h.within k.rising.within;
    rise = AllPairs-cons (λ (a : Price) (b : Price). a.row < b.row) p ps (All-weaker (λ (q : Price). p.row + 1 ≤ q.row) (λ (q : Price). p.row < q.row) (λ q above. omega (arith, above)) ps k.none_before) k.rising.rise;
  };
}

of_prices : (rows next : ℕ) (ws : Words) → IfOk (prices_said rows next ws) (AreNextRows rows next)
unfolding prices_said
of_prices rows next [] = no_rows rows next
of_prices rows next (w ∷ ws) =
    then_steps (λ (t : Taken Price). IsNextRow rows next t.value) (AreNextRows rows next) _ _ (of_taking (IsNextRow rows next) (price_said rows next) (of_price rows next) (w ∷ ws)) (λ t first.
    then_steps (AreNextRows rows (t.value.row + 1)) (AreNextRows rows next) _ _ (of_prices rows (t.value.row + 1) ws) (λ more rest.
    more_rows rows next t.value more first rest))

of_multipliers : (first : List ℕ → Says ℤ) (rows : ℕ) (ws : Words) → IfOk (multipliers_said first rows ws) (λ (t : Taken MultipliersValue). HasRisingRows rows t.value.rows)
unfolding multipliers_said
of_multipliers first rows ws = then_any (λ (t : Taken MultipliersValue). HasRisingRows rows t.value.rows) (taking first ws) _ (λ y0.
    then_steps (AreNextRows rows 0) (λ (t : Taken MultipliersValue). HasRisingRows rows t.value.rows) _ _ (of_prices rows 0 y0.left) (λ prices are. are.rising))

-- ---- nodes

of_column : (columns : ℕ) (word : List ℕ) → IfOk (column_said columns word) (λ n. n < columns)
unfolding column_said
of_column columns word = then_any (λ n. n < columns) (index_said word) _ (λ n. then_if (λ n. n < columns) (nat_le columns n) _ _ (λ e. tt) (λ e. leb-false columns n e))

-- what became of a node can be checked
abbrev IsTaken : DeckValue → Taken WhatValue → Type 0
IsTaken d t = IsCheckableWhat d t.value

of_void : (d : DeckValue) (ws : Words) → IfOk (void_said (length d.columns) ws) (IsTaken d)
unfolding void_said
of_void d ws = then_steps (λ (t : Taken ℕ). t.value < length d.columns) (IsTaken d) _ _ (of_taking (λ n. n < length d.columns) (column_said (length d.columns)) (of_column (length d.columns)) ws) (λ column below. below)

of_shown : (d : DeckValue) (made : MultipliersValue → WhatValue) → ((y : MultipliersValue) → HasRisingRows (length d.rows) y.rows → IsCheckableWhat d (made y)) → (first : List ℕ → Says ℤ) (ws : Words) → IfOk (shown_said made first (length d.rows) ws) (IsTaken d)
unfolding shown_said
of_shown d made h first ws = then_steps (λ (t : Taken MultipliersValue). HasRisingRows (length d.rows) t.value.rows) (IsTaken d) _ _ (of_multipliers first (length d.rows) ws) (λ y rising. h y.value rising)

of_split : (d : DeckValue) (says : Says (Taken Branch)) → IfOk (split_said says) (IsTaken d)
of_split d says = then_any (IsTaken d) says _ (λ b. tt)

of_what : (d : DeckValue) (word : WhatWord) (ws : Words) → IfOk (what_said d word ws) (IsTaken d)
of_what d what.Int ws = of_split d (cut_said branch.Int ws)
of_what d what.Cut ws = of_split d (cut_said branch.Cut ws)
of_what d what.Semi ws = of_split d (semi_said ws)
of_what d what.One ws = of_split d (set_said branch.One ws)
of_what d what.Two ws = of_split d (set_said branch.Two ws)
of_what d what.Bounded ws = of_shown d Bounded (λ y rising. rising) from_zero_word ws
of_what d what.Empty ws = of_shown d Empty (λ y rising. rising) zero_word ws
of_what d what.Void ws = of_void d ws
of_what d what.Open ws = of_shown d OpenLeaf (λ y rising. rising) from_zero_word ws

of_became : (d : DeckValue) (ws : Words) → IfOk (became_said d ws) (IsTaken d)
unfolding became_said
of_became d ws = then_any (IsTaken d) (taking what_called ws) _ (λ word. of_what d word.value word.left)

-- a node that can be checked
abbrev IsNode : DeckValue → NodeValue → Type 0
IsNode d n = IsCheckableWhat d n.what

of_node : (d : DeckValue) (ws : Words) → IfOk (node_line d ws) (IsNode d)
unfolding node_line
of_node d ws = then_any (IsNode d) (solved_said ws) _ (λ solved.
    then_steps (IsTaken d) (IsNode d) _ _ (of_became d solved.left) (λ t is.
    of_over (IsNode d) (record { solved = solved.value; what = t.value }) t.left is))

of_nodes : (d : DeckValue) (n before : ℕ) (ps : Pieces) → IfOk (nodes_read d n before ps) (λ (r : Read (List NodeValue)). All (IsNode d) r.value)
unfolding nodes_read
of_nodes d zero before ps = All-nil (IsNode d)
of_nodes d (suc n) before ps =
    then_steps (λ (r : Read NodeValue). IsNode d r.value) (λ (r : Read (List NodeValue)). All (IsNode d) r.value) _ _ (of_next (IsNode d) (node_line d) (of_node d) before ps) (λ node is.
    then_steps (λ (r : Read (List NodeValue)). All (IsNode d) r.value) (λ (r : Read (List NodeValue)). All (IsNode d) r.value) _ _ (of_nodes d n (before + 1) node.left) (λ more are.
    All-cons (IsNode d) node.value more.value is are))

-- ---- the text

record AreValues (d : DeckValue) (v : ValuesSaid) : Type 0 where
  pub point : IfSome v.point (IsPoint (length d.columns))
  pub ray : IfSome v.ray (AreMany (length d.columns))

of_values : (d : DeckValue) (ps : Pieces) → IfOk (values_read d ps) (λ (r : Read ValuesSaid). AreValues d r.value)
unfolding values_read
of_values d ps =
    then_any (λ (r : Read ValuesSaid). AreValues d r.value) (next_line_said _ 5 ps) _ (λ objective.
    then_any (λ (r : Read ValuesSaid). AreValues d r.value) (next_line_said _ 6 objective.left) _ (λ bound.
    then_steps (λ (r : Read (Option PointValue)). IfSome r.value (IsPoint (length d.columns))) (λ (r : Read ValuesSaid). AreValues d r.value) _ _
    (of_next (λ o. IfSome o (IsPoint (length d.columns))) (point_line (length d.columns)) (of_labelled (λ o. IfSome o (IsPoint (length d.columns))) (codes "POINT") (point_said (length d.columns)) (of_point (length d.columns))) 7 bound.left) (λ point is_point.
    then_steps (λ (r : Read (Option (List ℤ))). IfSome r.value (AreMany (length d.columns))) (λ (r : Read ValuesSaid). AreValues d r.value) _ _
    (of_next (λ o. IfSome o (AreMany (length d.columns))) (ray_line (length d.columns)) (of_labelled (λ o. IfSome o (AreMany (length d.columns))) (codes "RAY") (ray_said (length d.columns)) (of_ray (length d.columns))) 8 point.left) (λ ray is_ray.
    then_any (λ (r : Read ValuesSaid). AreValues d r.value) (next_line_said nodes_line 9 ray.left) _ (λ nodes. record { point = is_point; ray = is_ray })))))

checkable_point : (d : DeckValue) (o : Option PointValue) → IfSome o (IsPoint (length d.columns)) → IfSome o (IsCheckablePoint d)
checkable_point d None h = tt
checkable_point d (Some p) h = record { den = h.den; parts = h.parts }

of_pieces : (d : DeckValue) (ps : Pieces) → IfOk (pieces_read d ps) (IsCheckable d)
unfolding pieces_read
of_pieces d ps =
    then_any (IsCheckable d) (front_read d ps) _ (λ front.
    then_steps (λ (r : Read ValuesSaid). AreValues d r.value) (IsCheckable d) _ _ (of_values d front.left) (λ values are.
    then_steps (λ (r : Read (List NodeValue)). All (IsNode d) r.value) (IsCheckable d) _ _ (of_nodes d values.value.nodes 10 values.left) (λ nodes checkable.
    then_any (IsCheckable d) (end_read (values.value.nodes + 10) nodes.left) _ (λ end. record { point = checkable_point d values.value.point are.point; ray = are.ray; nodes = checkable }))))

pub read_checkable : (d : DeckValue) (bytes : List ℕ) → IfOk (tree_read d bytes) (IsCheckable d)
unfolding tree_read
read_checkable d bytes = of_pieces d _

-- of an answer that a text is read as
pub is_checkable : (d : DeckValue) (bytes : List ℕ) (a : AnswerValue) → tree_read d bytes ≡ Ok a → IsCheckable d a
is_checkable d bytes a e = let is : IfOk (tree_read d bytes) (IsCheckable d) = read_checkable d bytes in rw e at is
