-- Want of memory is no rule: no word, no line and no text is said to break it.
use Rattle.std.proofs.Common.{◌≡◌, ℕ, zero, suc, ◌+◌, ◌^◌, Bool, true, false, ◌&&◌, ◌||◌, not, nat_eq, nat_lt, nat_le, ℤ, pos, negsuc, unsigned_abs, List, [], ◌∷◌, drop, length, Option, Some, None, Ok, Err, IfErr, if◌then◌else◌, refl}
use Rattle.std.specs.Prelude.{codes}
use Rattle.std.specs.List.{list_all, list_any}
use Rattle.std.specs.Str.{bytes_eq}
use Rattle.um_laws.specs.Divisors.{gcd}
use Rattle.um_num.specs.Numbers.{in_range, then_step}
use Rattle.um_num.specs.declared.exact.Op.TheVariants.{Add, Sub, Mul}
use Rattle.um_text.specs.NumberWords.{is_slash}
use Rattle.um_num.specs.declared.exact.Wide.{Wide}
use Rattle.um_multipliers.specs.PlainMultipliers.{MultipliersValue}
use Rattle.um_model.specs.Values.{DeckValue}
use Rattle.um_model.specs.AnswerValues.{AnswerValue, WhatValue, Bounded, Empty, OpenLeaf}
use Rattle.um_model.specs.declared.answer.AnswerKind.TheVariants as kind
use Rattle.um_model.specs.declared.answer.Why.{Why}
use Rattle.um_model.specs.declared.answer.Why.TheVariants as why
use Rattle.um_model.specs.declared.branch.Branch.{Branch}
use Rattle.um_model.specs.declared.branch.Branch.TheVariants as branch
use Rattle.um_treetext.specs.declared.fault.TreeWord.{TreeWord}
use Rattle.um_treetext.specs.declared.fault.TreeWord.TheVariants.{NoEnd, BadWord, BadNumber, TooWide, WrongDeck, BadNode, TooMany, Memory}
use Rattle.um_treetext.specs.declared.reading.causes.CauseWord.{CauseWord}
use Rattle.um_treetext.specs.declared.reading.causes.CauseWord.TheVariants as cause
use Rattle.um_treetext.specs.declared.reading.nodes.WhatWord.{WhatWord}
use Rattle.um_treetext.specs.declared.reading.nodes.WhatWord.TheVariants as what
use Rattle.um_treetext.specs.TreeText.{name_word}
use Rattle.um_treetext.specs.Words.{Words, Says, Taken, some_or, next_word, taking, fixed, is_next, ended, is_short, is_at_least, over, sole, labelled, called, numeral, from_zero, natural_word, from_zero_word, whole_word, short_word, reduced, parts_word, fraction_said, fraction_or_none_said}
use Rattle.um_treetext.specs.FrontLines.{is_name_byte, version_line, name_said, count_said, deck_line, tolerance_said, tolerance_line, kind_said, kind_line, op_said, wide_said, step_place_said, step_said, place_said, cause_called, cause_said, why_line, numbers, den_said, point_said, point_line, ray_said, ray_line, nodes_said, nodes_line}
use Rattle.um_treetext.specs.NodeLines.{has_one_colon, price_parts_said, price_of, price_said, prices_said, multipliers_said, zero_word, index_said, column_said, cut_said, set_said, semi_said, void_said, shown_said, split_said, what_called, what_said, became_said, work_said, solved_said, node_line}
use Rattle.um_treetext.specs.Reading.{Pieces, Reads, at_line, line_taken, next_line_said, front_read, values_read, nodes_read, end_read, is_end, pieces_read, tree_read}

-- no word or line breaks a rule for want of memory
abbrev pub NoMemory : {A : Type 0} → Says A → Type 0
NoMemory said = IfErr said (λ (fault : TreeWord). fault ≡ Memory → ⊥)

no_end : NoEnd ≡ Memory → ⊥
no_end e = cc

bad_word : BadWord ≡ Memory → ⊥
bad_word e = cc

bad_number : BadNumber ≡ Memory → ⊥
bad_number e = cc

too_wide : TooWide ≡ Memory → ⊥
too_wide e = cc

wrong_deck : WrongDeck ≡ Memory → ⊥
wrong_deck e = cc

bad_node : BadNode ≡ Memory → ⊥
bad_node e = cc

too_many : TooMany ≡ Memory → ⊥
too_many e = cc

-- ---- steps

in_steps : {A B : Type 0} (said : Says A) (more : A → Says B) → NoMemory said → ((x : A) → NoMemory (more x)) → NoMemory (then_step said more)
in_steps (Ok x) more h k = k x
in_steps (Err fault) more h k = h

in_if : {A : Type 0} (b : Bool) (x y : Says A) → NoMemory x → NoMemory y → NoMemory (if b then x else y)
in_if true x y h k = h
in_if false x y h k = k

in_some_or : {A : Type 0} (fault : TreeWord) (o : Option A) → (fault ≡ Memory → ⊥) → NoMemory (some_or fault o)
in_some_or fault None h = h
in_some_or fault (Some x) h = tt

in_next_word : (ws : Words) → NoMemory (next_word ws)
unfolding next_word
in_next_word [] = bad_word
in_next_word ([] ∷ ws) = bad_word
in_next_word ((b ∷ bs) ∷ ws) = tt

in_taking : {A : Type 0} (says : List ℕ → Says A) → ((word : List ℕ) → NoMemory (says word)) → (ws : Words) → NoMemory (taking says ws)
unfolding taking
in_taking says h ws = in_steps _ _ (in_next_word ws) (λ w. in_steps (says w.value) _ (h w.value) (λ v. tt))

in_fixed : (word : List ℕ) (ws : Words) → NoMemory (fixed word ws)
unfolding fixed
in_fixed word ws = in_steps _ _ (in_next_word ws) (λ w. in_if (bytes_eq w.value word) _ _ tt bad_word)

in_ended : (ws : Words) → NoMemory (ended ws)
in_ended [] = tt
in_ended (w ∷ ws) = bad_word

in_over : {A : Type 0} (value : A) (ws : Words) → NoMemory (over value ws)
in_over value [] = tt
in_over value (w ∷ ws) = bad_word

in_sole : {A : Type 0} (says : List ℕ → Says A) → ((word : List ℕ) → NoMemory (says word)) → (ws : Words) → NoMemory (sole says ws)
in_sole says h ws = in_steps (taking says ws) (λ t. over t.value t.left) (in_taking says h ws) (λ t. in_over t.value t.left)

in_labelled : {A : Type 0} (label : List ℕ) (says : Words → Says A) → ((ws : Words) → NoMemory (says ws)) → (ws : Words) → NoMemory (labelled label says ws)
in_labelled label says h ws = in_steps (fixed label ws) says (in_fixed label ws) h

in_called : {A : Type 0} (ps : List (List ℕ × A)) (word : List ℕ) → NoMemory (called ps word)
in_called [] word = bad_word
in_called (p ∷ ps) word = in_if (bytes_eq word p.0) _ _ tt (in_called ps word)

-- ---- numbers

in_numeral : (word : List ℕ) → NoMemory (numeral word)
unfolding numeral
in_numeral word = in_some_or BadNumber _ bad_number

in_from_zero : (z : ℤ) → NoMemory (from_zero z)
in_from_zero (pos n) = tt
in_from_zero (negsuc n) = bad_number

in_natural : (limit : ℕ) (word : List ℕ) → NoMemory (natural_word limit word)
unfolding natural_word
in_natural limit word = in_steps _ _ (in_numeral word) (λ z. in_steps (from_zero z) _ (in_from_zero z) (λ n. in_if (not (nat_lt n limit)) _ _ too_wide tt))

in_from_zero_word : (word : List ℕ) → NoMemory (from_zero_word word)
unfolding from_zero_word
in_from_zero_word word = in_steps _ _ (in_natural (2 ^ 127) word) (λ n. tt)

in_whole : (word : List ℕ) → NoMemory (whole_word word)
unfolding whole_word
in_whole word = in_steps _ _ (in_numeral word) (λ z. in_if (not (in_range z)) _ _ too_wide tt)

in_short : (word : List ℕ) → NoMemory (short_word word)
unfolding short_word
in_short word = in_steps _ _ (in_numeral word) (λ z. in_if (not (is_short z)) _ _ too_wide tt)

in_reduced : (num den : ℤ) → NoMemory (reduced num den)
unfolding reduced
in_reduced num den =
    in_if (not (is_at_least 2 den)) _ _ bad_number
    (in_if (not (in_range num && in_range den)) _ _ too_wide
    (in_if (not (nat_eq (gcd (unsigned_abs num) (unsigned_abs den)) 1)) _ _ bad_number tt))

in_parts : (word : List ℕ) → NoMemory (parts_word word)
unfolding parts_word
in_parts word = in_steps _ _ (in_numeral _) (λ num. in_steps _ _ (in_numeral _) (λ den. in_reduced num den))

in_fraction : (word : List ℕ) → NoMemory (fraction_said word)
unfolding fraction_said
in_fraction word = in_if (list_any is_slash word) _ _ (in_parts word) (in_steps _ _ (in_whole word) (λ z. tt))

in_fraction_or_none : (word : List ℕ) → NoMemory (fraction_or_none_said word)
unfolding fraction_or_none_said
in_fraction_or_none word = in_if (bytes_eq word (codes "none")) _ _ tt (in_steps _ _ (in_fraction word) (λ x. tt))

-- ---- the first lines

in_version : (ws : Words) → NoMemory (version_line ws)
in_version ws = in_steps _ _ (in_fixed (codes "UMPIRE") ws) (λ a. in_steps _ _ (in_fixed (codes "TREE") a) (λ b. in_steps _ _ (in_fixed (codes "1") b) in_ended))

in_name : (name word : List ℕ) → NoMemory (name_said name word)
unfolding name_said
in_name name word = in_if (not (list_all is_name_byte name && bytes_eq word (name_word name))) _ _ wrong_deck tt

in_count : (count : ℕ) (word : List ℕ) → NoMemory (count_said count word)
unfolding count_said
in_count count word = in_steps _ _ (in_natural (2 ^ 127) word) (λ n. in_if (not (nat_eq n count)) _ _ wrong_deck tt)

in_deck : (d : DeckValue) (ws : Words) → NoMemory (deck_line d ws)
in_deck d ws = in_steps _ _ (in_fixed (codes "DECK") ws) (λ (left : Words).
    in_steps _ _ (in_taking (name_said d.name) (in_name d.name) left) (λ name.
    in_steps _ _ (in_taking (count_said (length d.rows)) (in_count (length d.rows)) name.left) (λ rows.
    in_steps _ _ (in_taking (count_said (length d.columns)) (in_count (length d.columns)) rows.left) (λ columns.
    in_steps _ _ (in_taking (count_said (length d.sets)) (in_count (length d.sets)) columns.left) (λ sets.
    in_sole (count_said (length d.arcs)) (in_count (length d.arcs)) sets.left)))))

in_tolerance : (word : List ℕ) → NoMemory (tolerance_said word)
unfolding tolerance_said
in_tolerance word = in_steps _ _ (in_natural (2 ^ 63) word) (λ n. tt)

in_tolerance_line : (ws : Words) → NoMemory (tolerance_line ws)
in_tolerance_line ws = in_labelled (codes "TOLERANCE") (sole tolerance_said) (in_sole tolerance_said in_tolerance) ws

in_kind : (word : List ℕ) → NoMemory (kind_said word)
in_kind word = in_called (
    (codes "optimal", kind.Optimal) ∷ (codes "infeasible", kind.Infeasible) ∷ (codes "unbounded", kind.Unbounded)
    ∷ (codes "limit", kind.Limit) ∷ (codes "overflow", kind.Overflow) ∷ []) word

in_kind_line : (ws : Words) → NoMemory (kind_line ws)
in_kind_line ws = in_labelled (codes "ANSWER") (sole kind_said) (in_sole kind_said in_kind) ws

in_op : (word : List ℕ) → NoMemory (op_said word)
in_op word = in_called (
    (codes "add", Add) ∷ (codes "sub", Sub) ∷ (codes "mul", Mul) ∷ []) word

in_wide : (ws : Words) → NoMemory (wide_said ws)
unfolding wide_said
in_wide ws = in_steps _ _ (in_taking op_said in_op ws) (λ op.
    in_steps _ _ (in_taking whole_word in_whole op.left) (λ left.
    in_steps _ _ (in_taking whole_word in_whole left.left) (λ right. tt)))

in_step_place : (ws : Words) → NoMemory (step_place_said ws)
unfolding step_place_said
in_step_place ws = in_steps _ _ (in_taking (natural_word (2 ^ 32)) (in_natural (2 ^ 32)) ws) (λ number.
    in_steps _ _ (in_taking (natural_word (2 ^ 64)) (in_natural (2 ^ 64)) number.left) (λ step. tt))

in_step : (made : ℕ → ℕ → Wide → Why) (ws : Words) → NoMemory (step_said made ws)
unfolding step_said
in_step made ws = in_steps _ _ (in_step_place ws) (λ place. in_steps _ _ (in_wide place.left) (λ wide. tt))

in_place : (made : ℕ → Why) (ws : Words) → NoMemory (place_said made ws)
unfolding place_said
in_place made ws = in_steps _ _ (in_taking (natural_word (2 ^ 32)) (in_natural (2 ^ 32)) ws) (λ number. tt)

in_cause : (word : CauseWord) (ws : Words) → NoMemory (cause_said word ws)
in_cause cause.None ws = tt
in_cause cause.Nodes ws = tt
in_cause cause.Pivots ws = tt
in_cause cause.Points ws = in_place why.Points ws
in_cause cause.Grid ws = in_place why.Grid ws
in_cause cause.Pivot ws = in_step why.Pivot ws
in_cause cause.Value ws = in_step why.Value ws
in_cause cause.Leaf ws = in_place why.Leaf ws
in_cause cause.Vertex ws = in_place why.Vertex ws
in_cause cause.Ray ws = tt

in_cause_word : (word : List ℕ) → NoMemory (cause_called word)
in_cause_word word = in_called (
    (codes "none", cause.None) ∷ (codes "nodes", cause.Nodes) ∷ (codes "pivots", cause.Pivots)
    ∷ (codes "points", cause.Points) ∷ (codes "grid", cause.Grid) ∷ (codes "pivot", cause.Pivot)
    ∷ (codes "value", cause.Value) ∷ (codes "leaf", cause.Leaf) ∷ (codes "vertex", cause.Vertex)
    ∷ (codes "ray", cause.Ray) ∷ []) word

in_why_line : (ws : Words) → NoMemory (why_line ws)
in_why_line ws = in_steps _ _ (in_fixed (codes "WHY") ws) (λ (left : Words).
    in_steps _ _ (in_taking cause_called in_cause_word left) (λ word.
    in_steps (cause_said word.value word.left) _ (in_cause word.value word.left) (λ t. in_over t.value t.left)))

-- ---- the lines of values

in_numbers : (n : ℕ) (ws : Words) → NoMemory (numbers n ws)
unfolding numbers
in_numbers zero ws = tt
in_numbers (suc n) ws = in_steps _ _ (in_taking whole_word in_whole ws) (λ t. in_steps _ _ (in_numbers n t.left) (λ more. tt))

in_den : (word : List ℕ) → NoMemory (den_said word)
unfolding den_said
in_den word = in_steps _ _ (in_numeral word) (λ z. in_if (not (is_at_least 1 z)) _ _ bad_word (in_if (not (in_range z)) _ _ too_wide tt))

in_point : (columns : ℕ) (ws : Words) → NoMemory (point_said columns ws)
in_point columns ws = in_if (is_next (codes "none") ws) _ _ (in_over None (drop 1 ws)) (in_steps _ _ (in_taking den_said in_den ws) (λ den.
    in_steps _ _ (in_numbers columns den.left) (λ parts. in_over _ parts.left)))

in_ray : (columns : ℕ) (ws : Words) → NoMemory (ray_said columns ws)
in_ray columns ws = in_if (is_next (codes "none") ws) _ _ (in_over None (drop 1 ws)) (in_if (nat_eq columns 0) _ _ bad_word (in_steps _ _ (in_numbers columns ws) (λ parts. in_over _ parts.left)))

in_nodes : (word : List ℕ) → NoMemory (nodes_said word)
unfolding nodes_said
in_nodes word = in_steps _ _ (in_natural (2 ^ 127) word) (λ n. in_if (nat_lt 200001 n) _ _ too_many tt)

-- ---- the lines of nodes

in_price_parts : (row value : ℤ) → NoMemory (price_parts_said row value)
unfolding price_parts_said
in_price_parts row value = in_steps (from_zero row) _ (in_from_zero row) (λ n. in_if (not (nat_lt n (2 ^ 32) && in_range value)) _ _ too_wide tt)

in_price_of : (rows next : ℕ) (p : ℕ × ℤ) → NoMemory (price_of rows next p)
in_price_of rows next p = in_if (nat_lt p.0 next || nat_eq (unsigned_abs p.1) 0 || nat_le rows p.0) _ _ bad_node tt

in_price : (rows next : ℕ) (word : List ℕ) → NoMemory (price_said rows next word)
unfolding price_said
in_price rows next word = in_if (has_one_colon word) _ _ (in_steps _ _ (in_numeral _) (λ row. in_steps _ _ (in_numeral _) (λ value.
    in_steps _ _ (in_price_parts row value) (in_price_of rows next)))) bad_word

in_prices : (rows next : ℕ) (ws : Words) → NoMemory (prices_said rows next ws)
unfolding prices_said
in_prices rows next [] = tt
in_prices rows next (w ∷ ws) = in_steps _ _ (in_taking (price_said rows next) (in_price rows next) (w ∷ ws)) (λ t.
    in_steps _ _ (in_prices rows (t.value.row + 1) ws) (λ more. tt))

in_multipliers : (first : List ℕ → Says ℤ) → ((word : List ℕ) → NoMemory (first word)) → (rows : ℕ) (ws : Words) → NoMemory (multipliers_said first rows ws)
unfolding multipliers_said
in_multipliers first h rows ws = in_steps _ _ (in_taking first h ws) (λ y0. in_steps _ _ (in_prices rows 0 y0.left) (λ prices. tt))

in_zero : (word : List ℕ) → NoMemory (zero_word word)
unfolding zero_word
in_zero word = in_steps _ _ (in_from_zero_word word) (λ z. in_if (not (nat_eq (unsigned_abs z) 0)) _ _ bad_node tt)

in_index : (word : List ℕ) → NoMemory (index_said word)
in_index word = in_natural (2 ^ 32) word

in_column : (columns : ℕ) (word : List ℕ) → NoMemory (column_said columns word)
unfolding column_said
in_column columns word = in_steps _ _ (in_index word) (λ n. in_if (nat_le columns n) _ _ bad_node tt)

in_cut : (made : ℕ → ℤ → Branch) (ws : Words) → NoMemory (cut_said made ws)
unfolding cut_said
in_cut made ws = in_steps _ _ (in_taking index_said in_index ws) (λ column. in_steps _ _ (in_taking short_word in_short column.left) (λ at. tt))

in_set : (made : ℕ → ℕ → Branch) (ws : Words) → NoMemory (set_said made ws)
unfolding set_said
in_set made ws = in_steps _ _ (in_taking index_said in_index ws) (λ set. in_steps _ _ (in_taking index_said in_index set.left) (λ at. tt))

in_semi : (ws : Words) → NoMemory (semi_said ws)
unfolding semi_said
in_semi ws = in_steps _ _ (in_taking index_said in_index ws) (λ column. tt)

in_void : (columns : ℕ) (ws : Words) → NoMemory (void_said columns ws)
unfolding void_said
in_void columns ws = in_steps _ _ (in_taking (column_said columns) (in_column columns) ws) (λ column. tt)

in_shown : (made : MultipliersValue → WhatValue) (first : List ℕ → Says ℤ) → ((word : List ℕ) → NoMemory (first word)) → (rows : ℕ) (ws : Words) → NoMemory (shown_said made first rows ws)
unfolding shown_said
in_shown made first h rows ws = in_steps _ _ (in_multipliers first h rows ws) (λ y. tt)

in_split : (says : Says (Taken Branch)) → NoMemory says → NoMemory (split_said says)
in_split says h = in_steps says _ h (λ b. tt)

in_what : (d : DeckValue) (word : WhatWord) (ws : Words) → NoMemory (what_said d word ws)
in_what d what.Int ws = in_split _ (in_cut branch.Int ws)
in_what d what.Cut ws = in_split _ (in_cut branch.Cut ws)
in_what d what.Semi ws = in_split _ (in_semi ws)
in_what d what.One ws = in_split _ (in_set branch.One ws)
in_what d what.Two ws = in_split _ (in_set branch.Two ws)
in_what d what.Bounded ws = in_shown Bounded from_zero_word in_from_zero_word (length d.rows) ws
in_what d what.Empty ws = in_shown Empty zero_word in_zero (length d.rows) ws
in_what d what.Void ws = in_void (length d.columns) ws
in_what d what.Open ws = in_shown OpenLeaf from_zero_word in_from_zero_word (length d.rows) ws

in_what_word : (word : List ℕ) → NoMemory (what_called word)
in_what_word word = in_called (
    (codes "int", what.Int) ∷ (codes "cut", what.Cut) ∷ (codes "semi", what.Semi) ∷ (codes "one", what.One)
    ∷ (codes "two", what.Two) ∷ (codes "bounded", what.Bounded) ∷ (codes "empty", what.Empty)
    ∷ (codes "void", what.Void) ∷ (codes "open", what.Open) ∷ []) word

in_became : (d : DeckValue) (ws : Words) → NoMemory (became_said d ws)
unfolding became_said
in_became d ws = in_steps _ _ (in_taking what_called in_what_word ws) (λ word. in_what d word.value word.left)

in_work : (ws : Words) → NoMemory (work_said ws)
unfolding work_said
in_work ws = in_steps _ _ (in_taking (natural_word (2 ^ 32)) (in_natural (2 ^ 32)) ws) (λ number.
    in_steps _ _ (in_taking (natural_word (2 ^ 64)) (in_natural (2 ^ 64)) number.left) (λ pivots. tt))

in_solved : (ws : Words) → NoMemory (solved_said ws)
unfolding solved_said
in_solved ws = in_if (is_next (codes "END") ws) _ _ bad_word (in_if (is_next (codes "-") ws) _ _ (in_steps _ _ (in_fixed (codes "-") _) (λ left. tt)) (in_work ws))

in_node : (d : DeckValue) (ws : Words) → NoMemory (node_line d ws)
unfolding node_line
in_node d ws = in_steps _ _ (in_solved ws) (λ solved. in_steps _ _ (in_became d solved.left) (λ t. in_over _ t.left))

-- ---- lines

-- nor does any line of a text
abbrev pub NoMemoryAt : {A : Type 0} → Reads A → Type 0
NoMemoryAt read = IfErr read (λ (fault : ℕ × TreeWord). fault.1 ≡ Memory → ⊥)

on_steps : {A B : Type 0} (read : Reads A) (more : A → Reads B) → NoMemoryAt read → ((x : A) → NoMemoryAt (more x)) → NoMemoryAt (then_step read more)
on_steps (Ok x) more h k = k x
on_steps (Err fault) more h k = h

on_if : {A : Type 0} (b : Bool) (x y : Reads A) → NoMemoryAt x → NoMemoryAt y → NoMemoryAt (if b then x else y)
on_if true x y h k = h
on_if false x y h k = k

on_line : {A : Type 0} (number : ℕ) (said : Says A) → NoMemory said → NoMemoryAt (at_line number said)
on_line number (Ok x) h = tt
on_line number (Err fault) h = h

on_taken : (before : ℕ) (ps : Pieces) → NoMemoryAt (line_taken before ps)
unfolding line_taken
on_taken before [] = no_end
on_taken before (line ∷ []) = no_end
on_taken before (line ∷ (next ∷ more)) = tt

on_next : {A : Type 0} (says : Words → Says A) → ((ws : Words) → NoMemory (says ws)) → (before : ℕ) (ps : Pieces) → NoMemoryAt (next_line_said says before ps)
unfolding next_line_said
on_next says h before ps = on_steps _ _ (on_taken before ps) (λ line. on_steps _ _ (on_line (before + 1) (says line.value) (h line.value)) (λ v. tt))

on_front : (d : DeckValue) (ps : Pieces) → NoMemoryAt (front_read d ps)
unfolding front_read
on_front d ps =
    on_steps _ _ (on_next version_line in_version 0 ps) (λ version.
    on_steps _ _ (on_next (deck_line d) (in_deck d) 1 version.left) (λ deck.
    on_steps _ _ (on_next tolerance_line in_tolerance_line 2 deck.left) (λ tolerance.
    on_steps _ _ (on_next kind_line in_kind_line 3 tolerance.left) (λ kind.
    on_steps _ _ (on_next why_line in_why_line 4 kind.left) (λ reason. tt)))))

in_fraction_line : (label : List ℕ) (ws : Words) → NoMemory (labelled label (sole fraction_or_none_said) ws)
in_fraction_line label ws = in_labelled label (sole fraction_or_none_said) (in_sole fraction_or_none_said in_fraction_or_none) ws

in_point_line : (columns : ℕ) (ws : Words) → NoMemory (point_line columns ws)
in_point_line columns ws = in_labelled (codes "POINT") (point_said columns) (in_point columns) ws

in_ray_line : (columns : ℕ) (ws : Words) → NoMemory (ray_line columns ws)
in_ray_line columns ws = in_labelled (codes "RAY") (ray_said columns) (in_ray columns) ws

in_nodes_line : (ws : Words) → NoMemory (nodes_line ws)
in_nodes_line ws = in_labelled (codes "NODES") (sole nodes_said) (in_sole nodes_said in_nodes) ws

on_values : (d : DeckValue) (ps : Pieces) → NoMemoryAt (values_read d ps)
unfolding values_read
on_values d ps =
    on_steps _ _ (on_next (labelled (codes "OBJECTIVE") (sole fraction_or_none_said)) (in_fraction_line (codes "OBJECTIVE")) 5 ps) (λ objective.
    on_steps _ _ (on_next (labelled (codes "BOUND") (sole fraction_or_none_said)) (in_fraction_line (codes "BOUND")) 6 objective.left) (λ bound.
    on_steps _ _ (on_next (point_line (length d.columns)) (in_point_line (length d.columns)) 7 bound.left) (λ point.
    on_steps _ _ (on_next (ray_line (length d.columns)) (in_ray_line (length d.columns)) 8 point.left) (λ ray.
    on_steps _ _ (on_next nodes_line in_nodes_line 9 ray.left) (λ nodes. tt)))))

on_nodes : (d : DeckValue) (n before : ℕ) (ps : Pieces) → NoMemoryAt (nodes_read d n before ps)
unfolding nodes_read
on_nodes d zero before ps = tt
on_nodes d (suc n) before ps =
    on_steps _ _ (on_next (node_line d) (in_node d) before ps) (λ node.
    on_steps _ _ (on_nodes d n (before + 1) node.left) (λ more. tt))

in_end_line : (ws : Words) → NoMemory (labelled (codes "END") ended ws)
in_end_line ws = in_labelled (codes "END") ended in_ended ws

on_end : (before : ℕ) (ps : Pieces) → NoMemoryAt (end_read before ps)
unfolding end_read
on_end before ps = on_steps _ _ (on_next (labelled (codes "END") ended) in_end_line before ps) (λ end. on_if (is_end end.left) _ _ tt bad_word)

on_pieces : (d : DeckValue) (ps : Pieces) → NoMemoryAt (pieces_read d ps)
unfolding pieces_read
on_pieces d ps =
    on_steps _ _ (on_front d ps) (λ front.
    on_steps _ _ (on_values d front.left) (λ values.
    on_steps _ _ (on_nodes d values.value.nodes 10 values.left) (λ nodes.
    on_steps _ _ (on_end (values.value.nodes + 10) nodes.left) (λ end. tt))))

pub no_memory : (d : DeckValue) (bytes : List ℕ) (line : ℕ) → tree_read d bytes ≡ Err (line, Memory) → ⊥
unfolding tree_read
no_memory d bytes line e =
    let never : NoMemoryAt (tree_read d bytes) = on_pieces d _ in
    let broken : NoMemoryAt {A = AnswerValue} (Err (line, Memory)) = rw e at never in
    broken refl
