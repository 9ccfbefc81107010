-- The lines of a tree's nodes: what each says, or the rule that it breaks.
use Rattle.std.specs.Prelude.{ℕ, ◌+◌, ◌^◌, Bool, ◌&&◌, ◌||◌, not, nat_eq, nat_le, nat_lt, unsigned_abs, if◌then◌else◌, ℤ, List, [], ◌∷◌, drop, length, Option, Some, None, Ok, Err, codes}
use Rattle.std.specs.List.{list_any, before_first, after_first}
use Rattle.um_num.specs.Numbers.{in_range, then_step}
use Rattle.um_multipliers.specs.PlainMultipliers.{MultipliersValue}
use Rattle.um_multipliers.specs.declared.multipliers.Price.{Price}
use Rattle.um_model.specs.Values.{DeckValue}
use Rattle.um_model.specs.declared.branch.Branch.{Branch}
use Rattle.um_model.specs.declared.branch.Branch.TheVariants as branch
use Rattle.um_model.specs.declared.tree.Solved.{Solved}
use Rattle.um_model.specs.AnswerValues.{NodeValue, WhatValue, Split, Bounded, Empty, Void, OpenLeaf}
use Rattle.um_treetext.specs.declared.reading.nodes.WhatWord.{WhatWord}
use Rattle.um_treetext.specs.declared.reading.nodes.WhatWord.TheVariants as what
use Rattle.um_treetext.specs.declared.fault.TreeWord.TheVariants.{BadWord, TooWide, BadNode}
use Rattle.um_treetext.specs.Words.{Words, Says, Taken, told, kept, taking, fixed, is_next, over, called, numeral, from_zero, from_zero_word, natural_word, short_word}

-- ---- multipliers

-- `:`
abbrev pub is_colon : ℕ → Bool
is_colon b = nat_eq b 58

-- one colon and no further one
abbrev pub has_one_colon : List ℕ → Bool
has_one_colon word = list_any is_colon word && not (list_any is_colon (after_first is_colon word))

-- a row from 0 on of its type
unfoldable pub row_said : ℤ → Says ℕ
row_said row = then_step (from_zero row) (λ n. kept ((not (nat_lt n (2 ^ 32)), TooWide) ∷ []) n)

-- a row from 0 on of its type, and a multiplier in range
unfoldable pub price_parts_said : ℤ → ℤ → Says (ℕ × ℤ)
price_parts_said row value = then_step (from_zero row) (λ n. kept ((not (nat_lt n (2 ^ 32) && in_range value), TooWide) ∷ []) (n, value))

-- the row is from the next one on and in the deck, and the multiplier is not 0
abbrev pub price_of : (rows next : ℕ) → ℕ × ℤ → Says Price
price_of rows next p = kept ((nat_lt p.0 next || nat_eq (unsigned_abs p.1) 0 || nat_le rows p.0, BadNode) ∷ []) (record { row = p.0; value = p.1 })

-- the multiplier of a row: two numerals with `:` between
unfoldable pub price_said : (rows next : ℕ) → List ℕ → Says Price
price_said rows next word =
    if has_one_colon word then
    then_step (numeral (before_first is_colon word)) (λ row.
    then_step (numeral (after_first is_colon word)) (λ value.
    then_step (price_parts_said row value) (price_of rows next)))
    else Err BadWord

-- the multipliers of rows from the next one on, up to the end of the line
unfoldable pub prices_said : (rows next : ℕ) → Words → Says (List Price)
prices_said rows next [] = Ok []
prices_said rows next (w ∷ ws) =
    then_step (taking (price_said rows next) (w ∷ ws)) (λ t.
    then_step (prices_said rows (t.value.row + 1) ws) (λ more. Ok (t.value ∷ more)))

-- the objective's multiplier by what its word says, and those of rows
unfoldable pub multipliers_said : (first : List ℕ → Says ℤ) → ℕ → Words → Says (Taken MultipliersValue)
multipliers_said first rows ws =
    then_step (taking first ws) (λ y0.
    then_step (prices_said rows 0 y0.left) (λ prices. told (record { y0 = y0.value; rows = prices }) []))

-- the objective's multiplier where it is to be 0
unfoldable pub zero_word : List ℕ → Says ℤ
zero_word word = then_step (from_zero_word word) (λ z. kept ((not (nat_eq (unsigned_abs z) 0), BadNode) ∷ []) z)

-- ---- what became of a node

-- the number of a column, a set or a position
abbrev pub index_said : List ℕ → Says ℕ
index_said = natural_word (2 ^ 32)

-- a column of the deck
unfoldable pub column_said : ℕ → List ℕ → Says ℕ
column_said columns word = then_step (index_said word) (λ n. kept ((nat_le columns n, BadNode) ∷ []) n)

-- a column and a number of 64 bits
unfoldable pub cut_said : (ℕ → ℤ → Branch) → Words → Says (Taken Branch)
cut_said made ws = then_step (taking index_said ws) (λ column. then_step (taking short_word column.left) (λ at. told (made column.value at.value) at.left))

-- a set and a position
unfoldable pub set_said : (ℕ → ℕ → Branch) → Words → Says (Taken Branch)
set_said made ws = then_step (taking index_said ws) (λ set. then_step (taking index_said set.left) (λ at. told (made set.value at.value) at.left))

unfoldable pub semi_said : Words → Says (Taken Branch)
semi_said ws = then_step (taking index_said ws) (λ column. told (branch.Semi column.value) column.left)

unfoldable pub void_said : ℕ → Words → Says (Taken WhatValue)
void_said columns ws = then_step (taking (column_said columns) ws) (λ column. told (Void column.value) column.left)

-- multipliers, and what they show
unfoldable pub shown_said : (MultipliersValue → WhatValue) → (first : List ℕ → Says ℤ) → ℕ → Words → Says (Taken WhatValue)
shown_said made first rows ws = then_step (multipliers_said first rows ws) (λ y. told (made y.value) y.left)

-- a branch cuts the node's box
abbrev pub split_said : Says (Taken Branch) → Says (Taken WhatValue)
split_said says = then_step says (λ b. told (Split b.value) b.left)

abbrev pub what_called : List ℕ → Says WhatWord
what_called = called (
    (codes "int", what.Int) ∷ (codes "cut", what.Cut) ∷ (codes "semi", what.Semi) ∷ (codes "one", what.One)
    ∷ (codes "two", what.Two) ∷ (codes "bounded", what.Bounded) ∷ (codes "empty", what.Empty)
    ∷ (codes "void", what.Void) ∷ (codes "open", what.Open) ∷ [])

-- what became of a node, behind the word for it
abbrev pub what_said : DeckValue → WhatWord → Words → Says (Taken WhatValue)
what_said d what.Int ws = split_said (cut_said branch.Int ws)
what_said d what.Cut ws = split_said (cut_said branch.Cut ws)
what_said d what.Semi ws = split_said (semi_said ws)
what_said d what.One ws = split_said (set_said branch.One ws)
what_said d what.Two ws = split_said (set_said branch.Two ws)
what_said d what.Bounded ws = shown_said Bounded from_zero_word (length d.rows) ws
what_said d what.Empty ws = shown_said Empty zero_word (length d.rows) ws
what_said d what.Void ws = void_said (length d.columns) ws
what_said d what.Open ws = shown_said OpenLeaf from_zero_word (length d.rows) ws

unfoldable pub became_said : DeckValue → Words → Says (Taken WhatValue)
became_said d ws = then_step (taking what_called ws) (λ word. what_said d word.value word.left)

-- ---- the line

-- the number of a node, and its pivots
unfoldable pub work_said : Words → Says (Taken (Option Solved))
work_said ws =
    then_step (taking (natural_word (2 ^ 32)) ws) (λ number. then_step (taking (natural_word (2 ^ 64)) number.left) (λ pivots.
    told (Some (record { number = number.value; pivots = pivots.value })) pivots.left))

-- when a node was solved, and at what cost; two hyphens where it was not
unfoldable pub solved_said : Words → Says (Taken (Option Solved))
solved_said ws =
    if is_next (codes "END") ws then Err BadWord
    else if is_next (codes "-") ws then then_step (fixed (codes "-") (drop 1 ws)) (λ left. told None left)
    else work_said ws

unfoldable pub node_line : DeckValue → Words → Says NodeValue
node_line d ws =
    then_step (solved_said ws) (λ solved.
    then_step (became_said d solved.left) (λ t. over (record { solved = solved.value; what = t.value }) t.left))
