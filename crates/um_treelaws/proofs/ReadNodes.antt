-- The lines of a tree's nodes: the words that were read are those that are written of the node.
use Rattle.std.proofs.Common.{◌≡◌, ℕ, ◌<◌, ◌^◌, true, nat_le, List, [], ◌∷◌, drop, length, ℤ, Option, Some, None, IfSome, Ok, Err, codes, refl, sym, ap, subst, arith, inl, inr}
use Rattle.std.specs.Fmt.{decimal, signed_decimal}
use Rattle.std.proofs.lemmas.Bool.{cases_Bool, leb-false}
use Rattle.um_num.specs.Numbers.{then_step}
use Rattle.um_multipliers.specs.PlainMultipliers.{MultipliersValue}
use Rattle.um_model.specs.Values.{DeckValue}
use Rattle.um_model.specs.declared.branch.Branch.{Branch}
use Rattle.um_model.specs.declared.branch.Branch.TheVariants as branch
use Rattle.um_model.specs.declared.tree.Solved.{Solved}
use Rattle.um_model.specs.AnswerValues.{NodeValue, WhatValue, Split, Bounded, Empty, Void, OpenLeaf}
use Rattle.um_treetext.specs.declared.fault.TreeWord.TheVariants.{BadWord, BadNode}
use Rattle.um_treetext.specs.declared.reading.nodes.WhatWord.{WhatWord}
use Rattle.um_treetext.specs.declared.reading.nodes.WhatWord.TheVariants as what
use Rattle.um_treetext.specs.Words.{Words, Says, Taken, told, kept, taking, fixed, is_next, over, natural_word, from_zero_word, short_word}
use Rattle.um_treetext.specs.NodeLines.{multipliers_said, zero_word, index_said, column_said, cut_said, set_said, semi_said, void_said, shown_said, what_called, what_said, became_said, work_said, solved_said, node_line}
use Rattle.um_treetext.specs.TreeText.{multiplier_words, branch_words, solved_words, what_words, node_words}
use Rattle.um_treetext.specs.Writable.{IsWritableSolved, IsWritableList, IsCutAt, IsWritableBranch, IsWritableWhat, IsWritableNode}
use Rattle.um_treelaws.proofs.ReadSteps.{steps, keeps_last, same_bytes, Begins, begins_more, begins_one, begins_both, begins_all, AreWords, are_words, SaysAs, took_as, told_as, fixed_rewritten, over_rewritten, called_rewritten, IsAny}
use Rattle.um_treelaws.proofs.ReadNumbers.{natural_rewritten, IsBelow, IsFromZero, from_zero_word_rewritten, IsShort, short_rewritten}
use Rattle.um_treelaws.proofs.ReadLines.{LineAs}
use Rattle.um_treelaws.proofs.ReadPrices.{multipliers_rewritten, IsZero, zero_rewritten}

-- ---- branches

-- what became of a node, behind its first word
record Became (d : DeckValue) (name : List ℕ) (ws : Words) (w : WhatValue) (left : Words) : Type 0 where
  rest : Words
  all : what_words w ≡ name ∷ rest
  begins : Begins ws rest left
  good : IsWritableWhat d w

name_rewritten : SaysAs index_said decimal (IsBelow (2 ^ 32))
name_rewritten = natural_rewritten (2 ^ 32) (omega arith)

-- a branch behind its first word
record Branched (name : List ℕ) (ws : Words) (b : Branch) (left : Words) : Type 0 where
  rest : Words
  all : branch_words b ≡ name ∷ rest
  begins : Begins ws rest left
  good : IsWritableBranch b

split_rewritten : (d : DeckValue) (name : List ℕ) (ws : Words) (t : Taken WhatValue) (r : Says (Taken Branch)) → ((u : Taken Branch) → r ≡ Ok u → Branched name ws u.value u.left) → then_step r (λ b. told (Split b.value) b.left) ≡ Ok t → Became d name ws t.value t.left
split_rewritten d name ws t r back e =
    let s = steps r (λ b. told (Split b.value) b.left) t e in
    let b = back s.value s.one in
    told_as (Became d name ws) (Split s.value.value) s.value.left t s.two (record { rest = b.rest; all = b.all; begins = b.begins; good = b.good })

cut_rewritten : (made : ℕ → ℤ → Branch) (name : List ℕ) (ws : Words) → ((c : ℕ) (a : ℤ) → branch_words (made c a) ≡ name ∷ decimal c ∷ signed_decimal a ∷ []) → ((c : ℕ) (a : ℤ) → IsCutAt c a → IsWritableBranch (made c a)) → (t : Taken Branch) → cut_said made ws ≡ Ok t → Branched name ws t.value t.left
unfolding cut_said
cut_rewritten made name ws words good t e =
    let column = steps (taking index_said ws) (λ column. then_step (taking short_word column.left) (λ at. told (made column.value at.value) at.left)) t e in
    let c = column.value.value in
    let end = steps (taking short_word column.value.left) (λ at. told (made c at.value) at.left) t column.two in
    let a = end.value.value in
    let one = took_as index_said decimal (IsBelow (2 ^ 32)) ws column.value name_rewritten column.one in
    let two = took_as short_word signed_decimal IsShort column.value.left end.value short_rewritten end.one in
    told_as (Branched name ws) (made c a) end.value.left t end.two (record {
      rest = decimal c ∷ signed_decimal a ∷ [];
      all = words c a;
      begins = begins_more ws column.value.left end.value.left (signed_decimal a ∷ []) (decimal c) one.parts one.some (begins_one column.value.left end.value.left (signed_decimal a) two.parts two.some);
      good = good c a (record { index = one.good; at = two.good });
    })

set_rewritten : (made : ℕ → ℕ → Branch) (name : List ℕ) (ws : Words) → ((s a : ℕ) → branch_words (made s a) ≡ name ∷ decimal s ∷ decimal a ∷ []) → ((s a : ℕ) → s < 2 ^ 32 → a < 2 ^ 32 → IsWritableBranch (made s a)) → (t : Taken Branch) → set_said made ws ≡ Ok t → Branched name ws t.value t.left
unfolding set_said
set_rewritten made name ws words good t e =
    let set = steps (taking index_said ws) (λ set. then_step (taking index_said set.left) (λ at. told (made set.value at.value) at.left)) t e in
    let s = set.value.value in
    let end = steps (taking index_said set.value.left) (λ at. told (made s at.value) at.left) t set.two in
    let a = end.value.value in
    let one = took_as index_said decimal (IsBelow (2 ^ 32)) ws set.value name_rewritten set.one in
    let two = took_as index_said decimal (IsBelow (2 ^ 32)) set.value.left end.value name_rewritten end.one in
    told_as (Branched name ws) (made s a) end.value.left t end.two (record {
      rest = decimal s ∷ decimal a ∷ [];
      all = words s a;
      begins = begins_more ws set.value.left end.value.left (decimal a ∷ []) (decimal s) one.parts one.some (begins_one set.value.left end.value.left (decimal a) two.parts two.some);
      good = good s a one.good two.good;
    })

semi_rewritten : (ws : Words) (t : Taken Branch) → semi_said ws ≡ Ok t → Branched (codes "semi") ws t.value t.left
unfolding semi_said
semi_rewritten ws t e =
    let column = steps (taking index_said ws) (λ column. told (branch.Semi column.value) column.left) t e in
    let c = column.value.value in
    let one = took_as index_said decimal (IsBelow (2 ^ 32)) ws column.value name_rewritten column.one in
    told_as (Branched (codes "semi") ws) (branch.Semi c) column.value.left t column.two (record { rest = decimal c ∷ []; all = refl; begins = begins_one ws column.value.left (decimal c) one.parts one.some; good = one.good })

-- ---- what became of a node

shown_rewritten : (d : DeckValue) (made : MultipliersValue → WhatValue) (name : List ℕ) (says : List ℕ → Says ℤ) (Good : ℤ → Type 0) (ws : Words) (t : Taken WhatValue) → SaysAs says signed_decimal Good → ((z : ℤ) → Good z → IsFromZero z)
    → ((y : MultipliersValue) → what_words (made y) ≡ name ∷ multiplier_words y) → ((y : MultipliersValue) → IsWritableList d y → Good y.y0 → IsWritableWhat d (made y)) → shown_said made says (length d.rows) ws ≡ Ok t → Became d name ws t.value t.left
unfolding shown_said
shown_rewritten d made name says Good ws t back from words good e =
    let s = steps (multipliers_said says (length d.rows) ws) (λ y. told (made y.value) y.left) t e in
    let y = s.value.value in
    let m = multipliers_rewritten d says Good ws s.value back from s.one in
    told_as (Became d name ws) (made y) s.value.left t s.two (record { rest = multiplier_words y; all = words y; begins = begins_all ws s.value.left (multiplier_words y) m.words m.end; good = good y m.list m.first })

record IsColumn (columns n : ℕ) : Type 0 where
  small : n < 2 ^ 32
  within : n < columns

column_rewritten : (columns : ℕ) → SaysAs (column_said columns) decimal (IsColumn columns)
unfolding column_said
column_rewritten columns word n e =
    let s = steps (index_said word) (λ n. kept ((nat_le columns n, BadNode) ∷ []) n) n e in
    let k = keeps_last (nat_le columns s.value) BadNode s.value n s.two in
    let w = name_rewritten word s.value s.one in
    subst (λ (m : ℕ). (word ≡ decimal m) × IsColumn columns m) k.1 (w.0, record { small = w.1; within = leb-false columns s.value k.0 })

void_rewritten : (d : DeckValue) (ws : Words) (t : Taken WhatValue) → void_said (length d.columns) ws ≡ Ok t → Became d (codes "void") ws t.value t.left
unfolding void_said
void_rewritten d ws t e =
    let column = steps (taking (column_said (length d.columns)) ws) (λ column. told (Void column.value) column.left) t e in
    let c = column.value.value in
    let one = took_as (column_said (length d.columns)) decimal (IsColumn (length d.columns)) ws column.value (column_rewritten (length d.columns)) column.one in
    told_as (Became d (codes "void") ws) (Void c) column.value.left t column.two (record { rest = decimal c ∷ []; all = refl; begins = begins_one ws column.value.left (decimal c) one.parts one.some; good = (one.good.small, one.good.within) })

-- the word for what became of a node
abbrev what_name : WhatWord → List ℕ
what_name what.Int = codes "int"
what_name what.Cut = codes "cut"
what_name what.Semi = codes "semi"
what_name what.One = codes "one"
what_name what.Two = codes "two"
what_name what.Bounded = codes "bounded"
what_name what.Empty = codes "empty"
what_name what.Void = codes "void"
what_name what.Open = codes "open"

abbrev whats : List (List ℕ × WhatWord)
whats =
    (codes "int", what.Int) ∷ (codes "cut", what.Cut) ∷ (codes "semi", what.Semi) ∷ (codes "one", what.One)
    ∷ (codes "two", what.Two) ∷ (codes "bounded", what.Bounded) ∷ (codes "empty", what.Empty)
    ∷ (codes "void", what.Void) ∷ (codes "open", what.Open) ∷ []

called_what_rewritten : SaysAs what_called what_name IsAny
called_what_rewritten word v e = (called_rewritten what_name whats (refl, (refl, (refl, (refl, (refl, (refl, (refl, (refl, (refl, tt))))))))) word v e, tt)

what_rewritten : (d : DeckValue) (c : WhatWord) (ws : Words) (t : Taken WhatValue) → what_said d c ws ≡ Ok t → Became d (what_name c) ws t.value t.left
what_rewritten d what.Int ws t e = split_rewritten d (codes "int") ws t (cut_said branch.Int ws) (cut_rewritten branch.Int (codes "int") ws (λ c a. refl) (λ c a h. h)) e
what_rewritten d what.Cut ws t e = split_rewritten d (codes "cut") ws t (cut_said branch.Cut ws) (cut_rewritten branch.Cut (codes "cut") ws (λ c a. refl) (λ c a h. h)) e
what_rewritten d what.Semi ws t e = split_rewritten d (codes "semi") ws t (semi_said ws) (semi_rewritten ws) e
what_rewritten d what.One ws t e = split_rewritten d (codes "one") ws t (set_said branch.One ws) (set_rewritten branch.One (codes "one") ws (λ s a. refl) (λ s a h k. (h, k))) e
what_rewritten d what.Two ws t e = split_rewritten d (codes "two") ws t (set_said branch.Two ws) (set_rewritten branch.Two (codes "two") ws (λ s a. refl) (λ s a h k. (h, k))) e
what_rewritten d what.Bounded ws t e = shown_rewritten d Bounded (codes "bounded") from_zero_word IsFromZero ws t from_zero_word_rewritten (λ z h. h) (λ y. refl) (λ y h k. h) e
what_rewritten d what.Empty ws t e = shown_rewritten d Empty (codes "empty") zero_word IsZero ws t zero_rewritten (λ z h. h.from) (λ y. refl) (λ y h k. record { multipliers = h; zero = k.zero }) e
what_rewritten d what.Void ws t e = void_rewritten d ws t e
what_rewritten d what.Open ws t e = shown_rewritten d OpenLeaf (codes "open") from_zero_word IsFromZero ws t from_zero_word_rewritten (λ z h. h) (λ y. refl) (λ y h k. h) e

became_rewritten : (d : DeckValue) (ws : Words) (t : Taken WhatValue) → became_said d ws ≡ Ok t → Begins ws (what_words t.value) t.left × IsWritableWhat d t.value
unfolding became_said
became_rewritten d ws t e =
    let word = steps (taking what_called ws) (λ word. what_said d word.value word.left) t e in
    let one = took_as what_called what_name IsAny ws word.value called_what_rewritten word.one in
    let w = what_rewritten d word.value.value word.value.left t word.two in
    (subst (λ (l : Words). Begins ws l t.left) (sym w.all) (begins_more ws word.value.left t.left w.rest (what_name word.value.value) one.parts one.some w.begins), w.good)

-- ---- the line

abbrev IsWritableWork : Option Solved → Type 0
IsWritableWork o = IfSome o IsWritableSolved

record Worked (ws : Words) (o : Option Solved) (left : Words) : Type 0 where
  begins : Begins ws (solved_words o) left
  good : IsWritableWork o

work_rewritten : (ws : Words) (t : Taken (Option Solved)) → work_said ws ≡ Ok t → Worked ws t.value t.left
unfolding work_said
work_rewritten ws t e =
    let number = steps (taking (natural_word (2 ^ 32)) ws) (λ number. then_step (taking (natural_word (2 ^ 64)) number.left) (λ pivots. told (Some (record { number = number.value; pivots = pivots.value })) pivots.left)) t e in
    let n = number.value.value in
    let pivots = steps (taking (natural_word (2 ^ 64)) number.value.left) (λ pivots. told (Some (record { number = n; pivots = pivots.value })) pivots.left) t number.two in
    let k = pivots.value.value in
    let one = took_as (natural_word (2 ^ 32)) decimal (IsBelow (2 ^ 32)) ws number.value (natural_rewritten (2 ^ 32) (omega arith)) number.one in
    let two = took_as (natural_word (2 ^ 64)) decimal (IsBelow (2 ^ 64)) number.value.left pivots.value (natural_rewritten (2 ^ 64) (omega arith)) pivots.one in
    told_as (Worked ws) (Some (record { number = n; pivots = k })) pivots.value.left t pivots.two (record {
      begins = begins_more ws number.value.left pivots.value.left (decimal k ∷ []) (decimal n) one.parts one.some (begins_one number.value.left pivots.value.left (decimal k) two.parts two.some);
      good = record { number = one.good; pivots = two.good };
    })

hyphens_rewritten : (ws : Words) (t : Taken (Option Solved)) → is_next (codes "-") ws ≡ true → then_step (fixed (codes "-") (drop 1 ws)) (λ left. told None left) ≡ Ok t → Worked ws t.value t.left
unfolding is_next
hyphens_rewritten [] t h e = absurd (let bad = h in cc)
hyphens_rewritten (w ∷ ws) t h e =
    let s = steps (fixed (codes "-") ws) (λ left. told None left) t e in
    let first = same_bytes w (codes "-") h in
    let second = fixed_rewritten (codes "-") ws s.value s.one in
    told_as (Worked (w ∷ ws)) None s.value t s.two (record {
      begins = begins_more (w ∷ ws) ws s.value (codes "-" ∷ []) (codes "-") (ap (λ (x : List ℕ). x ∷ ws) first) refl (begins_one ws s.value (codes "-") second.parts second.some);
      good = tt;
    })

solved_rewritten : (ws : Words) (t : Taken (Option Solved)) → solved_said ws ≡ Ok t → Worked ws t.value t.left
unfolding solved_said
solved_rewritten ws t e =
    elim (cases_Bool (is_next (codes "END") ws)) [
      | inl end ↦ absurd (let bad : Err BadWord ≡ Ok t = rw end at e in cc)
      | inr more ↦
          elim (cases_Bool (is_next (codes "-") ws)) [
            | inl hyphen ↦ hyphens_rewritten ws t hyphen (rw (more, hyphen) at e)
            | inr work ↦ work_rewritten ws t (rw (more, work) at e)
          ]
    ]

pub node_rewritten : (d : DeckValue) → LineAs (node_line d) node_words (IsWritableNode d)
unfolding node_line
node_rewritten d ws n e =
    let solved = steps (solved_said ws) (λ solved. then_step (became_said d solved.left) (λ t. over (record { solved = solved.value; what = t.value }) t.left)) n e in
    let t = steps (became_said d solved.value.left) (λ t. over (record { solved = solved.value.value; what = t.value }) t.left) n solved.two in
    let made : NodeValue = record { solved = solved.value.value; what = t.value.value } in
    let o = over_rewritten made n t.value.left t.two in
    let one = solved_rewritten ws solved.value solved.one in
    let two = became_rewritten d solved.value.left t.value t.one in
    let all = begins_both ws solved.value.left t.value.left (solved_words made.solved) (what_words made.what) one.begins two.0 in
    let good : IsWritableNode d made = record { solved = one.good; what = two.1 } in
    subst (λ (m : NodeValue). AreWords ws (node_words m) × IsWritableNode d m) o.1 (are_words ws t.value.left (node_words made) all o.0, good)
