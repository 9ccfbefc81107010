-- The lines of version, deck, tolerance and kind: the words that were read are those that are written of what they said.
use Rattle.std.proofs.Common.{◌≡◌, ℕ, ◌<◌, ◌^◌, ◌≤ℤ◌, true, ◌&&◌, not, nat_eq, List, [], ◌∷◌, length, ℤ, pos, Ok, codes, refl, ap, ◌∙◌, subst, arith}
use Rattle.std.specs.Fmt.{decimal, signed_decimal}
use Rattle.std.specs.List.{list_all}
use Rattle.std.specs.Str.{bytes_eq}
use Rattle.std.proofs.lemmas.Bool.{and_parts, lt-ltb, eqb-true, not-false}
use Rattle.std.proofs.lemmas.Int.{ints}
use Rattle.um_num.specs.Numbers.{then_step}
use Rattle.um_model.specs.Values.{DeckValue}
use Rattle.um_model.specs.declared.answer.AnswerKind.{AnswerKind}
use Rattle.um_model.specs.declared.answer.AnswerKind.TheVariants as kind
use Rattle.um_treetext.specs.declared.fault.TreeWord.TheVariants.{WrongDeck}
use Rattle.um_treetext.specs.Words.{Words, Says, kept, taking, fixed, ended, sole, labelled, natural_word, is_short}
use Rattle.um_treetext.specs.FrontLines.{version_line, is_name_byte, name_said, count_said, deck_line, tolerance_said, tolerance_line, kind_said, kind_line}
use Rattle.um_treetext.specs.TreeText.{name_word, deck_words, kind_word}
use Rattle.um_treetext.specs.Writable.{IsNamed}
use Rattle.um_treelaws.proofs.ReadSteps.{steps, same_ok, keeps_last, same_bytes, are_more, are_none, SaysAs, took_as, fixed_rewritten, ended_rewritten, sole_rewritten, labelled_rewritten, called_rewritten, IsAny}
use Rattle.um_treelaws.proofs.ReadNumbers.{natural_rewritten}
use Rattle.um_treelaws.proofs.ReadLines.{LineAs}

-- ---- the version

abbrev pub version_words : Words
version_words = codes "UMPIRE" ∷ codes "TREE" ∷ codes "1" ∷ []

pub version_rewritten : LineAs version_line (λ v. version_words) IsAny
version_rewritten ws v e =
    let a = steps (fixed (codes "UMPIRE") ws) (λ a. then_step (fixed (codes "TREE") a) (λ b. then_step (fixed (codes "1") b) ended)) v e in
    let b = steps (fixed (codes "TREE") a.value) (λ b. then_step (fixed (codes "1") b) ended) v a.two in
    let c = steps (fixed (codes "1") b.value) ended v b.two in
    let one = fixed_rewritten (codes "UMPIRE") ws a.value a.one in
    let two = fixed_rewritten (codes "TREE") a.value b.value b.one in
    let three = fixed_rewritten (codes "1") b.value c.value c.one in
    (are_more ws a.value _ _ one.parts one.some (are_more a.value b.value _ _ two.parts two.some (are_more b.value c.value _ _ three.parts three.some (are_none c.value (ended_rewritten c.value v c.two)))), tt)

-- ---- the deck

abbrev HasName : DeckValue → List ℕ → Type 0
HasName d v = list_all is_name_byte d.name ≡ true

name_rewritten : (d : DeckValue) → SaysAs (name_said d.name) (λ v. name_word d.name) (HasName d)
unfolding name_said
name_rewritten d word v e =
    let whole = list_all is_name_byte d.name && bytes_eq word (name_word d.name) in
    let k = keeps_last (not whole) WrongDeck word v e in
    let both = and_parts (list_all is_name_byte d.name) (bytes_eq word (name_word d.name)) (not-false whole k.0) in
    (same_bytes word (name_word d.name) both.1, both.0)

abbrev IsCount : ℕ → ℕ → Type 0
IsCount count v = count < 2 ^ 127

count_rewritten : (count : ℕ) → SaysAs (count_said count) (λ v. decimal count) (IsCount count)
unfolding count_said
count_rewritten count word v e =
    let s = steps (natural_word (2 ^ 127) word) (λ n. kept ((not (nat_eq n count), WrongDeck) ∷ []) count) v e in
    let k = keeps_last (not (nat_eq s.value count)) WrongDeck count v s.two in
    let same = eqb-true s.value count (not-false (nat_eq s.value count) k.0) in
    let n = natural_rewritten (2 ^ 127) (omega arith) word s.value s.one in
    (n.0 ∙ ap decimal same, subst (λ (m : ℕ). m < 2 ^ 127) same n.1)

abbrev pub Named : DeckValue → ℕ → Type 0
Named d v = IsNamed d

pub deck_rewritten : (d : DeckValue) → LineAs (deck_line d) (λ v. deck_words d) (Named d)
deck_rewritten d ws v e =
    let l = labelled_rewritten (codes "DECK") _ ws v e in
    let name = steps (taking (name_said d.name) l.left) _ v l.said in
    let rows = steps (taking (count_said (length d.rows)) name.value.left) _ v name.two in
    let columns = steps (taking (count_said (length d.columns)) rows.value.left) _ v rows.two in
    let sets = steps (taking (count_said (length d.sets)) columns.value.left) _ v columns.two in
    let one = took_as (name_said d.name) (λ v. name_word d.name) (HasName d) l.left name.value (name_rewritten d) name.one in
    let two = took_as (count_said (length d.rows)) (λ v. decimal (length d.rows)) (IsCount (length d.rows)) name.value.left rows.value (count_rewritten (length d.rows)) rows.one in
    let three = took_as (count_said (length d.columns)) (λ v. decimal (length d.columns)) (IsCount (length d.columns)) rows.value.left columns.value (count_rewritten (length d.columns)) columns.one in
    let four = took_as (count_said (length d.sets)) (λ v. decimal (length d.sets)) (IsCount (length d.sets)) columns.value.left sets.value (count_rewritten (length d.sets)) sets.one in
    let five = sole_rewritten (count_said (length d.arcs)) (λ v. decimal (length d.arcs)) (IsCount (length d.arcs)) sets.value.left v (count_rewritten (length d.arcs)) sets.two in (
      are_more ws l.left _ _ l.behind.parts l.behind.some
          (are_more l.left name.value.left _ _ one.parts one.some
          (are_more name.value.left rows.value.left _ _ two.parts two.some
          (are_more rows.value.left columns.value.left _ _ three.parts three.some
          (are_more columns.value.left sets.value.left _ _ four.parts four.some five.0)))),
      record { name = one.good; rows = two.good; columns = three.good; sets = four.good; arcs = five.1 },
    )

-- ---- the answer's kind and tolerance

-- a label and one word
pub label_sole : {A : Type 0} (label : List ℕ) (says : List ℕ → Says A) (write : A → List ℕ) (Good : A → Type 0) → SaysAs says write Good → LineAs (labelled label (sole says)) (λ v. label ∷ write v ∷ []) Good
label_sole label says write Good back ws v e =
    let l = labelled_rewritten label (sole says) ws v e in
    let s = sole_rewritten says write Good l.left v back l.said in
    (are_more ws l.left _ label l.behind.parts l.behind.some s.0, s.1)

pub record IsTolerance (z : ℤ) : Type 0 where
  pub low : pos 0 ≤ℤ z
  pub short : is_short z ≡ true

tolerance_word : SaysAs tolerance_said signed_decimal IsTolerance
unfolding tolerance_said
tolerance_word word z e =
    let s = steps (natural_word (2 ^ 63) word) (λ n. Ok (pos n)) z e in
    let n = natural_rewritten (2 ^ 63) (omega arith) word s.value s.one in
    let same : pos s.value ≡ z = same_ok (Ok (pos s.value)) (pos s.value) z refl s.two in
    subst (λ (x : ℤ). (word ≡ signed_decimal x) × IsTolerance x) same (n.0, record { low = omega (arith, ints); short = lt-ltb s.value (2 ^ 63) n.1 })

abbrev pub tolerance_words : ℤ → Words
tolerance_words z = codes "TOLERANCE" ∷ signed_decimal z ∷ []

pub tolerance_rewritten : LineAs tolerance_line tolerance_words IsTolerance
tolerance_rewritten = label_sole (codes "TOLERANCE") tolerance_said signed_decimal IsTolerance tolerance_word

abbrev kinds : List (List ℕ × AnswerKind)
kinds = (codes "optimal", kind.Optimal) ∷ (codes "infeasible", kind.Infeasible) ∷ (codes "unbounded", kind.Unbounded) ∷ (codes "limit", kind.Limit) ∷ (codes "overflow", kind.Overflow) ∷ []

kind_said_rewritten : SaysAs kind_said kind_word IsAny
kind_said_rewritten word v e = (called_rewritten kind_word kinds (refl, (refl, (refl, (refl, (refl, tt))))) word v e, tt)

abbrev pub kind_words : AnswerKind → Words
kind_words k = codes "ANSWER" ∷ kind_word k ∷ []

pub kind_rewritten : LineAs kind_line kind_words IsAny
kind_rewritten = label_sole (codes "ANSWER") kind_said kind_word IsAny kind_said_rewritten
