-- Laws on reading.
use Rattle.std.specs.Prelude.{◌≡◌, ◌⊎◌, ◌↔◌, ℕ, List}
use Rattle.um_model.specs.Values.{DeckValue}
use Rattle.um_model.specs.AnswerValues.{AnswerValue}
use Rattle.um_treetext.specs.declared.fault.TreeWord.{TreeWord}
use Rattle.um_treetext.specs.declared.fault.TreeWord.TheVariants.{Memory}
use Rattle.um_treetext.specs.TreeText.{tree_text}
use Rattle.um_treetext.specs.Reading.{TreeText, TreeFaultAt}
use Rattle.um_treetext.specs.Writable.{IsWritable}

-- an answer whose text this is
pub record IsText (d : DeckValue) (bytes : List ℕ) : Type 0 where
  pub answer : AnswerValue
  pub text : TreeText d bytes answer

-- a line and the rule that is broken there
pub record IsBroken (d : DeckValue) (bytes : List ℕ) : Type 0 where
  pub line : ℕ
  pub fault : TreeWord
  pub first : TreeFaultAt d bytes line fault

-- All bytes either are an answer's text or break a rule first, and never both. They are the text of one answer alone, and
-- one line and one rule are the first.
pub record TextLaw (d : DeckValue) (bytes : List ℕ) : Type 0 where
  pub either : IsText d bytes ⊎ IsBroken d bytes
  pub never_both : (a : AnswerValue) (line : ℕ) (fault : TreeWord) → TreeText d bytes a → TreeFaultAt d bytes line fault → ⊥
  pub one_answer : (a b : AnswerValue) → TreeText d bytes a → TreeText d bytes b → a ≡ b
  pub one_line : (line other : ℕ) (fault rule : TreeWord) → TreeFaultAt d bytes line fault → TreeFaultAt d bytes other rule → line ≡ other
  pub one_fault : (line other : ℕ) (fault rule : TreeWord) → TreeFaultAt d bytes line fault → TreeFaultAt d bytes other rule → fault ≡ rule

-- want of memory is no rule that a text breaks
abbrev pub RuleLaw : Type 0
RuleLaw = (d : DeckValue) (bytes : List ℕ) (line : ℕ) → TreeFaultAt d bytes line Memory → ⊥

-- The bytes that are an answer's text are those that are written for it, where it can be written; an answer that can't be
-- is read from no bytes.
abbrev pub WrittenLaw : Type 0
WrittenLaw = (d : DeckValue) (bytes : List ℕ) (a : AnswerValue) → TreeText d bytes a ↔ (IsWritable d a × (bytes ≡ tree_text d a))
