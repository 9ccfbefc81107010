-- Laws on deck texts.
use Rattle.std.specs.Prelude.{◌≡◌, ◌⊎◌, ℕ, List}
use Rattle.um_model.specs.Values.{DeckValue}
use Rattle.um_statements.specs.declared.fault.Fault.{Fault}
use Rattle.um_statements.specs.declared.fault.Fault.TheVariants.{Memory}
use Rattle.um_statements.specs.Laws.{IsDeckOfObjective}
use Rattle.um_decktext.specs.DeckText.{DeckFault, DeckText}

-- a line and the rule that is broken there
pub record Broken (bytes : List ℕ) : Type 0 where
  pub line : ℕ
  pub fault : Fault
  pub first : DeckFault bytes line fault

-- a deck whose text this is
pub record Read (bytes : List ℕ) : Type 0 where
  pub deck : DeckValue
  pub text : DeckText bytes deck

-- All bytes either are a deck's text or break a rule first, and never both. They are the text of one deck alone, and
-- one line and one rule are the first.
pub record TextLaw : Type 0 where
  pub either : (bytes : List ℕ) → Read bytes ⊎ Broken bytes
  pub never_both : (bytes : List ℕ) (d : DeckValue) (line : ℕ) (fault : Fault) → DeckText bytes d → DeckFault bytes line fault → ⊥
  pub one_deck : (bytes : List ℕ) (d e : DeckValue) → DeckText bytes d → DeckText bytes e → d ≡ e
  pub one_line : (bytes : List ℕ) (line other : ℕ) (fault rule : Fault) → DeckFault bytes line fault → DeckFault bytes other rule → line ≡ other
  pub one_fault : (bytes : List ℕ) (line other : ℕ) (fault rule : Fault) → DeckFault bytes line fault → DeckFault bytes other rule → fault ≡ rule

-- want of memory is no rule that a text breaks
abbrev pub RuleLaw : Type 0
RuleLaw = (bytes : List ℕ) (line : ℕ) → DeckFault bytes line Memory → ⊥

-- what a text is read as is a well-formed deck, with all arcs in the objective
abbrev pub FormedLaw : Type 0
FormedLaw = (bytes : List ℕ) (d : DeckValue) → DeckText bytes d → IsDeckOfObjective d
