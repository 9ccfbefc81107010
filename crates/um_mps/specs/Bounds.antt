-- The words of a bound, and what it says.
use Rattle.std.specs.Prelude.{◌≡◌, true, [], ◌∷◌, Option, Some, None, is_some, Result, Ok, MatchResult}
use Rattle.std.specs.Option.{option_copied}
use Rattle.um_num.specs.Numbers.{then_step}
use Rattle.um_statements.specs.declared.fault.Fault.{Fault}
use Rattle.um_statements.specs.declared.parts.BoundKind.{BoundKind}
use Rattle.um_statements.specs.Statements.{Name, Bound}
use Rattle.um_statements.specs.Said.{makes_semi}
use Rattle.um_statements.specs.CallRules.{first_fault}
use Rattle.um_statements.specs.Tells.{Says, needs_value}
use Rattle.um_mps.specs.declared.bounds.BoundWords.{BoundWords}
use Rattle.um_decktext.specs.Words.{Words}
use Rattle.um_decktext.specs.Numbers.{number}
use Rattle.um_decktext.specs.SetLines.{semi_says}
use Rattle.um_decktext.specs.LineWords.{set_of_bound}
use Rattle.um_decktext.specs.LinesSay.{bound_rules, bound_says}

-- what a bound on a column says, whose value is this word, if any
abbrev pub says_value : BoundKind → Name → Option Name → Says
says_value kind column None = Ok (Bound kind column None ∷ [])
says_value kind column (Some word) = then_step (number word) (λ v. Ok (Bound kind column (Some v) ∷ []))

abbrev pub says_bound : BoundWords → Says
says_bound b = says_value b.kind b.column.now (option_copied b.value)

-- the words are read as this bound; or they break this rule
pub record IsBound (ws : Words) (b : BoundWords) : Type 0 where
  pub unbroken : first_fault (bound_rules ws) ≡ None
  pub set : set_of_bound ws ≡ option_copied b.set
  pub says : bound_says ws ≡ says_bound b
  pub needed : needs_value b.kind ≡ is_some b.value
  pub semi : makes_semi b.kind ≡ true → bound_says ws ≡ semi_says (is_some b.set) ws

abbrev pub AreBoundWords : Words → Result BoundWords Fault → Type 0
AreBoundWords ws result = MatchResult result (IsBound ws) (λ fault. first_fault (bound_rules ws) ≡ Some fault)
