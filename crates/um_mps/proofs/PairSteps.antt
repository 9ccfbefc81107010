-- Pairs that are told one after the other.
use Rattle.std.proofs.Common.{◌≡◌, ℕ, ◌+◌, ◌<◌, Bool, length-append, get_or, drop, length-drop, OnOk, List, [], ◌∷◌, ◌++◌, length, Option, None, Result, Ok, Err, refl, sym, ap, ◌∙◌, arith, inl, inr}
use Rattle.std.proofs.lemmas.List.{get_or-drop}
use Rattle.std.specs.Option.{option_or}
use Rattle.um_num.specs.declared.decimal.Decimal.{Decimal}
use Rattle.um_statements.specs.declared.fault.Fault.{Fault}
use Rattle.um_statements.specs.Statements.{Name, Statement, Column, EntryTold}
use Rattle.um_statements.specs.Said.{Said, ColumnSaid}
use Rattle.um_statements.specs.CallRules.{bare_ends, faults_in, with_statement, with_all}
use Rattle.um_statements.specs.Tells.{Tells, TellsAll}
use Rattle.um_statements.proofs.PushedLists.{length_last}
use Rattle.um_statements.proofs.CollectedSteps.{faults_append, all_append}
use Rattle.um_decktext.specs.Words.{Words}
use Rattle.um_decktext.specs.Numbers.{number}
use Rattle.um_decktext.specs.LinesSay.{pairs}

entry_keeps : (row : Name) (value : Decimal) (said : Said) → length (with_statement (EntryTold row value) said).columns ≡ length said.columns
unfolding with_statement
entry_keeps row value said = length_last {X = ColumnSaid} _ said.columns

-- another entry may be told behind one
pub entry_may : (row : Name) (value : Decimal) (old : Said) (result : Result Unit Fault) (new : Said) → 0 < length old.columns → Tells (EntryTold row value) old result new
    → OnOk result (0 < length new.columns)
entry_may row value old (Ok done) new may told = omega (arith, ap (λ (s : Said). length s.columns) told.1, entry_keeps row value old)
entry_may row value old (Err fault) new may told = tt

-- statements that are told behind others
pub told_then : (xs ys : List Statement) (old mid : Said) (result : Result Unit Fault) (new : Said) → faults_in old xs ≡ None → mid ≡ with_all xs old
    → TellsAll (Ok ys) mid result new → TellsAll (Ok (xs ++ ys)) old result new
told_then xs ys old mid (Ok done) new fine more told = (
  faults_append old xs ys ∙ ap (λ (o : Option Fault). option_or o (faults_in (with_all xs old) ys)) fine ∙ ap (λ (s : Said). faults_in s ys) (sym more) ∙ told.0,
  told.1 ∙ ap (with_all ys) more ∙ sym (all_append old xs ys),
)
told_then xs ys old mid (Err fault) new fine more (inl memory) = inl memory
told_then xs ys old mid (Err fault) new fine more (inr broken) =
    inr (faults_append old xs ys ∙ ap (λ (o : Option Fault). option_or o (faults_in (with_all xs old) ys)) fine ∙ ap (λ (s : Said). faults_in s ys) (sym more) ∙ broken)

-- a first of them is refused
pub told_short : (xs ys : List Statement) (old : Said) (fault : Fault) (new : Said) → TellsAll (Ok xs) old (Err fault) new → TellsAll (Ok (xs ++ ys)) old (Err fault) new
told_short xs ys old fault new (inl memory) = inl memory
told_short xs ys old fault new (inr broken) = inr (faults_append old xs ys ∙ ap (λ (o : Option Fault). option_or o (faults_in (with_all xs old) ys)) broken)

-- ---- columns

column_adds : (name : Name) (in_block : Bool) (said : Said) → 0 < length (with_statement (Column name in_block) said).columns
unfolding with_statement
column_adds name in_block said = omega (arith, length-append said.columns (record { name = name; ends = bare_ends in_block; entries = [] } ∷ []))

-- a column was made
pub column_some : (name : Name) (in_block : Bool) (old : Said) (result : Result Unit Fault) (new : Said) → Tells (Column name in_block) old result new → OnOk result (0 < length new.columns)
column_some name in_block old (Ok done) new told = omega (arith, ap (λ (s : Said). length s.columns) told.1, column_adds name in_block old)
column_some name in_block old (Err fault) new told = tt

-- ---- the words of pairs

second_of_four : (ws : Words) (v : Decimal) (fault : Fault) → length ws ≡ 4 → number (get_or ws 1 []) ≡ Ok v → number (get_or ws 3 []) ≡ Err fault → pairs ws ≡ Err fault
second_of_four [] v fault long first second = absurd (omega (arith, long))
second_of_four (a ∷ []) v fault long first second = absurd (omega (arith, long))
second_of_four (a ∷ (b ∷ [])) v fault long first second = absurd (omega (arith, long))
second_of_four (a ∷ (b ∷ (c ∷ []))) v fault long first second = absurd (omega (arith, long))
second_of_four (a ∷ (b ∷ (c ∷ (d ∷ [])))) v fault long first second = rw (first, second) refl
second_of_four (a ∷ (b ∷ (c ∷ (d ∷ (e ∷ ws))))) v fault long first second = absurd (omega (arith, long))

-- the number of the second pair from this place on is none
pub second_broken : (ws : Words) (from : ℕ) (v : Decimal) (fault : Fault) → length ws ≡ from + 4 → number (get_or ws (from + 1) []) ≡ Ok v → number (get_or ws (from + 3) []) ≡ Err fault
    → pairs (drop from ws) ≡ Err fault
second_broken ws from v fault long first second =
    second_of_four (drop from ws) v fault (omega (arith, length-drop from ws)) (ap number (get_or-drop from ws 1 []) ∙ first) (ap number (get_or-drop from ws 3 []) ∙ second)
