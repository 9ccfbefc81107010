-- The rules on a whole deck, part by part.
use Rattle.std.proofs.Common.{◌≡◌, List, ◌++◌, flat_map, Option, None, Some, ◌∙◌}
use Rattle.std.specs.List.{enumerate_from}
use Rattle.um_statements.specs.declared.fault.Fault.{Fault}
use Rattle.um_statements.specs.Said.{Said}
use Rattle.um_statements.specs.CallRules.{Rule, first_fault}
use Rattle.um_statements.specs.Made.{objective, sided_rows}
use Rattle.um_statements.specs.DeckRules.{row_rules, objective_rules, column_rules, set_rules, deck_rules}
use Rattle.um_made.proofs.Walks.{first_of_both, first_of_first}

module _ (said : Said) where
  abbrev first : List Rule
  first = objective_rules said (objective said)

  abbrev second : List Rule
  second = flat_map (row_rules said) (sided_rows said)

  abbrev third : List Rule
  third = flat_map (column_rules said) (enumerate_from 0 said.columns)

  abbrev fourth : List Rule
  fourth = flat_map (set_rules said) said.sets

  pub objective_broken : (f : Fault) → first_fault (objective_rules said (objective said)) ≡ Some f → first_fault (deck_rules said) ≡ Some f
  unfolding deck_rules
  objective_broken f h = first_of_first first (second ++ (third ++ fourth)) f h

  pub row_broken : (f : Fault) → first_fault (objective_rules said (objective said)) ≡ None → first_fault (flat_map (row_rules said) (sided_rows said)) ≡ Some f → first_fault (deck_rules said) ≡ Some f
  unfolding deck_rules
  row_broken f a h = first_of_both first (second ++ (third ++ fourth)) a ∙ first_of_first second (third ++ fourth) f h

  pub column_broken : (f : Fault) → first_fault (objective_rules said (objective said)) ≡ None → first_fault (flat_map (row_rules said) (sided_rows said)) ≡ None
      → first_fault (flat_map (column_rules said) (enumerate_from 0 said.columns)) ≡ Some f → first_fault (deck_rules said) ≡ Some f
  unfolding deck_rules
  column_broken f a b h = first_of_both first (second ++ (third ++ fourth)) a ∙ (first_of_both second (third ++ fourth) b ∙ first_of_first third fourth f h)

  pub sets_decide : (o : Option Fault) → first_fault (objective_rules said (objective said)) ≡ None → first_fault (flat_map (row_rules said) (sided_rows said)) ≡ None
      → first_fault (flat_map (column_rules said) (enumerate_from 0 said.columns)) ≡ None → first_fault (flat_map (set_rules said) said.sets) ≡ o → first_fault (deck_rules said) ≡ o
  unfolding deck_rules
  sets_decide o a b c h = first_of_both first (second ++ (third ++ fourth)) a ∙ (first_of_both second (third ++ fourth) b ∙ (first_of_both third fourth c ∙ h))
