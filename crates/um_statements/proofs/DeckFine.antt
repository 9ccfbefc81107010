-- The rules on the whole deck, taken apart: what holds of each row, column and set of a deck that breaks none.
use Rattle.std.proofs.Common.{◌≡◌, ℕ, Bool, true, false, List, [], ◌∷◌, ◌++◌, flat_map, All, Option, None, Some, refl, if◌then◌else◌}
use Rattle.std.specs.List.{enumerate_from}
use Rattle.std.proofs.lemmas.List.Elements.{All-nil, All-cons}
use Rattle.um_statements.specs.Said.{Said, RowSaid, ColumnSaid, SetSaid}
use Rattle.um_statements.specs.CallRules.{Rule, first_fault}
use Rattle.um_statements.specs.Made.{objective, sided_rows}
use Rattle.um_statements.specs.DeckRules.{row_rules, objective_rules, column_rules, set_rules, deck_rules, deck_fault}

-- ---- lists of rules

pub rules_apart : (rules more : List Rule) → first_fault (rules ++ more) ≡ None → (first_fault rules ≡ None) × (first_fault more ≡ None)
rules_apart [] more fine = (refl, fine)
rules_apart (r ∷ rules) more fine = by r.0 fine (rules_apart rules more)
  where
    by : (b : Bool) → (if b then Some r.1 else first_fault (rules ++ more)) ≡ None → (first_fault (rules ++ more) ≡ None → (first_fault rules ≡ None) × (first_fault more ≡ None))
        → ((if b then Some r.1 else first_fault rules) ≡ None) × (first_fault more ≡ None)
    by true fine rest = cc
    by false fine rest = rest fine

pub rules_of_each : {X : Type 0} (rules : X → List Rule) (xs : List X) → first_fault (flat_map rules xs) ≡ None → All (λ x. first_fault (rules x) ≡ None) xs
rules_of_each rules [] fine = All-nil (λ x. first_fault (rules x) ≡ None)
rules_of_each rules (x ∷ xs) fine =
    let both = rules_apart (rules x) (flat_map rules xs) fine in
    All-cons (λ y. first_fault (rules y) ≡ None) x xs both.0 (rules_of_each rules xs both.1)

-- ---- the deck

pub record IsFine (said : Said) : Type 0 where
  pub objective_row : (p : ℕ × RowSaid) × (objective said ≡ Some p) × (first_fault (row_rules said p) ≡ None)
  pub each_row : All (λ (p : ℕ × RowSaid). first_fault (row_rules said p) ≡ None) (sided_rows said)
  pub each_column : All (λ (p : ℕ × ColumnSaid). first_fault (column_rules said p) ≡ None) (enumerate_from 0 said.columns)
  pub each_set : All (λ (s : SetSaid). first_fault (set_rules said s) ≡ None) said.sets

objective_fine : (said : Said) (o : Option (ℕ × RowSaid)) → objective said ≡ o → first_fault (objective_rules said o) ≡ None → (p : ℕ × RowSaid) × (objective said ≡ Some p) × (first_fault (row_rules said p) ≡ None)
objective_fine said None is fine = cc
objective_fine said (Some p) is fine = (p, is, fine)

pub deck-fine : (said : Said) → deck_fault said ≡ None → IsFine said
unfolding deck_rules
deck-fine said fine =
    let first = rules_apart (objective_rules said (objective said)) (flat_map (row_rules said) (sided_rows said) ++ (flat_map (column_rules said) (enumerate_from 0 said.columns) ++ flat_map (set_rules said) said.sets)) fine in
    let second = rules_apart (flat_map (row_rules said) (sided_rows said)) (flat_map (column_rules said) (enumerate_from 0 said.columns) ++ flat_map (set_rules said) said.sets) first.1 in
    let third = rules_apart (flat_map (column_rules said) (enumerate_from 0 said.columns)) (flat_map (set_rules said) said.sets) second.1 in
    record {
      objective_row = objective_fine said (objective said) refl first.0;
      each_row = rules_of_each (row_rules said) (sided_rows said) second.0;
      each_column = rules_of_each (column_rules said) (enumerate_from 0 said.columns) third.0;
      each_set = rules_of_each (set_rules said) said.sets third.1;
    }
