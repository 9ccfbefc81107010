-- The deck of what was said: the lists that are taken out of a maker say the same, and the parts make the deck.
use Rattle.std.proofs.Common.{◌≡◌, ◌⊎◌, inl, inr, Bool, List, [], map, Option, None, Some, sym, ap, subst, ◌∙◌, unwrap_or}
use Rattle.um_statements.specs.declared.fault.Fault.{Fault}
use Rattle.um_statements.specs.declared.fault.Fault.TheVariants.{Memory}
use Rattle.um_statements.specs.declared.parts.ArcPart.{ArcPart}
use Rattle.um_statements.specs.Statements.{Name}
use Rattle.um_statements.specs.Said.{Said}
use Rattle.um_statements.specs.Made.{deck_value}
use Rattle.um_statements.specs.WellSaid.{IsSaid}
use Rattle.um_statements.specs.DeckRules.{deck_fault}
use Rattle.um_statements.proofs.MadeDeck.{made-deck-law}
use Rattle.um_deck.specs.declared.deck.DeckParts.{DeckParts}
use Rattle.um_deck.specs.DeckParts.{deck_of}
use Rattle.um_deck.specs.Decks.{IsDeckNow}
use Rattle.um_made.specs.declared.parts.RowPart.{RowPart}
use Rattle.um_made.specs.declared.parts.ColumnPart.{ColumnPart}
use Rattle.um_made.specs.declared.parts.SetPart.{SetPart}
use Rattle.um_made.specs.Views.{row_said, column_said, set_said, said_of}
use Rattle.um_made.specs.Parts.{AreParts}

-- what a maker was told, and the name and the lists that were taken out of it
module _ (name : Option Name) (maximise : Bool) (rows : List (Name × RowPart)) (columns : List (Name × ColumnPart)) (sets : List (Name × SetPart)) (arcs : List ArcPart) (given : Name) (taken_rows : List (Name × RowPart))
    (taken_columns : List (Name × ColumnPart)) (taken_sets : List (Name × SetPart)) where
  abbrev pub before : Said
  before = said_of name maximise rows columns sets arcs

  abbrev pub taken : Said
  taken = said_of (Some given) maximise taken_rows taken_columns taken_sets arcs

  module _ (named : given ≡ unwrap_or name []) (r : taken_rows ≡ rows) (c : taken_columns ≡ columns) (s : taken_sets ≡ sets) where
    same_said : taken ≡ before
    same_said = λ i. record {
      name = named i;
      maximise = maximise;
      rows = map row_said (r i);
      columns = map column_said (c i);
      sets = map set_said (s i);
      arcs = arcs;
    }

    pub finished_fault : (o : Option Fault) → deck_fault taken ≡ o → deck_fault before ≡ o
    finished_fault o h = sym (ap deck_fault same_said) ∙ h

    pub finished_refusal : (fault : Fault) → (fault ≡ Memory) ⊎ (deck_fault taken ≡ Some fault) → (fault ≡ Memory) ⊎ (deck_fault before ≡ Some fault)
    finished_refusal fault (inl memory) = inl memory
    finished_refusal fault (inr broken) = inr (finished_fault (Some fault) broken)

    pub finished_deck : (p : DeckParts) → AreParts taken p → deck_of p ≡ deck_value before
    finished_deck p are = are ∙ ap deck_value same_said

    pub finished_said : IsSaid before → IsSaid taken
    finished_said well = subst IsSaid (sym same_said) well

    pub finished_well : IsSaid before → deck_fault taken ≡ None → (p : DeckParts) → AreParts taken p → IsDeckNow (deck_of p)
    finished_well well fine p are =
        let law = made-deck-law before well (finished_fault None fine) in
        subst IsDeckNow (sym (finished_deck p are)) (record { formed = law.formed; objective_arcs = law.objective_arcs })
