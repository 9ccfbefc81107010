-- The answer to a deck, and the file of a deck that is searched.
use Rattle.std.specs.Prelude.{ℕ, List}
use Rattle.um_outside.specs.Scenes.{Scene}
use Rattle.um_model.specs.Values.{DeckValue}
use Rattle.um_model.specs.AnswerValues.{AnswerValue}
use Rattle.um_model.specs.Accepted.{IsAccepted}
use Rattle.um_model.specs.Right.{IsRight}
use Rattle.um_search.specs.Conditions.{IsSearched}
use Rattle.um_search.specs.Told.{TellsAnswer}
use Rattle.um_search.specs.declared.budget.Budget.{Budget}
use Rattle.umpire.specs.DeckFiles.{HasDeckOf}

-- the file of this name was read to its end, and is the text of this deck, which is searched
abbrev pub HasSearchedDeck : List ℕ → DeckValue → Scene → Scene → Type 0
HasSearchedDeck name d s t = HasDeckOf IsSearched name d s t

-- the answer is accepted by the checker, and right, and tells the search that it comes from, within
-- the budget
pub record Answers (d : DeckValue) (budget : Budget) (a : AnswerValue) : Type 0 where
  pub accepted : IsAccepted d a
  pub right : IsRight d a
  pub tells : TellsAnswer d budget a
