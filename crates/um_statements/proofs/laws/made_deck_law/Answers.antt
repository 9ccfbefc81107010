use Rattle.um_statements.proofs.MadeDeck.{made-deck-law}
use Rattle.um_statements.proofs.laws.made_deck_law.Goals as goal

pub returns : goal.returns
returns c = made-deck-law
