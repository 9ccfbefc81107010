-- What reading a file leaves, whatever its text was: no fault, no file made, and that one file asked for.
use Rattle.std.proofs.Common.{ℕ, List, inl, inr}
use Rattle.um_model.specs.declared.limits.TheConstants.{MOST_DECK_BYTES, MOST_TREE_BYTES}
use Rattle.um_outside.specs.Scenes.{Scene}
use Rattle.um_outside.specs.WholeFiles.{ReadWhole, ReadTooMuch, ReadGivenUp}
use Rattle.um_model.specs.Values.{DeckValue}
use Rattle.um_model.specs.AnswerValues.{AnswerValue}
use Rattle.um_mps.specs.declared.reader.ReadFault.{ReadFault}
use Rattle.um_treetext.specs.declared.fault.TreeFault.{TreeFault}
use Rattle.umpire.specs.DeckFiles.{HasDeck, HasDeckOf, HasNoDeck, HasNoDeckOf}
use Rattle.umpire.specs.TreeFiles.{HasTree, HasNoTree}

whole_left : (name bytes : List ℕ) (s t : Scene) → ReadWhole name bytes s t → ReadGivenUp name s t
whole_left name bytes s t h = record { well = h.well; put = h.put; holds = h.holds; asked = h.asked }

too_much_left : (name : List ℕ) (most : ℕ) (s t : Scene) → ReadTooMuch name most s t → ReadGivenUp name s t
too_much_left name most s t h = record { well = h.well; put = h.put; holds = h.holds; asked = h.asked }

pub any_deck_left : (name : List ℕ) (d : DeckValue) (s t : Scene) → HasDeck name d s t → ReadGivenUp name s t
any_deck_left name d s t h = whole_left name h.bytes s t h.read

pub no_text_left : (name : List ℕ) (f : ReadFault) (s t : Scene) → HasNoDeck name f s t → ReadGivenUp name s t
no_text_left name f s t (inl h) = whole_left name h.bytes s t h.read
no_text_left name f s t (inr h) = too_much_left name MOST_DECK_BYTES s t h.1

pub deck_left : (IsTaken : DeckValue → Type 0) (name : List ℕ) (d : DeckValue) (s t : Scene) → HasDeckOf IsTaken name d s t → ReadGivenUp name s t
deck_left IsTaken name d s t h = whole_left name h.bytes s t h.read

pub no_deck_left : (IsTaken : DeckValue → Type 0) (name : List ℕ) (f : ReadFault) (s t : Scene) → HasNoDeckOf IsTaken name f s t → ReadGivenUp name s t
no_deck_left IsTaken name f s t (inl h) = whole_left name h.bytes s t h.read
no_deck_left IsTaken name f s t (inr h) = too_much_left name MOST_DECK_BYTES s t h.1

pub tree_left : (d : DeckValue) (name : List ℕ) (a : AnswerValue) (s t : Scene) → HasTree d name a s t → ReadGivenUp name s t
tree_left d name a s t h = whole_left name h.bytes s t h.read

pub no_tree_left : (d : DeckValue) (name : List ℕ) (f : TreeFault) (s t : Scene) → HasNoTree d name f s t → ReadGivenUp name s t
no_tree_left d name f s t (inl h) = whole_left name h.bytes s t h.read
no_tree_left d name f s t (inr h) = too_much_left name MOST_TREE_BYTES s t h.1
