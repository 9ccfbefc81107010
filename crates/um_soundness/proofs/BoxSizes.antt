-- The root box and the children of a box are boxes of the deck.
use Rattle.std.proofs.Common.{◌≡◌, ℕ, length, ◌∙◌}
use Rattle.std.proofs.Math.ListN.{length-set}
use Rattle.um_model.specs.Values.{DeckValue}
use Rattle.um_model.specs.Boxes.{BoxValue, Ends, Span, root, with_ends, with_span}
use Rattle.um_model.specs.Branches.{child}
use Rattle.um_model.specs.declared.branch.Branch.{Branch}
use Rattle.um_model.specs.declared.branch.Branch.TheVariants.{Int, Cut, Semi, One, Two}
use Rattle.um_model.specs.declared.branch.Side.{Side}
use Rattle.um_model.specs.declared.branch.Side.TheVariants.{Left, Right}
use Rattle.um_laws.proofs.Places.{length-map}

-- the box has ends for each column of the deck, and an interval for each set
pub record IsBoxOf (d : DeckValue) (b : BoxValue) : Type 0 where
  pub ends : length b.ends ≡ length d.columns
  pub spans : length b.spans ≡ length d.sets

pub root_is_box : (d : DeckValue) → IsBoxOf d (root d)
root_is_box d = record { ends = length-map _ d.columns; spans = length-map _ d.sets }

pub with_ends_is_box : (d : DeckValue) (b : BoxValue) (column : ℕ) (e : Ends) → IsBoxOf d b → IsBoxOf d (with_ends b column e)
with_ends_is_box d b column e h = record { ends = length-set b.ends column e ∙ h.ends; spans = h.spans }

pub with_span_is_box : (d : DeckValue) (b : BoxValue) (set : ℕ) (s : Span) → IsBoxOf d b → IsBoxOf d (with_span b set s)
with_span_is_box d b set s h = record { ends = h.ends; spans = length-set b.spans set s ∙ h.spans }

pub child_is_box : (d : DeckValue) (b : BoxValue) (branch : Branch) (side : Side) → IsBoxOf d b → IsBoxOf d (child d b branch side)
child_is_box d b (Int column below) Left h = with_ends_is_box d b column _ h
child_is_box d b (Int column below) Right h = with_ends_is_box d b column _ h
child_is_box d b (Cut column at) Left h = with_ends_is_box d b column _ h
child_is_box d b (Cut column at) Right h = with_ends_is_box d b column _ h
child_is_box d b (Semi column) Left h = with_ends_is_box d b column _ h
child_is_box d b (Semi column) Right h = with_ends_is_box d b column _ h
child_is_box d b (One set at) Left h = with_span_is_box d b set _ h
child_is_box d b (One set at) Right h = with_span_is_box d b set _ h
child_is_box d b (Two set at) Left h = with_span_is_box d b set _ h
child_is_box d b (Two set at) Right h = with_span_is_box d b set _ h
