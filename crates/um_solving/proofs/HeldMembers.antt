-- The ends of a column that a box holds at 0, as a member of a set of a well-formed deck.
use Rattle.std.proofs.Common.{◌≡◌, ℕ, ℤ, pos, ◌≤ℤ◌, length, Some, sym, subst}
use Rattle.std.specs.Prelude.{IsSome}
use Rattle.um_model.specs.Values.{DeckValue, ColumnValue}
use Rattle.um_model.specs.WellFormed.{AtPlace, IsDeck, IsSet, IsMember, IsColumn}
use Rattle.um_model.specs.Boxes.{BoxValue}
use Rattle.um_deck.proofs.ListParts.{all_at}
use Rattle.um_soundness.proofs.HeldColumns.{IsHeld}

-- a member of a well-formed deck has a finite high end
pub member_ends : (d : DeckValue) (b : BoxValue) (column : ℕ) (c : ColumnValue) → IsDeck d → AtPlace d.columns column c → IsHeld d b column → IsSome c.high
member_ends d b column c formed at h =
    let set : IsSet d h.whole = all_at (IsSet d) d.sets h.set h.whole formed.sets h.at_set in
    let member : IsMember d h.member = all_at (IsMember d) h.whole.members h.position h.member set.members h.at_position in
    member.high c (subst (λ (j : ℕ). AtPlace d.columns j c) (sym h.is) at)

-- a member of a well-formed deck has the low end 0, and so no high end below that
pub member_high : (d : DeckValue) (b : BoxValue) (column : ℕ) (c : ColumnValue) (high : ℤ) → IsDeck d → AtPlace d.columns column c → IsHeld d b column → c.high ≡ Some high → pos 0 ≤ℤ high
member_high d b column c high formed at h is =
    let set : IsSet d h.whole = all_at (IsSet d) d.sets h.set h.whole formed.sets h.at_set in
    let member : IsMember d h.member = all_at (IsMember d) h.whole.members h.position h.member set.members h.at_position in
    let own : IsColumn (length d.rows) c = all_at (IsColumn (length d.rows)) d.columns column c formed.columns at in
    own.order (pos 0) (member.low c (subst (λ (j : ℕ). AtPlace d.columns j c) (sym h.is) at)) high is
