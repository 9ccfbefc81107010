-- The members of sets at a point within the ends of a box: at least 0, and 0 outside the sets' intervals.
use Rattle.std.proofs.Common.{◌≡◌, ◌∙◌, ℕ, ℤ, pos, ◌*ℤ◌, ◌≤ℤ◌, Bool, inl, inr, length, Some, sym, ap, subst, arith}
use Rattle.std.specs.Prelude.{if◌then◌else◌}
use Rattle.std.proofs.lemmas.Int.{ints}
use Rattle.um_laws.proofs.Places.{below_or, item_of, item_at, past_end, at_map, length-map}
use Rattle.um_model.specs.Values.{DeckValue, SetValue, PointValue}
use Rattle.um_model.specs.WellFormed.{AtPlace, IsDeck, IsSet, IsMember}
use Rattle.um_model.specs.Feasible.{part, member_parts}
use Rattle.um_model.specs.Boxes.{BoxValue, Ends, IsOutside, root, ends_at, span_at, ends_of}
use Rattle.um_model.specs.declared.deck.Member.{Member}
use Rattle.um_deck.proofs.ListParts.{all_at}
use Rattle.um_duality.specs.Laws.{HoldsOnBox}
use Rattle.um_solving.specs.Laws.{MembersLaw}
use Rattle.um_solving.specs.RootBoxes.{IsWithinRoot}
use Rattle.um_soundness.proofs.HeldColumns.{shut_out}
use Rattle.um_solving.proofs.RootBoxes.{own_ends, given_within}
use Rattle.um_solving.proofs.FeasiblePoints.{between_outer}

at_least_zero : (q x : ℤ) → (pos 0 *ℤ q) ≤ℤ (pos 1000 *ℤ x) → pos 0 ≤ℤ x
at_least_zero q x h = omega (arith, ints, h)

at_most_zero : (q x : ℤ) → pos 0 ≤ℤ x → (pos 1000 *ℤ x) ≤ℤ (pos 0 *ℤ q) → x ≡ pos 0
at_most_zero q x low h = omega (arith, ints, low, h)

module _ (d : DeckValue) (b : BoxValue) (p : PointValue) (set : ℕ) (s : SetValue) (formed : IsDeck d) (within : IsWithinRoot d b) (holds : HoldsOnBox d b p) (at : AtPlace d.sets set s) where
  module _ (position : ℕ) (m : Member) (here : AtPlace s.members position m) where
    member : IsMember d m
    member = all_at (IsMember d) s.members position m (all_at (IsSet d) d.sets set s formed.sets at).members here

    member_low : pos 0 ≤ℤ part p.parts m.column
    member_low =
        let c = item_at d.columns m.column member.column in
        let low_is = ap (λ (e : Ends). e.low) (own_ends d m.column c.0 c.1) ∙ member.low c.0 c.1 in
        let value : ℤ = pos 1000 *ℤ part p.parts m.column in
        let lies = between_outer (ends_at (root d) m.column) (ends_of d b m.column) p.den value holds.den (given_within d b m.column formed within member.column) (holds.ends m.column member.column) in
        at_least_zero p.den (part p.parts m.column) (lies.above (pos 0) low_is)

    member_zero : IsOutside (span_at b set) position → part p.parts m.column ≡ pos 0
    member_zero out =
        let shut = shut_out d b m.column (record { set = set; whole = s; at_set = at; position = position; member = m; at_position = here; is = λ i. m.column; outside = out }) in
        let high_is : (ends_of d b m.column).high ≡ Some (pos 0) = ap (λ (held : Bool). (if held then record { low = (ends_at b m.column).low; high = Some (pos 0) } else ends_at b m.column).high) shut in
        at_most_zero p.den (part p.parts m.column) member_low ((holds.ends m.column member.column).below (pos 0) high_is)

  -- the part at a position is that of its member, and 0 past the last one
  at_position : (P : ℤ → Type 0) (position : ℕ) → P (pos 0) → ((m : Member) → AtPlace s.members position m → P (part p.parts m.column)) → P (part (member_parts p s) position)
  at_position P position past inside = elim (below_or position (length s.members)) [
    | inl l ↦
        let m = item_at s.members position l in
        let is = at_map (λ (x : Member). part p.parts x.column) s.members position m.0 (pos 0) l ∙ ap (λ (x : Member). part p.parts x.column) ((item_of s.members position m.0 m.1).is m.0) in
        subst P (sym is) (inside m.0 m.1)
    | inr l ↦ subst P (sym (past_end (member_parts p s) position (pos 0) (let same = length-map (λ (x : Member). part p.parts x.column) s.members in omega (arith, l, same)))) past
  ]

pub members-law : MembersLaw
members-law d b p set s formed within holds at = (
  λ position. at_position d b p set s formed within holds at (λ (x : ℤ). pos 0 ≤ℤ x) position (omega (arith, ints)) (λ m here. member_low d b p set s formed within holds at position m here),
  λ position out. at_position d b p set s formed within holds at (λ (x : ℤ). x ≡ pos 0) position (λ i. pos 0) (λ m here. member_zero d b p set s formed within holds at position m here out),
)
