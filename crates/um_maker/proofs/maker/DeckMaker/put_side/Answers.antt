use Rattle.std.proofs.Common.{◌≡◌, refl, sym, subst, Some, false, option_map, slice_get, is_some}
use Rattle.um_statements.specs.Statements.{Side}
use Rattle.um_statements.specs.Said.{Said, RowSaid, row_place}
use Rattle.um_maker.specs.contracts.maker.DeckMaker.{the_view}
use Rattle.um_maker.proofs.SideSteps.{side_put, side_allowed}
use Rattle.um_maker.proofs.MakerKept.{kept_as}
use Rattle.um_maker.proofs.maker.DeckMaker.put_side.Goals as goal

pub returns : goal.returns
returns c =
    rw (← c.self.view_is) (side_put (the_view c.self.inside) c.args.row.now c.args.value.now c.self.inside.rows c.args.place c.at_mut.result.now refl
    (subst (λ (s : Said). row_place s.rows c.args.row.now ≡ Some c.args.place) (sym c.self.view_is) c.requires.place) c.at_mut.ensures.value c.known.ensures
    (subst (λ (s : Said). option_map (λ (r : RowSaid). is_some r.side) (slice_get s.rows c.args.place) ≡ Some false) (sym c.self.view_is) c.requires.new))

pub invariant_of-self : goal.invariant_of-self
invariant_of-self c =
    let old : Said = the_view c.self.inside in
    let place = subst (λ (s : Said). row_place s.rows c.args.row.now ≡ Some c.args.place) (sym c.self.view_is) c.requires.place in
    let fresh = subst (λ (s : Said). option_map (λ (r : RowSaid). is_some r.side) (slice_get s.rows c.args.place) ≡ Some false) (sym c.self.view_is) c.requires.new in
    let put = side_put old c.args.row.now c.args.value.now c.self.inside.rows c.args.place c.at_mut.result.now refl place c.at_mut.ensures.value c.known.ensures fresh in
    kept_as old _ (Side c.args.row.now c.args.value.now) _ _ _ c.self.invariant c.requires.number (side_allowed old c.args.row.now c.args.value.now c.args.place place (sym fresh)) put refl refl refl
