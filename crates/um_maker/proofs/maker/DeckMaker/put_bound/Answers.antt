use Rattle.std.proofs.Common.{◌≡◌, refl, sym, subst, Some, false, option_map, slice_get}
use Rattle.std.specs.Option.{option_copied}
use Rattle.um_statements.specs.Statements.{Bound}
use Rattle.um_statements.specs.Said.{Said, column_place}
use Rattle.um_statements.specs.CallRules.{mixes}
use Rattle.um_maker.specs.contracts.maker.DeckMaker.{the_view}
use Rattle.um_maker.proofs.BoundSteps.{bound_put, bound_allowed}
use Rattle.um_maker.proofs.MakerKept.{kept_as}
use Rattle.um_maker.proofs.maker.DeckMaker.put_bound.Goals as goal

pub returns : goal.returns
returns c =
    rw (← c.self.view_is) (bound_put (the_view c.self.inside) c.args.kind c.args.column.now (option_copied c.args.value) c.self.inside.columns c.args.place c.at_mut-part.result.now c.with_bound-part.result refl
    (subst (λ (s : Said). column_place s.columns c.args.column.now ≡ Some c.args.place) (sym c.self.view_is) c.requires.place) c.at_mut-part.ensures.value c.known.ensures (c.with_bound-part.ensures (option_copied c.args.value) c.requires.end))

pub invariant_of-self : goal.invariant_of-self
invariant_of-self c =
    let old : Said = the_view c.self.inside in
    let place = subst (λ (s : Said). column_place s.columns c.args.column.now ≡ Some c.args.place) (sym c.self.view_is) c.requires.place in
    let unmixed = subst (λ (s : Said). option_map (mixes c.args.kind) (slice_get s.columns c.args.place) ≡ Some false) (sym c.self.view_is) c.requires.unmixed in
    kept_as old _ (Bound c.args.kind c.args.column.now (option_copied c.args.value)) _ _ _ c.self.invariant c.requires.number
    (bound_allowed old c.args.kind c.args.column.now (option_copied c.args.value) c.args.place place c.requires.fits (sym unmixed))
    (bound_put old c.args.kind c.args.column.now (option_copied c.args.value) c.self.inside.columns c.args.place c.at_mut-part.result.now c.with_bound-part.result refl place c.at_mut-part.ensures.value c.known.ensures
    (c.with_bound-part.ensures (option_copied c.args.value) c.requires.end)) refl refl refl
