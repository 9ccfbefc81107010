use Rattle.std.proofs.Common.{rules, ◌≡◌, sym, subst}
use Rattle.um_model.specs.Values.{DeckValue}
use Rattle.um_cover.specs.Sites.{way}
use Rattle.um_cover.specs.Descents.{FitAlong}
use Rattle.um_cover.proofs.Steps.{way_fits}
use Rattle.um_cover.proofs.boxes.box_of.Goals as goal

pub go_down-requires-clause-fits : goal.go_down-requires-clause-fits
go_down-requires-clause-fits c =
    let steps : c.as_slice.result.now ≡ way c.args.growth.now c.args.id = search rules in
    let deck : c.in_ok-node.node.deck ≡ c.args.deck.now = search rules in
    let fit = way_fits c.args.deck.now c.args.growth.now c.known.ensures c.requires.fits c.args.id c.requires.inside in
    subst (λ (e : DeckValue). FitAlong e c.as_slice.result.now) (sym deck) (subst (FitAlong c.args.deck.now) (sym steps) fit)
