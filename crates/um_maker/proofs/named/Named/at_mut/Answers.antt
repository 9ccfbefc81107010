use Rattle.std.proofs.Common.{refl, ap}
use Rattle.um_maker.specs.NamedLists.{with_item}
use Rattle.um_maker.proofs.named.Named.at_mut.Goals as goal

pub returns : goal.returns
returns g c =
    ((refl, λ w. ap (λ items. with_item items c.args.i w) c.self.view_is), record { writes_back = tt; value = rw (← c.self.view_is) c.index_mut.ensures.value })
