use Rattle.std.proofs.Common.{◌-◌, arith}
use Rattle.um_cover.proofs.Steps.{step_of, down_fits}
use Rattle.um_cover.proofs.boxes.go_down.Goals as goal

pub enter-requires : goal.enter-requires
enter-requires c =
    let d = c.args.node.now.deck in
    let s = step_of d c.args.steps.now c.down.left c.down.node _ c.requires.fits c.down.invariant c.down-test.true in
    let some = c.down-test.true in
    down_fits d c.args.steps.now c.down.left (c.down.left - 1) c.down.node _ s c.down.invariant (omega arith)
