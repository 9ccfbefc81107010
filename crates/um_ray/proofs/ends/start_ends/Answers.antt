use Rattle.std.proofs.Common.{arith, get_or, None}
use Rattle.um_ray.proofs.ReadEnds.{pair_is, of_column, of_slack}
use Rattle.um_ray.proofs.ends.start_ends.Goals as goal

pub returns-then-column-relaxation-clause-ends : goal.returns-then-column-relaxation-clause-ends
returns-then-column-relaxation-clause-ends g c =
    let lows = c.as_slice.result.now in
    let highs = c.as_slice-2.result.now in
    rw (c.fall.ensures, c.rise.ensures)
    (of_column g.d c.args.column (get_or lows c.args.column None) (get_or highs c.args.column None) (let q = c.requires.0.columns in omega (arith, c.if-column-relaxation.true))
    (pair_is g.d c.args.relaxation.now c.args.column lows highs c.requires.0 c.as_slice.ensures c.as_slice-2.ensures c.requires.1))

pub returns-else-column-relaxation-clause-ends : goal.returns-else-column-relaxation-clause-ends
returns-else-column-relaxation-clause-ends g c =
    let lows = c.as_slice.result.now in
    let highs = c.as_slice-2.result.now in
    rw (c.still.ensures, c.still-else-column-relaxation.ensures)
    (of_slack g.d c.args.column (get_or lows c.args.column None) (get_or highs c.args.column None) (let q = c.requires.0.columns in omega (arith, c.if-column-relaxation.false)) c.requires.1
    (pair_is g.d c.args.relaxation.now c.args.column lows highs c.requires.0 c.as_slice.ensures c.as_slice-2.ensures c.requires.1))
