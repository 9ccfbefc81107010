use Rattle.std.proofs.Common.{ap, ◌∙◌, ℕ, ◌+◌, length, arith}
use Rattle.um_laws.specs.Rational.{Rational}
use Rattle.um_lp.specs.Boards.{IsBoard}
use Rattle.um_num.specs.NumberLists.{number_at}
use Rattle.um_num.specs.Listed.{Listed}
use Rattle.um_relax.proofs.Readings.{read_next}
use Rattle.um_relax.proofs.row_multipliers.slack_costs.Goals as goal

pub loop-row-preserved : goal.loop-row-preserved
loop-row-preserved g c =
    let s = g.B.Board.state c.args.board.now in
    let n : ℕ = length s.frame.columns in
    let board : IsBoard s = g.met.B.Board.belongs c.args.board.now in
    ap (λ (l : Listed Rational). l.items) c.in_ok-push.ensures.ok
    ∙ read_next s.reduced c.loop-row.costs.items n c.loop-row.row c.in_ok-cost.cost (omega (arith, board.shape.reduced)) (c.in_ok-cost.ensures.value ∙ ap (λ (k : ℕ). number_at s.reduced (k + c.loop-row.row)) c.first_slack-first.ensures.first) c.loop-row.invariant
