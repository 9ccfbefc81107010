use Rattle.std.proofs.Common.{ℕ, pos, map, replicate, ap, ◌≡◌, ◌∙◌}
use Rattle.std.specs.Prelude.{List}
use Rattle.std.proofs.lemmas.Result.{IfOk-weaker}
use Rattle.um_laws.specs.Rational.{Rational, whole}
use Rattle.um_lp.specs.declared.board.Costs.TheVariants.{Nothing}
use Rattle.um_tableau.specs.Starts.{AreCosts}
use Rattle.um_tableau.proofs.Starting.{zero_costs}
use Rattle.um_tableau.proofs.start.no_costs.Goals as goal

pub returns : goal.returns
returns c =
    let nums = c.in_ok-nums.nums.items in
    IfOk-weaker c.from_wholes.result (λ (line : List Rational). line ≡ map whole nums) (λ (line : List Rational). AreCosts Nothing c.args.given.now line)
    (λ line e. zero_costs c.args.given.now nums line (c.in_ok-nums.ensures ∙ ap (λ (n : ℕ). replicate n (pos 0)) c.width.ensures) e)
    c.from_wholes.ensures
