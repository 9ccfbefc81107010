use Rattle.std.proofs.Common.{rules, ◌≢◌}
use Rattle.um_text.proofs.Puts.{on_ok}
use Rattle.um_make.proofs.SizeNumerals.{digit_more}
use Rattle.um_make.proofs.numeral.+put_pointed.Goals as goal

pub returns : goal.returns
returns t c =
    let some : c.args.decimals ≢ 0 = search rules in
    on_ok c.put-2.result c.put-2.ensures.ok (λ e. digit_more c.args.decimals c.args.size _ _ _ some c.in_ok-put_pointed.ensures (rw c.last_digit.ensures at e))
