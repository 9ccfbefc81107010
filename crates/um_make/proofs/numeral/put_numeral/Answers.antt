use Rattle.std.proofs.Common.{rules, ◌≡◌, pos, ◌≤ℤ◌, unsigned_abs}
use Rattle.um_text.proofs.Puts.{on_ok}
use Rattle.um_make.proofs.SizeNumerals.{minus_put}
use Rattle.um_make.proofs.numeral.put_numeral.Goals as goal

pub returns : goal.returns
returns c =
    let below : ¬ pos 0 ≤ℤ c.args.number = search rules in
    let size : c.unsigned_abs-2.result ≡ unsigned_abs c.args.number = search rules in
    on_ok c.put_size-2.result c.put_size-2.ensures (λ e. minus_put c.args.scale c.unsigned_abs-2.result c.args.number _ _ _ below size c.in_ok-put.ensures.ok e)
