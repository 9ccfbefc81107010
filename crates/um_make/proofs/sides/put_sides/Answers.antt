use Rattle.std.proofs.Common.{rules, ◌≡◌, true, codes}
use Rattle.um_text.proofs.Puts.{on_ok}
use Rattle.um_make.specs.NormalLines.{sides_data}
use Rattle.um_make.specs.Printed.{has_some}
use Rattle.um_make.proofs.Parts.{section_put, sides_put}
use Rattle.um_make.proofs.sides.put_sides.Goals as goal

pub returns : goal.returns
returns c =
    let some : has_some (sides_data c.args.deck.now) ≡ true = search rules in
    on_ok c.put_constant.result c.put_constant.ensures
    (λ e. section_put _ _ _ (codes "RHS") (sides_data c.args.deck.now) some c.in_ok-put.ensures.ok (sides_put c.args.deck.now _ _ _ (rw c.rows.ensures at c.in_ok-put_row_sides.ensures) e))
