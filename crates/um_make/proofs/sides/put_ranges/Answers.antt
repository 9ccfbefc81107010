use Rattle.std.proofs.Common.{rules, ◌≡◌, ◌∙◌, true, false, codes}
use Rattle.um_text.proofs.Puts.{on_ok}
use Rattle.um_make.specs.NormalLines.{ranges_data}
use Rattle.um_make.specs.Printed.{has_some}
use Rattle.um_make.proofs.Parts.{no_section, section_put, some_ranges}
use Rattle.um_make.proofs.sides.put_ranges.Goals as goal

pub returns-then-not-has_ranges : goal.returns-then-not-has_ranges
returns-then-not-has_ranges c =
    let none : has_some (ranges_data c.args.deck.now) ≡ false = some_ranges c.args.deck.now ∙ search rules in
    no_section c.args.text.now (codes "RANGES") (ranges_data c.args.deck.now) none

pub returns : goal.returns
returns c =
    let some : has_some (ranges_data c.args.deck.now) ≡ true = some_ranges c.args.deck.now ∙ search rules in
    on_ok c.put_row_ranges.result c.put_row_ranges.ensures
    (λ e. section_put _ _ _ (codes "RANGES") (ranges_data c.args.deck.now) some c.in_ok-put.ensures.ok (rw c.rows-rows.ensures at e))
