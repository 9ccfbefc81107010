use Rattle.std.proofs.Common.{rules, ◌≡◌, ◌∙◌, true, false, codes}
use Rattle.um_text.proofs.Puts.{on_ok}
use Rattle.um_make.specs.NormalLines.{bounds_data}
use Rattle.um_make.specs.Printed.{has_some}
use Rattle.um_make.proofs.Parts.{no_section, section_put, some_bounds}
use Rattle.um_make.proofs.bounds.put_bounds.Goals as goal

pub returns-then-not-has_bounds : goal.returns-then-not-has_bounds
returns-then-not-has_bounds c =
    let none : has_some (bounds_data c.args.deck.now) ≡ false = some_bounds c.args.deck.now c.columns-columns.result.now c.columns-columns.ensures ∙ search rules in
    no_section c.args.text.now (codes "BOUNDS") (bounds_data c.args.deck.now) none

pub returns : goal.returns
returns c =
    let some : has_some (bounds_data c.args.deck.now) ≡ true = some_bounds c.args.deck.now c.columns-columns.result.now c.columns-columns.ensures ∙ search rules in
    on_ok c.put_each_bounds.result c.put_each_bounds.ensures
    (λ e. section_put _ _ _ (codes "BOUNDS") (bounds_data c.args.deck.now) some c.in_ok-put.ensures.ok (rw c.columns-columns.ensures at e))
