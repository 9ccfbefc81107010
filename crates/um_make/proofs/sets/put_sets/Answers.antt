use Rattle.std.proofs.Common.{rules, ◌≡◌, ◌≢◌, [], true, codes}
use Rattle.um_text.proofs.Puts.{on_ok}
use Rattle.um_make.specs.NormalLines.{sets_data}
use Rattle.um_make.specs.Printed.{has_some}
use Rattle.um_make.proofs.Parts.{section_put, some_sets}
use Rattle.um_make.proofs.Places.{members_known}
use Rattle.um_make.proofs.sets.put_sets.Goals as goal

pub put_each_set-requires : goal.put_each_set-requires
put_each_set-requires c = members_known c.args.deck.now c.columns.result.now c.sets-2.result.now c.known.ensures.formed c.columns.ensures c.sets-2.ensures

pub returns : goal.returns
returns c =
    let there : c.sets.result.now ≢ [] = search rules in
    let some : has_some (sets_data c.args.deck.now) ≡ true = some_sets c.args.deck.now c.sets.result.now c.sets.ensures there in
    on_ok c.put_each_set.result c.put_each_set.ensures
    (λ e. section_put _ _ _ (codes "SOS") (sets_data c.args.deck.now) some c.in_ok-put.ensures.ok (rw (c.columns.ensures, c.sets-2.ensures) at e))
