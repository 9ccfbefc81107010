use Rattle.um_treetext.proofs.LineCuts.{cut_at, cut_none}
use Rattle.um_treetext.proofs.reading.words.cut.Goals as goal

pub returns-in-Some : goal.returns-in-Some
returns-in-Some c =
    let b = rw c.split_at.ensures.back at c.behind_gap.ensures.blank in
    let t = rw c.split_at.ensures.back at c.behind_gap.ensures.tab in
    rw c.split_at.ensures.front (cut_at c.args.bytes.now c.in-Some.at c.behind_gap.result.now c.in-Some.ensures.place b t)

pub returns-in-None : goal.returns-in-None
returns-in-None c = cut_none _ c.in-None.ensures.place
