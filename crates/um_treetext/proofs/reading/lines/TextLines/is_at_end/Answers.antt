use Rattle.std.proofs.Common.{sym, ◌∙◌, ap}
use Rattle.um_treetext.specs.Reading.{is_end}
use Rattle.um_treetext.proofs.TextCuts.{at_end}
use Rattle.um_treetext.proofs.reading.lines.TextLines.is_at_end.Goals as goal

pub returns : goal.returns
returns c = c.is_empty.ensures ∙ sym (ap is_end (sym c.self.view_is) ∙ at_end c.self.inside.rest.now)
