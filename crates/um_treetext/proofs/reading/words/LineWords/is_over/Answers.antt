use Rattle.std.proofs.Common.{◌∙◌, ap}
use Rattle.um_treetext.proofs.LineCuts.{line_some}
use Rattle.um_treetext.proofs.reading.words.LineWords.is_over.Goals as goal

pub returns-in-Some : goal.returns-in-Some
returns-in-Some c = let h = rw c.in-Some.is at c.self.view_is in (λ no. cc, λ e. absurd (line_some c.in-Some.field-0.now (h ∙ e)))
