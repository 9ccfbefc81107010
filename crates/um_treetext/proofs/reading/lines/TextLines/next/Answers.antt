use Rattle.std.proofs.Common.{sym, ◌∙◌, ap, ◌+◌}
use Rattle.std.proofs.lemmas.List.{take_rest}
use Rattle.um_treetext.specs.Reading.{line_taken}
use Rattle.um_treetext.proofs.TextCuts.{line_at, no_line}
use Rattle.um_treetext.proofs.reading.lines.TextLines.next.Goals as goal

pub returns-in-None : goal.returns-in-None
returns-in-None c = ap (line_taken c.args.before) (sym c.self.view_is) ∙ no_line c.self.inside.rest.now c.args.before c.in-None.ensures.place

pub returns-in-Some : goal.returns-in-Some
returns-in-Some c =
    ap (line_taken c.args.before) (sym c.self.view_is)
    ∙ rw (take_rest c.self.inside.rest.now (c.in-Some.at + 1), c.of.ensures) (line_at c.self.inside.rest.now c.in-Some.at c.args.before c.in-Some.ensures.place)
