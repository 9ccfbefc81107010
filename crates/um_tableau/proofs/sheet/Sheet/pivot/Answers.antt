use Rattle.std.proofs.Common.{sym}
use Rattle.um_tableau.specs.NarrowActs.{IsNarrowPivot}
use Rattle.um_lines.proofs.Shorts.{never}
use Rattle.std.proofs.Common.{ℤ, Option, ◌∙◌, ap, subst}
use Rattle.um_laws.specs.Rational.{Rational}
use Rattle.um_lp.specs.States.{end_at, number_of_end}
use Rattle.um_tableau.specs.Sheets.{IsPivoted}
use Rattle.um_tableau.proofs.Ends.{sheet_ends, sheet_end_in}
use Rattle.um_tableau.proofs.sheet.Sheet.pivot.Goals as goal

pub number_of-end-requires : goal.number_of-end-requires
number_of-end-requires c =
    let ends = sheet_ends c.args.self.now c.args.row c.index.result.now c.index-2.result.now c.requires.sheet c.requires.row_in c.index.ensures c.index-2.ensures in
    rw (c.end_at.ensures, ends) (sheet_end_in c.args.self.now c.args.row c.args.to c.requires.sheet c.requires.row_in)

pub returns-clause-pivoted : goal.returns-clause-pivoted
returns-clause-pivoted c =
    let ends = sheet_ends c.args.self.now c.args.row c.index.result.now c.index-2.result.now c.requires.sheet c.requires.row_in c.index.ensures c.index-2.ensures in
    let end = c.number_of-end.ensures ∙ ap number_of_end c.end_at.ensures ∙ ap (λ (pair : Option ℤ × Option ℤ). number_of_end (end_at c.args.to pair)) ends in
    subst (λ (x : Rational). IsPivoted c.args.self.now c.exchange.new.self c.args.row c.args.column c.args.to x) end c.exchange.ensures.pivoted

pub returns-in_err-entered-clause-narrow : goal.returns-in_err-entered-clause-narrow
returns-in_err-entered-clause-narrow c h =
    let ends = sheet_ends c.args.self.now c.args.row c.index.result.now c.index-2.result.now c.requires.sheet c.requires.row_in c.index.ensures c.index-2.ensures in
    let end = c.number_of-end.ensures ∙ ap number_of_end c.end_at.ensures ∙ ap (λ (pair : Option ℤ × Option ℤ). number_of_end (end_at c.args.to pair)) ends in
    never (c.in_err-entered.ensures.narrow (subst (λ (x : Rational). IsNarrowPivot c.args.self.now c.args.row c.args.column x) (sym end) h))
