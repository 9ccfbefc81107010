use Rattle.std.proofs.Common.{ℤ, Option, None, arith, subst, sym, ◌∙◌}
use Rattle.std.specs.Option.{ForSome}
use Rattle.std.proofs.lemmas.List.{get_or_default}
use Rattle.um_num.specs.Numbers.{IsInRange}
use Rattle.um_tableau.proofs.tableau.TableauBoard.ends.Goals as goal

pub returns-clause-low_in : goal.returns-clause-low_in
returns-clause-low_in c =
    let t = c.args.self.now in
    let read = get_or_default t.sheet.ends.items c.args.column (None, None) c.index.result.now (omega (arith, t.stands.ends, c.requires)) ∙ sym c.index.ensures in
    subst (λ (ends : Option ℤ × Option ℤ). ForSome ends.0 IsInRange) read (t.ends_in c.args.column (omega (arith, t.stands.ends, c.requires))).0

pub returns-clause-high_in : goal.returns-clause-high_in
returns-clause-high_in c =
    let t = c.args.self.now in
    let read = get_or_default t.sheet.ends.items c.args.column (None, None) c.index.result.now (omega (arith, t.stands.ends, c.requires)) ∙ sym c.index.ensures in
    subst (λ (ends : Option ℤ × Option ℤ). ForSome ends.1 IsInRange) read (t.ends_in c.args.column (omega (arith, t.stands.ends, c.requires))).1
