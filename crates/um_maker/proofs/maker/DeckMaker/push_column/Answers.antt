use Rattle.std.proofs.Common.{◌≡◌, false, subst, refl, ap, sym}
use Rattle.um_statements.specs.Said.{Said}
use Rattle.um_maker.proofs.ColumnSteps.{no_place_of_column, column_pushed}
use Rattle.um_statements.specs.Statements.{Column}
use Rattle.um_statements.specs.CallRules.{has_column, is_full_of_columns}
use Rattle.um_maker.specs.contracts.maker.DeckMaker.{the_view}
use Rattle.um_maker.proofs.ColumnSteps.{column_allowed}
use Rattle.um_maker.proofs.MakerKept.{kept_as}
use Rattle.um_maker.proofs.maker.DeckMaker.push_column.Goals as goal

pub push-requires : goal.push-requires
push-requires c = no_place_of_column c.args.self.now c.self.inside.columns c.args.name.now (ap (λ (s : Said). s.columns) (sym c.self.view_is)) c.requires.new

pub returns-clause-ok : goal.returns-clause-ok
returns-clause-ok c = rw (← c.self.view_is) (column_pushed _ c.args.name.now c.args.integer c.self.inside.columns c.push.new.self _ refl (rw c.new.ensures.items) c.in_ok-push.ensures.ok)

pub invariant_of-self-2 : goal.invariant_of-self-2
invariant_of-self-2 c =
    let old : Said = the_view c.self.inside in
    let allowed = column_allowed old c.args.name.now c.args.integer (subst (λ (s : Said). has_column s c.args.name.now ≡ false) (sym c.self.view_is) c.requires.new) (subst (λ (s : Said). is_full_of_columns s ≡ false) (sym c.self.view_is) c.requires.room) in
    kept_as old _ (Column c.args.name.now c.args.integer) _ _ _ c.self.invariant tt allowed
    (column_pushed old c.args.name.now c.args.integer c.self.inside.columns c.push.new.self _ refl (rw c.new.ensures.items) c.in_ok-push.ensures.ok) refl refl refl
