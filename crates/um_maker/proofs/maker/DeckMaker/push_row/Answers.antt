use Rattle.std.proofs.Common.{◌≡◌, ◌∙◌, ℕ, Some, false, subst, refl, ap, sym}
use Rattle.std.specs.Option.{option_or}
use Rattle.std.proofs.lemmas.List.{length-map}
use Rattle.um_made.specs.Views.{row_said}
use Rattle.um_statements.specs.Statements.{RowTold}
use Rattle.um_statements.specs.Said.{Said}
use Rattle.um_statements.specs.CallRules.{has_row, is_full_of_rows}
use Rattle.um_maker.specs.contracts.maker.DeckMaker.{the_view}
use Rattle.um_maker.proofs.RowSteps.{no_place_of_row, row_pushed, row_allowed}
use Rattle.um_maker.proofs.MakerKept.{kept_by, nothing_more, one_more, no_more, no_first, one_first}
use Rattle.um_maker.proofs.maker.DeckMaker.push_row.Goals as goal

pub push-requires : goal.push-requires
push-requires c = no_place_of_row c.args.self.now c.self.inside.rows c.args.name.now (ap (λ (s : Said). s.rows) (sym c.self.view_is)) c.requires.new

pub returns-then-is_sided-clause-ok : goal.returns-then-is_sided-clause-ok
returns-then-is_sided-clause-ok c = rw (← c.self.view_is) (row_pushed _ c.args.kind c.args.name.now c.self.inside.rows c.push.new.self refl c.in_ok-push.ensures.ok)

pub returns-else-is_sided-clause-ok : goal.returns-else-is_sided-clause-ok
returns-else-is_sided-clause-ok c = rw (← c.self.view_is) (row_pushed _ c.args.kind c.args.name.now c.self.inside.rows c.push.new.self refl c.in_ok-push.ensures.ok)

pub invariant_of-self-then-is_sided : goal.invariant_of-self-then-is_sided
invariant_of-self-then-is_sided c =
    let old : Said = the_view c.self.inside in
    let allowed = row_allowed old c.args.kind c.args.name.now (subst (λ (s : Said). has_row s c.args.name.now ≡ false) (sym c.self.view_is) c.requires.new) (subst (λ (s : Said). is_full_of_rows s c.args.kind ≡ false) (sym c.self.view_is) c.requires.room) in
    let sided = sym c.is_sided.ensures ∙ c.if-is_sided.true in
    kept_by old _ (RowTold c.args.kind c.args.name.now) _ _ _ _ _ _ c.self.invariant tt allowed (row_pushed old c.args.kind c.args.name.now c.self.inside.rows c.push.new.self refl c.in_ok-push.ensures.ok)
    (record { first_is = no_first _ _ _ sided; sided_is = one_more _ _ sided; curved_is = nothing_more _ })

pub invariant_of-self-else-is_sided : goal.invariant_of-self-else-is_sided
invariant_of-self-else-is_sided c =
    let old : Said = the_view c.self.inside in
    let allowed = row_allowed old c.args.kind c.args.name.now (subst (λ (s : Said). has_row s c.args.name.now ≡ false) (sym c.self.view_is) c.requires.new) (subst (λ (s : Said). is_full_of_rows s c.args.kind ≡ false) (sym c.self.view_is) c.requires.room) in
    let other = sym c.is_sided.ensures ∙ c.if-is_sided.false in
    kept_by old _ (RowTold c.args.kind c.args.name.now) _ _ _ _ _ _ c.self.invariant tt allowed (row_pushed old c.args.kind c.args.name.now c.self.inside.rows c.push.new.self refl c.in_ok-push.ensures.ok)
    (record { first_is = c.or-self-inside.ensures ∙ (ap (λ (k : ℕ). option_or c.self.inside.objective (Some k)) (c.len-place.ensures ∙ sym (length-map c.self.inside.rows row_said)) ∙ one_first _ _ _ other); sided_is = no_more _ _ other; curved_is = nothing_more _ })
