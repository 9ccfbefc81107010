use Rattle.std.proofs.Common.{◌≡◌, ◌∙◌, ◌-◌, ℤ, [], ◌∷◌, ◌++◌, Option, false, nat_eq, map, OnOk, OnErr, refl, sym, ap, subst, List, Some}
use Rattle.std.specs.List.{list_any}
use Rattle.std.specs.Option.{option_copied}
use Rattle.um_num.specs.Listed.{Listed}
use Rattle.um_statements.specs.declared.parts.MemberPart.{MemberPart}
use Rattle.um_statements.specs.Statements.{MemberTold}
use Rattle.um_statements.specs.Said.{Said, SetSaid, column_place}
use Rattle.um_statements.specs.CallRules.{last_has}
use Rattle.um_maker.specs.Makers.{IsMaker}
use Rattle.um_maker.specs.NamedLists.{with_item}
use Rattle.um_made.specs.Views.{set_said}
use Rattle.um_maker.specs.contracts.maker.DeckMaker.{the_view}
use Rattle.um_maker.proofs.EntrySteps.{on_ok, on_err}
use Rattle.um_maker.proofs.SetSteps.{new_member, member_told, member_refused}
use Rattle.um_maker.proofs.MakerKept.{kept_as, on_both}
use Rattle.um_maker.proofs.maker.DeckMaker.push_member.Goals as goal

pub returns-clause-ok : goal.returns-clause-ok
returns-clause-ok c =
    rw (← c.self.view_is) (on_ok c.push.result (λ pushed. member_told (the_view c.self.inside) c.args.column.now (option_copied c.args.weight) c.args.place c.self.inside.sets c.len-last.result c.at_mut.result.now _ refl
    (subst (λ (s : Said). column_place s.columns c.args.column.now ≡ Some c.args.place) (sym c.self.view_is) c.requires.place) c.len-last.ensures c.at_mut.ensures.value refl refl
    (ap (λ (l : Listed MemberPart). l.items) pushed ∙ ap (λ (w : Option ℤ). c.at_mut.result.now.members.items ++ record { column = c.args.place; weight = w } ∷ []) c.requires.millionths)) c.push.ensures.ok)

pub returns-clause-err : goal.returns-clause-err
returns-clause-err c =
    rw (← c.self.view_is) (on_err c.push.result (λ kept. ap (λ (sets : List SetSaid). record (the_view c.self.inside) { sets = sets })
    (member_refused c.self.inside.sets c.len-last.result c.at_mut.result.now _ c.len-last.ensures c.at_mut.ensures.value (ap (λ (l : Listed MemberPart). record c.at_mut.result.now { members = l }) kept))) c.push.ensures.err)

pub invariant_of-self : goal.invariant_of-self
invariant_of-self c =
    let old : Said = the_view c.self.inside in
    let new : Said = record old { sets = map set_said (with_item c.self.inside.sets (c.len-last.result - 1) (record c.at_mut.result.now { members = c.push.new.self })) } in
    let place = subst (λ (s : Said). column_place s.columns c.args.column.now ≡ Some c.args.place) (sym c.self.view_is) c.requires.place in
    let fresh = subst (λ (s : Said). last_has (λ (k : SetSaid). list_any (λ (m : MemberPart). nat_eq c.args.place m.column) k.members) s.sets ≡ false) (sym c.self.view_is) c.requires.new in
    let told : OnOk c.push.result (IsMaker new c.self.inside.objective c.self.inside.sided_rows c.self.inside.arc_columns)
    = on_ok c.push.result (λ pushed. kept_as old new (MemberTold c.args.column.now (option_copied c.args.weight)) _ _ _ c.self.invariant c.requires.number
    (new_member old c.args.column.now (option_copied c.args.weight) c.args.place place fresh ∙ c.requires.fits)
    (member_told old c.args.column.now (option_copied c.args.weight) c.args.place c.self.inside.sets c.len-last.result c.at_mut.result.now _ refl place c.len-last.ensures c.at_mut.ensures.value refl refl
    (ap (λ (l : Listed MemberPart). l.items) pushed ∙ ap (λ (w : Option ℤ). c.at_mut.result.now.members.items ++ record { column = c.args.place; weight = w } ∷ []) c.requires.millionths)) refl refl refl) c.push.ensures.ok in
    let refused : OnErr c.push.result (IsMaker new c.self.inside.objective c.self.inside.sided_rows c.self.inside.arc_columns)
    = on_err c.push.result (λ kept. subst (λ (sets : List SetSaid). IsMaker (record old { sets = sets }) c.self.inside.objective c.self.inside.sided_rows c.self.inside.arc_columns)
    (sym (member_refused c.self.inside.sets c.len-last.result c.at_mut.result.now _ c.len-last.ensures c.at_mut.ensures.value (ap (λ (l : Listed MemberPart). record c.at_mut.result.now { members = l }) kept))) c.self.invariant) c.push.ensures.err in
    on_both c.push.result told refused
