use Rattle.std.proofs.Common.{◌≡◌, false, nat_le, length, not, subst, refl, ap, sym}
use Rattle.std.specs.Option.{option_copied, option_and_then, option_map_or}
use Rattle.um_statements.specs.Statements.{Set}
use Rattle.um_statements.specs.Said.{Said, row_place}
use Rattle.um_statements.specs.CallRules.{has_row, has_set}
use Rattle.um_maker.specs.contracts.maker.DeckMaker.{the_view}
use Rattle.um_maker.proofs.SetSteps.{new_place, set_pushed, set_allowed}
use Rattle.um_maker.proofs.MakerKept.{kept_as}
use Rattle.um_maker.proofs.maker.DeckMaker.push_set.Goals as goal

pub push-requires : goal.push-requires
push-requires c = new_place c.self.inside.sets c.args.name.now c.args.self.now (ap (λ (s : Said). s.sets) (sym c.self.view_is)) c.requires.new

pub returns-clause-ok : goal.returns-clause-ok
returns-clause-ok c =
    let place = subst (λ (s : Said). c.args.place ≡ option_and_then (row_place s.rows) (option_copied c.args.reference)) (sym c.self.view_is) c.requires.place in
    rw (← c.self.view_is) (set_pushed (the_view c.self.inside) c.args.kind c.args.name.now (option_copied c.args.reference) c.self.inside.sets c.push.new.self _ refl (rw (place, c.new.ensures.items) refl) c.in_ok-push.ensures.ok)

pub invariant_of-self-2 : goal.invariant_of-self-2
invariant_of-self-2 c =
    let old : Said = the_view c.self.inside in
    let place = subst (λ (s : Said). c.args.place ≡ option_and_then (row_place s.rows) (option_copied c.args.reference)) (sym c.self.view_is) c.requires.place in
    let known = subst (λ (s : Said). option_map_or (λ row. not (has_row s row)) (option_copied c.args.reference) false ≡ false) (sym c.self.view_is) c.requires.known in
    let new = subst (λ (s : Said). has_set s c.args.name.now ≡ false) (sym c.self.view_is) c.requires.new in
    let room = subst (λ (s : Said). nat_le 256 (length s.sets) ≡ false) (sym c.self.view_is) c.requires.room in
    kept_as old _ (Set c.args.kind c.args.name.now (option_copied c.args.reference)) _ _ _ c.self.invariant tt (set_allowed old c.args.kind c.args.name.now (option_copied c.args.reference) known new room)
    (set_pushed old c.args.kind c.args.name.now (option_copied c.args.reference) c.self.inside.sets c.push.new.self _ refl (rw (place, c.new.ensures.items) refl) c.in_ok-push.ensures.ok) refl refl refl
