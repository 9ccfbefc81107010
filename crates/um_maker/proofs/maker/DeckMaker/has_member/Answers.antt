use Rattle.std.proofs.Common.{◌∙◌, sym, refl, nat_eq}
use Rattle.std.specs.List.{list_any}
use Rattle.um_statements.specs.declared.parts.MemberPart.{MemberPart}
use Rattle.um_statements.specs.Said.{SetSaid}
use Rattle.um_made.specs.Views.{set_said}
use Rattle.um_maker.proofs.SeenItems.{last_seen, none_seen}
use Rattle.um_maker.proofs.maker.DeckMaker.has_member.Goals as goal

pub returns-in-Some : goal.returns-in-Some
returns-in-Some c =
    rw (← c.self.view_is) (c.holds_column.ensures ∙ rw c.as_slice.ensures (sym (last_seen set_said (λ (s : SetSaid). list_any (λ (m : MemberPart). nat_eq c.args.place m.column) s.members) _ c.self.inside.sets c.in-Some.set.now c.in-Some.ensures (λ n. refl))))

pub returns-in-None : goal.returns-in-None
returns-in-None c = rw (← c.self.view_is) (sym (none_seen set_said (λ (s : SetSaid). list_any (λ (m : MemberPart). nat_eq c.args.place m.column) s.members) c.self.inside.sets c.in-None.ensures))
