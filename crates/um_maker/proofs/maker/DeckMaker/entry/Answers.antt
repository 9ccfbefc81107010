use Rattle.std.proofs.Common.{◌∙◌, refl, sym, inr}
use Rattle.um_maker.proofs.EntrySteps.{twice_entry, entry_allowed}
use Rattle.um_maker.proofs.maker.DeckMaker.entry.Goals as goal

pub returns-then-has_entry : goal.returns-then-has_entry
returns-then-has_entry c = (refl, inr (twice_entry _ _ _ c.in-Some.place (sym c.in-Some.ensures.place) (sym c.has_entry.ensures ∙ c.if-has_entry.true)))

pub returns-in_ok-push_entry-in-Some : goal.returns-in_ok-push_entry-in-Some
returns-in_ok-push_entry-in-Some c = (entry_allowed _ _ _ c.in-Some.place (sym c.in-Some.ensures.place) (sym c.has_entry.ensures ∙ c.if-has_entry.false), c.in_ok-push_entry-in-Some.ensures.ok)
