use Rattle.std.proofs.Common.{◌∙◌, sym, refl, ap, Some, option_map, slice_get, is_some, Bool}
use Rattle.um_statements.specs.Said.{Said, RowSaid}
use Rattle.um_made.specs.Views.{row_said}
use Rattle.um_maker.proofs.SeenItems.{seen_at}
use Rattle.um_maker.proofs.maker.DeckMaker.has_range.Goals as goal

pub returns : goal.returns
returns c =
    ap (λ (b : Bool). Some b) c.is_some.ensures ∙ sym (seen_at row_said (λ (r : RowSaid). is_some r.range) (is_some c.at.result.now.range) c.self.inside.rows c.args.place c.at.result.now c.at.ensures (λ n. refl))
    ∙ ap (λ (s : Said). option_map (λ (r : RowSaid). is_some r.range) (slice_get s.rows c.args.place)) c.self.view_is
