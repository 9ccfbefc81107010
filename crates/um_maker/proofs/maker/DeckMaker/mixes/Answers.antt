use Rattle.std.proofs.Common.{◌∙◌, Bool, sym, ap, refl, Some, option_map, slice_get}
use Rattle.um_statements.specs.Said.{Said}
use Rattle.um_statements.specs.CallRules.{mixes}
use Rattle.um_made.specs.Views.{column_said}
use Rattle.um_maker.proofs.SeenItems.{seen_at}
use Rattle.um_maker.proofs.maker.DeckMaker.mixes.Goals as goal

pub returns : goal.returns
returns c =
    ap (λ (b : Bool). Some b) c.mixes.ensures ∙ sym (seen_at column_said (mixes c.args.kind) _ c.self.inside.columns c.args.place c.at.result.now c.at.ensures (λ n. refl))
    ∙ ap (λ (s : Said). option_map (mixes c.args.kind) (slice_get s.columns c.args.place)) c.self.view_is
