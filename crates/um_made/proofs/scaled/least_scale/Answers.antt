use Rattle.std.proofs.Common.{◌≡◌, ◌∙◌, sym, ap, max, take, get_or}
use Rattle.um_statements.specs.Scaled.{decimals, least_scale}
use Rattle.um_made.proofs.Scales.{scale_taken}
use Rattle.um_made.proofs.scaled.least_scale.Goals as goal

pub loop-value-preserved : goal.loop-value-preserved
loop-value-preserved c =
    let known : c.loop-value.scale ≡ least_scale (take c.loop-value.value-index c.args.values.now) = c.loop-value.invariant in
    c.max-scale.ensures ∙ ap (λ n. max n c.loop-value.scale) c.decimals.ensures ∙ ap (max (decimals (get_or c.args.values.now c.loop-value.value-index _))) known
    ∙ sym (scale_taken c.args.values.now c.loop-value.value-index _ c.loop-value-test.true)
