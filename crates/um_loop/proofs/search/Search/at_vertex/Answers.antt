use Rattle.std.proofs.Common.{Option}
use Rattle.um_model.specs.LeafValue.{leaf_value}
use Rattle.um_model.specs.Values.{plain_point}
use Rattle.um_multipliers.specs.PlainMultipliers.{plain_multipliers}
use Rattle.um_loop.specs.declared.search.Halt.{Halt}
use Rattle.um_loop.specs.Steps.{VertexLed, AfterVertex, with_best}
use Rattle.um_loop.proofs.AskedBranches.{asked_fits}
use Rattle.um_loop.proofs.KeysClose.{key_below}
use Rattle.um_loop.proofs.Results.{ok_map}
use Rattle.um_loop.proofs.search.Search.at_vertex.Goals as goal

pub returns : goal.returns
returns c =
    let d = c.args.deck.now in
    let box = c.args.node.now.limits in
    let s = c.args.self.now in
    let taken = c.args.taken.now in
    let p = plain_point c.args.point in
    let y = plain_multipliers c.args.y in
    let best = c.improve.new.best in
    let asked = c.branch_of-asked.result in
    let key = c.key_of-key.result in
    let is = c.branch_of-asked.ensures.branch in
    ok_map (λ (halt : Option Halt). VertexLed d box (with_best s best) taken c.args.solved asked y key halt c.settle_vertex.new.self) (λ (halt : Option Halt). AfterVertex d box s taken c.args.solved p y halt c.settle_vertex.new.self) c.settle_vertex.result
    (λ halt led. record {
      best = best;
      best_is = c.improve.ensures;
      asked = asked;
      asked_is = is;
      none_is = c.branch_of-asked.ensures.none.0;
      fits = asked_fits d box p asked c.requires.formed.formed c.requires.vertex.read.point is;
      key = key;
      key_is = c.key_of-key.ensures.key;
      key_size = c.key_of-key.ensures.size;
      key_id = c.key_of-key.ensures.id;
      key_depth = c.key_of-key.ensures.depth;
      led = led;
    })
    c.settle_vertex.ensures

pub settle_vertex-requires-clause-fits : goal.settle_vertex-requires-clause-fits
settle_vertex-requires-clause-fits c = asked_fits c.args.deck.now c.args.node.now.limits (plain_point c.args.point) c.branch_of-asked.result c.requires.formed.formed c.requires.vertex.read.point c.branch_of-asked.ensures.branch

pub settle_vertex-requires-clause-key_y0 : goal.settle_vertex-requires-clause-key_y0
settle_vertex-requires-clause-key_y0 c = key_below (leaf_value c.args.deck.now c.args.node.now.limits (plain_multipliers c.args.y)) c.args.y.y0 c.key_of-key.result c.requires.vertex.read.below.y0 c.key_of-key.ensures.key
