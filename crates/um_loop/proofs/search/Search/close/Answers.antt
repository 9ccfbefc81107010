use Rattle.std.proofs.Common.{Some}
use Rattle.um_loop.proofs.search.Search.close.Goals as goal

pub returns : goal.returns
returns c = record {
  least = c.lesser.result;
  lesser = c.lesser.ensures;
  after_is = λ i. record c.args.self.now { growth = c.settle.ensures i; least = Some c.lesser.result };
}
