use Rattle.um_loop.proofs.search.Search.empty.Goals as goal

pub returns : goal.returns
returns c = λ i. record c.args.self.now { growth = c.settle.ensures i }
