use Rattle.std.proofs.Common.{inl}
use Rattle.um_loop.proofs.search.Search.settle_vertex.Goals as goal

pub returns-in-Some : goal.returns-in-Some
returns-in-Some c = inl (record { bound = c.in-Some.bound; closing = c.in-Some.ensures; closed = c.close.ensures })
