use Rattle.um_loop.proofs.search.Search.solve_next.Given as goal

abbrev pub ghost-solve_number : goal.ghost-solve_number
ghost-solve_number g a = a.node.now.deck
