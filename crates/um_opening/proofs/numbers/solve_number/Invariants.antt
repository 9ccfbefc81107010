use Rattle.um_opening.proofs.numbers.solve_number.Given as goal

abbrev pub ghost-open : goal.ghost-open
ghost-open g a = g.d
