use Rattle.um_opening.proofs.opening.open.Given as goal

abbrev pub ghost-start : goal.ghost-start
ghost-start g a = g.d
