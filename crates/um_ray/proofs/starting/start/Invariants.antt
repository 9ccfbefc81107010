use Rattle.um_ray.proofs.starting.start.Given as goal

abbrev pub ghost-wants_own_ends : goal.ghost-wants_own_ends
ghost-wants_own_ends g a = g.d

abbrev pub ghost-solve_start : goal.ghost-solve_start
ghost-solve_start g a = g.d
