use Rattle.um_ray.proofs.starting.solve_start.Given as goal

abbrev pub ghost-put_start_ends : goal.ghost-put_start_ends
ghost-put_start_ends g a = g.d

abbrev pub ghost-at_end : goal.ghost-at_end
ghost-at_end g a = g.d
