use Rattle.um_ray.proofs.starting.at_end.Given as goal

abbrev pub ghost-wants_own_ends : goal.ghost-wants_own_ends
ghost-wants_own_ends g a = g.d

abbrev pub ghost-read_ray : goal.ghost-read_ray
ghost-read_ray g a = g.d
