use Rattle.um_ray.proofs.starting.read_ray.Given as goal

abbrev pub ghost-column_values : goal.ghost-column_values
ghost-column_values g a = g.d
