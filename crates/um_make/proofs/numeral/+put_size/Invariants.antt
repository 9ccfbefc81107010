use Rattle.um_make.proofs.numeral.+put_size.Given as goal

abbrev pub decreases-put_size : goal.decreases-put_size
decreases-put_size l = l.scale
