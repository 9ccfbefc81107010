use Rattle.um_make.proofs.numeral.+put_pointed.Given as goal

abbrev pub decreases-put_pointed : goal.decreases-put_pointed
decreases-put_pointed l = l.decimals
