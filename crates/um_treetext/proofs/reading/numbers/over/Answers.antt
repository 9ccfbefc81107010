use Rattle.std.proofs.Common.{arith}
use Rattle.std.proofs.lemmas.Int.{ints}
use Rattle.um_num.proofs.Parts.{from_bits}
use Rattle.um_treetext.proofs.NumberWords.{low_den, large_num}
use Rattle.um_treetext.proofs.reading.numbers.over.Goals as goal

pub returns-then-den-lt2 : goal.returns-then-den-lt2
returns-then-den-lt2 c = let h = rw (from_bits c.args.den c.requires.den_small) at c.if-den-lt2.true in λ n s. low_den n c.args.den (λ up. omega (arith, ints, h, up))

pub returns-in-Large : goal.returns-in-Large
returns-in-Large c = let h = rw (from_bits c.args.den c.requires.den_small) at c.if-den-lt2.false in λ n s. large_num n c.args.den _ (rw c.in-Large.is at s) (omega (arith, ints, h))
