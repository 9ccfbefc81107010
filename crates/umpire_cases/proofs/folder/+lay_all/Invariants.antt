use Rattle.std.proofs.Common.{length}
use Rattle.umpire_cases.proofs.folder.+lay_all.Given as goal

abbrev pub decreases-lay_all : goal.decreases-lay_all
decreases-lay_all l = length l.names.now
