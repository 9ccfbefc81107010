use Rattle.std.proofs.Common.{refl, rules}
use Rattle.um_search.proofs.solving.solve_on.Goals as goal

pub search_on-requires : goal.search_on-requires
search_on-requires g c = λ lifetimes live. (live, (refl, (refl, (c.requires.searched, (c.requires.budget, (search rules, (search rules, c.requires.starts)))))))
