use Rattle.std.proofs.Common.{refl}
use Rattle.um_point.proofs.first_broken.feasible.Goals as goal

pub returns-in-Some-first_broken_bound-clause-first : goal.returns-in-Some-first_broken_bound-clause-first
returns-in-Some-first_broken_bound-clause-first c = (c.in_default.ensures.none.0 refl, c.in-Some-first_broken_bound.ensures.first)

pub returns-in-Some-first_broken_integer-clause-first : goal.returns-in-Some-first_broken_integer-clause-first
returns-in-Some-first_broken_integer-clause-first c = (c.in_default.ensures.none.0 refl, c.in_default-first_broken_bound.ensures.none.0 refl, c.in-Some-first_broken_integer.ensures.first)

pub returns-in-Some-first_broken_semi-clause-first : goal.returns-in-Some-first_broken_semi-clause-first
returns-in-Some-first_broken_semi-clause-first c = (
  c.in_default.ensures.none.0 refl,
  c.in_default-first_broken_bound.ensures.none.0 refl,
  c.in_default-first_broken_integer.ensures.none.0 refl,
  c.in-Some-first_broken_semi.ensures.first,
)

pub returns-in-Some-first_broken_set-clause-first : goal.returns-in-Some-first_broken_set-clause-first
returns-in-Some-first_broken_set-clause-first c = (
  c.in_default.ensures.none.0 refl,
  c.in_default-first_broken_bound.ensures.none.0 refl,
  c.in_default-first_broken_integer.ensures.none.0 refl,
  c.in_default-first_broken_semi.ensures.none.0 refl,
  c.in-Some-first_broken_set.ensures.first,
)

pub returns-clause-feasible : goal.returns-clause-feasible
returns-clause-feasible c = (
  λ _. record {
    den = c.requires.den;
    parts = c.requires.parts;
    rows = c.in_default.ensures.none.0 refl;
    ends = c.in_default-first_broken_bound.ensures.none.0 refl;
    integers = c.in_default-first_broken_integer.ensures.none.0 refl;
    semis = c.in_default-first_broken_semi.ensures.none.0 refl;
    sets = c.in_default-first_broken_set.ensures.none.0 refl;
  },
  λ _. refl,
)
