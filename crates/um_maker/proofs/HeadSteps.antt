-- The name and the sense that a maker is told.
use Rattle.std.proofs.Common.{◌≡◌, Bool, None, refl}
use Rattle.um_statements.specs.Statements.{Name, Title, Sense}
use Rattle.um_statements.specs.Said.{Said}
use Rattle.um_statements.specs.CallRules.{fault_of, rules_of, with_statement}

pub title_allowed : (said : Said) (name : Name) → fault_of said (Title name) ≡ None
unfolding rules_of
title_allowed said name = refl

pub title_told : (said : Said) (name : Name) → record said { name = name } ≡ with_statement (Title name) said
unfolding with_statement
title_told said name = refl

pub sense_told : (said : Said) (maximise : Bool) → record said { maximise = maximise } ≡ with_statement (Sense maximise) said
unfolding with_statement
sense_told said maximise = refl
