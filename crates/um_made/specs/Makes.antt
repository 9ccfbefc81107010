-- What is made where no rule is broken.
use Rattle.std.specs.Prelude.{◌≡◌, ◌⊎◌, List, None, Some, Result, MatchResult}
use Rattle.um_statements.specs.declared.fault.Fault.{Fault}
use Rattle.um_statements.specs.declared.fault.Fault.TheVariants.{Memory}
use Rattle.um_statements.specs.CallRules.{Rule, first_fault}

-- these rules were looked at: at Ok none is broken, and what was made is such; a fault is that of the first broken rule
abbrev pub Keeps : {A : Type 0} → List Rule → (A → Type 0) → Result A Fault → Type 0
Keeps rules P result = MatchResult result (λ made. (first_fault rules ≡ None) × P made) (λ fault. first_fault rules ≡ Some fault)

-- the same where memory is taken: a fault may be want of it
abbrev pub Makes : {A : Type 0} → List Rule → (A → Type 0) → Result A Fault → Type 0
Makes rules P result = MatchResult result (λ made. (first_fault rules ≡ None) × P made) (λ fault. (fault ≡ Memory) ⊎ (first_fault rules ≡ Some fault))
