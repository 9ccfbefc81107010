-- Calls that hand on a fault, or that no memory was found.
use Rattle.std.proofs.Common.{◌≡◌, ◌⊎◌, Result, Ok, Err, IsErrAnd, MatchResult, inl, inr, refl}
use Rattle.um_num.specs.Numbers.{then_step}
use Rattle.um_treetext.specs.declared.fault.TreeFault.{TreeFault}
use Rattle.um_treetext.specs.declared.fault.TreeWord.TheVariants.{Memory}
use Rattle.um_treetext.specs.Reading.{Reads}

-- no memory was found, or this is the line and the fault
abbrev pub Fails : {A : Type 0} → TreeFault → Reads A → Type 0
Fails fault said = (fault.fault ≡ Memory) ⊎ (said ≡ Err (fault.line, fault.fault))

-- then so does what stands on it
pub then_fails : {A B : Type 0} (fault : TreeFault) (said : Reads A) (more : A → Reads B) → Fails fault said → Fails fault (then_step said more)
then_fails fault said more h =
    elim h [
      | inl memory_out ↦ inl memory_out
      | inr e ↦ inr (rw e refl)
    ]

pub hands_on_at : {A B : Type 0} (r : Result A TreeFault) (fault : TreeFault) (said : Reads B) (P : A → Type 0) → IsErrAnd r (λ f. f ≡ fault) → Fails fault said → MatchResult r P (λ f. Fails f said)
hands_on_at (Ok x) fault said P is h = absurd is
hands_on_at (Err f) fault said P is h = rw is h
