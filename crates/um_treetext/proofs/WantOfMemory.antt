-- Steps of calls that may find no memory.
use Rattle.std.proofs.Common.{◌≡◌, Result, Ok, Err, IsErrAnd, MatchResult, refl, ◌⊎◌, inl, inr}
use Rattle.um_num.specs.Numbers.{then_step}
use Rattle.um_treetext.specs.declared.fault.TreeWord.{TreeWord}
use Rattle.um_treetext.specs.declared.fault.TreeWord.TheVariants.{Memory}
use Rattle.um_treetext.specs.Words.{Says}

-- no memory was found, or this is the fault of what is said
abbrev pub Faults : {A : Type 0} → Says A → TreeWord → Type 0
Faults said fault = (fault ≡ Memory) ⊎ (said ≡ Err fault)

-- a call that hands on a fault
pub hands_on : {A B : Type 0} (r : Result A TreeWord) (fault : TreeWord) (said : Says B) (P : A → Type 0) → IsErrAnd r (λ w. w ≡ fault) → Faults said fault → MatchResult r P (λ f. Faults said f)
hands_on (Ok x) fault said P is h = absurd is
hands_on (Err w) fault said P is h = rw is h

-- the fault of the first step is that of both
pub first_faults : {A B : Type 0} (said : Says A) (next : A → Says B) (fault : TreeWord) → Faults said fault → Faults (then_step said next) fault
first_faults said next fault (inl none) = inl none
first_faults said next fault (inr is) = inr (rw is refl)

-- the same of a step behind one that ended well
pub second_faults : {A B : Type 0} (said : Says A) (x : A) (next : A → Says B) (fault : TreeWord) → said ≡ Ok x → Faults (next x) fault → Faults (then_step said next) fault
second_faults said x next fault e h = rw e h
