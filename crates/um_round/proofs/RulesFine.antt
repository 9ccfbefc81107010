-- Rules none of which is broken.
use Rattle.std.proofs.Common.{◌≡◌, ℕ, Bool, true, false, List, [], ◌∷◌, ◌++◌, Option, Some, None, ℤ, unsigned_abs, refl, if◌then◌else◌}
use Rattle.std.specs.Option.{ForSome}
use Rattle.std.proofs.lemmas.Bool.{not_from_true, le-leb}
use Rattle.um_model.specs.WellFormed.{IsWithin}
use Rattle.um_statements.specs.CallRules.{Rule, first_fault}
use Rattle.um_statements.specs.DeckRules.{is_above}
use Rattle.um_round.proofs.EachItem.{Each}

-- ---- lists of rules

pub both_fine : (rules more : List Rule) → first_fault rules ≡ None → first_fault more ≡ None → first_fault (rules ++ more) ≡ None
both_fine [] more a b = b
both_fine (r ∷ rules) more a b = by r.0 a (λ c. both_fine rules more c b)
  where
    by : (t : Bool) → (if t then Some r.1 else first_fault rules) ≡ None → (first_fault rules ≡ None → first_fault (rules ++ more) ≡ None) → (if t then Some r.1 else first_fault (rules ++ more)) ≡ None
    by true a rest = cc
    by false a rest = rest a

-- rules each of which holds
pub each_fine : (rules : List Rule) → Each (λ (r : Rule). r.0 ≡ false) rules → first_fault rules ≡ None
each_fine [] h = refl
each_fine (r ∷ rules) h = rw h.0 (each_fine rules h.1)

-- ---- sizes

pub not_above : (most : ℕ) (o : Option ℤ) → ForSome o (IsWithin most) → is_above most o ≡ false
not_above most None h = refl
not_above most (Some z) h = not_from_true _ (le-leb (unsigned_abs z) most (h z refl))

pub one_above : (most : ℕ) (z : ℤ) → IsWithin most z → is_above most (Some z) ≡ false
one_above most z h = not_from_true _ (le-leb (unsigned_abs z) most h)
