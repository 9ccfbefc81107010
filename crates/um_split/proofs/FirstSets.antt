-- The branch of a point is the average split of the first set whose rule fails, where no column asks for one.
use Rattle.std.proofs.Common.{◌≡◌, ℕ, ℤ}
use Rattle.std.specs.Prelude.{Option, None, Some, IfSome}
use Rattle.um_model.specs.Values.{DeckValue, PointValue}
use Rattle.um_model.specs.Feasible.{AllPlaces, IntegerHolds, SemiHolds}
use Rattle.um_model.specs.AverageSplit.{split_at}
use Rattle.um_model.specs.declared.deck.SetKind.{SetKind}
use Rattle.um_model.specs.declared.deck.SetKind.TheVariants.{S1, S2}
use Rattle.um_model.specs.declared.branch.Branch.{Branch}
use Rattle.um_model.specs.declared.branch.Branch.TheVariants.{Int, Cut, Semi as OnSemi, One, Two}
use Rattle.um_split.specs.Branchings.{IsBranchOf, IsFirstSplit}

-- ---- a split is a branch on a set

not_int : (kind : SetKind) (set first average column : ℕ) (below : ℤ) → ¬ (Int column below ≡ split_at kind set first average)
not_int S1 set first average column below e = absurd (cc)
not_int S2 set first average column below e = absurd (cc)

not_cut : (kind : SetKind) (set first average column : ℕ) (at : ℤ) → ¬ (Cut column at ≡ split_at kind set first average)
not_cut S1 set first average column at e = absurd (cc)
not_cut S2 set first average column at e = absurd (cc)

not_semi : (kind : SetKind) (set first average column : ℕ) → ¬ (OnSemi column ≡ split_at kind set first average)
not_semi S1 set first average column e = absurd (cc)
not_semi S2 set first average column e = absurd (cc)

-- ---- the branch

module _ (d : DeckValue) (p : PointValue) (integers : AllPlaces (IntegerHolds p) d.columns) (semis : AllPlaces (SemiHolds p) d.columns) where
  set_branch : (branch : Branch) → IsFirstSplit d p branch → IsBranchOf d p branch
  set_branch (Int column below) f = absurd (not_int f.split.chosen.kind f.set f.split.first f.split.average column below f.split.branch_is)
  set_branch (Cut column at) f = absurd (not_cut f.split.chosen.kind f.set f.split.first f.split.average column at f.split.branch_is)
  set_branch (OnSemi column) f = absurd (not_semi f.split.chosen.kind f.set f.split.first f.split.average column f.split.branch_is)
  set_branch (One set at) f = record { integers = integers; semis = semis; split = f }
  set_branch (Two set at) f = record { integers = integers; semis = semis; split = f }

  pub some_set : (result : Option Branch) → IfSome result (IsFirstSplit d p) → IfSome result (IsBranchOf d p)
  some_set None f = _
  some_set (Some branch) f = set_branch branch f
