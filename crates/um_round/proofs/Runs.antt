-- Statements that are told one after the other, none of which breaks a rule.
use Rattle.std.proofs.Common.{◌≡◌, List, [], ◌∷◌, ◌++◌, Option, None, Some, refl, ap, ◌∙◌}
use Rattle.std.specs.Option.{option_or}
use Rattle.um_statements.specs.declared.fault.Fault.{Fault}
use Rattle.um_statements.specs.Statements.{Statement}
use Rattle.um_statements.specs.Said.{Said}
use Rattle.um_statements.specs.CallRules.{fault_of, with_statement, faults_in, with_all}
use Rattle.um_round.proofs.NormalSaid.{Runs}

pub run_none : (said : Said) → Runs said [] said
run_none said = record { fine = refl; knows = refl }

pub run_one : (old : Said) (s : Statement) (new : Said) → fault_of old s ≡ None → with_statement s old ≡ new → Runs old (s ∷ []) new
run_one old s new fine knows = record { fine = rw fine refl; knows = knows }

pub run_both : (a b c : Said) (xs ys : List Statement) → Runs a xs b → Runs b ys c → Runs a (xs ++ ys) c
run_both a b c xs ys first second = record {
  fine = faults xs a first.fine ∙ ap (λ (s : Said). faults_in s ys) first.knows ∙ second.fine;
  knows = all xs a ∙ ap (with_all ys) first.knows ∙ second.knows;
}
  where
    all : (xs : List Statement) (said : Said) → with_all (xs ++ ys) said ≡ with_all ys (with_all xs said)
    all [] said = refl
    all (x ∷ xs) said = all xs (with_statement x said)

    faults : (xs : List Statement) (said : Said) → faults_in said xs ≡ None → faults_in said (xs ++ ys) ≡ faults_in (with_all xs said) ys
    faults [] said none = refl
    faults (x ∷ xs) said none = by (fault_of said x) refl none (faults xs (with_statement x said))
      where
        by : (o : Option Fault) → fault_of said x ≡ o → option_or o (faults_in (with_statement x said) xs) ≡ None
            → (faults_in (with_statement x said) xs ≡ None → faults_in (with_statement x said) (xs ++ ys) ≡ faults_in (with_all xs (with_statement x said)) ys)
            → option_or (fault_of said x) (faults_in (with_statement x said) (xs ++ ys)) ≡ faults_in (with_all xs (with_statement x said)) ys
        by None e none more = rw e (more none)
        by (Some f) e none more = cc
