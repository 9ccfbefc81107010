-- What a maker's calls do: each tells one statement, or what a whole line says.
use Rattle.std.specs.Prelude.{◌≡◌, ◌⊎◌, Bool, true, false, List, [], is_none, Option, Some, None, option_map, Result, Ok, Err, MatchResult}
use Rattle.std.specs.List.{last_or}
use Rattle.um_statements.specs.declared.fault.Fault.{Fault}
use Rattle.um_statements.specs.declared.fault.Fault.TheVariants.{Memory}
use Rattle.um_statements.specs.declared.parts.BoundKind.{BoundKind}
use Rattle.um_statements.specs.declared.parts.BoundKind.TheVariants.{Fr, Mi, Pl, Bv}
use Rattle.um_statements.specs.Statements.{Statement}
use Rattle.um_statements.specs.Said.{Said, SetSaid}
use Rattle.um_statements.specs.CallRules.{fault_of, faults_in, with_statement, with_all}

-- ---- when a call may be made

-- bounds of this kind have a value
abbrev pub needs_value : BoundKind → Bool
needs_value Fr = false
needs_value Mi = false
needs_value Pl = false
needs_value Bv = false
needs_value other = true

-- whether members of the last set are told with a weight: those of a set without reference row are
abbrev pub wants_weight : Said → Option Bool
wants_weight said = option_map (λ (s : SetSaid). is_none s.reference) (last_or None said.sets)

-- ---- one statement

-- The maker was told this: at Ok no rule is broken and it knows one statement more; after a fault it knows
-- what it knew, and the fault is that of the first broken rule, or want of memory.
abbrev pub Tells : Statement → Said → Result Unit Fault → Said → Type 0
Tells s old result new = MatchResult result
    (λ _. (fault_of old s ≡ None) × (new ≡ with_statement s old))
    (λ fault. (new ≡ old) × ((fault ≡ Memory) ⊎ (fault_of old s ≡ Some fault)))

-- The same of a call that takes no memory: each fault is that of the first broken rule.
abbrev pub TellsFree : Statement → Said → Result Unit Fault → Said → Type 0
TellsFree s old result new = MatchResult result
    (λ _. (fault_of old s ≡ None) × (new ≡ with_statement s old))
    (λ fault. (new ≡ old) × (fault_of old s ≡ Some fault))

-- ---- a line

-- what a line says: statements, or the rule of words that it breaks
abbrev pub Says : Type 0
Says = Result (List Statement) Fault

abbrev pub statements : Says → List Statement
statements (Ok told) = told
statements (Err fault) = []

-- the rule that a line's statements break when they are told, or its words
abbrev pub says_fault : Said → Says → Option Fault
says_fault said (Ok more) = faults_in said more
says_fault said (Err fault) = Some fault

-- The maker was told what a line says: at Ok no rule is broken, and it knows the statements more; a fault is
-- that of the first broken rule, or want of memory, and then a first statement may have been told.
abbrev pub TellsAll : Says → Said → Result Unit Fault → Said → Type 0
TellsAll says old result new = MatchResult result
    (λ _. (says_fault old says ≡ None) × (new ≡ with_all (statements says) old))
    (λ fault. (fault ≡ Memory) ⊎ (says_fault old says ≡ Some fault))

-- The same of a line that says one statement at most: after a fault the maker knows what it knew.
abbrev pub TellsLine : Says → Said → Result Unit Fault → Said → Type 0
TellsLine says old result new = MatchResult result
    (λ _. (says_fault old says ≡ None) × (new ≡ with_all (statements says) old))
    (λ fault. (new ≡ old) × ((fault ≡ Memory) ⊎ (says_fault old says ≡ Some fault)))
