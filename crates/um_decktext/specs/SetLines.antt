-- What lines of ordered sets, of quadratic arcs and of semicontinuous bounds say, or the rule of words that they break.
use Rattle.std.specs.Prelude.{ℕ, Bool, true, false, if◌then◌else◌, nat_eq, length, List, [], ◌∷◌, Option, Some, None, option_map, Ok, Err, codes, ◌≡◌, Result, MatchResult}
use Rattle.std.specs.Option.{option_map_or}
use Rattle.std.specs.Str.{bytes_eq}
use Rattle.um_num.specs.Numbers.{then_step}
use Rattle.um_model.specs.declared.deck.SetKind.{SetKind}
use Rattle.um_model.specs.declared.deck.SetKind.TheVariants.{S1, S2}
use Rattle.um_statements.specs.declared.fault.Fault.{Fault}
use Rattle.um_statements.specs.declared.fault.Fault.TheVariants.{BadWords, UnknownKind}
use Rattle.um_statements.specs.declared.parts.BoundKind.TheVariants.{Sc}
use Rattle.um_statements.specs.Statements.{Bound, Set, MemberTold, ArcTold}
use Rattle.um_statements.specs.Said.{Said}
use Rattle.um_statements.specs.CallRules.{with_all}
use Rattle.um_statements.specs.Tells.{Says, statements, says_fault}
use Rattle.um_decktext.specs.Words.{Words, first_word, named}
use Rattle.um_decktext.specs.Numbers.{number}

-- ---- SOS

-- the kinds of ordered sets; a line that begins with another word is one of a member
abbrev pub set_kind : List ℕ → Option SetKind
set_kind = named ((codes "S1", S1) ∷ (codes "S2", S2) ∷ [])

-- a line that begins a set has its name, and may have that of its reference row
abbrev pub set_head : SetKind → Words → Says
set_head kind (word ∷ name ∷ []) = Ok (Set kind name None ∷ [])
set_head kind (word ∷ name ∷ row ∷ []) = Ok (Set kind name (Some row) ∷ [])
set_head kind other = Err BadWords

-- a member has a weight where its set has no reference row, and none where it has one; before all sets there are no members
abbrev pub member_line : (wants_weight : Option Bool) → Words → Says
member_line (Some true) (column ∷ word ∷ []) = then_step (number word) (λ v. Ok (MemberTold column (Some v) ∷ []))
member_line (Some false) (column ∷ []) = Ok (MemberTold column None ∷ [])
member_line wants other = Err BadWords

-- a line of SOS, behind a set whose members have weights or have none
abbrev pub set_says : (wants_weight : Option Bool) → Words → Says
set_says wants ws = option_map_or (λ kind. set_head kind ws) (set_kind (first_word ws)) (member_line wants ws)

-- a line that begins a set says whether its members have weights: a third word is the reference row that gives them
abbrev pub weights_told : Words → Option Bool
weights_told ws = option_map (λ kind. nat_eq (length ws) 2) (set_kind (first_word ws))

-- ---- ARCS

-- a line of ARCS: the kind `Q`, a row, a column and a number
abbrev pub arc_says : Words → Says
arc_says (kind ∷ row ∷ column ∷ word ∷ []) = if bytes_eq kind (codes "Q") then then_step (number word) (λ v. Ok (ArcTold row column v ∷ [])) else Err UnknownKind
arc_says other = Err BadWords

-- ---- SC bounds

-- the bound of a semicontinuous column with this value
abbrev pub semi_bound : (kind column value : List ℕ) → Says
semi_bound kind column value = if bytes_eq kind (codes "SC") then then_step (number value) (λ v. Ok (Bound Sc column (Some v) ∷ [])) else Err UnknownKind

-- a line of the kind `SC`, behind the name of a set or not
abbrev pub semi_says : (named_set : Bool) → Words → Says
semi_says false (kind ∷ column ∷ value ∷ []) = semi_bound kind column value
semi_says true (kind ∷ set ∷ column ∷ value ∷ []) = semi_bound kind column value
semi_says named_set other = Err BadWords

-- A maker was told what a line says by a call that takes no memory: at Ok no rule is broken and it knows the statement more;
-- a fault is that of the first broken rule, and then it knows what it knew.
abbrev pub TellsLineFree : Says → Said → Result Unit Fault → Said → Type 0
TellsLineFree says old result new = MatchResult result
    (λ _. (says_fault old says ≡ None) × (new ≡ with_all (statements says) old))
    (λ fault. (new ≡ old) × (says_fault old says ≡ Some fault))
