-- Whether members of the last set have weights, behind lines.
use Rattle.std.proofs.Common.{◌≡◌, Bool, true, false, is_none, nat_eq, length, List, [], ◌∷◌, All, Option, Some, None, option_map, Result, Ok, Err, refl, sym, ap, ◌∙◌}
use Rattle.std.proofs.lemmas.List.Elements.{All-head, All-tail}
use Rattle.std.specs.List.{last_or}
use Rattle.std.specs.Option.{option_and_then, option_map_or, option_or}
use Rattle.um_num.specs.declared.decimal.Decimal.{Decimal}
use Rattle.um_num.specs.Numbers.{then_step}
use Rattle.um_model.specs.declared.deck.SetKind.{SetKind}
use Rattle.um_statements.specs.declared.fault.Fault.{Fault}
use Rattle.um_statements.specs.declared.fault.Fault.TheVariants.{BadWords, UnknownRow}
use Rattle.um_statements.specs.Statements.{Name, Statement, ArcTold, Bound, Column, EntryTold, MemberTold, Range, RowTold, Sense, Set, Side, Title}
use Rattle.um_statements.specs.Said.{Said, SetSaid, row_place}
use Rattle.um_statements.specs.CallRules.{change_last, fault_of, faults_in, rules_of, with_all, with_statement}
use Rattle.um_statements.specs.Tells.{Says, says_fault, statements, wants_weight}
use Rattle.um_statements.proofs.LastBounds.{last_push}
use Rattle.um_decktext.specs.Words.{Words, first_word}
use Rattle.um_decktext.specs.Numbers.{number}
use Rattle.um_decktext.specs.SetLines.{member_line, set_head, set_kind, set_says, weights_told}
use Rattle.um_decktext.specs.Places.{Place}
use Rattle.um_mps.specs.Behind.{behind_set_line}
use Rattle.um_mps.proofs.SaysFine.{IsPlain, NoSet, Plain, statements_plain}

-- ---- statements that speak of no set

one_kept : (s : Statement) (said : Said) → NoSet s → (with_statement s said).sets ≡ said.sets
unfolding with_statement
one_kept (Title name) said none = refl
one_kept (Sense maximise) said none = refl
one_kept (RowTold kind name) said none = refl
one_kept (Column name in_block) said none = refl
one_kept (EntryTold row value) said none = refl
one_kept (Side row value) said none = refl
one_kept (Range row value) said none = refl
one_kept (Bound kind column value) said none = refl
one_kept (ArcTold row column value) said none = refl
one_kept (Set kind name reference) said none = absurd none
one_kept (MemberTold column weight) said none = absurd none

all_kept : (told : List Statement) (said : Said) → All Plain told → (with_all told said).sets ≡ said.sets
all_kept [] said all = refl
all_kept (s ∷ told) said all = all_kept told (with_statement s said) (All-tail Plain s told all) ∙ one_kept s said (All-head Plain s told all).1

-- a line that speaks of no set leaves the last one
pub wants_kept : (says : Says) (old more : Said) → IsPlain says → more ≡ with_all (statements says) old → wants_weight more ≡ wants_weight old
wants_kept says old more plain told =
    ap wants_weight told ∙ ap (λ sets. option_map (λ (s : SetSaid). is_none s.reference) (last_or None sets)) (all_kept (statements says) old (statements_plain says plain))

-- ---- a line that begins a set

none_some : {A : Type 0} (x : A) → Some x ≡ None → ⊥
none_some x e = cc

set_begun : (kind : SetKind) (name : Name) (reference : Option Name) (said : Said)
    → wants_weight (with_statement (Set kind name reference) said) ≡ Some (is_none (option_and_then (row_place said.rows) reference))
unfolding with_statement
set_begun kind name reference said = ap (option_map (λ (s : SetSaid). is_none s.reference)) (last_push None said.sets _)

row_known : (kind : SetKind) (name row : Name) (said : Said) → fault_of said (Set kind name (Some row)) ≡ None → is_none (row_place said.rows row) ≡ false
unfolding rules_of
row_known kind name row said fine = by (row_place said.rows row) refl
  where
    by : (o : Option _) → row_place said.rows row ≡ o → is_none (row_place said.rows row) ≡ false
    by (Some place) e = rw e refl
    by None e = absurd (none_some UnknownRow (rw e at fine))

one_fine : (said : Said) (s : Statement) → faults_in said (s ∷ []) ≡ None → fault_of said s ≡ None
one_fine said s fine = by (fault_of said s) refl fine
  where
    by : (o : Option Fault) → fault_of said s ≡ o → option_or o None ≡ None → fault_of said s ≡ None
    by None e none = e
    by (Some fault) e none = absurd (none_some fault none)

head_told : (kind : SetKind) (ws : Words) (said : Said) → says_fault said (set_head kind ws) ≡ None → wants_weight (with_all (statements (set_head kind ws)) said) ≡ Some (nat_eq (length ws) 2)
head_told kind [] said fine = absurd (none_some BadWords fine)
head_told kind (a ∷ []) said fine = absurd (none_some BadWords fine)
head_told kind (a ∷ (b ∷ [])) said fine = set_begun kind b None said
head_told kind (a ∷ (b ∷ (c ∷ []))) said fine = set_begun kind b (Some c) said ∙ ap Some (row_known kind b c said (one_fine said (Set kind b (Some c)) fine))
head_told kind (a ∷ (b ∷ (c ∷ (d ∷ ws)))) said fine = absurd (none_some BadWords fine)

-- ---- a line of a member

same_last : (change : SetSaid → SetSaid) → ((s : SetSaid) → (change s).reference ≡ s.reference) → (before : Option SetSaid) (sets : List SetSaid)
    → option_map (λ (s : SetSaid). is_none s.reference) (last_or before (change_last change sets)) ≡ option_map (λ (s : SetSaid). is_none s.reference) (last_or before sets)
same_last change same before [] = refl
same_last change same before (s ∷ []) = ap (λ reference. Some (is_none reference)) (same s)
same_last change same before (s ∷ (t ∷ sets)) = same_last change same (Some s) (t ∷ sets)

member_put : (column : Name) (weight : Option Decimal) (said : Said) → wants_weight (with_statement (MemberTold column weight) said) ≡ wants_weight said
unfolding with_statement
member_put column weight said = same_last _ (λ s. refl) None said.sets

step_told : (said : Said) (column : Name) (r : Result Decimal Fault) → wants_weight (with_all (statements (then_step r (λ v. Ok (MemberTold column (Some v) ∷ [])))) said) ≡ wants_weight said
step_told said column (Ok v) = member_put column (Some v) said
step_told said column (Err fault) = refl

member_told : (wants : Option Bool) (ws : Words) (said : Said) → wants_weight (with_all (statements (member_line wants ws)) said) ≡ wants_weight said
member_told None ws said = refl
member_told (Some true) [] said = refl
member_told (Some true) (a ∷ []) said = refl
member_told (Some true) (a ∷ (b ∷ [])) said = step_told said a (number b)
member_told (Some true) (a ∷ (b ∷ (c ∷ ws))) said = refl
member_told (Some false) [] said = refl
member_told (Some false) (a ∷ []) said = member_put a None said
member_told (Some false) (a ∷ (b ∷ ws)) said = refl

-- ---- a line of SOS

-- what a line of SOS says of the last set's members is what they have
pub set_told : (wants : Option Bool) (ws : Words) (said : Said) → wants ≡ wants_weight said → says_fault said (set_says wants ws) ≡ None
    → wants_weight (with_all (statements (set_says wants ws)) said) ≡ option_or (weights_told ws) wants
set_told wants ws said same fine = by (set_kind (first_word ws)) fine
  where
    by : (o : Option SetKind) → says_fault said (option_map_or (λ kind. set_head kind ws) o (member_line wants ws)) ≡ None
        → wants_weight (with_all (statements (option_map_or (λ kind. set_head kind ws) o (member_line wants ws))) said) ≡ option_or (option_map (λ kind. nat_eq (length ws) 2) o) wants
    by None none = member_told wants ws said ∙ sym same
    by (Some kind) none = head_told kind ws said none

-- the place behind the line has what the maker says
pub weights_behind : (ws : Words) (place : Place) (old more : Said) → place.weights ≡ wants_weight old → says_fault old (set_says (wants_weight old) ws) ≡ None
    → more ≡ with_all (statements (set_says (wants_weight old) ws)) old → record place { weights = wants_weight more } ≡ behind_set_line ws place
weights_behind ws place old more same fine told =
    ap (λ w. record place { weights = w }) (ap wants_weight told ∙ set_told (wants_weight old) ws old refl fine ∙ ap (option_or (weights_told ws)) (sym same))
