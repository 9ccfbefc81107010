-- What the next line says, by what a call that may find no memory told of its words.
use Rattle.std.proofs.Common.{◌≡◌, ℕ, ◌+◌, Result, Ok, Err, IsErrAnd, MatchResult, refl, sym, inl, inr, ◌⊎◌}
use Rattle.um_treetext.specs.declared.fault.TreeFault.{TreeFault}
use Rattle.um_treetext.specs.declared.fault.TreeWord.{TreeWord}
use Rattle.um_treetext.specs.declared.fault.TreeWord.TheVariants.{Memory}
use Rattle.um_treetext.specs.Words.{Words, Says}
use Rattle.um_treetext.specs.Calls.{TellsAs}
use Rattle.um_treetext.specs.Reading.{Pieces, Reads, line_taken, next_line_said}
use Rattle.um_treetext.proofs.LineSteps.{AtLine, said_ok, said_err, promised_ok, promised_err}

-- what the fault of a part is for the whole
pub for_whole : {P Q R : Type 0} → P ⊎ Q → (Q → R) → P ⊎ R
for_whole (inl memory) then = inl memory
for_whole (inr said) then = inr (then said)

-- a call that needs no memory tells what is said
pub tells : {A : Type 0} (r : Result A TreeWord) (said : Says A) → r ≡ said → TellsAs (λ x. x) said r
tells (Ok x) said is = sym is
tells (Err f) said is = inr (sym is)

-- ---- what the next line said, by what a call told of its words

pub line_missing : {V : Type 0} (says : Words → Says V) (before : ℕ) (ps : Pieces) (f : TreeFault) → line_taken before ps ≡ Err (f.line, f.fault) → next_line_said says before ps ≡ Err (f.line, f.fault)
unfolding next_line_said
line_missing says before ps f none = rw none refl

pub line_read : {A V : Type 0} (plain : A → V) (says : Words → Says V) (before : ℕ) (ps left : Pieces) (words : Words) (r : Result A TreeWord) (w : Result A TreeFault) (x : A) → line_taken before ps ≡ Ok (record { value = words; left = left }) → TellsAs plain (says words) r → AtLine (before + 1) r w → w ≡ Ok x → next_line_said says before ps ≡ Ok (record { value = plain x; left = left })
unfolding next_line_said
line_read plain says before ps left words r w x taken tells at is = rw (taken, promised_ok r x _ _ (said_ok _ r w x at is) tells) refl

pub line_broken : {A V : Type 0} (plain : A → V) (says : Words → Says V) (before : ℕ) (ps left : Pieces) (words : Words) (r : Result A TreeWord) (w : Result A TreeFault) (f : TreeFault) → line_taken before ps ≡ Ok (record { value = words; left = left }) → TellsAs plain (says words) r → AtLine (before + 1) r w → w ≡ Err f → (f.fault ≡ Memory) ⊎ (next_line_said says before ps ≡ Err (f.line, f.fault))
unfolding next_line_said
line_broken plain says before ps left words r w f taken tells at is =
    let s = said_err _ r w f at is in
    for_whole (promised_err r f.fault _ _ s.0 tells) (λ (e : says words ≡ Err f.fault). rw (taken, e, s.1) refl)
