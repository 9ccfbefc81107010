-- Steps from line to line.
use Rattle.std.proofs.Common.{◌≡◌, ℕ, Result, Ok, Err, IsErrAnd, MatchResult, refl, sym, ap, ◌∙◌, ◌⊎◌, inr}
use Rattle.um_treetext.specs.declared.fault.TreeFault.{TreeFault}
use Rattle.um_treetext.specs.declared.fault.TreeWord.{TreeWord}
use Rattle.um_treetext.specs.declared.fault.TreeWord.TheVariants.{Memory}
use Rattle.um_treetext.specs.Reading.{Reads, at_line}

-- a call that hands on a line and its fault
pub fails_at : {A B : Type 0} (r : Result A TreeFault) (fault : TreeFault) (said : Reads B) (P : A → Type 0) → IsErrAnd r (λ f. f ≡ fault) → said ≡ Err (fault.line, fault.fault) → MatchResult r P (λ f. said ≡ Err (f.line, f.fault))
fails_at (Ok x) fault said P is h = absurd is
fails_at (Err w) fault said P is h = rw is h

-- what a line said, by what `at_line` made of it
abbrev pub AtLine : {A : Type 0} → ℕ → Result A TreeWord → Result A TreeFault → Type 0
AtLine line said r = MatchResult said (λ value. r ≡ Ok value) (λ fault. r ≡ Err (record { line = line; fault = fault }))

pub said_ok : {A : Type 0} (line : ℕ) (said : Result A TreeWord) (r : Result A TreeFault) (x : A) → AtLine line said r → r ≡ Ok x → said ≡ Ok x
said_ok line (Ok v) r x h e = let same : Ok v ≡ Ok x = sym h ∙ e in let is : v ≡ x = cc in ap Ok is
said_ok line (Err f) r x h e = let bad : Err (record { line = line; fault = f }) ≡ Ok x = sym h ∙ e in absurd (let worse = bad in cc)

pub said_err : {A : Type 0} (line : ℕ) (said : Result A TreeWord) (r : Result A TreeFault) (f : TreeFault) → AtLine line said r → r ≡ Err f → (said ≡ Err f.fault) × (f.line ≡ line)
said_err line (Ok v) r f h e = let bad : Ok v ≡ Err f = sym h ∙ e in absurd (let worse = bad in cc)
said_err line (Err g) r f h e =
    let same : Err (record { line = line; fault = g }) ≡ Err f = sym h ∙ e in
    let is : record { line = line; fault = g } ≡ f = cc in
    (ap (λ (x : TreeFault). Err x.fault) is, sym (ap (λ (x : TreeFault). x.line) is))

-- what a call promised where it ended well, and where it did not
pub promised_ok : {A E : Type 0} (r : Result A E) (x : A) (P : A → Type 0) (Q : E → Type 0) → r ≡ Ok x → MatchResult r P Q → P x
promised_ok (Ok v) x P Q e h = let is : v ≡ x = cc in rw (← is) h
promised_ok (Err f) x P Q e h = absurd (let worse = e in cc)

pub promised_err : {A E : Type 0} (r : Result A E) (f : E) (P : A → Type 0) (Q : E → Type 0) → r ≡ Err f → MatchResult r P Q → Q f
promised_err (Ok v) f P Q e h = absurd (let worse = e in cc)
promised_err (Err g) f P Q e h = let is : g ≡ f = cc in rw (← is) h

-- the same of a call that may find no memory
pub reads_fails : {A B : Type 0} (r : Result A TreeFault) (fault : TreeFault) (said : Reads B) (P : A → Type 0) → IsErrAnd r (λ f. f ≡ fault) → said ≡ Err (fault.line, fault.fault) → MatchResult r P (λ f. (f.fault ≡ Memory) ⊎ (said ≡ Err (f.line, f.fault)))
reads_fails (Ok x) fault said P is h = absurd is
reads_fails (Err w) fault said P is h = rw is (inr h)
