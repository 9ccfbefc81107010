-- What words from left to right say, step by step.
use Rattle.std.proofs.Common.{◌≡◌, ℕ, ◌<◌, List, [], ◌∷◌, length, drop, true, false, Option, Some, None, Result, Ok, Err, IfOk, IfErr, IsErrAnd, MatchResult, refl, sym, ap, ◌∙◌, inl, inr, ◌⊎◌}
use Rattle.std.specs.Borrow.{Bor}
use Rattle.std.specs.Str.{bytes_eq}
use Rattle.um_treetext.specs.declared.fault.TreeWord.{TreeWord}
use Rattle.um_treetext.specs.declared.fault.TreeWord.TheVariants.{BadWord}
use Rattle.um_treetext.specs.Words.{Words, Says, Taken, next_word, fixed, is_next, taking, ended, over}
use Rattle.um_treetext.specs.Calls.{Takes}
use Rattle.um_treetext.proofs.LineCuts.{next_some, next_empty}

-- a word is the piece where it has a byte
pub word_given : (r : Result (Bor (List ℕ)) TreeWord) (ws : Words) (piece : List ℕ) (left : Words) → ws ≡ piece ∷ left → IfOk r (λ w. w.now ≡ piece) → IfOk r (λ w. 0 < length w.now) → IfErr r (λ f. (f ≡ BadWord) × (piece ≡ []))
    → MatchResult r (λ w. next_word ws ≡ Ok (record { value = w.now; left = left })) (λ f. next_word ws ≡ Err f)
word_given (Ok w) ws piece left e same some err = next_some ws w.now left (e ∙ ap (λ p. p ∷ left) (sym same)) some
word_given (Err f) ws piece left e same some err = rw err.0 (next_empty ws piece left e err.1)

-- a call that hands on a fault
pub fails : {A B : Type 0} (r : Result A TreeWord) (fault : TreeWord) (said : Says B) (P : A → Type 0) → IsErrAnd r (λ w. w ≡ fault) → said ≡ Err fault → MatchResult r P (λ f. said ≡ Err f)
fails (Ok x) fault said P is h = absurd is
fails (Err w) fault said P is h = rw is h

pub fails_with : {A : Type 0} (r : Result A TreeWord) (fault : TreeWord) (said : Says A) → IsErrAnd r (λ w. w ≡ fault) → said ≡ Err fault → r ≡ said
fails_with (Ok x) fault said is h = absurd is
fails_with (Err w) fault said is h = rw is (sym h)

-- a call that gives what the next word says
pub takes_next : {A : Type 0} (r : Result A TreeWord) (says : List ℕ → Says A) (ws : Words) (word : List ℕ) (left : Words) → next_word ws ≡ Ok (record { value = word; left = left }) → r ≡ says word → Takes (taking says ws) r left
unfolding taking
takes_next (Ok x) says ws word left e is = rw (e, ← is) refl
takes_next (Err f) says ws word left e is = rw (e, ← is) refl

-- the end of a line gives the value of what stands before it
pub over_end : {A B : Type 0} (r : Result A TreeWord) (value : B) (ws : Words) (said : Says B) → MatchResult r (λ u. ended ws ≡ Ok []) (λ f. ended ws ≡ Err f) → said ≡ over value ws → MatchResult r (λ u. said ≡ Ok value) (λ f. said ≡ Err f)
over_end (Ok u) value ws said e is = is ∙ rw e refl
over_end (Err f) value ws said e is = is ∙ rw e refl
