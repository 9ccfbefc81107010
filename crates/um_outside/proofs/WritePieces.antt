-- Pieces that a desk takes one after another.
use Rattle.std.proofs.Common.{◌≡◌, ℕ, ◌+◌, List, [], ◌∷◌, take, drop, Option, Some, None, option_map, IfSome, IsSomeAnd, arith, ap, ◌∙◌, subst}
use Rattle.std.proofs.Math.Seq.{take-add}
use Rattle.um_outside.specs.Scenes.{Scene, Files, Mode, Writing, to_create}
use Rattle.um_outside.specs.Desks.{Created, FileTook, WentWell, ChangesOnly, ChangesWritten, ClosedWell, Asks}
use Rattle.um_outside.proofs.Pieces.{set_then_added, is_some_of}

-- The file of this name is open, and these bytes of it were put.
pub record WrittenSoFar (name bytes : List ℕ) (s t : Scene) : Type 0 where
  pub well : WentWell s t
  pub mode : t.mode ≡ Writing (option_map (λ _. name) s.holds)
  pub given : t.given ≡ s.given
  pub put : t.put ≡ option_map (λ _. bytes) s.put
  pub holds : ChangesOnly name s.holds t.holds
  pub asked : Asks (to_create name ∷ []) s.asked t.asked

pub written_none : (name : List ℕ) (s t : Scene) → Created name s t → WrittenSoFar name [] s t
written_none name s t a = record { well = a.well; mode = a.mode; given = a.given; put = a.put; holds = a.holds; asked = a.asked }

changes_more : (name : List ℕ) (before between after : Option Files) → ChangesOnly name before between → ChangesWritten (Writing (option_map (λ _. name) before)) between after → ChangesOnly name before after
changes_more name None between after a b = b ∙ a
changes_more name (Some files) None after a b = absurd a
changes_more name (Some files) (Some files') None a b = absurd b
changes_more name (Some files) (Some files') (Some files'') a b = λ other differs. b other differs ∙ a other differs

-- the files after one more change of the file that is written
pub changes_on : (name bytes : List ℕ) (s t : Scene) (after : Option Files) → WrittenSoFar name bytes s t → ChangesWritten t.mode t.holds after → ChangesOnly name s.holds after
changes_on name bytes s t after a b =
    changes_more name s.holds t.holds after a.holds (subst (λ (m : Mode). ChangesWritten m t.holds after) a.mode b)

pub written_more : (name bytes : List ℕ) (at n : ℕ) (s t u : Scene) → WrittenSoFar name (take at bytes) s t → FileTook (take n (drop at bytes)) t u → WrittenSoFar name (take (at + n) bytes) s u
written_more name bytes at n s t u a b = record {
  well = record { faults = omega (arith, a.well.faults, b.well.faults); stopped = b.well.stopped ∙ a.well.stopped };
  mode = b.mode ∙ a.mode;
  given = b.given ∙ a.given;
  put = rw (take-add at n bytes) (set_then_added s.put t.put u.put (take at bytes) (take n (drop at bytes)) a.put b.put);
  holds = changes_on name (take at bytes) s t u.holds a b.holds;
  asked = rw b.asked a.asked;
}

of_the_file : (name bytes : List ℕ) (p0 p : Option (List ℕ)) (h0 h : Option Files) (mode : Mode) → mode ≡ Writing (option_map (λ _. name) h0) → p ≡ option_map (λ _. bytes) p0 → ChangesOnly name h0 h → IfSome p (λ put. IfSome h (λ files. (name : List ℕ) → mode ≡ Writing (Some name) → IsSomeAnd (files name) (λ file. file ≡ put))) → IfSome p (λ _. IfSome h (λ files. files name ≡ Some bytes))
of_the_file name bytes p0 None h0 h mode m e f k = tt
of_the_file name bytes None (Some x) h0 h mode m e f k = absurd (cc)
of_the_file name bytes (Some y) (Some x) h0 None mode m e f k = tt
of_the_file name bytes (Some y) (Some x) None (Some files) mode m e f k = absurd (cc)
of_the_file name bytes (Some y) (Some x) (Some before) (Some files) mode m e f k =
    let same : x ≡ bytes = cc in
    is_some_of (files name) x (k name m) ∙ ap Some same

-- after the close the file holds what was put
pub written_whole : (name bytes : List ℕ) (s t u : Scene) → WrittenSoFar name bytes s t → ClosedWell t u → IfSome u.put (λ _. IfSome u.holds (λ files. files name ≡ Some bytes))
written_whole name bytes s t u a b =
    of_the_file name bytes s.put u.put s.holds u.holds t.mode a.mode (b.closed.put ∙ a.put) (changes_on name bytes s t u.holds a b.closed.holds) b.whole
