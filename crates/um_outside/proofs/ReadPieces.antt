-- Pieces that a desk gives one after another.
use Rattle.std.proofs.Common.{◌≡◌, ℕ, ◌<◌, ◌≤◌, List, [], ◌∷◌, ◌++◌, take, length, length-append, length-take, Option, Some, None, option_map, IfSome, IsSomeAnd, arith, ap, sym, ◌∙◌, append-nil, refl, subst}
use Rattle.um_outside.specs.Scenes.{Scene, Files, Mode, Reading, to_open}
use Rattle.um_outside.specs.Desks.{Opened, Gave, WentWell, IsFront, Asks}
use Rattle.um_outside.proofs.Pieces.{set_then_added}

-- The file of this name is open, and these bytes of it were given.
pub record ReadSoFar (name bytes : List ℕ) (s t : Scene) : Type 0 where
  pub well : WentWell s t
  pub mode : t.mode ≡ Reading (option_map (λ _. name) s.holds)
  pub given : t.given ≡ option_map (λ _. bytes) s.given
  pub put : t.put ≡ s.put
  pub holds : t.holds ≡ s.holds
  pub asked : Asks (to_open name ∷ []) s.asked t.asked

pub read_none : (name : List ℕ) (s t : Scene) → Opened name s t → ReadSoFar name [] s t
read_none name s t a = record { well = a.well; mode = a.mode; given = a.given; put = a.put; holds = a.holds; asked = a.asked }

pub read_more : (name bytes more : List ℕ) (s t u : Scene) → ReadSoFar name bytes s t → Gave more t u → ReadSoFar name (bytes ++ more) s u
read_more name bytes more s t u a b = record {
  well = record { faults = omega (arith, a.well.faults, b.well.faults); stopped = b.well.stopped ∙ a.well.stopped };
  mode = b.mode ∙ a.mode;
  given = set_then_added s.given t.given u.given bytes more a.given b.given;
  put = b.put ∙ a.put;
  holds = b.holds ∙ a.holds;
  asked = rw b.asked a.asked;
}

-- what is known of the bytes given and the open file, at the file of this name
of_the_file : (name bytes : List ℕ) (g0 g : Option (List ℕ)) (h0 h : Option Files) (mode : Mode) (R : List ℕ → List ℕ → Type 0) → mode ≡ Reading (option_map (λ _. name) h0) → g ≡ option_map (λ _. bytes) g0 → h ≡ h0 → IfSome g (λ given. IfSome h (λ files. (name : List ℕ) → mode ≡ Reading (Some name) → IsSomeAnd (files name) (R given))) → IfSome g0 (λ _. IfSome h0 (λ files. IsSomeAnd (files name) (R bytes)))
of_the_file name bytes None g h0 h mode R m e f k = tt
of_the_file name bytes (Some x) None h0 h mode R m e f k = absurd (cc)
of_the_file name bytes (Some x) (Some y) None h mode R m e f k = tt
of_the_file name bytes (Some x) (Some y) (Some files) None mode R m e f k = absurd (cc)
of_the_file name bytes (Some x) (Some y) (Some files) (Some files') mode R m e f k =
    let same : y ≡ bytes = cc in
    let same_files : files' ≡ files = cc in
    let at : IsSomeAnd (files' name) (R y) = k name m in
    subst (λ (v : List ℕ). IsSomeAnd (files name) (R v)) same (subst (λ (v : Files). IsSomeAnd (v name) (R y)) same_files at)

some_of : (o : Option (List ℕ)) (xs : List ℕ) → IsSomeAnd o (λ x. xs ≡ x) → o ≡ Some xs
some_of None xs h = absurd h
some_of (Some x) xs h = ap Some (sym h)

whole_of : (name bytes : List ℕ) (g0 : Option (List ℕ)) (h0 : Option Files) → IfSome g0 (λ _. IfSome h0 (λ files. IsSomeAnd (files name) (λ file. bytes ≡ file))) → IfSome g0 (λ _. IfSome h0 (λ files. files name ≡ Some bytes))
whole_of name bytes None h0 k = tt
whole_of name bytes (Some x) None k = tt
whole_of name bytes (Some x) (Some files) k = some_of (files name) bytes k

-- at the end, the bytes given are the file
pub read_whole : (name bytes : List ℕ) (s t u : Scene) → ReadSoFar name bytes s t → Gave [] t u → IfSome s.given (λ _. IfSome s.holds (λ files. files name ≡ Some bytes))
read_whole name bytes s t u a b =
    let c = read_more name bytes [] s t u a b in
    let same : u.given ≡ option_map (λ _. bytes) s.given = rw (append-nil bytes) at c.given in
    whole_of name bytes s.given s.holds (of_the_file name bytes s.given u.given s.holds u.holds u.mode (λ g f. g ≡ f) c.mode same c.holds (b.end refl))

longer_of : (most : ℕ) (bytes : List ℕ) (o : Option (List ℕ)) → most < length bytes → IsSomeAnd o (λ file. IsFront bytes file) → IsSomeAnd o (λ file. most < length file)
longer_of most bytes None h k = absurd k
longer_of most bytes (Some file) h k = omega (arith, h, ap length k, length-take (length bytes) file)

longer_told : (name bytes : List ℕ) (most : ℕ) (g0 : Option (List ℕ)) (h0 : Option Files) → most < length bytes → IfSome g0 (λ _. IfSome h0 (λ files. IsSomeAnd (files name) (λ file. IsFront bytes file))) → IfSome g0 (λ _. IfSome h0 (λ files. IsSomeAnd (files name) (λ file. most < length file)))
longer_told name bytes most None h0 h k = tt
longer_told name bytes most (Some x) None h k = tt
longer_told name bytes most (Some x) (Some files) h k = longer_of most bytes (files name) h k

-- more bytes were given than asked for, so the file has more
pub read_longer : (name bytes more : List ℕ) (most : ℕ) (s t u : Scene) → ReadSoFar name bytes s t → Gave more t u → most < length (bytes ++ more) → IfSome s.given (λ _. IfSome s.holds (λ files. IsSomeAnd (files name) (λ file. most < length file)))
read_longer name bytes more most s t u a b h =
    let c = read_more name bytes more s t u a b in
    longer_told name (bytes ++ more) most s.given s.holds h (of_the_file name (bytes ++ more) s.given u.given s.holds u.holds u.mode (λ g f. IsFront g f) c.mode c.given c.holds b.front)

-- the length of the bytes given, where they are told
pub given_longer : (bytes : List ℕ) (most : ℕ) (g0 g : Option (List ℕ)) → g ≡ option_map (λ _. bytes) g0 → most < length bytes → IfSome g (λ given. most < length given)
given_longer bytes most g0 None e h = tt
given_longer bytes most None (Some x) e h = absurd (cc)
given_longer bytes most (Some y) (Some x) e h = let same : x ≡ bytes = cc in rw same h

pub given_within : (bytes : List ℕ) (most : ℕ) (g0 g : Option (List ℕ)) → g ≡ option_map (λ _. bytes) g0 → length bytes ≤ most → IfSome g (λ given. length given ≤ most)
given_within bytes most g0 None e h = tt
given_within bytes most None (Some x) e h = absurd (cc)
given_within bytes most (Some y) (Some x) e h = let same : x ≡ bytes = cc in rw same h

-- at the end of the file no more was given, and closing it gives none
pub given_at_end : (name bytes into : List ℕ) (n most : ℕ) (s t u v : Scene) → ReadSoFar name bytes s t → Gave (take n into) t u → n ≡ 0 → v.given ≡ u.given → length bytes ≤ most → IfSome v.given (λ given. length given ≤ most)
given_at_end name bytes into n most s t u v a b none e h =
    let c = read_more name bytes (take n into) s t u a b in
    given_within (bytes ++ take n into) most s.given v.given (e ∙ c.given) (omega (arith, h, none, length-append bytes (take n into), length-take n into))
