-- One place more, as a loop over a list with its places takes it.
use Rattle.std.proofs.Common.{◌≡◌, ℕ, ◌+◌, ◌<◌, zero, suc, ℤ, pos, ◌+ℤ◌, ◌*ℤ◌, Bool, true, false, List, [], ◌∷◌, length, take, find, slice_index_or, Some, None, refl, arith, add-one}
use Rattle.std.specs.List.{enumerate_from}
use Rattle.std.proofs.lemmas.Int.{ints}
use Rattle.um_laws.specs.Sums.{sum_of, dot}
use Rattle.um_model.specs.Values.{DeckValue, ColumnValue}
use Rattle.um_model.specs.Feasible.{part}
use Rattle.um_model.specs.Boxes.{ends_at, root, free}
use Rattle.um_laws.proofs.Places.{at_map}
use Rattle.um_soundness.proofs.Duality.{none_found}

-- ---- the first items of a list, with their places
sum_from : {X : Type 0} (f : ℕ × X → ℤ) (from : ℕ) (xs : List X) (i at : ℕ) (default : X) → at ≡ from + i → i < length xs
    → sum_of f (enumerate_from from (take (suc i) xs)) ≡ sum_of f (enumerate_from from (take i xs)) +ℤ f (at, slice_index_or xs i default)
sum_from f from [] i at default e h = absurd (omega arith)
sum_from f from (x ∷ xs) zero at default e h = let g : at ≡ from = omega arith in rw g (swap_zero (f (from, x)))
  where
    swap_zero : (z : ℤ) → z +ℤ pos 0 ≡ pos 0 +ℤ z
    swap_zero z = omega (arith, ints)
sum_from f from (x ∷ xs) (suc i) at default e h = let rest = sum_from f (from + 1) xs i at default (omega arith) (omega arith) in rw rest (regroup (f (from, x)) _ _)
  where
    regroup : (a b c : ℤ) → a +ℤ (b +ℤ c) ≡ a +ℤ b +ℤ c
    regroup a b c = omega (arith, ints)

-- a sum over the first i + 1 items with their places
pub numbered_sum_more : {X : Type 0} (f : ℕ × X → ℤ) (xs : List X) (i : ℕ) (default : X) → i < length xs
    → sum_of f (enumerate_from 0 (take (i + 1) xs)) ≡ sum_of f (enumerate_from 0 (take i xs)) +ℤ f (i, slice_index_or xs i default)
numbered_sum_more f xs i default h = rw add-one (sum_from f 0 xs i i default (omega arith) h)

-- the first item that passes
find_from : {X : Type 0} (test : ℕ × X → Bool) (from : ℕ) (xs : List X) (i at : ℕ) (default : X) → at ≡ from + i → i < length xs → find test (enumerate_from from (take i xs)) ≡ None → test (at, slice_index_or xs i default) ≡ true
    → find test (enumerate_from from xs) ≡ Some (at, slice_index_or xs i default)
find_from test from [] i at default g h n e = absurd (omega arith)
find_from test from (x ∷ xs) zero at default g h n e = let k : from ≡ at = omega arith in rw k (rw e refl)
find_from test from (x ∷ xs) (suc i) at default g h n e =
    let m = none_found test (from, x) (enumerate_from (from + 1) (take i xs)) n in
    rw m.0 (find_from test (from + 1) xs i at default (omega arith) (omega arith) m.1 e)

pub numbered_find : {X : Type 0} (test : ℕ × X → Bool) (xs : List X) (i : ℕ) (default : X) → i < length xs → find test (enumerate_from 0 (take i xs)) ≡ None → test (i, slice_index_or xs i default) ≡ true
    → find test (enumerate_from 0 xs) ≡ Some (i, slice_index_or xs i default)
numbered_find test xs i default h n e = find_from test 0 xs i i default (omega arith) h n e

-- none so far, and not this one
find_none_from : {X : Type 0} (test : ℕ × X → Bool) (from : ℕ) (xs : List X) (i at : ℕ) (default : X) → at ≡ from + i → i < length xs → find test (enumerate_from from (take i xs)) ≡ None → test (at, slice_index_or xs i default) ≡ false
    → find test (enumerate_from from (take (suc i) xs)) ≡ None
find_none_from test from [] i at default g h n e = absurd (omega arith)
find_none_from test from (x ∷ xs) zero at default g h n e = let k : from ≡ at = omega arith in rw k (rw e refl)
find_none_from test from (x ∷ xs) (suc i) at default g h n e =
    let m = none_found test (from, x) (enumerate_from (from + 1) (take i xs)) n in
    rw m.0 (find_none_from test (from + 1) xs i at default (omega arith) (omega arith) m.1 e)

pub numbered_find_none : {X : Type 0} (test : ℕ × X → Bool) (xs : List X) (i : ℕ) (default : X) → i < length xs → find test (enumerate_from 0 (take i xs)) ≡ None → test (i, slice_index_or xs i default) ≡ false
    → find test (enumerate_from 0 (take (i + 1) xs)) ≡ None
numbered_find_none test xs i default h n e = rw add-one (find_none_from test 0 xs i i default (omega arith) h n e)

-- a sum of parts over the first i + 1 items
dot_from : {A : Type 0} (f : A → ℤ) (xs : List A) (ps : List ℤ) (i : ℕ) (default : A) → i < length xs → dot f (take (suc i) xs) ps ≡ dot f (take i xs) ps +ℤ f (slice_index_or xs i default) *ℤ part ps i
dot_from f [] ps i default h = absurd (omega arith)
dot_from f (x ∷ xs) [] zero default h = omega (arith, ints)
dot_from f (x ∷ xs) [] (suc i) default h = omega (arith, ints)
dot_from f (x ∷ xs) (p ∷ ps) zero default h = omega (arith, ints)
dot_from f (x ∷ xs) (p ∷ ps) (suc i) default h = let rest = dot_from f xs ps i default (omega arith) in omega (arith, ints, rest)

pub dot_more : {A : Type 0} (f : A → ℤ) (xs : List A) (ps : List ℤ) (i : ℕ) (default : A) → i < length xs → dot f (take (i + 1) xs) ps ≡ dot f (take i xs) ps +ℤ f (slice_index_or xs i default) *ℤ part ps i
dot_more f xs ps i default h = rw add-one (dot_from f xs ps i default h)

-- the root box has the columns' own ends
pub root_ends : (d : DeckValue) (column : ℕ) (default : ColumnValue) → column < length d.columns
    → ends_at (root d) column ≡ record { low = (slice_index_or d.columns column default).low; high = (slice_index_or d.columns column default).high }
root_ends d column default h = at_map (λ (c : ColumnValue). record { low = c.low; high = c.high }) d.columns column default free h
