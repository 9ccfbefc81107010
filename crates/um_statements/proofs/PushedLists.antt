-- Lists with one item more, and lists whose last item or whose items of one name are changed.
use Rattle.std.proofs.Common.{◌≡◌, ◌≢◌, ℕ, zero, suc, ◌+◌, ◌<◌, ◌≤◌, Bool, true, false, not, cond, ◌||◌, nat_eq, nat_lt, List, [], ◌∷◌, ◌++◌, map, length, get_or, filter, position, slice_get, All, AllPairs, count_by, None, Some, is_some, refl, sym, ap, ◌∙◌, subst, true≢false, arith}
use Rattle.std.specs.List.{prefix_len, range_with_len}
use Rattle.std.specs.Str.{bytes_eq}
use Rattle.std.proofs.lemmas.List.{length_push, length-map, map_push}
use Rattle.std.proofs.lemmas.List.Elements.{All-nil, All-cons, All-head, All-tail, filter-append}
use Rattle.std.proofs.lemmas.List.Quantifiers.{all_pairs_push}
use Rattle.std.proofs.lemmas.List.Sums.{length-filter}
use Rattle.std.proofs.lemmas.Bool.Decides.{nat_tests}
use Rattle.std.proofs.lemmas.Slice.Eq.{bytes_eq-Decides}
use Rattle.um_statements.specs.Statements.{Name}
use Rattle.um_statements.specs.Said.{place_in}
use Rattle.um_statements.specs.CallRules.{change_last, last_has}
use Rattle.um_statements.proofs.ListFacts.{pairs_head, pairs_tail}

-- ---- one item more

count_filter : {X : Type 0} (p : X → Bool) (xs : List X) → count_by p xs ≡ length (filter p xs)
count_filter p xs = sym (length-filter p xs)

pub count_push : {X : Type 0} (p : X → Bool) (xs : List X) (x : X) → count_by p (xs ++ x ∷ []) ≡ count_by p xs + cond (p x) 1 0
count_push p xs x = count_filter p (xs ++ x ∷ []) ∙ (ap length (filter-append p xs (x ∷ [])) ∙ (by (p x) ∙ ap (λ n. n + cond (p x) 1 0) (length-filter p xs)))
  where
    by : (b : Bool) → length (filter p xs ++ cond b (x ∷ []) []) ≡ length (filter p xs) + cond b 1 0
    by true = length_push (filter p xs) x
    by false = none (filter p xs)
      where
        none : {Y : Type 0} (ys : List Y) → length (ys ++ []) ≡ length ys + 0
        none [] = omega arith
        none (y ∷ ys) = let rest = none ys in omega (arith, rest)

pub pairs_push_map : {X Y : Type 0} (R : Y → Y → Type 0) (f : X → Y) (xs : List X) (x : X) → AllPairs R (map f xs) → All (λ y. R y (f x)) (map f xs) → AllPairs R (map f (xs ++ x ∷ []))
pairs_push_map R f xs x all one = subst (AllPairs R) (sym (map_push f xs x)) (all_pairs_push R (map f xs) (f x) all one)

-- ---- places of names

zero_less : (n : ℕ) → nat_lt 0 (suc n) ≡ true
zero_less n = grind (arith, nat_tests)

less_next : (m n : ℕ) → nat_lt (1 + m) (suc n) ≡ nat_lt m n
less_next m n = grind (arith, nat_tests)

fails_all : {X : Type 0} (p : X → Bool) (xs : List X) → nat_lt (prefix_len (λ x. not (p x)) xs) (length xs) ≡ false → All (λ x. p x ≡ false) xs
fails_all p [] h = All-nil (λ x. p x ≡ false)
fails_all {X = X} p (x ∷ xs) h = by (p x) refl h (fails_all p xs)
  where
    by : (b : Bool) → p x ≡ b → nat_lt (cond (not b) (1 + prefix_len (λ y. not (p y)) xs) 0) (length (x ∷ xs)) ≡ false → (nat_lt (prefix_len (λ y. not (p y)) xs) (length xs) ≡ false → All (λ y. p y ≡ false) xs) → All (λ y. p y ≡ false) (x ∷ xs)
    by true is h more = absurd (true≢false (sym (zero_less (length xs)) ∙ h))
    by false is h more = All-cons (λ y. p y ≡ false) x xs is (more (sym (less_next (prefix_len (λ y. not (p y)) xs) (length xs)) ∙ h))

no_place : {X : Type 0} (p : X → Bool) (xs : List X) → is_some (position p xs) ≡ false → All (λ x. p x ≡ false) xs
no_place p xs h = fails_all p xs (by (nat_lt (prefix_len (λ x. not (p x)) xs) (length xs)) (prefix_len (λ x. not (p x)) xs) h)
  where
    by : (b : Bool) (m : ℕ) → is_some (cond b (Some m) None) ≡ false → b ≡ false
    by true m h = absurd (true≢false h)
    by false m h = refl

pub other_names : (name : Name) (names : List Name) → All (λ n. bytes_eq name n ≡ false) names → All (λ n. n ≢ name) names
other_names name names h = λ k d within same. true≢false (sym ((bytes_eq-Decides name (get_or names k d)).1 (sym same)) ∙ h k d within)

pub new_name : (names : List Name) (name : Name) → is_some (place_in names name) ≡ false → All (λ n. n ≢ name) names
new_name names name h = other_names name names (no_place (bytes_eq name) names h)

-- where names are distinct, the place of a name is where it stands
place_next : {X : Type 0} (p : X → Bool) (x : X) (xs : List X) (k : ℕ) → p x ≡ false → position p xs ≡ Some k → position p (x ∷ xs) ≡ Some (suc k)
place_next p x xs k none at = rw (none, less_next (prefix_len (λ y. not (p y)) xs) (length xs)) (by (nat_lt (prefix_len (λ y. not (p y)) xs) (length xs)) (prefix_len (λ y. not (p y)) xs) at)
  where
    by : (b : Bool) (m : ℕ) → cond b (Some m) None ≡ Some k → cond b (Some (1 + m)) None ≡ Some (suc k)
    by true m at = let same : m ≡ k = cc in let next : 1 + m ≡ suc k = omega (arith, same) in ap (λ (n : ℕ). Some n) next
    by false m at = cc

place_first : {X : Type 0} (p : X → Bool) (x : X) (xs : List X) → p x ≡ true → position p (x ∷ xs) ≡ Some 0
place_first p x xs some = rw (some, zero_less (length xs)) refl

pub place_stands : (names : List Name) (name : Name) (k : ℕ) (d : Name) → AllPairs (λ (a : Name) (b : Name). a ≢ b) names → k < length names → bytes_eq name (get_or names k d) ≡ true → place_in names name ≡ Some k
place_stands [] name k d distinct within same = absurd (omega (arith, within))
place_stands (n ∷ names) name zero d distinct within same = place_first (bytes_eq name) n names same
place_stands (n ∷ names) name (suc k) d distinct within same =
    place_next (bytes_eq name) n names k (by (bytes_eq name n) refl) (place_stands names name k d (pairs_tail (λ (a : Name) (b : Name). a ≢ b) n names distinct) (omega (arith, within)) same)
  where
    by : (b : Bool) → bytes_eq name n ≡ b → b ≡ false
    by true first =
        absurd (pairs_head (λ (a : Name) (b : Name). a ≢ b) n names distinct k d (omega (arith, within)) (sym ((bytes_eq-Decides name n).0 first) ∙ (bytes_eq-Decides name (get_or names k d)).0 same))
    by false first = refl

pub got : {X : Type 0} (xs : List X) (k : ℕ) (d : X) → k < length xs → slice_get xs k ≡ Some (get_or xs k d)
got [] k d within = absurd (omega (arith, within))
got (x ∷ xs) zero d within = refl
got (x ∷ xs) (suc k) d within = got xs k d (omega (arith, within))

-- ---- changes that a test and a name don't see

pub map_kept : {X Y : Type 0} (f : X → Y) (change : X → X) → ((x : X) → f (change x) ≡ f x) → (xs : List X) → map f (map change xs) ≡ map f xs
map_kept f change same [] = refl
map_kept {Y = Y} f change same (x ∷ xs) = rw (same x) (ap (λ (ys : List Y). f x ∷ ys) (map_kept f change same xs))

prefix_kept : {X : Type 0} (p : X → Bool) (change : X → X) → ((x : X) → p (change x) ≡ p x) → (xs : List X) → prefix_len p (map change xs) ≡ prefix_len p xs
prefix_kept p change same [] = refl
prefix_kept p change same (x ∷ xs) = rw (same x) (ap (λ (n : ℕ). cond (p x) (1 + n) 0) (prefix_kept p change same xs))

pub place_kept : {X : Type 0} (p : X → Bool) (change : X → X) → ((x : X) → p (change x) ≡ p x) → (xs : List X) → position p (map change xs) ≡ position p xs
place_kept p change same xs =
    λ i. cond (nat_lt (prefix_kept (λ x. not (p x)) change (λ x. ap not (same x)) xs i) (length-map xs change i)) (Some (prefix_kept (λ x. not (p x)) change (λ x. ap not (same x)) xs i)) None

filter_kept : {X : Type 0} (p : X → Bool) (change : X → X) → ((x : X) → p (change x) ≡ p x) → (xs : List X) → length (filter p (map change xs)) ≡ length (filter p xs)
filter_kept p change same [] = refl
filter_kept {X = X} p change same (x ∷ xs) = rw (same x) (by (p x) (filter_kept p change same xs))
  where
    by : (b : Bool) → length (filter p (map change xs)) ≡ length (filter p xs) → length (cond b (change x ∷ filter p (map change xs)) (filter p (map change xs))) ≡ length (cond b (x ∷ filter p xs) (filter p xs))
    by true more = ap suc more
    by false more = more

pub count_kept : {X : Type 0} (p : X → Bool) (change : X → X) → ((x : X) → p (change x) ≡ p x) → (xs : List X) → count_by p (map change xs) ≡ count_by p xs
count_kept p change same xs = count_filter p (map change xs) ∙ (filter_kept p change same xs ∙ length-filter p xs)

-- ---- the last item

pub length_last : {X : Type 0} (change : X → X) (xs : List X) → length (change_last change xs) ≡ length xs
length_last change [] = refl
length_last change (x ∷ []) = refl
length_last change (x ∷ (y ∷ ys)) = ap suc (length_last change (y ∷ ys))

pub map_last_kept : {X Y : Type 0} (f : X → Y) (change : X → X) → ((x : X) → f (change x) ≡ f x) → (xs : List X) → map f (change_last change xs) ≡ map f xs
map_last_kept f change same [] = refl
map_last_kept f change same (x ∷ []) = rw (same x) refl
map_last_kept {Y = Y} f change same (x ∷ (y ∷ ys)) = ap (λ (zs : List Y). f x ∷ zs) (map_last_kept f change same (y ∷ ys))

pub all_last : {X : Type 0} (P : X → Type 0) (test : X → Bool) (change : X → X) → ((x : X) → test x ≡ false → P x → P (change x)) → (xs : List X) → last_has test xs ≡ false → All P xs → All P (change_last change xs)
all_last P test change kept [] none all = all
all_last P test change kept (x ∷ []) none all = All-cons P (change x) [] (kept x none (All-head P x [] all)) (All-nil P)
all_last P test change kept (x ∷ (y ∷ ys)) none all = All-cons P x (change_last change (y ∷ ys)) (All-head P x (y ∷ ys) all) (all_last P test change kept (y ∷ ys) none (All-tail P x (y ∷ ys) all))

-- ---- ranges

pub range_push : (a n : ℕ) → range_with_len a (suc n) ≡ range_with_len a n ++ (a + n) ∷ []
range_push a zero = let same : a ≡ a + 0 = omega arith in ap (λ (k : ℕ). k ∷ []) same
range_push a (suc n) =
    let same : (a + 1) + n ≡ a + suc n = omega arith in
    ap (λ (ks : List ℕ). a ∷ ks) (range_push (a + 1) n ∙ ap (λ (k : ℕ). range_with_len (a + 1) n ++ k ∷ []) same)

-- one number more that passes
same_beyond : (q : ℕ → Bool) (j a n : ℕ) → j < a → length (filter (λ k. q k || nat_eq j k) (range_with_len a n)) ≡ length (filter q (range_with_len a n))
same_beyond q j a zero below = refl
same_beyond q j a (suc n) below =
    let apart : nat_eq j a ≡ false = grind (arith, nat_tests) in
    rw apart (by (q a) (same_beyond q j (a + 1) n (omega (arith, below))))
  where
    by : (b : Bool) → length (filter (λ k. q k || nat_eq j k) (range_with_len (a + 1) n)) ≡ length (filter q (range_with_len (a + 1) n))
        → length (cond (b || false) (a ∷ filter (λ k. q k || nat_eq j k) (range_with_len (a + 1) n)) (filter (λ k. q k || nat_eq j k) (range_with_len (a + 1) n))) ≡ length (cond b (a ∷ filter q (range_with_len (a + 1) n)) (filter q (range_with_len (a + 1) n)))
    by true more = ap suc more
    by false more = more

one_more_passes : (q : ℕ → Bool) (j a n : ℕ) → a ≤ j → j < a + n → q j ≡ false → length (filter (λ k. q k || nat_eq j k) (range_with_len a n)) ≡ length (filter q (range_with_len a n)) + 1
one_more_passes q j a zero low high none = absurd (omega (arith, low, high))
one_more_passes q j a (suc n) low high none = by (q a) refl (nat_eq j a) refl (λ apart. let above = beyond apart in one_more_passes q j (a + 1) n above (omega (arith, high)) none)
  where
    beyond : nat_eq j a ≡ false → a + 1 ≤ j
    beyond h = grind (arith, nat_tests)

    below : nat_eq j a ≡ true → j < a + 1
    below h = grind (arith, nat_tests)

    here : nat_eq j a ≡ true → j ≡ a
    here h = grind (arith, nat_tests)

    longer : (m n : ℕ) → m ≡ n + 1 → suc m ≡ suc n + 1
    longer m n e = omega (arith, e)

    next : (m n : ℕ) → m ≡ n → suc m ≡ n + 1
    next m n e = omega (arith, e)

    by : (b : Bool) → q a ≡ b → (c : Bool) → nat_eq j a ≡ c → (nat_eq j a ≡ false → length (filter (λ k. q k || nat_eq j k) (range_with_len (a + 1) n)) ≡ length (filter q (range_with_len (a + 1) n)) + 1)
        → length (cond (b || c) (a ∷ filter (λ k. q k || nat_eq j k) (range_with_len (a + 1) n)) (filter (λ k. q k || nat_eq j k) (range_with_len (a + 1) n))) ≡ length (cond b (a ∷ filter q (range_with_len (a + 1) n)) (filter q (range_with_len (a + 1) n))) + 1
    by true is true same more = absurd (true≢false (sym is ∙ (ap q (sym (here same)) ∙ none)))
    by true is false apart more = longer _ _ (more apart)
    by false is true same more = next _ _ (same_beyond q j (a + 1) n (below same))
    by false is false apart more = more apart

-- one number more of the range passes
pub count_one_more : (q : ℕ → Bool) (j n : ℕ) → j < n → q j ≡ false → count_by (λ k. q k || nat_eq j k) (range_with_len 0 n) ≡ count_by q (range_with_len 0 n) + 1
count_one_more q j n within none =
    let more = one_more_passes q j 0 n (omega arith) (omega (arith, within)) none in
    let first = length-filter (λ k. q k || nat_eq j k) (range_with_len 0 n) in
    let second = length-filter q (range_with_len 0 n) in
    omega (arith, more, first, second)
