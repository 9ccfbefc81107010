-- Statements whose names are all known, and what more names leave.
use Rattle.std.proofs.Common.{◌≡◌, ℕ, ◌<◌, ◌+◌, Bool, true, false, not, cond, ◌&&◌, nat_lt, List, [], ◌∷◌, ◌++◌, length, position, Option, None, Some, is_some, refl, sym, ap, ◌∙◌, true≢false, arith}
use Rattle.std.specs.List.{list_all, filter_map, prefix_len}
use Rattle.std.specs.Option.{option_map_or}
use Rattle.std.specs.Str.{bytes_eq}
use Rattle.std.proofs.lemmas.Bool.Decides.{nat_tests}
use Rattle.std.proofs.lemmas.Slice.Eq.{bytes_eq-Decides}
use Rattle.std.proofs.lemmas.List.Folds.{list_all-append}
use Rattle.um_statements.specs.Statements.{Name, Statement, EntryTold, Side, Range, Bound, Set, MemberTold, ArcTold}
use Rattle.um_statements.specs.Said.{place_in, side_of, range_of, bound_on, entry_of, member_of, set_head, arc_of}
use Rattle.um_statements.proofs.Grouped.{and_true, silent}

-- ---- places

prefix_more : {X : Type 0} (p : X → Bool) (xs ys : List X) → prefix_len p xs < length xs → prefix_len p (xs ++ ys) ≡ prefix_len p xs
prefix_more p [] ys within = absurd (omega (arith, within))
prefix_more p (x ∷ xs) ys within = by (p x) within (prefix_more p xs ys)
  where
    by : (b : Bool) → cond b (1 + prefix_len p xs) 0 < length (x ∷ xs) → (prefix_len p xs < length xs → prefix_len p (xs ++ ys) ≡ prefix_len p xs)
        → cond b (1 + prefix_len p (xs ++ ys)) 0 ≡ cond b (1 + prefix_len p xs) 0
    by true within more = ap (λ n. 1 + n) (more (omega (arith, within)))
    by false within more = refl

some_within : {X : Type 0} (b : Bool) (x : X) → is_some (cond b (Some x) None) ≡ true → b ≡ true
some_within true x some = refl
some_within false x some = absurd (true≢false (sym some))

pub position_more : {X : Type 0} (p : X → Bool) (xs ys : List X) → is_some (position p xs) ≡ true → position p (xs ++ ys) ≡ position p xs
position_more p xs ys some =
    let n : ℕ = prefix_len (λ x. not (p x)) xs in
    let test : nat_lt n (length xs) ≡ true = some_within (nat_lt n (length xs)) n some in
    let within : n < length xs = grind (arith, nat_tests, test) in
    let same = prefix_more (λ x. not (p x)) xs ys within in
    let more : nat_lt n (length (xs ++ ys)) ≡ true = still n (length xs) (length (xs ++ ys)) (length ys) within (longer xs ys) in
    rw (same, more, test) refl
  where
    longer : {X : Type 0} (xs ys : List X) → length (xs ++ ys) ≡ length xs + length ys
    longer [] ys = omega arith
    longer (x ∷ xs) ys = let rest = longer xs ys in omega (arith, rest)

    still : (n a b c : ℕ) → n < a → b ≡ a + c → nat_lt n b ≡ true
    still n a b c within e = let inside : n < b = omega (arith, within, e) in grind (arith, nat_tests, inside)

abbrev pub has_name : List Name → Name → Bool
has_name names name = is_some (place_in names name)

pub place_more : (names more : List Name) (name : Name) → has_name names name ≡ true → place_in (names ++ more) name ≡ place_in names name
place_more names more name some = position_more (bytes_eq name) names more some

pub name_stays : (names more : List Name) (name : Name) → has_name names name ≡ true → has_name (names ++ more) name ≡ true
name_stays names more name some = ap is_some (place_more names more name some) ∙ some

-- a name that is known is another than one that isn't
other_name : (names : List Name) (known new : Name) → has_name names known ≡ true → has_name names new ≡ false → bytes_eq known new ≡ false
other_name names known new some none = by (bytes_eq known new) refl
  where
    by : (b : Bool) → bytes_eq known new ≡ b → b ≡ false
    by true same = absurd (true≢false (sym some ∙ (ap (has_name names) ((bytes_eq-Decides known new).0 same) ∙ none)))
    by false same = refl

-- ---- statements

-- each name that it speaks of is there
abbrev pub is_known : List Name → List Name → Statement → Bool
is_known rows columns (EntryTold row value) = has_name rows row
is_known rows columns (Side row value) = has_name rows row
is_known rows columns (Range row value) = has_name rows row
is_known rows columns (Bound kind column value) = has_name columns column
is_known rows columns (Set kind name reference) = option_map_or (has_name rows) reference true
is_known rows columns (MemberTold column weight) = has_name columns column
is_known rows columns (ArcTold row column value) = has_name rows row && has_name columns column
is_known rows columns other = true

both_true : (a b : Bool) → a ≡ true → b ≡ true → (a && b) ≡ true
both_true a b x y = rw (x, y) refl

set_stays : (rows more : List Name) (reference : Option Name) → option_map_or (has_name rows) reference true ≡ true → option_map_or (has_name (rows ++ more)) reference true ≡ true
set_stays rows more None h = refl
set_stays rows more (Some row) h = name_stays rows more row h

stays_known : (rows columns more more2 : List Name) (s : Statement) → is_known rows columns s ≡ true → is_known (rows ++ more) (columns ++ more2) s ≡ true
stays_known rows columns more more2 (EntryTold row value) h = name_stays rows more row h
stays_known rows columns more more2 (Side row value) h = name_stays rows more row h
stays_known rows columns more more2 (Range row value) h = name_stays rows more row h
stays_known rows columns more more2 (Bound kind column value) h = name_stays columns more2 column h
stays_known rows columns more more2 (Set kind name reference) h = set_stays rows more reference h
stays_known rows columns more more2 (MemberTold column weight) h = name_stays columns more2 column h
stays_known rows columns more more2 (ArcTold row column value) h =
    let both = and_true (has_name rows row) (has_name columns column) h in
    both_true _ _ (name_stays rows more row both.0) (name_stays columns more2 column both.1)
stays_known rows columns more more2 other h = refl

all_stay : (rows columns more more2 : List Name) (told : List Statement) → list_all (is_known rows columns) told ≡ true → list_all (is_known (rows ++ more) (columns ++ more2)) told ≡ true
all_stay rows columns more more2 [] h = refl
all_stay rows columns more more2 (s ∷ told) h =
    let both = and_true (is_known rows columns s) (list_all (is_known rows columns) told) h in
    both_true _ _ (stays_known rows columns more more2 s both.0) (all_stay rows columns more more2 told both.1)

pub known_push : (rows columns more more2 : List Name) (told : List Statement) (s : Statement) → list_all (is_known rows columns) told ≡ true → is_known (rows ++ more) (columns ++ more2) s ≡ true
    → list_all (is_known (rows ++ more) (columns ++ more2)) (told ++ s ∷ []) ≡ true
known_push rows columns more more2 told s all one =
    list_all-append (is_known (rows ++ more) (columns ++ more2)) told (s ∷ [])
    ∙ both_true _ _ (all_stay rows columns more more2 told all) (both_true _ _ one refl)

-- ---- a new name

module _ (rows columns : List Name) (new : Name) where
  pub no_side : has_name rows new ≡ false → (told : List Statement) → list_all (is_known rows columns) told ≡ true → filter_map (side_of new) told ≡ []
  no_side none told all = silent (side_of new) (is_known rows columns) one told all
    where
      one : (s : Statement) → is_known rows columns s ≡ true → side_of new s ≡ None
      one (Side row value) known = rw (other_name rows row new known none) refl
      one other known = refl

  pub no_range : has_name rows new ≡ false → (told : List Statement) → list_all (is_known rows columns) told ≡ true → filter_map (range_of new) told ≡ []
  no_range none told all = silent (range_of new) (is_known rows columns) one told all
    where
      one : (s : Statement) → is_known rows columns s ≡ true → range_of new s ≡ None
      one (Range row value) known = rw (other_name rows row new known none) refl
      one other known = refl

  pub no_bound : has_name columns new ≡ false → (told : List Statement) → list_all (is_known rows columns) told ≡ true → filter_map (bound_on new) told ≡ []
  no_bound none told all = silent (bound_on new) (is_known rows columns) one told all
    where
      one : (s : Statement) → is_known rows columns s ≡ true → bound_on new s ≡ None
      one (Bound kind column value) known = rw (other_name columns column new known none) refl
      one other known = refl

-- ---- statements of known names say the same behind more names

module _ (rows columns more : List Name) where
  pub entry_same : (s : Statement) → is_known rows columns s ≡ true → entry_of (rows ++ more) s ≡ entry_of rows s
  entry_same (EntryTold row value) known = rw (place_more rows more row known) refl
  entry_same other known = refl

  pub member_same : (s : Statement) → is_known rows columns s ≡ true → member_of (columns ++ more) s ≡ member_of columns s
  member_same (MemberTold column weight) known = rw (place_more columns more column known) refl
  member_same other known = refl

  pub set_same : (s : Statement) → is_known rows columns s ≡ true → set_head (rows ++ more) s ≡ set_head rows s
  set_same (Set kind name None) known = refl
  set_same (Set kind name (Some row)) known = rw (place_more rows more row known) refl
  set_same other known = refl

  pub arc_same_row : (s : Statement) → is_known rows columns s ≡ true → arc_of (rows ++ more) columns s ≡ arc_of rows columns s
  arc_same_row (ArcTold row column value) known = rw (place_more rows more row (and_true (has_name rows row) (has_name columns column) known).0) refl
  arc_same_row other known = refl

  pub arc_same_column : (s : Statement) → is_known rows columns s ≡ true → arc_of rows (columns ++ more) s ≡ arc_of rows columns s
  arc_same_column (ArcTold row column value) known = rw (place_more columns more column (and_true (has_name rows row) (has_name columns column) known).1) refl
  arc_same_column other known = refl
