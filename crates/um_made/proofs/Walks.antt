-- Walks over lists: one item more of what is passed, one less of what is left.
use Rattle.std.proofs.Common.{◌≡◌, ℕ, ◌+◌, ◌<◌, Bool, true, false, ◌||◌, List, [], ◌∷◌, ◌++◌, map, length, get_or, take, drop, filter_map, Option, None, Some, refl, ap, ◌∙◌, append_assoc, add-one, drop-cons, if◌then◌else◌}
use Rattle.std.specs.List.{list_any, cons_option}
use Rattle.std.proofs.lemmas.List.{take_more, map-append, append-nil}
use Rattle.um_statements.specs.CallRules.{Rule, first_fault, option_list}
use Rattle.um_statements.specs.declared.fault.Fault.{Fault}

-- ---- places

pub rest_more : {X : Type 0} (xs : List X) (i : ℕ) (d : X) → i < length xs → drop i xs ≡ get_or xs i d ∷ drop (i + 1) xs
rest_more xs i d h = rw (add-one, drop-cons xs i d)

pub mapped_taken : {X Y : Type 0} (f : X → Y) (xs : List X) (i : ℕ) (d : X) → i < length xs → map f (take (i + 1) xs) ≡ map f (take i xs) ++ f (get_or xs i d) ∷ []
mapped_taken f xs i d h = ap (map f) (take_more xs i d h) ∙ map-append f (take i xs) (get_or xs i d ∷ [])

pub mapped_rest : {X Y : Type 0} (f : X → Y) (xs : List X) (i : ℕ) (d : X) → i < length xs → map f (drop i xs) ≡ f (get_or xs i d) ∷ map f (drop (i + 1) xs)
mapped_rest f xs i d h = ap (map f) (rest_more xs i d h)

-- ---- tests

pub any_push : {X : Type 0} (p : X → Bool) (xs : List X) (x : X) → list_any p (xs ++ x ∷ []) ≡ (list_any p xs || p x)
any_push p [] x = last (p x)
  where
    last : (b : Bool) → (b || false) ≡ b
    last true = refl
    last false = refl
any_push p (y ∷ ys) x = ap (λ b. p y || b) (any_push p ys x) ∙ turned (p y) (list_any p ys) (p x)
  where
    turned : (a b c : Bool) → (a || (b || c)) ≡ ((a || b) || c)
    turned true b c = refl
    turned false b c = refl

pub any_mapped : {X Y : Type 0} (p : Y → Bool) (f : X → Y) (xs : List X) → list_any p (map f xs) ≡ list_any (λ x. p (f x)) xs
any_mapped p f [] = refl
any_mapped p f (x ∷ xs) = ap (λ b. p (f x) || b) (any_mapped p f xs)

pub any_taken : {X : Type 0} (p : X → Bool) (xs : List X) (i : ℕ) (d : X) → i < length xs → list_any p (take (i + 1) xs) ≡ (list_any p (take i xs) || p (get_or xs i d))
any_taken p xs i d h = ap (list_any p) (take_more xs i d h) ∙ any_push p (take i xs) (get_or xs i d)

-- ---- what is given

pub given_push : {X Y : Type 0} (f : X → Option Y) (xs : List X) (x : X) → filter_map f (xs ++ x ∷ []) ≡ filter_map f xs ++ option_list (f x)
given_push f [] x = last (f x)
  where
    last : {Y : Type 0} (o : Option Y) → cons_option o [] ≡ option_list o
    last None = refl
    last (Some y) = refl
given_push {Y = Y} f (z ∷ zs) x = by (f z) (given_push f zs x)
  where
    by : (o : Option Y) → filter_map f (zs ++ x ∷ []) ≡ filter_map f zs ++ option_list (f x) → cons_option o (filter_map f (zs ++ x ∷ [])) ≡ cons_option o (filter_map f zs) ++ option_list (f x)
    by None more = more
    by (Some y) more = ap (λ ys. y ∷ ys) more

-- what is made, and what is left to make, are all, when one item more is passed
pub made_more : {Y : Type 0} (made : List Y) (o : Option Y) (rest all : List Y) → made ++ cons_option o rest ≡ all → (made ++ option_list o) ++ rest ≡ all
made_more made None rest all h = rw append-nil h
made_more made (Some y) rest all h = rw append_assoc h

-- ---- rules

pub first_of_both : (rules more : List Rule) → first_fault rules ≡ None → first_fault (rules ++ more) ≡ first_fault more
first_of_both [] more h = refl
first_of_both (r ∷ rules) more h = by r.0 h (first_of_both rules more)
  where
    by : (b : Bool) → (if b then Some r.1 else first_fault rules) ≡ None → (first_fault rules ≡ None → first_fault (rules ++ more) ≡ first_fault more)
        → (if b then Some r.1 else first_fault (rules ++ more)) ≡ first_fault more
    by true h rest = cc
    by false h rest = rest h

pub first_of_first : (rules more : List Rule) (f : Fault) → first_fault rules ≡ Some f → first_fault (rules ++ more) ≡ Some f
first_of_first [] more f h = cc
first_of_first (r ∷ rules) more f h = by r.0 h (first_of_first rules more f)
  where
    by : (b : Bool) → (if b then Some r.1 else first_fault rules) ≡ Some f → (first_fault rules ≡ Some f → first_fault (rules ++ more) ≡ Some f)
        → (if b then Some r.1 else first_fault (rules ++ more)) ≡ Some f
    by true h rest = h
    by false h rest = rest h

pub made_one : {Y : Type 0} (made : List Y) (y z : Y) (rest all : List Y) → y ≡ z → made ++ z ∷ rest ≡ all → (made ++ y ∷ []) ++ rest ≡ all
made_one made y z rest all same h = append_assoc made (y ∷ []) rest ∙ (ap (λ w. made ++ w ∷ rest) same ∙ h)
