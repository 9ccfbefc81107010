-- The files of a desk in memory, by their places and their names, where one is changed or put behind them.
use Rattle.std.proofs.Common.{◌≡◌, ◌≢◌, ℕ, zero, suc, ◌+◌, ◌<◌, ◌≤◌, max, Bool, true, false, cond, eqb, nat_lt, List, [], ◌∷◌, ◌++◌, length, get_or, Option, Some, None, option_and_then, is_none, slice_get, slice_set, length-set, length-append, length-take, not, arith, refl, ap, sym, ◌∙◌, subst}
use Rattle.std.specs.Prelude.{bytes_eq}
use Rattle.std.specs.List.{position_or_len}
use Rattle.std.proofs.lemmas.List.Quantifiers.{position-Some}
use Rattle.std.proofs.lemmas.List.Folds.{position_or_len-set, position_or_len_push, length-prefix_len}
use Rattle.std.proofs.lemmas.Option.{get_or_from_slice_get, slice_get-get_or}
use Rattle.std.proofs.lemmas.Slice.Eq.{bytes_eq-Decides}
use Rattle.std.proofs.lemmas.Bool.{ltb-true, ltb-false, lt-ltb}
use Rattle.std.proofs.lemmas.Bool.Decides.{nat_tests}
use Rattle.um_outside.specs.Stores.{place_of, stored_in, files_in, room_in, contents, capacity_of, greatest_capacity}
use Rattle.um_outside.specs.declared.stored.Stored.{Stored}

-- the file at the place of a name has this name
pub name_of_place : (stored : List Stored) (name : List ℕ) (place : ℕ) (file : Stored) → place_of stored name ≡ Some place → slice_get stored place ≡ Some file → file.name ≡ name
name_of_place stored name place file found at =
    let passes = position-Some (λ (f : Stored). bytes_eq f.name name) stored place file found in
    let same : get_or stored place file ≡ file = get_or_from_slice_get stored place file file at in
    let test : bytes_eq file.name name ≡ true = subst (λ (f : Stored). bytes_eq f.name name ≡ true) same passes.1 in
    (bytes_eq-Decides file.name name).0 test

pub place_within : (stored : List Stored) (name : List ℕ) (place : ℕ) (file : Stored) → place_of stored name ≡ Some place → place < length stored
place_within stored name place file found = (position-Some (λ (f : Stored). bytes_eq f.name name) stored place file found).0

-- a file that keeps its name moves no place
pub place_of-set : (stored : List Stored) (place : ℕ) (file changed : Stored) (name : List ℕ) → slice_get stored place ≡ Some file → changed.name ≡ file.name → place_of (slice_set stored place changed) name ≡ place_of stored name
place_of-set stored place file changed name at same =
    let kept : get_or stored place file ≡ file = get_or_from_slice_get stored place file file at in
    let test : bytes_eq changed.name name ≡ bytes_eq (get_or stored place file).name name = ap (λ (n : List ℕ). bytes_eq n name) (same ∙ sym (ap (λ (f : Stored). f.name) kept)) in
    let p : Stored → Bool = λ f. bytes_eq f.name name in
    let first : position_or_len p (slice_set stored place changed) ≡ position_or_len p stored = position_or_len-set p stored place changed file test in
    ap (λ (k : ℕ). cond (nat_lt k (length (slice_set stored place changed))) (Some k) None) first ∙ ap (λ (n : ℕ). cond (nat_lt (position_or_len p stored) n) (Some (position_or_len p stored)) None) (length-set stored place changed)

pub slice_get-set_same : (stored : List Stored) (place : ℕ) (file changed : Stored) → slice_get stored place ≡ Some file → slice_get (slice_set stored place changed) place ≡ Some changed
slice_get-set_same [] place file changed at = absurd (cc)
slice_get-set_same (x ∷ stored) zero file changed at = refl
slice_get-set_same (x ∷ stored) (suc place) file changed at = slice_get-set_same stored place file changed at

pub slice_get-set_other : (stored : List Stored) (place other : ℕ) (changed : Stored) → other ≢ place → slice_get (slice_set stored place changed) other ≡ slice_get stored other
slice_get-set_other [] place other changed differs = refl
slice_get-set_other (x ∷ stored) zero zero changed differs = absurd (differs refl)
slice_get-set_other (x ∷ stored) zero (suc other) changed differs = refl
slice_get-set_other (x ∷ stored) (suc place) zero changed differs = refl
slice_get-set_other (x ∷ stored) (suc place) (suc other) changed differs = slice_get-set_other stored place other changed (λ e. differs (ap suc e))

pub stored_in_at : (stored : List Stored) (name : List ℕ) (place : ℕ) (file : Stored) → place_of stored name ≡ Some place → slice_get stored place ≡ Some file → stored_in stored name ≡ Some file
stored_in_at stored name place file found at = ap (option_and_then (slice_get stored)) found ∙ at

pub stored_in-set_same : (stored : List Stored) (name : List ℕ) (place : ℕ) (file changed : Stored) → place_of stored name ≡ Some place → slice_get stored place ≡ Some file → changed.name ≡ file.name → stored_in (slice_set stored place changed) name ≡ Some changed
stored_in-set_same stored name place file changed found at same =
    stored_in_at (slice_set stored place changed) name place changed (place_of-set stored place file changed name at same ∙ found) (slice_get-set_same stored place file changed at)

other_place : (stored : List Stored) (name other : List ℕ) (place : ℕ) (file changed : Stored) → place_of stored name ≡ Some place → slice_get stored place ≡ Some file → other ≢ name → (o : Option ℕ) → place_of stored other ≡ o → option_and_then (slice_get (slice_set stored place changed)) o ≡ option_and_then (slice_get stored) o
other_place stored name other place file changed found at differs None e = refl
other_place stored name other place file changed found at differs (Some j) e =
    slice_get-set_other stored place j changed (λ same. differs (sym (name_of_place stored other j file e (ap (slice_get stored) same ∙ at)) ∙ name_of_place stored name place file found at))

pub stored_in-set_other : (stored : List Stored) (name other : List ℕ) (place : ℕ) (file changed : Stored) → place_of stored name ≡ Some place → slice_get stored place ≡ Some file → changed.name ≡ file.name → other ≢ name → stored_in (slice_set stored place changed) other ≡ stored_in stored other
stored_in-set_other stored name other place file changed found at same differs =
    ap (option_and_then (slice_get (slice_set stored place changed))) (place_of-set stored place file changed other at same) ∙ other_place stored name other place file changed found at differs (place_of stored other) refl

some_when : (b : Bool) (k j : ℕ) → cond b (Some k) None ≡ Some j → (b ≡ true) × (k ≡ j)
some_when true k j e = (refl, cc)
some_when false k j e = absurd (cc)

none_when : (b : Bool) (k : ℕ) → cond b (Some k) None ≡ None → b ≡ false
none_when true k e = absurd (cc)
none_when false k e = refl

not_at_end : (k n m : ℕ) → k < n → cond (eqb k n) m k ≡ k
not_at_end k n m below = grind (arith, nat_tests)

at_end : (k n m : ℕ) → k ≡ n → cond (eqb k n) m k ≡ m
at_end k n m same = grind (arith, nat_tests)

-- a place that was found stays when a file is put behind the others
pub place_of-push_found : (stored : List Stored) (file : Stored) (name : List ℕ) (place : ℕ) → place_of stored name ≡ Some place → place_of (stored ++ file ∷ []) name ≡ Some place
place_of-push_found stored file name place found =
    let p : Stored → Bool = λ f. bytes_eq f.name name in
    let was = some_when (nat_lt (position_or_len p stored) (length stored)) (position_or_len p stored) place found in
    let below : position_or_len p stored < length stored = ltb-true (position_or_len p stored) (length stored) was.0 in
    let first = position_or_len_push p stored file in
    let stays : position_or_len p (stored ++ file ∷ []) ≡ position_or_len p stored = first ∙ not_at_end (position_or_len p stored) (length stored) (length stored + cond (p file) 0 1) below in
    let in_all : position_or_len p stored < length (stored ++ file ∷ []) = omega (arith, below, length-append stored (file ∷ [])) in
    ap (λ (k : ℕ). cond (nat_lt k (length (stored ++ file ∷ []))) (Some k) None) stays ∙ ap (λ (b : Bool). cond b (Some (position_or_len p stored)) None) (lt-ltb (position_or_len p stored) (length (stored ++ file ∷ [])) in_all) ∙ ap Some was.1

pub slice_get-push_old : (stored : List Stored) (file : Stored) (place : ℕ) → place < length stored → slice_get (stored ++ file ∷ []) place ≡ slice_get stored place
slice_get-push_old [] file place below = absurd (omega arith)
slice_get-push_old (x ∷ stored) file zero below = refl
slice_get-push_old (x ∷ stored) file (suc place) below = slice_get-push_old stored file place (omega (arith, below))

pub slice_get-push_new : (stored : List Stored) (file : Stored) → slice_get (stored ++ file ∷ []) (length stored) ≡ Some file
slice_get-push_new [] file = refl
slice_get-push_new (x ∷ stored) file = slice_get-push_new stored file

-- the greatest capacity where one file is changed or put behind the others
pub greatest-set : (stored : List Stored) (place : ℕ) (changed : Stored) → greatest_capacity (slice_set stored place changed) ≤ max (greatest_capacity stored) (capacity_of changed)
greatest-set [] place changed = omega arith
greatest-set (x ∷ stored) zero changed = omega arith
greatest-set (x ∷ stored) (suc place) changed = omega (arith, greatest-set stored place changed)

pub greatest-push : (stored : List Stored) (file : Stored) → greatest_capacity (stored ++ file ∷ []) ≤ max (greatest_capacity stored) (capacity_of file)
greatest-push [] file = omega arith
greatest-push (x ∷ stored) file = omega (arith, greatest-push stored file)

pub greatest-get : (stored : List Stored) (place : ℕ) (file : Stored) → slice_get stored place ≡ Some file → capacity_of file ≤ greatest_capacity stored
greatest-get [] place file at = absurd (cc)
greatest-get (x ∷ stored) zero file at = let same : x ≡ file = cc in subst (λ (f : Stored). capacity_of f ≤ max (capacity_of x) (greatest_capacity stored)) same (omega arith)
greatest-get (x ∷ stored) (suc place) file at = omega (arith, greatest-get stored place file at)

-- what no change touched of a file is as it was at every place, and at every name
kept_at : {Y : Type 0} (f : Stored → Option Y) (stored : List Stored) (place : ℕ) (file changed : Stored) (j : ℕ) → slice_get stored place ≡ Some file → f changed ≡ f file → option_and_then f (slice_get (slice_set stored place changed) j) ≡ option_and_then f (slice_get stored j)
kept_at f [] place file changed j at same = refl
kept_at f (x ∷ stored) zero file changed zero at same = let is : x ≡ file = cc in same ∙ ap f (sym is)
kept_at f (x ∷ stored) zero file changed (suc j) at same = refl
kept_at f (x ∷ stored) (suc place) file changed zero at same = refl
kept_at f (x ∷ stored) (suc place) file changed (suc j) at same = kept_at f stored place file changed j at same

kept_by : {Y : Type 0} (f : Stored → Option Y) (stored : List Stored) (place : ℕ) (file changed : Stored) (o : Option ℕ) → slice_get stored place ≡ Some file → f changed ≡ f file → option_and_then f (option_and_then (slice_get (slice_set stored place changed)) o) ≡ option_and_then f (option_and_then (slice_get stored) o)
kept_by f stored place file changed None at same = refl
kept_by f stored place file changed (Some j) at same = kept_at f stored place file changed j at same

pub kept_in : {Y : Type 0} (f : Stored → Option Y) (stored : List Stored) (place : ℕ) (file changed : Stored) (name : List ℕ) → slice_get stored place ≡ Some file → changed.name ≡ file.name → f changed ≡ f file → option_and_then f (stored_in (slice_set stored place changed) name) ≡ option_and_then f (stored_in stored name)
kept_in f stored place file changed name at named same =
    ap (λ (o : Option ℕ). option_and_then f (option_and_then (slice_get (slice_set stored place changed)) o)) (place_of-set stored place file changed name at named) ∙ kept_by f stored place file changed (place_of stored name) at same

pub file_at : (stored : List Stored) (name : List ℕ) (place : ℕ) (file : Stored) → place_of stored name ≡ Some place → slice_get stored place ≡ Some file → file.exists ≡ true → files_in stored name ≡ Some file.bytes.items
file_at stored name place file found at exists =
    ap (option_and_then contents) (stored_in_at stored name place file found at) ∙ ap (λ (b : Bool). cond b (Some file.bytes.items) None) exists

exists_when : (b : Bool) (bytes : List ℕ) → is_none (cond b (Some bytes) None) ≡ false → b ≡ true
exists_when true bytes e = refl
exists_when false bytes e = absurd (cc)

pub exists_at : (stored : List Stored) (name : List ℕ) (place : ℕ) (file : Stored) → place_of stored name ≡ Some place → slice_get stored place ≡ Some file → is_none (files_in stored name) ≡ false → file.exists ≡ true
exists_at stored name place file found at there =
    exists_when file.exists file.bytes.items (ap (λ (o : Option Stored). is_none (option_and_then contents o)) (sym (stored_in_at stored name place file found at)) ∙ there)

pub room_at : (stored : List Stored) (name : List ℕ) (place : ℕ) (file : Stored) → place_of stored name ≡ Some place → slice_get stored place ≡ Some file → room_in stored name ≡ file.room
room_at stored name place file found at = ap (option_and_then (λ (f : Stored). f.room)) (stored_in_at stored name place file found at)

-- a file that keeps its name leaves the files of all other names
pub other_files : (stored : List Stored) (name : List ℕ) (place : ℕ) (file changed : Stored) → place_of stored name ≡ Some place → slice_get stored place ≡ Some file → changed.name ≡ file.name → (other : List ℕ) → other ≢ name → files_in (slice_set stored place changed) other ≡ files_in stored other
other_files stored name place file changed found at named other differs =
    ap (option_and_then contents) (stored_in-set_other stored name other place file changed found at named differs)

pub other_rooms : (stored : List Stored) (name : List ℕ) (place : ℕ) (file changed : Stored) → place_of stored name ≡ Some place → slice_get stored place ≡ Some file → changed.name ≡ file.name → (other : List ℕ) → other ≢ name → room_in (slice_set stored place changed) other ≡ room_in stored other
other_rooms stored name place file changed found at named other differs =
    ap (option_and_then (λ (f : Stored). f.room)) (stored_in-set_other stored name other place file changed found at named differs)

-- the file at a place, as an index reads it
pub at_index : (stored : List Stored) (place : ℕ) (file : Stored) → place < length stored → file ≡ get_or stored place file → slice_get stored place ≡ Some file
at_index stored place file within is = slice_get-get_or stored place file within ∙ ap Some (sym is)

pub within_set : (stored : List Stored) (place k : ℕ) (changed : Stored) → k < length stored → k < length (slice_set stored place changed)
within_set stored place k changed below = rw (length-set stored place changed) below

pub place_below : (stored : List Stored) (name : List ℕ) (place : ℕ) → place_of stored name ≡ Some place → place < length stored
place_below stored name place found =
    let p : Stored → Bool = λ f. bytes_eq f.name name in
    let was = some_when (nat_lt (position_or_len p stored) (length stored)) (position_or_len p stored) place found in
    let below : position_or_len p stored < length stored = ltb-true (position_or_len p stored) (length stored) was.0 in
    omega (arith, below, was.1)

pub some_at : (stored : List Stored) (place : ℕ) → place < length stored → (file : Stored) × (slice_get stored place ≡ Some file)
some_at [] place below = absurd (omega arith)
some_at (x ∷ stored) zero below = (x, refl)
some_at (x ∷ stored) (suc place) below = some_at stored place (omega (arith, below))

not_below : (n : ℕ) → nat_lt n n ≡ false
not_below n = grind (arith, nat_tests)

by_test : (b : Bool) (n : ℕ) → cond (nat_lt (n + cond b 0 1) (n + 1)) (Some (n + cond b 0 1)) None ≡ cond b (Some n) None
by_test true n = ap (λ (c : Bool). cond c (Some (n + 0)) None) (lt-ltb (n + 0) (n + 1) (omega arith)) ∙ ap Some (omega arith)
by_test false n = ap (λ (c : Bool). cond c (Some (n + 1)) None) (not_below (n + 1))

-- a file put behind the others, where its name was not among them
pub place_of-push_new : (stored : List Stored) (file : Stored) (name : List ℕ) → place_of stored name ≡ None → place_of (stored ++ file ∷ []) name ≡ cond (bytes_eq file.name name) (Some (length stored)) None
place_of-push_new stored file name missing =
    let p : Stored → Bool = λ f. bytes_eq f.name name in
    let k = position_or_len p stored in
    let n = length stored in
    let past = none_when (nat_lt k n) k missing in
    let over : n ≤ k = ltb-false k n past in
    let under : k ≤ n = omega (arith, ap (λ (m : ℕ). m) (sym (length-prefix_len (λ (f : Stored). not (p f)) stored) ∙ length-take k stored)) in
    let same : k ≡ n = omega (arith, over, under) in
    let first : position_or_len p (stored ++ file ∷ []) ≡ n + cond (p file) 0 1 = position_or_len_push p stored file ∙ at_end k n (n + cond (p file) 0 1) same in
    let size : length (stored ++ file ∷ []) ≡ n + 1 = length-append stored (file ∷ []) in
    ap (λ (j : ℕ). cond (nat_lt j (length (stored ++ file ∷ []))) (Some j) None) first ∙ ap (λ (m : ℕ). cond (nat_lt (n + cond (p file) 0 1) m) (Some (n + cond (p file) 0 1)) None) size ∙ by_test (p file) n

pub push_place : (stored after : List Stored) (file : Stored) (name : List ℕ) → after ≡ stored ++ file ∷ [] → place_of stored name ≡ None → file.name ≡ name → place_of after name ≡ Some (length stored)
push_place stored after file name e missing named =
    ap (λ (xs : List Stored). place_of xs name) e ∙ place_of-push_new stored file name missing ∙ ap (λ (b : Bool). cond b (Some (length stored)) None) ((bytes_eq-Decides file.name name).1 named)

new_at : {Y : Type 0} (f : Stored → Option Y) (stored : List Stored) (file : Stored) (b : Bool) → f file ≡ None → option_and_then f (option_and_then (slice_get (stored ++ file ∷ [])) (cond b (Some (length stored)) None)) ≡ None
new_at f stored file true none = ap (option_and_then f) (slice_get-push_new stored file) ∙ none
new_at f stored file false none = refl

old_at : {Y : Type 0} (f : Stored → Option Y) (stored : List Stored) (file : Stored) (name : List ℕ) (o : Option ℕ) → f file ≡ None → place_of stored name ≡ o → option_and_then f (option_and_then (slice_get (stored ++ file ∷ [])) (place_of (stored ++ file ∷ []) name)) ≡ option_and_then f (option_and_then (slice_get stored) o)
old_at f stored file name None none e =
    ap (λ (o : Option ℕ). option_and_then f (option_and_then (slice_get (stored ++ file ∷ [])) o)) (place_of-push_new stored file name e) ∙ new_at f stored file (bytes_eq file.name name) none
old_at f stored file name (Some place) none e =
    ap (λ (o : Option ℕ). option_and_then f (option_and_then (slice_get (stored ++ file ∷ [])) o)) (place_of-push_found stored file name place e) ∙ ap (option_and_then f) (slice_get-push_old stored file place (place_below stored name place e))

-- what a file that is put behind the others doesn't show is as it was at every name
pub push_kept : {Y : Type 0} (f : Stored → Option Y) (stored after : List Stored) (file : Stored) (name : List ℕ) → after ≡ stored ++ file ∷ [] → f file ≡ None → option_and_then f (stored_in after name) ≡ option_and_then f (stored_in stored name)
push_kept f stored after file name e none =
    ap (λ (xs : List Stored). option_and_then f (stored_in xs name)) e ∙ old_at f stored file name (place_of stored name) none refl

pub push_fits : (stored after : List Stored) (file : Stored) (bound : ℕ) → after ≡ stored ++ file ∷ [] → capacity_of file ≡ 0 → greatest_capacity stored ≤ bound → greatest_capacity after ≤ bound
push_fits stored after file bound e none fits = subst (λ (xs : List Stored). greatest_capacity xs ≤ bound) (sym e) (omega (arith, greatest-push stored file, none, fits))

pub push_within : (stored after : List Stored) (file : Stored) (k : ℕ) → after ≡ stored ++ file ∷ [] → k < length stored → k < length after
push_within stored after file k e below = omega (arith, ap (λ (xs : List Stored). length xs) e, length-append stored (file ∷ []), below)

pub fits_changed : (stored : List Stored) (place : ℕ) (changed : Stored) (bound : ℕ) → greatest_capacity stored ≤ bound → capacity_of changed ≤ bound → greatest_capacity (slice_set stored place changed) ≤ bound
fits_changed stored place changed bound fits new = omega (arith, greatest-set stored place changed, fits, new)

pub pushed_on : (stored between after : List Stored) (file : Stored) → after ≡ between ++ file ∷ [] → between ≡ stored → after ≡ stored ++ file ∷ []
pushed_on stored between after file e same = e ∙ ap (λ (xs : List Stored). xs ++ file ∷ []) same
