-- The file that is open on a desk in memory, where it is opened, read, made or written.
use Rattle.std.proofs.Common.{◌≡◌, ℕ, zero, suc, ◌+◌, ◌-◌, ◌<◌, ◌≤◌, min, Bool, true, false, cond, List, [], ◌∷◌, ◌++◌, take, drop, length, Option, Some, None, option_map, option_and_then, ◌||◌, is_none, unwrap_or, slice_get, slice_set, length-append, length-take, length-drop, arith, refl, ap, sym, ◌∙◌, subst, IsSomeAnd}
use Rattle.std.proofs.Math.Seq.{take-add}
use Rattle.std.proofs.lemmas.List.{take_all}
use Rattle.std.specs.Bool.{Decides}
use Rattle.std.specs.Prelude.{◌==◌}
use Rattle.std.proofs.lemmas.Bool.Decides.{Decides-eqb, not_from_Decides}
use Rattle.um_outside.specs.Scenes.{Mode, Idle, Reading, Writing, IsReading, IsWriting}
use Rattle.um_outside.specs.Desks.{IsFront, ChangesOnly, ChangesWritten}
use Rattle.um_outside.specs.Stores.{place_of, files_in, name_at, contents, capacity_of, greatest_capacity}
use Rattle.um_num.specs.Listed.{Listed}
use Rattle.um_outside.specs.OpenFiles.{mode_from, IsBusy, IsOpenFile}
use Rattle.um_outside.specs.declared.stored.Stored.{Stored}
use Rattle.um_outside.specs.declared.memory_desk.Doing.{Doing}
use Rattle.um_outside.specs.declared.memory_desk.Doing.TheVariants as doing
use Rattle.um_outside.proofs.StoredFiles.{name_of_place, file_at, place_of-set, slice_get-set_same, greatest-set, greatest-get, other_files, some_at, place_below, slice_get-push_old, slice_get-set_other, place_of-push_found}

pub is_reading : (now : Doing) (name : Option (List ℕ)) → IsReading (mode_from now name) → now ≡ doing.Reading
is_reading doing.Idle name h = absurd h
is_reading doing.Reading name h = refl
is_reading doing.Writing name h = absurd h

pub is_writing : (now : Doing) (name : Option (List ℕ)) → IsWriting (mode_from now name) → now ≡ doing.Writing
is_writing doing.Idle name h = absurd h
is_writing doing.Reading name h = absurd h
is_writing doing.Writing name h = refl

pub busy_reading : (now : Doing) → now ≡ doing.Reading → IsBusy now
busy_reading doing.Idle e = absurd (cc)
busy_reading doing.Reading e = tt
busy_reading doing.Writing e = tt

pub busy_writing : (now : Doing) → now ≡ doing.Writing → IsBusy now
busy_writing doing.Idle e = absurd (cc)
busy_writing doing.Reading e = tt
busy_writing doing.Writing e = tt

pub is_idle : (now : Doing) (name : Option (List ℕ)) → mode_from now name ≡ Idle → now ≡ doing.Idle
is_idle doing.Idle name h = refl
is_idle doing.Reading name h = absurd (cc)
is_idle doing.Writing name h = absurd (cc)

pub idle_not_busy : (now : Doing) → now ≡ doing.Idle → IsBusy now → ⊥
idle_not_busy doing.Idle e h = h
idle_not_busy doing.Reading e h = cc
idle_not_busy doing.Writing e h = cc

pub mode_idle : (now : Doing) (a b : Option (List ℕ)) → now ≡ doing.Idle → mode_from now a ≡ mode_from now b
mode_idle doing.Idle a b e = refl
mode_idle doing.Reading a b e = absurd (cc)
mode_idle doing.Writing a b e = absurd (cc)

pub name_at_is : (stored : List Stored) (place : ℕ) (file : Stored) → slice_get stored place ≡ Some file → name_at stored place ≡ Some file.name
name_at_is stored place file at = ap (option_map (λ (f : Stored). f.name)) at

-- an answer that comes exactly where a call fails or something is missing
pub answer_ok : {A : Type 0} (b : Bool) (o : Option A) (x : A) → b ≡ false → o ≡ Some x → false ≡ (b || is_none o)
answer_ok true o x e f = absurd (cc)
answer_ok false None x e f = absurd (cc)
answer_ok false (Some y) x e f = refl

pub answer_missing : {A : Type 0} (b : Bool) (o : Option A) → is_none o ≡ true → true ≡ (b || is_none o)
answer_missing true o e = refl
answer_missing false o e = sym e

-- the open file, by the name in the mode
pub read_file_is : (stored : List Stored) (place left : ℕ) (now : Doing) (given put : List ℕ) (file : Stored) (name : List ℕ) → now ≡ doing.Reading → slice_get stored place ≡ Some file → IsOpenFile stored place left now given put file → mode_from now (name_at stored place) ≡ Reading (Some name) → files_in stored name ≡ Some file.bytes.items
read_file_is stored place left now given put file name reading at is mode =
    let shown : Reading (name_at stored place) ≡ Reading (Some name) = ap (λ (d : Doing). mode_from d (name_at stored place)) (sym reading) ∙ mode in
    let named : Reading (Some file.name) ≡ Reading (Some name) = ap Reading (sym (name_at_is stored place file at)) ∙ shown in
    let same : file.name ≡ name = cc in
    file_at stored name place file (ap (place_of stored) (sym same) ∙ is.found) at is.exists

pub written_file_is : (stored : List Stored) (place left : ℕ) (now : Doing) (given put : List ℕ) (file : Stored) (name : List ℕ) → now ≡ doing.Writing → slice_get stored place ≡ Some file → IsOpenFile stored place left now given put file → mode_from now (name_at stored place) ≡ Writing (Some name) → files_in stored name ≡ Some file.bytes.items
written_file_is stored place left now given put file name writing at is mode =
    let shown : Writing (name_at stored place) ≡ Writing (Some name) = ap (λ (d : Doing). mode_from d (name_at stored place)) (sym writing) ∙ mode in
    let named : Writing (Some file.name) ≡ Writing (Some name) = ap Writing (sym (name_at_is stored place file at)) ∙ shown in
    let same : file.name ≡ name = cc in
    file_at stored name place file (ap (place_of stored) (sym same) ∙ is.found) at is.exists

pub and_is : (o : Option (List ℕ)) (bytes : List ℕ) (P : List ℕ → Type 0) → o ≡ Some bytes → P bytes → IsSomeAnd o P
and_is o bytes P e h = subst (λ (v : Option (List ℕ)). IsSomeAnd v P) (sym e) h

-- a file was opened for reading
pub opened : (stored : List Stored) (name : List ℕ) (place left : ℕ) (given put : List ℕ) (file : Stored) → place_of stored name ≡ Some place → slice_get stored place ≡ Some file → file.exists ≡ true → given ≡ [] → IsOpenFile stored place left doing.Reading given put file
opened stored name place left given put file found at exists none = record {
  found = ap (place_of stored) (name_of_place stored name place file found at) ∙ found;
  exists = exists;
  within = λ _. rw none (omega arith);
  given_front = λ _. rw none refl;
  put_whole = λ e. absurd (cc);
  room_left = λ e. absurd (cc);
}

-- more bytes of the file were given
more_front : (bytes given : List ℕ) (n : ℕ) → given ≡ take (length given) bytes → given ++ take n (drop (length given) bytes) ≡ take (length given + n) bytes
more_front bytes given n front = ap (λ (g : List ℕ). g ++ take n (drop (length given) bytes)) front ∙ sym (take-add (length given) n bytes)

more_length : (bytes given : List ℕ) (n : ℕ) → length given ≤ length bytes → n ≤ length bytes - length given → length (given ++ take n (drop (length given) bytes)) ≡ length given + n
more_length bytes given n within h = simp (length-append, length-take, length-drop) (omega (arith, within, h))

pub given_front_more : (bytes given : List ℕ) (n : ℕ) → given ≡ take (length given) bytes → length given ≤ length bytes → n ≤ length bytes - length given → IsFront (given ++ take n (drop (length given) bytes)) bytes
given_front_more bytes given n front within h = more_front bytes given n front ∙ ap (λ (k : ℕ). take k bytes) (sym (more_length bytes given n within h))

pub read_on : (stored : List Stored) (place left : ℕ) (now : Doing) (given put : List ℕ) (file : Stored) (n : ℕ) → now ≡ doing.Reading → IsOpenFile stored place left now given put file → n ≤ length file.bytes.items - length given → IsOpenFile stored place left now (given ++ take n (drop (length given) file.bytes.items)) put file
read_on stored place left now given put file n reading is h = record {
  found = is.found;
  exists = is.exists;
  within = λ _. omega (arith, more_length file.bytes.items given n (is.within reading) h, is.within reading, h);
  given_front = λ _. given_front_more file.bytes.items given n (is.given_front reading) (is.within reading) h;
  put_whole = is.put_whole;
  room_left = is.room_left;
}

-- where no bytes were given though some were asked for, all were given
pub all_given : (bytes given into : List ℕ) (n piece : ℕ) → given ≡ take (length given) bytes → length given ≤ length bytes → n ≡ min (min (length bytes - length given) (length into)) piece → 1 ≤ piece → 0 < length into → take n (drop (length given) bytes) ≡ [] → given ++ take n (drop (length given) bytes) ≡ bytes
all_given bytes given into n piece front within count piece_up some none =
    let size : length (take n (drop (length given) bytes)) ≡ 0 = ap length none in
    let sum = more_length bytes given n within (omega (arith, count)) in
    let sum2 = length-append given (take n (drop (length given) bytes)) in
    let zero_n : n ≡ 0 = omega (arith, size, sum, sum2) in
    let all : length bytes ≤ length given = omega (arith, zero_n, count, piece_up, some) in
    more_front bytes given n front ∙ take_all (length given + n) bytes (omega (arith, all))

-- what may still be put has room
pub put_room : (stored : List Stored) (place left : ℕ) (now : Doing) (given put : List ℕ) (spare : ℕ) → now ≡ doing.Writing → place < length stored → ((file : Stored) → slice_get stored place ≡ Some file → IsOpenFile stored place left now given put file) → greatest_capacity stored ≤ length put + spare → left ≤ spare
put_room stored place left now given put spare writing below open_file fits =
    let found = some_at stored place below in
    let is = open_file found.0 found.1 in
    omega (arith, is.room_left writing, ap length (is.put_whole writing), greatest-get stored place found.0 found.1, fits)

-- what was not yet given has room
pub given_room : (stored : List Stored) (place left : ℕ) (now : Doing) (given put : List ℕ) (spare : ℕ) (file : Stored) → now ≡ doing.Reading → slice_get stored place ≡ Some file → IsOpenFile stored place left now given put file → greatest_capacity stored ≤ length given + spare → length file.bytes.items - length given ≤ spare
given_room stored place left now given put spare file reading at is fits =
    omega (arith, is.within reading, greatest-get stored place file at, fits)

pub fits_kept : (stored : List Stored) (place : ℕ) (file changed : Stored) (bound : ℕ) → slice_get stored place ≡ Some file → capacity_of changed ≤ capacity_of file → greatest_capacity stored ≤ bound → greatest_capacity (slice_set stored place changed) ≤ bound
fits_kept stored place file changed bound at smaller fits = omega (arith, greatest-set stored place changed, greatest-get stored place file at, smaller, fits)

pub capacity_appended : (before after : Listed ℕ) (more : List ℕ) → after ≡ record { items = before.items ++ more; spare = before.spare - length more } → length more ≤ before.spare → length after.items + after.spare ≡ length before.items + before.spare
capacity_appended before after more e h =
    let sizes : length after.items ≡ length before.items + length more = ap (λ (l : Listed ℕ). length l.items) e ∙ length-append before.items more in
    let spares : after.spare ≡ before.spare - length more = ap (λ (l : Listed ℕ). l.spare) e in
    omega (arith, sizes, spares, h)

pub name_kept : (stored : List Stored) (place : ℕ) (file changed : Stored) → slice_get stored place ≡ Some file → changed.name ≡ file.name → name_at (slice_set stored place changed) place ≡ name_at stored place
name_kept stored place file changed at named =
    name_at_is (slice_set stored place changed) place changed (slice_get-set_same stored place file changed at) ∙ ap Some named ∙ sym (name_at_is stored place file at)

not_both : (now : Doing) → now ≡ doing.Reading → now ≡ doing.Writing → ⊥
not_both now e f = cc

-- bytes were put behind those of the open file
pub write_on : (stored : List Stored) (place left : ℕ) (now : Doing) (given put put' : List ℕ) (file changed : Stored) (more : List ℕ) (n : ℕ) → now ≡ doing.Writing → slice_get stored place ≡ Some file → IsOpenFile stored place left now given put file → changed.name ≡ file.name → changed.exists ≡ file.exists → changed.bytes ≡ record { items = file.bytes.items ++ more; spare = file.bytes.spare - length more } → n ≡ length more → put' ≡ put ++ more → (other : Stored) → slice_get (slice_set stored place changed) place ≡ Some other → IsOpenFile (slice_set stored place changed) place (left - n) now given put' other
write_on stored place left now given put put' file changed more n writing at is named exists bytes count puts other at' =
    let same : Some changed ≡ Some other = sym (slice_get-set_same stored place file changed at) ∙ at' in
    let changed_is : changed ≡ other = cc in
    subst (λ (f : Stored). IsOpenFile (slice_set stored place changed) place (left - n) now given put' f) changed_is (record {
      found = place_of-set stored place file changed changed.name at named ∙ ap (place_of stored) named ∙ is.found;
      exists = exists ∙ is.exists;
      within = λ e. absurd (not_both now e writing);
      given_front = λ e. absurd (not_both now e writing);
      put_whole = λ _. puts ∙ ap (λ (p : List ℕ). p ++ more) (is.put_whole writing) ∙ sym (ap (λ (l : Listed ℕ). l.items) bytes);
      room_left = λ _. omega (arith, ap (λ (l : Listed ℕ). l.spare) bytes, is.room_left writing, count);
    })

pub changes_written : (stored : List Stored) (place : ℕ) (now : Doing) (file changed : Stored) → now ≡ doing.Writing → slice_get stored place ≡ Some file → changed.name ≡ file.name → place_of stored file.name ≡ Some place → ChangesWritten (mode_from now (name_at stored place)) (Some (files_in stored)) (Some (files_in (slice_set stored place changed)))
changes_written stored place now file changed writing at named found =
    let mode : Writing (Some file.name) ≡ mode_from now (name_at stored place) = ap Writing (sym (name_at_is stored place file at)) ∙ ap (λ (d : Doing). mode_from d (name_at stored place)) (sym writing) in
    let changes : ChangesOnly file.name (Some (files_in stored)) (Some (files_in (slice_set stored place changed))) = other_files stored file.name place file changed found at named in
    subst (λ (m : Mode). ChangesWritten m (Some (files_in stored)) (Some (files_in (slice_set stored place changed)))) mode changes

pub name_at_place : (stored : List Stored) (name : List ℕ) (place : ℕ) → place_of stored name ≡ Some place → name_at stored place ≡ Some name
name_at_place stored name place found =
    let file = some_at stored place (place_below stored name place found) in
    name_at_is stored place file.0 file.1 ∙ ap Some (name_of_place stored name place file.0 found file.1)

pub rest_is : (bytes : List ℕ) (k : ℕ) → take (length bytes - k) (drop k bytes) ≡ drop k bytes
rest_is bytes k = take_all (length bytes - k) (drop k bytes) (omega (arith, length-drop k bytes))

pub capacity_given : (before after : Listed ℕ) (more : List ℕ) (n : ℕ) → after ≡ record { items = before.items ++ more; spare = before.spare - n } → n ≡ length more → n ≤ before.spare → length after.items + after.spare ≡ length before.items + before.spare
capacity_given before after more n e size h =
    let sizes : length after.items ≡ length before.items + length more = ap (λ (l : Listed ℕ). length l.items) e ∙ length-append before.items more in
    let spares : after.spare ≡ before.spare - n = ap (λ (l : Listed ℕ). l.spare) e in
    omega (arith, sizes, spares, size, h)

pub read_step : (stored : List Stored) (place left : ℕ) (now : Doing) (given put given' : List ℕ) (file : Stored) (n : ℕ) → now ≡ doing.Reading → slice_get stored place ≡ Some file → IsOpenFile stored place left now given put file → n ≤ length file.bytes.items - length given → given' ≡ given ++ take n (drop (length given) file.bytes.items) → (other : Stored) → slice_get stored place ≡ Some other → IsOpenFile stored place left now given' put other
read_step stored place left now given put given' file n reading at is h e other at' =
    let same : file ≡ other = cc in
    let on = read_on stored place left now given put file n reading is h in
    subst (λ (f : Stored). IsOpenFile stored place left now given' put f) same (subst (λ (g : List ℕ). IsOpenFile stored place left now g put file) (sym e) on)

pub bytes_left_is : (stored : List Stored) (place left : ℕ) (now : Doing) (given put : List ℕ) (file : Stored) → slice_get stored place ≡ Some file → file.exists ≡ true → unwrap_or (option_and_then contents (slice_get stored place)) [] ≡ file.bytes.items
bytes_left_is stored place left now given put file at exists =
    ap (λ (o : Option Stored). unwrap_or (option_and_then contents o) []) at ∙ ap (λ (b : Bool). unwrap_or (cond b (Some file.bytes.items) None) []) exists

-- a file was made or made empty
pub created : (stored : List Stored) (name : List ℕ) (place left : ℕ) (given put : List ℕ) (file changed : Stored) → place_of stored name ≡ Some place → slice_get stored place ≡ Some file → changed.name ≡ file.name → changed.exists ≡ true → changed.bytes.items ≡ [] → put ≡ [] → left ≤ changed.bytes.spare → (other : Stored) → slice_get (slice_set stored place changed) place ≡ Some other → IsOpenFile (slice_set stored place changed) place left doing.Writing given put other
created stored name place left given put file changed found at named exists empty none room other at' =
    let same : Some changed ≡ Some other = sym (slice_get-set_same stored place file changed at) ∙ at' in
    let changed_is : changed ≡ other = cc in
    subst (λ (f : Stored). IsOpenFile (slice_set stored place changed) place left doing.Writing given put f) changed_is (record {
      found = place_of-set stored place file changed changed.name at named ∙ ap (place_of stored) (named ∙ name_of_place stored name place file found at) ∙ found;
      exists = exists;
      within = λ e. absurd (cc);
      given_front = λ e. absurd (cc);
      put_whole = λ _. none ∙ sym empty;
      room_left = λ _. room;
    })

-- the open file where another is put behind
pub push_open : (stored after : List Stored) (added : Stored) (place left : ℕ) (now : Doing) (given put : List ℕ) → after ≡ stored ++ added ∷ [] → place < length stored → ((file : Stored) → slice_get stored place ≡ Some file → IsOpenFile stored place left now given put file) → (file : Stored) → slice_get after place ≡ Some file → IsOpenFile after place left now given put file
push_open stored after added place left now given put e below open_file file at =
    let was : slice_get stored place ≡ Some file = sym (slice_get-push_old stored added place below) ∙ ap (λ (xs : List Stored). slice_get xs place) (sym e) ∙ at in
    let is = open_file file was in
    record {
      found = ap (λ (xs : List Stored). place_of xs file.name) e ∙ place_of-push_found stored added file.name place is.found;
      exists = is.exists;
      within = is.within;
      given_front = is.given_front;
      put_whole = is.put_whole;
      room_left = is.room_left;
    }

-- the open file where one, maybe the same, gets another room
moved : (stored : List Stored) (place current left : ℕ) (now : Doing) (given put : List ℕ) (file changed was other : Stored) → slice_get stored place ≡ Some file → changed.name ≡ file.name → IsOpenFile stored current left now given put was → other.name ≡ was.name → other.exists ≡ was.exists → other.bytes.items ≡ was.bytes.items → was.bytes.spare ≤ other.bytes.spare → IsOpenFile (slice_set stored place changed) current left now given put other
moved stored place current left now given put file changed was other at named is name exists items more = record {
  found = place_of-set stored place file changed other.name at named ∙ ap (place_of stored) name ∙ is.found;
  exists = exists ∙ is.exists;
  within = λ e. omega (arith, is.within e, ap length items);
  given_front = λ e. is.given_front e ∙ ap (take (length given)) (sym items);
  put_whole = λ e. is.put_whole e ∙ sym items;
  room_left = λ e. omega (arith, is.room_left e, more);
}

room_by : (b : Bool) (stored : List Stored) (place current left : ℕ) (now : Doing) (given put : List ℕ) (file changed : Stored) → Decides b (current ≡ place) → slice_get stored place ≡ Some file → changed.name ≡ file.name → changed.exists ≡ file.exists → changed.bytes.items ≡ file.bytes.items → file.bytes.spare ≤ changed.bytes.spare → ((f : Stored) → slice_get stored current ≡ Some f → IsOpenFile stored current left now given put f) → (other : Stored) → slice_get (slice_set stored place changed) current ≡ Some other → IsOpenFile (slice_set stored place changed) current left now given put other
room_by true stored place current left now given put file changed decides at name exists items more open_file other at' =
    let here : current ≡ place = decides.0 refl in
    let is = open_file file (ap (slice_get stored) here ∙ at) in
    let same : Some changed ≡ Some other = sym (slice_get-set_same stored place file changed at) ∙ ap (slice_get (slice_set stored place changed)) (sym here) ∙ at' in
    let changed_is : changed ≡ other = cc in
    subst (λ (f : Stored). IsOpenFile (slice_set stored place changed) current left now given put f) changed_is (moved stored place current left now given put file changed file changed at name is name exists items more)
room_by false stored place current left now given put file changed decides at name exists items more open_file other at' =
    let was : slice_get stored current ≡ Some other = sym (slice_get-set_other stored place current changed (not_from_Decides false decides refl)) ∙ at' in
    moved stored place current left now given put file changed other other at name (open_file other was) refl refl refl (omega arith)

pub room_open : (stored : List Stored) (place current left : ℕ) (now : Doing) (given put : List ℕ) (file changed : Stored) → slice_get stored place ≡ Some file → changed.name ≡ file.name → changed.exists ≡ file.exists → changed.bytes.items ≡ file.bytes.items → file.bytes.spare ≤ changed.bytes.spare → ((f : Stored) → slice_get stored current ≡ Some f → IsOpenFile stored current left now given put f) → (other : Stored) → slice_get (slice_set stored place changed) current ≡ Some other → IsOpenFile (slice_set stored place changed) current left now given put other
room_open stored place current left now given put file changed at name exists items more open_file other at' =
    room_by (current == place) stored place current left now given put file changed (Decides-eqb current place) at name exists items more open_file other at'

pub contents_same : (a b : Stored) → a.exists ≡ b.exists → a.bytes.items ≡ b.bytes.items → contents a ≡ contents b
contents_same a b exists items = ap (λ (e : Bool). cond e (Some a.bytes.items) None) exists ∙ ap (λ (bytes : List ℕ). cond b.exists (Some bytes) None) items

-- the name at a place where a file that keeps its name is changed
pub kept_name : (stored : List Stored) (place : ℕ) (file changed : Stored) (j : ℕ) → slice_get stored place ≡ Some file → changed.name ≡ file.name → name_at (slice_set stored place changed) j ≡ name_at stored j
kept_name [] place file changed j at same = refl
kept_name (x ∷ stored) zero file changed zero at same = let is : x ≡ file = cc in ap Some (same ∙ ap (λ (f : Stored). f.name) (sym is))
kept_name (x ∷ stored) zero file changed (suc j) at same = refl
kept_name (x ∷ stored) (suc place) file changed zero at same = refl
kept_name (x ∷ stored) (suc place) file changed (suc j) at same = kept_name stored place file changed j at same

-- the mode where a file is put behind the others
pub push_mode : (stored after : List Stored) (added : Stored) (place : ℕ) (now : Doing) → after ≡ stored ++ added ∷ [] → (IsBusy now → place < length stored) → mode_from now (name_at after place) ≡ mode_from now (name_at stored place)
push_mode stored after added place doing.Idle e below = refl
push_mode stored after added place doing.Reading e below = ap (λ (o : Option Stored). Reading (option_map (λ (f : Stored). f.name) o)) (ap (λ (xs : List Stored). slice_get xs place) e ∙ slice_get-push_old stored added place (below tt))
push_mode stored after added place doing.Writing e below = ap (λ (o : Option Stored). Writing (option_map (λ (f : Stored). f.name) o)) (ap (λ (xs : List Stored). slice_get xs place) e ∙ slice_get-push_old stored added place (below tt))
