-- One more file among those that were asked for.
use Rattle.std.proofs.Common.{◌≡◌, ℕ, ◌-◌, ◌≤◌, Bool, true, false, cond, List, [], ◌∷◌, ◌++◌, length, map, Option, Some, None, option_map, arith, refl, ap, sym, ◌∙◌}
use Rattle.std.specs.Prelude.{slice_range}
use Rattle.std.specs.List.{All}
use Rattle.std.proofs.lemmas.Grind.{common_steps}
use Rattle.std.proofs.lemmas.List.{map-append}
use Rattle.std.proofs.lemmas.List.Elements.{All-head, All-tail}
use Rattle.std.proofs.lemmas.Bool.Decides.{nat_tests}
use Rattle.um_num.specs.Listed.{Listed}
use Rattle.um_outside.specs.Scenes.{Asked}
use Rattle.um_outside.specs.Desks.{Asks}
use Rattle.um_outside.specs.AskedFiles.{NotesValue, has_room_for, noting, asked_by, IsWithin}
use Rattle.um_outside.specs.declared.asked.Access.{Access}
use Rattle.um_outside.specs.declared.asked.Noted.{Noted}

asked_kept : (names more : List ℕ) (note : Noted) → IsWithin names note → asked_by (names ++ more) note ≡ asked_by names note
asked_kept names more note w =
    let e : slice_range (names ++ more) note.from note.to ≡ slice_range names note.from note.to = grind (arith, common_steps, w.order, w.end) in
    ap (λ (x : List ℕ). record { access = note.access; name = x }) e

all_kept : (names more : List ℕ) (notes : List Noted) → All (IsWithin names) notes → map (asked_by (names ++ more)) notes ≡ map (asked_by names) notes
all_kept names more [] h = refl
all_kept names more (note ∷ notes) h =
    let first = asked_kept names more note (All-head (IsWithin names) note notes h) in
    let rest = all_kept names more notes (All-tail (IsWithin names) note notes h) in
    cc

last_name : (names name : List ℕ) → slice_range (names ++ name) (length names) (length (names ++ name)) ≡ name
last_name names name = grind (arith, common_steps)

-- the notes and their names, with one more behind them
noted_more : (names name : List ℕ) (access : Access) (notes : List Noted) → All (IsWithin names) notes → map (asked_by (names ++ name)) (notes ++ record { access = access; from = length names; to = length (names ++ name) } ∷ []) ≡ map (asked_by names) notes ++ record { access = access; name = name } ∷ []
noted_more names name access notes h =
    let last : asked_by (names ++ name) (record { access = access; from = length names; to = length (names ++ name) }) ≡ record { access = access; name = name } = ap (λ (x : List ℕ). record { access = access; name = x }) (last_name names name) in
    let rest = all_kept names name notes h in
    simp map-append (cc)

-- what the notes tell
abbrev pub told_by : Listed Noted → Listed ℕ → Bool → NotesValue
told_by files names whole = record { asked = cond whole (Some (map (asked_by names.items) files.items)) None; files = files.spare; bytes = names.spare }

note_fits : (asked : List Asked) (files bytes : ℕ) (file : Asked) → 1 ≤ files → length file.name ≤ bytes → noting file (record { asked = Some asked; files = files; bytes = bytes }) ≡ record { asked = Some (asked ++ file ∷ []); files = files - 1; bytes = bytes - length file.name }
note_fits asked files bytes file f n = grind (arith, nat_tests)

note_whole : (files files' : Listed Noted) (names names' : Listed ℕ) (access : Access) (name : List ℕ) → All (IsWithin names.items) files.items → 1 ≤ files.spare → length name ≤ names.spare → names' ≡ record { items = names.items ++ name; spare = names.spare - length name } → files' ≡ record { items = files.items ++ record { access = access; from = length names.items; to = length names'.items } ∷ []; spare = files.spare - 1 } → told_by files' names' true ≡ noting (record { access = access; name = name }) (told_by files names true)
note_whole files files' names names' access name h f n e g =
    let items = noted_more names.items name access files.items h in
    let to : length names'.items ≡ length (names.items ++ name) = ap (λ (l : Listed ℕ). length l.items) e in
    let files_are : files' ≡ record { items = files.items ++ record { access = access; from = length names.items; to = length (names.items ++ name) } ∷ []; spare = files.spare - 1 } = rw to at g in
    let told : told_by files' names' true ≡ record { asked = Some (map (asked_by names.items) files.items ++ record { access = access; name = name } ∷ []); files = files.spare - 1; bytes = names.spare - length name } =
    rw (files_are, e) (ap (λ (a : List Asked). record { asked = Some a; files = files.spare - 1; bytes = names.spare - length name }) items) in
    told ∙ sym (note_fits (map (asked_by names.items) files.items) files.spare names.spare (record { access = access; name = name }) f n)

pub note_added : (files files' : Listed Noted) (names names' : Listed ℕ) (whole : Bool) (access : Access) (name : List ℕ) → All (IsWithin names.items) files.items → whole ≡ true → 1 ≤ files.spare → length name ≤ names.spare → names' ≡ record { items = names.items ++ name; spare = names.spare - length name } → files' ≡ record { items = files.items ++ record { access = access; from = length names.items; to = length names'.items } ∷ []; spare = files.spare - 1 } → told_by files' names' whole ≡ noting (record { access = access; name = name }) (told_by files names whole)
note_added files files' names names' true access name h w f n e g = note_whole files files' names names' access name h f n e g
note_added files files' names names' false access name h w f n e g = absurd (cc)

asks_told : (file : Asked) (asked : Option (List Asked)) → Asks (file ∷ []) asked (option_map (λ some. some ++ file ∷ []) asked)
asks_told file None = tt
asks_told file (Some some) = refl

asks_either : (fits : Bool) (file : Asked) (notes more : NotesValue) → more.asked ≡ option_map (λ some. some ++ file ∷ []) notes.asked → Asks (file ∷ []) notes.asked (cond fits more (record notes { asked = None })).asked
asks_either true file notes more e = rw e (asks_told file notes.asked)
asks_either false file notes more e = tt

-- noting a file tells that it was asked for, or nothing
pub asked_more : (file : Asked) (notes : NotesValue) → Asks (file ∷ []) notes.asked (noting file notes).asked
asked_more file notes = asks_either (has_room_for file notes) file notes _ refl
