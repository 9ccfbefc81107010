use Rattle.std.proofs.Common.{rules, arith, ◌≡◌, ◌∙◌, ◌+◌, ◌≤◌, ℕ, [], Option, Some, length, unwrap_or, ap, sym, refl, subst}
use Rattle.um_num.specs.Listed.{Listed}
use Rattle.um_outside.specs.Scenes.{Writing}
use Rattle.um_outside.specs.Stores.{place_of, room_in}
use Rattle.um_outside.specs.declared.stored.Stored.{Stored}
use Rattle.um_outside.proofs.StoredFiles.{at_index, kept_in, within_set, place_below, room_at, other_files, place_of-set, slice_get-set_same, file_at}
use Rattle.um_outside.proofs.OpenFileSteps.{fits_kept, created, name_kept, name_at_place}
use Rattle.um_outside.proofs.memory_desk.MemoryDeskDesk.create_file.Goals as goal

pub invariant_of-self-2-clause-given_fits : goal.invariant_of-self-2-clause-given_fits
invariant_of-self-2-clause-given_fits c =
    let d = c.args.self.now in
    let place = c.in-Some.place in
    let name = c.args.name.now in
    let found : place_of d.files.items name ≡ Some place = rw c.as_slice.ensures at c.in-Some.ensures.place in
    let file = c.at_mut-file.result.now in
    let at = at_index d.files.items place file (place_below d.files.items name place found) c.at_mut-file.ensures.value in
    let items : c.clear.new.self.items ≡ [] = ap (λ (l : Listed ℕ). l.items) c.clear.ensures in
    let spare : c.clear.new.self.spare ≡ file.bytes.spare + length file.bytes.items = ap (λ (l : Listed ℕ). l.spare) c.clear.ensures in
    fits_kept d.files.items place file _ _ at (omega (arith, ap length items, spare)) d.given_fits

pub invariant_of-self-2-clause-put_fits : goal.invariant_of-self-2-clause-put_fits
invariant_of-self-2-clause-put_fits c =
    let d = c.args.self.now in
    let place = c.in-Some.place in
    let name = c.args.name.now in
    let found : place_of d.files.items name ≡ Some place = rw c.as_slice.ensures at c.in-Some.ensures.place in
    let file = c.at_mut-file.result.now in
    let at = at_index d.files.items place file (place_below d.files.items name place found) c.at_mut-file.ensures.value in
    let items : c.clear.new.self.items ≡ [] = ap (λ (l : Listed ℕ). l.items) c.clear.ensures in
    let spare : c.clear.new.self.spare ≡ file.bytes.spare + length file.bytes.items = ap (λ (l : Listed ℕ). l.spare) c.clear.ensures in
    let put_items : c.clear-2.new.self.items ≡ [] = ap (λ (l : Listed ℕ). l.items) c.clear-2.ensures in
    let put_spare : c.clear-2.new.self.spare ≡ d.put.spare + length d.put.items = ap (λ (l : Listed ℕ). l.spare) c.clear-2.ensures in
    fits_kept d.files.items place file _ _ at (omega (arith, ap length items, spare)) (omega (arith, ap length put_items, put_spare, d.put_fits))

pub invariant_of-self-2-clause-current_in : goal.invariant_of-self-2-clause-current_in
invariant_of-self-2-clause-current_in c = λ _.
    let d = c.args.self.now in
    let place = c.in-Some.place in
    let name = c.args.name.now in
    let found : place_of d.files.items name ≡ Some place = rw c.as_slice.ensures at c.in-Some.ensures.place in
    let file = c.at_mut-file.result.now in
    let at = at_index d.files.items place file (place_below d.files.items name place found) c.at_mut-file.ensures.value in
    within_set d.files.items place place _ (place_below d.files.items name place found)

pub invariant_of-self-2-clause-open_file : goal.invariant_of-self-2-clause-open_file
invariant_of-self-2-clause-open_file c = λ _.
    let d = c.args.self.now in
    let place = c.in-Some.place in
    let name = c.args.name.now in
    let found : place_of d.files.items name ≡ Some place = rw c.as_slice.ensures at c.in-Some.ensures.place in
    let file = c.at_mut-file.result.now in
    let at = at_index d.files.items place file (place_below d.files.items name place found) c.at_mut-file.ensures.value in
    let room : Some c.in-Some.room ≡ room_in d.files.items name = rw c.as_slice.ensures at c.in-Some.ensures.room in
    let fits : c.in-Some.room ≤ length file.bytes.items + file.bytes.spare = subst (λ (o : Option ℕ). unwrap_or o 0 ≤ length file.bytes.items + file.bytes.spare) (sym (room ∙ room_at d.files.items name place file found at)) file.room_kept in
    let items : c.clear.new.self.items ≡ [] = ap (λ (l : Listed ℕ). l.items) c.clear.ensures in
    let spare : c.clear.new.self.spare ≡ file.bytes.spare + length file.bytes.items = ap (λ (l : Listed ℕ). l.spare) c.clear.ensures in
    let put_items : c.clear-2.new.self.items ≡ [] = ap (λ (l : Listed ℕ). l.items) c.clear-2.ensures in
    let put_spare : c.clear-2.new.self.spare ≡ d.put.spare + length d.put.items = ap (λ (l : Listed ℕ). l.spare) c.clear-2.ensures in
    created d.files.items name place c.in-Some.room d.given.items c.clear-2.new.self.items file _ found at refl refl items put_items (omega (arith, fits, spare))

pub returns-clause-scene : goal.returns-clause-scene
returns-clause-scene c =
    let d = c.args.self.now in
    let place = c.in-Some.place in
    let name = c.args.name.now in
    let found : place_of d.files.items name ≡ Some place = rw c.as_slice.ensures at c.in-Some.ensures.place in
    let file = c.at_mut-file.result.now in
    let at = at_index d.files.items place file (place_below d.files.items name place found) c.at_mut-file.ensures.value in
    let items : c.clear.new.self.items ≡ [] = ap (λ (l : Listed ℕ). l.items) c.clear.ensures in
    let spare : c.clear.new.self.spare ≡ file.bytes.spare + length file.bytes.items = ap (λ (l : Listed ℕ). l.spare) c.clear.ensures in
    let put_items : c.clear-2.new.self.items ≡ [] = ap (λ (l : Listed ℕ). l.items) c.clear-2.ensures in
    let put_spare : c.clear-2.new.self.spare ≡ d.put.spare + length d.put.items = ap (λ (l : Listed ℕ). l.spare) c.clear-2.ensures in
    record {
      well = search rules;
      mode = ap Writing (name_kept d.files.items place file _ at refl ∙ name_at_place d.files.items name place found);
      given = refl;
      put = ap Some put_items;
      holds = other_files d.files.items name place file _ found at refl;
      empty = file_at _ name place _ (place_of-set d.files.items place file _ name at refl ∙ found) (slice_get-set_same d.files.items place file _ at) refl ∙ ap Some items;
      asked = c.note.ensures.asks;
    }

pub returns-clause-made : goal.returns-clause-made
returns-clause-made c =
    let d = c.args.self.now in
    let place = c.in-Some.place in
    let name = c.args.name.now in
    let found : place_of d.files.items name ≡ Some place = rw c.as_slice.ensures at c.in-Some.ensures.place in
    let file = c.at_mut-file.result.now in
    let at = at_index d.files.items place file (place_below d.files.items name place found) c.at_mut-file.ensures.value in
    record {
      made = search rules;
      settings = record { piece = refl; failing = search rules; rooms = λ other. kept_in (λ (f : Stored). f.room) d.files.items place file _ other at refl refl };
    }
