use Rattle.std.proofs.Common.{arith, ◌≡◌, ◌∙◌, ℕ, List, Option, Some, option_and_then, ap, refl}
use Rattle.um_num.specs.Listed.{Listed}
use Rattle.um_outside.specs.Stores.{place_of, contents}
use Rattle.um_outside.specs.OpenFiles.{mode_from}
use Rattle.um_outside.specs.declared.stored.Stored.{Stored}
use Rattle.um_outside.proofs.StoredFiles.{at_index, place_below, within_set, fits_changed, greatest-get, kept_in, stored_in-set_same, other_rooms}
use Rattle.um_outside.proofs.OpenFileSteps.{room_open, kept_name, contents_same}
use Rattle.um_outside.proofs.DeskSteps.{same_desk, room_set, on_ok, on_err}
use Rattle.um_outside.proofs.memory_desk.MemoryDesk.room.Goals as goal

pub invariant_of-self-clause-given_fits : goal.invariant_of-self-clause-given_fits
invariant_of-self-clause-given_fits c =
    let e = c.reserve.new.self in
    let place = c.in_ok-place.place in
    let name = c.args.name.now in
    let found : place_of e.files.items name ≡ Some place = ap (λ (l : Listed Stored). place_of l.items name) c.reserve.ensures.files ∙ c.in_ok-place.ensures.place in
    let file = c.at_mut.result.now in
    let at = at_index e.files.items place file (place_below e.files.items name place found) c.at_mut.ensures.value in
    fits_changed e.files.items place c.set_room.new.file _ e.given_fits (omega (arith, c.set_room.ensures.no_more, greatest-get e.files.items place file at, e.given_fits, c.in_ok-reserve.ensures.given_room))

pub invariant_of-self-clause-put_fits : goal.invariant_of-self-clause-put_fits
invariant_of-self-clause-put_fits c =
    let e = c.reserve.new.self in
    let place = c.in_ok-place.place in
    let name = c.args.name.now in
    let found : place_of e.files.items name ≡ Some place = ap (λ (l : Listed Stored). place_of l.items name) c.reserve.ensures.files ∙ c.in_ok-place.ensures.place in
    let file = c.at_mut.result.now in
    let at = at_index e.files.items place file (place_below e.files.items name place found) c.at_mut.ensures.value in
    fits_changed e.files.items place c.set_room.new.file _ e.put_fits (omega (arith, c.set_room.ensures.no_more, greatest-get e.files.items place file at, e.put_fits, c.in_ok-reserve.ensures.put_room))

pub invariant_of-self-clause-current_in : goal.invariant_of-self-clause-current_in
invariant_of-self-clause-current_in c = λ busy. within_set c.reserve.new.self.files.items c.in_ok-place.place c.reserve.new.self.current c.set_room.new.file (c.reserve.new.self.current_in busy)

pub invariant_of-self-clause-open_file : goal.invariant_of-self-clause-open_file
invariant_of-self-clause-open_file c = λ busy.
    let e = c.reserve.new.self in
    let place = c.in_ok-place.place in
    let name = c.args.name.now in
    let found : place_of e.files.items name ≡ Some place = ap (λ (l : Listed Stored). place_of l.items name) c.reserve.ensures.files ∙ c.in_ok-place.ensures.place in
    let file = c.at_mut.result.now in
    let at = at_index e.files.items place file (place_below e.files.items name place found) c.at_mut.ensures.value in
    room_open e.files.items place e.current e.left e.doing e.given.items e.put.items file c.set_room.new.file at c.set_room.ensures.name c.set_room.ensures.exists c.set_room.ensures.items c.set_room.ensures.more (e.open_file busy)

pub returns-clause-ok : goal.returns-clause-ok
returns-clause-ok c =
    let e = c.reserve.new.self in
    let place = c.in_ok-place.place in
    let name = c.args.name.now in
    let found : place_of e.files.items name ≡ Some place = ap (λ (l : Listed Stored). place_of l.items name) c.reserve.ensures.files ∙ c.in_ok-place.ensures.place in
    let file = c.at_mut.result.now in
    let at = at_index e.files.items place file (place_below e.files.items name place found) c.at_mut.ensures.value in
    let changed = c.set_room.new.file in
    let same = same_desk c.args.self.now c.place_for.new.self e c.place_for.ensures.same c.reserve.ensures.same in
    on_ok c.set_room.result _ _ (λ set. room_set name c.args.bytes c.args.self.now e _ same (record {
      state = record { mode = ap (λ (n : Option (List ℕ)). mode_from e.doing n) (kept_name e.files.items place file changed e.current at c.set_room.ensures.name); given = refl; put = refl; stopped = refl; made = refl; left = refl; piece = refl; asked = refl };
      failing = refl;
      files = λ other. kept_in contents e.files.items place file changed other at c.set_room.ensures.name (contents_same changed file c.set_room.ensures.exists c.set_room.ensures.items);
      room = ap (λ (o : Option Stored). option_and_then (λ (f : Stored). f.room) o) (stored_in-set_same e.files.items name place file changed found at c.set_room.ensures.name) ∙ set;
      others = other_rooms e.files.items name place file changed found at c.set_room.ensures.name;
    })) c.set_room.ensures.room

pub returns-clause-err : goal.returns-clause-err
returns-clause-err c =
    let e = c.reserve.new.self in
    let place = c.in_ok-place.place in
    let name = c.args.name.now in
    let found : place_of e.files.items name ≡ Some place = ap (λ (l : Listed Stored). place_of l.items name) c.reserve.ensures.files ∙ c.in_ok-place.ensures.place in
    let file = c.at_mut.result.now in
    let at = at_index e.files.items place file (place_below e.files.items name place found) c.at_mut.ensures.value in
    let changed = c.set_room.new.file in
    let same = same_desk c.args.self.now c.place_for.new.self e c.place_for.ensures.same c.reserve.ensures.same in
    on_err c.set_room.result _ _ (λ kept. same_desk c.args.self.now e _ same (record {
      state = record { mode = ap (λ (n : Option (List ℕ)). mode_from e.doing n) (kept_name e.files.items place file changed e.current at c.set_room.ensures.name); given = refl; put = refl; stopped = refl; made = refl; left = refl; piece = refl; asked = refl };
      failing = refl;
      files = λ other. kept_in contents e.files.items place file changed other at c.set_room.ensures.name (contents_same changed file c.set_room.ensures.exists c.set_room.ensures.items);
      rooms = λ other. kept_in (λ (f : Stored). f.room) e.files.items place file changed other at c.set_room.ensures.name kept;
    })) c.set_room.ensures.err
