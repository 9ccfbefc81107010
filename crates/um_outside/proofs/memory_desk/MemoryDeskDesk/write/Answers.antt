use Rattle.std.proofs.Common.{rules, arith, ◌≡◌, ◌≤◌, ℕ, List, Option, Some, take, length, length-take, ap, refl}
use Rattle.um_num.specs.Listed.{Listed}
use Rattle.um_outside.specs.Stores.{name_at}
use Rattle.um_outside.specs.OpenFiles.{mode_from}
use Rattle.um_outside.specs.declared.stored.Stored.{Stored}
use Rattle.um_outside.proofs.StoredFiles.{at_index, kept_in, within_set}
use Rattle.um_outside.proofs.OpenFileSteps.{is_writing, busy_writing, put_room, fits_kept, capacity_appended, write_on, name_kept, changes_written}
use Rattle.um_outside.proofs.memory_desk.MemoryDeskDesk.write.Goals as goal

pub append_reserved-requires : goal.append_reserved-requires
append_reserved-requires c =
    let d = c.args.self.now in
    let now = is_writing d.doing (name_at d.files.items d.current) c.requires.writing in
    let busy = busy_writing d.doing now in
    let room = put_room d.files.items d.current d.left d.doing d.given.items d.put.items d.put.spare now (d.current_in busy) (d.open_file busy) d.put_fits in
    omega (arith, room, length-take c.min-count.result c.args.from.now, c.min-count.ensures)

pub append_reserved-requires-2 : goal.append_reserved-requires-2
append_reserved-requires-2 c =
    let d = c.args.self.now in
    let now = is_writing d.doing (name_at d.files.items d.current) c.requires.writing in
    let busy = busy_writing d.doing now in
    let file = c.at_mut.result.now in
    let at = at_index d.files.items d.current file (d.current_in busy) c.at_mut.ensures.value in
    let is = d.open_file busy file at in
    omega (arith, is.room_left now, length-take c.min-count.result c.args.from.now, c.min-count.ensures)

pub invariant_of-self-2-clause-given_fits : goal.invariant_of-self-2-clause-given_fits
invariant_of-self-2-clause-given_fits c =
    let d = c.args.self.now in
    let now = is_writing d.doing (name_at d.files.items d.current) c.requires.writing in
    let busy = busy_writing d.doing now in
    let file = c.at_mut.result.now in
    let at = at_index d.files.items d.current file (d.current_in busy) c.at_mut.ensures.value in
    let is = d.open_file busy file at in
    let more = take c.min-count.result c.args.from.now in
    let size : length more ≤ file.bytes.spare = omega (arith, is.room_left now, length-take c.min-count.result c.args.from.now, c.min-count.ensures) in
    let same = capacity_appended file.bytes c.append_reserved-2.new.bytes more c.append_reserved-2.ensures size in
    fits_kept d.files.items d.current file _ _ at (omega (arith, same)) d.given_fits

pub invariant_of-self-2-clause-put_fits : goal.invariant_of-self-2-clause-put_fits
invariant_of-self-2-clause-put_fits c =
    let d = c.args.self.now in
    let now = is_writing d.doing (name_at d.files.items d.current) c.requires.writing in
    let busy = busy_writing d.doing now in
    let file = c.at_mut.result.now in
    let at = at_index d.files.items d.current file (d.current_in busy) c.at_mut.ensures.value in
    let is = d.open_file busy file at in
    let more = take c.min-count.result c.args.from.now in
    let room = put_room d.files.items d.current d.left d.doing d.given.items d.put.items d.put.spare now (d.current_in busy) (d.open_file busy) d.put_fits in
    let cut = length-take c.min-count.result c.args.from.now in
    let size : length more ≤ file.bytes.spare = omega (arith, is.room_left now, cut, c.min-count.ensures) in
    let put_size : length more ≤ d.put.spare = omega (arith, room, cut, c.min-count.ensures) in
    let same = capacity_appended file.bytes c.append_reserved-2.new.bytes more c.append_reserved-2.ensures size in
    let put_same = capacity_appended d.put c.append_reserved.new.bytes more c.append_reserved.ensures put_size in
    fits_kept d.files.items d.current file _ _ at (omega (arith, same)) (omega (arith, put_same, d.put_fits))

pub invariant_of-self-2-clause-open_file : goal.invariant_of-self-2-clause-open_file
invariant_of-self-2-clause-open_file c = λ busy.
    let d = c.args.self.now in
    let now = is_writing d.doing (name_at d.files.items d.current) c.requires.writing in
    let file = c.at_mut.result.now in
    let at = at_index d.files.items d.current file (d.current_in busy) c.at_mut.ensures.value in
    let is = d.open_file busy file at in
    let more = take c.min-count.result c.args.from.now in
    let count : c.min-count.result ≡ length more = omega (arith, length-take c.min-count.result c.args.from.now, c.min-count.ensures, c.min.ensures) in
    write_on d.files.items d.current d.left d.doing d.given.items d.put.items c.append_reserved.new.bytes.items file _ more c.min-count.result now at is refl refl c.append_reserved-2.ensures count (ap (λ (l : Listed ℕ). l.items) c.append_reserved.ensures)

pub returns-clause-scene : goal.returns-clause-scene
returns-clause-scene c =
    let d = c.args.self.now in
    let now = is_writing d.doing (name_at d.files.items d.current) c.requires.writing in
    let busy = busy_writing d.doing now in
    let file = c.at_mut.result.now in
    let at = at_index d.files.items d.current file (d.current_in busy) c.at_mut.ensures.value in
    let is = d.open_file busy file at in (
      search rules,
      search rules,
      record {
        well = search rules;
        mode = ap (λ (n : Option (List ℕ)). mode_from d.doing n) (name_kept d.files.items d.current file _ at refl);
        given = refl;
        put = ap (λ (l : Listed ℕ). Some l.items) c.append_reserved.ensures;
        holds = changes_written d.files.items d.current d.doing file _ now at refl is.found;
        asked = refl;
      },
    )

pub returns-clause-made : goal.returns-clause-made
returns-clause-made c =
    let d = c.args.self.now in
    let now = is_writing d.doing (name_at d.files.items d.current) c.requires.writing in
    let busy = busy_writing d.doing now in
    let file = c.at_mut.result.now in
    let at = at_index d.files.items d.current file (d.current_in busy) c.at_mut.ensures.value in
    record {
      made = search rules;
      settings = record { piece = refl; failing = search rules; rooms = λ name. kept_in (λ (f : Stored). f.room) d.files.items d.current file _ name at refl refl };
    }

pub invariant_of-self-2-clause-current_in : goal.invariant_of-self-2-clause-current_in
invariant_of-self-2-clause-current_in c = λ busy. within_set c.args.self.now.files.items c.args.self.now.current c.args.self.now.current _ (c.args.self.now.current_in busy)
