use Rattle.std.proofs.Common.{rules, arith, ◌≡◌, ◌∙◌, ◌-◌, ◌≤◌, ◌++◌, ℕ, List, Some, min, take, drop, length, length-take, length-drop, get_or, ap, sym, refl, subst}
use Rattle.um_num.specs.Listed.{Listed}
use Rattle.um_outside.specs.Desks.{IsFront}
use Rattle.um_outside.specs.Stores.{name_at, files_in}
use Rattle.um_outside.proofs.StoredFiles.{at_index}
use Rattle.um_outside.proofs.OpenFileSteps.{is_reading, busy_reading, rest_is, given_room, capacity_given, read_step, and_is, read_file_is, given_front_more, all_given, bytes_left_is}
use Rattle.um_outside.proofs.memory_desk.MemoryDeskDesk.read.Goals as goal

pub give-requires : goal.give-requires
give-requires c =
    let d = c.args.self.now in
    let now = is_reading d.doing (name_at d.files.items d.current) c.requires.reading in
    let busy = busy_reading d.doing now in
    let file = c.index-as_slice-self.result in
    let index : file ≡ get_or d.files.items d.current file = rw c.as_slice.ensures at c.index-as_slice-self.is in
    let at = at_index d.files.items d.current file (d.current_in busy) index in
    let is = d.open_file busy file at in
    let bytes : c.as_slice-2.result.now ≡ file.bytes.items = search rules in
    let rest : take (length c.as_slice-2.result.now - c.len.result) (drop c.len.result c.as_slice-2.result.now) ≡ drop (length d.given.items) file.bytes.items = rw (bytes, c.len.ensures) (rest_is file.bytes.items (length d.given.items)) in
    let left = length-drop (length d.given.items) file.bytes.items in
    let room = given_room d.files.items d.current d.left d.doing d.given.items d.put.items d.given.spare file now at is d.given_fits in
    rw rest (omega (arith, left, room))

pub invariant_of-self-2-clause-given_fits : goal.invariant_of-self-2-clause-given_fits
invariant_of-self-2-clause-given_fits c =
    let d = c.args.self.now in
    let now = is_reading d.doing (name_at d.files.items d.current) c.requires.reading in
    let busy = busy_reading d.doing now in
    let file = c.index-as_slice-self.result in
    let index : file ≡ get_or d.files.items d.current file = rw c.as_slice.ensures at c.index-as_slice-self.is in
    let at = at_index d.files.items d.current file (d.current_in busy) index in
    let is = d.open_file busy file at in
    let bytes : c.as_slice-2.result.now ≡ file.bytes.items = search rules in
    let rest : take (length c.as_slice-2.result.now - c.len.result) (drop c.len.result c.as_slice-2.result.now) ≡ drop (length d.given.items) file.bytes.items = rw (bytes, c.len.ensures) (rest_is file.bytes.items (length d.given.items)) in
    let left = length-drop (length d.given.items) file.bytes.items in
    let room = given_room d.files.items d.current d.left d.doing d.given.items d.put.items d.given.spare file now at is d.given_fits in
    let n = c.give.result in
    let count : n ≡ min (min (length (drop (length d.given.items) file.bytes.items)) (length c.args.into.now)) d.piece = rw rest at c.give.ensures.count in
    let given : c.give.new.given ≡ record { items = d.given.items ++ take n (drop (length d.given.items) file.bytes.items); spare = d.given.spare - n } = rw rest at c.give.ensures.given in
    let within : n ≤ length file.bytes.items - length d.given.items = omega (arith, count, left) in
    let size : n ≡ length (take n (drop (length d.given.items) file.bytes.items)) = omega (arith, within, left, length-take n (drop (length d.given.items) file.bytes.items)) in
    let same = capacity_given d.given c.give.new.given (take n (drop (length d.given.items) file.bytes.items)) n given size (omega (arith, within, room)) in
    omega (arith, same, d.given_fits)

pub invariant_of-self-2-clause-open_file : goal.invariant_of-self-2-clause-open_file
invariant_of-self-2-clause-open_file c = λ _ other at'.
    let d = c.args.self.now in
    let now = is_reading d.doing (name_at d.files.items d.current) c.requires.reading in
    let busy = busy_reading d.doing now in
    let file = c.index-as_slice-self.result in
    let index : file ≡ get_or d.files.items d.current file = rw c.as_slice.ensures at c.index-as_slice-self.is in
    let at = at_index d.files.items d.current file (d.current_in busy) index in
    let is = d.open_file busy file at in
    let bytes : c.as_slice-2.result.now ≡ file.bytes.items = search rules in
    let rest : take (length c.as_slice-2.result.now - c.len.result) (drop c.len.result c.as_slice-2.result.now) ≡ drop (length d.given.items) file.bytes.items = rw (bytes, c.len.ensures) (rest_is file.bytes.items (length d.given.items)) in
    let left = length-drop (length d.given.items) file.bytes.items in
    let room = given_room d.files.items d.current d.left d.doing d.given.items d.put.items d.given.spare file now at is d.given_fits in
    let n = c.give.result in
    let count : n ≡ min (min (length (drop (length d.given.items) file.bytes.items)) (length c.args.into.now)) d.piece = rw rest at c.give.ensures.count in
    let given : c.give.new.given ≡ record { items = d.given.items ++ take n (drop (length d.given.items) file.bytes.items); spare = d.given.spare - n } = rw rest at c.give.ensures.given in
    let within : n ≤ length file.bytes.items - length d.given.items = omega (arith, count, left) in
    read_step d.files.items d.current d.left d.doing d.given.items d.put.items c.give.new.given.items file n now at is within (ap (λ (l : Listed ℕ). l.items) given) other at'

pub returns-clause-scene : goal.returns-clause-scene
returns-clause-scene c =
    let d = c.args.self.now in
    let now = is_reading d.doing (name_at d.files.items d.current) c.requires.reading in
    let busy = busy_reading d.doing now in
    let file = c.index-as_slice-self.result in
    let index : file ≡ get_or d.files.items d.current file = rw c.as_slice.ensures at c.index-as_slice-self.is in
    let at = at_index d.files.items d.current file (d.current_in busy) index in
    let is = d.open_file busy file at in
    let bytes : c.as_slice-2.result.now ≡ file.bytes.items = search rules in
    let rest : take (length c.as_slice-2.result.now - c.len.result) (drop c.len.result c.as_slice-2.result.now) ≡ drop (length d.given.items) file.bytes.items = rw (bytes, c.len.ensures) (rest_is file.bytes.items (length d.given.items)) in
    let left = length-drop (length d.given.items) file.bytes.items in
    let room = given_room d.files.items d.current d.left d.doing d.given.items d.put.items d.given.spare file now at is d.given_fits in
    let n = c.give.result in
    let count : n ≡ min (min (length (drop (length d.given.items) file.bytes.items)) (length c.args.into.now)) d.piece = rw rest at c.give.ensures.count in
    let given : c.give.new.given ≡ record { items = d.given.items ++ take n (drop (length d.given.items) file.bytes.items); spare = d.given.spare - n } = rw rest at c.give.ensures.given in
    let within : n ≤ length file.bytes.items - length d.given.items = omega (arith, count, left) in
    let items : c.give.new.given.items ≡ d.given.items ++ take n (drop (length d.given.items) file.bytes.items) = ap (λ (l : Listed ℕ). l.items) given in
    let into : take n c.give.new.into ≡ take n (drop (length d.given.items) file.bytes.items) = rw rest at c.give.ensures.into in
    let front : IsFront c.give.new.given.items file.bytes.items = subst (λ (g : List ℕ). IsFront g file.bytes.items) (sym items) (given_front_more file.bytes.items d.given.items n (is.given_front now) (is.within now) within) in
    let size : n ≡ min (min (length file.bytes.items - length d.given.items) (length c.args.into.now)) d.piece = omega (arith, count, left) in (
      search rules,
      record {
        well = search rules;
        mode = refl;
        given = ap Some (items ∙ ap (λ (x : List ℕ). d.given.items ++ x) (sym into));
        front = λ name mode. and_is (files_in d.files.items name) file.bytes.items _ (read_file_is d.files.items d.current d.left d.doing d.given.items d.put.items file name now at is mode) front;
        end = λ none. λ name mode. and_is (files_in d.files.items name) file.bytes.items _ (read_file_is d.files.items d.current d.left d.doing d.given.items d.put.items file name now at is mode) (items ∙ all_given file.bytes.items d.given.items c.args.into.now n d.piece (is.given_front now) (is.within now) size d.piece_up c.requires.room (sym into ∙ none));
        put = refl;
        holds = refl;
        asked = refl;
      },
    )

pub returns-clause-count : goal.returns-clause-count
returns-clause-count c =
    let d = c.args.self.now in
    let now = is_reading d.doing (name_at d.files.items d.current) c.requires.reading in
    let busy = busy_reading d.doing now in
    let file = c.index-as_slice-self.result in
    let index : file ≡ get_or d.files.items d.current file = rw c.as_slice.ensures at c.index-as_slice-self.is in
    let at = at_index d.files.items d.current file (d.current_in busy) index in
    let is = d.open_file busy file at in
    let bytes : c.as_slice-2.result.now ≡ file.bytes.items = search rules in
    let rest : take (length c.as_slice-2.result.now - c.len.result) (drop c.len.result c.as_slice-2.result.now) ≡ drop (length d.given.items) file.bytes.items = rw (bytes, c.len.ensures) (rest_is file.bytes.items (length d.given.items)) in
    let left = length-drop (length d.given.items) file.bytes.items in
    let room = given_room d.files.items d.current d.left d.doing d.given.items d.put.items d.given.spare file now at is d.given_fits in
    let n = c.give.result in
    let count : n ≡ min (min (length (drop (length d.given.items) file.bytes.items)) (length c.args.into.now)) d.piece = rw rest at c.give.ensures.count in
    let given : c.give.new.given ≡ record { items = d.given.items ++ take n (drop (length d.given.items) file.bytes.items); spare = d.given.spare - n } = rw rest at c.give.ensures.given in
    let within : n ≤ length file.bytes.items - length d.given.items = omega (arith, count, left) in
    let whole = bytes_left_is d.files.items d.current d.left d.doing d.given.items d.put.items file at is.exists in
    rw whole (omega (arith, count, left))
