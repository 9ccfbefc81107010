use Rattle.std.proofs.Common.{rules, ◌≡◌, ℕ, Some, false, is_none, ap, sym, refl}
use Rattle.um_num.specs.Listed.{Listed}
use Rattle.um_outside.specs.Scenes.{Reading}
use Rattle.um_outside.specs.Stores.{place_of, files_in}
use Rattle.um_outside.proofs.StoredFiles.{place_below, exists_at}
use Rattle.um_outside.proofs.OpenFileSteps.{opened, name_at_place}
use Rattle.um_outside.proofs.memory_desk.MemoryDeskDesk.open_file.Goals as goal

pub invariant_of-self-2-clause-current_in : goal.invariant_of-self-2-clause-current_in
invariant_of-self-2-clause-current_in c = λ _.
    let found : place_of c.args.self.now.files.items c.args.name.now ≡ Some c.in-Some.place = rw c.as_slice.ensures at c.in-Some.ensures.place in
    place_below c.args.self.now.files.items c.args.name.now c.in-Some.place found

pub invariant_of-self-2-clause-open_file : goal.invariant_of-self-2-clause-open_file
invariant_of-self-2-clause-open_file c = λ _ file at.
    let d = c.args.self.now in
    let found : place_of d.files.items c.args.name.now ≡ Some c.in-Some.place = rw c.as_slice.ensures at c.in-Some.ensures.place in
    let there : false ≡ is_none (files_in d.files.items c.args.name.now) = rw c.as_slice.ensures at c.in-Some.ensures.there in
    opened d.files.items c.args.name.now c.in-Some.place d.left c.clear.new.self.items d.put.items file found at (exists_at d.files.items c.args.name.now c.in-Some.place file found at (sym there)) (ap (λ (l : Listed ℕ). l.items) c.clear.ensures)

pub returns-clause-scene : goal.returns-clause-scene
returns-clause-scene c =
    let d = c.args.self.now in
    let found : place_of d.files.items c.args.name.now ≡ Some c.in-Some.place = rw c.as_slice.ensures at c.in-Some.ensures.place in
    record {
      well = search rules;
      mode = ap Reading (name_at_place d.files.items c.args.name.now c.in-Some.place found);
      given = ap (λ (l : Listed ℕ). Some l.items) c.clear.ensures;
      put = refl;
      holds = refl;
      asked = c.note.ensures.asks;
    }
