use Rattle.std.proofs.Common.{arith, ◌≡◌, ◌∙◌, ℕ, List, Some, length, max, ap, refl}
use Rattle.um_num.specs.Listed.{Listed}
use Rattle.um_outside.specs.Stores.{place_of, name_at}
use Rattle.um_outside.specs.declared.stored.Stored.{Stored}
use Rattle.um_outside.proofs.StoredFiles.{at_index, place_below, fits_changed, kept_in, place_of-set, slice_get-set_same, file_at, other_files}
use Rattle.um_outside.proofs.OpenFileSteps.{is_idle, idle_not_busy, mode_idle}
use Rattle.um_outside.proofs.DeskSteps.{same_desk, file_set}
use Rattle.um_outside.proofs.memory_desk.MemoryDesk.put_file.Goals as goal

pub invariant_of-self-clause-given_fits : goal.invariant_of-self-clause-given_fits
invariant_of-self-clause-given_fits c =
    let e = c.reserve-2.new.self in
    let place = c.in_ok-place.place in
    let name = c.args.name.now in
    let found : place_of e.files.items name ≡ Some place = ap (λ (l : Listed Stored). place_of l.items name) c.reserve-2.ensures.files ∙ c.in_ok-place.ensures.place in
    let file = c.at_mut-file.result.now in
    let at = at_index e.files.items place file (place_below e.files.items name place found) c.at_mut-file.ensures.value in
    let same = same_desk c.args.self.now c.place_for.new.self e c.place_for.ensures.same c.reserve-2.ensures.same in
    let idle = is_idle e.doing (name_at e.files.items e.current) (same.state.mode ∙ c.requires) in
    let before : c.in_ok-content.content ≡ record { items = c.args.bytes.now; spare = 0 } = c.in_ok-content.ensures in
    let before_items : c.in_ok-content.content.items ≡ c.args.bytes.now = ap (λ (l : Listed ℕ). l.items) before in
    let before_spare : c.in_ok-content.content.spare ≡ 0 = ap (λ (l : Listed ℕ). l.spare) before in
    let items : c.reserve.new.self.items ≡ c.in_ok-content.content.items = ap (λ (l : Listed ℕ). l.items) c.in_ok-reserve.ensures.ok in
    let spare : c.reserve.new.self.spare ≡ max c.in_ok-content.content.spare c.saturating_sub.result = ap (λ (l : Listed ℕ). l.spare) c.in_ok-reserve.ensures.ok in
    fits_changed e.files.items place _ _ e.given_fits (omega (arith, ap (λ (xs : List ℕ). length xs) items, ap (λ (xs : List ℕ). length xs) before_items, spare, before_spare, c.saturating_sub.ensures, c.max.ensures, c.in_ok-reserve-2.ensures.given_room))

pub invariant_of-self-clause-put_fits : goal.invariant_of-self-clause-put_fits
invariant_of-self-clause-put_fits c =
    let e = c.reserve-2.new.self in
    let place = c.in_ok-place.place in
    let name = c.args.name.now in
    let found : place_of e.files.items name ≡ Some place = ap (λ (l : Listed Stored). place_of l.items name) c.reserve-2.ensures.files ∙ c.in_ok-place.ensures.place in
    let file = c.at_mut-file.result.now in
    let at = at_index e.files.items place file (place_below e.files.items name place found) c.at_mut-file.ensures.value in
    let same = same_desk c.args.self.now c.place_for.new.self e c.place_for.ensures.same c.reserve-2.ensures.same in
    let idle = is_idle e.doing (name_at e.files.items e.current) (same.state.mode ∙ c.requires) in
    let before : c.in_ok-content.content ≡ record { items = c.args.bytes.now; spare = 0 } = c.in_ok-content.ensures in
    let before_items : c.in_ok-content.content.items ≡ c.args.bytes.now = ap (λ (l : Listed ℕ). l.items) before in
    let before_spare : c.in_ok-content.content.spare ≡ 0 = ap (λ (l : Listed ℕ). l.spare) before in
    let items : c.reserve.new.self.items ≡ c.in_ok-content.content.items = ap (λ (l : Listed ℕ). l.items) c.in_ok-reserve.ensures.ok in
    let spare : c.reserve.new.self.spare ≡ max c.in_ok-content.content.spare c.saturating_sub.result = ap (λ (l : Listed ℕ). l.spare) c.in_ok-reserve.ensures.ok in
    fits_changed e.files.items place _ _ e.put_fits (omega (arith, ap (λ (xs : List ℕ). length xs) items, ap (λ (xs : List ℕ). length xs) before_items, spare, before_spare, c.saturating_sub.ensures, c.max.ensures, c.in_ok-reserve-2.ensures.put_room))

pub invariant_of-self-clause-current_in : goal.invariant_of-self-clause-current_in
invariant_of-self-clause-current_in c = λ busy.
    let e = c.reserve-2.new.self in
    let place = c.in_ok-place.place in
    let name = c.args.name.now in
    let found : place_of e.files.items name ≡ Some place = ap (λ (l : Listed Stored). place_of l.items name) c.reserve-2.ensures.files ∙ c.in_ok-place.ensures.place in
    let file = c.at_mut-file.result.now in
    let at = at_index e.files.items place file (place_below e.files.items name place found) c.at_mut-file.ensures.value in
    let same = same_desk c.args.self.now c.place_for.new.self e c.place_for.ensures.same c.reserve-2.ensures.same in
    let idle = is_idle e.doing (name_at e.files.items e.current) (same.state.mode ∙ c.requires) in
    absurd (idle_not_busy e.doing idle busy)

pub invariant_of-self-clause-open_file : goal.invariant_of-self-clause-open_file
invariant_of-self-clause-open_file c = λ busy.
    let e = c.reserve-2.new.self in
    let place = c.in_ok-place.place in
    let name = c.args.name.now in
    let found : place_of e.files.items name ≡ Some place = ap (λ (l : Listed Stored). place_of l.items name) c.reserve-2.ensures.files ∙ c.in_ok-place.ensures.place in
    let file = c.at_mut-file.result.now in
    let at = at_index e.files.items place file (place_below e.files.items name place found) c.at_mut-file.ensures.value in
    let same = same_desk c.args.self.now c.place_for.new.self e c.place_for.ensures.same c.reserve-2.ensures.same in
    let idle = is_idle e.doing (name_at e.files.items e.current) (same.state.mode ∙ c.requires) in
    absurd (idle_not_busy e.doing idle busy)

pub returns-clause-ok : goal.returns-clause-ok
returns-clause-ok c =
    let e = c.reserve-2.new.self in
    let place = c.in_ok-place.place in
    let name = c.args.name.now in
    let found : place_of e.files.items name ≡ Some place = ap (λ (l : Listed Stored). place_of l.items name) c.reserve-2.ensures.files ∙ c.in_ok-place.ensures.place in
    let file = c.at_mut-file.result.now in
    let at = at_index e.files.items place file (place_below e.files.items name place found) c.at_mut-file.ensures.value in
    let same = same_desk c.args.self.now c.place_for.new.self e c.place_for.ensures.same c.reserve-2.ensures.same in
    let idle = is_idle e.doing (name_at e.files.items e.current) (same.state.mode ∙ c.requires) in
    let before : c.in_ok-content.content ≡ record { items = c.args.bytes.now; spare = 0 } = c.in_ok-content.ensures in
    let before_items : c.in_ok-content.content.items ≡ c.args.bytes.now = ap (λ (l : Listed ℕ). l.items) before in
    let before_spare : c.in_ok-content.content.spare ≡ 0 = ap (λ (l : Listed ℕ). l.spare) before in
    let items : c.reserve.new.self.items ≡ c.in_ok-content.content.items = ap (λ (l : Listed ℕ). l.items) c.in_ok-reserve.ensures.ok in
    let spare : c.reserve.new.self.spare ≡ max c.in_ok-content.content.spare c.saturating_sub.result = ap (λ (l : Listed ℕ). l.spare) c.in_ok-reserve.ensures.ok in
    file_set name c.args.bytes.now c.args.self.now e _ same (record {
      state = record { mode = mode_idle e.doing _ _ idle; given = refl; put = refl; stopped = refl; made = refl; left = refl; piece = refl; asked = refl };
      failing = refl;
      file = file_at _ name place _ (place_of-set e.files.items place file _ name at refl ∙ found) (slice_get-set_same e.files.items place file _ at) refl ∙ ap Some (items ∙ before_items);
      others = other_files e.files.items name place file _ found at refl;
      rooms = λ other. kept_in (λ (f : Stored). f.room) e.files.items place file _ other at refl refl;
    })
