use Rattle.std.proofs.Common.{rules, arith, ◌≡◌, ◌∙◌, ℕ, List, Some, None, length, ap, sym, refl}
use Rattle.um_num.specs.Listed.{Listed}
use Rattle.um_outside.specs.Stores.{place_of, contents}
use Rattle.um_outside.specs.declared.stored.Stored.{Stored}
use Rattle.um_outside.proofs.StoredFiles.{pushed_on, push_fits, push_within, push_kept, push_place}
use Rattle.um_outside.proofs.OpenFileSteps.{push_open, push_mode}
use Rattle.um_outside.proofs.memory_desk.MemoryDesk.place_for.Goals as goal

pub invariant_of-self-2-clause-given_fits : goal.invariant_of-self-2-clause-given_fits
invariant_of-self-2-clause-given_fits c =
    let d = c.args.self.now in
    let same : c.reserve.new.self.items ≡ d.files.items = ap (λ (l : Listed Stored). l.items) c.in_ok-reserve.ensures.ok in
    let e = pushed_on d.files.items c.reserve.new.self.items c.push_reserved.new.self.items _ (ap (λ (l : Listed Stored). l.items) c.push_reserved.ensures) same in
    push_fits d.files.items c.push_reserved.new.self.items _ _ e (omega (arith, ap (λ (xs : List ℕ). length xs) c.new.ensures.items, c.new.ensures.spare)) d.given_fits

pub invariant_of-self-2-clause-put_fits : goal.invariant_of-self-2-clause-put_fits
invariant_of-self-2-clause-put_fits c =
    let d = c.args.self.now in
    let same : c.reserve.new.self.items ≡ d.files.items = ap (λ (l : Listed Stored). l.items) c.in_ok-reserve.ensures.ok in
    let e = pushed_on d.files.items c.reserve.new.self.items c.push_reserved.new.self.items _ (ap (λ (l : Listed Stored). l.items) c.push_reserved.ensures) same in
    push_fits d.files.items c.push_reserved.new.self.items _ _ e (omega (arith, ap (λ (xs : List ℕ). length xs) c.new.ensures.items, c.new.ensures.spare)) d.put_fits

pub invariant_of-self-2-clause-current_in : goal.invariant_of-self-2-clause-current_in
invariant_of-self-2-clause-current_in c = λ busy.
    let d = c.args.self.now in
    let same : c.reserve.new.self.items ≡ d.files.items = ap (λ (l : Listed Stored). l.items) c.in_ok-reserve.ensures.ok in
    let e = pushed_on d.files.items c.reserve.new.self.items c.push_reserved.new.self.items _ (ap (λ (l : Listed Stored). l.items) c.push_reserved.ensures) same in
    push_within d.files.items c.push_reserved.new.self.items _ d.current e (d.current_in busy)

pub invariant_of-self-2-clause-open_file : goal.invariant_of-self-2-clause-open_file
invariant_of-self-2-clause-open_file c = λ busy.
    let d = c.args.self.now in
    let same : c.reserve.new.self.items ≡ d.files.items = ap (λ (l : Listed Stored). l.items) c.in_ok-reserve.ensures.ok in
    let e = pushed_on d.files.items c.reserve.new.self.items c.push_reserved.new.self.items _ (ap (λ (l : Listed Stored). l.items) c.push_reserved.ensures) same in
    push_open d.files.items c.push_reserved.new.self.items _ d.current d.left d.doing d.given.items d.put.items e (d.current_in busy) (d.open_file busy)

pub returns-clause-same : goal.returns-clause-same
returns-clause-same c =
    let d = c.args.self.now in
    let same : c.reserve.new.self.items ≡ d.files.items = ap (λ (l : Listed Stored). l.items) c.in_ok-reserve.ensures.ok in
    let e = pushed_on d.files.items c.reserve.new.self.items c.push_reserved.new.self.items _ (ap (λ (l : Listed Stored). l.items) c.push_reserved.ensures) same in
    record {
      state = record { mode = push_mode d.files.items c.push_reserved.new.self.items _ d.current d.doing e d.current_in; given = refl; put = refl; stopped = refl; made = refl; left = refl; piece = refl; asked = refl };
      failing = refl;
      files = λ other. push_kept contents d.files.items c.push_reserved.new.self.items _ other e refl;
      rooms = λ other. push_kept (λ (f : Stored). f.room) d.files.items c.push_reserved.new.self.items _ other e refl;
    }

pub returns-clause-place : goal.returns-clause-place
returns-clause-place c =
    let d = c.args.self.now in
    let same : c.reserve.new.self.items ≡ d.files.items = ap (λ (l : Listed Stored). l.items) c.in_ok-reserve.ensures.ok in
    let e = pushed_on d.files.items c.reserve.new.self.items c.push_reserved.new.self.items _ (ap (λ (l : Listed Stored). l.items) c.push_reserved.ensures) same in
    let missing : place_of d.files.items c.args.name.now ≡ None = search rules in
    push_place d.files.items c.push_reserved.new.self.items _ c.args.name.now e missing c.in_ok-from_text.ensures ∙ ap Some (sym (c.len-place.ensures ∙ ap (λ (xs : List Stored). length xs) same))
