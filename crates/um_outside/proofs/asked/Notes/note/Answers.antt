use Rattle.std.proofs.Common.{rules, arith, ◌≡◌, ◌≤◌, true, length, subst, sym, [], ◌∷◌}
use Rattle.std.proofs.lemmas.Bool.Decides.{nat_tests}
use Rattle.um_outside.specs.Scenes.{Asked}
use Rattle.um_outside.specs.Desks.{Asks}
use Rattle.um_outside.specs.AskedFiles.{NotesValue}
use Rattle.um_outside.proofs.NotedFiles.{note_added, asked_more}
use Rattle.um_outside.proofs.asked.Notes.note.Goals as goal

pub returns-clause-noted : goal.returns-clause-noted
returns-clause-noted c =
    let s = c.self.inside in
    let n = c.args.name.now in
    let whole : s.whole ≡ true = search rules in
    let files : 1 ≤ s.files.spare = grind (arith, nat_tests) in
    let names : length n ≤ s.names.spare = grind (arith, nat_tests) in
    let bytes : c.as_bytes.result.now ≡ n = search rules in
    let added = note_added s.files c.push_reserved.new.self s.names c.append_reserved.new.bytes s.whole c.args.access n c.self.invariant whole files names (rw bytes at c.append_reserved.ensures) (rw (c.len-from.ensures, c.len-to.ensures) at c.push_reserved.ensures) in
    rw (← c.self.view_is) added

pub returns-clause-asks : goal.returns-clause-asks
returns-clause-asks c =
    let file : Asked = record { access = c.args.access; name = c.args.name.now } in
    let noted = returns-clause-noted c in
    subst (λ (v : NotesValue). Asks (file ∷ []) c.args.self.now.asked v.asked) (sym noted) (asked_more file c.args.self.now)
