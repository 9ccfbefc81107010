use Rattle.std.proofs.Common.{◌≡◌, ℕ, false, arith, List, Bool, length, sym, subst}
use Rattle.um_statements.specs.CallRules.{has_kept_arc}
use Rattle.um_made.specs.Parts.{said}
use Rattle.um_made.specs.ColumnWords.{AreMarks}
use Rattle.um_made.proofs.MarkFacts.{marks_are, whole_again}
use Rattle.um_made.proofs.told.Told.arc_marks.Goals as goal

pub returns : goal.returns
returns c =
    let old : List Bool = c.in_ok-marks.marks.items in
    let new : List Bool = c.mark_arcs.new.marks in
    let count : c.len.result ≡ length c.args.self.now.columns.items = omega arith in
    let are = subst (λ (n : ℕ). AreMarks (λ j. false) n old) count c.in_ok-marks.ensures in
    let marked = rw c.deref_mut.ensures.value at c.mark_arcs.ensures in
    subst (AreMarks (has_kept_arc (said c.args.self.now)) (length c.args.self.now.columns.items)) (sym (whole_again c.in_ok-marks.marks.len new old c.in_ok-marks.marks.ok.0 marked.length_stays))
    (marks_are (has_kept_arc (said c.args.self.now)) (length c.args.self.now.columns.items) old new are.length_is are.each marked)
