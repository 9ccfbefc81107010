use Rattle.std.proofs.Common.{List, [], length, arith, sym, ◌∙◌, ap}
use Rattle.std.proofs.lemmas.List.{get_or_default}
use Rattle.um_laws.specs.Rational.{Rational}
use Rattle.um_num.specs.NumberLists.{number_at}
use Rattle.um_tableau.proofs.RowSteps.{taken_skip, taken_step}
use Rattle.um_tableau.proofs.rows.take_rows.Goals as goal
use Rattle.um_tableau.proofs.rows.take_rows.Goals.{then-i-row, else-i-row}

pub loop-i-preserved : goal.loop-i-preserved
loop-i-preserved c =
    let at : List Rational → Rational = λ r. number_at r c.args.column in
    elim c.if-i-row.branch [
      | then-i-row w ↦
          let r = get_or_default c.loop-i.rows c.loop-i.i w.index-rows-i.result [] (omega arith) in
          let q = get_or_default c.loop-i.out c.loop-i.i w.index-out-i.result [] (omega arith) in
          let long = ap length r ∙ c.loop-i.invariant.long c.loop-i.i (omega arith) in
          rw (w.rows-is, w.out-is)
          (taken_step (length c.args.line.now) c.loop-i.i c.args.row c.args.column c.loop-i.rows c.loop-i.out c.args.rows.now c.args.out.now w.take_line.new.own w.take_line.new.out c.loop-i.invariant (omega arith) w.if-i-row.true
          (w.take_line.ensures.own_long ∙ long)
          (w.take_line.ensures.out_long ∙ long)
          (λ z. w.take_line.ensures.taken (λ e. z (ap at (sym r) ∙ e)) ∙ q)
          (λ z. w.take_line.ensures.kept (ap at r ∙ z) ∙ r))
      | else-i-row w ↦ rw (w.rows-is, w.out-is) (taken_skip (length c.args.line.now) c.loop-i.i c.args.row c.args.column c.loop-i.rows c.loop-i.out c.args.rows.now c.args.out.now c.loop-i.invariant w.if-i-row.false)
    ]
