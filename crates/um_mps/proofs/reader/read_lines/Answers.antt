use Rattle.std.proofs.Common.{◌≤◌, inr, arith}
use Rattle.um_mps.proofs.LoopSteps.{at_line, ended_at, finished, line_refused, small_number, text_started, turn}
use Rattle.um_mps.proofs.reader.read_lines.Goals as goal

pub lines-init : goal.lines-init
lines-init c = rw c.lines_of-rest.ensures (tt, tt, text_started _ _ _ c.start-place.ensures c.new-maker.ensures)

pub overflow_add-number : goal.overflow_add-number
overflow_add-number c =
    let small : c.lines.number ≤ 16777216 = small_number c.args.bytes.now _ _ _ _ c.requires c.lines.invariant.2 in
    omega arith

pub lines-preserved : goal.lines-preserved
lines-preserved c = (
  tt,
  tt,
  turn c.args.bytes.now c.next.new.self c.in-Some.line.now c.lines.number c.lines.place c.read_line.new.place c.lines.maker c.read_line.new.maker c.in-Ok-false.field-0
      (at_line _ _ _ c.in-Some.line.now _ _ _ c.lines.invariant.2 c.in-Some.ensures.steps) c.in-Ok-false.field-0-test c.in-Ok-false.ensures.reads c.in-Ok-false.ensures.may,
)

pub returns-in-Ok-true : goal.returns-in-Ok-true
returns-in-Ok-true c =
    finished c.args.bytes.now c.next.new.self c.in-Some.line.now c.lines.number c.lines.place c.read_line.new.place c.lines.maker c.read_line.new.maker c.in-Ok-true.field-0 c.finish.result c.requires
    (at_line _ _ _ c.in-Some.line.now _ _ _ c.lines.invariant.2 c.in-Some.ensures.steps) c.in-Ok-true.field-0-test c.in-Ok-true.ensures.reads c.finish.ensures

pub returns-in-Err : goal.returns-in-Err
returns-in-Err c =
    line_refused c.args.bytes.now c.next.new.self c.in-Some.line.now c.lines.number c.lines.place c.read_line.new.place c.lines.maker c.read_line.new.maker c.in-Err.fault c.requires
    (at_line _ _ _ c.in-Some.line.now _ _ _ c.lines.invariant.2 c.in-Some.ensures.steps) c.in-Err.ensures.reads

pub returns : goal.returns
returns c = inr (ended_at c.args.bytes.now c.lines.rest c.lines.number c.lines.place c.lines.maker c.requires c.lines.invariant.2 c.in_default.ensures.steps.0)
