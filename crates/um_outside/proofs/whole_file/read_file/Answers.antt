use Rattle.std.proofs.Common.{rules, ◌∙◌, inl, inr}
use Rattle.um_outside.proofs.ReadPieces.{given_within, given_at_end}
use Rattle.um_outside.proofs.whole_file.read_file.Goals as goal

pub returns-in_err-open_file-clause-fault_within : goal.returns-in_err-open_file-clause-fault_within
returns-in_err-open_file-clause-fault_within g c = λ _. inl (search rules)

pub returns-in_err-count-clause-fault_within : goal.returns-in_err-count-clause-fault_within
returns-in_err-count-clause-fault_within g c = λ _. inr (given_within c.pieces.bytes.items c.args.most _ _ (c.in_err-count.ensures.given ∙ c.pieces.invariant.so_far.given) c.pieces.invariant.size)

pub returns-in_err-close_file-clause-fault_within : goal.returns-in_err-close_file-clause-fault_within
returns-in_err-close_file-clause-fault_within g c = λ _.
    inr (given_at_end c.args.name.now c.pieces.bytes.items _ c.in_ok-count.count c.args.most (g.D.Desk.scene c.args.desk.now) (g.D.Desk.scene c.pieces.desk) (g.D.Desk.scene c.read.new.self) (g.D.Desk.scene c.close_file.new.self) c.pieces.invariant.so_far c.in_ok-count.ensures.1 c.if-count-eq0.true c.in_err-close_file.ensures.closed.given c.pieces.invariant.size)
