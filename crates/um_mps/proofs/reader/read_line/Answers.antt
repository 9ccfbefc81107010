use Rattle.std.proofs.Common.{◌∙◌, sym}
use Rattle.um_mps.proofs.ReaderSteps.{data_read, data_refused, heading_read, heading_refused, skipped_line}
use Rattle.um_mps.proofs.PlaceKept.{data_placed, heading_placed}
use Rattle.um_mps.proofs.reader.read_line.Goals as goal
use Rattle.um_mps.proofs.reader.read_line.Goals.{in-Ok, in-Err}

pub returns-then-is_skipped-clause-reads : goal.returns-then-is_skipped-clause-reads
returns-then-is_skipped-clause-reads c = λ before behind. skipped_line c.args.line.now before c.args.place.now c.args.maker.now (sym c.is_skipped.ensures ∙ c.if-is_skipped.true) behind

pub returns-then-is_data-clause-reads : goal.returns-then-is_data-clause-reads
returns-then-is_data-clause-reads c = λ before behind.
    let counts = sym c.is_skipped.ensures ∙ c.if-is_skipped.false in
    let gap = sym c.is_data.ensures ∙ c.if-is_data.true in
    elim c.match-data_line.branch [
      | in-Ok w ↦ rw w.result-is (data_read c.args.line.now before c.args.place.now c.data_line.new.place c.args.maker.now c.data_line.new.maker c.in_ok-words.words counts gap c.in_ok-words.ensures behind w.in-Ok.ensures.told w.in-Ok.ensures.place)
      | in-Err w ↦ rw w.result-is (data_refused c.args.line.now before c.args.place.now c.args.maker.now _ c.in_ok-words.words counts gap c.in_ok-words.ensures behind w.in-Err.ensures.told)
    ]

pub returns-then-is_data-clause-may : goal.returns-then-is_data-clause-may
returns-then-is_data-clause-may c =
    elim c.match-data_line.branch [
      | in-Ok w ↦ rw w.result-is (data_placed c.in_ok-words.words c.args.place.now c.data_line.new.place c.args.maker.now c.data_line.new.maker c.requires.may w.in-Ok.ensures.told w.in-Ok.ensures.place w.in-Ok.ensures.begun)
      | in-Err w ↦ rw w.result-is tt
    ]

pub returns-in-Ok-heading_line-clause-may : goal.returns-in-Ok-heading_line-clause-may
returns-in-Ok-heading_line-clause-may c =
    heading_placed c.in_ok-words.words c.args.place.now c.heading_line.new.place c.args.maker.now c.heading_line.new.maker c.requires.may c.in-Ok-heading_line.ensures.told c.in-Ok-heading_line.ensures.place

pub returns-in-Ok-heading_line-clause-reads : goal.returns-in-Ok-heading_line-clause-reads
returns-in-Ok-heading_line-clause-reads c = λ before behind.
    rw c.is_at_end.ensures (heading_read c.args.line.now before c.args.place.now c.heading_line.new.place c.args.maker.now c.heading_line.new.maker c.in_ok-words.words (sym c.is_skipped.ensures ∙ c.if-is_skipped.false) (sym c.is_data.ensures ∙ c.if-is_data.false) c.in_ok-words.ensures behind
    c.in-Ok-heading_line.ensures.told c.in-Ok-heading_line.ensures.place)

pub returns-clause-reads : goal.returns-clause-reads
returns-clause-reads c = λ before behind.
    heading_refused c.args.line.now before c.args.place.now c.args.maker.now _ c.in_ok-words.words (sym c.is_skipped.ensures ∙ c.if-is_skipped.false) (sym c.is_data.ensures ∙ c.if-is_data.false) c.in_ok-words.ensures behind c.in-Err-heading_line.ensures.told
