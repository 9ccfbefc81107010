use Rattle.std.proofs.Common.{refl, length, false}
use Rattle.um_lp.specs.declared.relaxation.Relaxation.{Relaxation}
use Rattle.um_relax.proofs.MadeRelaxations.{IsMadeOf, made_relaxed, relaxed_frame, relaxed_sizes}
use Rattle.um_relax.specs.Relaxations.{IsRelaxationOf}
use Rattle.um_relax.proofs.making.build.Goals as goal

made : (c : goal.After-new-2) → Relaxation
made c = record {
  columns = length c.columns-columns.result.now;
  rows = length c.rows-rows.result.now;
  bent_cost = false;
  bent_rows = c.in_ok-straight_rows.field-0;
  lows = c.in_ok-lows.field-0;
  highs = c.in_ok-highs.field-0;
  costs = c.in_ok-costs.field-0;
  entries = c.in_ok-entries.field-0;
  bends = c.new.result;
  keys = c.in_ok-key_rows.field-0;
  room = c.new-2.result;
}

is_made : (c : goal.After-new-2) → IsMadeOf c.columns-columns.result.now c.rows-rows.result.now (made c)
unfolding made
is_made c = record {
  column_count = refl;
  row_count = refl;
  bent_cost = refl;
  bent_rows = c.in_ok-straight_rows.ensures;
  lows = c.in_ok-lows.ensures;
  highs = c.in_ok-highs.ensures;
  costs = c.in_ok-costs.ensures;
  entries = c.in_ok-entries.ensures;
  bends = c.new.ensures.items;
  keys = c.in_ok-key_rows.ensures;
  room = c.new-2.ensures.items;
}

relaxed : (c : goal.After-new-2) → IsRelaxationOf c.args.deck.now (made c)
relaxed c = made_relaxed c.args.deck.now c.columns-columns.result.now c.rows-rows.result.now (made c) c.columns-columns.ensures c.rows-rows.ensures (is_made c)

pub returns-clause-relaxed : goal.returns-clause-relaxed
unfolding made
returns-clause-relaxed c = relaxed c

pub returns-clause-sizes : goal.returns-clause-sizes
unfolding made
returns-clause-sizes c = relaxed_sizes c.args.deck.now (made c) c.known.ensures.formed (relaxed c)

pub returns-clause-frame : goal.returns-clause-frame
unfolding made
returns-clause-frame c = relaxed_frame c.args.deck.now (made c) (relaxed c)
