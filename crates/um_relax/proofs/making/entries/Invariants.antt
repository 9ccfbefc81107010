use Rattle.std.proofs.Common.{◌≡◌, take, map}
use Rattle.um_num.specs.Listed.{Listed}
use Rattle.um_lp.specs.declared.relaxation.Term.{Term}
use Rattle.um_model.specs.declared.deck.Column.{Column}
use Rattle.um_duality.specs.Relaxed.{term_of}
use Rattle.um_relax.proofs.making.entries.Given as goal

abbrev pub invariant-loop-column : goal.invariant-loop-column
invariant-loop-column l = map (λ (t : Listed Term). t.items) l.entries.items ≡ map (λ (c : Column). map term_of c.entries.items) (take l.column-index l.columns)
