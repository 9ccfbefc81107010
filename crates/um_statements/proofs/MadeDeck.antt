-- What was said without a fault, and breaks no rule as a whole, is a well-formed deck.
use Rattle.std.proofs.Common.{◌≡◌, None}
use Rattle.um_statements.specs.Said.{Said}
use Rattle.um_statements.specs.Made.{deck_value}
use Rattle.um_statements.specs.DeckRules.{deck_fault}
use Rattle.um_statements.specs.WellSaid.{IsSaid}
use Rattle.um_statements.specs.Laws.{IsDeckOfObjective}
use Rattle.um_statements.proofs.DeckFine.{deck-fine}
use Rattle.um_statements.proofs.MadeNames.{made_row_names, made_column_names, made_set_names, made_row_count, made_column_count, made_set_count, made_rows}
use Rattle.um_statements.proofs.MadeColumns.{made_scale, made_constant, made_columns}
use Rattle.um_statements.proofs.MadeArcs.{made_arcs, made_objective_arcs, made_distinct_arcs, made_arc_columns}
use Rattle.um_statements.proofs.MadeSets.{made_sets}
use Rattle.um_statements.proofs.MadeScales.{made_least_scales, made_least_scale}

pub made-deck-law : (said : Said) → IsSaid said → deck_fault said ≡ None → IsDeckOfObjective (deck_value said)
made-deck-law said is none =
    let fine = deck-fine said none in
    record {
      formed = record {
        row_names = made_row_names said is fine;
        column_names = made_column_names said is;
        set_names = made_set_names said is;
        row_count = made_row_count said is;
        column_count = made_column_count said is;
        set_count = made_set_count said is;
        arc_column_count = made_arc_columns said is;
        rows = made_rows said fine;
        least_scales = made_least_scales said is fine;
        scale = made_scale said fine;
        least_scale = made_least_scale said is fine;
        constant = made_constant said fine;
        columns = made_columns said is fine;
        sets = made_sets said is fine;
        arcs = made_arcs said is fine;
        distinct_arcs = made_distinct_arcs said is;
      };
      objective_arcs = made_objective_arcs said;
    }
