use Rattle.std.proofs.Common.{◌∙◌}
use Rattle.um_maker.proofs.FinishSteps.{finished_fault, finished_refusal, finished_deck, finished_said, finished_well}
use Rattle.um_maker.proofs.maker.DeckMaker.finish.Goals as goal

pub parts-requires : goal.parts-requires
parts-requires c = record {
  well = finished_said c.self.inside.name c.self.inside.maximise c.self.inside.rows c.self.inside.columns c.self.inside.sets c.self.inside.arcs.items
      c.in_ok-name_or_empty.field-0 c.in_ok-into_list.field-0.items c.in_ok-into_list-2.field-0.items c.in_ok-into_list-3.field-0.items
      c.in_ok-name_or_empty.ensures c.in_ok-into_list.ensures c.in_ok-into_list-2.ensures c.in_ok-into_list-3.ensures c.self.invariant.well;
}

pub from_parts-requires : goal.from_parts-requires
from_parts-requires c =
    finished_well c.self.inside.name c.self.inside.maximise c.self.inside.rows c.self.inside.columns c.self.inside.sets c.self.inside.arcs.items
    c.in_ok-name_or_empty.field-0 c.in_ok-into_list.field-0.items c.in_ok-into_list-2.field-0.items c.in_ok-into_list-3.field-0.items
    c.in_ok-name_or_empty.ensures c.in_ok-into_list.ensures c.in_ok-into_list-2.ensures c.in_ok-into_list-3.ensures c.self.invariant.well
    c.in-Ok.ensures.0 c.in-Ok.parts c.in-Ok.ensures.1

pub returns-in-Ok-clause-made : goal.returns-in-Ok-clause-made
returns-in-Ok-clause-made c =
    rw (← c.self.view_is) (
      finished_fault c.self.inside.name c.self.inside.maximise c.self.inside.rows c.self.inside.columns c.self.inside.sets c.self.inside.arcs.items
          c.in_ok-name_or_empty.field-0 c.in_ok-into_list.field-0.items c.in_ok-into_list-2.field-0.items c.in_ok-into_list-3.field-0.items
          c.in_ok-name_or_empty.ensures c.in_ok-into_list.ensures c.in_ok-into_list-2.ensures c.in_ok-into_list-3.ensures _ c.in-Ok.ensures.0,
      c.from_parts.ensures ∙ finished_deck c.self.inside.name c.self.inside.maximise c.self.inside.rows c.self.inside.columns c.self.inside.sets c.self.inside.arcs.items
          c.in_ok-name_or_empty.field-0 c.in_ok-into_list.field-0.items c.in_ok-into_list-2.field-0.items c.in_ok-into_list-3.field-0.items
          c.in_ok-name_or_empty.ensures c.in_ok-into_list.ensures c.in_ok-into_list-2.ensures c.in_ok-into_list-3.ensures c.in-Ok.parts c.in-Ok.ensures.1,
    )

pub returns-in-Err-clause-made : goal.returns-in-Err-clause-made
returns-in-Err-clause-made c =
    rw (← c.self.view_is) (finished_refusal c.self.inside.name c.self.inside.maximise c.self.inside.rows c.self.inside.columns c.self.inside.sets c.self.inside.arcs.items
    c.in_ok-name_or_empty.field-0 c.in_ok-into_list.field-0.items c.in_ok-into_list-2.field-0.items c.in_ok-into_list-3.field-0.items
    c.in_ok-name_or_empty.ensures c.in_ok-into_list.ensures c.in_ok-into_list-2.ensures c.in_ok-into_list-3.ensures c.in-Err.fault c.in-Err.ensures)
