use Rattle.std.proofs.Common.{◌≤◌, ◌^◌, unsigned_abs, FitsSigned, w64, rules, ℤ, refl, sym, ap, subst, ◌∙◌, arith}
use Rattle.std.proofs.lemmas.Int.{to_z-of_z}
use Rattle.um_statements.specs.Said.{Said}
use Rattle.um_statements.specs.Made.{side_at}
use Rattle.um_statements.proofs.MadeColumns.{row_facts}
use Rattle.um_made.specs.Parts.{said}
use Rattle.um_made.specs.NamedWords.{named_rows}
use Rattle.um_made.proofs.NumbersFit.{objective_within, objective_fine}
use Rattle.um_made.proofs.RowRules.{objective_scale_is}
use Rattle.um_made.proofs.ToldFacts.{row_count, objective_name_at, constant_made}
use Rattle.um_made.proofs.DeckMade.{deck_made}
use Rattle.um_made.proofs.NamedFacts.{rows_named, columns_named, sets_named}
use Rattle.um_made.proofs.told.Told.put_together.Goals as goal

pub index-requires : goal.index-requires
index-requires c =
    let inside = objective_within (said c.args.self) (c.args.objective.now.place, c.requires.objective.row) c.requires.objective.is in
    omega (arith, inside, row_count c.args.self)

pub constant_of-constant-requires : goal.constant_of-constant-requires
constant_of-constant-requires c =
    let s : Said = said c.args.self in
    let o = c.requires.objective in
    let fits_side : FitsSigned w64 c.args.objective.now.side = search rules in
    let facts = row_facts s (c.args.objective.now.place, o.row) (objective_fine s (c.args.objective.now.place, o.row) c.requires.fine o.is) in
    let small : unsigned_abs c.args.objective.now.side ≤ 2 ^ 53 = subst (λ (z : ℤ). unsigned_abs z ≤ 2 ^ 53) (sym (o.side_is ∙ ap (side_at o.row) o.scale_is)) facts.side in
    simp to_z-of_z small

pub returns : goal.returns
returns c =
    let s : Said = said c.args.self in
    let fits : FitsSigned w64 c.constant_of-constant.result = search rules in
    let fits_side : FitsSigned w64 c.args.objective.now.side = search rules in
    let turned = simp to_z-of_z at c.constant_of-constant.ensures in
    let name = c.in_ok-objective_name.ensures ∙ (c.as_bytes.ensures ∙ objective_name_at c.args.self c.args.objective.now c.requires.objective c.index.result.now c.index.ensures) in
    deck_made s _ (record {
      name = refl;
      objective_name = name;
      maximise = refl;
      scale = sym (objective_scale_is s c.args.objective.now c.requires.objective);
      constant = simp to_z-of_z (constant_made s c.args.objective.now c.requires.objective c.constant_of-constant.result turned);
      rows = c.in_ok-named_rows.ensures ∙ (ap (named_rows c.args.self.rows.items) c.requires.rows ∙ rows_named s 0 c.args.self.rows.items);
      columns = c.in_ok-named_columns.ensures ∙ columns_named s c.args.self.columns.items c.in_ok-columns.columns.items c.in_ok-columns.ensures;
      sets = c.in_ok-named_sets.ensures ∙ sets_named s c.args.self.sets.items c.args.sets.items c.requires.sets;
      arcs = c.in_ok-arcs.ensures;
    })
