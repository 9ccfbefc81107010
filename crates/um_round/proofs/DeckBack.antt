-- What is known behind a deck's normal text is that deck.
use Rattle.std.proofs.Common.{◌≡◌, ℕ, Bool, true, false, List, [], ◌∷◌, map, length, option_map, unwrap_or, ℤ, pos, neg_ℤ, refl, sym, ap, ◌∙◌}
use Rattle.um_model.specs.Values.{DeckValue, ColumnValue}
use Rattle.um_model.specs.WellFormed.{IsDeck, IsColumn, IsEntry}
use Rattle.um_model.specs.declared.deck.Entry.{Entry}
use Rattle.um_statements.specs.Scaled.{times_ten}
use Rattle.um_statements.specs.Made.{entry_in, nothing, for_minimising, column_made, side_at, deck_value, row_scale as made_scale}
use Rattle.um_make.specs.NormalLines.{in_sense, is_zero_number}
use Rattle.um_round.specs.Numerals.{written}
use Rattle.um_round.proofs.EachItem.{Each, Each-from}
use Rattle.um_round.proofs.NormalSaid.{normal_said, objective_known, column_known, HasObjectiveArcs}
use Rattle.um_round.proofs.Numerals.{scaled_back}
use Rattle.um_round.proofs.EndsBack.{ends-back-law}
use Rattle.um_round.proofs.KnownNumbers.{written_zero, zero_is, cost_told, cost_of, known_cost}
use Rattle.um_round.proofs.KnownScales.{apart, number_is, objective_scale_is}
use Rattle.um_round.proofs.RowsBack.{rows_back}
use Rattle.um_round.proofs.EntriesBack.{entries_back}
use Rattle.um_round.proofs.ArcsBack.{turned_back, sense_back, arcs_back}
use Rattle.um_round.proofs.SetsBack.{sets_back}

-- ---- a column

cost_is : (k : ℕ) (z : ℤ) (es : List Entry) → times_ten (unwrap_or (option_map (written k) (cost_told (is_zero_number z) z es)) nothing) k ≡ z
cost_is k z es = by (is_zero_number z) es refl
  where
    by : (b : Bool) (es : List Entry) → is_zero_number z ≡ b → times_ten (unwrap_or (option_map (written k) (cost_told b z es)) nothing) k ≡ z
    by true [] e = scaled_back k (pos 0) ∙ sym (zero_is z e)
    by true (x ∷ es) e = ap (λ v. times_ten v k) (sym (written_zero k)) ∙ scaled_back k (pos 0) ∙ sym (zero_is z e)
    by false es e = scaled_back k z

module _ (d : DeckValue) (deck : IsDeck d) (in_objective : HasObjectiveArcs d) where
  column_back : (c : ColumnValue) → IsColumn (length d.rows) c → column_made (normal_said d) (column_known d c) ≡ c
  column_back c is =
      let ends = ends-back-law c.kind c.name c.low c.high is.kind is.low is.high in
      let kind = ends.kind in
      let low = ends.low in
      let high = ends.high in
      let scaled = ap (λ k. times_ten (unwrap_or (entry_in 0 (column_known d c)) nothing) k) (objective_scale_is d deck in_objective) in
      let known = ap (λ o. times_ten (unwrap_or o nothing) d.scale) (known_cost d (apart d deck in_objective) c (Each-from (IsEntry (length d.rows)) c.entries is.entries)) in
      let cost = ap (for_minimising d.maximise) (scaled ∙ known ∙ cost_is d.scale (cost_of d c) c.entries) ∙ sense_back d.maximise c.cost in
      let entries = entries_back d deck in_objective c is in
      λ i. record { name = c.name; kind = kind i; low = low i; high = high i; cost = cost i; entries = entries i }

  columns_back : (cs : List ColumnValue) → Each (IsColumn (length d.rows)) cs → map (column_made (normal_said d)) (map (column_known d) cs) ≡ cs
  columns_back [] h = refl
  columns_back (c ∷ cs) h = λ i. column_back c h.0 i ∷ columns_back cs h.1 i

  constant_is : for_minimising d.maximise (neg_ℤ (side_at (objective_known d) (made_scale (normal_said d) 0 (objective_known d)))) ≡ d.constant
  constant_is =
      let z = neg_ℤ (in_sense d.maximise d.constant) in
      let side = ap (side_at (objective_known d)) (objective_scale_is d deck in_objective) ∙ ap (λ v. times_ten v d.scale) (number_is d.scale z) ∙ scaled_back d.scale z in
      ap (λ (x : ℤ). for_minimising d.maximise (neg_ℤ x)) side ∙ ap (for_minimising d.maximise) (turned_back (in_sense d.maximise d.constant)) ∙ sense_back d.maximise d.constant

pub deck-back-law : (d : DeckValue) → IsDeck d → HasObjectiveArcs d → deck_value (normal_said d) ≡ d
unfolding deck_value
deck-back-law d deck in_objective =
    let scale = objective_scale_is d deck in_objective in
    let constant = constant_is d deck in_objective in
    let rows = rows_back d deck in_objective in
    let columns = columns_back d deck in_objective d.columns (Each-from (IsColumn (length d.rows)) d.columns deck.columns) in
    let sets = sets_back d deck in
    let arcs = arcs_back d deck in_objective in
    λ i. record { name = d.name; objective_name = d.objective_name; maximise = d.maximise; scale = scale i; constant = constant i; rows = rows i; columns = columns i; sets = sets i; arcs = arcs i }
