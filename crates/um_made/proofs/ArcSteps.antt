-- Walks over arcs and entries: what is made of each.
use Rattle.std.proofs.Common.{◌≡◌, ℕ, ◌+◌, ◌<◌, true, false, List, [], ◌∷◌, ◌++◌, length, get_or, drop, filter_map, Option, None, Some, refl, sym, ap, ◌∙◌}
use Rattle.std.specs.List.{cons_option, enumerate_from}
use Rattle.um_num.specs.declared.decimal.Decimal.{Decimal}
use Rattle.um_model.specs.declared.deck.Arc.{Arc}
use Rattle.um_model.specs.declared.deck.Entry.{Entry}
use Rattle.um_statements.specs.declared.parts.ArcPart.{ArcPart}
use Rattle.um_statements.specs.Said.{Said}
use Rattle.um_statements.specs.Scaled.{times_ten}
use Rattle.um_statements.specs.CallRules.{is_zero}
use Rattle.um_statements.specs.Made.{arc_made, for_minimising, objective_scale}
use Rattle.um_made.specs.declared.rows.SidedRow.{SidedRow}
use Rattle.um_made.specs.ColumnWords.{entry_of}
use Rattle.um_made.proofs.Walks.{rest_more, made_one}

-- what stands in for a row past the end of a list
abbrev pub no_sided_row : SidedRow
no_sided_row = record { place = 0; scale = 0; low = None; high = None }

-- ---- arcs

module _ (said : Said) (arcs : List ArcPart) (i : ℕ) (d : ArcPart) (within : i < length arcs) where
  arc_left : filter_map (arc_made said) (drop i arcs) ≡ cons_option (arc_made said (get_or arcs i d)) (filter_map (arc_made said) (drop (i + 1) arcs))
  arc_left = ap (filter_map (arc_made said)) (rest_more arcs i d within)

  pub arc_kept : (made all : List Arc) (y : Arc) (scale : ℕ) → is_zero (get_or arcs i d).value ≡ false → objective_scale said ≡ scale
      → y ≡ record { row = None; column = (get_or arcs i d).column; value = for_minimising said.maximise (times_ten (get_or arcs i d).value scale) }
      → made ++ filter_map (arc_made said) (drop i arcs) ≡ all → (made ++ y ∷ []) ++ filter_map (arc_made said) (drop (i + 1) arcs) ≡ all
  arc_kept made all y scale some scale_is same h =
      let a : ArcPart = get_or arcs i d in
      let rest : List Arc = filter_map (arc_made said) (drop (i + 1) arcs) in
      let gives : arc_made said a ≡ Some (record { row = None; column = a.column; value = for_minimising said.maximise (times_ten a.value scale) }) = rw (some, scale_is) refl in
      made_one made y (record { row = None; column = a.column; value = for_minimising said.maximise (times_ten a.value scale) }) rest all same
      (sym (ap (λ (o : Option Arc). made ++ cons_option o rest) gives) ∙ (sym (ap (λ zs. made ++ zs) arc_left) ∙ h))

  pub arc_dropped : (made all : List Arc) → is_zero (get_or arcs i d).value ≡ true → made ++ filter_map (arc_made said) (drop i arcs) ≡ all → made ++ filter_map (arc_made said) (drop (i + 1) arcs) ≡ all
  arc_dropped made all none h =
      let rest : List Arc = filter_map (arc_made said) (drop (i + 1) arcs) in
      let gives : arc_made said (get_or arcs i d) ≡ None = rw none refl in
      sym (ap (λ (o : Option Arc). made ++ cons_option o rest) gives) ∙ (sym (ap (λ zs. made ++ zs) arc_left) ∙ h)

-- ---- entries

module _ (slots : List (Option Decimal)) (rows : List SidedRow) (i : ℕ) (d : SidedRow) (within : i < length rows) where
  entry_left : filter_map (entry_of slots) (enumerate_from i (drop i rows)) ≡ cons_option (entry_of slots (i, get_or rows i d)) (filter_map (entry_of slots) (enumerate_from (i + 1) (drop (i + 1) rows)))
  entry_left = ap (λ rs. filter_map (entry_of slots) (enumerate_from i rs)) (rest_more rows i d within)

  pub entry_kept : (made all : List Entry) (y : Entry) (v : Decimal) → get_or slots (get_or rows i d).place None ≡ Some v → is_zero v ≡ false → y ≡ record { row = i; value = times_ten v (get_or rows i d).scale }
      → made ++ filter_map (entry_of slots) (enumerate_from i (drop i rows)) ≡ all → (made ++ y ∷ []) ++ filter_map (entry_of slots) (enumerate_from (i + 1) (drop (i + 1) rows)) ≡ all
  entry_kept made all y v there some same h =
      let r : SidedRow = get_or rows i d in
      let rest : List Entry = filter_map (entry_of slots) (enumerate_from (i + 1) (drop (i + 1) rows)) in
      let gives : entry_of slots (i, r) ≡ Some (record { row = i; value = times_ten v r.scale }) = rw there (rw some refl) in
      made_one made y (record { row = i; value = times_ten v r.scale }) rest all same
      (sym (ap (λ (o : Option Entry). made ++ cons_option o rest) gives) ∙ (sym (ap (λ zs. made ++ zs) entry_left) ∙ h))

  pub entry_zero : (made all : List Entry) (v : Decimal) → get_or slots (get_or rows i d).place None ≡ Some v → is_zero v ≡ true
      → made ++ filter_map (entry_of slots) (enumerate_from i (drop i rows)) ≡ all → made ++ filter_map (entry_of slots) (enumerate_from (i + 1) (drop (i + 1) rows)) ≡ all
  entry_zero made all v there none h =
      let rest : List Entry = filter_map (entry_of slots) (enumerate_from (i + 1) (drop (i + 1) rows)) in
      let gives : entry_of slots (i, get_or rows i d) ≡ None = rw there (rw none refl) in
      sym (ap (λ (o : Option Entry). made ++ cons_option o rest) gives) ∙ (sym (ap (λ zs. made ++ zs) entry_left) ∙ h)

  pub entry_none : (made all : List Entry) → get_or slots (get_or rows i d).place None ≡ None
      → made ++ filter_map (entry_of slots) (enumerate_from i (drop i rows)) ≡ all → made ++ filter_map (entry_of slots) (enumerate_from (i + 1) (drop (i + 1) rows)) ≡ all
  entry_none made all there h =
      let rest : List Entry = filter_map (entry_of slots) (enumerate_from (i + 1) (drop (i + 1) rows)) in
      let gives : entry_of slots (i, get_or rows i d) ≡ None = rw there refl in
      sym (ap (λ (o : Option Entry). made ++ cons_option o rest) gives) ∙ (sym (ap (λ zs. made ++ zs) entry_left) ∙ h)
