-- The relaxation that is made of a deck's columns and rows.
use Rattle.std.proofs.Common.{◌≡◌, ℕ, ◌+◌, ◌*◌, ◌<◌, ◌^◌, List, [], ◌∷◌, ◌++◌, length, map, get_or, arith, sym, ap, ◌∙◌, subst, refl, Option, false}
use Rattle.std.specs.Prelude.{ℤ, All}
use Rattle.std.proofs.lemmas.List.{length-map}
use Rattle.std.proofs.lemmas.List.Elements.{All-map}
use Rattle.um_num.specs.Listed.{Listed}
use Rattle.um_num.specs.Numbers.{IsInRange}
use Rattle.um_model.specs.Values.{DeckValue, ColumnValue, plain_column}
use Rattle.um_model.specs.WellFormed.{IsDeck, IsColumn}
use Rattle.um_model.specs.declared.deck.Column.{Column}
use Rattle.um_model.specs.declared.deck.Row.{Row}
use Rattle.um_deck.proofs.ListParts.{AllPairs-map}
use Rattle.um_deck.proofs.ListParts.{All-of_map}
use Rattle.um_lp.specs.States.{ColumnData, Frame, width}
use Rattle.um_lp.specs.Relaxations.{columns_of, frame_of, AreTerms, IsRelaxation}
use Rattle.um_lp.specs.declared.relaxation.Term.{Term}
use Rattle.um_lp.specs.declared.relaxation.Relaxation.{Relaxation}
use Rattle.um_duality.specs.Relaxed.{term_of, side_end, column_data, deck_frame}
use Rattle.um_relax.specs.KeyRows.{AreKeyRows}
use Rattle.um_relax.specs.Relaxations.{IsRelaxationOf}

-- what the parts of the relaxation are, made of these columns and rows
pub record IsMadeOf (columns : List Column) (rows : List Row) (r : Relaxation) : Type 0 where
  pub column_count : r.columns ≡ length columns
  pub row_count : r.rows ≡ length rows
  pub bent_cost : r.bent_cost ≡ false
  pub bent_rows : r.bent_rows.items ≡ map (λ (row : Row). false) rows
  pub lows : r.lows.items ≡ map (λ (c : Column). c.low) columns ++ map (λ (row : Row). side_end row.low) rows
  pub highs : r.highs.items ≡ map (λ (c : Column). c.high) columns ++ map (λ (row : Row). side_end row.high) rows
  pub costs : r.costs.items ≡ map (λ (c : Column). c.cost) columns
  pub entries : map (λ (t : Listed Term). t.items) r.entries.items ≡ map (λ (c : Column). map term_of c.entries.items) columns
  pub bends : r.bends.items ≡ []
  pub keys : AreKeyRows (map plain_column columns) rows (length rows) r.keys.items
  pub room : r.room.items ≡ []

-- two maps one after the other
twice : {A B C : Type 0} (f : A → B) (g : B → C) (xs : List A) → map g (map f xs) ≡ map (λ x. g (f x)) xs
twice f g [] = refl
twice f g (x ∷ xs) = ap (λ ys. g (f x) ∷ ys) (twice f g xs)

-- a list over the deck's columns
of_columns : {C : Type 0} (g : ColumnValue → C) (columns : List Column) (d : DeckValue) → map plain_column columns ≡ d.columns → map (λ (c : Column). g (plain_column c)) columns ≡ map g d.columns
of_columns g columns d e = sym (twice plain_column g columns) ∙ ap (map g) e

-- it is the relaxation of the deck of these columns and rows
pub made_relaxed : (d : DeckValue) (columns : List Column) (rows : List Row) (r : Relaxation) → map plain_column columns ≡ d.columns → rows ≡ d.rows → IsMadeOf columns rows r → IsRelaxationOf d r
made_relaxed d columns rows r e f m = record {
  columns = m.column_count ∙ sym (length-map columns plain_column) ∙ ap length e;
  rows = m.row_count ∙ ap length f;
  costs = m.costs ∙ of_columns (λ (c : ColumnValue). c.cost) columns d e;
  entries = m.entries ∙ of_columns (λ (c : ColumnValue). map term_of c.entries) columns d e;
  lows = m.lows ∙ ap (λ (xs : List (Option ℤ)). xs ++ map (λ (row : Row). side_end row.low) rows) (of_columns (λ (c : ColumnValue). c.low) columns d e) ∙ ap (λ (rs : List Row). map (λ (c : ColumnValue). c.low) d.columns ++ map (λ (row : Row). side_end row.low) rs) f;
  highs = m.highs ∙ ap (λ (xs : List (Option ℤ)). xs ++ map (λ (row : Row). side_end row.high) rows) (of_columns (λ (c : ColumnValue). c.high) columns d e) ∙ ap (λ (rs : List Row). map (λ (c : ColumnValue). c.high) d.columns ++ map (λ (row : Row). side_end row.high) rs) f;
  bends = m.bends;
  bent_cost = m.bent_cost;
  bent_rows = m.bent_rows ∙ ap (λ (rs : List Row). map (λ (row : Row). false) rs) f;
  keys = subst (λ (rs : List Row). AreKeyRows d.columns rs (length rs) r.keys.items) f (subst (λ (cs : List ColumnValue). AreKeyRows cs rows (length rows) r.keys.items) e m.keys);
  room = m.room;
}

-- ---- the frame
data_same : (columns : List ColumnValue) (costs : List ℤ) (entries : List (Listed Term)) → costs ≡ map (λ (c : ColumnValue). c.cost) columns → map (λ (t : Listed Term). t.items) entries ≡ map (λ (c : ColumnValue). map term_of c.entries) columns
    → columns_of costs entries ≡ map column_data columns
data_same [] costs entries e f = ap (λ (xs : List ℤ). columns_of xs entries) e
data_same (c ∷ columns) costs [] e f = cc
data_same (c ∷ columns) costs (t ∷ entries) e f =
    let head : t.items ≡ map term_of c.entries = cc in
    let rest : map (λ (t : Listed Term). t.items) entries ≡ map (λ (c : ColumnValue). map term_of c.entries) columns = cc in
    ap (λ (xs : List ℤ). columns_of xs (t ∷ entries)) e
    ∙ ap (λ (ts : List Term). record { cost = c.cost; terms = ts } ∷ columns_of (map (λ (c : ColumnValue). c.cost) columns) entries) head
    ∙ ap (λ (cs : List ColumnData). column_data c ∷ cs) (data_same columns (map (λ (c : ColumnValue). c.cost) columns) entries refl rest)

-- the frame of a deck's relaxation
pub relaxed_frame : (d : DeckValue) (r : Relaxation) → IsRelaxationOf d r → frame_of r ≡ deck_frame d
relaxed_frame d r h =
    let rows : r.rows + length r.bends.items ≡ length d.rows = let b = ap length h.bends in let q = h.rows in omega arith in
    let places : 256 * length r.bends.items ≡ 0 = let b = ap length h.bends in omega arith in
    let columns = data_same d.columns r.costs.items r.entries.items h.costs h.entries in
    same rows columns places
  where
    same : {m n p q : ℕ} {xs ys : List ColumnData} → m ≡ n → xs ≡ ys → p ≡ q → ◌≡◌ {A = Frame} (record { rows = m; columns = xs; places = p }) (record { rows = n; columns = ys; places = q })
    same e f g = cc

-- ---- sizes
column_terms : (rows : ℕ) (c : ColumnValue) → IsColumn rows c → AreTerms rows (map term_of c.entries)
column_terms rows c h = record {
  within = All-map (λ (t : Term). t.row < rows) term_of c.entries (λ k d l. (h.entries k d l).row);
  rise = AllPairs-map (λ (a : Term) (b : Term). a.row < b.row) term_of c.entries h.rise;
  range = All-map (λ (t : Term). IsInRange t.value) term_of c.entries (λ k d l. let q = (h.entries k d l).size in omega arith);
}

-- the sizes of a deck's relaxation
pub relaxed_sizes : (d : DeckValue) (r : Relaxation) → IsDeck d → IsRelaxationOf d r → IsRelaxation r
relaxed_sizes d r h k = record {
  costs = ap length k.costs ∙ length-map d.columns (λ (c : ColumnValue). c.cost) ∙ sym k.columns;
  costs_in = subst (λ (xs : List ℤ). All IsInRange xs) (sym k.costs) (All-map IsInRange (λ (c : ColumnValue). c.cost) d.columns (λ i e l. let q = (h.columns i e l).cost in omega arith));
  entries =
      sym (length-map r.entries.items (λ (t : Listed Term). t.items)) ∙ ap length k.entries ∙ length-map d.columns (λ (c : ColumnValue). map term_of c.entries) ∙ sym k.columns;
  terms =
      All-of_map (AreTerms r.rows) (λ (t : Listed Term). t.items) r.entries.items
      (subst (λ (xs : List (List Term)). All (AreTerms r.rows) xs) (sym k.entries)
      (All-map (AreTerms r.rows) (λ (c : ColumnValue). map term_of c.entries) d.columns
      (λ i e l. subst (λ (n : ℕ). AreTerms n (map term_of (get_or d.columns i e).entries)) (sym k.rows) (column_terms (length d.rows) (get_or d.columns i e) (h.columns i e l)))));
  size =
      subst (λ (f : Frame). width f < 2 ^ 32) (sym (relaxed_frame d r k))
      (let a = h.row_count in let b = h.column_count in let c = length-map d.columns column_data in omega arith);
}
