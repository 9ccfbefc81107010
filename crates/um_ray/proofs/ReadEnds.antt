-- The ends of columns and slacks, as read from the lists of the relaxation.
use Rattle.std.proofs.Common.{◌≡◌, ℕ, ◌+◌, ◌-◌, ◌<◌, ◌≤◌, arith, ap, sym, subst, ◌∙◌, refl, List, length, map, get_or, inl, inr, Option, None, Some, ◌++◌, ◌⊎◌, ◌≢◌, Bool}
use Rattle.std.specs.Prelude.{ℤ, pos, ◌<ℤ◌, IsSome, IsTrue, ◌↔◌, slice_index_or}
use Rattle.std.proofs.lemmas.List.{get_or_append_left, length-map}
use Rattle.um_laws.proofs.Places.{at_map, below_or, item_at}
use Rattle.um_model.specs.Values.{DeckValue, ColumnValue}
use Rattle.um_model.specs.Boxes.{root}
use Rattle.um_model.specs.declared.deck.Row.{Row}
use Rattle.um_laws.specs.Rational.{Rational}
use Rattle.um_lp.specs.Boards.{IsWantedEndFinite}
use Rattle.um_lp.specs.States.{State, width, at_of, reduced_of}
use Rattle.um_lp.specs.declared.board.At.{At}
use Rattle.um_lp.specs.declared.board.At.TheVariants.{Basic}
use Rattle.um_lp.specs.declared.relaxation.Relaxation.{Relaxation}
use Rattle.um_duality.specs.Boxed.{ends_on}
use Rattle.um_duality.specs.Relaxed.{StandsFor, side_end}
use Rattle.um_duality.proofs.DeckBoards.{width-is}
use Rattle.um_duality.proofs.LeafBridge.{column_at, no_column}
use Rattle.um_relax.specs.Relaxations.{IsRelaxationOf}
use Rattle.um_relax.proofs.BoxEnds.{slack_pair}
use Rattle.um_ray.specs.Directions.{fall, rise, still, directions}
use Rattle.um_ray.proofs.MovingEnds.{own_column, own_slack, start_column, start_slack}

-- ---- the deck's own ends

at_column : (f : ColumnValue → Option ℤ) (cs : List ColumnValue) (rest : List (Option ℤ)) (j : ℕ) → j < length cs → get_or (map f cs ++ rest) j None ≡ f (slice_index_or cs j no_column)
at_column f cs rest j l = get_or_append_left (map f cs) rest None j (let e = length-map cs f in omega arith) ∙ at_map f cs j no_column None l

pub pair_is : (d : DeckValue) (r : Relaxation) (j : ℕ) (lows highs : List (Option ℤ)) → IsRelaxationOf d r → lows ≡ r.lows.items → highs ≡ r.highs.items → j < length d.columns + length d.rows
    → (get_or lows j None, get_or highs j None) ≡ ends_on d (root d) j
pair_is d r j lows highs h e f l = elim (below_or j (length d.columns)) [ inl c ↦ of_column c | inr k ↦ slack_pair d (root d) r j lows highs h (let q = h.columns in omega arith) e f ]
  where
    of_column : j < length d.columns → (get_or lows j None, get_or highs j None) ≡ ends_on d (root d) j
    of_column c =
        let low : get_or lows j None ≡ (column_at d j).low = ap (λ (xs : List (Option ℤ)). get_or xs j None) (e ∙ h.lows) ∙ at_column (λ (x : ColumnValue). x.low) d.columns (map (λ (row : Row). side_end row.low) d.rows) j c in
        let high : get_or highs j None ≡ (column_at d j).high = ap (λ (xs : List (Option ℤ)). get_or xs j None) (f ∙ h.highs) ∙ at_column (λ (x : ColumnValue). x.high) d.columns (map (λ (row : Row). side_end row.high) d.rows) j c in
        rw (low, high) (sym (own_column d j c))

-- one end of a column or slack of a board that stands for the deck
pub low_is : (d : DeckValue) (s : State) (r : Relaxation) (j : ℕ) (lows : List (Option ℤ)) → IsRelaxationOf d r → StandsFor d s → lows ≡ r.lows.items → j < width s.frame → get_or lows j None ≡ (ends_on d (root d) j).0
low_is d s r j lows h stands e l = ap (λ (x : Option ℤ × Option ℤ). x.0) (pair_is d r j lows r.highs.items h e refl (omega (arith, width-is d s stands)))

pub high_is : (d : DeckValue) (s : State) (r : Relaxation) (j : ℕ) (highs : List (Option ℤ)) → IsRelaxationOf d r → StandsFor d s → highs ≡ r.highs.items → j < width s.frame → get_or highs j None ≡ (ends_on d (root d) j).1
high_is d s r j highs h stands e l = ap (λ (x : Option ℤ × Option ℤ). x.1) (pair_is d r j r.lows.items highs h refl e (omega (arith, width-is d s stands)))

-- ---- the ends of the start problem

pub of_column : (d : DeckValue) (j : ℕ) (low high : Option ℤ) → j < length d.columns → (low, high) ≡ ends_on d (root d) j → (fall low, rise high) ≡ ends_on (directions d) (root (directions d)) j
of_column d j low high l e = ap (λ (x : Option ℤ × Option ℤ). (fall x.0, rise x.1)) (e ∙ own_column d j l) ∙ sym (start_column d j l)

still_end : (side : Option ℤ) → still (side_end side) ≡ side_end (still side)
still_end None = refl
still_end (Some v) = refl

pub of_slack : (d : DeckValue) (j : ℕ) (low high : Option ℤ) → length d.columns ≤ j → j < length d.columns + length d.rows → (low, high) ≡ ends_on d (root d) j → (still low, still high) ≡ ends_on (directions d) (root (directions d)) j
of_slack d j low high ge l e =
    let i : ℕ = j - length d.columns in
    let at : length d.columns + i ≡ j = omega arith in
    let k : i < length d.rows = omega arith in
    let row = (item_at d.rows i k).0 in
    let r = slice_index_or d.rows i row in
    ap (λ (x : Option ℤ × Option ℤ). (still x.0, still x.1)) (e ∙ ap (λ (n : ℕ). ends_on d (root d) n) (sym at) ∙ own_slack d i row k)
    ∙ ap (λ (o : Option ℤ). (o, still (side_end r.high))) (still_end r.low) ∙ ap (λ (o : Option ℤ). (side_end (still r.low), o)) (still_end r.high)
    ∙ sym (start_slack d i row k) ∙ ap (λ (n : ℕ). ends_on (directions d) (root (directions d)) n) at

-- ---- whether the end that a reduced cost wants is finite

pub by_sign : (at : At) (x : Rational) (ends : Option ℤ × Option ℤ) (low high : Option ℤ) (b : Bool) → at ≢ Basic → low ≡ ends.0 → high ≡ ends.1
    → (IsTrue b ↔ ((pos 0 <ℤ x.num → IsSome low) × (x.num <ℤ pos 0 → IsSome high))) → IsTrue b ↔ IsWantedEndFinite at x ends
by_sign at x ends low high b ne e f h = (
  λ t. record { low = λ n p. subst (λ (o : Option ℤ). IsSome o) e ((h.0 t).0 p); high = λ n p. subst (λ (o : Option ℤ). IsSome o) f ((h.0 t).1 p) },
  λ w. h.1 (λ p. subst (λ (o : Option ℤ). IsSome o) (sym e) (w.low ne p), λ p. subst (λ (o : Option ℤ). IsSome o) (sym f) (w.high ne p)),
)

-- one column more
pub wanted_more : (d : DeckValue) (s : State) (n : ℕ) → ((j : ℕ) → j < n → IsWantedEndFinite (at_of s j) (reduced_of s j) (ends_on d (root d) j)) → IsWantedEndFinite (at_of s n) (reduced_of s n) (ends_on d (root d) n)
    → (j : ℕ) → j < n + 1 → IsWantedEndFinite (at_of s j) (reduced_of s j) (ends_on d (root d) j)
wanted_more d s n before own j l = elim (last_or j n l) [
  | inl e ↦ subst (λ (i : ℕ). IsWantedEndFinite (at_of s i) (reduced_of s i) (ends_on d (root d) i)) (sym e) own
  | inr k ↦ before j k
]
  where
    last_or : (j n : ℕ) → j < n + 1 → (j ≡ n) ⊎ (j < n)
    last_or j n l = grind arith
