-- The low ends of semicontinuous columns in the root box and in children.
use Rattle.std.proofs.Common.{◌≡◌, ◌∙◌, ℕ, ℤ, pos, ◌+ℤ◌, ◌*ℤ◌, ◌⊎◌, inl, inr, true, List, [], length, slice_get, Option, Some, None, refl, sym, ap, subst}
use Rattle.std.specs.Prelude.{option_map}
use Rattle.std.proofs.lemmas.Bool.{false≢true}
use Rattle.um_laws.proofs.Places.{item_of, after_set}
use Rattle.um_model.specs.Values.{DeckValue, ColumnValue}
use Rattle.um_model.specs.WellFormed.{IsColumn, KindFits, has_arc}
use Rattle.um_model.specs.Boxes.{BoxValue, Ends, free, ends_at, with_ends}
use Rattle.um_model.specs.Branches.{kind_of, threshold_of, threshold_in}
use Rattle.um_model.specs.declared.branch.Branch.TheVariants.{Int, Cut, Semi as OnSemi, One, Two}
use Rattle.um_model.specs.declared.branch.Side.TheVariants.{Left, Right}
use Rattle.um_model.specs.declared.deck.Arc.{Arc}
use Rattle.um_model.specs.declared.deck.Kind.{Kind}
use Rattle.um_model.specs.declared.deck.Kind.TheVariants.{Integer, Semi}
use Rattle.um_deck.proofs.ListParts.{all_at}
use Rattle.um_soundness.proofs.Loops.{root_ends}
use Rattle.um_split.specs.Laws.{SemiRootLaw, SemiChildLaw}
use Rattle.um_split.specs.SemiLows.{HasSemiLows}

-- ---- the root box

-- the column of this kind
column_of : (o : Option ColumnValue) (kind : Kind) → option_map (λ (c : ColumnValue). c.kind) o ≡ Some kind → (c : ColumnValue) × (o ≡ Some c) × (c.kind ≡ kind)
column_of None kind e = absurd (cc)
column_of (Some c) kind e = (c, refl, cc)

pub semi-root-law : SemiRootLaw
semi-root-law d formed column threshold kind =
    let c = column_of (slice_get d.columns column) (Semi threshold) kind in
    let at = item_of d.columns column c.0 c.1 in
    let own : IsColumn (length d.rows) c.0 = all_at (IsColumn (length d.rows)) d.columns column c.0 formed.columns c.1 in
    let fits : KindFits (Semi threshold) c.0.low c.0.high = subst (λ (k : Kind). KindFits k c.0.low c.0.high) c.2 own.kind in
    inl (ap (λ (e : Ends). e.low) (root_ends d column c.0 at.inside) ∙ ap (λ (x : ColumnValue). x.low) (at.is c.0) ∙ fits.0)

-- ---- the children

-- a low end as such a column may have it
abbrev IsSemiLow : ℤ → Ends → Type 0
IsSemiLow threshold e = (e.low ≡ Some (pos 0)) ⊎ (e.low ≡ Some threshold)

-- other ends for a column
put_lows : (d : DeckValue) (b : BoxValue) (column : ℕ) (e : Ends) → HasSemiLows d b → ((threshold : ℤ) → kind_of d column ≡ Some (Semi threshold) → IsSemiLow threshold e) → HasSemiLows d (with_ends b column e)
put_lows d b column e lows here j threshold kind = elim (after_set b.ends column j e free) [
  | inl r ↦ subst (IsSemiLow threshold) (sym r.0) (here threshold (subst (λ (i : ℕ). kind_of d i ≡ Some (Semi threshold)) r.1 kind))
  | inr r ↦ subst (IsSemiLow threshold) (sym r) (lows j threshold kind)
]

-- an integer column is none
not_integer : (d : DeckValue) (column : ℕ) (threshold : ℤ) → kind_of d column ≡ Some Integer → ¬ (kind_of d column ≡ Some (Semi threshold))
not_integer d column threshold is e = absurd (cc)

-- nor has a deck without arcs a column with one
no_arc : (d : DeckValue) (column : ℕ) → d.arcs ≡ [] → ¬ (has_arc d.arcs column ≡ true)
no_arc d column none e = false≢true (subst (λ (arcs : List Arc). has_arc arcs column ≡ true) none e)

pub semi-child-law : SemiChildLaw
semi-child-law d b (Int column below) Left none fits lows = put_lows d b column (record { low = (ends_at b column).low; high = Some (pos 1000 *ℤ below) }) lows (λ t kind. absurd (not_integer d column t fits.kind kind))
semi-child-law d b (Int column below) Right none fits lows = put_lows d b column (record { low = Some (pos 1000 *ℤ (below +ℤ pos 1)); high = (ends_at b column).high }) lows (λ t kind. absurd (not_integer d column t fits.kind kind))
semi-child-law d b (Cut column at) side none fits lows = absurd (no_arc d column none fits.arc)
semi-child-law d b (OnSemi column) Left none fits lows = put_lows d b column (record { low = Some (pos 0); high = Some (pos 0) }) lows (λ t kind. inl refl)
semi-child-law d b (OnSemi column) Right none fits lows = put_lows d b column (record { low = Some (threshold_of d column); high = (ends_at b column).high }) lows (λ t kind. inr (ap (λ (k : Option Kind). Some (threshold_in k)) kind))
semi-child-law d b (One set at) Left none fits lows = lows
semi-child-law d b (One set at) Right none fits lows = lows
semi-child-law d b (Two set at) Left none fits lows = lows
semi-child-law d b (Two set at) Right none fits lows = lows
