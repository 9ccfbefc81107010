use Rattle.std.proofs.Common.{◌≡◌, refl, sym, ap, ◌∙◌, inr, length}
use Rattle.std.proofs.lemmas.List.{length-map}
use Rattle.um_model.specs.Values.{plain_column}
use Rattle.um_model.specs.AnswerValues.{Bounded, Empty, OpenLeaf}
use Rattle.um_treetext.specs.NodeLines.{void_said, zero_word}
use Rattle.um_treetext.specs.Words.{from_zero_word}
use Rattle.um_treetext.proofs.PriceWords.{shown_faults, shown_ok}
use Rattle.um_treetext.proofs.WantOfMemory.{hands_on}
use Rattle.um_treetext.proofs.reading.nodes.read_behind.Goals as goal

pub returns-in_err-read_multipliers-in-Bounded : goal.returns-in_err-read_multipliers-in-Bounded
returns-in_err-read_multipliers-in-Bounded c =
    let h = rw c.rows-rows.ensures at c.in_err-read_multipliers-in-Bounded.ensures in
    hands_on _ c.in_err-read_multipliers-in-Bounded.field-0.0 _ _ c.from_residual.ensures.1 (rw c.in-Bounded.is (shown_faults Bounded from_zero_word _ _ _ h))

pub returns-in_ok-read_multipliers-in-Bounded : goal.returns-in_ok-read_multipliers-in-Bounded
returns-in_ok-read_multipliers-in-Bounded c =
    let h = rw c.rows-rows.ensures at c.in_ok-read_multipliers-in-Bounded.ensures in
    rw c.in-Bounded.is (shown_ok Bounded from_zero_word _ _ _ _ h)

pub returns-in_err-read_empty-in-Empty : goal.returns-in_err-read_empty-in-Empty
returns-in_err-read_empty-in-Empty c =
    let h = rw c.rows-rows.ensures at c.in_err-read_empty-in-Empty.ensures in
    hands_on _ c.in_err-read_empty-in-Empty.field-0.0 _ _ c.from_residual-in_err-read_empty-in-Empty.ensures.1 (rw c.in-Empty.is (shown_faults Empty zero_word _ _ _ h))

pub returns-in_ok-read_empty-in-Empty : goal.returns-in_ok-read_empty-in-Empty
returns-in_ok-read_empty-in-Empty c =
    let h = rw c.rows-rows.ensures at c.in_ok-read_empty-in-Empty.ensures in
    rw c.in-Empty.is (shown_ok Empty zero_word _ _ _ _ h)

pub returns-in_err-read_multipliers-in-Open : goal.returns-in_err-read_multipliers-in-Open
returns-in_err-read_multipliers-in-Open c =
    let h = rw c.rows-rows.ensures at c.in_err-read_multipliers-in-Open.ensures in
    hands_on _ c.in_err-read_multipliers-in-Open.field-0.0 _ _ c.from_residual-in_err-read_multipliers-in-Open.ensures.1 (rw c.in-Open.is (shown_faults OpenLeaf from_zero_word _ _ _ h))

pub returns-in_ok-read_multipliers-in-Open : goal.returns-in_ok-read_multipliers-in-Open
returns-in_ok-read_multipliers-in-Open c =
    let h = rw c.rows-rows.ensures at c.in_ok-read_multipliers-in-Open.ensures in
    rw c.in-Open.is (shown_ok OpenLeaf from_zero_word _ _ _ _ h)

pub returns-in_err-read_void-in-Void : goal.returns-in_err-read_void-in-Void
unfolding void_said
returns-in_err-read_void-in-Void c =
    let size : length c.args.deck.now.columns ≡ length c.columns.result.now = ap length (sym c.columns.ensures) ∙ length-map c.columns.result.now plain_column in
    hands_on _ c.in_err-read_void-in-Void.field-0.0 _ _ c.from_residual-in_err-read_void-in-Void.ensures.1 (inr (rw (c.in-Void.is, size, c.in_err-read_void-in-Void.ensures) refl))

pub returns-in_ok-read_void-in-Void : goal.returns-in_ok-read_void-in-Void
unfolding void_said
returns-in_ok-read_void-in-Void c =
    let size : length c.args.deck.now.columns ≡ length c.columns.result.now = ap length (sym c.columns.ensures) ∙ length-map c.columns.result.now plain_column in
    rw (c.in-Void.is, size, c.in_ok-read_void-in-Void.ensures) refl
