use Rattle.std.proofs.Common.{refl, sym, ◌∙◌}
use Rattle.um_num.proofs.Parts.{from_bits}
use Rattle.um_treetext.proofs.NumberWords.{size_large}
use Rattle.um_treetext.proofs.PriceWords.{parts_err, parts_ok, parts_wide, price_by_sides, price_plain}
use Rattle.um_treetext.proofs.Takes.{fails_with}
use Rattle.um_treetext.proofs.reading.nodes.price_of.Goals as goal

pub returns-in_err-row : goal.returns-in_err-row
returns-in_err-row c =
    let none = c.in_err-row.ensures in
    fails_with _ c.in_err-row.field-0.0 _ c.from_residual.ensures.1 (price_plain c.args.rows c.args.next c.args.word.now none.1 ∙ rw none.0 refl)

pub returns-in_err-row-2 : goal.returns-in_err-row-2
returns-in_err-row-2 c =
    let s = c.in_ok-row.ensures in
    let said = price_by_sides c.args.rows c.args.next c.args.word.now _ _ s.0 s.1 s.2 in
    fails_with _ c.in_err-row-2.field-0.0 _ c.from_residual-in_err-row-2.ensures.1 (said ∙ rw c.in_err-row-2.ensures.numeral refl)

pub returns-in_err-value : goal.returns-in_err-value
returns-in_err-value c =
    let s = c.in_ok-row.ensures in
    let said = price_by_sides c.args.rows c.args.next c.args.word.now _ _ s.0 s.1 s.2 in
    let r = c.in_ok-row-2.ensures.numeral in
    fails_with _ c.in_err-value.field-0.0 _ c.from_residual-in_err-value.ensures.1 (said ∙ rw (r.is, c.in_err-value.ensures.numeral) refl)

pub returns-in_err-row-3 : goal.returns-in_err-row-3
returns-in_err-row-3 c =
    let s = c.in_ok-row.ensures in
    let said = price_by_sides c.args.rows c.args.next c.args.word.now _ _ s.0 s.1 s.2 in
    let r = c.in_ok-row-2.ensures.numeral in
    let v = c.in_ok-value.ensures.numeral in
    let parts = parts_err r.number v.number c.in_err-row-3.field-0.0 (c.in_err-row-3.ensures r.number r.stands) in
    fails_with _ c.in_err-row-3.field-0.0 _ c.from_residual-in_err-row-3.ensures.1 (said ∙ rw (r.is, v.is, parts) refl)

pub returns-in-Small : goal.returns-in-Small
returns-in-Small c =
    let s = c.in_ok-row.ensures in
    let said = price_by_sides c.args.rows c.args.next c.args.word.now _ _ s.0 s.1 s.2 in
    let r = c.in_ok-row-2.ensures.numeral in
    let v = rw c.in-Small.is at c.in_ok-value.ensures.numeral in
    let small = rw c.in-Small.is at c.in_ok-value.ensures.range in
    let parts = parts_ok r.number c.in-Small.value c.in_ok-row-3.row (c.in_ok-row-3.ensures r.number r.stands) small in
    rw (from_bits c.in-Small.value small) at c.price_within.ensures ∙ sym (said ∙ rw (r.is, v.is, ← v.stands, parts) refl)

pub returns-in-Large : goal.returns-in-Large
returns-in-Large c =
    let s = c.in_ok-row.ensures in
    let said = price_by_sides c.args.rows c.args.next c.args.word.now _ _ s.0 s.1 s.2 in
    let r = c.in_ok-row-2.ensures.numeral in
    let v = rw c.in-Large.is at c.in_ok-value.ensures.numeral in
    let parts = parts_wide r.number v.number c.in_ok-row-3.row (c.in_ok-row-3.ensures r.number r.stands) (size_large c.in-Large.negative v.number v.stands) in
    sym (said ∙ rw (r.is, v.is, parts) refl)
