use Rattle.std.proofs.Common.{None, ap, ◌∙◌, arith, length, slice_index_or, List}
use Rattle.std.proofs.lemmas.List.{length-replicate, get_or-replicate}
use Rattle.um_laws.specs.Rational.{Rational}
use Rattle.um_num.specs.NumberLists.{number_at}
use Rattle.um_lp.specs.declared.board.Costs.TheVariants.{Given}
use Rattle.um_tableau.proofs.FirstBasis.{first_basis}
use Rattle.um_tableau.proofs.making.first_sheet.Goals as goal

pub returns-clause-basis : goal.returns-clause-basis
returns-clause-basis c =
    let wide = c.width-width.ensures in
    first_basis c.args.given.now
    (record { basic = c.in_ok-basic.basic; at = c.in_ok-at.at; ends = c.in_ok-ends.ends; entries = c.in_ok-entries.entries; costs = Given; reduced = c.in_ok-reduced.reduced; values = c.in_ok-values.values })
    (record {
      basic = c.in_ok-basic.ensures;
      at = c.in_ok-at.ensures;
      ends_long = ap length c.in_ok-ends.ensures ∙ length-replicate c.width-width.result _ ∙ wide;
      ends = λ j l. ap (λ ends. slice_index_or ends j (None, None)) c.in_ok-ends.ensures ∙ get_or-replicate c.width-width.result j _ _ (omega arith);
      entries = c.in_ok-entries.ensures;
      reduced = c.in_ok-reduced.ensures;
      values_long = ap length c.in_ok-values.ensures ∙ length-replicate c.width-width.result _ ∙ wide;
      values = λ j l. ap (λ (xs : List Rational). number_at xs j) c.in_ok-values.ensures ∙ get_or-replicate c.width-width.result j _ _ (omega arith);
    })
