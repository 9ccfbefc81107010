use Rattle.std.proofs.Common.{Result, IfErr, rules, sym, subst, ap, ◌∙◌, pos, inl, inr}
use Rattle.std.specs.Ordering.{int_cmp}
use Rattle.um_num.specs.declared.exact.Wide.{Wide}
use Rattle.um_lp.specs.Refusals.{IsRefusedAt}
use Rattle.um_lp.specs.DualSteps.{CanMove, MayEnter}
use Rattle.um_lp.specs.States.{entry_of}
use Rattle.um_lp.specs.declared.board.At.{At}
use Rattle.um_laws.specs.Rational.{Rational}
use Rattle.um_num.specs.Sizes.{IsSmall}
use Rattle.um_lp.proofs.RefusedReads.{refused_at, quotient_fits, entry_small, cost_small}
use Rattle.um_dual.specs.Choices.{IsRefusedRatio}
use Rattle.um_dual.proofs.Signs.{can_move_not_zero}
use Rattle.um_dual.proofs.entering_column.ratio_of.Goals as goal

pub div-requires : goal.div-requires
div-requires g c = can_move_not_zero c.at.result c.args.to c.in_ok-entry.entry ((c.can_move.ensures c.in_ok-entry.entry (c.in_ok-sign.ensures.value ∙ ap (λ (x : Rational). int_cmp x.num (pos 0)) (sym c.in_ok-entry.ensures.value))).0 c.if-not-can_move.false)

pub returns-in_err-sign-clause-wide : goal.returns-in_err-sign-clause-wide
returns-in_err-sign-clause-wide g c =
    let s = g.B.Board.state c.args.board.now in
    let here : IsRefusedRatio s c.args.row c.args.to c.in_err-sign.field-0.0 = record { column = c.args.column; within = c.requires.column; may = inr c.in_err-sign.ensures.large; refused = c.in_err-sign.ensures.wide } in
    search (rules, here)

pub returns-in_err-entry-clause-wide : goal.returns-in_err-entry-clause-wide
returns-in_err-entry-clause-wide g c =
    let s = g.B.Board.state c.args.board.now in
    let may : MayEnter s c.args.row c.args.to c.args.column = subst (λ (a : At). CanMove a c.args.to (entry_of s c.args.row c.args.column)) c.at.ensures ((c.can_move.ensures (entry_of s c.args.row c.args.column) c.in_ok-sign.ensures.value).0 c.if-not-can_move.false) in
    let here : IsRefusedRatio s c.args.row c.args.to c.in_err-entry.field-0.0 = record { column = c.args.column; within = c.requires.column; may = inl may; refused = c.in_err-entry.ensures.wide } in
    search (rules, here)

pub returns-in_err-cost-clause-wide : goal.returns-in_err-cost-clause-wide
returns-in_err-cost-clause-wide g c =
    let s = g.B.Board.state c.args.board.now in
    let may : MayEnter s c.args.row c.args.to c.args.column = subst (λ (a : At). CanMove a c.args.to (entry_of s c.args.row c.args.column)) c.at.ensures ((c.can_move.ensures (entry_of s c.args.row c.args.column) c.in_ok-sign.ensures.value).0 c.if-not-can_move.false) in
    let here : IsRefusedRatio s c.args.row c.args.to c.in_err-cost.field-0.0 = record { column = c.args.column; within = c.requires.column; may = inl may; refused = c.in_err-cost.ensures.wide } in
    search (rules, here)

pub returns-in_err-quotient-clause-wide : goal.returns-in_err-quotient-clause-wide
returns-in_err-quotient-clause-wide g c =
    let s = g.B.Board.state c.args.board.now in
    let may : MayEnter s c.args.row c.args.to c.args.column = subst (λ (a : At). CanMove a c.args.to (entry_of s c.args.row c.args.column)) c.at.ensures ((c.can_move.ensures (entry_of s c.args.row c.args.column) c.in_ok-sign.ensures.value).0 c.if-not-can_move.false) in
    let board = g.met.B.Board.belongs c.args.board.now in
    let refused = refused_at s c.div.result c.div.ensures.refused
    (λ h. c.div.ensures.taken (quotient_fits c.in_ok-cost.cost c.in_ok-entry.entry
    (subst IsSmall (sym c.in_ok-cost.ensures.value) (cost_small s c.args.column board c.requires.column h))
    (subst IsSmall (sym c.in_ok-entry.ensures.value) (entry_small s c.args.row c.args.column board c.requires.row c.requires.column h)))) in
    let here : IsRefusedRatio s c.args.row c.args.to c.in_err-quotient.field-0.0 = record { column = c.args.column; within = c.requires.column; may = inl may; refused = subst (λ (r : Result Rational Wide). IfErr r (IsRefusedAt s)) c.in_err-quotient.was refused } in
    search (rules, here)

pub returns-then-not-can_move-clause-ratio : goal.returns-then-not-can_move-clause-ratio
returns-then-not-can_move-clause-ratio g c may =
    let s = g.B.Board.state c.args.board.now in
    let here : CanMove c.at.result c.args.to (entry_of s c.args.row c.args.column) = subst (λ (a : At). CanMove a c.args.to (entry_of s c.args.row c.args.column)) (sym c.at.ensures) may in
    let can = (c.can_move.ensures (entry_of s c.args.row c.args.column) c.in_ok-sign.ensures.value).1 here in
    cc
