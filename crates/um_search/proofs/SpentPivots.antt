-- A search that stopped for want of pivots made all of its budget.
use Rattle.std.proofs.Common.{◌≡◌, ℕ, suc, ◌+◌, ◌-◌, ◌≤◌, inl, inr, [], ◌∷◌, ◌++◌, length, Option, refl, subst, arith}
use Rattle.um_multipliers.specs.PlainMultipliers.{MultipliersValue}
use Rattle.um_model.specs.Values.{DeckValue}
use Rattle.um_model.specs.Boxes.{BoxValue}
use Rattle.um_model.specs.declared.answer.Why.TheVariants as why
use Rattle.um_lp.specs.States.{State}
use Rattle.um_tree.specs.Growths.{GrowthValue}
use Rattle.um_cover.specs.Sites.{box_at}
use Rattle.um_progress.specs.Numbers.{Number}
use Rattle.um_turns.specs.Turns.{Turn, Halted, EndHolds, HaltHolds}
use Rattle.um_turns.specs.Histories.{History, AreChained, left_behind, IsHistory, pivots_of}
use Rattle.um_turns.proofs.Lists.{get_last}
use Rattle.um_turns.proofs.Chains.{pivots_all}
use Rattle.um_search.specs.declared.budget.Budget.{Budget}
use Rattle.um_search.specs.Told.{IsStepDue, HasSpentPivots}

-- ---- the pivots
chained_last : (s : State) (left : ℕ) (ns : History) (n : Number Turn) → AreChained s left (ns ++ n ∷ []) → AreChained s left ns × (n.told.left ≡ left_behind left ns) × (n.pivots ≤ left_behind left ns)
chained_last s left [] n c = (tt, c.1, c.2)
chained_last s left (m ∷ ms) n c = let h = chained_last m.told.after (left - m.pivots) ms n c.3 in ((c.0, c.1, c.2, h.0), h.1, h.2)

pivots_more : (ns : History) (n : Number Turn) → pivots_of (ns ++ n ∷ []) ≡ pivots_of ns + n.pivots
pivots_more [] n = omega arith
pivots_more (m ∷ ms) n = let h = pivots_more ms n in omega arith

-- a turn that stopped for want of pivots has made all that were left, and a step is due
record HasSpentTurn (d : DeckValue) (b : BoxValue) (n : Number Turn) (number : ℕ) : Type 0 where
  pub all : n.pivots ≡ n.told.left
  pub due : IsStepDue d b n number

spent_turn : (d : DeckValue) (b : BoxValue) (n : Number Turn) (number : ℕ) (own : Option MultipliersValue) → n.pivots ≤ n.told.left → HaltHolds d b n.told n.pivots number why.Pivots own → HasSpentTurn d b n number
spent_turn d b n number own few (inl r) =
    let all = r.holds.all in
    let adds = r.adds in
    record {
      all = omega (arith, all, adds, few);
      due = inl (record { begun = r.begun; early = r.early; steps = r.steps; begins = r.begins; adds = r.adds; holds = (r.holds.state, r.holds.run, r.holds.due) });
    }
spent_turn d b n number own few (inr o) = record { all = o.stopped.stopped.all; due = inr (o.stopped.first, n.told.after, o.stopped.stopped.out) }

-- where the last turn stopped for want of pivots, all are made and a step is due
pub pivots_spent : (d : DeckValue) (start : State) (budget : Budget) (g : GrowthValue) (before : History) (last : Number Turn) (own : Option MultipliersValue) → IsHistory d start budget.pivots g (before ++ last ∷ []) → last.told.end ≡ Halted why.Pivots own → HasSpentPivots d budget g (before ++ last ∷ [])
pivots_spent d start budget g before last own told is =
    let holds = told.holds (length before) last (get_last before last) in
    let chain = chained_last start budget.pivots before last told.chained in
    let at = chain.1 in
    let few = chain.2 in
    let spent = spent_turn d (box_at d g last.id) last (suc (length before)) own (omega (arith, at, few)) (subst (EndHolds d (box_at d g last.id) last.told last.pivots (suc (length before))) is holds.run) in
    let rest = pivots_all start budget.pivots before chain.0 in
    let same = pivots_more before last in
    let all = spent.all in
    record { all = omega (arith, all, at, rest, same); before = before; last = last; history_is = refl; due = spent.due }
