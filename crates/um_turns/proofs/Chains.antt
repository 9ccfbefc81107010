-- The board and the pivots behind a history with one turn more.
use Rattle.std.proofs.Common.{◌≡◌, ℕ, ◌+◌, ◌-◌, ◌≤◌, [], ◌∷◌, ◌++◌, refl, arith}
use Rattle.um_lp.specs.States.{State}
use Rattle.um_progress.specs.Numbers.{Number}
use Rattle.um_turns.specs.Turns.{Turn}
use Rattle.um_turns.specs.Histories.{History, AreChained, state_behind, left_behind, pivots_of}

pub state_more : (s : State) (history : History) (n : Number Turn) → state_behind s (history ++ n ∷ []) ≡ n.told.after
state_more s [] n = refl
state_more s (m ∷ ms) n = state_more m.told.after ms n

pub left_more : (left : ℕ) (history : History) (n : Number Turn) → left_behind left (history ++ n ∷ []) ≡ left_behind left history - n.pivots
left_more left [] n = refl
left_more left (m ∷ ms) n = left_more (left - m.pivots) ms n

pub chained_more : (s : State) (left : ℕ) (history : History) (n : Number Turn) → n.told.before ≡ state_behind s history → n.told.left ≡ left_behind left history → n.pivots ≤ left_behind left history → AreChained s left history → AreChained s left (history ++ n ∷ [])
chained_more s left [] n b l p c = (b, l, p, tt)
chained_more s left (m ∷ ms) n b l p c = (c.0, c.1, c.2, chained_more m.told.after (left - m.pivots) ms n b l p c.3)

-- what is left and what was used are all
pub pivots_all : (s : State) (most : ℕ) (history : History) → AreChained s most history → left_behind most history + pivots_of history ≡ most
pivots_all s most [] c = omega arith
pivots_all s most (n ∷ ns) c = let rest = pivots_all n.told.after (most - n.pivots) ns c.3 in let few = c.2 in omega (arith, rest, few)
