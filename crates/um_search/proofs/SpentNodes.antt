-- Where no turn stopped a search, no node that was solved is an open leaf.
use Rattle.std.proofs.Common.{◌≡◌, ℕ, zero, suc, ◌<◌, List, [], ◌∷◌, length, slice_get, Option, Some, None, refl, sym, subst}
use Rattle.um_multipliers.specs.PlainMultipliers.{MultipliersValue}
use Rattle.um_model.specs.Values.{DeckValue}
use Rattle.um_model.specs.AnswerValues.{WhatValue, Split, Bounded, Empty, Void, OpenLeaf}
use Rattle.um_model.specs.declared.tree.Solved.{Solved}
use Rattle.um_lp.specs.States.{State}
use Rattle.um_tree.specs.Growths.{GrowthValue, node_at, what_at}
use Rattle.um_progress.specs.Waits.{Every, IsOpenLeaf}
use Rattle.um_progress.specs.Numbers.{Number, IsNumbered}
use Rattle.um_turns.specs.Turns.{Turn, TurnEnd, Reached, Emptied, Halted, Became, IsFinished}
use Rattle.um_turns.specs.Histories.{History, IsHistory, AreFinished}

every_get : {X : Type 0} (P : X → Type 0) (xs : List X) (place : ℕ) (x : X) → Every P xs → slice_get xs place ≡ Some x → P x
every_get P [] place x e here = absurd (cc)
every_get P (y ∷ ys) zero x e here = let same : y ≡ x = cc in subst P same e.0
every_get P (y ∷ ys) (suc place) x e here = every_get P ys place x e.1 here

became_none : (d : DeckValue) (handed : MultipliersValue) (e : TurnEnd) (w : WhatValue) → IsFinished e → Became d handed e w → ¬ IsOpenLeaf w
became_none d handed e (Split branch) f became o = o
became_none d handed e (Bounded z) f became o = o
became_none d handed e (Empty z) f became o = o
became_none d handed e (Void column) f became o = o
became_none d handed (Reached p y) (OpenLeaf z) f became o = became
became_none d handed (Emptied y) (OpenLeaf z) f became o = became
became_none d handed (Halted cause own) (OpenLeaf z) f became o = f

module _ (d : DeckValue) (start : State) (most : ℕ) (g : GrowthValue) (history : History) (told : IsHistory d start most g history) (numbered : IsNumbered Turn g history) (finished : AreFinished history) where
  solved_closed : (id : ℕ) (s : Solved) → id < length g.nodes → (node_at g id).solved ≡ Some s → ¬ IsOpenLeaf (what_at g id)
  solved_closed id s inside is o =
      let b = numbered.only id inside s is in
      let n : Number Turn = b.1 in
      became_none d n.told.handed n.told.end (what_at g n.id) (every_get (λ (m : Number Turn). IsFinished m.told.end) history b.0 n finished b.2) (told.holds b.0 n b.2).became (subst (λ (j : ℕ). IsOpenLeaf (what_at g j)) (sym b.3) o)

  pub none_solved : (id : ℕ) → id < length g.nodes → IsOpenLeaf (what_at g id) → (node_at g id).solved ≡ None
  none_solved id inside o = by (node_at g id).solved refl
    where
      by : (s : Option Solved) → (node_at g id).solved ≡ s → (node_at g id).solved ≡ None
      by None is = is
      by (Some s) is = absurd (solved_closed id s inside is o)
