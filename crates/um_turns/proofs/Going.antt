-- Where each turn of a history is finished, the next number may be solved on the board behind it, and what that board takes.
use Rattle.std.proofs.Common.{◌≡◌, ◌≢◌, ◌∙◌, ℕ, suc, ◌+◌, ◌-◌, ◌<◌, ◌≤◌, List, [], ◌∷◌, length, slice_get, Option, Some, None, refl, sym, ap, subst, arith}
use Rattle.std.specs.Prelude.{ℤ}
use Rattle.um_model.specs.Values.{DeckValue}
use Rattle.um_model.specs.WellFormed.{IsDeck}
use Rattle.um_model.specs.Boxes.{BoxValue}
use Rattle.um_lp.specs.States.{State}
use Rattle.um_lp.specs.declared.board.Costs.TheVariants.{Given}
use Rattle.um_relax.specs.Runs.{IsRun}
use Rattle.um_solving.specs.RootBoxes.{IsWithinRoot}
use Rattle.um_solving.proofs.Goings.{next-law}
use Rattle.um_relax.proofs.Runs.{same-costs-law}
use Rattle.um_opening.specs.Numbers.{Begins, Onward, WithCosts, WithoutCosts, MayGoOn}
use Rattle.um_opening.specs.Openings.{ShowsRay}
use Rattle.um_opening.proofs.Begun.{begun-law, begun-costs-law}
use Rattle.um_tree.specs.Growths.{GrowthValue, IsGrowth}
use Rattle.um_cover.specs.Descents.{SplitsFit}
use Rattle.um_cover.specs.Sites.{box_at}
use Rattle.um_progress.specs.Numbers.{Number, IsNumbered}
use Rattle.um_turns.specs.Turns.{Turn, TurnEnd, Reached, Emptied, Halted, EndHolds, IsFinished}
use Rattle.um_turns.specs.Histories.{History, IsHistory, AreChained, AreFinished, state_behind, ray_of}
use Rattle.um_turns.specs.Laws.{GoingOnLaw, GoingCostsLaw, ShownLaw}
use Rattle.um_turns.specs.ShownRays.{HasShown}
use Rattle.um_turns.proofs.Lists.{every_at}
use Rattle.um_turns.proofs.TreeWithin.{box_within}

-- ---- one turn

-- a finished turn ran on a box, from where its number was begun
pub record RanTurn (d : DeckValue) (b : BoxValue) (t : Turn) (pivots number : ℕ) : Type 0 where
  pub begun : State
  pub early : ℕ
  pub steps : ℕ
  pub begins : Begins d number t.before early t.ray begun
  pub adds : pivots ≡ early + steps
  pub run : IsRun d b begun steps t.after

pub ran_of : (d : DeckValue) (b : BoxValue) (t : Turn) (pivots number : ℕ) (e : TurnEnd) → EndHolds d b t pivots number e → IsFinished e → RanTurn d b t pivots number
ran_of d b t pivots number (Reached p y) h f = record { begun = h.begun; early = h.early; steps = h.steps; begins = h.begins; adds = h.adds; run = h.holds.run }
ran_of d b t pivots number (Emptied y) h f = record { begun = h.begun; early = h.early; steps = h.steps; begins = h.begins; adds = h.adds; run = h.holds.run }
ran_of d b t pivots number (Halted cause own) h f = absurd f

-- a later number goes on where the one before ended
pub onward : (d : DeckValue) (number : ℕ) (before : State) (early : ℕ) (ray : Option (List ℤ)) (begun : State) → number ≢ 1 → Begins d number before early ray begun → begun ≡ before
onward d number before early ray begun later (Onward other none_early no_ray same) = same
onward d number before early ray begun later (WithCosts first no_ray h) = absurd (later first)
onward d number before early ray begun later (WithoutCosts first shown is h) = absurd (later first)

pub no_ray_later : (d : DeckValue) (number : ℕ) (before : State) (early : ℕ) (ray : Option (List ℤ)) (begun : State) → number ≢ 1 → Begins d number before early ray begun → ray ≡ None
no_ray_later d number before early ray begun later (Onward other none_early no_ray same) = no_ray
no_ray_later d number before early ray begun later (WithCosts first no_ray h) = absurd (later first)
no_ray_later d number before early ray begun later (WithoutCosts first shown is h) = absurd (later first)

-- the turn of a number, on some box within the root box
record WasRun (d : DeckValue) (n : Number Turn) (number : ℕ) : Type 0 where
  pub box : BoxValue
  pub within : IsWithinRoot d box
  pub ran : RanTurn d box n.told n.pivots number

-- the turns from this number on
abbrev WereRun : DeckValue → ℕ → History → Type 0
WereRun d number [] = Unit {0}
WereRun d number (n ∷ ns) = WasRun d n number × WereRun d (suc number) ns

were_run : (d : DeckValue) (number : ℕ) (ns : History) → ((k : ℕ) (n : Number Turn) → slice_get ns k ≡ Some n → WasRun d n (number + k)) → WereRun d number ns
were_run d number [] f = tt
were_run d number (n ∷ ns) f = (
  subst (WasRun d n) (let e : number + 0 ≡ number = omega arith in e) (f 0 n refl),
  were_run d (suc number) ns (λ k m e. subst (WasRun d m) (let s : number + suc k ≡ suc number + k = omega arith in s) (f (suc k) m e)),
)

module _ (d : DeckValue) (formed : IsDeck d) (arcs : d.arcs ≡ []) where
  after_turn : (number : ℕ) (s : State) (n : Number Turn) → number ≢ 0 → MayGoOn d number s → n.told.before ≡ s → WasRun d n number → MayGoOn d (suc number) n.told.after
  after_turn number s n some may same was =
      let before : MayGoOn d number n.told.before = subst (MayGoOn d number) (sym same) may in
      let begun = begun-law d number n.told.before was.ran.early n.told.ray was.ran.begun arcs before was.ran.begins in
      record {
        board = was.ran.run.board;
        first = λ one. absurd (some (omega (arith, one)));
        later = λ _. next-law d was.box was.ran.begun was.ran.steps n.told.after formed was.within begun.stands was.ran.run;
      }

  after_turns : (number : ℕ) (s : State) (left : ℕ) (ns : History) → number ≢ 0 → MayGoOn d number s → AreChained s left ns → WereRun d number ns → MayGoOn d (number + length ns) (state_behind s ns)
  after_turns number s left [] some may c w = subst (λ (k : ℕ). MayGoOn d k s) (let e : number ≡ number + 0 = omega arith in e) may
  after_turns number s left (n ∷ ns) some may c w =
      subst (λ (k : ℕ). MayGoOn d k (state_behind n.told.after ns)) (let e : suc number + length ns ≡ number + suc (length ns) = omega arith in e)
      (after_turns (suc number) n.told.after (left - n.pivots) ns (λ e. absurd (cc)) (after_turn number s n some may c.0 w.0) c.3 w.1)

  -- ---- costs
  -- a later number leaves the costs of the board on which it is solved
  later_costs : (number : ℕ) (s : State) (n : Number Turn) → number ≢ 1 → n.told.before ≡ s → WasRun d n number → n.told.after.costs ≡ s.costs
  later_costs number s n later same was =
      same-costs-law d was.box was.ran.begun was.ran.steps n.told.after was.ran.run
      ∙ ap (λ (x : State). x.costs) (onward d number n.told.before was.ran.early n.told.ray was.ran.begun later was.ran.begins ∙ same)

  all_costs : (number : ℕ) (s : State) (left : ℕ) (ns : History) → (1 < number) → AreChained s left ns → WereRun d number ns → (state_behind s ns).costs ≡ s.costs
  all_costs number s left [] later c w = refl
  all_costs number s left (n ∷ ns) later c w =
      all_costs (suc number) n.told.after (left - n.pivots) ns (omega (arith, later)) c.3 w.1 ∙ later_costs number s n (λ one. absurd (omega (arith, later, one))) c.0 w.0

  first_costs : (s : State) (n : Number Turn) → MayGoOn d 1 s → n.told.before ≡ s → WasRun d n 1 → n.told.ray ≡ None → n.told.after.costs ≡ Given
  first_costs s n may same was none =
      let before : MayGoOn d 1 n.told.before = subst (MayGoOn d 1) (sym same) may in
      same-costs-law d was.box was.ran.begun was.ran.steps n.told.after was.ran.run
      ∙ begun-costs-law d 1 n.told.before was.ran.early was.ran.begun arcs before (subst (λ (r : Option (List ℤ)). Begins d 1 n.told.before was.ran.early r was.ran.begun) none was.ran.begins) (λ later. absurd (later refl))

  costs_behind : (s : State) (left : ℕ) (ns : History) → MayGoOn d 1 s → AreChained s left ns → WereRun d 1 ns → ray_of ns ≡ None → ns ≢ [] → (state_behind s ns).costs ≡ Given
  costs_behind s left [] may c w none some = absurd (some refl)
  costs_behind s left (n ∷ ns) may c w none some = all_costs 2 n.told.after (left - n.pivots) ns (omega arith) c.3 w.1 ∙ first_costs s n may c.0 w.0 none

-- ---- a history
module _ (d : DeckValue) (start : State) (most : ℕ) (g : GrowthValue) (history : History) (formed : IsDeck d) (growth : IsGrowth g) (fit : SplitsFit d g) (numbered : IsNumbered Turn g history) (k : IsHistory d start most g history) (finished : AreFinished history) where
  all_ran : WereRun d 1 history
  all_ran = were_run d 1 history (λ place n e. subst (WasRun d n) (let s : suc place ≡ 1 + place = omega arith in s) (record {
    box = box_at d g n.id;
    within = box_within d g n.id formed growth fit (numbered.inside place n e);
    ran = ran_of d (box_at d g n.id) n.told n.pivots (suc place) n.told.end (k.holds place n e).run (every_at (λ (m : Number Turn). IsFinished m.told.end) history place n finished e);
  }))

  may_start : MayGoOn d 1 start
  may_start = record { board = k.board; first = λ _. k.starts; later = λ later. absurd (later refl) }

pub goes_on : GoingOnLaw
goes_on d start most g history formed arcs growth fit numbered k finished =
    subst (λ (n : ℕ). MayGoOn d n (state_behind start history)) (let e : 1 + length history ≡ suc (length history) = omega arith in e)
    (after_turns d formed arcs 1 start most history (λ e. absurd (cc)) (may_start d start most g history formed growth fit numbered k finished) k.chained (all_ran d start most g history formed growth fit numbered k finished))

pub going_costs : GoingCostsLaw
going_costs d start most g history formed arcs growth fit numbered k finished none some =
    costs_behind d formed arcs start most history (may_start d start most g history formed growth fit numbered k finished) k.chained (all_ran d start most g history formed growth fit numbered k finished) none some

-- ---- the ray that is shown

pub shown_first : (d : DeckValue) (before : State) (early : ℕ) (ray : List ℤ) (begun : State) (most pivots steps : ℕ) → pivots ≡ early + steps → pivots ≤ most → Begins d 1 before early (Some ray) begun → HasShown d before most ray
shown_first d before early ray begun most pivots steps adds few (Onward later none_early no_ray same) = absurd (cc)
shown_first d before early ray begun most pivots steps adds few (WithCosts first no_ray h) = absurd (cc)
shown_first d before early ray begun most pivots steps adds few (WithoutCosts first shown is h) =
    record { pivots = early; within = omega (arith, adds, few); shows = subst (λ (r : List ℤ). ShowsRay d before early r) (same_list shown ray is) h.shows }
  where
    same_list : (a b : List ℤ) → Some b ≡ Some a → a ≡ b
    same_list a b e = cc

pub shown : ShownLaw
shown d start most g [] ray k finished is = absurd (cc)
shown d start most g (n ∷ ns) ray k finished is =
    let ran = ran_of d (box_at d g n.id) n.told n.pivots 1 n.told.end (k.holds 0 n refl).run finished.0 in
    subst (λ (s : State). HasShown d s most ray) k.chained.0
    (shown_first d n.told.before ran.early ray ran.begun most n.pivots ran.steps ran.adds k.chained.2 (subst (λ (r : Option (List ℤ)). Begins d 1 n.told.before ran.early r ran.begun) is ran.begins))
