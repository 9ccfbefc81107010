-- What a reset of the sheet means for the board, and where it is refused.
use Rattle.std.proofs.Common.{◌≡◌, ℕ, ◌<◌, pos, List, [], ◌++◌, length, slice_index_or, arith, sym, subst, refl, inl, inr, Result, Ok, Err, IfErr, OnOk, OnErr, ◌||◌}
use Rattle.std.specs.Result.{IsOk}
use Rattle.std.proofs.lemmas.Bool.{cases_Bool}
use Rattle.std.proofs.lemmas.List.Elements.{All-get_or}
use Rattle.um_laws.specs.Rational.{Rational, whole}
use Rattle.um_num.specs.declared.exact.Wide.{Wide}
use Rattle.um_num.specs.Numbers.{IsOutOfRange}
use Rattle.um_lp.specs.Boards.{IsReset}
use Rattle.um_lp.specs.Refusals.{IsRefusedAct}
use Rattle.um_lp.specs.States.{State, Frame, width, system, charge, data_of}
use Rattle.um_lp.specs.WideStates.{is_wide, joined, numbers_of, AreNarrow}
use Rattle.um_lp.specs.declared.board.Costs.{Costs}
use Rattle.um_lp.proofs.NarrowNumbers.{neither}
use Rattle.um_lp.proofs.NarrowParts.{narrow_right, state_rows, state_reduced}
use Rattle.um_lp.proofs.RefusedReads.{not_wide}
use Rattle.um_lp.proofs.ResetStates.{after_reset, after_reset_basis, reset_leads}
use Rattle.um_lp.proofs.Starts.{HasSlackBasis, IsBoard-start, IsReset-start}
use Rattle.um_lines.proofs.Shorts.{never}
use Rattle.um_tableau.specs.Rows.{row_at}
use Rattle.um_tableau.specs.Sheets.{state_of, AreEndsInRange}
use Rattle.um_tableau.specs.Stands.{Stands}
use Rattle.um_tableau.proofs.KeptBoards.{stands_of}
use Rattle.um_tableau.specs.Starts.{bare, charged, AreCosts, AreFirstLines, IsSized}
use Rattle.um_tableau.specs.declared.reset.FirstLines.{FirstLines}
use Rattle.um_tableau.specs.declared.sheet.Sheet.{Sheet}
use Rattle.um_tableau.proofs.BoardActs.{by_result}
use Rattle.um_tableau.proofs.Copies.{charged_costs}
use Rattle.um_tableau.proofs.NewLines.{same_line}

-- the sheet of a board has a place for each row and each column
pub sized_of : (f : Frame) (s : Sheet) → Stands (state_of f s) → IsSized f s
sized_of f s h = record { basic = h.basic; at = h.at; ends = h.ends; entries = h.entries; long = h.long; reduced = h.reduced; values = h.values }

pub reset_is : (taken : Costs) (f : Frame) (s t : Sheet) (r : Result (Unit {0}) Wide) → OnOk r (HasSlackBasis (state_of f t)) → OnOk r (t.costs ≡ taken) → OnOk r (IsReset taken (state_of f s) (state_of f t))
reset_is taken f s t (Ok x) h e = IsReset-start taken (state_of f s) (state_of f t) refl refl e h
reset_is taken f s t (Err w) h e = tt

-- what the board keeps
pub stands_reset : (f : Frame) (s t : Sheet) (r : Result (Unit {0}) Wide) → OnOk r (HasSlackBasis (state_of f t)) → OnErr r (t ≡ s) → Stands (state_of f s) → Stands (state_of f t)
stands_reset f s t r h e stands = by_result r h e (λ b. stands_of (state_of f t) (IsBoard-start (state_of f t) b)) (λ q. subst (λ (u : Sheet). Stands (state_of f u)) (sym q) stands)

pub ends_reset : (s t : Sheet) (r : Result (Unit {0}) Wide) → OnOk r (AreEndsInRange t.ends.items) → OnErr r (t ≡ s) → AreEndsInRange s.ends.items → AreEndsInRange t.ends.items
ends_reset s t r h e ends = by_result r h e (λ b. b) (λ q. subst (λ (u : Sheet). AreEndsInRange u.ends.items) (sym q) ends)

-- the lines of the making are those of the state to which a reset leads
module _ (taken : Costs) (f : Frame) (first : FirstLines) (h : AreFirstLines f first) where
  abbrev t : State
  t = after_reset taken f

  narrow_rows : AreNarrow (numbers_of t) → (i : ℕ) → i < length first.rows.items → AreNarrow (row_at first.rows.items i)
  narrow_rows ht i l =
      let b : HasSlackBasis t = after_reset_basis taken f in
      let li : i < f.rows = omega (arith, h.rows.height) in
      let lt : i < length t.entries = (let e = b.shape.entries in omega arith) in
      let own = h.rows.lines_are i li in
      let same : slice_index_or t.entries i [] ≡ row_at first.rows.items i =
      same_line (slice_index_or t.entries i []) (row_at first.rows.items i) (width f) (system (bare f) i) (All-get_or (λ (row : List Rational). length row ≡ width f) t.entries i [] lt b.shape.long) own.long (λ j m. b.entries i j li m) own.numbers in
      subst AreNarrow same (state_rows t i lt ht)

  narrow_charged : AreNarrow (numbers_of t) → AreNarrow (charged taken first)
  narrow_charged ht =
      let b : HasSlackBasis t = after_reset_basis taken f in
      let own : AreCosts taken f (charged taken first) = charged_costs taken f first h in
      subst AreNarrow (same_line t.reduced (charged taken first) (width f) (λ j. whole (charge taken (data_of (bare f) j).cost)) b.shape.reduced own.long b.reduced own.numbers) (state_reduced t ht)

  narrow_zeros : AreNarrow (numbers_of t) → AreNarrow first.zeros
  narrow_zeros ht =
      let b : HasSlackBasis t = after_reset_basis taken f in
      subst AreNarrow (same_line t.values first.zeros (width f) (λ j. whole (pos 0)) b.shape.values h.zeros.long b.values h.zeros.numbers) (narrow_right (joined t.entries ++ t.reduced) t.values ht)

pub reset_refused : (taken : Costs) (f : Frame) (s : Sheet) (first : FirstLines) (r : Result (Unit {0}) Wide) → AreFirstLines f first → IfErr r IsOutOfRange
    → (((i : ℕ) → i < length first.rows.items → AreNarrow (row_at first.rows.items i)) → AreNarrow (charged taken first) → AreNarrow first.zeros → IsOk r)
    → IfErr r (IsRefusedAct (state_of f s) (IsReset taken (state_of f s)))
reset_refused taken f s first (Ok x) h out narrow = tt
reset_refused taken f s first (Err w) h out narrow =
    let S : State = state_of f s in
    let T : State = after_reset taken f in
    record {
      operation = out;
      next = T;
      leads = reset_leads taken S;
      wide = elim (cases_Bool (is_wide S || is_wide T)) [
        | inl yes' ↦ yes'
        | inr no' ↦
            let none = neither _ _ no' in
            let ht : AreNarrow (numbers_of T) = not_wide T none.1 in
            never (narrow (narrow_rows taken f first h ht) (narrow_charged taken f first h ht) (narrow_zeros taken f first h ht))
      ];
    }
