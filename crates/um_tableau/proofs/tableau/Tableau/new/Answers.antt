use Rattle.std.proofs.Common.{◌<◌, ◌^◌, refl, subst, sym}
use Rattle.um_lp.specs.States.{Frame, width}
use Rattle.um_lp.specs.Relaxations.{frame_of}
use Rattle.um_lp.proofs.Starts.{IsBoard-start, IsStart-start}
use Rattle.um_tableau.specs.Sheets.{state_of}
use Rattle.um_tableau.proofs.KeptBoards.{stands_of}
use Rattle.um_tableau.proofs.BoardActs.{first_room}
use Rattle.um_tableau.proofs.tableau.Tableau.new.Goals as goal

pub invariant_of-result : goal.invariant_of-result
invariant_of-result c =
    let f = c.in_ok-given.given in
    let s = c.in_ok-sheet.sheet in
    let h = c.in_ok-sheet.ensures.basis in
    record {
      size = subst (λ (g : Frame). width g < 2 ^ 32) (sym c.in_ok-given.ensures) c.requires.size;
      first_are = c.in_ok-first.ensures;
      stands = stands_of (state_of f s) (IsBoard-start (state_of f s) h);
      ends_in = c.in_ok-sheet.ensures.ends;
      room = first_room f s c.in_ok-spare.spare h c.in_ok-spare.ensures.lines c.in_ok-spare.ensures.moved;
    }

pub returns : goal.returns
returns c = IsStart-start (frame_of c.args.relaxation.now) (state_of c.in_ok-given.given c.in_ok-sheet.sheet) c.in_ok-given.ensures refl c.in_ok-sheet.ensures.costs c.in_ok-sheet.ensures.basis
