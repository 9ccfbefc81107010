use Rattle.std.proofs.Common.{◌^◌, ◌<◌, ◌≤◌, pos, length, unsigned_abs, refl, sym, arith, FitsSigned, w64}
use Rattle.std.proofs.lemmas.Bool.{false≢true}
use Rattle.std.proofs.lemmas.Int.{to_z-of_z, fits_signed_from_abs}
use Rattle.um_model.specs.Values.{plain_point}
use Rattle.um_model.specs.Feasible.{part, IntegerHolds}
use Rattle.um_point.proofs.PlaceLemmas.{holds_more, first_failure}
use Rattle.um_split.specs.Branchings.{IsFirstPart}
use Rattle.um_split.proofs.Floors.{floor_size}
use Rattle.um_split.proofs.branching.broken_integer.Goals as goal

pub returns-in-Some-clause-branch : goal.returns-in-Some-clause-branch
returns-in-Some-clause-branch c =
    let column = c.loop-column.column in
    let inside : column < length c.args.deck.now.columns = omega (arith, c.loop-column-test.true, c.column_count-column-end.ensures) in
    let there : column < length c.args.point.now.parts.items = omega (arith, inside, c.requires.parts) in
    let small : unsigned_abs (part c.args.point.now.parts.items column) < 2 ^ 36 = c.requires.part_sizes column (pos 0) there in
    let size : unsigned_abs c.in-Some.below ≤ 2 ^ 36 = floor_size c.args.point.now.den (part c.args.point.now.parts.items column) c.in-Some.below c.requires.den c.in-Some.ensures.floor (2 ^ 36) small in
    let short : FitsSigned w64 c.in-Some.below = fits_signed_from_abs w64 c.in-Some.below (omega (arith, size)) in
    let first : IsFirstPart c.args.deck.now (plain_point c.args.point.now) column c.in-Some.below = record {
      first = first_failure (IntegerHolds (plain_point c.args.point.now)) c.args.deck.now.columns column inside c.loop-column.invariant (λ h. false≢true (sym (c.in-Some.ensures.whole.1 h)));
      floor = c.in-Some.ensures.floor;
    } in
    simp to_z-of_z first

pub loop-column-preserved : goal.loop-column-preserved
loop-column-preserved c = holds_more (IntegerHolds (plain_point c.args.point.now)) c.args.deck.now.columns c.loop-column.column c.loop-column.invariant (c.in_default.ensures.whole.0 refl)
