use Rattle.std.proofs.Common.{ℕ, ◌+◌, ℤ, List, length, slice_index_or, arith, sym, ◌∙◌, ap, subst, Option, None}
use Rattle.std.specs.Global.{Global}
use Rattle.std.specs.Prelude.{Vec, slice_index}
use Rattle.std.specs.Vec.{with_items}
use Rattle.std.proofs.lemmas.List.{with_items_is}
use Rattle.um_laws.specs.Rational.{Rational}
use Rattle.um_lp.specs.States.{width}
use Rattle.um_lp.specs.declared.board.At.{At}
use Rattle.um_num.specs.NumberLists.{number_at}
use Rattle.um_tableau.specs.Rows.{AreLong}
use Rattle.um_tableau.specs.Starts.{AreCosts, AreFirstStatuses, AreSystemRows}
use Rattle.um_tableau.proofs.Copies.{written_rows, written_costs, cleared_in, room_of}
use Rattle.um_tableau.proofs.FirstBasis.{first_basis}
use Rattle.um_tableau.proofs.sheet.Sheet.restart.Goals as goal

pub returns-clause-basis : goal.returns-clause-basis
returns-clause-basis c =
    let s = c.args.self.now in
    let f = c.args.given.now in
    let room = c.args.spare.now.lines in
    let z = c.requires.sized in
    let basic = with_items_is s.basic c.write_slacks.new.basic (omega (arith, s.basic.ok.0)) in
    let at = with_items_is s.at c.write_statuses.new.at (omega (arith, s.at.ok.0)) in
    let ends = with_items_is s.ends c.clear_ends.new.ends (omega (arith, s.ends.ok.0)) in
    let values = with_items_is s.values c.clear_values.new.values (omega (arith, s.values.ok.0)) in
    first_basis f
    (record {
      basic = with_items s.basic c.write_slacks.new.basic;
      at = with_items s.at c.write_statuses.new.at;
      ends = with_items s.ends c.clear_ends.new.ends;
      entries = c.swap.new.x;
      costs = c.args.costs;
      reduced = c.swap-2.new.x;
      values = with_items s.values c.clear_values.new.values;
    })
    (record {
      basic = record {
        height = ap length basic ∙ (omega (arith, z.basic));
        slacks = λ i l. ap (λ (xs : List ℕ). slice_index xs i) basic ∙ c.write_slacks.ensures i (omega (arith, z.basic)) ∙ ap (λ (n : ℕ). n + i) c.first_slack.ensures;
      };
      at = subst (λ (xs : List At). AreFirstStatuses f xs) (sym at) c.write_statuses.ensures;
      ends_long = ap length ends ∙ (omega (arith, z.ends));
      ends = λ j l. ap (λ (xs : List (Option ℤ × Option ℤ)). slice_index_or xs j (None, None)) ends ∙ c.clear_ends.ensures j (omega (arith, z.ends));
      entries = subst (λ (v : Vec (List Rational) Global). AreSystemRows f f.rows v.items) (sym c.swap.ensures.x_after) (written_rows c.args.costs f c.args.first.now room c.requires.lines c.requires.written);
      reduced = subst (λ (line : List Rational). AreCosts c.args.costs f line) (sym c.swap-2.ensures.x_after) (written_costs c.args.costs f c.args.first.now room c.requires.lines c.requires.written);
      values_long = ap length values ∙ (omega (arith, z.values));
      values = λ j l. ap (λ (xs : List Rational). number_at xs j) values ∙ c.clear_values.ensures j (omega (arith, z.values));
    })

pub returns-clause-ends : goal.returns-clause-ends
returns-clause-ends c =
    let s = c.args.self.now in
    let ends = with_items_is s.ends c.clear_ends.new.ends (omega (arith, s.ends.ok.0)) in
    cleared_in _ (λ j l. ap (λ (xs : List (Option ℤ × Option ℤ)). slice_index_or xs j (None, None)) ends ∙ c.clear_ends.ensures j (let e = ap length ends in omega arith))

pub returns-clause-spare : goal.returns-clause-spare
returns-clause-spare c =
    let f = c.args.given.now in
    let room = c.requires.room in
    let z = c.requires.sized in
    room_of f _ _
    (ap (λ (v : Vec (List Rational) Global). length v.items) c.swap.ensures.x_after ∙ room.height)
    (ap (λ (line : List Rational). length line) c.swap-2.ensures.x_after ∙ room.reduced_long)
    (record {
      height = ap (λ (v : Vec (List Rational) Global). length v.items) c.swap.ensures.y_after ∙ z.entries;
      long = subst (λ (v : Vec (List Rational) Global). AreLong (width f) v.items) (sym c.swap.ensures.y_after) z.long;
      line_long = room.line_long;
      reduced_long = ap (λ (line : List Rational). length line) c.swap-2.ensures.y_after ∙ z.reduced;
    })
    c.requires.moved
