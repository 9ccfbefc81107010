-- The first numbers of a board.
use Rattle.std.proofs.Common.{◌≡◌, ℕ, ◌<◌, ℤ, pos, negsuc, ◌+ℤ◌, ◌*ℤ◌, List, [], ◌∷◌, length, map, replicate, slice_set, cond, arith, ◌∙◌, ap, refl}
use Rattle.std.proofs.lemmas.List.{get_or-map, get_or-replicate, get_or-set_same, get_or-set_other, length-map, length-replicate}
use Rattle.um_laws.specs.Rational.{Rational, whole, add, neg}
use Rattle.um_laws.proofs.RationalField.{is_whole, is_add, zero_value}
use Rattle.um_laws.proofs.Ring.{var, nought, ◌⊕◌, opp}
use Rattle.um_num.specs.NumberLists.{number_at}
use Rattle.um_lp.specs.States.{Frame, width, slack, data_of, coefficient, system}
use Rattle.um_laws.proofs.RationalEquations.{by_ring}
use Rattle.um_lp.proofs.Rows.{by_row}
use Rattle.um_lines.specs.Lines.{whole_at}
use Rattle.um_lp.specs.declared.board.Costs.TheVariants.{Nothing}
use Rattle.um_tableau.specs.Starts.{bare, AreCosts}

-- minus one, as a whole number and as a negative
pub minus_one_is : whole (negsuc 0) ≡ neg (whole (pos 1))
minus_one_is =
    let none : add (whole (pos 1)) (whole (negsuc 0)) ≡ whole (pos 0) =
    zero_value (add (whole (pos 1)) (whole (negsuc 0))) (pos 1 *ℤ pos 1 +ℤ negsuc 0 *ℤ pos 1) 1 (omega arith) (is_add (whole (pos 1)) (whole (negsuc 0)) (pos 1) (negsuc 0) 1 1 (is_whole (pos 1)) (is_whole (negsuc 0))) refl in
    by_ring (whole (pos 1) ∷ whole (negsuc 0) ∷ []) (var 1) ((var 0 ⊕ var 1) ⊕ opp (var 0)) refl
    ∙ ap (λ (x : Rational). add x (neg (whole (pos 1)))) none
    ∙ by_ring (whole (pos 1) ∷ []) (nought ⊕ opp (var 0)) (opp (var 0)) refl

pub number_of_wholes : (nums : List ℤ) (j : ℕ) → j < length nums → number_at (map whole nums) j ≡ whole (whole_at nums j)
number_of_wholes nums j l = get_or-map whole nums j (pos 0) (whole (pos 0)) l

-- the coefficients with -1 at the slack are a row of the system
pub system_at : (f : Frame) (row : ℕ) (nums : List ℤ) → slack f row < length nums → ((j : ℕ) → j < width f → whole_at nums j ≡ coefficient (data_of (bare f) j).terms row)
    → (j : ℕ) → j < width f → whole (whole_at (slice_set nums (slack f row) (negsuc 0)) j) ≡ system (bare f) row j
system_at f row nums fits coefficients j l =
    let at : ℕ = slack f row in
    by_row (λ b. whole (whole_at (slice_set nums at (negsuc 0)) j) ≡ cond b (neg (whole (pos 1))) (whole (coefficient (data_of (bare f) j).terms row))) j at
    (λ same. ap (λ (n : ℕ). whole (whole_at (slice_set nums at (negsuc 0)) n)) same ∙ ap whole (get_or-set_same nums at (negsuc 0) (pos 0) fits) ∙ minus_one_is)
    (λ other. ap whole (get_or-set_other nums at j (negsuc 0) (pos 0) other ∙ coefficients j l))

-- a line of zeros charges nothing
pub zero_costs : (f : Frame) (nums : List ℤ) (line : List Rational) → nums ≡ replicate (width f) (pos 0) → line ≡ map whole nums → AreCosts Nothing f line
zero_costs f nums line hn hl =
    let long : length nums ≡ width f = ap length hn ∙ length-replicate (width f) (pos 0) in
    record {
      long = ap length hl ∙ length-map nums whole ∙ long;
      numbers = λ j l. ap (λ (xs : List Rational). number_at xs j) hl ∙ number_of_wholes nums j (omega arith) ∙ ap (λ (xs : List ℤ). whole (whole_at xs j)) hn ∙ ap whole (get_or-replicate (width f) j (pos 0) (pos 0) l);
    }
