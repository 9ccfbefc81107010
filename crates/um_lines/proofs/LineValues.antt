-- What the numbers of a line are.
use Rattle.std.proofs.Common.{◌≡◌, ℕ, ◌<◌, ℤ, pos, ◌≤ℤ◌, List, length, map, arith, sym, ◌∙◌, ap, refl, Result, Ok, Err, OnOk}
use Rattle.std.proofs.lemmas.List.{length-map, ext_get_or}
use Rattle.um_laws.specs.Rational.{Rational, whole, add, mul, neg, inverse}
use Rattle.um_num.specs.Views.{rational}
use Rattle.um_num.specs.NumberLists.{number_at}
use Rattle.um_lines.specs.Lines.{whole_at, numbers_of}
use Rattle.um_lines.specs.Nums.{AreSameWholes}
use Rattle.um_lines.proofs.LineNumbers.{number_at-numbers_of, zero_is, zero_above}

-- whole numbers over 1
pub over_one : (nums : List ℤ) → numbers_of (pos 1) nums ≡ map whole nums
unfolding whole
over_one nums = refl

pub length-line : (den : ℤ) (nums : List ℤ) (xs : List Rational) → numbers_of den nums ≡ xs → length nums ≡ length xs
length-line den nums xs e = sym (length-map nums (λ (num : ℤ). rational num den)) ∙ ap length e

-- a number of a line that is read
pub number_in_line : (den : ℤ) (nums : List ℤ) (xs : List Rational) (j : ℕ) → numbers_of den nums ≡ xs → j < length xs → number_at xs j ≡ rational (whole_at nums j) den
number_in_line den nums xs j e l =
    let len : length nums ≡ length xs = length-line den nums xs e in
    ap (λ (ys : List Rational). number_at ys j) (sym e) ∙ number_at-numbers_of den nums j (omega arith)

-- a number of a line is 0 where its whole number is
pub zero_in_line : (den : ℤ) (nums : List ℤ) (xs : List Rational) (j : ℕ) → numbers_of den nums ≡ xs → j < length xs → pos 1 ≤ℤ den → whole_at nums j ≡ pos 0 → number_at xs j ≡ whole (pos 0)
zero_in_line den nums xs j e l up z = number_in_line den nums xs j e l ∙ ap (λ (num : ℤ). rational num den) z ∙ zero_is den up

pub zero_of_line : (den : ℤ) (nums : List ℤ) (xs : List Rational) (j : ℕ) → numbers_of den nums ≡ xs → j < length xs → pos 1 ≤ℤ den → number_at xs j ≡ whole (pos 0) → whole_at nums j ≡ pos 0
zero_of_line den nums xs j e l up z = zero_above (whole_at nums j) den up (sym (number_in_line den nums xs j e l) ∙ z)

-- whole numbers that are the given ones
pub over_one_same : (nums out : List ℤ) → length out ≡ length nums → AreSameWholes nums out → numbers_of (pos 1) out ≡ map whole nums
over_one_same nums out e h = ap (numbers_of (pos 1)) (ext_get_or (pos 0) out nums e (λ j l. h j (omega arith))) ∙ over_one nums

-- ---- lines that are written
-- a line and a multiple of another
pub sum_held : (den : ℤ) (nums : List ℤ) (xs : List Rational) (line_den : ℤ) (line_nums : List ℤ) (ys : List Rational) (out_den : ℤ) (ws : List ℤ) (column : ℕ)
    → numbers_of den nums ≡ xs → numbers_of line_den line_nums ≡ ys → length ys ≡ length xs → length ws ≡ length nums → column < length xs
    → ((j : ℕ) → j < length nums → rational (whole_at ws j) out_den ≡ add (rational (whole_at nums j) den) (mul (rational (whole_at nums column) den) (rational (whole_at line_nums j) line_den)))
    → (j : ℕ) → j < length xs → number_at (numbers_of out_den ws) j ≡ add (number_at xs j) (mul (number_at xs column) (number_at ys j))
sum_held den nums xs line_den line_nums ys out_den ws column f1 f2 ly lw lc value j p =
    let long : length nums ≡ length xs = length-line den nums xs f1 in
    number_at-numbers_of out_den ws j (omega arith)
    ∙ value j (omega arith)
    ∙ ap (λ (x : Rational). add x (mul (rational (whole_at nums column) den) (rational (whole_at line_nums j) line_den))) (sym (number_in_line den nums xs j f1 p))
    ∙ ap (λ (x : Rational). add (number_at xs j) (mul x (rational (whole_at line_nums j) line_den))) (sym (number_in_line den nums xs column f1 lc))
    ∙ ap (λ (x : Rational). add (number_at xs j) (mul (number_at xs column) x)) (sym (number_in_line line_den line_nums ys j f2 (omega arith)))

-- a line over minus one of its numbers
pub turned_held : (den : ℤ) (nums : List ℤ) (xs : List Rational) (out_den : ℤ) (ws : List ℤ) (column : ℕ) → numbers_of den nums ≡ xs → length ws ≡ length nums → column < length xs
    → ((j : ℕ) → j < length nums → rational (whole_at ws j) out_den ≡ mul (neg (inverse (rational (whole_at nums column) den))) (rational (whole_at nums j) den))
    → (j : ℕ) → j < length xs → number_at (numbers_of out_den ws) j ≡ mul (neg (inverse (number_at xs column))) (number_at xs j)
turned_held den nums xs out_den ws column f1 lw lc value j p =
    let long : length nums ≡ length xs = length-line den nums xs f1 in
    number_at-numbers_of out_den ws j (omega arith)
    ∙ value j (omega arith)
    ∙ ap (λ (x : Rational). mul (neg (inverse x)) (rational (whole_at nums j) den)) (sym (number_in_line den nums xs column f1 lc))
    ∙ ap (λ (x : Rational). mul (neg (inverse (number_at xs column))) x) (sym (number_in_line den nums xs j f1 p))

pub on_ok : {T E P Q : Type 0} (r : Result T E) → OnOk r P → (P → Q) → OnOk r Q
on_ok (Ok x) h f = f h
on_ok (Err e) h f = h
