-- Rows that break no rule are rows of a deck.
use Rattle.std.proofs.Common.{◌≡◌, ℕ, ◌≤◌, Bool, true, false, not, ◌||◌, nat_le, nat_lt, [], ◌∷◌, Option, None, Some, IsSome, refl, subst, true≢false, arith, ℤ, pos, negsuc, ◌+ℤ◌, ◌-ℤ◌, ◌≤ℤ◌, unsigned_abs, int_lt, if◌then◌else◌, ◌^◌}
use Rattle.std.proofs.lemmas.Int.{ints}
use Rattle.std.proofs.lemmas.Bool.Decides.{nat_tests}
use Rattle.std.specs.Option.{ForSome}
use Rattle.um_model.specs.WellFormed.{IsRow, InOrder, IsWithin}
use Rattle.um_statements.specs.declared.fault.Fault.{Fault}
use Rattle.um_statements.specs.declared.fault.Fault.TheVariants.{TooFine, TooLarge}
use Rattle.um_statements.specs.declared.parts.RowKind.{RowKind}
use Rattle.um_statements.specs.declared.parts.RowKind.TheVariants.{N, L, G, E}
use Rattle.um_statements.specs.Said.{Said, RowSaid}
use Rattle.um_statements.specs.CallRules.{first_fault, is_n}
use Rattle.um_statements.specs.Made.{row_made, row_scale, low_side, high_side, side_at, range_at, coefficients, arcs_in}
use Rattle.um_statements.specs.DeckRules.{row_rules, is_above, has_large_number}
use Rattle.std.specs.List.{list_all}
use Rattle.um_statements.specs.Scaled.{is_within_at}

-- two rules that aren't broken
both_fine : (a b : Bool) (x y : Fault) → first_fault ((a, x) ∷ (b, y) ∷ []) ≡ None → (a ≡ false) × (b ≡ false)
both_fine true b x y fine = cc
both_fine false true x y fine = cc
both_fine false false x y fine = (refl, refl)

or_false : (a b : Bool) → (a || b) ≡ false → (a ≡ false) × (b ≡ false)
or_false true b h = absurd (true≢false h)
or_false false b h = (refl, h)

last_two : (a b c d e : Bool) → (a || b || c || d || e) ≡ false → (d ≡ false) × (e ≡ false)
last_two a b c d e h =
    let last = or_false (a || b || c || d) e h in
    let before = or_false (a || b || c) d last.0 in
    (before.1, last.1)

is_low : (a b : ℕ) → nat_lt a b ≡ false → b ≤ a
is_low a b h = grind (arith, nat_tests)

is_most : (a b : ℕ) → not (nat_le a b) ≡ false → a ≤ b
is_most a b h = grind (arith, nat_tests)

within : (most : ℕ) (o : Option ℤ) → is_above most o ≡ false → ForSome o (IsWithin most)
within most None h x e = cc
within most (Some z) h x e =
    let same : z ≡ x = cc in subst (IsWithin most) same (is_most (unsigned_abs z) most h)

raised : (b : ℤ) (n : ℕ) (t : Bool) → t ≡ false → (l h : ℤ) → (if t then b +ℤ pos n else b) ≡ l → (if t then b else b +ℤ pos n) ≡ h → l ≤ℤ h
raised b n true up l h x y = absurd (true≢false up)
raised b n false up l h x y = omega (arith, ints, x, y)

-- a row that isn't N has a side, and its sides are in order
pub sides_fit : (kind : RowKind) (b : ℤ) (range : Option ℤ) → is_n kind ≡ false
    → (low_side kind b range ≡ None → IsSome (high_side kind b range)) × InOrder (low_side kind b range) (high_side kind b range)
sides_fit N b range sided = absurd (true≢false sided)
sides_fit L b None sided = (λ e. refl, λ l low h high. cc)
sides_fit L b (Some r) sided = (
  λ e. refl,
  λ l low h high.
      let x : b -ℤ pos (unsigned_abs r) ≡ l = cc in
      let y : b ≡ h = cc in
      omega (arith, ints, x, y),
)
sides_fit G b None sided = (λ e. cc, λ l low h high. cc)
sides_fit G b (Some r) sided = (
  λ e. refl,
  λ l low h high.
      let x : b ≡ l = cc in
      let y : b +ℤ pos (unsigned_abs r) ≡ h = cc in
      omega (arith, ints, x, y),
)
sides_fit E b None sided = (
  λ e. refl,
  λ l low h high.
      let x : b ≡ l = cc in
      let y : b ≡ h = cc in
      omega (arith, ints, x, y),
)
sides_fit E b (Some (pos n)) sided = (
  λ e. refl,
  λ l low h high.
      let up : int_lt (pos n) (pos 0) ≡ false = grind (arith, nat_tests) in
      let x : (if int_lt (pos n) (pos 0) then b +ℤ pos n else b) ≡ l = cc in
      let y : (if int_lt (pos n) (pos 0) then b else b +ℤ pos n) ≡ h = cc in
      raised b n (int_lt (pos n) (pos 0)) up l h x y,
)
sides_fit E b (Some (negsuc n)) sided = (
  λ e. refl,
  λ l low h high.
      let x : b +ℤ negsuc n ≡ l = cc in
      let y : b ≡ h = cc in
      omega (arith, ints, x, y),
)

pub made-row-law : (said : Said) (p : ℕ × RowSaid) → is_n p.1.kind ≡ false → first_fault (row_rules said p) ≡ None → IsRow (row_made said p)
made-row-law said p sided fine =
    let scale : ℕ = row_scale said p.0 p.1 in
    let side : ℤ = side_at p.1 scale in
    let range : Option ℤ = range_at p.1 scale in
    let rules = both_fine (nat_lt 6 scale) (has_large_number said p.0 p.1 scale) TooFine TooLarge fine in
    let ends = last_two (not (list_all (is_within_at (2 ^ 31) scale) (coefficients said p.0))) (not (list_all (is_within_at (2 ^ 24) scale) (arcs_in said p.0))) (is_above (2 ^ 53) (Some side))
    (is_above (2 ^ 53) (low_side p.1.kind side range)) (is_above (2 ^ 53) (high_side p.1.kind side range)) rules.1 in
    let sides = sides_fit p.1.kind side range sided in
    record {
      side = sides.0;
      order = sides.1;
      low = within (2 ^ 53) (low_side p.1.kind side range) ends.0;
      high = within (2 ^ 53) (high_side p.1.kind side range) ends.1;
      scale = is_low 6 scale rules.0;
    }
