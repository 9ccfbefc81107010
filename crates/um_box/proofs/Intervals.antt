-- How often sets hold a column at 0, as their intervals change.
use Rattle.std.proofs.Common.{◌≡◌, ◌∙◌, ap, sym, refl, ℕ, ◌+◌, ◌-◌, ◌<◌, ◌≤◌, ◌≢◌, zero, suc, List, length, get_or, take, drop, arith, Bool, true, false, cond, ltb, eqb, ◌&&◌, ◌||◌, inl, inr}
use Rattle.std.specs.List.{list_any, enumerate_from}
use Rattle.std.proofs.lemmas.Bool.{lt-ltb, le-ltb, cases_lt, or_from, or_right}
use Rattle.std.proofs.lemmas.List.{get_or-drop, length-drop, get_or-set_same, get_or-set_other, get_or_read}
use Rattle.std.proofs.lemmas.List.Sums.{sum_by_more}
use Rattle.um_model.specs.Values.{DeckValue, SetValue}
use Rattle.um_model.specs.Boxes.{BoxValue, Span, span_at, with_span, is_outside, is_shut_out}
use Rattle.um_model.specs.declared.deck.Member.{Member}
use Rattle.um_box.specs.ShutOut.{is_held, times_in, times_outside, times_shut_out}
use Rattle.um_box.proofs.PlacedSums.{sums_apart, any_above_zero, any_counted}

abbrev pub between : ℕ → ℕ → Span
between first last = record { first = first; last = last }

abbrev pub one_if : Bool → ℕ
one_if t = cond t 1 0

-- 1 for a member that is the column
abbrev pub one_for : Member → ℕ → ℕ
one_for m column = one_if (eqb m.column column)

-- ---- tests at one place

below_next : (k f : ℕ) → k ≢ f → ltb k (f + 1) ≡ ltb k f
below_next k f ne = elim (cases_lt k f) [ inl l ↦ lt-ltb k (f + 1) (omega arith) ∙ sym (lt-ltb k f l) | inr l ↦ le-ltb k (f + 1) (omega arith) ∙ sym (le-ltb k f l) ]

above_next : (k l : ℕ) → k ≢ l + 1 → ltb l k ≡ ltb (l + 1) k
above_next k l ne = elim (cases_lt l k) [ inl h ↦ lt-ltb l k h ∙ sym (lt-ltb (l + 1) k (omega arith)) | inr h ↦ le-ltb l k h ∙ sym (le-ltb (l + 1) k (omega arith)) ]

counted_in : (t u : Bool) → u ≡ true → one_if (t && u) ≡ one_if t
counted_in true u e = ap one_if e
counted_in false u e = refl

pub counted_out : (t u : Bool) → u ≡ false → one_if (t && u) ≡ 0
counted_out true u e = ap one_if e
counted_out false u e = refl

module _ (members : List Member) (column : ℕ) (d : Member) where
  -- one position more before the interval
  first_step : (f l : ℕ) → f ≤ l → f < length members
      → times_outside (between (f + 1) l) members column ≡ times_outside (between f l) members column + one_for (get_or members f d) column
  first_step f l order inside =
      let after : ℕ × Member → ℕ = λ m. one_if (is_held (between (f + 1) l) column m) in
      let before : ℕ × Member → ℕ = λ m. one_if (is_held (between f l) column m) in
      let m = get_or members f d in
      let same : (k : ℕ) (x : Member) → k ≢ 0 + f → after (k, x) ≡ before (k, x) = λ k x ne. let other : k ≢ f = omega arith in ap (λ (t : Bool). one_if (eqb x.column column && (t || ltb l k))) (below_next k f other) in
      let place : 0 + f ≡ f = omega arith in
      let next : f < f + 1 = omega arith in
      let same_place : f ≤ f = omega arith in
      let now_out : after (0 + f, m) ≡ one_for m column = ap (λ (k : ℕ). after (k, m)) place ∙ counted_in (eqb m.column column) (ltb f (f + 1) || ltb l f) (ap (λ (t : Bool). t || ltb l f) (lt-ltb f (f + 1) next)) in
      let was_in : before (0 + f, m) ≡ 0 = ap (λ (k : ℕ). before (k, m)) place ∙ counted_out (eqb m.column column) (ltb f f || ltb l f) (or_from (ltb f f) (ltb l f) (le-ltb f f same_place) (le-ltb l f order)) in
      omega (arith, sums_apart after before 0 members f d inside same, now_out, was_in)

  -- one position more within the interval
  last_step : (f l : ℕ) → f ≤ l + 1 → l + 1 < length members
      → times_outside (between f l) members column ≡ times_outside (between f (l + 1)) members column + one_for (get_or members (l + 1) d) column
  last_step f l order inside =
      let after : ℕ × Member → ℕ = λ m. one_if (is_held (between f (l + 1)) column m) in
      let before : ℕ × Member → ℕ = λ m. one_if (is_held (between f l) column m) in
      let m = get_or members (l + 1) d in
      let same : (k : ℕ) (x : Member) → k ≢ 0 + (l + 1) → before (k, x) ≡ after (k, x) = λ k x ne. let other : k ≢ l + 1 = omega arith in ap (λ (t : Bool). one_if (eqb x.column column && (ltb k f || t))) (above_next k l other) in
      let place : 0 + (l + 1) ≡ l + 1 = omega arith in
      let next : l < l + 1 = omega arith in
      let same_place : l + 1 ≤ l + 1 = omega arith in
      let was_out : before (0 + (l + 1), m) ≡ one_for m column =
      ap (λ (k : ℕ). before (k, m)) place ∙ counted_in (eqb m.column column) (ltb (l + 1) f || ltb l (l + 1)) (or_right (ltb (l + 1) f) (ltb l (l + 1)) (lt-ltb l (l + 1) next)) in
      let now_in : after (0 + (l + 1), m) ≡ 0 =
      ap (λ (k : ℕ). after (k, m)) place ∙ counted_out (eqb m.column column) (ltb (l + 1) f || ltb (l + 1) (l + 1)) (or_from (ltb (l + 1) f) (ltb (l + 1) (l + 1)) (le-ltb (l + 1) f order) (le-ltb (l + 1) (l + 1) same_place)) in
      omega (arith, sums_apart before after 0 members (l + 1) d inside same, was_out, now_in)

  one_more : (n k : ℕ) → n + k < length members → times_in (take (k + 1) (drop n members)) column ≡ times_in (take k (drop n members)) column + one_for (get_or members (n + k) d) column
  one_more n k inside =
      let short : k < length (drop n members) = omega (arith, length-drop n members) in
      let m : one_for (get_or (drop n members) k d) column ≡ one_for (get_or members (n + k) d) column = ap (λ (x : Member). one_for x column) (get_or-drop n members k d) in
      omega (arith, sum_by_more (λ (x : Member). one_for x column) (drop n members) k d short, m)

  -- positions more before the interval
  firsts : (f l k : ℕ) → f + k ≤ l → l < length members
      → times_outside (between (f + k) l) members column ≡ times_outside (between f l) members column + times_in (take k (drop f members)) column
  firsts f l zero order inside =
      let place : f + 0 ≡ f = omega arith in
      let e : times_outside (between (f + 0) l) members column ≡ times_outside (between f l) members column = ap (λ (n : ℕ). times_outside (between n l) members column) place in
      omega (arith, e)
  firsts f l (suc k) order inside =
      let next : f + suc k ≡ f + k + 1 = omega arith in
      let count : suc k ≡ k + 1 = omega arith in
      let e : times_outside (between (f + suc k) l) members column ≡ times_outside (between (f + k + 1) l) members column = ap (λ (n : ℕ). times_outside (between n l) members column) next in
      let c : times_in (take (suc k) (drop f members)) column ≡ times_in (take (k + 1) (drop f members)) column = ap (λ (n : ℕ). times_in (take n (drop f members)) column) count in
      omega (arith, e, c, first_step (f + k) l (omega arith) (omega arith), one_more f k (omega arith), firsts f l k (omega arith) inside)

  -- positions more within the interval
  lasts : (f l k : ℕ) → f ≤ l + 1 → l + k < length members
      → times_outside (between f l) members column ≡ times_outside (between f (l + k)) members column + times_in (take k (drop (l + 1) members)) column
  lasts f l zero order inside =
      let place : l + 0 ≡ l = omega arith in
      let e : times_outside (between f (l + 0)) members column ≡ times_outside (between f l) members column = ap (λ (n : ℕ). times_outside (between f n) members column) place in
      omega (arith, e)
  lasts f l (suc k) order inside =
      let next : l + suc k ≡ l + k + 1 = omega arith in
      let count : suc k ≡ k + 1 = omega arith in
      let e : times_outside (between f (l + suc k)) members column ≡ times_outside (between f (l + k + 1)) members column = ap (λ (n : ℕ). times_outside (between f n) members column) next in
      let c : times_in (take (suc k) (drop (l + 1) members)) column ≡ times_in (take (k + 1) (drop (l + 1) members)) column = ap (λ (n : ℕ). times_in (take n (drop (l + 1) members)) column) count in
      let m : one_for (get_or members (l + 1 + k) d) column ≡ one_for (get_or members (l + k + 1) d) column =
      let place : l + 1 + k ≡ l + k + 1 = omega arith in
      ap (λ (n : ℕ). one_for (get_or members n d) column) place in
      omega (arith, e, c, m, last_step f (l + k) (omega arith) (omega arith), one_more (l + 1) k (omega arith), lasts f l k order (omega arith))

  -- another first position, at or behind the old one
  pub first_moved : (f g l : ℕ) → f ≤ g → g ≤ l → l < length members
      → times_outside (between g l) members column ≡ times_outside (between f l) members column + times_in (take (g - f) (drop f members)) column
  first_moved f g l up order inside =
      let sum : f + (g - f) ≡ g = omega arith in
      ap (λ (n : ℕ). times_outside (between n l) members column) (sym sum) ∙ firsts f l (g - f) (omega arith) inside

  -- another last position, at or behind the old one
  pub last_moved : (f l m : ℕ) → f ≤ l + 1 → l ≤ m → m < length members
      → times_outside (between f l) members column ≡ times_outside (between f m) members column + times_in (take (m + 1 - (l + 1)) (drop (l + 1) members)) column
  last_moved f l m order up inside =
      let rest : m + 1 - (l + 1) ≡ m - l = omega arith in
      let sum : l + (m - l) ≡ m = omega arith in
      let moved = lasts f l (m - l) order (omega arith) in
      let outside : times_outside (between f (l + (m - l))) members column ≡ times_outside (between f m) members column = ap (λ (n : ℕ). times_outside (between f n) members column) sum in
      let part : times_in (take (m + 1 - (l + 1)) (drop (l + 1) members)) column ≡ times_in (take (m - l) (drop (l + 1) members)) column = ap (λ (n : ℕ). times_in (take n (drop (l + 1) members)) column) rest in
      omega (arith, moved, outside, part)

-- ---- over all sets

-- one set's interval is another
pub shut_out_with_span : (d : DeckValue) (b : BoxValue) (set : ℕ) (s : SetValue) (span : Span) (column : ℕ) → set < length d.sets → length b.spans ≡ length d.sets
    → times_shut_out d (with_span b set span) column + times_outside (span_at b set) (get_or d.sets set s).members column
    ≡ times_shut_out d b column + times_outside span (get_or d.sets set s).members column
shut_out_with_span d b set s span column inside each =
    let after : ℕ × SetValue → ℕ = λ x. times_outside (span_at (with_span b set span) x.0) x.1.members column in
    let before : ℕ × SetValue → ℕ = λ x. times_outside (span_at b x.0) x.1.members column in
    let here = get_or d.sets set s in
    let same : (k : ℕ) (x : SetValue) → k ≢ 0 + set → after (k, x) ≡ before (k, x) =
    λ k x ne. let other : k ≢ set = omega arith in ap (λ (y : Span). times_outside y x.members column) (get_or-set_other b.spans set k span (between 0 0) other) in
    let place : 0 + set ≡ set = omega arith in
    let short : set < length b.spans = omega arith in
    let now : after (0 + set, here) ≡ times_outside span here.members column =
    ap (λ (k : ℕ). after (k, here)) place ∙ ap (λ (y : Span). times_outside y here.members column) (get_or-set_same b.spans set span (between 0 0) short) in
    let was : before (0 + set, here) ≡ times_outside (span_at b set) here.members column = ap (λ (k : ℕ). before (k, here)) place in
    omega (arith, sums_apart after before 0 d.sets set s inside same, now, was)

-- a column is held at 0 just where the count is above 0
pub shut_out_counted : (d : DeckValue) (b : BoxValue) (column : ℕ) → ltb 0 (times_shut_out d b column) ≡ is_shut_out d b column
shut_out_counted d b column =
    let outside : (x : ℕ × SetValue) → is_outside (span_at b x.0) x.1 column ≡ ltb 0 (times_outside (span_at b x.0) x.1.members column) = λ x. any_counted (is_held (span_at b x.0) column) (enumerate_from 0 x.1.members) in
    sym ((λ i. list_any (λ (x : ℕ × SetValue). outside x i) (enumerate_from 0 d.sets)) ∙ any_above_zero (λ (x : ℕ × SetValue). times_outside (span_at b x.0) x.1.members column) (enumerate_from 0 d.sets))

-- the interval that was read
pub span_there : (b : BoxValue) (spans : List Span) (set : ℕ) (x : Span) → set < length b.spans → spans ≡ b.spans → x ≡ get_or spans set x → x ≡ span_at b set
span_there b spans set x inside same read = get_or_read b.spans set x inside (read ∙ ap (λ (y : List Span). get_or y set x) same) (between 0 0)
