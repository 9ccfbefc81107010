-- Sums of rows over a divisor of their denominator.
use Rattle.std.proofs.Common.{◌≡◌, ℕ, ◌<◌, ◌^◌, ℤ, pos, ◌+ℤ◌, ◌*ℤ◌, ◌≤ℤ◌, List, length, ap, subst, sym, ◌∙◌, Bool, true, false, Vec, arith, refl}
use Rattle.std.specs.Prelude.{if◌then◌else◌}
use Rattle.std.specs.Global.{Global}
use Rattle.std.specs.Vec.{with_items}
use Rattle.std.proofs.lemmas.List.{with_items_is, ext_get_or}
use Rattle.um_num.specs.Views.{rational}
use Rattle.um_num.specs.Numbers.{IsInRange}
use Rattle.um_num.specs.Sizes.{AreLowest}
use Rattle.um_lines.specs.Combined.{sum_at, AreCombined, IsGuess}
use Rattle.um_lines.specs.Lines.{whole_at, AreInRange, IsLine}
use Rattle.um_lines.specs.Turns.{AreSummedOver, AreWithin}
use Rattle.um_lines.specs.Nums.{nums_of, IsNums, AreSameWholes, IsShortSum, IsAdded}
use Rattle.um_lines.specs.declared.nums.Nums.{Nums}
use Rattle.um_lines.specs.declared.sums.ShortSum.{ShortSum}
use Rattle.um_lines.specs.declared.whole.Factors.{Factors}
use Rattle.um_lines.specs.declared.products.ShortFactors.{ShortFactors}
use Rattle.um_lines.proofs.Wholes.{quotient_in}
use Rattle.um_lines.proofs.LineNumbers.{divided_is, quotient_up}
use Rattle.um_lines.proofs.Lowests.{lowest_over}

pub short_sum_is : (factors : ShortFactors) (own other : List ℤ) (sum_den divisor den : ℤ) (size top : ℕ) (sum : List ℤ) → pos 1 ≤ℤ sum_den → IsInRange sum_den → IsGuess sum_den (sum_at factors.own factors.other own other) (length own) divisor → length sum ≡ length own → pos size ≡ divisor → den *ℤ divisor ≡ sum_den
    → AreSummedOver size factors.own factors.other own other sum → AreWithin top sum → top < 2 ^ 63 → IsShortSum factors own other sum_den sum (record { den = den; top = top })
short_sum_is factors own other sum_den divisor den size top sum up den_in guess long same split summed within short =
    let den_up : pos 1 ≤ℤ den = quotient_up sum_den divisor den guess.positive split up in
    let over : (j : ℕ) → j < length own → whole_at sum j *ℤ divisor ≡ sum_at factors.own factors.other own other j = λ j l. ap (λ (z : ℤ). whole_at sum j *ℤ z) (sym same) ∙ summed j l in
    record {
      positive = den_up;
      den_in = quotient_in sum_den divisor den guess.positive split den_in;
      lowest = lowest_over sum_den den divisor (sum_at factors.own factors.other own other) (length own) sum guess.positive long split over guess.greatest;
      within = within;
      short = short;
      value = λ j l. divided_is (sum_at factors.own factors.other own other j) sum_den (whole_at sum j) den divisor up den_up guess.positive (over j l) split;
    }

-- ---- rows of 64-bit numbers as rows of any size
short_items : (nums : Nums) → nums.is_short ≡ true → nums_of nums ≡ nums.short.items
short_items nums e = ap (λ (b : Bool). if b then nums.short.items else nums.long.items) e

pub within_written : (v : Vec ℤ Global) (ws : List ℤ) (top : ℕ) → length ws ≡ v.len → AreWithin top ws → AreWithin top (with_items v ws).items
within_written v ws top e h = rw (with_items_is v ws e) h

pub length_with : (v : Vec ℤ Global) (ws : List ℤ) → length ws ≡ v.len → length (with_items v ws).items ≡ length ws
length_with v ws e = ap length (with_items_is v ws e)

pub added_of_short : (factors : Factors) (short : ShortFactors) (own line : Nums) (xs ys : List ℤ) (den : ℤ) (v : Vec ℤ Global) (ws : List ℤ) (sum : ShortSum) → own.is_short ≡ true → line.is_short ≡ true → xs ≡ own.short.items → ys ≡ line.short.items
    → short.own ≡ factors.own → short.other ≡ factors.other → IsShortSum short xs ys den ws sum → length ws ≡ v.len → IsAdded factors (nums_of own) (nums_of line) den sum.den (with_items v ws).items
added_of_short factors short own line xs ys den v ws sum so sl ex ey fo ft h len =
    let eo : nums_of own ≡ xs = short_items own so ∙ sym ex in
    let el : nums_of line ≡ ys = short_items line sl ∙ sym ey in
    record {
      positive = h.positive;
      den_in = h.den_in;
      lowest = subst (AreLowest sum.den) (sym (with_items_is v ws len)) h.lowest;
      value = λ j l.
          ap (λ (zs : List ℤ). rational (whole_at zs j) sum.den) (with_items_is v ws len)
          ∙ h.value j (subst (λ (zs : List ℤ). j < length zs) eo l)
          ∙ ap (λ (zs : List ℤ). rational (whole_at zs j *ℤ short.own +ℤ whole_at ys j *ℤ short.other) den) (sym eo)
          ∙ ap (λ (zs : List ℤ). rational (whole_at (nums_of own) j *ℤ short.own +ℤ whole_at zs j *ℤ short.other) den) (sym el)
          ∙ ap (λ (z : ℤ). rational (whole_at (nums_of own) j *ℤ z +ℤ whole_at (nums_of line) j *ℤ short.other) den) fo
          ∙ ap (λ (z : ℤ). rational (whole_at (nums_of own) j *ℤ factors.own +ℤ whole_at (nums_of line) j *ℤ z) den) ft;
    }

-- ---- rows whose long form is written
pub length_of_written : (nums : Nums) (ws : List ℤ) → length ws ≡ nums.long.len → length (nums_of (record { short = nums.short; long = with_items nums.long ws; is_short = nums.is_short; top = nums.top })) ≡ length (nums_of nums)
length_of_written nums ws e = go nums.is_short
  where
    go : (b : Bool) → length (if b then nums.short.items else (with_items nums.long ws).items) ≡ length (if b then nums.short.items else nums.long.items)
    go true = refl
    go false = let l = length_with nums.long ws e in omega (arith, l, e, nums.long.ok.0)

pub nums_of_written : (nums : Nums) (ws : List ℤ) → IsNums nums → length ws ≡ nums.long.len → AreInRange ws → IsNums (record { short = nums.short; long = with_items nums.long ws; is_short = nums.is_short; top = nums.top })
nums_of_written nums ws h e r =
    record {
      long_fits = let l = length_with nums.long ws e in omega (arith, l, e, nums.long.ok.0, h.long_fits);
      top = h.top;
      within = h.within;
      long_in = subst AreInRange (sym (with_items_is nums.long ws e)) r;
    }

-- the sums in lowest terms
pub added_slowly : (factors : Factors) (own line : List ℤ) (den : ℤ) (sums parts : List ℤ) (made_den : ℤ) → AreCombined factors own line sums → length sums ≡ length own → IsLine made_den parts → AreLowest made_den parts
    → ((j : ℕ) → j < length sums → rational (whole_at parts j) made_den ≡ rational (whole_at sums j) den) → IsAdded factors own line den made_den parts
added_slowly factors own line den sums parts made_den combined fits is lowest value =
    record {
      positive = is.positive;
      den_in = is.den_in;
      lowest = lowest;
      value = λ j l. value j (omega arith) ∙ ap (λ (z : ℤ). rational z den) (combined j l);
    }

-- in whichever form they are held
pub added_as : (factors : Factors) (own line : List ℤ) (den made_den : ℤ) (parts : List ℤ) (v : Vec ℤ Global) (out : List ℤ) → length parts ≡ v.len → length out ≡ length (with_items v parts).items → AreSameWholes (with_items v parts).items out → IsAdded factors own line den made_den parts → IsAdded factors own line den made_den out
added_as factors own line den made_den parts v out written long same h =
    subst (IsAdded factors own line den made_den) (sym (ext_get_or (pos 0) out (with_items v parts).items long (λ j l. same j (omega arith)) ∙ with_items_is v parts written)) h
