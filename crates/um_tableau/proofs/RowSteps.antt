-- Rows of lines that are exchanged one after another.
use Rattle.std.proofs.Common.{◌≡◌, ◌≢◌, ℕ, ◌+◌, ◌<◌, ◌≤◌, pos, List, [], length, slice_set, slice_index_or, arith, sym, ◌∙◌, ap, subst, below_more, inl, inr}
use Rattle.std.proofs.lemmas.List.{get_or_default, get_or-set_same, get_or-set_other, length-set}
use Rattle.um_laws.specs.Rational.{Rational, whole}
use Rattle.um_num.specs.NumberLists.{number_at}
use Rattle.um_lp.proofs.Rows.{same_or_not}
use Rattle.um_tableau.specs.Rows.{row_at, entry_at, AreLong}

-- a row that is read
pub row_read : (rows : List (List Rational)) (i : ℕ) (v : List Rational) → i < length rows → v ≡ slice_index_or rows i v → v ≡ row_at rows i
row_read rows i v l e = e ∙ sym (get_or_default rows i [] v l)

pub row_at-set_same : (rows : List (List Rational)) (i : ℕ) (v : List Rational) → i < length rows → row_at (slice_set rows i v) i ≡ v
row_at-set_same rows i v l = get_or-set_same rows i v [] l

pub row_at-set_other : (rows : List (List Rational)) (i k : ℕ) (v : List Rational) → k ≢ i → row_at (slice_set rows i v) k ≡ row_at rows k
row_at-set_other rows i k v d = get_or-set_other rows i k v [] d

pub AreLong-set : (w : ℕ) (rows : List (List Rational)) (i : ℕ) (v : List Rational) → AreLong w rows → i < length rows → length v ≡ w → AreLong w (slice_set rows i v)
AreLong-set w rows i v h l e k p =
    elim (same_or_not k i) [
      | inl same ↦ subst (λ (n : ℕ). length (row_at (slice_set rows i v) n) ≡ w) (sym same) (ap length (row_at-set_same rows i v l) ∙ e)
      | inr other ↦ ap length (row_at-set_other rows i k v other) ∙ h k (let len : length (slice_set rows i v) ≡ length rows = length-set rows i v in omega arith)
    ]

-- the rows below i are exchanged with those of out, but for one row, and those that have 0 at the column
pub record Taken (w i row column : ℕ) (rows out old old_out : List (List Rational)) : Type 0 where
  pub height : length rows ≡ length old
  pub out_height : length out ≡ length old
  pub long : AreLong w rows
  pub out_long : AreLong w out
  pub own : row_at rows row ≡ row_at old row
  pub taken : (k : ℕ) → k < i → k ≢ row → entry_at old k column ≢ whole (pos 0) → row_at rows k ≡ row_at old_out k
  pub kept : (k : ℕ) → k < i → k ≢ row → entry_at old k column ≡ whole (pos 0) → row_at rows k ≡ row_at old k
  pub left : (k : ℕ) → i ≤ k → row_at rows k ≡ row_at old k
  pub out_left : (k : ℕ) → i ≤ k → row_at out k ≡ row_at old_out k

pub taken_skip : (w i row column : ℕ) (rows out old old_out : List (List Rational)) → Taken w i row column rows out old old_out → i ≡ row → Taken w (i + 1) row column rows out old old_out
taken_skip w i row column rows out old old_out h e =
    record {
      height = h.height;
      out_height = h.out_height;
      long = h.long;
      out_long = h.out_long;
      own = h.own;
      taken = λ k l d. h.taken k (let n : k ≢ row = d in omega arith) d;
      kept = λ k l d. h.kept k (let n : k ≢ row = d in omega arith) d;
      left = λ k l. h.left k (omega arith);
      out_left = λ k l. h.out_left k (omega arith);
    }

pub taken_step : (w i row column : ℕ) (rows out old old_out : List (List Rational)) (own next : List Rational) → Taken w i row column rows out old old_out → i < length old → i ≢ row
    → length own ≡ w → length next ≡ w → (number_at (row_at rows i) column ≢ whole (pos 0) → own ≡ row_at out i) → (number_at (row_at rows i) column ≡ whole (pos 0) → own ≡ row_at rows i)
    → Taken w (i + 1) row column (slice_set rows i own) (slice_set out i next) old old_out
taken_step w i row column rows out old old_out own next h l d lo ln ht hk =
    let li : i < length rows = omega (arith, h.height) in
    let lj : i < length out = omega (arith, h.out_height) in
    let here : row_at rows i ≡ row_at old i = h.left i (omega arith) in
    let apart : row ≢ i = omega arith in
    record {
      height = length-set rows i own ∙ h.height;
      out_height = length-set out i next ∙ h.out_height;
      long = AreLong-set w rows i own h.long li lo;
      out_long = AreLong-set w out i next h.out_long lj ln;
      own = row_at-set_other rows i row own apart ∙ h.own;
      taken = below_more _ i
          (λ k p n z. row_at-set_other rows i k own (let u : k ≢ i = omega arith in u) ∙ h.taken k p n z)
          (λ n z. row_at-set_same rows i own li ∙ ht (λ q. z (ap (λ (r : List Rational). number_at r column) (sym here) ∙ q)) ∙ h.out_left i (omega arith));
      kept = below_more _ i
          (λ k p n z. row_at-set_other rows i k own (let u : k ≢ i = omega arith in u) ∙ h.kept k p n z)
          (λ n z. row_at-set_same rows i own li ∙ hk (ap (λ (r : List Rational). number_at r column) here ∙ z) ∙ here);
      left = λ k p. row_at-set_other rows i k own (let u : k ≢ i = omega arith in u) ∙ h.left k (omega arith);
      out_left = λ k p. row_at-set_other out i k next (let u : k ≢ i = omega arith in u) ∙ h.out_left k (omega arith);
    }
