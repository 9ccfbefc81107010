-- The rule of a set by its first nonzero part.
use Rattle.std.proofs.Common.{◌≡◌, ◌≢◌, ℕ, zero, suc, ◌+◌, ◌<◌, ◌≤◌, ℤ, pos, negsuc, List, length, get_or, refl, sym, ◌∙◌, inl, inr, arith, below_more}
use Rattle.std.specs.Prelude.{Bool, IsTrue, ◌↔◌, ◌⊎◌}
use Rattle.std.proofs.lemmas.Int.{ints}
use Rattle.std.proofs.lemmas.List.{get_or-map, get_or_past, length-map}
use Rattle.um_model.specs.Feasible.{part, IsNonzeroAt, SetRule}
use Rattle.um_model.specs.declared.deck.Member.{Member}
use Rattle.um_model.specs.declared.deck.SetKind.{SetKind}
use Rattle.um_model.specs.declared.deck.SetKind.TheVariants.{S1, S2}
use Rattle.um_point.specs.MemberParts.{parts_of}

-- the part of the member at a position
pub part_at : (parts : List ℤ) (members : List Member) (k : ℕ) (d : Member) → k < length members → part (parts_of parts members) k ≡ part parts (get_or members k d).column
part_at parts members k d l = get_or-map (λ (m : Member). part parts m.column) members k d (pos 0) l

pub none_past : (parts : List ℤ) (members : List Member) (k : ℕ) → length members ≤ k → part (parts_of parts members) k ≡ pos 0
none_past parts members k h = get_or_past (parts_of parts members) k (pos 0) (let long : length (parts_of parts members) ≡ length members = length-map members (λ (m : Member). part parts m.column) in omega arith)

-- a number that is not other than 0
pub is_zero : (z : ℤ) → ¬ (z ≢ pos 0) → z ≡ pos 0
is_zero (pos zero) h = refl
is_zero (pos (suc n)) h = absurd (h (λ e. absurd (omega (arith, ints, e))))
is_zero (negsuc n) h = absurd (h (λ e. absurd (omega (arith, ints, e))))

below_or_from : (m n : ℕ) → (m < n) ⊎ (n ≤ m)
below_or_from m n = grind arith

-- how many positions from the first nonzero one on may be nonzero
abbrev pub width : SetKind → ℕ
width S1 = 1
width S2 = 2

module _ (xs : List ℤ) (first : ℕ) (before : (k : ℕ) → k < first → part xs k ≡ pos 0) (nonzero : first < length xs → IsNonzeroAt xs first) where
  not_before : (i : ℕ) → IsNonzeroAt xs i → first ≤ i
  not_before i h = elim (below_or_from i first) [ inl below ↦ absurd (h (before i below)) | inr from ↦ from ]

  rule_from : (kind : SetKind) → ((k : ℕ) → first + width kind ≤ k → part xs k ≡ pos 0) → SetRule kind xs
  rule_from S1 zeros = λ i j l here there. there (zeros j (omega (arith, l, not_before i here)))
  rule_from S2 zeros = λ i j l here there.
      elim (below_or_from j (first + 2)) [ inl near ↦ omega (arith, l, near, not_before i here) | inr far ↦ absurd (there (zeros j far)) ]

  zero_inside : (kind : SetKind) → SetRule kind xs → (k : ℕ) → first + width kind ≤ k → k < length xs → part xs k ≡ pos 0
  zero_inside S1 rule k far inside = is_zero (part xs k) (rule first k (omega arith) (nonzero (omega arith)))
  zero_inside S2 rule k far inside = is_zero (part xs k) (λ there. let next : k ≡ first + 1 = rule first k (omega arith) (nonzero (omega arith)) there in absurd (omega arith))

  zeros_from : (kind : SetKind) → SetRule kind xs → (k : ℕ) → first + width kind ≤ k → part xs k ≡ pos 0
  zeros_from kind rule k far = elim (below_or_from k (length xs)) [ inl inside ↦ zero_inside kind rule k far inside | inr past ↦ get_or_past xs k (pos 0) past ]

  -- a test of the parts behind those that may be nonzero is one of the rule
  pub rule_test : (kind : SetKind) (b : Bool) → (IsTrue b ↔ ((k : ℕ) → first + width kind ≤ k → part xs k ≡ pos 0)) → IsTrue b ↔ SetRule kind xs
  rule_test kind b test = (λ h. rule_from kind (test.0 h), λ rule. test.1 (zeros_from kind rule))

-- ---- a loop over members

module _ (parts : List ℤ) (members : List Member) (i : ℕ) (d : Member) (inside : i < length members) where
  -- the test of a member is one of its position
  pub zero_at : ¬ (part parts (get_or members i d).column ≢ pos 0) → part (parts_of parts members) i ≡ pos 0
  zero_at h = part_at parts members i d inside ∙ is_zero (part parts (get_or members i d).column) h

  pub nonzero_at : part parts (get_or members i d).column ≢ pos 0 → IsNonzeroAt (parts_of parts members) i
  nonzero_at h e = h (sym (part_at parts members i d inside) ∙ e)

  -- one position more
  pub zeros_more : (start : ℕ) → ((k : ℕ) → start ≤ k → k < i → part (parts_of parts members) k ≡ pos 0) → ¬ (part parts (get_or members i d).column ≢ pos 0)
      → (k : ℕ) → start ≤ k → k < i + 1 → part (parts_of parts members) k ≡ pos 0
  zeros_more start before h k s l = below_more (λ (n : ℕ). start ≤ n → part (parts_of parts members) n ≡ pos 0) i (λ n q t. before n t q) (λ t. zero_at h) k l s

pub same_length : (parts : List ℤ) (members : List Member) → length (parts_of parts members) ≡ length members
same_length parts members = length-map members (λ (m : Member). part parts m.column)
