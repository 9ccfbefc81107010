-- One member more is counted.
use Rattle.std.proofs.Common.{◌≡◌, ◌∙◌, ap, sym, ℕ, ◌+◌, ◌-◌, ◌<◌, ◌≤◌, ◌≢◌, List, length, get_or, take, set, arith, inl, inr}
use Rattle.std.proofs.lemmas.Bool.{eq-eqb, ne_eqb, cases_eq}
use Rattle.std.proofs.lemmas.List.{get_or-set_same, get_or-set_other, get_or_read}
use Rattle.std.proofs.lemmas.List.Sums.{sum_by_more, sum_by_more_le}
use Rattle.um_model.specs.declared.deck.Member.{Member}
use Rattle.um_box.specs.ShutOut.{times_in}
use Rattle.um_box.proofs.Intervals.{one_if, one_for}

one_here : (m : Member) (column : ℕ) → column ≡ m.column → one_for m column ≡ 1
one_here m column e = ap one_if (eq-eqb m.column column (sym e))

none_here : (m : Member) (column : ℕ) → column ≢ m.column → one_for m column ≡ 0
none_here m column ne = ap one_if (ne_eqb m.column column (λ e. ne (sym e)))

module _ (members : List Member) (i : ℕ) (d : Member) (inside : i < length members) where
  abbrev place : ℕ
  place = (get_or members i d).column

  more : (column : ℕ) → times_in (take (i + 1) members) column ≡ times_in (take i members) column + one_for (get_or members i d) column
  more column = sum_by_more (λ (m : Member). one_for m column) members i d inside

  more_le : times_in (take i members) place + 1 ≤ times_in members place
  more_le = let one = one_here (get_or members i d) place (λ j. place) in omega (arith, sum_by_more_le (λ (m : Member). one_for m place) members i d inside, one)

  module _ (old now : List ℕ) (v : ℕ) (read : v ≡ get_or now place v) (each : length now ≡ length old) (within : place < length old) where
    value : v ≡ get_or now place 0
    value = get_or_read now place v (omega arith) read 0

    module _ (counted : (column : ℕ) → column < length old → get_or now column 0 ≡ get_or old column 0 + times_in (take i members) column) where
      -- the count fits where all of them do
      pub shut_out_fits : (most : ℕ) → ((column : ℕ) → column < length old → get_or old column 0 + times_in members column < most) → v + 1 < most
      shut_out_fits most room = let r = room place within in let c = counted place within in omega (arith, more_le, value)

      pub shut_out_more : (column : ℕ) → column < length old → get_or (set now place (v + 1)) column 0 ≡ get_or old column 0 + times_in (take (i + 1) members) column
      shut_out_more column l =
          let short : place < length now = omega arith in
          let c = counted column l in
          let m = more column in
          elim (cases_eq column place) [
            | inl e ↦
                let here : get_or (set now place (v + 1)) column 0 ≡ v + 1 = ap (λ (k : ℕ). get_or (set now place (v + 1)) k 0) e ∙ get_or-set_same now place (v + 1) 0 short in
                let was : v ≡ get_or now column 0 = value ∙ ap (λ (k : ℕ). get_or now k 0) (sym e) in
                omega (arith, one_here (get_or members i d) column e)
            | inr ne ↦ omega (arith, get_or-set_other now place column (v + 1) 0 ne, none_here (get_or members i d) column ne)
          ]

    module _ (counted : (column : ℕ) → column < length old → get_or now column 0 + times_in (take i members) column ≡ get_or old column 0) where
      -- what is counted less was counted
      pub let_in_fits : ((column : ℕ) → column < length old → times_in members column ≤ get_or old column 0) → 1 ≤ v
      let_in_fits enough = let r = enough place within in let c = counted place within in omega (arith, more_le, value)

      pub let_in_more : 1 ≤ v → (column : ℕ) → column < length old → get_or (set now place (v - 1)) column 0 + times_in (take (i + 1) members) column ≡ get_or old column 0
      let_in_more some column l =
          let short : place < length now = omega arith in
          let c = counted column l in
          let m = more column in
          elim (cases_eq column place) [
            | inl e ↦
                let here : get_or (set now place (v - 1)) column 0 ≡ v - 1 = ap (λ (k : ℕ). get_or (set now place (v - 1)) k 0) e ∙ get_or-set_same now place (v - 1) 0 short in
                let was : v ≡ get_or now column 0 = value ∙ ap (λ (k : ℕ). get_or now k 0) (sym e) in
                omega (arith, one_here (get_or members i d) column e)
            | inr ne ↦ omega (arith, get_or-set_other now place column (v - 1) 0 ne, none_here (get_or members i d) column ne)
          ]
