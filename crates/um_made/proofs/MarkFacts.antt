-- Marks of places.
use Rattle.std.proofs.Common.{◌≡◌, ◌≢◌, ℕ, ◌+◌, ◌<◌, Bool, true, false, ◌||◌, nat_eq, List, ◌++◌, map, length, get_or, set, take, drop, refl, sym, ap, ◌∙◌, subst, arith, length-set}
use Rattle.std.specs.List.{list_any}
use Rattle.std.proofs.lemmas.List.{get_or-set_same, get_or-set_other, drop_all, take_all, append-nil}
use Rattle.um_statements.proofs.Tests.{same_number, other_number}
use Rattle.um_statements.specs.Statements.{Name}
use Rattle.um_statements.specs.Said.{SetSaid}
use Rattle.um_made.specs.declared.parts.SetPart.{SetPart}
use Rattle.um_made.specs.Views.{set_said}
use Rattle.um_made.specs.ColumnWords.{Marked, AreMarks}
use Rattle.um_made.proofs.Walks.{mapped_taken, any_push}

or_true : (b : Bool) → (b || true) ≡ true
or_true true = refl
or_true false = refl

or_false : (b : Bool) → (b || false) ≡ b
or_false true = refl
or_false false = refl

or_turned : (a b c : Bool) → ((a || b) || c) ≡ (a || (b || c))
or_turned true b c = refl
or_turned false b c = refl

-- nothing is marked yet
pub none_marked : (test : ℕ → Bool) (marks : List Bool) → ((j : ℕ) → test j ≡ false) → Marked test marks marks
none_marked test marks none = record { length_stays = refl; each = λ j within. sym (rw (none j) (or_false (get_or marks j false))) }

-- one place more is marked
pub mark_more : (test more : ℕ → Bool) (old now : List Bool) (c : ℕ) → c < length old → Marked test old now → ((j : ℕ) → more j ≡ (test j || nat_eq c j)) → Marked more old (set now c true)
mark_more test more old now c within marked step = record {
  length_stays = length-set now c true ∙ marked.length_stays;
  each = λ j inside. by j inside (nat_eq c j) refl;
}
  where
    by : (j : ℕ) → j < length old → (b : Bool) → nat_eq c j ≡ b → get_or (set now c true) j false ≡ (get_or old j false || more j)
    by j inside true is =
        let same : c ≡ j = same_number c j is in
        let here : get_or (set now c true) c false ≡ true = get_or-set_same now c true false (rw marked.length_stays within) in
        subst (λ k. get_or (set now c true) k false ≡ true) same here ∙ sym (ap (λ b. get_or old j false || b) (step j ∙ ap (λ b. test j || b) is ∙ or_true (test j)) ∙ or_true (get_or old j false))
    by j inside false is =
        let apart : j ≢ c = λ e. other_number c j is (sym e) in
        get_or-set_other now c j true false apart ∙ (marked.each j inside ∙ sym (ap (λ b. get_or old j false || b) (step j ∙ ap (λ b. test j || b) is ∙ or_false (test j))))

-- more places are marked after others
pub mark_both : (test other both : ℕ → Bool) (old now new : List Bool) → Marked test old now → Marked other now new → ((j : ℕ) → both j ≡ (test j || other j)) → Marked both old new
mark_both test other both old now new first second step = record {
  length_stays = second.length_stays ∙ first.length_stays;
  each = λ j inside.
      second.each j (rw first.length_stays inside) ∙ (ap (λ b. b || other j) (first.each j inside) ∙ (or_turned (get_or old j false) (test j) (other j) ∙ sym (ap (λ b. get_or old j false || b) (step j))));
}

pub same_marked : (test other : ℕ → Bool) (old new : List Bool) → Marked test old new → ((j : ℕ) → other j ≡ test j) → Marked other old new
same_marked test other old new marked step = record { length_stays = marked.length_stays; each = λ j inside. marked.each j inside ∙ sym (ap (λ b. get_or old j false || b) (step j)) }

-- of marks that were all off
pub marks_are : (test : ℕ → Bool) (count : ℕ) (old new : List Bool) → length old ≡ count → ((j : ℕ) → j < count → get_or old j false ≡ false) → Marked test old new → AreMarks test count new
marks_are test count old new count_is off marked = record {
  length_is = marked.length_stays ∙ count_is;
  each = λ j within. marked.each j (rw count_is within) ∙ ap (λ b. b || test j) (off j within);
}

-- one set more
pub sets_more : (p : SetSaid → Bool) (sets : List (Name × SetPart)) (i : ℕ) (x : Name × SetPart) → i < length sets → x ≡ get_or sets i x → list_any p (map set_said (take (i + 1) sets)) ≡ (list_any p (map set_said (take i sets)) || p (set_said x))
sets_more p sets i x within is =
    ap (list_any p) (mapped_taken set_said sets i x within)
    ∙ (any_push p (map set_said (take i sets)) (set_said (get_or sets i x)) ∙ ap (λ (y : Name × SetPart). list_any p (map set_said (take i sets)) || p (set_said y)) (sym is))

-- what is written through a slice of the whole list is the whole list
pub whole_again : (n : ℕ) (new old : List Bool) → n ≡ length old → length new ≡ length old → take n (new ++ drop (length new) old) ≡ new
whole_again n new old count same =
    ap (λ (ms : List Bool). take n (new ++ ms)) (drop_all (length new) old (omega (arith, same)))
    ∙ (ap (take n) (append-nil new) ∙ take_all n new (omega (arith, count, same)))
