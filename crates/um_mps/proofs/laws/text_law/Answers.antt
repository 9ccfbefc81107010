use Rattle.std.proofs.Common.{◌≡◌, ◌⊎◌, inl, inr, ℕ, List, Option, Some, None, refl, sym, ap, ◌∙◌}
use Rattle.um_statements.specs.declared.fault.Fault.{Fault}
use Rattle.um_decktext.specs.DeckText.{text_deck, text_fault}
use Rattle.um_mps.specs.Laws.{Broken, Read}
use Rattle.um_mps.proofs.laws.text_law.Goals as goal

either : (bytes : List ℕ) → Read bytes ⊎ Broken bytes
either bytes = by (text_fault bytes) refl
  where
    by : (o : Option (ℕ × Fault)) → text_fault bytes ≡ o → Read bytes ⊎ Broken bytes
    by None same = inl (record { deck = text_deck bytes; text = record { unbroken = same; deck = refl } })
    by (Some p) same = inr (record { line = p.0; fault = p.1; first = same })

abbrev the : (ℕ × Fault) → Option (ℕ × Fault) → ℕ × Fault
the p None = p
the p (Some q) = q

same_pair : (p q : ℕ × Fault) (found : Option (ℕ × Fault)) → found ≡ Some p → found ≡ Some q → p ≡ q
same_pair p q found first second = ap (the p) (sym first ∙ second)

nothing_some : (p : ℕ × Fault) (found : Option (ℕ × Fault)) → found ≡ None → found ≡ Some p → ⊥
nothing_some p found none some = cc

pub returns : goal.returns
returns c = record {
  either = either;
  never_both = λ bytes d line fault read broken. nothing_some (line, fault) (text_fault bytes) read.unbroken broken;
  one_deck = λ bytes d e first second. first.deck ∙ sym second.deck;
  one_line = λ bytes line other fault rule first second. ap (λ (p : ℕ × Fault). p.0) (same_pair (line, fault) (other, rule) (text_fault bytes) first second);
  one_fault = λ bytes line other fault rule first second. ap (λ (p : ℕ × Fault). p.1) (same_pair (line, fault) (other, rule) (text_fault bytes) first second);
}
