-- All bytes are one answer's text, or break one rule first.
use Rattle.std.proofs.Common.{◌≡◌, ◌⊎◌, ℕ, List, Ok, Err, refl, sym, ap, ◌∙◌, inl, inr}
use Rattle.um_model.specs.Values.{DeckValue}
use Rattle.um_model.specs.AnswerValues.{AnswerValue}
use Rattle.um_treetext.specs.declared.fault.TreeWord.{TreeWord}
use Rattle.um_treetext.specs.Reading.{Reads, TreeText, TreeFaultAt, tree_read}
use Rattle.um_treetext.specs.ReadLaws.{IsText, IsBroken, TextLaw}

text_or_fault : (d : DeckValue) (bytes : List ℕ) (read : Reads AnswerValue) → tree_read d bytes ≡ read → IsText d bytes ⊎ IsBroken d bytes
text_or_fault d bytes (Ok a) e = inl (record { answer = a; text = e })
text_or_fault d bytes (Err at) e = inr (record { line = at.0; fault = at.1; first = e })

same_fault : (d : DeckValue) (bytes : List ℕ) (line other : ℕ) (fault rule : TreeWord) → TreeFaultAt d bytes line fault → TreeFaultAt d bytes other rule → ◌≡◌ {A = ℕ × TreeWord} (line, fault) (other, rule)
same_fault d bytes line other fault rule e f = let same : ◌≡◌ {A = Reads AnswerValue} (Err (line, fault)) (Err (other, rule)) = sym e ∙ f in cc

same_answer : (d : DeckValue) (bytes : List ℕ) (a b : AnswerValue) → TreeText d bytes a → TreeText d bytes b → a ≡ b
same_answer d bytes a b e f = let same : Ok a ≡ Ok b = sym e ∙ f in cc

not_both : (d : DeckValue) (bytes : List ℕ) (a : AnswerValue) (line : ℕ) (fault : TreeWord) → TreeText d bytes a → TreeFaultAt d bytes line fault → ⊥
not_both d bytes a line fault e f = let bad : ◌≡◌ {A = Reads AnswerValue} (Ok a) (Err (line, fault)) = sym e ∙ f in cc

pub one_reading : (d : DeckValue) (bytes : List ℕ) → TextLaw d bytes
one_reading d bytes = record {
  either = text_or_fault d bytes (tree_read d bytes) refl;
  never_both = not_both d bytes;
  one_answer = same_answer d bytes;
  one_line = λ line other fault rule e f. ap (λ (at : ℕ × TreeWord). at.0) (same_fault d bytes line other fault rule e f);
  one_fault = λ line other fault rule e f. ap (λ (at : ℕ × TreeWord). at.1) (same_fault d bytes line other fault rule e f);
}
