-- The line of a verdict.
use Rattle.std.specs.Prelude.{ℕ, List, [], ◌∷◌, Option, Some, None, codes, decimal}
use Rattle.um_model.specs.declared.verdict.Reason.{Reason}
use Rattle.um_model.specs.declared.verdict.Reason.TheVariants as reason
use Rattle.um_model.specs.declared.verdict.Verdict.{Verdict}
use Rattle.um_model.specs.declared.verdict.Verdict.TheVariants.{Yes, No}
use Rattle.um_text.specs.Texts.{line_text}

abbrev pub reason_word : Reason → List ℕ
reason_word reason.Tolerance = codes "Tolerance"
reason_word reason.Fields = codes "Fields"
reason_word reason.Wide = codes "Wide"
reason_word reason.Infeasible = codes "Infeasible"
reason_word reason.Objective = codes "Objective"
reason_word reason.Ray = codes "Ray"
reason_word reason.Shape = codes "Shape"
reason_word reason.Branch = codes "Branch"
reason_word reason.Sign = codes "Sign"
reason_word reason.Bound = codes "Bound"
reason_word reason.NotEmpty = codes "NotEmpty"
reason_word reason.NotVoid = codes "NotVoid"
reason_word reason.OpenLeaf = codes "OpenLeaf"
reason_word reason.BoundWord = codes "BoundWord"

-- the node's place in preorder; a hyphen where the reason is none of a node
abbrev pub place_word : Option ℕ → List ℕ
place_word None = codes "-"
place_word (Some place) = decimal place

-- `yes`, or `no`, the node and the reason
abbrev pub verdict_words : Verdict → List (List ℕ)
verdict_words Yes = codes "yes" ∷ []
verdict_words (No place cause) = codes "no" ∷ place_word place ∷ reason_word cause ∷ []

abbrev pub verdict_text : Verdict → List ℕ
verdict_text verdict = line_text (verdict_words verdict)
