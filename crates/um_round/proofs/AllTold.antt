-- What all lines of the normal text say.
use Rattle.std.proofs.Common.{◌≡◌, List, [], ◌∷◌, ◌++◌, sym, ap, ◌∙◌, arith}
use Rattle.um_model.specs.Values.{DeckValue}
use Rattle.um_model.specs.WellFormed.{IsDeck}
use Rattle.um_statements.specs.Statements.{Statement}
use Rattle.um_decktext.specs.declared.section.Section.TheVariants as section
use Rattle.um_decktext.specs.DeckLines.{Line}
use Rattle.um_statements.specs.Tells.{Says}
use Rattle.um_decktext.specs.Places.{place_of}
use Rattle.um_decktext.specs.LinesSay.{line_says}
use Rattle.um_make.specs.NormalLines.{columns_data, front_lines, columns_lines, back_lines, normal_lines}
use Rattle.um_round.proofs.NormalTold.{front_told, columns_told, back_told, normal_told}
use Rattle.um_round.specs.Sayable.{HasWordNames}
use Rattle.um_round.proofs.LinesTold.{oks, said_by, each_append, oks-append}
use Rattle.um_round.proofs.RowsTold.{front_said, front_behind}
use Rattle.um_round.proofs.ColumnsTold.{columns_said, columns_behind, columns_closed}
use Rattle.um_round.proofs.BackTold.{IsReady, back_said}

both : (before xs ys : List Line) (told more : List (List Statement)) → said_by before xs ≡ oks told → said_by (before ++ xs) ys ≡ oks more → said_by before (xs ++ ys) ≡ oks (told ++ more)
both before xs ys told more a b = each_append (λ before line. line_says (place_of before) line ∷ []) before xs ys ∙ ap (λ (s : List Says). s ++ said_by (before ++ xs) ys) a ∙ ap (λ (s : List Says). oks told ++ s) b ∙ sym (oks-append told more)

pub told-law : (d : DeckValue) → IsDeck d → HasWordNames d → said_by [] (normal_lines d) ≡ oks (normal_told d)
unfolding normal_lines
told-law d deck named =
    let front = front_behind d in
    let ready : IsReady (front_lines d ++ columns_lines d) 3 = record { last = section.Columns; words = columns_data d; behind = columns_behind d (front_lines d) front; low = omega arith; closed = columns_closed d deck named } in
    both [] (front_lines d) (columns_lines d ++ back_lines d) (front_told d) ([] ∷ columns_told d ++ back_told d) (front_said d)
    (both (front_lines d) (columns_lines d) (back_lines d) ([] ∷ columns_told d) (back_told d) (columns_said d deck named (front_lines d) front) (back_said d deck named (front_lines d ++ columns_lines d) ready))
