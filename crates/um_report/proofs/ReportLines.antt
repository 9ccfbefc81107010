-- The parts of a report.
use Rattle.std.proofs.Common.{◌≡◌, ℕ, ◌+◌, List, [], ◌∷◌, ◌++◌, map, codes, unsigned_abs, refl, sum_by}
use Rattle.std.specs.Prelude.{count_by}
use Rattle.std.specs.List.{fold}
use Rattle.um_model.specs.Values.{DeckValue}
use Rattle.um_model.specs.AnswerValues.{AnswerValue}
use Rattle.um_text.specs.Texts.{line_text, lines_text}
use Rattle.um_text.specs.NumberWords.{fraction_or_none}
use Rattle.um_text.proofs.Puts.{first_line, next_line, next_lines}
use Rattle.um_report.specs.Reports.{head_lines, heading_words, is_solved, pivots_of, stated, thousandths_word, work_lines, point_lines, ray_lines, report_text}

-- ---- sums over the nodes' values are those over the nodes

fold_map : {A B C : Type 0} (f : C → B → C) (g : A → B) (xs : List A) (c : C) → fold f c (map g xs) ≡ fold (λ (c : C) (x : A). f c (g x)) c xs
fold_map f g [] c = refl
fold_map f g (x ∷ xs) c = fold_map f g xs (f c (g x))

pub sum_by_map : {A B : Type 0} (f : B → ℕ) (g : A → B) (xs : List A) → sum_by f (map g xs) ≡ sum_by (λ (x : A). f (g x)) xs
sum_by_map f g xs = fold_map (λ c x. c + f x) g xs 0

-- ---- the parts of a report, one behind the other

pub head_put : (d : DeckValue) (a : AnswerValue) (t t1 t2 t3 t4 t5 : List ℕ) → t1 ≡ t ++ line_text (heading_words a.kind a.why) → t2 ≡ t1 ++ line_text (codes "objective" ∷ fraction_or_none (stated d.maximise a.objective) ∷ []) → t3 ≡ t2 ++ line_text (codes "bound" ∷ fraction_or_none (stated d.maximise a.bound) ∷ []) → t4 ≡ t3 ++ line_text (codes "tolerance" ∷ thousandths_word (unsigned_abs a.tolerance) ∷ []) → t5 ≡ t4 ++ lines_text (work_lines (count_by is_solved a.tree) (sum_by pivots_of a.tree)) → t5 ≡ t ++ lines_text (head_lines d a)
head_put d a t t1 t2 t3 t4 t5 e1 e2 e3 e4 e5 =
    let heading : List (List ℕ) = heading_words a.kind a.why in
    let objective : List (List ℕ) = codes "objective" ∷ fraction_or_none (stated d.maximise a.objective) ∷ [] in
    let bound : List (List ℕ) = codes "bound" ∷ fraction_or_none (stated d.maximise a.bound) ∷ [] in
    let tolerance : List (List ℕ) = codes "tolerance" ∷ thousandths_word (unsigned_abs a.tolerance) ∷ [] in
    let one = first_line t t1 heading e1 in
    let two = next_line t t1 t2 (heading ∷ []) objective one e2 in
    let three = next_line t t2 t3 (heading ∷ objective ∷ []) bound two e3 in
    let four = next_line t t3 t4 (heading ∷ objective ∷ bound ∷ []) tolerance three e4 in
    next_lines t t4 t5 (heading ∷ objective ∷ bound ∷ tolerance ∷ []) (work_lines (count_by is_solved a.tree) (sum_by pivots_of a.tree)) four e5

pub whole_report : (d : DeckValue) (a : AnswerValue) (t t1 t2 t3 : List ℕ) → t ≡ [] → t1 ≡ t ++ lines_text (head_lines d a) → t2 ≡ t1 ++ lines_text (point_lines d.columns a.point) → t3 ≡ t2 ++ lines_text (ray_lines d.columns a.ray) → t3 ≡ report_text d a
unfolding report_text
whole_report d a t t1 t2 t3 none e f g =
    let rest = next_lines t1 t2 t3 (point_lines d.columns a.point) (ray_lines d.columns a.ray) f g in
    let whole = next_lines t t1 t3 (head_lines d a) (point_lines d.columns a.point ++ ray_lines d.columns a.ray) e rest in
    rw none at whole
