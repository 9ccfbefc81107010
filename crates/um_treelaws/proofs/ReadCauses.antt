-- The line of the cause: the words that were read are those that are written of it.
use Rattle.std.proofs.Common.{◌≡◌, ℕ, ◌<◌, ◌^◌, true, List, [], ◌∷◌, Option, Some, None, IfSome, Ok, codes, refl, sym, ap, ◌∙◌, subst, arith}
use Rattle.std.specs.Fmt.{decimal, signed_decimal}
use Rattle.um_num.specs.Numbers.{IsInRange, then_step}
use Rattle.um_num.specs.declared.exact.Op.{Op}
use Rattle.um_num.specs.declared.exact.Op.TheVariants.{Add, Sub, Mul}
use Rattle.um_num.specs.declared.exact.Wide.{Wide}
use Rattle.um_text.specs.Words.{has_bytes}
use Rattle.um_model.specs.declared.answer.Why.{Why}
use Rattle.um_model.specs.declared.answer.Why.TheVariants as why
use Rattle.um_treetext.specs.declared.reading.causes.CauseWord.{CauseWord}
use Rattle.um_treetext.specs.declared.reading.causes.CauseWord.TheVariants as cause
use Rattle.um_treetext.specs.Words.{Words, Taken, told, taking, natural_word, whole_word}
use Rattle.um_treetext.specs.FrontLines.{op_said, wide_said, step_place_said, step_said, place_said, cause_called, cause_said, why_line}
use Rattle.um_treetext.specs.TreeText.{op_word, step_words, cause_word, place_words, why_words}
use Rattle.um_treetext.specs.Writable.{IsStep, IsWritableWhy}
use Rattle.um_treelaws.proofs.ReadSteps.{steps, Begins, begins_none, begins_more, begins_one, begins_both, AreWords, are_words, are_more, SaysAs, took_as, told_as, over_rewritten, labelled_rewritten, called_rewritten, IsAny}
use Rattle.um_treelaws.proofs.ReadNumbers.{natural_rewritten, IsBelow, whole_rewritten}
use Rattle.um_treelaws.proofs.ReadLines.{LineAs}

abbrev ops : List (List ℕ × Op)
ops = (codes "add", Add) ∷ (codes "sub", Sub) ∷ (codes "mul", Mul) ∷ []

op_rewritten : SaysAs op_said op_word IsAny
op_rewritten word v e = (called_rewritten op_word ops (refl, (refl, (refl, tt))) word v e, tt)

-- an operation and its two numbers
record IsWide (ws : Words) (t : Taken Wide) : Type 0 where
  begins : Begins ws (op_word t.value.op ∷ signed_decimal t.value.left ∷ signed_decimal t.value.right ∷ []) t.left
  left : IsInRange t.value.left
  right : IsInRange t.value.right

wide_rewritten : (ws : Words) (t : Taken Wide) → wide_said ws ≡ Ok t → IsWide ws t
unfolding wide_said
wide_rewritten ws t e =
    let op = steps (taking op_said ws) (λ op. then_step (taking whole_word op.left) (λ left. then_step (taking whole_word left.left) (λ right. told (record { op = op.value; left = left.value; right = right.value }) right.left))) t e in
    let left = steps (taking whole_word op.value.left) (λ left. then_step (taking whole_word left.left) (λ right. told (record { op = op.value.value; left = left.value; right = right.value }) right.left)) t op.two in
    let right = steps (taking whole_word left.value.left) (λ right. told (record { op = op.value.value; left = left.value.value; right = right.value }) right.left) t left.two in
    let one = took_as op_said op_word IsAny ws op.value op_rewritten op.one in
    let two = took_as whole_word signed_decimal IsInRange op.value.left left.value whole_rewritten left.one in
    let three = took_as whole_word signed_decimal IsInRange left.value.left right.value whole_rewritten right.one in
    let u = op_word op.value.value in
    let w = signed_decimal left.value.value in
    let v = signed_decimal right.value.value in
    let begins = begins_more ws op.value.left right.value.left (w ∷ v ∷ []) u one.parts one.some (begins_more op.value.left left.value.left right.value.left (v ∷ []) w two.parts two.some (begins_one left.value.left right.value.left v three.parts three.some)) in
    told_as (λ (w : Wide) (l : Words). IsWide ws (record { value = w; left = l })) (record { op = op.value.value; left = left.value.value; right = right.value.value }) right.value.left t right.two
    (record { begins = begins; left = two.good; right = three.good })

record IsPlace (ws : Words) (t : Taken (ℕ × ℕ)) : Type 0 where
  begins : Begins ws (decimal t.value.0 ∷ decimal t.value.1 ∷ []) t.left
  number : t.value.0 < 2 ^ 32
  step : t.value.1 < 2 ^ 64

step_place_rewritten : (ws : Words) (t : Taken (ℕ × ℕ)) → step_place_said ws ≡ Ok t → IsPlace ws t
unfolding step_place_said
step_place_rewritten ws t e =
    let number = steps (taking (natural_word (2 ^ 32)) ws) (λ number. then_step (taking (natural_word (2 ^ 64)) number.left) (λ step. told (number.value, step.value) step.left)) t e in
    let step = steps (taking (natural_word (2 ^ 64)) number.value.left) (λ step. told (number.value.value, step.value) step.left) t number.two in
    let one = took_as (natural_word (2 ^ 32)) decimal (IsBelow (2 ^ 32)) ws number.value (natural_rewritten (2 ^ 32) (omega arith)) number.one in
    let two = took_as (natural_word (2 ^ 64)) decimal (IsBelow (2 ^ 64)) number.value.left step.value (natural_rewritten (2 ^ 64) (omega arith)) step.one in
    told_as (λ (p : ℕ × ℕ) (l : Words). IsPlace ws (record { value = p; left = l })) (number.value.value, step.value.value) step.value.left t step.two
    (record { begins = begins_more ws number.value.left step.value.left _ _ one.parts one.some (begins_one number.value.left step.value.left _ two.parts two.some); number = one.good; step = two.good })

-- the first word of a cause
abbrev cause_name : CauseWord → List ℕ
cause_name cause.None = codes "none"
cause_name cause.Nodes = codes "nodes"
cause_name cause.Pivots = codes "pivots"
cause_name cause.Points = codes "points"
cause_name cause.Grid = codes "grid"
cause_name cause.Pivot = codes "pivot"
cause_name cause.Value = codes "value"
cause_name cause.Leaf = codes "leaf"
cause_name cause.Vertex = codes "vertex"
cause_name cause.Ray = codes "ray"

abbrev causes : List (List ℕ × CauseWord)
causes =
    (codes "none", cause.None) ∷ (codes "nodes", cause.Nodes) ∷ (codes "pivots", cause.Pivots)
    ∷ (codes "points", cause.Points) ∷ (codes "grid", cause.Grid) ∷ (codes "pivot", cause.Pivot)
    ∷ (codes "value", cause.Value) ∷ (codes "leaf", cause.Leaf) ∷ (codes "vertex", cause.Vertex)
    ∷ (codes "ray", cause.Ray) ∷ []

called_cause_rewritten : SaysAs cause_called cause_name IsAny
called_cause_rewritten word v e = (called_rewritten cause_name causes (refl, (refl, (refl, (refl, (refl, (refl, (refl, (refl, (refl, (refl, tt)))))))))) word v e, tt)

abbrev pub IsWritableCause : Option Why → Type 0
IsWritableCause o = IfSome o IsWritableWhy

-- a cause behind its first word
record Caused (name : List ℕ) (ws : Words) (o : Option Why) (left : Words) : Type 0 where
  begins : Begins ws (place_words o) left
  word : cause_word o ≡ name
  good : IsWritableCause o

alone : (name : List ℕ) (o : Option Why) (ws : Words) (t : Taken (Option Why)) → place_words o ≡ [] → cause_word o ≡ name → IsWritableCause o → told o ws ≡ Ok t → Caused name ws t.value t.left
alone name o ws t none word good e = told_as (Caused name ws) o ws t e (record { begins = subst (λ (l : Words). Begins ws l ws) (sym none) (begins_none ws); word = word; good = good })

place_rewritten : (made : ℕ → Why) (name : List ℕ) (ws : Words) (t : Taken (Option Why)) → ((n : ℕ) → place_words (Some (made n)) ≡ decimal n ∷ []) → ((n : ℕ) → cause_word (Some (made n)) ≡ name) → ((n : ℕ) → n < 2 ^ 32 → IsWritableWhy (made n)) → place_said made ws ≡ Ok t → Caused name ws t.value t.left
unfolding place_said
place_rewritten made name ws t words word good e =
    let s = steps (taking (natural_word (2 ^ 32)) ws) (λ number. told (Some (made number.value)) number.left) t e in
    let k = took_as (natural_word (2 ^ 32)) decimal (IsBelow (2 ^ 32)) ws s.value (natural_rewritten (2 ^ 32) (omega arith)) s.one in
    let n = s.value.value in
    told_as (Caused name ws) (Some (made n)) s.value.left t s.two
    (record { begins = subst (λ (l : Words). Begins ws l s.value.left) (sym (words n)) (begins_one ws s.value.left (decimal n) k.parts k.some); word = word n; good = good n k.good })

step_rewritten : (made : ℕ → ℕ → Wide → Why) (name : List ℕ) (ws : Words) (t : Taken (Option Why)) → ((n k : ℕ) (w : Wide) → place_words (Some (made n k w)) ≡ step_words n k w) → ((n k : ℕ) (w : Wide) → cause_word (Some (made n k w)) ≡ name) → ((n k : ℕ) (w : Wide) → IsStep n k w → IsWritableWhy (made n k w)) → step_said made ws ≡ Ok t → Caused name ws t.value t.left
unfolding step_said
step_rewritten made name ws t words word good e =
    let p = steps (step_place_said ws) (λ place. then_step (wide_said place.left) (λ wide. told (Some (made place.value.0 place.value.1 wide.value)) wide.left)) t e in
    let w = steps (wide_said p.value.left) (λ wide. told (Some (made p.value.value.0 p.value.value.1 wide.value)) wide.left) t p.two in
    let one = step_place_rewritten ws p.value p.one in
    let two = wide_rewritten p.value.left w.value w.one in
    let n = p.value.value.0 in
    let k = p.value.value.1 in
    let wide = w.value.value in
    told_as (Caused name ws) (Some (made n k wide)) w.value.left t w.two
    (record {
      begins = subst (λ (l : Words). Begins ws l w.value.left) (sym (words n k wide)) (begins_both ws p.value.left w.value.left (decimal n ∷ decimal k ∷ []) (op_word wide.op ∷ signed_decimal wide.left ∷ signed_decimal wide.right ∷ []) one.begins two.begins);
      word = word n k wide;
      good = good n k wide (record { number = one.number; step = one.step; left = two.left; right = two.right });
    })

cause_rewritten : (c : CauseWord) (ws : Words) (t : Taken (Option Why)) → cause_said c ws ≡ Ok t → Caused (cause_name c) ws t.value t.left
cause_rewritten cause.None ws t e = alone (codes "none") None ws t refl refl tt e
cause_rewritten cause.Nodes ws t e = alone (codes "nodes") (Some why.Nodes) ws t refl refl tt e
cause_rewritten cause.Pivots ws t e = alone (codes "pivots") (Some why.Pivots) ws t refl refl tt e
cause_rewritten cause.Points ws t e = place_rewritten why.Points (codes "points") ws t (λ n. refl) (λ n. refl) (λ n h. h) e
cause_rewritten cause.Grid ws t e = place_rewritten why.Grid (codes "grid") ws t (λ n. refl) (λ n. refl) (λ n h. h) e
cause_rewritten cause.Pivot ws t e = step_rewritten why.Pivot (codes "pivot") ws t (λ n k w. refl) (λ n k w. refl) (λ n k w h. h) e
cause_rewritten cause.Value ws t e = step_rewritten why.Value (codes "value") ws t (λ n k w. refl) (λ n k w. refl) (λ n k w h. h) e
cause_rewritten cause.Leaf ws t e = place_rewritten why.Leaf (codes "leaf") ws t (λ n. refl) (λ n. refl) (λ n h. h) e
cause_rewritten cause.Vertex ws t e = place_rewritten why.Vertex (codes "vertex") ws t (λ n. refl) (λ n. refl) (λ n h. h) e
cause_rewritten cause.Ray ws t e = alone (codes "ray") (Some why.Ray) ws t refl refl tt e

abbrev pub why_line_words : Option Why → Words
why_line_words o = codes "WHY" ∷ why_words o

pub why_rewritten : LineAs why_line why_line_words IsWritableCause
why_rewritten ws v e =
    let l = labelled_rewritten (codes "WHY") _ ws v e in
    let word = steps (taking cause_called l.left) _ v l.said in
    let t = steps (cause_said word.value.value word.value.left) _ v word.two in
    let o = over_rewritten t.value.value v t.value.left t.two in
    let one = took_as cause_called cause_name IsAny l.left word.value called_cause_rewritten word.one in
    let c = cause_rewritten word.value.value word.value.left t.value t.one in
    let rest = are_words word.value.left t.value.left (place_words t.value.value) c.begins o.0 in
    let first : l.left ≡ cause_word t.value.value ∷ word.value.left = one.parts ∙ ap (λ (w : List ℕ). w ∷ word.value.left) (sym c.word) in
    let some : has_bytes (cause_word t.value.value) ≡ true = ap has_bytes c.word ∙ one.some in
    let all = are_more ws l.left _ (codes "WHY") l.behind.parts l.behind.some (are_more l.left word.value.left (place_words t.value.value) (cause_word t.value.value) first some rest) in
    subst (λ (x : Option Why). AreWords ws (why_line_words x) × IsWritableCause x) o.1 (all, c.good)
