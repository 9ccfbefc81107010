-- What steps that went well say of the words that they took.
use Rattle.std.proofs.Common.{◌≡◌, ℕ, Bool, true, false, List, [], ◌∷◌, ◌++◌, append-nil, append_assoc, length, Result, Ok, Err, refl, sym, ap, ◌∙◌, subst, arith, inl, inr}
use Rattle.std.specs.Str.{bytes_eq}
use Rattle.std.specs.List.{list_all}
use Rattle.std.proofs.lemmas.Bool.{cases_Bool, and_from, lt-ltb}
use Rattle.std.specs.Bool.{⊤}
use Rattle.std.proofs.lemmas.List.Folds.{list_all-append}
use Rattle.std.proofs.lemmas.Slice.Eq.{bytes_eq-Decides}
use Rattle.um_num.specs.Numbers.{then_step}
use Rattle.um_text.specs.Words.{has_bytes}
use Rattle.um_treetext.specs.declared.fault.TreeWord.{TreeWord}
use Rattle.um_treetext.specs.Words.{Words, Says, Taken, Rule, told, kept, taking, next_word, fixed, ended, over, sole, labelled, called, is_next}

-- ---- two steps, and rules

-- what the first step gave, and the second made of it
pub record Stepped {A B E : Type 0} (first : Result A E) (second : A → Result B E) (x : B) : Type 0 where
  pub value : A
  pub one : first ≡ Ok value
  pub two : second value ≡ Ok x

pub steps : {A B E : Type 0} (first : Result A E) (second : A → Result B E) (x : B) → then_step first second ≡ Ok x → Stepped first second x
steps (Ok v) second x e = record { value = v; one = refl; two = e }
steps (Err f) second x e = absurd (let bad = e in cc)

pub same_ok : {A E : Type 0} (r : Result A E) (v w : A) → r ≡ Ok v → r ≡ Ok w → v ≡ w
same_ok r v w e f = let same : Ok v ≡ Ok w = sym e ∙ f in cc

-- a rule that was kept
pub keeps : {A : Type 0} (broken : Bool) (fault : TreeWord) (rules : List Rule) (v w : A) → kept ((broken, fault) ∷ rules) v ≡ Ok w → (broken ≡ false) × (kept rules v ≡ Ok w)
keeps true fault rules v w e = absurd (let bad = e in cc)
keeps false fault rules v w e = (refl, e)

-- the last one
pub keeps_last : {A : Type 0} (broken : Bool) (fault : TreeWord) (v w : A) → kept ((broken, fault) ∷ []) v ≡ Ok w → (broken ≡ false) × (v ≡ w)
keeps_last true fault v w e = absurd (let bad = e in cc)
keeps_last false fault v w e = (refl, let same : v ≡ w = cc in same)

pub same_bytes : (word other : List ℕ) → bytes_eq word other ≡ true → word ≡ other
same_bytes word other t = (bytes_eq-Decides word other).0 t

-- ---- words

-- the words are those that were written, none of them empty, and others behind them
pub record Begins (ws written left : Words) : Type 0 where
  pub parts : ws ≡ written ++ left
  pub some : list_all has_bytes written ≡ true

pub begins_none : (ws : Words) → Begins ws [] ws
begins_none ws = record { parts = refl; some = refl }

pub begins_more : (ws mid left written : Words) (word : List ℕ) → ws ≡ word ∷ mid → has_bytes word ≡ true → Begins mid written left → Begins ws (word ∷ written) left
begins_more ws mid left written word e some rest = record { parts = e ∙ ap (λ (l : Words). word ∷ l) rest.parts; some = and_from _ _ some rest.some }

pub begins_one : (ws left : Words) (word : List ℕ) → ws ≡ word ∷ left → has_bytes word ≡ true → Begins ws (word ∷ []) left
begins_one ws left word e some = begins_more ws left left [] word e some (begins_none left)

list_all-both : (xs ys : Words) → list_all has_bytes xs ≡ true → list_all has_bytes ys ≡ true → list_all has_bytes (xs ++ ys) ≡ true
list_all-both xs ys t u = list_all-append has_bytes xs ys ∙ and_from _ _ t u

pub begins_both : (ws mid left xs ys : Words) → Begins ws xs mid → Begins mid ys left → Begins ws (xs ++ ys) left
begins_both ws mid left xs ys b c = record { parts = b.parts ∙ ap (λ (l : Words). xs ++ l) c.parts ∙ sym (append_assoc xs ys left); some = list_all-both xs ys b.some c.some }

-- the words are those that were written, none of them empty
pub record AreWords (ws written : Words) : Type 0 where
  pub are : ws ≡ written
  pub some : list_all has_bytes written ≡ true

pub are_words : (ws left written : Words) → Begins ws written left → left ≡ [] → AreWords ws written
are_words ws left written b none = record { are = b.parts ∙ ap (λ (l : Words). written ++ l) none ∙ append-nil written; some = b.some }

-- words to the end of a line
pub begins_all : (ws left written : Words) → AreWords ws written → left ≡ [] → Begins ws written left
begins_all ws left written w none = record { parts = w.are ∙ sym (append-nil written) ∙ ap (λ (l : Words). written ++ l) (sym none); some = w.some }

pub are_more : (ws mid written : Words) (word : List ℕ) → ws ≡ word ∷ mid → has_bytes word ≡ true → AreWords mid written → AreWords ws (word ∷ written)
are_more ws mid written word e some rest = record { are = e ∙ ap (λ (l : Words). word ∷ l) rest.are; some = and_from _ _ some rest.some }

pub are_none : (ws : Words) → ws ≡ [] → AreWords ws []
are_none ws e = record { are = e; some = refl }

-- what holds of a value and the words behind it holds of what was told
pub told_as : {A : Type 0} (P : A → Words → Type 0) (v : A) (ws : Words) (t : Taken A) → told v ws ≡ Ok t → P v ws → P t.value t.left
told_as {A = A} P v ws t e h = let same : record { value = v; left = ws } ≡ t = cc in subst (λ (x : Taken A). P x.value x.left) same h

-- ---- one word

-- a word that was taken
pub record Took {A : Type 0} (says : List ℕ → Says A) (ws : Words) (t : Taken A) : Type 0 where
  pub word : List ℕ
  pub parts : ws ≡ word ∷ t.left
  pub some : has_bytes word ≡ true
  pub said : says word ≡ Ok t.value

some_bytes : (b : ℕ) (bs : List ℕ) → has_bytes (b ∷ bs) ≡ true
some_bytes b bs = lt-ltb 0 (length (b ∷ bs)) (omega arith)

pub took : {A : Type 0} (says : List ℕ → Says A) (ws : Words) (t : Taken A) → taking says ws ≡ Ok t → Took says ws t
unfolding taking next_word
took says [] t e = absurd (let bad = e in cc)
took says ([] ∷ ws) t e = absurd (let bad = e in cc)
took {A = A} says ((b ∷ bs) ∷ ws) t e = by (says (b ∷ bs)) refl e
  where
    by : (r : Says A) → says (b ∷ bs) ≡ r → then_step r (λ v. told v ws) ≡ Ok t → Took says ((b ∷ bs) ∷ ws) t
    by (Ok v) is f =
        let same : record { value = v; left = ws } ≡ t = cc in
        record { word = b ∷ bs; parts = ap (λ (x : Taken A). (b ∷ bs) ∷ x.left) same; some = some_bytes b bs; said = is ∙ ap (λ (x : Taken A). Ok x.value) same }
    by (Err g) is f = absurd (let bad = f in cc)

-- what a word says is written as this word, and is good
abbrev pub SaysAs : {A : Type 0} → (List ℕ → Says A) → (A → List ℕ) → (A → Type 0) → Type 0
SaysAs {A} says write Good = (word : List ℕ) (v : A) → says word ≡ Ok v → (word ≡ write v) × Good v

-- a word that was taken is the value as it is written
pub record TookAs {A : Type 0} (write : A → List ℕ) (Good : A → Type 0) (ws : Words) (t : Taken A) : Type 0 where
  pub parts : ws ≡ write t.value ∷ t.left
  pub some : has_bytes (write t.value) ≡ true
  pub good : Good t.value

pub took_as : {A : Type 0} (says : List ℕ → Says A) (write : A → List ℕ) (Good : A → Type 0) (ws : Words) (t : Taken A) → SaysAs says write Good → taking says ws ≡ Ok t → TookAs write Good ws t
took_as says write Good ws t back e =
    let k = took says ws t e in
    let w = back k.word t.value k.said in
    record { parts = k.parts ∙ ap (λ (x : List ℕ). x ∷ t.left) w.0; some = ap has_bytes (sym w.0) ∙ k.some; good = w.1 }

-- a fixed word that came next
pub record Behind (word : List ℕ) (ws left : Words) : Type 0 where
  pub parts : ws ≡ word ∷ left
  pub some : has_bytes word ≡ true

pub fixed_rewritten : (word : List ℕ) (ws left : Words) → fixed word ws ≡ Ok left → Behind word ws left
unfolding fixed next_word
fixed_rewritten word [] left e = absurd (let bad = e in cc)
fixed_rewritten word ([] ∷ ws) left e = absurd (let bad = e in cc)
fixed_rewritten word ((b ∷ bs) ∷ ws) left e =
    elim (cases_Bool (bytes_eq (b ∷ bs) word)) [
      | inl t ↦
          let is = same_bytes (b ∷ bs) word t in
          let f : Ok ws ≡ Ok left = rw t at e in
          let same : ws ≡ left = cc in
          record { parts = ap (λ (x : List ℕ). x ∷ ws) is ∙ ap (λ (l : Words). word ∷ l) same; some = ap has_bytes (sym is) ∙ some_bytes b bs }
      | inr t ↦ absurd (let bad = rw t at e in cc)
    ]

-- the words of a line are these and no more
pub ended_rewritten : (ws left : Words) → ended ws ≡ Ok left → ws ≡ []
ended_rewritten [] left e = refl
ended_rewritten (w ∷ ws) left e = absurd (let bad = e in cc)

pub over_rewritten : {A : Type 0} (value v : A) (ws : Words) → over value ws ≡ Ok v → (ws ≡ []) × (value ≡ v)
over_rewritten value v [] e = (refl, let same : value ≡ v = cc in same)
over_rewritten value v (w ∷ ws) e = absurd (let bad = e in cc)

-- what the last word says is written as the line's one word
pub sole_rewritten : {A : Type 0} (says : List ℕ → Says A) (write : A → List ℕ) (Good : A → Type 0) (ws : Words) (v : A) → SaysAs says write Good → sole says ws ≡ Ok v → AreWords ws (write v ∷ []) × Good v
sole_rewritten {A = A} says write Good ws v back e =
    let s = steps (taking says ws) (λ t. over t.value t.left) v e in
    let o = over_rewritten s.value.value v s.value.left s.two in
    let k = took_as says write Good ws s.value back s.one in
    (are_more ws s.value.left [] (write v) (subst (λ (x : A). ws ≡ write x ∷ s.value.left) o.1 k.parts) (subst (λ (x : A). has_bytes (write x) ≡ true) o.1 k.some) (are_none s.value.left o.0), subst Good o.1 k.good)

-- a label, and what is said behind it
pub record Labelled {A : Type 0} (label : List ℕ) (says : Words → Says A) (ws : Words) (v : A) : Type 0 where
  pub left : Words
  pub behind : Behind label ws left
  pub said : says left ≡ Ok v

pub labelled_rewritten : {A : Type 0} (label : List ℕ) (says : Words → Says A) (ws : Words) (v : A) → labelled label says ws ≡ Ok v → Labelled label says ws v
labelled_rewritten label says ws v e = let s = steps (fixed label ws) says v e in record { left = s.value; behind = fixed_rewritten label ws s.value s.one; said = s.two }

-- a line's words behind its label
pub label_more : {A : Type 0} (label : List ℕ) (says : Words → Says A) (ws written : Words) (v : A) → (l : Labelled label says ws v) → AreWords l.left written → AreWords ws (label ∷ written)
label_more label says ws written v l rest = are_more ws l.left written label l.behind.parts l.behind.some rest

pub next_rewritten : (word w : List ℕ) (ws : Words) → is_next word (w ∷ ws) ≡ true → w ≡ word
unfolding is_next
next_rewritten word w ws t = same_bytes w word t

-- ---- words by a list of words

-- each value of the list is written as the word beside it
abbrev pub Named : {A : Type 0} → (A → List ℕ) → List (List ℕ × A) → Type 0
Named write [] = ⊤
Named write (p ∷ ps) = (p.0 ≡ write p.1) × Named write ps

pub called_rewritten : {A : Type 0} (write : A → List ℕ) (ps : List (List ℕ × A)) → Named write ps → (word : List ℕ) (v : A) → called ps word ≡ Ok v → word ≡ write v
called_rewritten write [] named word v e = absurd (let bad = e in cc)
called_rewritten write (p ∷ ps) named word v e =
    elim (cases_Bool (bytes_eq word p.0)) [
      | inl t ↦
          let f : Ok p.1 ≡ Ok v = rw t at e in
          let same : p.1 ≡ v = cc in
          same_bytes word p.0 t ∙ named.0 ∙ ap write same
      | inr t ↦ let f : called ps word ≡ Ok v = rw t at e in called_rewritten write ps named.1 word v f
    ]

-- any value is good
abbrev pub IsAny : {A : Type 0} → A → Type 0
IsAny v = ⊤
