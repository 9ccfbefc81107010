-- The columns of a frame.
use Rattle.std.proofs.Common.{◌≡◌, ℕ, zero, suc, ◌+◌, ◌*◌, ◌<◌, ℤ, pos, List, [], ◌∷◌, length, map, get_or, arith, sym, ◌∙◌, ap, refl}
use Rattle.std.proofs.lemmas.List.{length-map}
use Rattle.um_num.specs.Listed.{Listed}
use Rattle.um_lp.specs.States.{ColumnData, Frame, no_data}
use Rattle.um_lp.specs.Relaxations.{columns_of}
use Rattle.um_lp.specs.declared.relaxation.Term.{Term}
use Rattle.um_tableau.specs.Frames.{items_of}

-- a column for each cost, where there are as many lists of terms
pub length-columns_of : (costs : List ℤ) (terms : List (Listed Term)) → length terms ≡ length costs → length (columns_of costs terms) ≡ length costs
length-columns_of [] terms e = refl
length-columns_of (c ∷ cs) [] e = absurd (omega arith)
length-columns_of (c ∷ cs) (t ∷ ts) e = ap suc (length-columns_of cs ts (omega arith))

-- the columns hang on the items of the lists alone
pub columns_of-same : (costs : List ℤ) (xs ys : List (Listed Term)) → map items_of xs ≡ map items_of ys → columns_of costs xs ≡ columns_of costs ys
columns_of-same [] xs ys e = refl
columns_of-same (c ∷ cs) [] [] e = refl
columns_of-same (c ∷ cs) (x ∷ xs) [] e = cc
columns_of-same (c ∷ cs) [] (y ∷ ys) e = cc
columns_of-same (c ∷ cs) (x ∷ xs) (y ∷ ys) e =
    let head : x.items ≡ y.items = cc in
    let tail : map items_of xs ≡ map items_of ys = cc in
    ap (λ (items : List Term). record { cost = c; terms = items } ∷ columns_of cs xs) head ∙ ap (λ (columns : List ColumnData). record { cost = c; terms = y.items } ∷ columns) (columns_of-same cs xs ys tail)

pub length-same : (xs ys : List (Listed Term)) → map items_of xs ≡ map items_of ys → length xs ≡ length ys
length-same xs ys e = sym (length-map xs items_of) ∙ ap length e ∙ length-map ys items_of

-- what stands at a column
pub column_at : (costs : List ℤ) (terms : List (Listed Term)) (j : ℕ) (d : Listed Term) → length terms ≡ length costs → j < length costs
    → get_or (columns_of costs terms) j no_data ≡ record { cost = get_or costs j (pos 0); terms = (get_or terms j d).items }
column_at [] terms j d e l = absurd (omega arith)
column_at (c ∷ cs) [] j d e l = absurd (omega arith)
column_at (c ∷ cs) (t ∷ ts) zero d e l = refl
column_at (c ∷ cs) (t ∷ ts) (suc j) d e l = column_at cs ts j d (omega arith) (omega arith)

abbrev frame : ℕ → ℕ → List ColumnData → Frame
frame rows bends columns = record { rows = rows + bends; columns = columns; places = 256 * bends }

-- a frame of copied costs and terms
pub frame_is : (rows n m : ℕ) (cs ds : List ℤ) (xs ys : List (Listed Term)) → n ≡ m → cs ≡ ds → map items_of xs ≡ map items_of ys → frame rows n (columns_of cs xs) ≡ frame rows m (columns_of ds ys)
frame_is rows n m cs ds xs ys en ec et =
    ap (λ (k : ℕ). frame rows k (columns_of cs xs)) en
    ∙ ap (λ (costs : List ℤ). frame rows m (columns_of costs xs)) ec
    ∙ ap (λ (columns : List ColumnData). frame rows m columns) (columns_of-same ds xs ys et)
