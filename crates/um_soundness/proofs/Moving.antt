-- A feasible point moved along a ray stays feasible, and its objective falls.
use Rattle.std.proofs.Common.{◌≡◌, ◌≢◌, ℕ, ◌<◌, ◌^◌, zero, suc, ℤ, pos, ◌+ℤ◌, ◌*ℤ◌, ◌≤ℤ◌, ◌<ℤ◌, ◌⊎◌, List, [], ◌∷◌, length, map, slice_index_or, Option, Some, None, IsSome, refl, sym, ◌∙◌, ap, subst, arith, if◌then◌else◌}
use Rattle.std.specs.List.{All}
use Rattle.std.proofs.Math.Nat.{pow-suc}
use Rattle.std.proofs.lemmas.Int.{ints}
use Rattle.std.proofs.lemmas.List.Elements.{All-head, All-tail}
use Rattle.um_laws.specs.Sums.{dot}
use Rattle.um_laws.proofs.WholeLaws.{*ℤ-mono}
use Rattle.um_laws.proofs.SumLaws.{sum_of-same_in}
use Rattle.um_laws.proofs.Polynomials.{Polynomial, term, number, ◌⊕◌, ◌⊗◌, same, at_most_of, below}
use Rattle.um_model.specs.Values.{DeckValue, ColumnValue, SetValue, PointValue}
use Rattle.um_model.specs.WellFormed.{AtPlace, HasTwoEnds, KindFits, IsSet, IsDeck}
use Rattle.um_model.specs.Feasible.{part, Between, Feasible, coefficient, linear_sum, is_arc_of, square_sum, row_times, RowHolds, EndsHold, IntegerHolds, SemiHolds, SetHolds, SetRule, IsMultipleOf}
use Rattle.um_model.specs.Objective.{cost_sum, objective_times, objective_over}
use Rattle.um_model.specs.Rays.{IsFree, Ray, moved_parts, moved}
use Rattle.um_soundness.specs.Laws.{RayLaw}
use Rattle.um_model.specs.declared.deck.Row.{Row}
use Rattle.um_model.specs.declared.deck.Kind.{Kind}
use Rattle.um_model.specs.declared.deck.Kind.TheVariants.{Continuous, Integer, Semi}
use Rattle.um_model.specs.declared.deck.Member.{Member}
use Rattle.um_model.specs.declared.deck.Arc.{Arc}
use Rattle.um_laws.proofs.Places.{item_of, item_at, get_of}
use Rattle.um_soundness.proofs.Curves.{both_up}

-- ---- parts that are moved
length-moved : (k : ℤ) (xs rs : List ℤ) → length (moved_parts k xs rs) ≡ length xs
length-moved k [] rs = refl
length-moved k (x ∷ xs) [] = refl
length-moved k (x ∷ xs) (r ∷ rs) = omega (arith, length-moved k xs rs)

part-moved : (k : ℤ) (xs rs : List ℤ) (i : ℕ) → length rs ≡ length xs → part (moved_parts k xs rs) i ≡ part xs i +ℤ k *ℤ part rs i
part-moved k [] [] i n = omega (arith, ints)
part-moved k [] (r ∷ rs) i n = absurd (omega arith)
part-moved k (x ∷ xs) [] i n = absurd (omega arith)
part-moved k (x ∷ xs) (r ∷ rs) zero n = refl
part-moved k (x ∷ xs) (r ∷ rs) (suc i) n = part-moved k xs rs i (omega arith)

dot-moved : {A : Type 0} (f : A → ℤ) (cs : List A) (k : ℤ) (xs rs : List ℤ) → length rs ≡ length xs → dot f cs (moved_parts k xs rs) ≡ dot f cs xs +ℤ k *ℤ dot f cs rs
dot-moved f [] k xs rs n = omega (arith, ints)
dot-moved f (c ∷ cs) k [] [] n = omega (arith, ints)
dot-moved f (c ∷ cs) k [] (r ∷ rs) n = absurd (omega arith)
dot-moved f (c ∷ cs) k (x ∷ xs) [] n = absurd (omega arith)
dot-moved f (c ∷ cs) k (x ∷ xs) (r ∷ rs) n =
    let F : Polynomial = term (f c) in
    let K : Polynomial = term k in
    let D : Polynomial = term (dot f cs xs) in
    let E : Polynomial = term (dot f cs rs) in
    let rest = dot-moved f cs k xs rs (omega arith) in
    rw rest (same (F ⊗ (term x ⊕ K ⊗ term r) ⊕ (D ⊕ K ⊗ E)) (F ⊗ term x ⊕ D ⊕ K ⊗ (F ⊗ term r ⊕ E)) (omega arith))

-- ---- changes that an end stops
is_there : {T : Type 0} (o : Option T) (x : T) → o ≡ Some x → IsSome o
is_there None x e = absurd (cc)
is_there (Some y) x e = refl

free_zero : (low high : Option ℤ) (x : ℤ) → HasTwoEnds low high → IsFree low high x → x ≡ pos 0
free_zero low high x two free = let a = free.down two.low in let b = free.up two.high in omega (arith, ints)

-- the ends stop no change that they leave free
still_between : (low high : Option ℤ) (q x change k : ℤ) → pos 0 ≤ℤ k → IsFree low high change → Between low high q x → Between low high q (x +ℤ k *ℤ change)
still_between low high q x change k positive free b = record {
  above = λ l e. let m = *ℤ-mono k (pos 0) change positive (free.down (is_there low l e)) in omega (arith, ints, b.above l e, m);
  below = λ h e. let m = *ℤ-mono k change (pos 0) positive (free.up (is_there high h e)) in omega (arith, ints, b.below h e, m);
}

map_same : {X Y : Type 0} (f g : X → Y) (xs : List X) → All (λ x. f x ≡ g x) xs → map f xs ≡ map g xs
map_same f g [] h = refl
map_same f g (x ∷ xs) h = let here = All-head (λ x. f x ≡ g x) x xs h in let rest = map_same f g xs (All-tail (λ x. f x ≡ g x) x xs h) in cc

-- ---- columns that a ray does not move
module _ (d : DeckValue) (deck : IsDeck d) (ray : List ℤ) (r : Ray d ray) where
  two_ends_still : (column : ℕ) (c : ColumnValue) → AtPlace d.columns column c → HasTwoEnds c.low c.high → part ray column ≡ pos 0
  two_ends_still column c at two = let i = item_of d.columns column c at in free_zero c.low c.high (part ray column) two (subst (λ (x : ColumnValue). IsFree x.low x.high (part ray column)) (i.is c) (r.columns column c i.inside))

  kind_still : (column : ℕ) (default : ColumnValue) → column < length d.columns → (kind : Kind) → (slice_index_or d.columns column default).kind ≡ kind → kind ≢ Continuous → part ray column ≡ pos 0
  kind_still column default inside kind e n = two_ends_still column (slice_index_or d.columns column default) (get_of d.columns column default inside) (two kind (subst (λ (k : Kind). KindFits k (slice_index_or d.columns column default).low (slice_index_or d.columns column default).high) e (deck.columns column default inside).kind) n)
    where
      two : {low high : Option ℤ} (kind : Kind) → KindFits kind low high → kind ≢ Continuous → HasTwoEnds low high
      two Continuous h n = absurd (n refl)
      two Integer h n = h
      two {low} (Semi s) h n = record { low = is_there low (pos 0) h.0; high = h.1 }

  arc_still : (k : ℕ) (default : Arc) → k < length d.arcs → part ray (slice_index_or d.arcs k default).column ≡ pos 0
  arc_still k default inside =
      let a = deck.arcs k default inside in
      let c = item_at d.columns (slice_index_or d.arcs k default).column a.column in
      two_ends_still (slice_index_or d.arcs k default).column c.0 c.1 (a.ends c.0 c.1)

  member_still : (s : SetValue) → IsSet d s → (k : ℕ) (default : Member) → k < length s.members → part ray (slice_index_or s.members k default).column ≡ pos 0
  member_still s set k default inside =
      let m = set.members k default inside in
      let c = item_at d.columns (slice_index_or s.members k default).column m.column in
      two_ends_still (slice_index_or s.members k default).column c.0 c.1 (record { low = is_there c.0.low (pos 0) (m.low c.0 c.1); high = m.high c.0 c.1 })

  module _ (p : PointValue) (f : Feasible d p) (k : ℤ) (one : pos 1 ≤ℤ k) where
    abbrev step : ℤ
    step = k *ℤ p.den

    abbrev parts : List ℤ
    parts = moved_parts step p.parts ray

    up_step : pos 0 ≤ℤ step
    up_step = both_up k p.den (omega (arith, ints)) (let h = f.den in omega (arith, ints))

    up_wide : pos 0 ≤ℤ (p.den *ℤ step)
    up_wide = both_up p.den step (let h = f.den in omega (arith, ints)) up_step

    as_long : length ray ≡ length p.parts
    as_long = r.parts ∙ sym f.parts

    still : (i : ℕ) → part ray i ≡ pos 0 → part parts i ≡ part p.parts i
    still i e = part-moved step p.parts ray i as_long ∙ (let z : part p.parts i +ℤ step *ℤ part ray i ≡ part p.parts i = rw e (omega (arith, ints)) in z)

    square_still : (row : Option ℕ) → square_sum d row parts ≡ square_sum d row p.parts
    square_still row = sum_of-same_in _ _ d.arcs (λ i default inside. ap (λ (x : ℤ). if is_arc_of row (slice_index_or d.arcs i default) then (slice_index_or d.arcs i default).value *ℤ (x *ℤ x) else pos 0) (still (slice_index_or d.arcs i default).column (arc_still i default inside)))

    row_is : (i : ℕ) → row_times d (moved k p ray) i ≡ row_times d p i +ℤ (p.den *ℤ step) *ℤ linear_sum d i ray
    row_is i =
        let L : Polynomial = term (linear_sum d i p.parts) in
        let M : Polynomial = term (linear_sum d i ray) in
        let S : Polynomial = term (square_sum d (Some i) p.parts) in
        let Q : Polynomial = term p.den in
        let K : Polynomial = term step in
        rw (dot-moved (coefficient i) d.columns step p.parts ray as_long) (rw (square_still (Some i)) (same (Q ⊗ (L ⊕ K ⊗ M) ⊕ S) (Q ⊗ L ⊕ S ⊕ (Q ⊗ K) ⊗ M) (omega arith)))

    rows : (i : ℕ) (default : Row) → i < length d.rows → RowHolds d (moved k p ray) i (slice_index_or d.rows i default)
    rows i default inside =
        let row : Row = slice_index_or d.rows i default in
        subst (λ (x : ℤ). Between row.low row.high (p.den *ℤ p.den) x) (sym (row_is i)) (still_between row.low row.high (p.den *ℤ p.den) (row_times d p i) (linear_sum d i ray) (p.den *ℤ step) up_wide (r.rows i default inside) (f.rows i default inside))

    ends : (j : ℕ) (default : ColumnValue) → j < length d.columns → EndsHold (moved k p ray) j (slice_index_or d.columns j default)
    ends j default inside =
        let c : ColumnValue = slice_index_or d.columns j default in
        let e : pos 1000 *ℤ part parts j ≡ pos 1000 *ℤ part p.parts j +ℤ (pos 1000 *ℤ step) *ℤ part ray j =
        rw (part-moved step p.parts ray j as_long) (same (number 1000 ⊗ (term (part p.parts j) ⊕ term step ⊗ term (part ray j))) (number 1000 ⊗ term (part p.parts j) ⊕ (number 1000 ⊗ term step) ⊗ term (part ray j)) (omega arith)) in
        subst (λ (x : ℤ). Between c.low c.high p.den x) (sym e) (still_between c.low c.high p.den (pos 1000 *ℤ part p.parts j) (part ray j) (pos 1000 *ℤ step) (both_up (pos 1000) step (omega (arith, ints)) up_step) (r.columns j default inside) (f.ends j default inside))

    integers : (j : ℕ) (default : ColumnValue) → j < length d.columns → IntegerHolds (moved k p ray) j (slice_index_or d.columns j default)
    integers j default inside e = subst (IsMultipleOf p.den) (sym (still j (kind_still j default inside Integer e (λ g. cc)))) (f.integers j default inside e)

    semis : (j : ℕ) (default : ColumnValue) → j < length d.columns → SemiHolds (moved k p ray) j (slice_index_or d.columns j default)
    semis j default inside s e = subst (λ (x : ℤ). (x ≡ pos 0) ⊎ ((s *ℤ p.den) ≤ℤ (pos 1000 *ℤ x))) (sym (still j (kind_still j default inside (Semi s) e (λ g. cc)))) (f.semis j default inside s e)

    sets : (i : ℕ) (default : SetValue) → i < length d.sets → SetHolds (moved k p ray) i (slice_index_or d.sets i default)
    sets i default inside =
        let s : SetValue = slice_index_or d.sets i default in
        subst (SetRule s.kind) (sym (map_same (λ (m : Member). part parts m.column) (λ (m : Member). part p.parts m.column) s.members (λ at member h. still (slice_index_or s.members at member).column (member_still s (deck.sets i default inside) at member h)))) (f.sets i default inside)

    falls : objective_times d (moved k p ray) <ℤ objective_times d p
    falls =
        let C : Polynomial = term (cost_sum d p.parts) in
        let R : Polynomial = term (cost_sum d ray) in
        let S : Polynomial = term (square_sum d None p.parts) in
        let Q : Polynomial = term p.den in
        let K : Polynomial = term step in
        let N : Polynomial = term d.constant in
        let one_step = *ℤ-mono p.den (pos 1) p.den (let h = f.den in omega (arith, ints)) f.den in
        let one_wide = *ℤ-mono k (pos 1) (p.den *ℤ p.den) (omega (arith, ints)) (let h = f.den in omega (arith, ints, one_step)) in
        let wide = *ℤ-mono (k *ℤ (p.den *ℤ p.den)) (cost_sum d ray +ℤ pos 1) (pos 0) (omega (arith, ints, one_wide)) (let h = r.falls in omega (arith, ints)) in
        rw (dot-moved (λ (c : ColumnValue). c.cost) d.columns step p.parts ray as_long) (rw (square_still None)
        (below (Q ⊗ (C ⊕ (term k ⊗ Q) ⊗ R) ⊕ S ⊕ N ⊗ (Q ⊗ Q)) (Q ⊗ C ⊕ S ⊕ N ⊗ (Q ⊗ Q))
        (omega (arith, at_most_of ((term k ⊗ (Q ⊗ Q)) ⊗ (R ⊕ number 1)) ((term k ⊗ (Q ⊗ Q)) ⊗ number 0) wide, at_most_of (term k ⊗ number 1) (term k ⊗ (Q ⊗ Q)) one_wide, at_most_of (number 1) (term k) one))))

    feasible : Feasible d (moved k p ray)
    feasible = record { den = f.den; parts = length-moved step p.parts ray ∙ f.parts; rows = rows; ends = ends; integers = integers; semis = semis; sets = sets }

times_below : (a b k : ℤ) → pos 1 ≤ℤ k → a <ℤ b → (a *ℤ k) <ℤ (b *ℤ k)
times_below a b k h l =
    let m = *ℤ-mono k (a +ℤ pos 1) b (omega (arith, ints)) (omega (arith, ints)) in
    below (term a ⊗ term k) (term b ⊗ term k) (omega (arith, at_most_of (term k ⊗ (term a ⊕ number 1)) (term k ⊗ term b) m, at_most_of (number 1) (term k) h))

pub ten_up : (n : ℕ) → 0 < 10 ^ n
ten_up zero = omega arith
ten_up (suc n) = let h = ten_up n in rw pow-suc (omega arith)

pub over_up : (d : DeckValue) (p : PointValue) → pos 1 ≤ℤ p.den → pos 1 ≤ℤ objective_over d p
over_up d p one =
    let a = *ℤ-mono p.den (pos 1) p.den (omega (arith, ints)) one in
    let t : pos 1 ≤ℤ pos (10 ^ d.scale) = let h = ten_up d.scale in omega (arith, ints) in
    let b = *ℤ-mono (p.den *ℤ p.den) (pos 1) (pos (10 ^ d.scale)) (omega (arith, ints, a)) t in
    omega (arith, ints, a, b)

pub ray-law : RayLaw
ray-law d p ray k deck f r one = (feasible d deck ray r p f k one, times_below (objective_times d (moved k p ray)) (objective_times d p) (objective_over d p) (over_up d p f.den) (falls d deck ray r p f k one))
