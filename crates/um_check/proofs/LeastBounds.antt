-- The bound that is found leaf by leaf is that of the whole tree.
use Rattle.std.proofs.Common.{◌≡◌, pos, ◌*ℤ◌, ◌≤ℤ◌, ◌<ℤ◌, List, [], ◌∷◌, ◌++◌, Option, Some, None, refl, sym, ap, subst, arith, inl, inr, append_assoc, Ordering, Less, Equal, Greater}
use Rattle.std.specs.Prelude.{All, Contains, IsSomeAnd, ◌↔◌, ◌⊎◌}
use Rattle.std.specs.Ordering.{MatchOrdering}
use Rattle.std.specs.Cmp.{int_ranked}
use Rattle.std.proofs.lemmas.Int.{ints}
use Rattle.std.proofs.lemmas.List.{append-nil}
use Rattle.std.proofs.lemmas.List.Elements.{All-cons, All-nil, All-push, All-weaker, All-contains, Contains-append_left, Contains-push}
use Rattle.um_laws.specs.Rational.{Rational}
use Rattle.um_laws.proofs.Polynomials.{Polynomial, term, ◌⊗◌, at_most, at_most_of}
use Rattle.um_laws.proofs.RationalParts.{same_from_cross}
use Rattle.um_laws.proofs.WholeLaws.{*ℤ-mono}
use Rattle.um_num.specs.Fractions.{order}
use Rattle.um_model.specs.Accepted.{IsAtMost, IsLeast, IsBoundOf}
use Rattle.um_soundness.proofs.Scaling.{cancel_le}
use Rattle.um_check.specs.Bounds.{lesser_by, joined, of_bound, joined_all, least_of, told}
use Rattle.um_check.specs.declared.bound.LeastBound.{LeastBound}
use Rattle.um_check.specs.declared.bound.LeastBound.TheVariants.{Nothing, Endless, Least}

-- ---- the order of rational numbers

at_most_self : (x : Rational) → IsAtMost x x
at_most_self x = omega (arith, ints)

at_most_trans : (x y z : Rational) → IsAtMost x y → IsAtMost y z → IsAtMost x z
at_most_trans x y z a b =
    let X : Polynomial = term x.num in
    let Y : Polynomial = term y.num in
    let Z : Polynomial = term z.num in
    let e : Polynomial = term (pos x.den) in
    let f : Polynomial = term (pos y.den) in
    let g : Polynomial = term (pos z.den) in
    let one : pos 1 ≤ℤ pos y.den = let h = y.positive in omega (arith, ints) in
    let l = *ℤ-mono (pos z.den) (x.num *ℤ pos y.den) (y.num *ℤ pos x.den) (omega (arith, ints)) a in
    let r = *ℤ-mono (pos x.den) (y.num *ℤ pos z.den) (z.num *ℤ pos y.den) (omega (arith, ints)) b in
    cancel_le (pos y.den) (x.num *ℤ pos z.den) (z.num *ℤ pos x.den) one
    (at_most (f ⊗ (X ⊗ g)) (f ⊗ (Z ⊗ e)) (omega (arith, at_most_of (g ⊗ (X ⊗ f)) (g ⊗ (Y ⊗ e)) l, at_most_of (e ⊗ (Y ⊗ g)) (e ⊗ (Z ⊗ f)) r)))

at_most_both : (x y : Rational) → IsAtMost x y → IsAtMost y x → x ≡ y
at_most_both x y a b = same_from_cross x y (omega (arith, ints, a, b))

-- ---- what leaves so far say

abbrev pub AreCounted : List (Option Rational) → LeastBound → Type 0
AreCounted bounds Nothing = bounds ≡ []
AreCounted bounds Endless = Contains bounds None
AreCounted bounds (Least x) = IsLeast bounds x

abbrev Above : Rational → Option Rational → Type 0
Above x o = IsSomeAnd o (IsAtMost x)

lower : (x y : Rational) (bounds : List (Option Rational)) → IsAtMost y x → All (Above x) bounds → All (Above y) bounds
lower x y bounds le all = All-weaker (Above x) (Above y) down bounds all
  where
    down : (o : Option Rational) → Above x o → Above y o
    down None h = h
    down (Some z) h = at_most_trans y x z le h

stands : (y x : Rational) → MatchOrdering (order y x) ((y.num *ℤ pos x.den) <ℤ (x.num *ℤ pos y.den)) (y.num *ℤ pos x.den ≡ x.num *ℤ pos y.den) ((x.num *ℤ pos y.den) <ℤ (y.num *ℤ pos x.den))
unfolding order
stands y x = int_ranked (y.num *ℤ pos x.den) (x.num *ℤ pos y.den) (order y x) refl

one_more : (bounds : List (Option Rational)) (so_far : LeastBound) (o : Option Rational) → AreCounted bounds so_far → AreCounted (bounds ++ o ∷ []) (joined so_far (of_bound o))
one_more bounds Nothing o h = subst (λ (bs : List (Option Rational)). AreCounted (bs ++ o ∷ []) (of_bound o)) (sym h) (alone o)
  where
    alone : (o : Option Rational) → AreCounted (o ∷ []) (of_bound o)
    alone None = (0, omega arith, refl)
    alone (Some x) = record { among = (0, omega arith, refl); least = All-cons (Above x) (Some x) [] (at_most_self x) (All-nil (Above x)) }
one_more bounds Endless o h = Contains-append_left bounds (o ∷ []) None h
one_more bounds (Least x) None h = Contains-push bounds None
one_more bounds (Least x) (Some y) h = by (order y x) (stands y x)
  where
    keeps : IsAtMost x y → IsLeast (bounds ++ Some y ∷ []) x
    keeps le = record { among = Contains-append_left bounds (Some y ∷ []) (Some x) h.among; least = All-push (Above x) bounds (Some y) h.least le }

    by : (r : Ordering) → MatchOrdering r ((y.num *ℤ pos x.den) <ℤ (x.num *ℤ pos y.den)) (y.num *ℤ pos x.den ≡ x.num *ℤ pos y.den) ((x.num *ℤ pos y.den) <ℤ (y.num *ℤ pos x.den))
        → IsLeast (bounds ++ Some y ∷ []) (lesser_by r x y)
    by Less lt =
        let le : IsAtMost y x = omega (arith, ints, lt) in
        record { among = Contains-push bounds (Some y); least = All-push (Above y) bounds (Some y) (lower x y bounds le h.least) (at_most_self y) }
    by Equal e = keeps (omega (arith, ints, e))
    by Greater lt = keeps (omega (arith, ints, lt))

all_more : (bounds more : List (Option Rational)) (so_far : LeastBound) → AreCounted bounds so_far → AreCounted (bounds ++ more) (joined_all so_far more)
all_more bounds [] so_far h = subst (λ (bs : List (Option Rational)). AreCounted bs so_far) (sym (append-nil bounds)) h
all_more bounds (o ∷ more) so_far h =
    subst (λ (bs : List (Option Rational)). AreCounted bs (joined_all (joined so_far (of_bound o)) more)) (append_assoc bounds (o ∷ []) more)
    (all_more (bounds ++ o ∷ []) more (joined so_far (of_bound o)) (one_more bounds so_far o h))

pub counted : (bounds : List (Option Rational)) → AreCounted bounds (least_of bounds)
counted bounds = all_more [] bounds Nothing refl

-- ---- the bound that an answer states

nothing_in : {o : Option Rational} → ¬ Contains [] o
nothing_in (k, inside, e) = absurd (omega arith)

stated_by : (bounds : List (Option Rational)) (least : LeastBound) (stated : Option Rational) → AreCounted bounds least → IsBoundOf bounds stated ↔ (stated ≡ told least)
stated_by bounds Nothing None h = (λ g. refl, λ g. inl h)
stated_by bounds Nothing (Some y) h = (λ g. absurd (nothing_in (subst (λ (bs : List (Option Rational)). Contains bs (Some y)) h g.among)), λ g. cc)
stated_by bounds Endless None h = (λ g. refl, λ g. inr h)
stated_by bounds Endless (Some y) h = (λ g. absurd (All-contains (Above y) bounds None g.least h), λ g. cc)
stated_by bounds (Least x) None h = (from, λ g. cc)
  where
    from : (bounds ≡ []) ⊎ Contains bounds None → None ≡ Some x
    from (inl e) = absurd (nothing_in (subst (λ (bs : List (Option Rational)). Contains bs (Some x)) e h.among))
    from (inr g) = absurd (All-contains (Above x) bounds None h.least g)
stated_by bounds (Least x) (Some y) h = (λ g. ap Some (at_most_both y x (All-contains (Above y) bounds (Some x) g.least h.among) (All-contains (Above x) bounds (Some y) h.least g.among)), from)
  where
    from : Some y ≡ Some x → IsLeast bounds y
    from e = let same : x ≡ y = cc in subst (IsLeast bounds) same h

pub bound_test : (bounds : List (Option Rational)) (stated : Option Rational) → IsBoundOf bounds stated ↔ (stated ≡ told (least_of bounds))
bound_test bounds stated = stated_by bounds (least_of bounds) stated (counted bounds)

-- ---- two lists

pub joined_append : (before : LeastBound) (xs ys : List (Option Rational)) → joined_all before (xs ++ ys) ≡ joined_all (joined_all before xs) ys
joined_append before [] ys = refl
joined_append before (x ∷ xs) ys = joined_append (joined before (of_bound x)) xs ys
