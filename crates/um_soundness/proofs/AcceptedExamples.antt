-- Answers that are accepted, and one that is not: the definitions ask for nothing that can't be had.
use Rattle.std.proofs.Common.{◌≡◌, ◌<◌, ◌^◌, unsigned_abs, zero, suc, ℤ, pos, negsuc, inl, List, [], ◌∷◌, Option, Some, None, false, refl, sym, ◌∙◌, ap, subst, arith}
use Rattle.std.specs.Prelude.{take, IsSomeAnd}
use Rattle.std.proofs.lemmas.Int.{ints}
use Rattle.std.proofs.lemmas.List.Elements.{All-nil, All-cons}
use Rattle.um_laws.specs.Rational.{Rational, whole}
use Rattle.um_laws.proofs.RationalParts.{is_reduce}
use Rattle.um_model.specs.Values.{DeckValue}
use Rattle.um_model.specs.AnswerValues.{AnswerValue, NodeValue, Split, Bounded, Empty}
use Rattle.um_multipliers.specs.PlainMultipliers.{MultipliersValue}
use Rattle.um_model.specs.Feasible.{AllPlaces, RowHolds, EndsHold, IntegerHolds, SemiHolds, Feasible}
use Rattle.um_model.specs.Objective.{HasObjective}
use Rattle.um_model.specs.Boxes.{root, IsVoid}
use Rattle.um_model.specs.Branches.{Fits, left, right}
use Rattle.um_model.specs.LeafValue.{leaf_value, leaf_bound, Reaches, Empties, Closes}
use Rattle.um_model.specs.Accepted.{ToleranceHolds, FieldsGo, SignHolds, BoundedHolds, IsSmallPoint, bound_in, bounds_of, IsAtMost, IsLeast, TreeVerdict, BoundHolds, IsAccepted, IsVerdict, by_node}
use Rattle.um_multipliers.specs.Sizes.{AreBelow}
use Rattle.um_model.specs.declared.answer.AnswerKind.TheVariants.{Optimal, Infeasible as HasNone}
use Rattle.um_model.specs.declared.branch.Branch.TheVariants.{Int}
use Rattle.um_model.specs.declared.deck.Kind.TheVariants.{Continuous, Integer}
use Rattle.um_model.specs.declared.leaf.Leaf.{Leaf}
use Rattle.um_model.specs.declared.leaf.Leaf.TheVariants.{Value}
use Rattle.um_multipliers.specs.declared.multipliers.Price.{Price}
use Rattle.um_model.specs.declared.verdict.Reason.TheVariants as reason
use Rattle.um_model.specs.declared.verdict.Verdict.{Verdict}
use Rattle.um_model.specs.declared.verdict.Verdict.TheVariants.{Yes}
use Rattle.um_soundness.proofs.Objectives.{bound_reaches}
use Rattle.um_soundness.proofs.Scaling.{reduce_common}

-- ---- 2x = 1; x whole in [0, 1]; no cost
half_deck : DeckValue
half_deck = record {
  name = [];
  objective_name = [];
  maximise = false;
  scale = 0;
  constant = pos 0;
  rows = record { name = []; scale = 0; low = Some (pos 1); high = Some (pos 1) } ∷ [];
  columns = record { name = []; kind = Integer; low = Some (pos 0); high = Some (pos 1000); cost = pos 0; entries = record { row = 0; value = pos 2 } ∷ [] } ∷ [];
  sets = [];
  arcs = [];
}

one_row : ℤ → ℤ → MultipliersValue
one_row y0 value = record { y0 = y0; rows = record { row = 0; value = value } ∷ [] }

-- x <= 0 and x >= 1 are empty
half_tree : List NodeValue
half_tree = record { solved = None; what = Split (Int 0 (pos 0)) } ∷ record { solved = None; what = Empty (one_row (pos 0) (pos 1)) } ∷ record { solved = None; what = Empty (one_row (pos 0) (negsuc 0)) } ∷ []

half_answer : List NodeValue → AnswerValue
half_answer tree = record { kind = HasNone; why = None; tolerance = pos 0; objective = None; bound = None; point = None; ray = None; tree = tree }

left_not_void : ¬ IsVoid half_deck (left half_deck (root half_deck) (Int 0 (pos 0)))
unfolding half_deck
left_not_void (zero, inside, crossed) = omega (arith, ints)
left_not_void (suc column, inside, crossed) = omega arith

right_not_void : ¬ IsVoid half_deck (right half_deck (root half_deck) (Int 0 (pos 0)))
unfolding half_deck
right_not_void (zero, inside, crossed) = omega (arith, ints)
right_not_void (suc column, inside, crossed) = omega arith

one_row_small : (y0 value : ℤ) → unsigned_abs y0 < 2 ^ 40 → unsigned_abs value < 2 ^ 40 → AreBelow (2 ^ 40) (one_row y0 value)
unfolding one_row
one_row_small y0 value a b = record { y0 = a; rows = All-cons (λ (p : Price). unsigned_abs p.value < 2 ^ 40) (record { row = 0; value = value }) [] b (All-nil (λ (p : Price). unsigned_abs p.value < 2 ^ 40)) }

half_fields : (tree : List NodeValue) → FieldsGo (half_answer tree)
unfolding half_answer
half_fields tree = record { cause = refl; fields = record { point = refl; objective = refl; bound = refl; ray = refl } }

half_tolerance : ToleranceHolds half_deck (pos 0)
unfolding half_deck
half_tolerance = record { without_arcs = λ e. refl; least = λ n. absurd (n refl); most = λ n. absurd (n refl) }

half_fits : Fits half_deck (root half_deck) (Int 0 (pos 0))
unfolding half_deck
half_fits = record { kind = refl; low = omega (arith, ints); high = omega (arith, ints) }

left_empty : Empties half_deck (left half_deck (root half_deck) (Int 0 (pos 0))) (one_row (pos 0) (pos 1))
unfolding half_deck one_row leaf_value
left_empty = record { y0 = refl; value = pos 1000; value_is = refl; above = omega (arith, ints) }

right_empty : Empties half_deck (right half_deck (root half_deck) (Int 0 (pos 0))) (one_row (pos 0) (negsuc 0))
unfolding half_deck one_row leaf_value
right_empty = record { y0 = refl; value = pos 1000; value_is = refl; above = omega (arith, ints) }

left_sign : SignHolds half_deck (left half_deck (root half_deck) (Int 0 (pos 0))) (one_row (pos 0) (pos 1))
unfolding half_deck one_row leaf_value
left_sign = record { y0 = omega (arith, ints); ended = tt }

right_sign : SignHolds half_deck (right half_deck (root half_deck) (Int 0 (pos 0))) (one_row (pos 0) (negsuc 0))
unfolding half_deck one_row leaf_value
right_sign = record { y0 = omega (arith, ints); ended = tt }

-- an answer with a tree of this deck: what is looked at before the tree
half_begins : (tree : List NodeValue) (v : Verdict) → TreeVerdict HasNone half_deck (half_answer tree) v → IsVerdict half_deck (half_answer tree) v
unfolding half_answer
half_begins tree v h = inl (half_tolerance, inl (half_fields tree, inl (record { point = tt; ray = tt }, inl (tt, inl (tt, inl (tt, h))))))

half_accepted : IsAccepted half_deck (half_answer half_tree)
unfolding half_tree half_answer
half_accepted = half_begins half_tree Yes (inl (
  half_fits,
  inl (
    tt,
    inl (
      left_not_void,
      inl (
        one_row_small (pos 0) (pos 1) (omega arith) (omega arith),
        inl (
          left_sign,
          inl (
            left_empty,
            inl (
              tt,
              inl (
                right_not_void,
                inl (
                  one_row_small (pos 0) (negsuc 0) (omega arith) (omega arith),
                  inl (
                    right_sign,
                    inl (
                      right_empty,
                      inl (inl refl, refl),
                    ),
                  ),
                ),
              ),
            ),
          ),
        ),
      ),
    ),
  ),
))

-- without its last node the third node, at place 2, is missing
half_cut : IsVerdict half_deck (half_answer (take 2 half_tree)) (by_node 2 reason.Shape)
unfolding half_tree half_answer
half_cut = half_begins (take 2 half_tree) (by_node 2 reason.Shape) (inl (
  half_fits,
  inl (tt, inl (left_not_void, inl (one_row_small (pos 0) (pos 1) (omega arith) (omega arith), inl (left_sign, inl (left_empty, refl))))),
))

-- ---- min -x - 2y; x + y <= 4; x in [0, 3], y in [0, 2]
continuous_deck : DeckValue
continuous_deck = record {
  name = [];
  objective_name = [];
  maximise = false;
  scale = 0;
  constant = pos 0;
  rows = record { name = []; scale = 0; low = None; high = Some (pos 4) } ∷ [];
  columns = record { name = []; kind = Continuous; low = Some (pos 0); high = Some (pos 3000); cost = negsuc 0; entries = record { row = 0; value = pos 1 } ∷ [] }
      ∷ record { name = []; kind = Continuous; low = Some (pos 0); high = Some (pos 2000); cost = negsuc 1; entries = record { row = 0; value = pos 1 } ∷ [] } ∷ [];
  sets = [];
  arcs = [];
}

continuous_answer : AnswerValue
continuous_answer = record {
  kind = Optimal;
  why = None;
  tolerance = pos 0;
  objective = Some (whole (negsuc 5));
  bound = Some (whole (negsuc 5));
  point = Some (record { den = pos 1; parts = pos 2 ∷ pos 2 ∷ [] });
  ray = None;
  tree = record { solved = None; what = Bounded (one_row (pos 1) (negsuc 0)) } ∷ [];
}

continuous_not_void : ¬ IsVoid continuous_deck (root continuous_deck)
unfolding continuous_deck
continuous_not_void (zero, inside, crossed) = omega (arith, ints)
continuous_not_void (suc zero, inside, crossed) = omega (arith, ints)
continuous_not_void (suc (suc column), inside, crossed) = omega arith

continuous_feasible : Feasible continuous_deck (record { den = pos 1; parts = pos 2 ∷ pos 2 ∷ [] })
unfolding continuous_deck
continuous_feasible = record { den = omega (arith, ints); parts = refl; rows = rows; ends = ends; integers = integers; semis = semis; sets = λ set default h. absurd (omega arith) }
  where
    rows : AllPlaces (RowHolds continuous_deck (record { den = pos 1; parts = pos 2 ∷ pos 2 ∷ [] })) continuous_deck.rows
    rows zero default h = record { above = λ l e. absurd (cc); below = λ x e. let g : pos 4 ≡ x = cc in rw (← g) (omega (arith, ints)) }
    rows (suc row) default h = absurd (omega arith)

    ends : AllPlaces (EndsHold (record { den = pos 1; parts = pos 2 ∷ pos 2 ∷ [] })) continuous_deck.columns
    ends zero default h = record { above = λ x e. let g : pos 0 ≡ x = cc in rw (← g) (omega (arith, ints)); below = λ x e. let g : pos 3000 ≡ x = cc in rw (← g) (omega (arith, ints)) }
    ends (suc zero) default h = record { above = λ x e. let g : pos 0 ≡ x = cc in rw (← g) (omega (arith, ints)); below = λ x e. let g : pos 2000 ≡ x = cc in rw (← g) (omega (arith, ints)) }
    ends (suc (suc column)) default h = absurd (omega arith)

    integers : AllPlaces (IntegerHolds (record { den = pos 1; parts = pos 2 ∷ pos 2 ∷ [] })) continuous_deck.columns
    integers zero default h e = absurd (cc)
    integers (suc zero) default h e = absurd (cc)
    integers (suc (suc column)) default h e = absurd (omega arith)

    semis : AllPlaces (SemiHolds (record { den = pos 1; parts = pos 2 ∷ pos 2 ∷ [] })) continuous_deck.columns
    semis zero default h t e = absurd (cc)
    semis (suc zero) default h t e = absurd (cc)
    semis (suc (suc column)) default h t e = absurd (omega arith)

continuous_objective : HasObjective continuous_deck (record { den = pos 1; parts = pos 2 ∷ pos 2 ∷ [] }) (whole (negsuc 5))
unfolding continuous_deck whole
continuous_objective = sym (is_reduce (negsuc 5) 1 (omega arith))

continuous_value : leaf_value continuous_deck (root continuous_deck) (one_row (pos 1) (negsuc 0)) ≡ Value (negsuc 5999)
unfolding continuous_deck one_row leaf_value
continuous_value = refl

continuous_bound : leaf_bound continuous_deck (pos 1) (negsuc 5999) ≡ whole (negsuc 5)
unfolding continuous_deck whole
continuous_bound = reduce_common (negsuc 5) 1 1000 (omega arith) (omega arith)

continuous_closes : Closes continuous_deck (root continuous_deck) (one_row (pos 1) (negsuc 0)) (whole (negsuc 5)) (pos 0)
unfolding one_row
continuous_closes = record {
  y0 = omega (arith, ints);
  value = negsuc 5999;
  value_is = continuous_value;
  reaches = subst (λ (v : Rational). Reaches continuous_deck (pos 1) (negsuc 5999) v (pos 0)) continuous_bound (bound_reaches continuous_deck (pos 1) (negsuc 5999) (omega (arith, ints)));
}

continuous_bounds : bounds_of continuous_deck (root continuous_deck ∷ []) continuous_answer.tree ≡ Some (whole (negsuc 5)) ∷ []
unfolding continuous_answer one_row
continuous_bounds = ap (λ (leaf : Leaf). bound_in continuous_deck (pos 1) leaf ∷ []) continuous_value ∙ ap (λ (x : Rational). Some x ∷ []) continuous_bound

continuous_bound_holds : BoundHolds continuous_deck continuous_answer
unfolding continuous_answer
continuous_bound_holds = subst (λ (bounds : List (Option Rational)). IsLeast bounds (whole (negsuc 5))) (sym continuous_bounds) (record {
  among = (0, omega arith, refl);
  least = All-cons (λ (o : Option Rational). IsSomeAnd o (IsAtMost (whole (negsuc 5)))) (Some (whole (negsuc 5))) [] (omega (arith, ints)) (All-nil (λ (o : Option Rational). IsSomeAnd o (IsAtMost (whole (negsuc 5)))));
})

continuous_sign : SignHolds continuous_deck (root continuous_deck) (one_row (pos 1) (negsuc 0))
unfolding continuous_deck one_row leaf_value
continuous_sign = record { y0 = omega (arith, ints); ended = tt }

continuous_small : IsSmallPoint (record { den = pos 1; parts = pos 2 ∷ pos 2 ∷ [] })
continuous_small = record {
  den = omega arith;
  parts = All-cons (λ x. unsigned_abs x < 2 ^ 36) (pos 2) (pos 2 ∷ []) (omega arith) (All-cons (λ x. unsigned_abs x < 2 ^ 36) (pos 2) [] (omega arith) (All-nil (λ x. unsigned_abs x < 2 ^ 36)));
}

continuous_tolerance : ToleranceHolds continuous_deck (pos 0)
unfolding continuous_deck
continuous_tolerance = record { without_arcs = λ e. refl; least = λ n. absurd (n refl); most = λ n. absurd (n refl) }

continuous_fields : FieldsGo continuous_answer
unfolding continuous_answer
continuous_fields = record { cause = refl; fields = record { point = refl; objective = refl; bound = refl; ray = refl } }

continuous_bounded : BoundedHolds continuous_deck continuous_answer (root continuous_deck) (one_row (pos 1) (negsuc 0))
unfolding continuous_answer
continuous_bounded = record { point = refl; closes = continuous_closes }

continuous_accepted : IsAccepted continuous_deck continuous_answer
unfolding continuous_answer
continuous_accepted = inl (
  continuous_tolerance,
  inl (
    continuous_fields,
    inl (
      record { point = continuous_small; ray = tt },
      inl (
        continuous_feasible,
        inl (
          continuous_objective,
          inl (
            tt,
            inl (
              tt,
              inl (
                continuous_not_void,
                inl (
                  one_row_small (pos 1) (negsuc 0) (omega arith) (omega arith),
                  inl (
                    continuous_sign,
                    inl (
                      continuous_bounded,
                      inl (continuous_bound_holds, refl),
                    ),
                  ),
                ),
              ),
            ),
          ),
        ),
      ),
    ),
  ),
)
