use Rattle.std.proofs.Common.{◌≡◌, ◌<◌, ℕ, List, length, slice_index_or, arith, ap, ◌∙◌, sym, subst, FitsSigned}
use Rattle.std.specs.Int.{w128}
use Rattle.std.proofs.lemmas.Int.{to_z-of_z, ints}
use Rattle.um_num.specs.Listed.{Listed}
use Rattle.um_lp.specs.States.{Frame, coefficient}
use Rattle.um_lp.specs.declared.relaxation.Term.{Term}
use Rattle.um_tableau.specs.Frames.{AreRisingTerms}
use Rattle.um_tableau.proofs.FrameLemmas.{length-columns_of}
use Rattle.um_tableau.proofs.Coefficients.{coefficient_at}
use Rattle.um_tableau.proofs.given.Given.coefficient.Goals as goal

pub offset_bounds-as_slice-column : goal.offset_bounds-as_slice-column
offset_bounds-as_slice-column c =
    let i = c.self.inside in
    let long = length-columns_of i.costs.items i.terms.items c.self.invariant.same in
    omega (arith, c.self.invariant.size, ap (λ (f : Frame). length f.columns) c.self.view_is)

pub bounds-as_slice-column : goal.bounds-as_slice-column
bounds-as_slice-column c =
    let i = c.self.inside in
    let long = length-columns_of i.costs.items i.terms.items c.self.invariant.same in
    omega (arith, c.self.invariant.same, ap (λ (f : Frame). length f.columns) c.self.view_is, ap length c.as_slice.ensures)

-- the terms of the column rise
rising : (terms : List (Listed Term)) (slice : List (Listed Term)) (column : ℕ) (v : Listed Term) (items : List Term) → ((k : ℕ) (d : Listed Term) → k < length terms → AreRisingTerms (slice_index_or terms k d).items)
    → slice ≡ terms → column < length terms → v ≡ slice_index_or slice column v → items ≡ v.items → AreRisingTerms items
rising terms slice column v items h e l read f = subst (λ (xs : List Term). AreRisingTerms xs) (sym (f ∙ ap (λ (x : Listed Term). x.items) (read ∙ ap (λ (xs : List (Listed Term)). slice_index_or xs column v) e))) (h column v l)

pub coefficient_of-requires-clause-rise : goal.coefficient_of-requires-clause-rise
coefficient_of-requires-clause-rise c =
    let i = c.self.inside in
    let long = length-columns_of i.costs.items i.terms.items c.self.invariant.same in
    let l : c.args.column < length i.terms.items = omega (arith, c.self.invariant.same, ap (λ (f : Frame). length f.columns) c.self.view_is) in
    (rising i.terms.items c.as_slice.result.now c.args.column c.index-as_slice-column.result c.as_slice-2.result.now c.self.invariant.terms_in c.as_slice.ensures l c.index-as_slice-column.is c.as_slice-2.ensures).rise

pub coefficient_of-requires-clause-range : goal.coefficient_of-requires-clause-range
coefficient_of-requires-clause-range c =
    let i = c.self.inside in
    let long = length-columns_of i.costs.items i.terms.items c.self.invariant.same in
    let l : c.args.column < length i.terms.items = omega (arith, c.self.invariant.same, ap (λ (f : Frame). length f.columns) c.self.view_is) in
    (rising i.terms.items c.as_slice.result.now c.args.column c.index-as_slice-column.result c.as_slice-2.result.now c.self.invariant.terms_in c.as_slice.ensures l c.index-as_slice-column.is c.as_slice-2.ensures).range

pub returns-clause-value : goal.returns-clause-value
returns-clause-value c =
    let i = c.self.inside in
    let long = length-columns_of i.costs.items i.terms.items c.self.invariant.same in
    let l : c.args.column < length i.costs.items = omega (arith, ap (λ (f : Frame). length f.columns) c.self.view_is) in
    let r = c.coefficient_of.ensures.range in
    let f : FitsSigned w128 c.coefficient_of.result = omega (arith, ints, r) in
    let read = c.index-as_slice-column.is ∙ ap (λ (xs : List (Listed Term)). slice_index_or xs c.args.column c.index-as_slice-column.result) c.as_slice.ensures in
    simp to_z-of_z
    (c.coefficient_of.ensures.value
    ∙ ap (λ (xs : List Term). coefficient xs c.args.row) c.as_slice-2.ensures
    ∙ sym (coefficient_at i.costs.items i.terms.items c.args.self.now.columns c.args.column c.index-as_slice-column.result c.args.row (ap (λ (f : Frame). f.columns) c.self.view_is) c.self.invariant.same l read))
