use Rattle.std.proofs.Common.{◌≡◌, ◌<◌, true≢false, rules, List, length, map, inr, sym, ap, ◌∙◌}
use Rattle.std.specs.Option.{ForSome}
use Rattle.std.proofs.lemmas.List.Sorted.{answers_always}
use Rattle.um_num.specs.Listed.{Listed}
use Rattle.um_model.specs.declared.deck.Member.{Member}
use Rattle.um_statements.specs.Said.{Said, SetSaid}
use Rattle.um_statements.specs.Made.{weight_of, by_weight}
use Rattle.um_statements.specs.DeckRules.{has_twice}
use Rattle.um_made.specs.Views.{set_said}
use Rattle.um_made.specs.Parts.{said}
use Rattle.um_made.proofs.ToldFacts.{row_count}
use Rattle.um_made.proofs.Sorted.{sorted_once, weights_once, weights_twice, rises_from}
use Rattle.um_made.proofs.SetSteps.{same_fine, fine_reference, weights_are, weights_refused, none_empty, some_not_empty, set_too_fine, set_empty, set_twice, set_fine}
use Rattle.um_made.proofs.told.Told.members_by_weight.Goals as goal

pub is_too_fine-requires : goal.is_too_fine-requires
is_too_fine-requires c = λ place e. rw c.requires.numbers.count (rw (row_count c.args.self.now) (c.requires.set.weights_row place e))

pub weighted-requires-clause-fine : goal.weighted-requires-clause-fine
weighted-requires-clause-fine c =
    let s : Said = said c.args.self.now in
    let x : SetSaid = set_said c.args.set.now in
    let within : ForSome x.reference (λ place. place < length c.args.numbers.now) = λ place e. rw c.requires.numbers.count (rw (row_count c.args.self.now) (c.requires.set.weights_row place e)) in
    let same = same_fine s c.args.numbers.now c.requires.numbers x.reference within in
    let fine = sym same ∙ (sym c.is_too_fine.ensures ∙ c.if-is_too_fine.false) in
    fine_reference s x.reference fine

pub returns-then-is_too_fine : goal.returns-then-is_too_fine
returns-then-is_too_fine c =
    let s : Said = said c.args.self.now in
    let x : SetSaid = set_said c.args.set.now in
    let within : ForSome x.reference (λ place. place < length c.args.numbers.now) = λ place e. rw c.requires.numbers.count (rw (row_count c.args.self.now) (c.requires.set.weights_row place e)) in
    let same = same_fine s c.args.numbers.now c.requires.numbers x.reference within in
    inr (set_too_fine s x (sym same ∙ (sym c.is_too_fine.ensures ∙ c.if-is_too_fine.true)))

pub returns-in-Err : goal.returns-in-Err
returns-in-Err c =
    let s : Said = said c.args.self.now in
    let x : SetSaid = set_said c.args.set.now in
    let within : ForSome x.reference (λ place. place < length c.args.numbers.now) = λ place e. rw c.requires.numbers.count (rw (row_count c.args.self.now) (c.requires.set.weights_row place e)) in
    let same = same_fine s c.args.numbers.now c.requires.numbers x.reference within in
    let fine = sym same ∙ (sym c.is_too_fine.ensures ∙ c.if-is_too_fine.false) in
    weights_refused s x c.in-Err.fault fine c.in-Err.ensures

pub returns-then-is_empty : goal.returns-then-is_empty
returns-then-is_empty c =
    let s : Said = said c.args.self.now in
    let x : SetSaid = set_said c.args.set.now in
    let within : ForSome x.reference (λ place. place < length c.args.numbers.now) = λ place e. rw c.requires.numbers.count (rw (row_count c.args.self.now) (c.requires.set.weights_row place e)) in
    let same = same_fine s c.args.numbers.now c.requires.numbers x.reference within in
    let fine = sym same ∙ (sym c.is_too_fine.ensures ∙ c.if-is_too_fine.false) in
    inr (set_empty s x fine c.in-Ok.ensures.0 (none_empty x.members (c.is_empty.ensures.0 c.if-is_empty.true)))

pub returns-then-has_twice : goal.returns-then-has_twice
returns-then-has_twice c =
    let s : Said = said c.args.self.now in
    let x : SetSaid = set_said c.args.set.now in
    let within : ForSome x.reference (λ place. place < length c.args.numbers.now) = λ place e. rw c.requires.numbers.count (rw (row_count c.args.self.now) (c.requires.set.weights_row place e)) in
    let same = same_fine s c.args.numbers.now c.requires.numbers x.reference within in
    let fine = sym same ∙ (sym c.is_too_fine.ensures ∙ c.if-is_too_fine.false) in
    let some = some_not_empty x.members (λ e. true≢false (sym (c.is_empty.ensures.1 e) ∙ c.if-is_empty.false)) in
    let ms : List Member = c.in-Ok.members.items in
    let sorted : List Member = c.sort_unstable_by_key.new.self.items in
    let weights : map (λ (m : Member). m.weight) ms ≡ map (weight_of s x) x.members = ap (map (λ (m : Member). m.weight)) c.in-Ok.ensures.1 ∙ weights_are s x in
    let twice = rw c.deref.ensures.value at (sym c.has_twice.ensures ∙ c.if-has_twice.true) in
    inr (set_twice s x fine c.in-Ok.ensures.0 some (sym (ap has_twice weights) ∙ weights_twice ms sorted c.sort_unstable_by_key.ensures.permutation twice))

pub returns : goal.returns
returns c =
    let s : Said = said c.args.self.now in
    let x : SetSaid = set_said c.args.set.now in
    let within : ForSome x.reference (λ place. place < length c.args.numbers.now) = λ place e. rw c.requires.numbers.count (rw (row_count c.args.self.now) (c.requires.set.weights_row place e)) in
    let same = same_fine s c.args.numbers.now c.requires.numbers x.reference within in
    let fine = sym same ∙ (sym c.is_too_fine.ensures ∙ c.if-is_too_fine.false) in
    let some = some_not_empty x.members (λ e. true≢false (sym (c.is_empty.ensures.1 e) ∙ c.if-is_empty.false)) in
    let ms : List Member = c.in-Ok.members.items in
    let sorted : List Member = c.sort_unstable_by_key.new.self.items in
    let weights : map (λ (m : Member). m.weight) ms ≡ map (weight_of s x) x.members = ap (map (λ (m : Member). m.weight)) c.in-Ok.ensures.1 ∙ weights_are s x in
    let once = rw c.deref.ensures.value at (sym c.has_twice.ensures ∙ c.if-has_twice.false) in
    let up = rises_from sorted (c.sort_unstable_by_key.ensures.sorted (λ (m : Member). m.weight) (answers_always _ _ _ (λ f a r g h. search rules))) in (
      set_fine s x fine c.in-Ok.ensures.0 some (sym (ap has_twice weights) ∙ weights_once ms sorted c.sort_unstable_by_key.ensures.permutation up once),
      ap (λ (l : Listed Member). l.items) c.in_ok-from_slice.ensures ∙ (c.deref-2.ensures.value ∙ (sorted_once ms sorted c.sort_unstable_by_key.ensures.permutation up once ∙ ap by_weight c.in-Ok.ensures.1)),
    )
