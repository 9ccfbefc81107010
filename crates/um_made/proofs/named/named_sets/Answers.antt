use Rattle.std.proofs.Common.{◌≡◌, List, [], ◌∷◌, map, ◌++◌, sym, ap, subst, ◌∙◌}
use Rattle.std.proofs.lemmas.List.{nil_from_length, append-nil, map-append}
use Rattle.um_num.specs.Listed.{Listed}
use Rattle.um_model.specs.Values.{SetValue, plain_set}
use Rattle.um_model.specs.declared.deck.OrderedSet.{OrderedSet}
use Rattle.um_statements.specs.Statements.{Name}
use Rattle.um_made.specs.declared.parts.SetPart.{SetPart}
use Rattle.um_made.specs.NamedWords.{named_sets}
use Rattle.um_made.proofs.NamedFacts.{sets_past, sets_take}
use Rattle.um_made.proofs.named.named_sets.Goals as goal

pub loop-name-preserved-in_default : goal.loop-name-preserved-in_default
loop-name-preserved-in_default c =
    sets_past (map plain_set c.loop-name.list.items) (named_sets c.args.sets.items c.args.left.items) c.loop-name.name-iterator.rest.items (c.in-Some.name, c.in-Some.part) c.next.new.self.rest.items c.in-Some.ensures.steps.0 c.loop-name.left.rest.items c.next-in-loop-name.new.self.rest.items
    (nil_from_length c.loop-name.left.rest.items (sym c.loop-name.left.rest.ok.0 ∙ c.in_default.ensures.cases.0)) (nil_from_length c.next-in-loop-name.new.self.rest.items (sym c.next-in-loop-name.new.self.rest.ok.0 ∙ c.in_default.ensures.cases.1)) c.loop-name.invariant

pub loop-name-preserved : goal.loop-name-preserved
loop-name-preserved c =
    let all : List SetValue = named_sets c.args.sets.items c.args.left.items in
    let items = ap (λ (l : Listed OrderedSet). map plain_set l.items) c.in_ok-push.ensures.ok ∙ map-append plain_set c.loop-name.list.items (record { name = c.in-Some.name; kind = c.in-Some.part.kind; members = c.in-Some-next.members } ∷ []) in
    subst (λ (zs : List SetValue). zs ++ named_sets c.next.new.self.rest.items c.next-in-loop-name.new.self.rest.items ≡ all) (sym items)
    (sets_take (map plain_set c.loop-name.list.items) all c.loop-name.name-iterator.rest.items (c.in-Some.name, c.in-Some.part) c.next.new.self.rest.items c.in-Some.ensures.steps.0 c.loop-name.left.rest.items c.in-Some-next.members c.next-in-loop-name.new.self.rest.items c.in-Some-next.ensures.cases.0 c.loop-name.invariant)

pub returns : goal.returns
returns c =
    let none : c.loop-name.name-iterator.rest.items ≡ [] = nil_from_length c.loop-name.name-iterator.rest.items (sym c.loop-name.name-iterator.rest.ok.0 ∙ c.in-None.ensures.steps.0) in
    sym (append-nil (map plain_set c.loop-name.list.items)) ∙ (sym (ap (λ (es : List (Name × SetPart)). map plain_set c.loop-name.list.items ++ named_sets es c.loop-name.left.rest.items) none) ∙ c.loop-name.invariant)
