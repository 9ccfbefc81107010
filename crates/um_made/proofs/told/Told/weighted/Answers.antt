use Rattle.std.proofs.Common.{◌≡◌, FitsSigned, w64, rules, List, [], ◌∷◌, ◌++◌, map, get_or, take, inr, refl, sym, ap, ◌∙◌}
use Rattle.std.specs.List.{list_any}
use Rattle.std.proofs.lemmas.List.{drop_all, take_all}
use Rattle.std.proofs.lemmas.Int.{to_z-of_z}
use Rattle.um_model.specs.declared.deck.Member.{Member}
use Rattle.um_statements.specs.declared.parts.MemberPart.{MemberPart}
use Rattle.um_statements.specs.Said.{Said, SetSaid}
use Rattle.um_statements.specs.Made.{weight_of}
use Rattle.um_made.specs.Views.{set_said}
use Rattle.um_made.specs.Parts.{said}
use Rattle.um_made.proofs.Walks.{mapped_taken}
use Rattle.um_made.proofs.SetSteps.{no_member, weighted_member, is_large_member, none_within, some_within, large_is, large_here, large_later}
use Rattle.um_made.proofs.told.Told.weighted.Goals as goal

pub weight-requires-clause-member : goal.weight-requires-clause-member
weight-requires-clause-member c =
    let within = rw c.as_slice-member-items.ensures at c.loop-member-test.true in
    rw c.as_slice-member-items.ensures (c.requires.set.parts c.loop-member.member-index no_member within)

pub returns-in_default : goal.returns-in_default
returns-in_default c =
    let s : Said = said c.args.self.now in
    let x : SetSaid = set_said c.args.set.now in
    let ms : List MemberPart = c.args.set.now.1.members.items in
    let i = c.loop-member.member-index in
    let within = rw c.as_slice-member-items.ensures at c.loop-member-test.true in
    let none = rw c.as_slice-member-items.ensures at (sym c.weight.ensures ∙ c.in_default.is) in
    inr (refl, large_is s x ∙ (sym c.loop-member.invariant.large ∙ large_here s x ms i no_member within (none_within (weight_of s x (get_or ms i no_member)) none)))

pub loop-member-preserved : goal.loop-member-preserved
loop-member-preserved c =
    let s : Said = said c.args.self.now in
    let x : SetSaid = set_said c.args.set.now in
    let ms : List MemberPart = c.args.set.now.1.members.items in
    let i = c.loop-member.member-index in
    let within = rw c.as_slice-member-items.ensures at c.loop-member-test.true in
    let some = some_within (weight_of s x (get_or ms i no_member)) c.in-Some.weight (rw c.as_slice-member-items.ensures at (sym c.weight.ensures ∙ c.in-Some.is)) in
    let fits : FitsSigned w64 c.in-Some.weight = search rules in
    let made = simp to_z-of_z at (rw c.as_slice-member-items.ensures at c.of_weight.ensures) in
    let one : c.of_weight.result ≡ weighted_member s x (get_or ms i no_member) = made ∙ ap (λ w. record { column = (get_or ms i no_member).column; weight = w }) (sym some.1) in
    record {
      made = c.in_ok-push.ensures
          ∙ (ap (λ (zs : List Member). zs ++ c.of_weight.result ∷ []) c.loop-member.invariant.made
          ∙ (ap (λ (y : Member). map (weighted_member s x) (take i ms) ++ y ∷ []) one ∙ sym (mapped_taken (weighted_member s x) ms i no_member within)));
      large = sym (large_later s x ms i no_member within some.0) ∙ c.loop-member.invariant.large;
    }

pub returns : goal.returns
returns c =
    let s : Said = said c.args.self.now in
    let x : SetSaid = set_said c.args.set.now in
    let ms : List MemberPart = c.args.set.now.1.members.items in
    let past = rw c.as_slice-member-items.ensures at c.loop-member-test.false in (
      large_is s x ∙ (sym c.loop-member.invariant.large ∙ ap (list_any (is_large_member s x)) (drop_all c.loop-member.member-index ms past)),
      c.loop-member.invariant.made ∙ ap (map (weighted_member s x)) (take_all c.loop-member.member-index ms past),
    )
