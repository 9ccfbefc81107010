use Rattle.std.proofs.Common.{◌^◌, take}
use Rattle.std.specs.Prelude.{pos}
use Rattle.um_laws.specs.Sums.{dot}
use Rattle.um_model.specs.declared.deck.Member.{Member}
use Rattle.um_deck.proofs.BoundedSums.{SoFar}
use Rattle.um_point.specs.MemberParts.{parts_of}
use Rattle.um_split.proofs.averages.average_of.Given as goal

abbrev pub invariant-loop-position : goal.invariant-loop-position
invariant-loop-position l = record {
  weighted : SoFar (dot (λ (m : Member). m.weight) (take l.position l.members) (parts_of l.parts l.members)) l.position (2 ^ 87) l.weighted;
  total : SoFar (dot (λ (m : Member). pos 1) (take l.position l.members) (parts_of l.parts l.members)) l.position (2 ^ 36) l.total;
}
