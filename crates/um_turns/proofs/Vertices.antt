-- The vertices of a tree: each is a point of its node's box, and feasible where it asks for no branch.
use Rattle.um_solving.proofs.FeasiblePoints.{feasible-law}
use Rattle.um_solving.proofs.Goings.{discrete-ends-law}
use Rattle.um_solving.proofs.SetMembers.{members-law}
use Rattle.um_cover.specs.Sites.{box_at}
use Rattle.um_turns.specs.Laws.{VertexPointLaw, FeasibleVertexLaw}
use Rattle.um_turns.proofs.TreeWithin.{box_within, semi_lows}

pub vertex_point : VertexPointLaw
vertex_point d g id p formed none growth fit inside holds =
    let within = box_within d g id formed growth fit inside in record {
      holds = holds;
      intervals = λ set. record {
        up = λ s at. (members-law d (box_at d g id) p set s formed within holds at).0;
        outside = λ s at. (members-law d (box_at d g id) p set s formed within holds at).1;
      };
      ends = λ column c at discrete. discrete-ends-law d (box_at d g id) column c formed within at discrete;
      lows = semi_lows d g id formed none growth fit inside;
    }

pub feasible_vertex : FeasibleVertexLaw
feasible_vertex d g id p formed growth fit inside holds asks = feasible-law d (box_at d g id) p formed (box_within d g id formed growth fit inside) holds asks.integers asks.semis asks.sets
