-- What a text says, part by part.
use Rattle.std.proofs.Common.{◌≡◌, ℕ, ◌+◌, List, Ok, Err, inr, refl}
use Rattle.std.specs.List.{slice_split}
use Rattle.um_text.specs.Lines.{ends_line}
use Rattle.um_model.specs.Values.{DeckValue}
use Rattle.um_model.specs.AnswerValues.{NodeValue}
use Rattle.um_treetext.specs.declared.fault.TreeFault.{TreeFault}
use Rattle.um_treetext.specs.declared.reading.front.Front.{Front}
use Rattle.um_treetext.specs.Reading.{Pieces, ValuesSaid, front_read, values_read, nodes_read, end_read, pieces_read, tree_read}
use Rattle.um_treetext.proofs.FaultSteps.{Fails, then_fails}

pub front_fails : (d : DeckValue) (bytes : List ℕ) (ps : Pieces) (fault : TreeFault) → ps ≡ slice_split ends_line bytes → Fails fault (front_read d ps) → Fails fault (tree_read d bytes)
unfolding tree_read pieces_read
front_fails d bytes ps fault e h = rw (← e) (then_fails fault (front_read d ps) _ h)

pub values_fail : (d : DeckValue) (bytes : List ℕ) (ps left : Pieces) (front : Front) (fault : TreeFault) → ps ≡ slice_split ends_line bytes → front_read d ps ≡ Ok (record { value = front; left = left }) → Fails fault (values_read d left) → Fails fault (tree_read d bytes)
unfolding tree_read pieces_read
values_fail d bytes ps left front fault e f h = rw (← e, f) (then_fails fault (values_read d left) _ h)

pub nodes_fail : (d : DeckValue) (bytes : List ℕ) (ps left behind : Pieces) (front : Front) (values : ValuesSaid) (fault : TreeFault) → ps ≡ slice_split ends_line bytes → front_read d ps ≡ Ok (record { value = front; left = left }) → values_read d left ≡ Ok (record { value = values; left = behind })
    → Fails fault (nodes_read d values.nodes 10 behind) → Fails fault (tree_read d bytes)
unfolding tree_read pieces_read
nodes_fail d bytes ps left behind front values fault e f v h = rw (← e, f, v) (then_fails fault (nodes_read d values.nodes 10 behind) _ h)

pub end_fails : (d : DeckValue) (bytes : List ℕ) (ps left behind last : Pieces) (front : Front) (values : ValuesSaid) (nodes : List NodeValue) (fault : TreeFault) → ps ≡ slice_split ends_line bytes → front_read d ps ≡ Ok (record { value = front; left = left }) → values_read d left ≡ Ok (record { value = values; left = behind })
    → nodes_read d values.nodes 10 behind ≡ Ok (record { value = nodes; left = last }) → end_read (values.nodes + 10) last ≡ Err (fault.line, fault.fault) → Fails fault (tree_read d bytes)
unfolding tree_read pieces_read
end_fails d bytes ps left behind last front values nodes fault e f v n h = inr (rw (← e, f, v, n, h) refl)

pub text_read : (d : DeckValue) (bytes : List ℕ) (ps left behind last rest : Pieces) (front : Front) (values : ValuesSaid) (nodes : List NodeValue) → ps ≡ slice_split ends_line bytes → front_read d ps ≡ Ok (record { value = front; left = left }) → values_read d left ≡ Ok (record { value = values; left = behind })
    → nodes_read d values.nodes 10 behind ≡ Ok (record { value = nodes; left = last }) → end_read (values.nodes + 10) last ≡ Ok rest
    → tree_read d bytes ≡ Ok (record {
      kind = front.kind;
      why = front.why;
      tolerance = front.tolerance;
      objective = values.objective;
      bound = values.bound;
      point = values.point;
      ray = values.ray;
      tree = nodes;
    })
unfolding tree_read pieces_read
text_read d bytes ps left behind last rest front values nodes e f v n h = rw (← e, f, v, n, h) refl
