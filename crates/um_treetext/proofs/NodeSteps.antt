-- Lines of nodes, read node by node.
use Rattle.std.proofs.Common.{◌≡◌, ◌⊎◌, ℕ, suc, ◌+◌, ◌-◌, ◌<◌, ◌≤◌, List, [], ◌∷◌, ◌++◌, Ok, Err, inl, inr, refl, ap, ◌∙◌, append_assoc, append-nil, arith}
use Rattle.um_num.specs.Numbers.{then_step}
use Rattle.um_model.specs.Values.{DeckValue}
use Rattle.um_model.specs.AnswerValues.{NodeValue}
use Rattle.um_treetext.specs.declared.fault.TreeFault.{TreeFault}
use Rattle.um_treetext.specs.declared.fault.TreeWord.{TreeWord}
use Rattle.um_treetext.specs.declared.fault.TreeWord.TheVariants.{Memory}
use Rattle.um_treetext.specs.Words.{Words}
use Rattle.um_treetext.specs.NodeLines.{node_line}
use Rattle.um_treetext.specs.Reading.{Pieces, Read, Reads, line_taken, next_line_said, nodes_read}
use Rattle.um_treetext.proofs.FaultSteps.{Fails}

-- these nodes in front of those that are read
abbrev pub in_front : List NodeValue → Reads (Read (List NodeValue)) → Reads (Read (List NodeValue))
in_front nodes (Ok more) = Ok (record { value = nodes ++ more.value; left = more.left })
in_front nodes (Err at) = Err at

one_in_front : (node : NodeValue) (read : Reads (Read (List NodeValue))) → then_step read (λ more. Ok (record { value = node ∷ more.value; left = more.left })) ≡ in_front (node ∷ []) read
one_in_front node (Ok more) = refl
one_in_front node (Err at) = refl

both_in_front : (xs ys : List NodeValue) (read : Reads (Read (List NodeValue))) → in_front xs (in_front ys read) ≡ in_front (xs ++ ys) read
both_in_front xs ys (Ok more) = rw (append_assoc xs ys more.value) refl
both_in_front xs ys (Err at) = refl

nothing_in_front : (read : Reads (Read (List NodeValue))) → read ≡ in_front [] read
nothing_in_front (Ok more) = refl
nothing_in_front (Err at) = refl

-- as far as the loop has come: what all lines say is these nodes, and then what the lines that are left say
abbrev pub AreRead : DeckValue → (count i : ℕ) → (all left : Pieces) → List NodeValue → Type 0
AreRead d count i all left nodes = nodes_read d count 10 all ≡ in_front nodes (nodes_read d (count - i) (i + 10) left)

pub none_read : (d : DeckValue) (count : ℕ) (all : Pieces) → AreRead d count 0 all all []
none_read d count all = let e : count - 0 ≡ count = omega arith in rw e (nothing_in_front (nodes_read d count 10 all))

next_node : (d : DeckValue) (n m before : ℕ) (ps left : Pieces) (words : Words) (node : NodeValue) → n ≡ suc m → line_taken before ps ≡ Ok (record { value = words; left = left }) → node_line d words ≡ Ok node → nodes_read d n before ps ≡ in_front (node ∷ []) (nodes_read d m (before + 1) left)
unfolding nodes_read next_line_said
next_node d n m before ps left words node e taken said = rw (e, taken, said) (one_in_front node (nodes_read d m (before + 1) left))

no_line : (d : DeckValue) (n m before : ℕ) (ps : Pieces) (at : ℕ × TreeWord) → n ≡ suc m → line_taken before ps ≡ Err at → nodes_read d n before ps ≡ Err at
unfolding nodes_read next_line_said
no_line d n m before ps at e taken = rw (e, taken) refl

no_node : (d : DeckValue) (n m before : ℕ) (ps left : Pieces) (words : Words) (fault : TreeWord) → n ≡ suc m → line_taken before ps ≡ Ok (record { value = words; left = left }) → node_line d words ≡ Err fault → nodes_read d n before ps ≡ Err (before + 1, fault)
unfolding nodes_read next_line_said
no_node d n m before ps left words fault e taken said = rw (e, taken, said) refl

-- ---- a turn of the loop

pub more_read : (d : DeckValue) (count i : ℕ) (all now left : Pieces) (nodes : List NodeValue) (words : Words) (node : NodeValue) → i < count → AreRead d count i all now nodes → line_taken (i + 10) now ≡ Ok (record { value = words; left = left }) → node_line d words ≡ Ok node → AreRead d count (i + 1) all left (nodes ++ node ∷ [])
more_read d count i all now left nodes words node below h taken said =
    let less : count - i ≡ suc (count - (i + 1)) = omega (arith, below) in
    let line : (i + 10) + 1 ≡ (i + 1) + 10 = omega arith in
    let step = next_node d (count - i) (count - (i + 1)) (i + 10) now left words node less taken said in
    let moved = rw line at step in
    h ∙ (ap (in_front nodes) moved ∙ both_in_front nodes (node ∷ []) (nodes_read d (count - (i + 1)) ((i + 1) + 10) left))

pub line_not_there : (d : DeckValue) (count i : ℕ) (all now : Pieces) (nodes : List NodeValue) (at : ℕ × TreeWord) → i < count → AreRead d count i all now nodes → line_taken (i + 10) now ≡ Err at → nodes_read d count 10 all ≡ Err at
line_not_there d count i all now nodes at below h taken =
    let less : count - i ≡ suc (count - (i + 1)) = omega (arith, below) in
    h ∙ ap (in_front nodes) (no_line d (count - i) (count - (i + 1)) (i + 10) now at less taken)

pub node_not_said : (d : DeckValue) (count i : ℕ) (all now left : Pieces) (nodes : List NodeValue) (words : Words) (fault : TreeWord) → i < count → AreRead d count i all now nodes → line_taken (i + 10) now ≡ Ok (record { value = words; left = left }) → node_line d words ≡ Err fault → nodes_read d count 10 all ≡ Err ((i + 10) + 1, fault)
node_not_said d count i all now left nodes words fault below h taken said =
    let less : count - i ≡ suc (count - (i + 1)) = omega (arith, below) in
    h ∙ ap (in_front nodes) (no_node d (count - i) (count - (i + 1)) (i + 10) now left words fault less taken said)

-- a line that says no node, or no memory for one
pub node_fails : (d : DeckValue) (count i : ℕ) (all now left : Pieces) (nodes : List NodeValue) (words : Words) (fault : TreeFault) → i < count → AreRead d count i all now nodes → line_taken (i + 10) now ≡ Ok (record { value = words; left = left }) → (fault.fault ≡ Memory) ⊎ (node_line d words ≡ Err fault.fault) → fault.line ≡ (i + 10) + 1 → Fails fault (nodes_read d count 10 all)
node_fails d count i all now left nodes words fault below h taken said at =
    elim said [
      | inl memory_out ↦ inl memory_out
      | inr is ↦ inr (rw at (node_not_said d count i all now left nodes words fault.fault below h taken is))
    ]

-- ---- the end of the loop

at_count : (d : DeckValue) (n before : ℕ) (ps : Pieces) (nodes : List NodeValue) → n ≡ 0 → in_front nodes (nodes_read d n before ps) ≡ Ok (record { value = nodes; left = ps })
unfolding nodes_read
at_count d n before ps nodes e = rw (e, append-nil nodes) refl

pub all_nodes_read : (d : DeckValue) (count i : ℕ) (all left : Pieces) (nodes : List NodeValue) → count ≤ i → AreRead d count i all left nodes → nodes_read d count 10 all ≡ Ok (record { value = nodes; left = left })
all_nodes_read d count i all left nodes over h = let end : count - i ≡ 0 = omega (arith, over) in h ∙ at_count d (count - i) (i + 10) left nodes end
