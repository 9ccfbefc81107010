-- The walk along the links of a grown tree.
use Rattle.std.proofs.Common.{◌≡◌, ℕ, ◌+◌, ◌<◌, ◌≤◌, inl, inr, List, [], ◌∷◌, ◌++◌, length, map, slice_index_or, slice_set, Option, Some, None, refl, sym, ap, ◌∙◌, subst, arith, length-append, append_assoc}
use Rattle.std.proofs.Math.ListN.{length-set}
use Rattle.std.proofs.lemmas.List.{append-nil}
use Rattle.um_model.specs.AnswerValues.{NodeValue}
use Rattle.um_tree.specs.Growths.{GrowthValue, node_at, no_node, IsAmong, IsNew, AreDistinct, AreInside, IsPreorder, IsTold}
use Rattle.um_tree.specs.Links.{AreLinked, IsGrowing}
use Rattle.um_tree.proofs.Lists.{length_map, map_push}
use Rattle.um_tree.proofs.Writes.{elsewhere}

pub record IsTelling (g : GrowthValue) (nexts : List (Option ℕ)) (nodes tree : List NodeValue) (next : Option ℕ) (place : ℕ) : Type 0 where
  pub done : List ℕ
  pub rest : List ℕ
  pub most : length g.nodes ≤ 200001
  pub links : length nexts ≡ length g.nodes
  pub is : IsPreorder g (done ++ rest)
  pub size : length done ≡ place
  pub tree_is : tree ≡ map (node_at g) done
  pub linked : AreLinked next nexts rest
  pub nodes_size : length nodes ≡ length g.nodes
  pub kept : (id : ℕ) → IsAmong id rest → slice_index_or nodes id no_node ≡ node_at g id

pub start_telling : (g : GrowthValue) (nexts : List (Option ℕ)) → IsGrowing g nexts → IsTelling g nexts g.nodes [] (Some 0) 0
start_telling g nexts w = record {
  done = [];
  rest = w.ids;
  most = let h = w.growth.most in h;
  links = w.links;
  is = w.is;
  size = refl;
  tree_is = refl;
  linked = w.linked;
  nodes_size = refl;
  kept = λ id h. refl;
}

inside_at : (n id : ℕ) (done rest : List ℕ) → AreInside n (done ++ id ∷ rest) → id < n
inside_at n id [] rest h = h.0
inside_at n id (j ∷ js) rest h = inside_at n id js rest h.1

new_at : (id : ℕ) (done rest : List ℕ) → AreDistinct (done ++ id ∷ rest) → IsNew id rest
new_at id [] rest d = d.0
new_at id (j ∷ js) rest d = new_at id js rest d.1

apart : (id j : ℕ) (rest : List ℕ) → IsNew id rest → IsAmong j rest → ¬ (id ≡ j)
apart id j [] new h e = h
apart id j (k ∷ ks) new (inl at) e = new.0 (e ∙ at)
apart id j (k ∷ ks) new (inr h) e = apart id j ks new.1 h e

-- what is known of the next node
pub record IsNext (g : GrowthValue) (nexts : List (Option ℕ)) (nodes tree : List NodeValue) (next : Option ℕ) (place : ℕ) : Type 0 where
  pub id : ℕ
  pub next_is : next ≡ Some id
  pub inside : id < length g.nodes
  pub node_is : slice_index_or nodes id no_node ≡ node_at g id
  pub room : length tree < 200001
  pub on : IsTelling g nexts (slice_set nodes id no_node) (tree ++ node_at g id ∷ []) (slice_index_or nexts id None) (place + 1)

pub next_told : (g : GrowthValue) (nexts : List (Option ℕ)) (nodes tree : List NodeValue) (next : Option ℕ) (place : ℕ) → place < length nexts → IsTelling g nexts nodes tree next place → IsNext g nexts nodes tree next place
next_told g nexts nodes tree next place h t = go t.rest t.is t.linked t.kept
  where
    go : (rest : List ℕ) → IsPreorder g (t.done ++ rest) → AreLinked next nexts rest → ((id : ℕ) → IsAmong id rest → slice_index_or nodes id no_node ≡ node_at g id) → IsNext g nexts nodes tree next place
    go [] is linked kept = absurd (let a = is.size in let b = t.size in let c = t.links in omega (arith, a, b, c, length-append t.done []))
    go (id ∷ rest) is linked kept =
        let here : length tree ≡ place = ap length t.tree_is ∙ length_map (node_at g) t.done ∙ t.size in
        record {
          id = id;
          next_is = linked.0;
          inside = inside_at (length g.nodes) id t.done rest is.inside;
          node_is = kept id (inl refl);
          room = let m = t.most in let c = t.links in omega (arith, here, m, c, h);
          on = record {
            done = t.done ++ id ∷ [];
            rest = rest;
            most = t.most;
            links = t.links;
            is = subst (IsPreorder g) (sym (append_assoc t.done (id ∷ []) rest)) is;
            size = let s = t.size in omega (arith, s, length-append t.done (id ∷ []));
            tree_is = ap (λ (xs : List NodeValue). xs ++ node_at g id ∷ []) t.tree_is ∙ sym (map_push (node_at g) t.done id);
            linked = linked.1;
            nodes_size = length-set nodes id no_node ∙ t.nodes_size;
            kept = λ j among. elsewhere nodes id j no_node no_node (apart id j rest (new_at id t.done rest is.distinct) among) ∙ kept j (inr among);
          };
        }

pub end_told : (g : GrowthValue) (nexts : List (Option ℕ)) (nodes tree : List NodeValue) (next : Option ℕ) (place : ℕ) → length nexts ≤ place → IsTelling g nexts nodes tree next place → IsTold g tree
end_told g nexts nodes tree next place h t = go t.rest t.is
  where
    go : (rest : List ℕ) → IsPreorder g (t.done ++ rest) → IsTold g tree
    go [] is = record { ids = t.done; is = subst (IsPreorder g) (append-nil t.done) is; tree_is = t.tree_is }
    go (id ∷ rest) is = absurd (let a = is.size in let b = t.size in let c = t.links in omega (arith, a, b, c, length-append t.done (id ∷ rest)))

-- the same in the words of the loop
pub record IsStep (g : GrowthValue) (nexts : List (Option ℕ)) (nodes tree : List NodeValue) (place id : ℕ) : Type 0 where
  pub in_nodes : id < length nodes
  pub in_nexts : id < length nexts
  pub room : length tree < 200001
  pub on : (nodes' tree' : List NodeValue) → nodes' ≡ slice_set nodes id no_node → tree' ≡ tree ++ slice_index_or nodes id no_node ∷ [] → IsTelling g nexts nodes' tree' (slice_index_or nexts id None) (place + 1)

pub step_told : (g : GrowthValue) (nexts : List (Option ℕ)) (nodes tree : List NodeValue) (next : Option ℕ) (place id : ℕ) → place < length nexts → next ≡ Some id → IsTelling g nexts nodes tree next place → IsStep g nexts nodes tree place id
step_told g nexts nodes tree next place id h e t =
    let s = next_told g nexts nodes tree next place h t in
    let same : s.id ≡ id = let f = s.next_is in cc in
    let inside = s.inside in
    let size = t.nodes_size in
    let links = t.links in
    record {
      in_nodes = omega (arith, inside, size, same);
      in_nexts = omega (arith, inside, links, same);
      room = s.room;
      on = λ nodes' tree' n u. rw n (rw u (rw (subst (λ (k : ℕ). slice_index_or nodes k no_node ≡ node_at g k) same s.node_is) (subst (λ (k : ℕ). IsTelling g nexts (slice_set nodes k no_node) (tree ++ node_at g k ∷ []) (slice_index_or nexts k None) (place + 1)) same s.on)));
    }

pub never_none : (g : GrowthValue) (nexts : List (Option ℕ)) (nodes tree : List NodeValue) (next : Option ℕ) (place : ℕ) → place < length nexts → next ≡ None → IsTelling g nexts nodes tree next place → ⊥
never_none g nexts nodes tree next place h e t = let s = next_told g nexts nodes tree next place h t in let f = s.next_is in cc
