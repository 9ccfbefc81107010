-- The root alone is a tree.
use Rattle.std.proofs.Common.{◌≡◌, ℕ, zero, suc, ◌<◌, inl, List, [], ◌∷◌, slice_index_or, Option, Some, None, refl, sym, subst, arith}
use Rattle.um_model.specs.AnswerValues.{NodeValue}
use Rattle.um_tree.specs.declared.growing.Origin.{Origin}
use Rattle.um_tree.specs.Growths.{GrowthValue, IsLeaf, AreInOrder, IsAmong}
use Rattle.um_tree.specs.Links.{IsGrowing}
use Rattle.um_tree.proofs.Orders.{leaf_behind}

abbrev alone : NodeValue → GrowthValue
alone root = record { origins = None ∷ []; nodes = root ∷ [] }

only : (id : ℕ) → id < 1 → IsAmong id (0 ∷ [])
only zero h = inl refl
only (suc id) h = absurd (omega arith)

none_after : (id : ℕ) (o : Origin) → slice_index_or (None ∷ []) id None ≡ Some o → ⊥
none_after zero o e = absurd (cc)
none_after (suc id) o e = absurd (cc)

alone_grows : (root : NodeValue) → IsLeaf root.what → IsGrowing (alone root) (None ∷ [])
alone_grows root leaf = record {
  growth = record { size = refl; some = omega arith; most = omega arith; older = λ id o e. absurd (none_after id o e); split = λ id o e. absurd (none_after id o e) };
  links = refl;
  ids = 0 ∷ [];
  is = record {
    order = (refl, subst (λ (rest : List (Option Origin)). AreInOrder (alone root) rest []) (sym (leaf_behind 0 root.what [] leaf)) tt);
    inside = (omega arith, tt);
    distinct = (tt, tt);
    all = only;
    size = refl;
  };
  linked = (refl, refl);
}

pub one_grows : (origins : List (Option Origin)) (nodes : List NodeValue) (nexts : List (Option ℕ)) (root : NodeValue) → origins ≡ None ∷ [] → nodes ≡ root ∷ [] → nexts ≡ None ∷ [] → IsLeaf root.what
    → IsGrowing (record { origins = origins; nodes = nodes }) nexts
one_grows origins nodes nexts root o n l leaf = rw o (rw n (rw l (alone_grows root leaf)))
