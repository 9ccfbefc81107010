use Rattle.std.proofs.Common.{◌≡◌, ◌∷◌, [], refl, sym, subst, rules}
use Rattle.um_multipliers.specs.PlainMultipliers.{plain_multipliers}
use Rattle.um_model.specs.Boxes.{BoxValue, IsVoid, root}
use Rattle.um_model.specs.LeafValue.{leaf_value}
use Rattle.um_nodes.specs.declared.open_nodes.OpenNode.{OpenNode}
use Rattle.um_progress.specs.Waits.{KeyIs}
use Rattle.um_loop.proofs.Begun.{one_usable, one_positive, root_key, began, began_checkable}
use Rattle.um_loop.proofs.search.Search.new.Goals as goal

pub key_of-key-requires-clause-not_void : goal.key_of-key-requires-clause-not_void
key_of-key-requires-clause-not_void c =
    let d = c.args.deck.now in
    let at : c.args.root.now.limits ≡ root d = search rules in
    subst (λ (b : BoxValue). ¬ IsVoid d b) (sym at) c.requires.full

pub key_of-key-requires-clause-usable : goal.key_of-key-requires-clause-usable
key_of-key-requires-clause-usable c = one_usable c.args.deck.now (plain_multipliers c.one_and_none-y.result) c.requires.full c.one_and_none-y.ensures

pub key_of-key-requires-clause-y0 : goal.key_of-key-requires-clause-y0
key_of-key-requires-clause-y0 c = one_positive (plain_multipliers c.one_and_none-y.result) c.one_and_none-y.ensures

pub put-requires : goal.put-requires
put-requires c =
    let d = c.args.deck.now in
    let at : c.args.root.now.limits ≡ root d = search rules in
    let w : OpenNode = record { key = c.key_of-key.result; node = 0; y = c.one_and_none-y.result } in
    root_key d w c.requires.full c.one_and_none-y.ensures refl (subst (λ (b : BoxValue). KeyIs (leaf_value d b (plain_multipliers w.y)) w.y.y0 w.key) at c.key_of-key.ensures.key) c.key_of-key.ensures.size c.key_of-key.ensures.id c.key_of-key.ensures.depth

pub returns-clause-going : goal.returns-clause-going
returns-clause-going c = λ start most starts board.
    let d = c.args.deck.now in
    let at : c.args.root.now.limits ≡ root d = search rules in
    let w : OpenNode = record { key = c.key_of-key.result; node = 0; y = c.one_and_none-y.result } in
    let waits : c.put.new.self ≡ w ∷ [] = search rules in
    began d w c.requires.full c.one_and_none-y.ensures refl (subst (λ (b : BoxValue). KeyIs (leaf_value d b (plain_multipliers w.y)) w.y.y0 w.key) at c.key_of-key.ensures.key) c.key_of-key.ensures.size c.key_of-key.ensures.id c.key_of-key.ensures.depth (plain_multipliers c.one_and_none.result) c.one_and_none.ensures start most starts board c.in_ok-growth.growth c.put.new.self c.in_ok-growth.ensures waits

pub returns-clause-checkable : goal.returns-clause-checkable
returns-clause-checkable c = began_checkable c.args.deck.now (plain_multipliers c.one_and_none.result) c.in_ok-growth.growth c.one_and_none.ensures c.in_ok-growth.ensures
