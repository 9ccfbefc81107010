use Rattle.std.proofs.Common.{◌≡◌, ◌++◌, ◌∷◌, [], sym, rules}
use Rattle.um_cover.proofs.Steps.{up_more}
use Rattle.um_cover.proofs.boxes.way_up.Goals as goal

pub up-preserved : goal.up-preserved
up-preserved c =
    let pushed : c.push.new.self.items ≡ c.up.steps.items ++ c.in-Some.origin ∷ [] = search rules in
    up_more c.args.growth.now c.args.id c.up.at c.up.steps.items c.push.new.self.items c.in-Some.origin c.known.ensures c.up.invariant (sym c.in-Some.ensures) pushed
