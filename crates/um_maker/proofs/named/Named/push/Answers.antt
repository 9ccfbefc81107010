use Rattle.std.proofs.Common.{◌≡◌, ◌∙◌, ap, None, [], ◌∷◌, ◌++◌}
use Rattle.um_maker.specs.NamedLists.{place_of}
use Rattle.um_maker.proofs.NewNames.{goes_last}
use Rattle.um_maker.proofs.named.Named.push.Goals as goal

pub returns-in-Ok-clause-ok : goal.returns-in-Ok-clause-ok
returns-in-Ok-clause-ok g c =
    let none : place_of c.self.inside.map.entries c.args.name.now ≡ None = rw c.self.view_is c.requires in
    c.in-Ok.ensures.entries ∙ goes_last c.self.inside.map c.args.name.now c.in_ok-name.name c.args.item c.in_ok-name.ensures none
    ∙ ap (λ xs. xs ++ (c.args.name.now, c.args.item) ∷ []) c.self.view_is
