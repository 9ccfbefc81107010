-- Files that were asked for one after another.
use Rattle.std.proofs.Common.{◌≡◌, List, ◌++◌, Option, Some, None, ap, ◌∙◌, append_assoc}
use Rattle.um_outside.specs.Scenes.{Asked}
use Rattle.um_outside.specs.Desks.{Asks}

-- these files, and then those
pub asked_then : (these those : List Asked) (a b c : Option (List Asked)) → Asks these a b → Asks those b c → Asks (these ++ those) a c
asked_then these those a b None h k = tt
asked_then these those a None (Some z) h k = absurd k
asked_then these those None (Some y) (Some z) h k = absurd h
asked_then these those (Some x) (Some y) (Some z) h k =
    k ∙ ap (λ (some : List Asked). some ++ those) h ∙ append_assoc x these those

-- these files, and then none
pub asked_kept : (these : List Asked) (a b c : Option (List Asked)) → Asks these a b → c ≡ b → Asks these a c
asked_kept these a b c h e = rw e h
