use Rattle.um_relax.proofs.key_rows.is_apart_in.Goals as goal

pub returns-in-Some : goal.returns-in-Some
returns-in-Some c = (λ h value entry. c.is_apart.ensures.0 h, λ apart. c.is_apart.ensures.1 (apart c.in-Some.field-0 c.in-Some.ensures))
