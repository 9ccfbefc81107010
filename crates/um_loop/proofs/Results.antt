-- What a call gave, if it gave something.
use Rattle.std.specs.Prelude.{Result, Ok, Err, IfOk}
use Rattle.um_num.specs.declared.Memory.{Memory}

pub ok_map : {X : Type 0} (P Q : X → Type 0) (r : Result X Memory) → ((x : X) → P x → Q x) → IfOk r P → IfOk r Q
ok_map P Q (Ok x) f h = f x h
ok_map P Q (Err memory) f h = tt
