-- What the desk over the system's files tells: neither bytes nor files, nor which of them were asked for.
use Rattle.std.specs.Prelude.{None, Bool, cond}
use Rattle.um_outside.specs.Scenes.{Scene, Mode, Idle, Reading, Writing}
use Rattle.um_outside.specs.declared.standard.OpenFile.{OpenFile}
use Rattle.um_outside.specs.declared.standard.OpenFile.TheVariants as opened

abbrev pub mode_of : {F : Type 0} → OpenFile F → Mode
mode_of opened.Closed = Idle
mode_of (opened.Read file) = Reading None
mode_of (opened.Written file) = Writing None

abbrev pub scene_from : {F : Type 0} → OpenFile F → Bool → Scene
scene_from file stopped = record { mode = mode_of file; given = None; put = None; holds = None; asked = None; faults = cond stopped 1 0; stopped = stopped }
