use Rattle.um_progress.proofs.Stopping.{stop_act}
use Rattle.um_progress.proofs.laws.draining_law.Goals as goal

pub returns : goal.returns
returns c = λ d t history g ws w incumbent endless endless' least least' s counts. stop_act (Unit {0}) d t history g ws w incumbent endless least s endless' least' counts
