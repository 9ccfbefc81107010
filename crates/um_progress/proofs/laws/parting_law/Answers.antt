use Rattle.um_progress.proofs.Parting.{part_act}
use Rattle.um_progress.proofs.laws.parting_law.Goals as goal

pub returns : goal.returns
returns c = λ d t history id g ws incumbent least n branch l r more_left more_right s at few fits cl cr. part_act (Unit {0}) d t history id g ws incumbent least s n at branch fits l r more_left more_right cl cr few
