-- The acts of a search, each as a law of its history.
use Rattle.std.proofs.Common.{sym, subst}
use Rattle.um_turns.specs.Laws.{BeginningHistoryLaw, SettlingHistoryLaw, TurningHistoryLaw, PartingHistoryLaw, DrainingHistoryLaw, BehindTurnLaw}
use Rattle.um_model.specs.Branches.{left, right}
use Rattle.um_model.specs.AnswerValues.{Split}
use Rattle.um_cover.specs.Sites.{box_at}
use Rattle.um_progress.specs.Numbers.{Number}
use Rattle.um_progress.proofs.Stopping.{last_waits}
use Rattle.um_turns.specs.Turns.{Turn, TurnEnd, Became, IsFinished}
use Rattle.um_turns.proofs.Lists.{every_more}
use Rattle.um_turns.proofs.Chains.{state_more, left_more}
use Rattle.um_turns.proofs.Turning.{history_begins, settle_history, settle_turn, part_turn}
use Rattle.um_turns.proofs.Waiting.{root_handed, all_handed_more, handed_last, part_handed}
use Rattle.um_turns.proofs.Bests.{best_begins}

pub begins : BeginningHistoryLaw
begins d start most y w starts board at under = (history_begins d start most y starts board, root_handed y w at under, best_begins d)

pub settles : SettlingHistoryLaw
settles d t start most history id g ws incumbent least node s k handed = (settle_history d start most g history id s.in_hand.solved s.numbered k node, handed)

pub turns : TurningHistoryLaw
turns d t start most history id g ws incumbent least node n s k handed next became = (settle_turn d start most g history id s.in_hand.solved s.numbered k node n s.in_hand.inside next became, all_handed_more g history n ws handed)

pub parts : PartingHistoryLaw
parts d t start most history id g ws incumbent least n p y solved branch l r more_left more_right s k handed next end asked cl ul cr ur = (
  part_turn d start most g history id s.in_hand.solved s.numbered k s.growth s.in_hand.inside solved branch l r n next (subst (λ (e : TurnEnd). Became d n.told.handed e (Split branch)) (sym end) asked),
  part_handed d g history id s.growth solved branch l r n next.at p y end (left d (box_at d g id) branch) (right d (box_at d g id) branch) ws more_left more_right cl.waits cr.waits ul ur s.waits handed,
)

pub drains : DrainingHistoryLaw
drains d t start most history g ws w incumbent endless least node s k handed = (
  settle_history d start most g history w.node (last_waits Turn d t history g ws w incumbent endless least s).fresh.solved s.draining.numbered k node,
  (handed_last g history ws w handed).1,
)

pub behind : BehindTurnLaw
behind start most history n = (state_more start history n, left_more most history n, λ finished last. every_more (λ (m : Number Turn). IsFinished m.told.end) history n finished last)
