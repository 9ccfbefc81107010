use Rattle.um_search.proofs.solving.search_on.Given as goal

abbrev pub ghost-run : goal.ghost-run
ghost-run g a = record { start = g.B.Board.state a.board.now; most = a.left.now }

abbrev pub ghost-finish : goal.ghost-finish
ghost-finish g a = g.task

abbrev pub ghost-stop : goal.ghost-stop
ghost-stop g a = g.task.budget

abbrev pub ghost-unbounded : goal.ghost-unbounded
ghost-unbounded g a = g.task
