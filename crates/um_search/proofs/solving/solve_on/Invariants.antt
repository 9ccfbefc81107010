use Rattle.um_search.proofs.solving.solve_on.Given as goal

abbrev pub ghost-search_on : goal.ghost-search_on
ghost-search_on g a = record { deck = a.deck.now; budget = a.budget }
