use Rattle.um_search.proofs.solving.solve.Given as goal

abbrev pub ghost-search_on : goal.ghost-search_on
ghost-search_on a = record { deck = a.deck.now; budget = a.budget }
