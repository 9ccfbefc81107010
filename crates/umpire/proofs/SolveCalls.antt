-- What a call of `solve` does, from what became of its files and of its text.
use Rattle.std.proofs.Common.{◌≡◌, ◌∙◌, ℕ, List, [], ◌∷◌, Result, Ok, Err, IfErr, refl, sym, ap, subst, arith, inl, inr}
use Rattle.std.specs.Prelude.{Option, Some, None, IsErrAnd}
use Rattle.um_outside.specs.Scenes.{Scene, Files, to_open, to_create}
use Rattle.um_outside.specs.Desks.{Asks, ChangesOnly}
use Rattle.um_outside.specs.Sinks.{SinkScene}
use Rattle.um_outside.specs.WholeFiles.{ReadGivenUp, WroteWhole, WriteFaulted}
use Rattle.um_model.specs.Values.{DeckValue}
use Rattle.um_model.specs.AnswerValues.{AnswerValue, plain_answer}
use Rattle.um_model.specs.declared.answer.Answer.{Answer}
use Rattle.umpire.specs.Calls.{MakesNoFile, AsksInOrder}
use Rattle.um_search.specs.declared.budget.Budget.{Budget}
use Rattle.um_words.specs.declared.job.SolveWords.{SolveWords}
use Rattle.umpire.specs.SolveRuns.{SearchRan, SolveDue, SolveFails, MakesTree, WritesTree, tree_file, solve_files, SolveKeeps, SolveFaulted, HasSolved, SolveStopped}
use Rattle.um_search.specs.Conditions.{IsSearched}
use Rattle.umpire.specs.Solutions.{HasSearchedDeck, Answers}
use Rattle.umpire.specs.Refusals.{refusal_text}
use Rattle.um_report.specs.Reports.{report_text}
use Rattle.um_treetext.specs.TreeText.{tree_text}
use Rattle.umpire.specs.Stops.{FileStopped, RefusesDeckOf, SaidOrCut, GaveUp}
use Rattle.umpire.specs.declared.ending.Ending.{Ending}
use Rattle.umpire.specs.declared.ending.Ending.TheVariants.{Answered, Refused, Faulted, WithoutMemory}
use Rattle.umpire.specs.declared.outcome.Refusal.TheVariants.{Words, LowTolerance, Deck, Tree}
use Rattle.umpire.specs.declared.reading.Stop.{Stop}
use Rattle.umpire.specs.declared.reading.Stop.TheVariants as stop
use Rattle.um_outside.proofs.AskedInOrder.{asked_then}
use Rattle.umpire.proofs.FileReads.{deck_left, no_deck_left}
use Rattle.umpire.proofs.Sayings.{cut_comes, said_comes}

-- ---- files

only_same : (name : List ℕ) (h : Option Files) → ChangesOnly name h h
only_same name None = refl
only_same name (Some files) = λ other apart. refl

-- files that are as they were are so but for one of them
same_but : (name : List ℕ) (before after : Option Files) → after ≡ before → ChangesOnly name before after
same_but name before after e = subst (λ (h : Option Files). ChangesOnly name before h) (sym e) (only_same name before)

only_after : (name : List ℕ) (h g k : Option Files) → g ≡ h → ChangesOnly name g k → ChangesOnly name h k
only_after name h g k e c = subst (λ (x : Option Files). ChangesOnly name x k) e c

-- no file made is none but the one that is asked for
pub unmade_but : (file : Option (List ℕ)) (s t : Scene) → MakesNoFile s t → MakesTree file s t
unmade_but None s t h = h
unmade_but (Some name) s t h = same_but name s.holds t.holds h.holds

-- at most the file that is asked for is changed
changed_to : (tree : Option (List ℕ)) (file : List ℕ) (s t : Scene) → tree ≡ Some file → ChangesOnly file s.holds t.holds → MakesTree tree s t
changed_to tree file s t is h = subst (λ (o : Option (List ℕ)). MakesTree o s t) (sym is) h

-- both files were asked for
both_asked : (line : SolveWords) (file : List ℕ) (s m t : Scene) → line.tree ≡ Some file → Asks (to_open line.deck ∷ []) s.asked m.asked → Asks (to_create file ∷ []) m.asked t.asked → AsksInOrder (solve_files line) s t
both_asked line file s m t is first second = record {
  front = to_open line.deck ∷ (to_create file ∷ []);
  behind = [];
  all = ap (λ (o : Option (List ℕ)). to_open line.deck ∷ tree_file o) is;
  asked = asked_then (to_open line.deck ∷ []) (to_create file ∷ []) s.asked m.asked t.asked first second;
}

-- the deck's file alone was asked for
deck_keeps : (line : SolveWords) (s t : Scene) → ReadGivenUp line.deck s t → SolveKeeps line s t
deck_keeps line s t h = record {
  well = h.well;
  files = record { put = h.put; holds = h.holds };
  asked = record { front = to_open line.deck ∷ []; behind = tree_file line.tree; all = refl; asked = h.asked };
}

-- the deck was not taken
pub deck_stopped : (line : SolveWords) (budget : Budget) (why : Stop) (s t : Scene) → FileStopped line.deck (RefusesDeckOf IsSearched line.deck) why s t → SolveStopped line budget why s t
deck_stopped line budget (stop.Refused (Deck f)) s t h = (h, deck_keeps line s t (no_deck_left IsSearched line.deck f s t h))
deck_stopped line budget (stop.Refused (Tree f)) s t h = absurd h
deck_stopped line budget (stop.Refused (Words w)) s t h = absurd h
deck_stopped line budget (stop.Refused (LowTolerance least)) s t h = absurd h
deck_stopped line budget stop.Fault s t h = record {
  fails = inl h;
  files = unmade_but line.tree s t (record { put = h.put; holds = h.holds });
  asked = record { front = to_open line.deck ∷ []; behind = tree_file line.tree; all = refl; asked = h.asked };
}
deck_stopped line budget stop.Memory s t h = deck_keeps line s t h

-- a deck that was read under another expression of its name
pub searched_as : (name deck : List ℕ) (d : DeckValue) (s t : Scene) → name ≡ deck → HasSearchedDeck name d s t → HasSearchedDeck deck d s t
searched_as name deck d s t same h = subst (λ (n : List ℕ). HasSearchedDeck n d s t) same h

-- the deck's file was not taken, under another expression of its name
pub unread_as : {Value : Type 0} → (line : SolveWords) (budget : Budget) (name : List ℕ) (f : Stop) (s t : Scene) (r : Result Value Stop) → name ≡ line.deck → FileStopped name (RefusesDeckOf IsSearched name) f s t → IsErrAnd r (λ (why : Stop). why ≡ f) → IfErr r (λ (why : Stop). SolveStopped line budget why s t)
unread_as line budget name f s t (Ok value) same h is = tt
unread_as line budget name f s t (Err why) same h is =
    let stopped : FileStopped line.deck (RefusesDeckOf IsSearched line.deck) f s t = subst (λ (n : List ℕ). FileStopped n (RefusesDeckOf IsSearched n) f s t) same h in
    subst (λ (x : Stop). SolveStopped line budget x s t) (sym is) (deck_stopped line budget f s t stopped)

-- the deck was read, and no memory was found for its answer or a text
pub deck_kept : (line : SolveWords) (d : DeckValue) (s t : Scene) → HasSearchedDeck line.deck d s t → SolveKeeps line s t
deck_kept line d s t h = deck_keeps line s t (deck_left IsSearched line.deck d s t h)

-- the same, where the result is an error and want of memory
pub kept_if : {Value : Type 0} → (line : SolveWords) (budget : Budget) (d : DeckValue) (s t : Scene) (r : Result Value Stop) → HasSearchedDeck line.deck d s t → IsErrAnd r (λ (why : Stop). why ≡ stop.Memory) → IfErr r (λ (why : Stop). SolveStopped line budget why s t)
kept_if line budget d s t (Ok value) deck none = tt
kept_if line budget d s t (Err why) deck none = subst (λ (x : Stop). SolveStopped line budget x s t) (sym none) (deck_kept line d s t deck)

-- the deck was read and solved, and no tree asked for
pub solved_alone : (line : SolveWords) (budget : Budget) (d : DeckValue) (a : Answer) (report : List ℕ) (s t : Scene) → line.tree ≡ None → HasSearchedDeck line.deck d s t → Answers d budget (plain_answer a) → report ≡ report_text d (plain_answer a) → HasSolved line budget a report s t
solved_alone line budget d a report s t none deck answers text =
    let kept = deck_left IsSearched line.deck d s t deck in
    record {
      solves = record { between = t; deck = d; deck_read = deck; answers = answers; tree = unwritten; report = text };
      well = kept.well;
      files = unmade_but line.tree s t (record { put = kept.put; holds = kept.holds });
      asked = record { front = to_open line.deck ∷ []; behind = tree_file line.tree; all = refl; asked = kept.asked };
    }
  where
    unwritten : WritesTree line.tree (tree_text d (plain_answer a)) t t
    unwritten = subst (λ (o : Option (List ℕ)). WritesTree o (tree_text d (plain_answer a)) t t) (sym none) refl

-- it was, and its tree written
pub solved_to : (line : SolveWords) (file : List ℕ) (budget : Budget) (d : DeckValue) (a : Answer) (report bytes : List ℕ) (s m t : Scene) → line.tree ≡ Some file → HasSearchedDeck line.deck d s m → Answers d budget (plain_answer a) → report ≡ report_text d (plain_answer a)
    → bytes ≡ tree_text d (plain_answer a) → WroteWhole file bytes m t → HasSolved line budget a report s t
solved_to line file budget d a report bytes s m t is deck answers text tree wrote =
    let kept = deck_left IsSearched line.deck d s m deck in
    let written : WroteWhole file (tree_text d (plain_answer a)) m t = subst (λ (x : List ℕ). WroteWhole file x m t) tree wrote in
    record {
      solves = record { between = m; deck = d; deck_read = deck; answers = answers; tree = subst (λ (o : Option (List ℕ)). WritesTree o (tree_text d (plain_answer a)) m t) (sym is) written; report = text };
      well = record { faults = omega (arith, kept.well.faults, wrote.well.faults); stopped = wrote.well.stopped ∙ kept.well.stopped };
      files = changed_to line.tree file s t is (only_after file s.holds m.holds t.holds kept.holds wrote.holds);
      asked = both_asked line file s m t is kept.asked wrote.asked;
    }

-- the tree could not be written
pub unwritten_to : (line : SolveWords) (file : List ℕ) (budget : Budget) (d : DeckValue) (a : AnswerValue) (s m t : Scene) → line.tree ≡ Some file → HasSearchedDeck line.deck d s m → Answers d budget a → WriteFaulted file m t → SolveFaulted line budget s t
unwritten_to line file budget d a s m t is deck answers failed =
    let kept = deck_left IsSearched line.deck d s m deck in
    record {
      fails = inr (record { between = m; deck = d; answer = a; file = file; named = is; deck_read = deck; answers = answers; fault = failed });
      files = changed_to line.tree file s t is (only_after file s.holds m.holds t.holds kept.holds failed.holds);
      asked = both_asked line file s m t is kept.asked failed.asked;
    }

-- ---- the call

-- the report was said
module _ (line : SolveWords) (budget : Budget) (before after : Scene) (s t : SinkScene) where
  pub answer_ran : (a : Answer) (report : List ℕ) (ending : Ending) → HasSolved line budget a report before after → SaidOrCut report (Answered a) ending s t → SearchRan line budget ending before after s t
  answer_ran a report ending h said = record {
    comes = cut_comes (SolveDue line budget before after) (SolveFails line budget before after) before after s t (Answered a) ending report tt h.solves h.well said;
    files = h.files;
    alone = λ e. absurd (apart said e);
    asked = h.asked;
  }
    where
      apart : SaidOrCut report (Answered a) ending s t → ending ≡ WithoutMemory → ⊥
      apart (inl (same, took)) e = (let f : Answered a ≡ WithoutMemory = sym same ∙ e in cc)
      apart (inr (same, cut)) e = (let f : Faulted ≡ WithoutMemory = sym same ∙ e in cc)

  -- there is no answer
  pub solve_gave_up : (why : Stop) (ending : Ending) → SolveStopped line budget why before after → GaveUp why ending s t → SearchRan line budget ending before after s t
  solve_gave_up (stop.Refused r) ending h said = record {
    comes = said_comes (SolveDue line budget before after) (SolveFails line budget before after) before after s t (Refused r) ending (refusal_text r) tt (refl, h.0) h.1.well said;
    files = unmade_but line.tree before after h.1.files;
    alone = λ e. h.1.files;
    asked = h.1.asked;
  }
  solve_gave_up stop.Fault ending h said = subst (λ (x : Ending). SearchRan line budget x before after s t) (sym said.0) (record { comes = inl (h.fails, said.1); files = h.files; alone = λ e. absurd (cc); asked = h.asked })
  solve_gave_up stop.Memory ending h said = subst (λ (x : Ending). SearchRan line budget x before after s t) (sym said.0) (record { comes = (h.well, said.1); files = unmade_but line.tree before after h.files; alone = λ e. h.files; asked = h.asked })
