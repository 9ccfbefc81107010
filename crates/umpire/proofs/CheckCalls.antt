-- What a call of `check` does, from what became of its files and of its text.
use Rattle.std.proofs.Common.{◌≡◌, ◌∙◌, [], ◌∷◌, Result, Ok, Err, IfOk, IfErr, refl, sym, subst, arith, inl, inr}
use Rattle.um_outside.specs.Scenes.{Scene, to_open}
use Rattle.um_outside.specs.Sinks.{SinkScene}
use Rattle.um_outside.specs.WholeFiles.{ReadGivenUp}
use Rattle.um_model.specs.Values.{DeckValue}
use Rattle.um_model.specs.AnswerValues.{AnswerValue}
use Rattle.um_model.specs.declared.verdict.Verdict.{Verdict}
use Rattle.umpire.specs.CheckRuns.{CheckNames, CheckRan, CheckDue, CheckFails, check_files, CheckKeeps, HasJudged, CheckStopped}
use Rattle.umpire.specs.DeckFiles.{HasDeck}
use Rattle.umpire.specs.TreeFiles.{HasTree}
use Rattle.umpire.specs.Findings.{IsFinding}
use Rattle.umpire.specs.Refusals.{refusal_text}
use Rattle.um_report.specs.Verdicts.{verdict_text}
use Rattle.umpire.specs.Stops.{FileStopped, RefusesDeck, RefusesTreeFile, SaidOrNot, GaveUp}
use Rattle.umpire.specs.declared.ending.Ending.{Ending}
use Rattle.umpire.specs.declared.ending.Ending.TheVariants.{Judged, Refused}
use Rattle.umpire.specs.declared.outcome.Refusal.TheVariants.{Words, LowTolerance, Deck, Tree}
use Rattle.umpire.specs.declared.reading.Stop.{Stop}
use Rattle.umpire.specs.declared.reading.Stop.TheVariants as stop
use Rattle.um_outside.proofs.AskedInOrder.{asked_then}
use Rattle.umpire.proofs.FileReads.{any_deck_left, no_text_left, tree_left, no_tree_left}
use Rattle.umpire.proofs.Sayings.{said_comes}

-- ---- the files

-- the deck's file alone was read
deck_keeps : (names : CheckNames) (s t : Scene) → ReadGivenUp names.deck s t → CheckKeeps names s t
deck_keeps names s t h = record {
  well = h.well;
  files = record { put = h.put; holds = h.holds };
  asked = record { front = to_open names.deck ∷ []; behind = to_open names.tree ∷ []; all = refl; asked = h.asked };
}

-- both files were read
both_keep : (names : CheckNames) (s m t : Scene) → ReadGivenUp names.deck s m → ReadGivenUp names.tree m t → CheckKeeps names s t
both_keep names s m t a b = record {
  well = record { faults = omega (arith, a.well.faults, b.well.faults); stopped = b.well.stopped ∙ a.well.stopped };
  files = record { put = b.put ∙ a.put; holds = b.holds ∙ a.holds };
  asked = record { front = check_files names; behind = []; all = refl; asked = asked_then (to_open names.deck ∷ []) (to_open names.tree ∷ []) s.asked m.asked t.asked a.asked b.asked };
}

-- the deck was not taken
pub deck_stopped : (names : CheckNames) (why : Stop) (s t : Scene) → FileStopped names.deck (RefusesDeck names.deck) why s t → CheckStopped names why s t
deck_stopped names (stop.Refused (Deck f)) s t h = (h, deck_keeps names s t (no_text_left names.deck f s t h))
deck_stopped names (stop.Refused (Tree f)) s t h = absurd h
deck_stopped names (stop.Refused (Words w)) s t h = absurd h
deck_stopped names (stop.Refused (LowTolerance least)) s t h = absurd h
deck_stopped names stop.Fault s t h = record {
  fails = inl h;
  files = record { put = h.put; holds = h.holds };
  asked = record { front = to_open names.deck ∷ []; behind = to_open names.tree ∷ []; all = refl; asked = h.asked };
}
deck_stopped names stop.Memory s t h = deck_keeps names s t h

-- the deck was read, and the tree was not taken
pub tree_stopped : (names : CheckNames) (d : DeckValue) (why : Stop) (s m t : Scene) → HasDeck names.deck d s m → FileStopped names.tree (RefusesTreeFile d names.tree) why m t → CheckStopped names why s t
tree_stopped names d (stop.Refused (Tree f)) s m t a h = (
  record { between = m; deck = d; deck_read = a; refused = h },
  both_keep names s m t (any_deck_left names.deck d s m a) (no_tree_left d names.tree f m t h),
)
tree_stopped names d (stop.Refused (Deck f)) s m t a h = absurd h
tree_stopped names d (stop.Refused (Words w)) s m t a h = absurd h
tree_stopped names d (stop.Refused (LowTolerance least)) s m t a h = absurd h
tree_stopped names d stop.Fault s m t a h =
    let k = any_deck_left names.deck d s m a in
    record {
      fails = inr (record { between = m; deck = d; deck_read = a; fault = h });
      files = record { put = h.put ∙ k.put; holds = h.holds ∙ k.holds };
      asked = record { front = check_files names; behind = []; all = refl; asked = asked_then (to_open names.deck ∷ []) (to_open names.tree ∷ []) s.asked m.asked t.asked k.asked h.asked };
    }
tree_stopped names d stop.Memory s m t a h = both_keep names s m t (any_deck_left names.deck d s m a) h

-- both were read, and no memory was found for the verdict
pub both_kept : (names : CheckNames) (d : DeckValue) (a : AnswerValue) (s m t : Scene) → HasDeck names.deck d s m → HasTree d names.tree a m t → CheckKeeps names s t
both_kept names d a s m t deck tree = both_keep names s m t (any_deck_left names.deck d s m deck) (tree_left d names.tree a m t tree)

-- both were read and judged
pub both_judged : (names : CheckNames) (d : DeckValue) (a : AnswerValue) (v : Verdict) (s m t : Scene) → HasDeck names.deck d s m → HasTree d names.tree a m t → IsFinding d a v → HasJudged names v s t
both_judged names d a v s m t deck tree finding = record {
  judges = record { between = m; deck = d; answer = a; deck_read = deck; tree_read = tree; finding = finding };
  keeps = both_kept names d a s m t deck tree;
}

-- what the checker found of both, or no memory was found for it
pub judged_ok : (names : CheckNames) (d : DeckValue) (a : AnswerValue) (s m t : Scene) (r : Result Verdict Stop) → HasDeck names.deck d s m → HasTree d names.tree a m t → IfOk r (IsFinding d a) → IfOk r (λ (v : Verdict). HasJudged names v s t)
judged_ok names d a s m t (Ok v) deck tree finding = both_judged names d a v s m t deck tree finding
judged_ok names d a s m t (Err why) deck tree finding = tt

pub judged_err : (names : CheckNames) (d : DeckValue) (a : AnswerValue) (s m t : Scene) (r : Result Verdict Stop) → HasDeck names.deck d s m → HasTree d names.tree a m t → IfErr r (λ (why : Stop). why ≡ stop.Memory) → IfErr r (λ (why : Stop). CheckStopped names why s t)
judged_err names d a s m t (Ok v) deck tree none = tt
judged_err names d a s m t (Err why) deck tree none = subst (λ (x : Stop). CheckStopped names x s t) (sym none) (both_kept names d a s m t deck tree)

-- ---- the call

module _ (names : CheckNames) (before after : Scene) (s t : SinkScene) where
  -- the verdict was said
  pub verdict_ran : (v : Verdict) (ending : Ending) → HasJudged names v before after → SaidOrNot (verdict_text v) (Judged v) ending s t → CheckRan names ending before after s t
  verdict_ran v ending h said = record {
    comes = said_comes (CheckDue names before after) (CheckFails names before after) before after s t (Judged v) ending (verdict_text v) tt (refl, h.judges) h.keeps.well said;
    files = h.keeps.files;
    asked = h.keeps.asked;
  }

  -- there is no verdict
  pub check_gave_up : (why : Stop) (ending : Ending) → CheckStopped names why before after → GaveUp why ending s t → CheckRan names ending before after s t
  check_gave_up (stop.Refused r) ending h said = record {
    comes = said_comes (CheckDue names before after) (CheckFails names before after) before after s t (Refused r) ending (refusal_text r) tt (refl, h.0) h.1.well said;
    files = h.1.files;
    asked = h.1.asked;
  }
  check_gave_up stop.Fault ending h said = subst (λ (x : Ending). CheckRan names x before after s t) (sym said.0) (record { comes = inl (h.fails, said.1); files = h.files; asked = h.asked })
  check_gave_up stop.Memory ending h said = subst (λ (x : Ending). CheckRan names x before after s t) (sym said.0) (record { comes = (h.well, said.1); files = h.files; asked = h.asked })
