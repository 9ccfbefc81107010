-- The ray that a search keeps behind a number.
use Rattle.std.proofs.Common.{◌≡◌, ◌≢◌, ◌∙◌, suc, [], ◌∷◌, length, Option, Some, None, refl, ap, subst}
use Rattle.std.specs.Prelude.{ℤ, IsSome, IsNone}
use Rattle.um_num.specs.Listed.{Listed}
use Rattle.um_model.specs.Values.{DeckValue, PointValue}
use Rattle.um_model.specs.Feasible.{Feasible}
use Rattle.um_model.specs.declared.tree.Solved.{Solved}
use Rattle.um_multipliers.specs.PlainMultipliers.{MultipliersValue}
use Rattle.um_model.specs.Boxes.{BoxValue}
use Rattle.um_nodes.specs.declared.open_nodes.OpenNode.{OpenNode}
use Rattle.um_opening.specs.Numbers.{parts_of}
use Rattle.um_turns.specs.Histories.{History, IsBest, ray_of}
use Rattle.um_progress.specs.declared.incumbent.Incumbent.{Incumbent}
use Rattle.um_loop.specs.declared.search.Search.{Search}
use Rattle.um_loop.specs.declared.search.Halt.{Halt}
use Rattle.um_loop.specs.Goings.{ray_with, ending_of}
use Rattle.um_loop.specs.Steps.{AfterVertex, VertexSettled}

-- behind number 1 it is what that has shown, and behind a later one what was there
pub kept_parts : (history : History) (old shown kept : Option (Listed ℤ)) → parts_of old ≡ ray_of history → (suc (length history) ≡ 1 → kept ≡ shown) → (suc (length history) ≢ 1 → kept ≡ old) → parts_of kept ≡ ray_with history (parts_of shown)
kept_parts [] old shown kept is first later = ap parts_of (first refl)
kept_parts (n ∷ ns) old shown kept is first later = ap parts_of (later (λ e. absurd (cc))) ∙ is

-- before number 1 there is no best point
pub no_best_first : (d : DeckValue) (history : History) (old shown kept : Option (Listed ℤ)) (best : Option Incumbent) → IsBest d history best → (IsSome old → IsNone best) → (suc (length history) ≡ 1 → kept ≡ shown) → (suc (length history) ≢ 1 → kept ≡ old) → IsSome kept → IsNone best
no_best_first d [] old shown kept None bests none first later some = refl
no_best_first d [] old shown kept (Some i) bests none first later some = absurd (let here = bests.here.here in cc)
no_best_first d (n ∷ ns) old shown kept best bests none first later some = none (subst (λ (r : Option (Listed ℤ)). IsSome r) (later (λ e. absurd (cc))) some)

-- a vertex that does not end the search is closed or branched, or stops it
pub no_found_settles : (d : DeckValue) (b : BoxValue) (before : Search) (taken : OpenNode) (solved : Solved) (p : PointValue) (y : MultipliersValue) (halt : Option Halt) (after : Search) → (IsSome before.ray → ¬ Feasible d p) → AfterVertex d b before taken solved p y halt after
    → VertexSettled d b before taken solved p y (ending_of halt) after
no_found_settles d b before taken solved p y None after not_found led = record { not_found = not_found; led = led }
no_found_settles d b before taken solved p y (Some halt) after not_found led = record { not_found = not_found; led = led }
