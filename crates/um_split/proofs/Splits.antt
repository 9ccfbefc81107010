-- The average split of a set, put together.
use Rattle.std.proofs.Common.{◌≡◌, ℕ, ℤ, List, sym, ap, subst, ◌∙◌, refl}
use Rattle.std.proofs.lemmas.Bool.{false≢true}
use Rattle.std.specs.Prelude.{Option, None, Some, IsNone, IfSome, ◌↔◌}
use Rattle.std.specs.Option.{MatchOption}
use Rattle.um_laws.specs.Sums.{sum_of, dot}
use Rattle.um_model.specs.Values.{DeckValue, SetValue, PointValue}
use Rattle.um_model.specs.WellFormed.{AtPlace}
use Rattle.um_model.specs.Feasible.{SetRule, SetHolds, member_parts}
use Rattle.um_model.specs.AverageSplit.{IsFirstNonzero, IsLastNonzero, IsAveragePosition, IsAverageSplit, split_at}
use Rattle.um_model.specs.declared.deck.Member.{Member}
use Rattle.um_model.specs.declared.deck.SetKind.{SetKind}
use Rattle.um_model.specs.declared.branch.Branch.{Branch}
use Rattle.um_point.specs.MemberParts.{parts_of}
use Rattle.um_split.specs.LastReached.{IsLastReached}
use Rattle.um_split.specs.Stretches.{IsSplitOf}

-- the last position that is reached is that of the average
average-position : (s : SetValue) (members : List Member) (parts : List ℤ) (weighted total : ℤ) (position : ℕ) → s.members ≡ members → weighted ≡ dot (λ (m : Member). m.weight) members parts → total ≡ sum_of (λ (x : ℤ). x) parts
    → IsLastReached members weighted total position → IsAveragePosition s parts position
average-position s members parts weighted total position same sum parts_sum reached =
    let r : IsLastReached s.members (dot (λ (m : Member). m.weight) s.members parts) (sum_of (λ (x : ℤ). x) parts) position = rw (same, sym sum, sym parts_sum) reached in
    record { inside = r.inside; at_most = r.at_most; behind = r.behind }

pub split-of : (kind : SetKind) (set : ℕ) (members : List Member) (parts : List ℤ) (first last average : ℕ) (weighted total : ℤ) (branch : Branch)
    → IsFirstNonzero (parts_of parts members) first → IsLastNonzero (parts_of parts members) last → ¬ SetRule kind (parts_of parts members)
    → weighted ≡ dot (λ (m : Member). m.weight) members (parts_of parts members) → total ≡ sum_of (λ (x : ℤ). x) (parts_of parts members) → IsLastReached members weighted total average
    → branch ≡ split_at kind set first average → IsSplitOf kind set members parts branch
split-of kind set members parts first last average weighted total branch first_is last_is broken sum parts_sum reached is d s p at of_kind of_members of_parts =
    let same : member_parts p s ≡ parts_of parts members = ap (λ (ys : List ℤ). parts_of ys s.members) of_parts ∙ ap (parts_of parts) of_members in
    record {
      chosen = s;
      place = at;
      broken = λ h. broken (subst (λ (k : SetKind). SetRule k (parts_of parts members)) of_kind (subst (SetRule s.kind) same h));
      first = first;
      first_is = subst (λ (xs : List ℤ). IsFirstNonzero xs first) (sym same) first_is;
      last = last;
      last_is = subst (λ (xs : List ℤ). IsLastNonzero xs last) (sym same) last_is;
      average = average;
      average_is = subst (λ (xs : List ℤ). IsAveragePosition s xs average) (sym same) (average-position s members (parts_of parts members) weighted total average of_members sum parts_sum reached);
      branch_is = is ∙ ap (λ (k : SetKind). split_at k set first average) (sym of_kind);
    }

-- the two answers

same_item : (ss : List SetValue) (set : ℕ) (s t : SetValue) → AtPlace ss set s → AtPlace ss set t → s ≡ t
same_item ss set s t at also = cc

pub None-from_rule : (d : DeckValue) (set : ℕ) (p : PointValue) (s : SetValue) (kind : SetKind) (members : List Member) (parts : List ℤ) (result : Option Branch)
    → AtPlace d.sets set s → s.kind ≡ kind → s.members ≡ members → p.parts ≡ parts → MatchOption result (SetRule kind (parts_of parts members)) (IsSplitOf kind set members parts) → IsNone result ↔ SetHolds p set s
None-from_rule d set p s kind members parts None at of_kind of_members of_parts h = (λ n. rw (of_kind, of_members, of_parts) h, λ holds. refl)
None-from_rule d set p s kind members parts (Some branch) at of_kind of_members of_parts h = (
  λ n. absurd (false≢true (sym n)),
  λ holds. absurd (let split = h d s p at of_kind of_members of_parts in split.broken (subst (SetHolds p set) (same_item d.sets set s split.chosen at split.place) holds)),
)

pub Some-is_split : (d : DeckValue) (set : ℕ) (p : PointValue) (s : SetValue) (kind : SetKind) (members : List Member) (parts : List ℤ) (result : Option Branch)
    → AtPlace d.sets set s → s.kind ≡ kind → s.members ≡ members → p.parts ≡ parts → MatchOption result (SetRule kind (parts_of parts members)) (IsSplitOf kind set members parts) → IfSome result (IsAverageSplit d set p)
Some-is_split d set p s kind members parts None at of_kind of_members of_parts h = _
Some-is_split d set p s kind members parts (Some branch) at of_kind of_members of_parts h = h d s p at of_kind of_members of_parts
