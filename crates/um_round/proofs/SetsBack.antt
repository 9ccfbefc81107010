-- The sets that are known behind a deck's normal text are those of the deck.
use Rattle.std.proofs.Common.{◌≡◌, ◌<ℤ◌, int_lt, true, List, [], ◌∷◌, map, ℤ, AllPairs, refl, ap, ◌∙◌, arith}
use Rattle.std.proofs.lemmas.Int.{ints}
use Rattle.std.proofs.lemmas.Bool.Decides.{nat_tests}
use Rattle.um_model.specs.Values.{DeckValue, SetValue}
use Rattle.um_model.specs.WellFormed.{IsDeck, IsSet}
use Rattle.um_model.specs.declared.deck.Member.{Member}
use Rattle.um_statements.specs.declared.parts.MemberPart.{MemberPart}
use Rattle.um_statements.specs.Said.{Said}
use Rattle.um_statements.specs.Made.{weight_of, put_by_weight, by_weight, members_of, set_made}
use Rattle.um_statements.proofs.ListFacts.{pairs_tail}
use Rattle.um_round.proofs.EachItem.{Each, Each-from}
use Rattle.um_round.proofs.NormalSaid.{normal_said, set_known, member_known}

-- ---- members that rise are sorted

less_is : (a b : ℤ) → a <ℤ b → int_lt a b ≡ true
less_is a b h = grind (arith, ints, nat_tests)

-- the weights of two members rise
abbrev pub Less : Member → Member → Type 0
Less a b = a.weight <ℤ b.weight

put_first : (m : Member) (ms : List Member) → AllPairs Less (m ∷ ms) → put_by_weight m ms ≡ m ∷ ms
put_first m [] rise = refl
put_first m (x ∷ ms) rise = let first : m.weight <ℤ x.weight = rise 0 1 m (omega arith) (omega arith) in rw (less_is m.weight x.weight first) refl

sorted_back : (ms : List Member) → AllPairs Less ms → by_weight ms ≡ ms
sorted_back [] rise = refl
sorted_back (m ∷ ms) rise = ap (put_by_weight m) (sorted_back ms (pairs_tail Less m ms rise)) ∙ put_first m ms rise

-- ---- sets

module _ (said : Said) where
  members_back : (s : SetValue) → members_of said (set_known s) ≡ s.members
  members_back s = by s.members
    where
      by : (ms : List Member) → map (λ (m : MemberPart). record { column = m.column; weight = weight_of said (set_known s) m }) (map member_known ms) ≡ ms
      by [] = refl
      by (m ∷ ms) = ap (λ (more : List Member). m ∷ more) (by ms)

  set_back : (s : SetValue) → AllPairs Less s.members → set_made said (set_known s) ≡ s
  set_back s rise =
      let members = ap by_weight (members_back s) ∙ sorted_back s.members rise in
      λ i. record { name = s.name; kind = s.kind; members = members i }

pub sets_back : (d : DeckValue) → IsDeck d → map (set_made (normal_said d)) (map set_known d.sets) ≡ d.sets
sets_back d deck = by d.sets (Each-from (IsSet d) d.sets deck.sets)
  where
    by : (sets : List SetValue) → Each (IsSet d) sets → map (set_made (normal_said d)) (map set_known sets) ≡ sets
    by [] is = refl
    by (s ∷ sets) is = λ i. set_back (normal_said d) s is.0.weights i ∷ by sets is.1 i
