-- What a changed part of a box leaves, and how it is put back.
use Rattle.std.proofs.Common.{◌≡◌, ◌∙◌, ap, sym, subst, ℕ, ◌+◌, ◌<◌, ◌≤◌, List, length, map, get_or, set, arith, true, All, Some, option_map, inl, inr}
use Rattle.std.specs.Prelude.{slice_get, ◌^◌}
use Rattle.std.specs.Option.{ForSome}
use Rattle.std.proofs.lemmas.Bool.{cases_eq}
use Rattle.std.proofs.lemmas.List.{set-set, set-get_or, length-set, length-map, get_or-set_same, get_or-set_other, get_or_default}
use Rattle.std.proofs.lemmas.Option.{slice_get-map, slice_get-get_or, slice_get_within, get_or_from_slice_get, same_Some}
use Rattle.um_model.specs.Values.{SetValue, plain_set}
use Rattle.um_model.specs.WellFormed.{AtPlace, IsDeck, IsWithin, has_arc}
use Rattle.um_model.specs.Boxes.{Ends, Span, free, span_at, with_span}
use Rattle.um_model.specs.declared.deck.Member.{Member}
use Rattle.um_model.specs.declared.deck.OrderedSet.{OrderedSet}
use Rattle.um_box.specs.NodeBoxes.{NodeBoxValue, IsNodeBox, HasCurveEnds, IsInterval, put_ends, put_first, put_last}
use Rattle.um_box.specs.ShutOut.{IsCounted, times_outside}
use Rattle.um_box.specs.Undos.{Undoes, undone}
use Rattle.um_box.specs.declared.undo.Undo.{Undo}
use Rattle.um_box.specs.declared.undo.Replaced.TheVariants.{OldEnds, OldFirst, OldLast}
use Rattle.um_box.proofs.Intervals.{between, shut_out_with_span, span_there}
use Rattle.um_box.proofs.Sizes.{no_set, set_there, room_for_set, set_is_counted}

-- what was read and written over is back once it is written again
written_back : {X : Type 0} (xs : List X) (i : ℕ) (old new : X) → old ≡ get_or xs i old → set (set xs i new) i old ≡ xs
written_back xs i old new read = set-set xs i new old ∙ ap (set xs i) read ∙ set-get_or xs i old

-- ---- a column's ends

module _ (b : NodeBoxValue) (column : ℕ) (old new : Ends) (node : IsNodeBox b) (inside : column < length b.deck.columns) (read : old ≡ get_or b.limits.ends column old) where
  abbrev old_ends : Undo
  old_ends = record { replaced = OldEnds column old.low old.high }

  ends_back : undone old_ends (put_ends b column new) ≡ b
  ends_back = ap (λ (e : List Ends). record { deck = b.deck; limits = record { ends = e; spans = b.limits.spans } }) (written_back b.limits.ends column old new read)

  pub ends_undone : Undoes old_ends b (put_ends b column new)
  ends_undone = record { back = ends_back; belongs = record { place = inside; node = subst IsNodeBox (sym ends_back) node } }

-- ---- a set's interval

-- the set that was read
pub set_read : (sets : List OrderedSet) (ss : List SetValue) (i : ℕ) (s : OrderedSet) → map plain_set sets ≡ ss → i < length ss → s ≡ get_or sets i s → AtPlace ss i (plain_set s)
set_read sets ss i s same inside read =
    let short : i < length sets = omega (arith, ap (λ (xs : List SetValue). length xs) same, length-map sets plain_set) in
    ap (λ (xs : List SetValue). slice_get xs i) (sym same) ∙ slice_get-map plain_set sets i ∙ ap (option_map plain_set) (slice_get-get_or sets i s short ∙ ap (λ (x : OrderedSet). Some x) (sym read))

abbrev with_interval : NodeBoxValue → ℕ → Span → NodeBoxValue
with_interval b i span = record { deck = b.deck; limits = with_span b.limits i span }

-- a set of a box that is counted, with its members and its interval
pub record IsRead (b : NodeBoxValue) (counts : List ℕ) (i : ℕ) (s : SetValue) (members : List Member) (old : Span) : Type 0 where
  pub kept : IsCounted b counts
  pub formed : IsDeck b.deck
  pub at : AtPlace b.deck.sets i s
  pub same : members ≡ s.members
  pub read : old ≡ span_at b.limits i

-- as the program reads them
pub reads : (b : NodeBoxValue) (counts : List ℕ) (i : ℕ) (spans : List Span) (x old : Span) (sets : List OrderedSet) (s : OrderedSet) (members : List Member)
    → IsCounted b counts → IsDeck b.deck → i < length b.deck.sets → spans ≡ b.limits.spans → x ≡ get_or spans i x → old ≡ x
    → map plain_set sets ≡ b.deck.sets → s ≡ get_or sets i s → members ≡ (get_or sets i s).members.items → IsRead b counts i (plain_set s) members old
reads b counts i spans x old sets s members kept formed inside spans_are x_is old_is sets_are s_is members_are =
    let each = kept.node.spans in
    record {
      kept = kept;
      formed = formed;
      at = set_read sets b.deck.sets i s sets_are inside s_is;
      same = members_are ∙ ap (λ (o : OrderedSet). o.members.items) (sym s_is);
      read = old_is ∙ span_there b.limits spans i x (omega arith) spans_are x_is;
    }

module _ (b : NodeBoxValue) (counts : List ℕ) (i : ℕ) (s : SetValue) (members : List Member) (old : Span) (is : IsRead b counts i s members old) where
  abbrev kept : IsCounted b counts
  kept = is.kept

  abbrev formed : IsDeck b.deck
  formed = is.formed

  abbrev at : AtPlace b.deck.sets i s
  at = is.at

  abbrev same : members ≡ s.members
  same = is.same

  abbrev read : old ≡ span_at b.limits i
  read = is.read

  pub member_columns : All (λ (m : Member). m.column < length counts) members
  member_columns = λ k m l.
      let l' : k < length s.members = omega (arith, ap (λ (ms : List Member). length ms) same) in
      let within = ((set_there b.deck i s formed at).members k m l').column in
      let here : (get_or members k m).column ≡ (get_or s.members k m).column = ap (λ (ms : List Member). (get_or ms k m).column) same in
      let each = kept.each in
      omega arith

  pub room : (column : ℕ) → column < length counts → get_or counts column 0 + length members < 4294967296
  room column l =
      let each = kept.each in
      let count = kept.counted column (omega arith) in
      omega (arith, count, room_for_set b.deck b.limits column formed i s at, ap (λ (ms : List Member). length ms) same)

  pub counted : (column : ℕ) → column < length counts → times_outside old members column ≤ get_or counts column 0
  counted column l =
      let each = kept.each in
      let count = kept.counted column (omega arith) in
      let here : times_outside old members column ≡ times_outside (span_at b.limits i) s.members column = λ j. times_outside (read j) (same j) column in
      omega (arith, count, here, set_is_counted b.deck b.limits column formed i s at)

  pub old_order : old.first ≤ old.last
  old_order =
      let order = (kept.node.intervals i s at).order in
      omega (arith, ap (λ (x : Span). x.first) read, ap (λ (x : Span). x.last) read)

  pub old_inside : old.last < length members
  old_inside =
      let inside = (kept.node.intervals i s at).inside in
      omega (arith, ap (λ (x : Span). x.last) read, ap (λ (ms : List Member). length ms) same)

  here_now : (span : Span) → span_at (with_span b.limits i span) i ≡ span
  here_now span =
      let spans = kept.node.spans in
      let within = slice_get_within b.deck.sets i s at in
      get_or-set_same b.limits.spans i span (between 0 0) (omega arith)

  module _ (new : Span) (interval : IsInterval s new) where
    other_interval : (k : ℕ) (x : SetValue) → AtPlace b.deck.sets k x → IsInterval x (span_at (with_span b.limits i new) k)
    other_interval k x there = elim (cases_eq k i) [
      | inl e ↦
          let equal : s ≡ x = same_Some s x (sym at ∙ ap (λ (n : ℕ). slice_get b.deck.sets n) (sym e) ∙ there) in
          let now : new ≡ span_at (with_span b.limits i new) k = sym (here_now new) ∙ ap (λ (n : ℕ). span_at (with_span b.limits i new) n) (sym e) in
          let P : SetValue → Span → Type 0 = λ y span. IsInterval y span in
          subst (P x) now (subst (λ (y : SetValue). P y new) equal interval)
      | inr ne ↦ subst (IsInterval x) (sym (get_or-set_other b.limits.spans i k new (between 0 0) ne)) (kept.node.intervals k x there)
    ]

    other_node : IsNodeBox (with_interval b i new)
    other_node = record {
      ends = kept.node.ends;
      spans = length-set b.limits.spans i new ∙ kept.node.spans;
      low = kept.node.low;
      high = kept.node.high;
      curves = kept.node.curves;
      intervals = other_interval;
    }

    -- the box with another interval and with the counts that belong to it
    pub interval_counted : (after : List ℕ) → length after ≡ length counts
        → ((column : ℕ) → column < length counts → get_or after column 0 + times_outside old members column ≡ get_or counts column 0 + times_outside new members column)
        → IsCounted (with_interval b i new) after
    interval_counted after long moved = record {
      node = other_node;
      each = long ∙ kept.each;
      counted = λ column l.
          let each = kept.each in
          let m = moved column (omega arith) in
          let count = kept.counted column l in
          let within = slice_get_within b.deck.sets i s at in
          let all = shut_out_with_span b.deck b.limits i s new column within kept.node.spans in
          let set_is = get_or_from_slice_get b.deck.sets i s s at in
          let was : times_outside old members column ≡ times_outside (span_at b.limits i) (get_or b.deck.sets i s).members column =
          λ j. times_outside (read j) ((same ∙ ap (λ (x : SetValue). x.members) (sym set_is)) j) column in
          let now : times_outside new members column ≡ times_outside new (get_or b.deck.sets i s).members column =
          ap (λ (ms : List Member). times_outside new ms column) (same ∙ ap (λ (x : SetValue). x.members) (sym set_is)) in
          omega (arith, m, count, all, was, now);
    }

  back_again : (new : Span) → with_interval (with_interval b i new) i old ≡ b
  back_again new =
      let spans = kept.node.spans in
      let within = slice_get_within b.deck.sets i s at in
      let short : i < length b.limits.spans = omega arith in
      let here : old ≡ get_or b.limits.spans i old = read ∙ get_or_default b.limits.spans i (between 0 0) old short in
      ap (λ (x : List Span). record { deck = b.deck; limits = record { ends = b.limits.ends; spans = x } }) (written_back b.limits.spans i old new here)

  pub first_undone : (first : ℕ) → Undoes (record { replaced = OldFirst i old.first }) b (with_interval b i (between first old.last))
  first_undone first =
      let new = between first old.last in
      let back : put_first (with_interval b i new) i old.first ≡ b =
      ap (λ (x : Span). with_interval (with_interval b i new) i (between old.first x.last)) (here_now new) ∙ back_again new in
      record { back = back; belongs = record { place = slice_get_within b.deck.sets i s at; node = subst IsNodeBox (sym back) kept.node } }

  pub last_undone : (last : ℕ) → Undoes (record { replaced = OldLast i old.last }) b (with_interval b i (between old.first last))
  last_undone last =
      let new = between old.first last in
      let back : put_last (with_interval b i new) i old.last ≡ b =
      ap (λ (x : Span). with_interval (with_interval b i new) i (between x.first old.last)) (here_now new) ∙ back_again new in
      record { back = back; belongs = record { place = slice_get_within b.deck.sets i s at; node = subst IsNodeBox (sym back) kept.node } }

-- ---- what is put back is within the limits

module _ (b : NodeBoxValue) (column : ℕ) (e : Ends) (inside : column < length b.deck.columns) (node : IsNodeBox (put_ends b column e)) where
  put_there : get_or (put_ends b column e).limits.ends column e ≡ e
  put_there = let each = node.ends in get_or-set_same b.limits.ends column e e (omega (arith, length-set b.limits.ends column e))

  pub low_put_back : ForSome e.low (IsWithin (10 ^ 10))
  low_put_back = let each = node.ends in subst (λ (x : Ends). ForSome x.low (IsWithin (10 ^ 10))) put_there (node.low column e (omega arith))

  pub high_put_back : ForSome e.high (IsWithin (10 ^ 10))
  high_put_back = let each = node.ends in subst (λ (x : Ends). ForSome x.high (IsWithin (10 ^ 10))) put_there (node.high column e (omega arith))

  pub curve_put_back : has_arc b.deck.arcs column ≡ true → HasCurveEnds e
  curve_put_back h = let each = node.ends in subst HasCurveEnds (get_or-set_same b.limits.ends column e free (omega (arith, length-set b.limits.ends column e))) (node.curves column h)

module _ (b : NodeBoxValue) (i : ℕ) (new : Span) (inside : i < length b.deck.sets) (node : IsNodeBox (with_interval b i new)) where
  span_there_now : span_at (with_span b.limits i new) i ≡ new
  span_there_now = let each = node.spans in get_or-set_same b.limits.spans i new (between 0 0) (omega (arith, length-set b.limits.spans i new))

  pub interval_put_back : (s : SetValue) → AtPlace b.deck.sets i s → IsInterval s new
  interval_put_back s at = subst (IsInterval s) span_there_now (node.intervals i s at)

  pub order_put_back : new.first ≤ new.last
  order_put_back = (interval_put_back (get_or b.deck.sets i no_set) (slice_get-get_or b.deck.sets i no_set inside)).order
