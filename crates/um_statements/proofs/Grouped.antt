-- Items behind heads: one item more, and items that are seen in another way.
use Rattle.std.proofs.Common.{◌≡◌, Bool, true, false, ◌&&◌, ◌||◌, List, [], ◌∷◌, ◌++◌, map, Option, None, Some, is_some, option_map, refl, sym, ap, ◌∙◌, true≢false, append-nil, if◌then◌else◌}
use Rattle.std.specs.List.{filter_map, list_any, list_all, cons_option}
use Rattle.std.proofs.lemmas.List.Elements.{filter_map-append}
use Rattle.um_statements.specs.Said.{grouped, items_in}
use Rattle.um_statements.specs.CallRules.{change_last, option_list}

-- ---- tests

pub and_true : (a b : Bool) → (a && b) ≡ true → (a ≡ true) × (b ≡ true)
and_true true b h = (refl, h)
and_true false b h = absurd (true≢false (sym h))

-- ---- lists

pub quiet : {X Y : Type 0} (f : X → Option Y) (xs : List X) (x : X) → f x ≡ None → filter_map f (xs ++ x ∷ []) ≡ filter_map f xs
quiet f xs x none = filter_map-append f xs (x ∷ []) ∙ rw none (append-nil (filter_map f xs))

pub loud : {X Y : Type 0} (f : X → Option Y) (xs : List X) (x : X) → filter_map f (xs ++ x ∷ []) ≡ filter_map f xs ++ option_list (f x)
loud {Y = Y} f xs x = filter_map-append f xs (x ∷ []) ∙ by (f x)
  where
    by : (o : Option Y) → filter_map f xs ++ cons_option o [] ≡ filter_map f xs ++ option_list o
    by None = refl
    by (Some y) = refl

-- what passes the test gives the same
pub same_map : {X Y : Type 0} (f g : X → Option Y) (test : X → Bool) → ((x : X) → test x ≡ true → f x ≡ g x) → (xs : List X) → list_all test xs ≡ true → filter_map f xs ≡ filter_map g xs
same_map f g test same [] all = refl
same_map f g test same (x ∷ xs) all =
    let both = and_true (test x) (list_all test xs) all in
    rw (same x both.0, same_map f g test same xs both.1) refl

-- what passes the test gives nothing
pub silent : {X Y : Type 0} (f : X → Option Y) (test : X → Bool) → ((x : X) → test x ≡ true → f x ≡ None) → (xs : List X) → list_all test xs ≡ true → filter_map f xs ≡ []
silent f test none [] all = refl
silent f test none (x ∷ xs) all =
    let both = and_true (test x) (list_all test xs) all in
    rw (none x both.0) (silent f test none xs both.1)

-- changes of what is given
pub changed_map : {X Y Z : Type 0} (f : X → Option Z) (g : X → Option Y) (change : Y → Z) → ((x : X) → f x ≡ option_map change (g x)) → (xs : List X) → filter_map f xs ≡ map change (filter_map g xs)
changed_map f g change same [] = refl
changed_map {Y = Y} f g change same (x ∷ xs) = rw (same x, changed_map f g change same xs) (by (g x))
  where
    by : (o : Option Y) → cons_option (option_map change o) (map change (filter_map g xs)) ≡ map change (cons_option o (filter_map g xs))
    by None = refl
    by (Some y) = refl

pub map_in_two : {X Y Z : Type 0} (f : X → Z) (g : X → Y) (change : Y → Z) → ((x : X) → f x ≡ change (g x)) → (xs : List X) → map f xs ≡ map change (map g xs)
map_in_two f g change same [] = refl
map_in_two f g change same (x ∷ xs) = rw (same x, map_in_two f g change same xs) refl

pub map_last : {X Y : Type 0} (f : X → Y) (change : X → X) (after : Y → Y) → ((x : X) → f (change x) ≡ after (f x)) → (xs : List X) → map f (change_last change xs) ≡ change_last after (map f xs)
map_last f change after same [] = refl
map_last f change after same (x ∷ []) = rw (same x) refl
map_last {Y = Y} f change after same (x ∷ (y ∷ ys)) = ap (λ (zs : List Y). f x ∷ zs) (map_last f change after same (y ∷ ys))

-- ---- groups

module _ {X H I : Type 0} (head : X → Option H) (item : X → Option I) where
  abbrev is_head : X → Bool
  is_head x = is_some (head x)

  -- a head behind these items
  items_head : (xs : List X) (x : X) (h : H) → head x ≡ Some h → items_in head item (xs ++ x ∷ []) ≡ items_in head item xs
  items_head [] x h some = rw some refl
  items_head (y ∷ xs) x h some = rw (items_head xs x h some) refl

  pub head_push : (xs : List X) (x : X) (h : H) → head x ≡ Some h → grouped head item (xs ++ x ∷ []) ≡ grouped head item xs ++ (h, []) ∷ []
  head_push [] x h some = rw some refl
  head_push (y ∷ xs) x h some = rw (items_head xs x h some, head_push xs x h some) (by (head y))
    where
      by : (o : Option H) → cons_option (option_map (λ (g : H). (g, items_in head item xs)) o) (grouped head item xs ++ (h, []) ∷ [])
          ≡ cons_option (option_map (λ (g : H). (g, items_in head item xs)) o) (grouped head item xs) ++ (h, []) ∷ []
      by None = refl
      by (Some g) = refl

  -- an item behind the last head
  items_end : (xs : List X) (x : X) → head x ≡ None → list_any is_head xs ≡ false → items_in head item (xs ++ x ∷ []) ≡ items_in head item xs ++ option_list (item x)
  items_end [] x none no_head = rw none (by (item x))
    where
      by : (o : Option I) → cons_option o [] ≡ option_list o
      by None = refl
      by (Some i) = refl
  items_end (y ∷ xs) x none no_head = by (head y) (item y) (items_end xs x none) no_head
    where
      by : (o : Option H) (i : Option I) → (list_any is_head xs ≡ false → items_in head item (xs ++ x ∷ []) ≡ items_in head item xs ++ option_list (item x))
          → (is_some o || list_any is_head xs) ≡ false
          → (if is_some o then [] else cons_option i (items_in head item (xs ++ x ∷ []))) ≡ (if is_some o then [] else cons_option i (items_in head item xs)) ++ option_list (item x)
      by (Some h) i more no_head = absurd (true≢false no_head)
      by None None more no_head = more no_head
      by None (Some i) more no_head = ap (λ (is : List I). i ∷ is) (more no_head)

  items_mid : (xs : List X) (x : X) → list_any is_head xs ≡ true → items_in head item (xs ++ x ∷ []) ≡ items_in head item xs
  items_mid [] x some_head = absurd (true≢false (sym some_head))
  items_mid (y ∷ xs) x some_head = by (head y) (item y) (items_mid xs x) some_head
    where
      by : (o : Option H) (i : Option I) → (list_any is_head xs ≡ true → items_in head item (xs ++ x ∷ []) ≡ items_in head item xs)
          → (is_some o || list_any is_head xs) ≡ true
          → (if is_some o then [] else cons_option i (items_in head item (xs ++ x ∷ []))) ≡ (if is_some o then [] else cons_option i (items_in head item xs))
      by (Some h) i more some_head = refl
      by None None more some_head = more some_head
      by None (Some i) more some_head = ap (λ (is : List I). i ∷ is) (more some_head)

  no_groups : (xs : List X) → list_any is_head xs ≡ false → grouped head item xs ≡ []
  no_groups [] no_head = refl
  no_groups (y ∷ xs) no_head = by (head y) (no_groups xs) no_head
    where
      by : (o : Option H) → (list_any is_head xs ≡ false → grouped head item xs ≡ []) → (is_some o || list_any is_head xs) ≡ false
          → cons_option (option_map (λ (g : H). (g, items_in head item xs)) o) (grouped head item xs) ≡ []
      by (Some h) more no_head = absurd (true≢false no_head)
      by None more no_head = more no_head

  some_groups : (xs : List X) → list_any is_head xs ≡ true → (g : H × List I) × (gs : List (H × List I)) × (grouped head item xs ≡ g ∷ gs)
  some_groups [] some_head = absurd (true≢false (sym some_head))
  some_groups (y ∷ xs) some_head = by (head y) (some_groups xs) some_head
    where
      by : (o : Option H) → (list_any is_head xs ≡ true → (g : H × List I) × (gs : List (H × List I)) × (grouped head item xs ≡ g ∷ gs)) → (is_some o || list_any is_head xs) ≡ true
          → (g : H × List I) × (gs : List (H × List I)) × (cons_option (option_map (λ (h : H). (h, items_in head item xs)) o) (grouped head item xs) ≡ g ∷ gs)
      by (Some h) more some_head = (_, _, refl)
      by None more some_head = more some_head

  stays : (change : H × List I → H × List I) (g : H × List I) (gs : List (H × List I)) → (d : H × List I) × (ds : List (H × List I)) × (gs ≡ d ∷ ds) → change_last change (g ∷ gs) ≡ g ∷ change_last change gs
  stays change g gs some = rw some.2 refl

  abbrev with_item : Option I → H × List I → H × List I
  with_item i g = (g.0, g.1 ++ option_list i)

  pub item_push : (xs : List X) (x : X) → head x ≡ None → grouped head item (xs ++ x ∷ []) ≡ change_last (λ (g : H × List I). (g.0, g.1 ++ option_list (item x))) (grouped head item xs)
  item_push [] x none = rw none refl
  item_push (y ∷ xs) x none = by (head y) (list_any is_head xs) refl (item_push xs x none)
    where
      by : (o : Option H) (b : Bool) → list_any is_head xs ≡ b → grouped head item (xs ++ x ∷ []) ≡ change_last (with_item (item x)) (grouped head item xs)
          → cons_option (option_map (λ (h : H). (h, items_in head item (xs ++ x ∷ []))) o) (grouped head item (xs ++ x ∷ []))
          ≡ change_last (with_item (item x)) (cons_option (option_map (λ (h : H). (h, items_in head item xs)) o) (grouped head item xs))
      by None b is more = more
      by (Some h) true is more =
          rw (items_mid xs x is) (ap (λ (gs : List (H × List I)). (h, items_in head item xs) ∷ gs) more ∙ sym (stays _ _ _ (some_groups xs is)))
      by (Some h) false is more = rw (items_end xs x none is, more, no_groups xs is) refl

  -- what is neither head nor item
  items_quiet : (xs : List X) (x : X) → head x ≡ None → item x ≡ None → items_in head item (xs ++ x ∷ []) ≡ items_in head item xs
  items_quiet [] x none no_item = rw (none, no_item) refl
  items_quiet (y ∷ xs) x none no_item = rw (items_quiet xs x none no_item) refl

  pub grouped_quiet : (xs : List X) (x : X) → head x ≡ None → item x ≡ None → grouped head item (xs ++ x ∷ []) ≡ grouped head item xs
  grouped_quiet [] x none no_item = rw none refl
  grouped_quiet (y ∷ xs) x none no_item = rw (items_quiet xs x none no_item, grouped_quiet xs x none no_item) refl

  -- what passes the test is the same head and the same item
  module _ (head2 : X → Option H) (item2 : X → Option I) (test : X → Bool) where
    items_same : ((x : X) → test x ≡ true → (head2 x ≡ head x) × (item2 x ≡ item x)) → (xs : List X) → list_all test xs ≡ true → items_in head2 item2 xs ≡ items_in head item xs
    items_same same [] all = refl
    items_same same (x ∷ xs) all =
        let both = and_true (test x) (list_all test xs) all in
        rw ((same x both.0).0, (same x both.0).1, items_same same xs both.1) refl

    pub grouped_same : ((x : X) → test x ≡ true → (head2 x ≡ head x) × (item2 x ≡ item x)) → (xs : List X) → list_all test xs ≡ true → grouped head2 item2 xs ≡ grouped head item xs
    grouped_same same [] all = refl
    grouped_same same (x ∷ xs) all =
        let both = and_true (test x) (list_all test xs) all in
        rw ((same x both.0).0, items_same same xs both.1, grouped_same same xs both.1) refl
