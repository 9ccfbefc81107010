-- What clap makes of a plain line of `solve`.
use Rattle.std.proofs.Common.{◌≡◌, ℕ, Bool, true, false, ◌&&◌, ◌||◌, not, nat_eq, List, [], ◌∷◌, fold, codes, Option, Some, None, IfSome, is_some, refl, sym, ap, subst, ◌∙◌, inl, inr, ◌⊎◌}
use Rattle.std.specs.Prelude.{bytes_eq}
use Rattle.std.proofs.lemmas.Slice.Eq.{bytes_eq-Decides}
use Rattle.clap.specs.Words.{Row, Rule, Text, first_of, first_value, matches_of, rows_of, takes}
use Rattle.clap.specs.declared.parser.matches.Found.{Found}
use Rattle.clap.specs.Simple.{Shape, built}
use Rattle.clap.specs.Takes.{settle_passes, walk_passes}
use Rattle.clap.specs.Walk.{walked, has_row, settled_rows, walk_from, nothing_held, with_default}
use Rattle.clap.specs.declared.builder.value_parser.Reading.TheVariants as reading
use Rattle.clap.proofs.OnLiterals.{clap_on_literals}
use Rattle.um_words.specs.ClapCommands.{solve_command}
use Rattle.um_words.specs.Words.{Word, is_plain, is_option, is_named, are_options, value_of}
use Rattle.um_words.specs.SolveWords.{FoundSolve, solve_line, solve_of, solve_options}
use Rattle.um_words.proofs.Rows.{look, value_found}
use Rattle.um_words.proofs.CheckParse.{holds}
use Rattle.um_words.proofs.Walks.{dashed, or_value, held_at, between, IsValue, IsValueOption, IsFresh, Ends, option_ends, then_found, no_value, both, three, not_true}

abbrev top : Shape
top = (built solve_command).top

-- ---- its arguments

either : {a b : Bool} → (a || b) ≡ true → (a ≡ true) ⊎ (b ≡ true)
either {a = true} {b = b} h = inl refl
either {a = false} {b = b} h = inr h

-- a use of an argument passes where it is the first
first_use : (b : Bool) → ((not b || false) && true) ≡ not b
first_use true = refl
first_use false = refl

deck_value : IsValue top 2 (codes "deck")
unfolding clap_on_literals
deck_value = record { how = reading.AsWritten; rows = λ rows v. refl; passes = λ rows v. first_use (has_row (codes "deck") rows) }

nodes_option : IsValueOption top 2 (codes "nodes")
unfolding clap_on_literals
nodes_option = record {
  value = record { how = reading.AsWritten; rows = λ rows v. refl; passes = λ rows v. first_use (has_row (codes "nodes") rows) };
  walks = λ rows id v y ys e. simp e;
  passes = λ rows id v y ys rest e h k. simp (e, h, k);
}

pivots_option : IsValueOption top 2 (codes "pivots")
unfolding clap_on_literals
pivots_option = record {
  value = record { how = reading.AsWritten; rows = λ rows v. refl; passes = λ rows v. first_use (has_row (codes "pivots") rows) };
  walks = λ rows id v y ys e. simp e;
  passes = λ rows id v y ys rest e h k. simp (e, h, k);
}

tree_option : IsValueOption top 2 (codes "tree")
unfolding clap_on_literals
tree_option = record {
  value = record { how = reading.AsWritten; rows = λ rows v. refl; passes = λ rows v. first_use (has_row (codes "tree") rows) };
  walks = λ rows id v y ys e. simp e;
  passes = λ rows id v y ys rest e h k. simp (e, h, k);
}

-- an option of these
Known : Word → Type 0
Known word = (name : Text) × (word ≡ dashed name) × IsValueOption top 2 name

known_by : (name : Text) (word : Word) → IsValueOption top 2 name → bytes_eq (dashed name) word ≡ true → Known word
unfolding Known
known_by name word option e = (name, sym ((bytes_eq-Decides (dashed name) word).0 e), option)

-- each word of an option
pub option_known : (word : Word) → is_option solve_options word ≡ true → (name : Text) × (word ≡ dashed name) × IsValueOption top 2 name
unfolding Known
option_known word h =
    elim (either h) [
      | inl e ↦ known_by (codes "nodes") word nodes_option e
      | inr h ↦ elim (either h) [
        | inl e ↦ known_by (codes "pivots") word pivots_option e
        | inr h ↦ elim (either h) [
          | inl e ↦ known_by (codes "tree") word tree_option e
          | inr h ↦ cc
        ]
      ]
    ]

-- ---- the whole line

-- the deck is read first
deck_read : (x : ℕ) (xs : List ℕ) → nat_eq x 45 ≡ false → walked top.rules [] (walk_from nothing_held) (x ∷ xs) ≡ between top 2 [] (codes "deck") (x ∷ xs)
unfolding clap_on_literals
deck_read x xs e = simp e

deck_passes : (x : ℕ) (xs : List ℕ) (rest : List Text) → nat_eq x 45 ≡ false → walk_passes top [] (between top 2 [] (codes "deck") (x ∷ xs)) rest ≡ true → walk_passes top [] (walk_from nothing_held) ((x ∷ xs) ∷ rest) ≡ true
unfolding clap_on_literals
deck_passes x xs rest e h = simp (e, h)

-- an option among the words is one of these
named_option : (options : List Word) (m : Word) (words : List Word) → are_options options words ≡ true → is_named m words ≡ true → is_option options m ≡ true
named_option options m [] h named = cc
named_option options m (word ∷ []) h named = cc
named_option options m (word ∷ value ∷ others) h named =
    let taken = both {a = is_option options word && is_plain value && not (is_named word others)} {b = are_options options others} h in
    elim (either {a = bytes_eq word m} {b = is_named m others} named) [
      | inl e ↦ subst (λ (w : Word). is_option options w ≡ true) ((bytes_eq-Decides word m).0 e) (three {a = is_option options word} {b = is_plain value} {c = not (is_named word others)} taken.0).0
      | inr rest ↦ named_option options m others taken.1 rest
    ]

false_unless : (b : Bool) → (b ≡ true → false ≡ true) → b ≡ false
false_unless true h = let bad : false ≡ true = h refl in cc
false_unless false h = refl

-- no option is named `deck`
not_deck : (words : List Word) → are_options solve_options words ≡ true → is_named (codes "--deck") words ≡ false
not_deck words h = false_unless (is_named (codes "--deck") words) (named_option solve_options (codes "--deck") words h)

-- where nothing has a default, the matches at the end are those of the walk
NoDefaults : List Rule → Type 0
NoDefaults [] = Unit {0}
NoDefaults (a ∷ rest) = (a.defaults ≡ []) × NoDefaults rest

no_default : (a : Rule) (rows : List Row) → a.defaults ≡ [] → with_default rows a ≡ rows
no_default a rows e = go (has_row a.id rows) refl
  where
    go : (t : Bool) → has_row a.id rows ≡ t → with_default rows a ≡ rows
    go true h = rw h refl
    go false h = rw (h, e) refl

no_defaults : (rules : List Rule) (rows : List Row) → NoDefaults rules → fold with_default rows rules ≡ rows
unfolding NoDefaults
no_defaults [] rows h = refl
no_defaults (a ∷ rest) rows h = rw (no_default a rows h.0) (no_defaults rest rows h.1)

at_end : (rows : List Row) → fold with_default rows top.rules ≡ rows
unfolding NoDefaults
at_end rows = no_defaults top.rules rows (refl, (refl, (refl, (refl, (refl, tt)))))

none_before : (o : Option Text) → or_value o None ≡ o
none_before None = refl
none_before (Some v) = refl

module _ (w : Word) (x : ℕ) (xs : List ℕ) (plain : nat_eq x 45 ≡ false) (options : List Word) (taken : are_options solve_options options ≡ true) where
  fresh : IsFresh top 2 [] (codes "deck") options
  fresh = record {
    now = refl;
    unread = λ name named. refl;
    unheld = λ name named. false_unless (bytes_eq (codes "deck") name) (λ same.
        let again : is_named (codes "--deck") options ≡ true = subst (λ (n : Text). is_named (dashed n) options ≡ true) (sym ((bytes_eq-Decides (codes "deck") name).0 same)) named in
        sym (not_deck options taken) ∙ again);
  }

  ends : Ends top 2 [] (codes "deck") (x ∷ xs) options
  ends = option_ends top 2 solve_options option_known options taken [] (codes "deck") (x ∷ xs) deck_value fresh

  walk_ends : fold (walked top.rules []) (walk_from nothing_held) ((x ∷ xs) ∷ options) ≡ between top 2 ends.rows_then ends.id_then ends.v_then
  walk_ends = rw (deck_read x xs plain) ends.walk

  pub found : (name : Text) → first_of name (matches_of solve_command (w ∷ (x ∷ xs) ∷ options)) ≡ or_value (value_of (dashed name) options) (look name (codes "deck") (x ∷ xs) [])
  found name = rw (walk_ends, at_end (settled_rows top.rules (Some (ends.id_then, ends.v_then ∷ [])) ends.rows_then)) (then_found top 2 ends.rows_then ends.id_then ends.v_then ends.value ends.now name ∙ ends.looks name)

  pub is_taken : takes solve_command (w ∷ (x ∷ xs) ∷ options) ≡ true
  is_taken =
      let settle : settle_passes top.rules top.args_override_self (held_at top 2 ends.rows_then ends.id_then ends.v_then) ≡ true = ends.value.passes ends.rows_then ends.v_then ∙ ap not ends.now in
      rw (walk_ends, deck_passes x xs options plain ends.passes, settle) refl

-- ---- from words

-- a line of this command
record SolveCase (words : List Word) : Type 0 where
  first : Word
  x : ℕ
  xs : List ℕ
  options : List Word
  is : words ≡ first ∷ (x ∷ xs) ∷ options
  plain : nat_eq x 45 ≡ false
  taken : are_options solve_options options ≡ true
  line : solve_of words ≡ Some (solve_line (x ∷ xs) options)

solve_case : (words : List Word) → is_some (solve_of words) ≡ true → SolveCase words
solve_case [] h = cc
solve_case (first ∷ []) h = cc
solve_case (first ∷ [] ∷ options) h =
    let none : false ≡ true = (three {a = bytes_eq first (codes "solve")} {b = false} {c = are_options solve_options options} (holds (bytes_eq first (codes "solve") && false && are_options solve_options options) (solve_line [] options) h)).1 in
    cc
solve_case (first ∷ (x ∷ xs) ∷ options) h =
    let all = holds (bytes_eq first (codes "solve") && is_plain (x ∷ xs) && are_options solve_options options) (solve_line (x ∷ xs) options) h in
    let parts = three {a = bytes_eq first (codes "solve")} {b = is_plain (x ∷ xs)} {c = are_options solve_options options} all in
    record { first = first; x = x; xs = xs; options = options; is = refl; plain = not_true parts.1; taken = parts.2; line = rw all refl }

pub solve_found : (words : List Word) (f : Found) → is_some (solve_of words) ≡ true → rows_of f ≡ matches_of solve_command words → IfSome (solve_of words) (FoundSolve f)
solve_found words f h rows =
    let case = solve_case words h in
    let rows2 : rows_of f ≡ matches_of solve_command (case.first ∷ (case.x ∷ case.xs) ∷ case.options) = rows ∙ ap (matches_of solve_command) case.is in
    let at : (name : Text) → first_value f name ≡ or_value (value_of (dashed name) case.options) (look name (codes "deck") (case.x ∷ case.xs) []) =
    λ name. value_found name f ∙ (ap (first_of name) rows2 ∙ found case.first case.x case.xs case.plain case.options case.taken name) in
    rw case.line (record {
      deck = at (codes "deck") ∙ ap (λ o. or_value o (Some (case.x ∷ case.xs))) (no_value (codes "--deck") case.options (not_deck case.options case.taken));
      nodes = at (codes "nodes") ∙ none_before (value_of (codes "--nodes") case.options);
      pivots = at (codes "pivots") ∙ none_before (value_of (codes "--pivots") case.options);
      tree = at (codes "tree") ∙ none_before (value_of (codes "--tree") case.options);
    })

pub solve_taken : (words : List Word) → is_some (solve_of words) ≡ true → takes solve_command words ≡ true
solve_taken words h =
    let case = solve_case words h in
    ap (takes solve_command) case.is ∙ is_taken case.first case.x case.xs case.plain case.options case.taken
