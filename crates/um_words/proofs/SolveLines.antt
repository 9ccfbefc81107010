-- The words of `solve` are a line exactly where they are the command, the deck and pairs in some order.
use Rattle.std.proofs.Common.{◌≡◌, ◌≢◌, suc, Bool, true, false, ◌&&◌, ◌||◌, not, List, [], ◌∷◌, Some, None, All, codes, refl, sym, subst, ap, ap₂, ◌∙◌, arith}
use Rattle.std.specs.Prelude.{if◌then◌else◌, bytes_eq}
use Rattle.std.proofs.lemmas.List.Elements.{All-cons, All-head, All-nil, All-tail}
use Rattle.std.proofs.lemmas.List.Kept.{AllPairs-cons}
use Rattle.std.proofs.lemmas.Slice.Eq.{bytes_eq-Decides}
use Rattle.um_words.specs.Words.{Word, is_plain, is_option, is_named, is_taken, are_options, value_of}
use Rattle.um_words.specs.SolveWords.{SolveLine, solve_line, solve_of, solve_options}
use Rattle.um_words.specs.WholeLines.{Pair, pair_words, IsPair, AreApart, value_in, IsWholeLine, SolveWordsLaw}
use Rattle.um_words.proofs.Walks.{both, three, not_true}

-- ---- from words to pairs

-- the pairs of words that are options
record IsPairs (options : List Word) (words : List Word) : Type 0 where
  pairs : List Pair
  is : words ≡ pair_words pairs
  each : All (IsPair options) pairs
  apart : AreApart pairs

-- an option that is not named among the words is none of the pairs'
other_options : (word : Word) (pairs : List Pair) → is_named word (pair_words pairs) ≡ false → All (λ (b : Pair). word ≢ b.option) pairs
other_options word [] h = All-nil _
other_options word (pair ∷ pairs) h = go (bytes_eq pair.option word) refl h (other_options word pairs)
  where
    go : (t : Bool) → bytes_eq pair.option word ≡ t → (bytes_eq pair.option word || is_named word (pair_words pairs)) ≡ false → (is_named word (pair_words pairs) ≡ false → All (λ (b : Pair). word ≢ b.option) pairs) → All (λ (b : Pair). word ≢ b.option) (pair ∷ pairs)
    go true e h others = let bad : true ≡ false = rw e at h in cc
    go false e h others =
        let rest : is_named word (pair_words pairs) ≡ false = rw e at h in
        All-cons (λ (b : Pair). word ≢ b.option) pair pairs (λ same. let bad : true ≡ false = sym ((bytes_eq-Decides pair.option word).1 (sym same)) ∙ e in cc) (others rest)

pairs_of : (options words : List Word) → are_options options words ≡ true → IsPairs options words
pairs_of options [] h = record { pairs = []; is = refl; each = All-nil _; apart = λ i j d less low. absurd (omega (arith, low)) }
pairs_of options (word ∷ []) h = cc
pairs_of options (word ∷ value ∷ others) h =
    let parts = both {a = is_taken options word value others} {b = are_options options others} h in
    let taken = three {a = is_option options word} {b = is_plain value} {c = not (is_named word others)} parts.0 in
    let rest = pairs_of options others parts.1 in
    let once : is_named word (pair_words rest.pairs) ≡ false = subst (λ (ws : List Word). is_named word ws ≡ false) rest.is (not_true taken.2) in
    let pair : Pair = record { option = word; value = value } in
    record {
      pairs = pair ∷ rest.pairs;
      is = ap (λ (ws : List Word). word ∷ value ∷ ws) rest.is;
      each = All-cons (IsPair options) pair rest.pairs (record { known = taken.0; plain = taken.1 }) rest.each;
      apart = AllPairs-cons (λ (a : Pair) (b : Pair). a.option ≢ b.option) pair rest.pairs (other_options word rest.pairs once) rest.apart;
    }

-- a value among the words is the value among the pairs
value_is : (option : Word) (pairs : List Pair) → value_of option (pair_words pairs) ≡ value_in option pairs
value_is option [] = refl
value_is option (pair ∷ pairs) = go (bytes_eq pair.option option) refl (value_is option pairs)
  where
    go : (t : Bool) → bytes_eq pair.option option ≡ t → value_of option (pair_words pairs) ≡ value_in option pairs → value_of option (pair_words (pair ∷ pairs)) ≡ value_in option (pair ∷ pairs)
    go true e rest = rw e refl
    go false e rest = rw e rest

-- ---- from pairs to words

unnamed : (word : Word) (pairs : List Pair) → All (λ (b : Pair). word ≢ b.option) pairs → is_named word (pair_words pairs) ≡ false
unnamed word [] h = refl
unnamed word (pair ∷ pairs) h = go (bytes_eq pair.option word) refl (unnamed word pairs (All-tail (λ (b : Pair). word ≢ b.option) pair pairs h))
  where
    go : (t : Bool) → bytes_eq pair.option word ≡ t → is_named word (pair_words pairs) ≡ false → is_named word (pair_words (pair ∷ pairs)) ≡ false
    go true e rest = absurd (All-head (λ (b : Pair). word ≢ b.option) pair pairs h (sym ((bytes_eq-Decides pair.option word).0 e)))
    go false e rest = rw e rest

-- the first pair's option is none of the others', and these are apart
head_apart : (pair : Pair) (pairs : List Pair) → AreApart (pair ∷ pairs) → All (λ (b : Pair). pair.option ≢ b.option) pairs
head_apart pair pairs h = λ k d low. h 0 (suc k) d (omega arith) (omega (arith, low))

tail_apart : (pair : Pair) (pairs : List Pair) → AreApart (pair ∷ pairs) → AreApart pairs
tail_apart pair pairs h = λ i j d less low. h (suc i) (suc j) d (omega (arith, less)) (omega (arith, low))

all_true : {a b c : Bool} → a ≡ true → b ≡ true → c ≡ false → (a && b && not c) ≡ true
all_true {a} {b} {c} p q r = rw (p, q, r) refl

pairs_are_options : (options : List Word) (pairs : List Pair) → All (IsPair options) pairs → AreApart pairs → are_options options (pair_words pairs) ≡ true
pairs_are_options options [] each apart = refl
pairs_are_options options (pair ∷ pairs) each apart =
    let here = All-head (IsPair options) pair pairs each in
    let taken : is_taken options pair.option pair.value (pair_words pairs) ≡ true = all_true here.known here.plain (unnamed pair.option pairs (head_apart pair pairs apart)) in
    let rest = pairs_are_options options pairs (All-tail (IsPair options) pair pairs each) (tail_apart pair pairs apart) in
    rw (taken, rest) refl

-- ---- the law

-- the line of words that are this command, and what they are
line_parts : (t : Bool) (found line : SolveLine) → (if t then Some found else None) ≡ Some line → (t ≡ true) × (found ≡ line)
line_parts true found line e = (refl, cc)
line_parts false found line e = cc

whole_line : (words : List Word) (line : SolveLine) → solve_of words ≡ Some line → IsWholeLine words line
whole_line [] line h = cc
whole_line (command ∷ []) line h = cc
whole_line (command ∷ deck ∷ options) line h =
    let found = line_parts (bytes_eq command (codes "solve") && is_plain deck && are_options solve_options options) (solve_line deck options) line h in
    let parts = three {a = bytes_eq command (codes "solve")} {b = is_plain deck} {c = are_options solve_options options} found.0 in
    let pairs = pairs_of solve_options options parts.2 in
    let values : (option : Word) → value_of option options ≡ value_in option pairs.pairs = λ option. ap (value_of option) pairs.is ∙ value_is option pairs.pairs in
    let same : command ≡ codes "solve" = (bytes_eq-Decides command (codes "solve")).0 parts.0 in
    subst (IsWholeLine (command ∷ deck ∷ options)) found.1 (record {
      pairs = pairs.pairs;
      is = ap₂ (λ (w : Word) (ws : List Word). w ∷ deck ∷ ws) same pairs.is;
      deck = parts.1;
      each = pairs.each;
      apart = pairs.apart;
      nodes = values (codes "--nodes");
      pivots = values (codes "--pivots");
      tree = values (codes "--tree");
    })

line_is : (deck : Word) (pairs : List Pair) → is_plain deck ≡ true → are_options solve_options (pair_words pairs) ≡ true → solve_of (codes "solve" ∷ deck ∷ pair_words pairs) ≡ Some (solve_line deck (pair_words pairs))
line_is deck pairs plain options = rw (plain, options) refl

same_line : (line : SolveLine) (pairs : List Pair) → line.nodes ≡ value_in (codes "--nodes") pairs → line.pivots ≡ value_in (codes "--pivots") pairs → line.tree ≡ value_in (codes "--tree") pairs → solve_line line.deck (pair_words pairs) ≡ line
same_line line pairs nodes pivots tree =
    rw (value_is (codes "--nodes") pairs ∙ sym nodes, value_is (codes "--pivots") pairs ∙ sym pivots, value_is (codes "--tree") pairs ∙ sym tree) refl

words_of_whole_line : (words : List Word) (line : SolveLine) → IsWholeLine words line → solve_of words ≡ Some line
words_of_whole_line words line h =
    let options = pairs_are_options solve_options h.pairs h.each h.apart in
    ap solve_of h.is ∙ (line_is line.deck h.pairs h.deck options ∙ ap Some (same_line line h.pairs h.nodes h.pivots h.tree))

pub solve_words_law : SolveWordsLaw
solve_words_law words line = (whole_line words line, words_of_whole_line words line)
