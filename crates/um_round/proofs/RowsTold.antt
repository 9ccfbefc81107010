-- What the lines of ROWS, and those before it, say.
use Rattle.std.proofs.Common.{◌≡◌, Bool, true, false, List, [], ◌∷◌, ◌++◌, map, Ok, refl, sym, ap, ◌∙◌, codes, subst}
use Rattle.um_model.specs.Values.{DeckValue}
use Rattle.um_model.specs.declared.deck.Row.{Row}
use Rattle.um_statements.specs.declared.parts.RowKind.{RowKind}
use Rattle.um_statements.specs.declared.parts.RowKind.TheVariants.{N, L, G, E}
use Rattle.um_statements.specs.Statements.{Name, Statement, Title, RowTold}
use Rattle.um_decktext.specs.declared.section.Section.TheVariants as section
use Rattle.um_decktext.specs.Words.{Words}
use Rattle.um_decktext.specs.DeckLines.{Line, Heading, Data, section_now, data_now}
use Rattle.um_statements.specs.Tells.{Says}
use Rattle.um_decktext.specs.Places.{place_of}
use Rattle.um_decktext.specs.LinesSay.{line_says, row_line}
use Rattle.um_make.specs.NormalLines.{title_words, sense_lines, sides_kind, kind_word, row_words, rows_data, front_lines}
use Rattle.um_round.proofs.NormalTold.{sense_told, row_told, rows_told, front_told}
use Rattle.um_round.proofs.LinesTold.{oks, said_by, said_in, each_append, oks-append, IsBehind, data_said, behind_all}

row_says : (kind : RowKind) (name : Name) → row_line (kind_word kind ∷ name ∷ []) ≡ Ok (RowTold kind name ∷ [])
row_says N name = refl
row_says L name = refl
row_says G name = refl
row_says E name = refl

rows_say : (rows : List Row) (words : List Words) → said_in section.Rows false words (map row_words rows) ≡ oks (map row_told rows)
rows_say [] words = refl
rows_say (r ∷ rows) words = rw (row_says (sides_kind r.low r.high) r.name, rows_say rows (words ++ row_words r ∷ [])) refl

-- the lines up to the heading ROWS
abbrev head_lines : Name → Bool → List Line
head_lines name maximise = Heading (title_words name) ∷ sense_lines maximise ++ Heading (codes "ROWS" ∷ []) ∷ []

abbrev head_told : Name → Bool → List (List Statement)
head_told name maximise = (Title name ∷ []) ∷ (sense_told maximise ++ [] ∷ [])

head_said : (name : Name) (maximise : Bool) → said_by [] (head_lines name maximise) ≡ oks (head_told name maximise)
unfolding line_says place_of section_now data_now
head_said [] true = refl
head_said [] false = refl
head_said (b ∷ bs) true = refl
head_said (b ∷ bs) false = refl

head_behind : (name : Name) (maximise : Bool) → IsBehind (head_lines name maximise) section.Rows [] false
unfolding section_now data_now
head_behind [] true = record { section = refl; lines = refl; rows_came = refl; columns_came = refl }
head_behind [] false = record { section = refl; lines = refl; rows_came = refl; columns_came = refl }
head_behind (b ∷ bs) true = record { section = refl; lines = refl; rows_came = refl; columns_came = refl }
head_behind (b ∷ bs) false = record { section = refl; lines = refl; rows_came = refl; columns_came = refl }

front_apart : (d : DeckValue) → front_lines d ≡ head_lines d.name d.maximise ++ map Data (rows_data d)
front_apart d = by d.maximise
  where
    by : (maximise : Bool) → Heading (title_words d.name) ∷ (sense_lines maximise ++ (Heading (codes "ROWS" ∷ []) ∷ map Data (rows_data d))) ≡ head_lines d.name maximise ++ map Data (rows_data d)
    by true = refl
    by false = refl

told_apart : (d : DeckValue) → front_told d ≡ head_told d.name d.maximise ++ rows_told d
told_apart d = by d.maximise
  where
    by : (maximise : Bool) → (Title d.name ∷ []) ∷ (sense_told maximise ++ ([] ∷ rows_told d)) ≡ head_told d.name maximise ++ rows_told d
    by true = refl
    by false = refl

pub front_said : (d : DeckValue) → said_by [] (front_lines d) ≡ oks (front_told d)
front_said d =
    let head = head_lines d.name d.maximise in
    let rows : said_by head (map Data (rows_data d)) ≡ oks (rows_told d) =
    data_said (rows_data d) head section.Rows [] false (head_behind d.name d.maximise)
    ∙ ap (λ (more : List Says). Ok (RowTold N d.objective_name ∷ []) ∷ more) (rows_say d.rows ((codes "N" ∷ d.objective_name ∷ []) ∷ [])) in
    ap (said_by []) (front_apart d)
    ∙ each_append (λ before line. line_says (place_of before) line ∷ []) [] head (map Data (rows_data d))
    ∙ ap (λ (xs : List Says). xs ++ said_by head (map Data (rows_data d))) (head_said d.name d.maximise)
    ∙ ap (λ (xs : List Says). oks (head_told d.name d.maximise) ++ xs) rows
    ∙ sym (oks-append (head_told d.name d.maximise) (rows_told d))
    ∙ sym (ap oks (told_apart d))

pub front_behind : (d : DeckValue) → IsBehind (front_lines d) section.Rows (rows_data d) false
front_behind d = subst (λ (ls : List Line). IsBehind ls section.Rows (rows_data d) false) (sym (front_apart d)) (behind_all (rows_data d) (head_lines d.name d.maximise) section.Rows [] false (head_behind d.name d.maximise))
