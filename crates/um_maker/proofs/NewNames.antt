-- A name that has no place is new to a map.
use Rattle.std.proofs.Common.{◌≡◌, false, [], ◌∷◌, ◌++◌, Option, None, Some, refl, sym, ap, ◌∙◌, true≢false, is_some}
use Rattle.std.specs.Str.{bytes_eq}
use Rattle.indexmap.specs.IndexMap.{IndexMap, insert_entry}
use Rattle.indexmap.proofs.CallerLemmas.{insert_entry-new}
use Rattle.indexmap.proofs.MapLemmas.{some_index}
use Rattle.um_statements.specs.Statements.{Name}
use Rattle.um_maker.specs.NamedLists.{place_of}

none_of : {A : Type 0} (o : Option A) → is_some o ≡ false → o ≡ None
none_of None e = refl
none_of (Some x) e = absurd (true≢false e)

pub goes_last : {V S : Type 0} (m : IndexMap Name V S) (name key : Name) (v : V) → key ≡ name → place_of m.entries name ≡ None
    → insert_entry bytes_eq m.entries key v ≡ m.entries ++ (name, v) ∷ []
goes_last m name key v same none =
    rw same (insert_entry-new bytes_eq m name v (none_of _ (sym (some_index (bytes_eq name) m.entries) ∙ ap is_some none)))
