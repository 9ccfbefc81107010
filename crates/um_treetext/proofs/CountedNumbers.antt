-- This many numbers, read one behind the other.
use Rattle.std.proofs.Common.{◌≡◌, ℕ, suc, ℤ, List, [], ◌∷◌, ◌++◌, Ok, Err, refl, append_assoc, append-nil}
use Rattle.um_num.specs.Numbers.{then_step}
use Rattle.um_treetext.specs.declared.fault.TreeWord.{TreeWord}
use Rattle.um_treetext.specs.FrontLines.{numbers}
use Rattle.um_treetext.specs.Words.{Words, Says, Taken, next_word, taking, whole_word}

abbrev put_before : List ℤ → Says (Taken (List ℤ)) → Says (Taken (List ℤ))
put_before read said = then_step said (λ more. Ok (record { value = read ++ more.value; left = more.left }))

-- what this many more numbers say behind those that were read
abbrev pub numbers_behind : List ℤ → ℕ → Words → Says (Taken (List ℤ))
numbers_behind read n ws = put_before read (numbers n ws)

put_before_none : (said : Says (Taken (List ℤ))) → said ≡ put_before [] said
put_before_none (Ok t) = refl
put_before_none (Err f) = refl

-- before the first
pub none_read : (n m : ℕ) (ws : Words) → m ≡ n → numbers n ws ≡ numbers_behind [] m ws
none_read n m ws is = rw is (put_before_none (numbers n ws))

put_before_one : (read : List ℤ) (z : ℤ) (said : Says (Taken (List ℤ))) → put_before read (put_before (z ∷ []) said) ≡ put_before (read ++ z ∷ []) said
put_before_one read z (Ok t) = rw (append_assoc read (z ∷ []) t.value) refl
put_before_one read z (Err f) = refl

-- after one more
pub one_read : (read : List ℤ) (n m : ℕ) (ws left : Words) (word : List ℕ) (z : ℤ) → m ≡ suc n → next_word ws ≡ Ok (record { value = word; left = left }) → Ok z ≡ whole_word word → numbers_behind read m ws ≡ numbers_behind (read ++ z ∷ []) n left
unfolding numbers taking
one_read read n m ws left word z count next says = rw (count, next, ← says) (put_before_one read z (numbers n left))

-- no word where one more is to come
pub no_word : (read : List ℤ) (n m : ℕ) (ws : Words) (fault : TreeWord) → m ≡ suc n → next_word ws ≡ Err fault → numbers_behind read m ws ≡ Err fault
unfolding numbers taking
no_word read n m ws fault count next = rw (count, next) refl

-- a word that is no number
pub no_number : (read : List ℤ) (n m : ℕ) (ws left : Words) (word : List ℕ) (fault : TreeWord) → m ≡ suc n → next_word ws ≡ Ok (record { value = word; left = left }) → Err fault ≡ whole_word word → numbers_behind read m ws ≡ Err fault
unfolding numbers taking
no_number read n m ws left word fault count next says = rw (count, next, ← says) refl

-- after the last
pub all_numbers_read : (read : List ℤ) (m : ℕ) (ws : Words) → m ≡ 0 → numbers_behind read m ws ≡ Ok (record { value = read; left = ws })
unfolding numbers
all_numbers_read read m ws none = rw (none, append-nil read) refl
