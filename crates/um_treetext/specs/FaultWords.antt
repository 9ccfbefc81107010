-- The words of the faults of trees.
use Rattle.std.specs.Prelude.{ℕ, List, codes}
use Rattle.um_treetext.specs.declared.fault.TreeWord.{TreeWord}
use Rattle.um_treetext.specs.declared.fault.TreeWord.TheVariants as fault

-- the word that says why a text is refused as a tree, in bytes
abbrev pub tree_fault_word : TreeWord → List ℕ
tree_fault_word fault.NoEnd = codes "NoEnd"
tree_fault_word fault.BadWord = codes "BadWord"
tree_fault_word fault.BadNumber = codes "BadNumber"
tree_fault_word fault.TooWide = codes "TooWide"
tree_fault_word fault.WrongDeck = codes "WrongDeck"
tree_fault_word fault.BadNode = codes "BadNode"
tree_fault_word fault.TooMany = codes "TooMany"
tree_fault_word fault.Memory = codes "Memory"
