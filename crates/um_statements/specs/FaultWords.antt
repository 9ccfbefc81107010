-- The words of faults.
use Rattle.std.specs.Prelude.{ℕ, List, codes}
use Rattle.um_statements.specs.declared.fault.Fault.{Fault}
use Rattle.um_statements.specs.declared.fault.Fault.TheVariants as fault

-- the word that says why a text is no deck, in bytes
abbrev pub fault_word : Fault → List ℕ
fault_word fault.TooLong = codes "TooLong"
fault_word fault.NoEnd = codes "NoEnd"
fault_word fault.UnknownSection = codes "UnknownSection"
fault_word fault.SectionOrder = codes "SectionOrder"
fault_word fault.BadWords = codes "BadWords"
fault_word fault.UnknownKind = codes "UnknownKind"
fault_word fault.BadNumber = codes "BadNumber"
fault_word fault.TooWide = codes "TooWide"
fault_word fault.UnknownRow = codes "UnknownRow"
fault_word fault.UnknownColumn = codes "UnknownColumn"
fault_word fault.TwiceRow = codes "TwiceRow"
fault_word fault.TwiceColumn = codes "TwiceColumn"
fault_word fault.TwiceEntry = codes "TwiceEntry"
fault_word fault.TwiceSet = codes "TwiceSet"
fault_word fault.TwiceMember = codes "TwiceMember"
fault_word fault.NoObjective = codes "NoObjective"
fault_word fault.Marker = codes "Marker"
fault_word fault.SemiInteger = codes "SemiInteger"
fault_word fault.ArcRow = codes "ArcRow"
fault_word fault.TooMany = codes "TooMany"
fault_word fault.TooFine = codes "TooFine"
fault_word fault.TooLarge = codes "TooLarge"
fault_word fault.SemiLower = codes "SemiLower"
fault_word fault.CrossedBounds = codes "CrossedBounds"
fault_word fault.NotFinite = codes "NotFinite"
fault_word fault.LowerNotZero = codes "LowerNotZero"
fault_word fault.ArcInSet = codes "ArcInSet"
fault_word fault.EmptySet = codes "EmptySet"
fault_word fault.TwiceWeight = codes "TwiceWeight"
fault_word fault.NotYet = codes "NotYet"
fault_word fault.Memory = codes "Memory"
