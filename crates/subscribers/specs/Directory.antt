-- What ids stand for.
use Rattle.std.specs.Prelude.{ℕ, List, Option}
use Rattle.std.specs.FinMap.{get}
use Rattle.subscribers.specs.Parts.{Parts, Target}

-- what an id stands for, or none
abbrev pub Directory : Type 0
Directory = List ℕ → Option Target

-- the directory of settings
abbrev pub directory_of : Parts → Directory
directory_of settings id = get settings.ids id
