-- Pieces of which the first elements were taken.
use Rattle.std.specs.Prelude.{◌-◌, List, length, take}

-- what was taken of a list, where this is left of it
abbrev pub taken_of : {A : Type 0} → List A → List A → List A
taken_of old new = take (length old - length new) old
