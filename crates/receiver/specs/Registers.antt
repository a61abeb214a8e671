-- The last bits of a list.
use Rattle.std.specs.Prelude.{◌-◌, Bool, List, length, drop}

-- the last 32 bits, or all
abbrev pub last_32 : List Bool → List Bool
last_32 bits = drop (length bits - 32) bits
