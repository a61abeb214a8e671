-- Settings that are made of numbers, without a file.
use Rattle.std.specs.Prelude.{ℕ, List, [], ◌∷◌, map, decimal, None}
use Rattle.std.specs.FinMap.{from_entries}
use Rattle.codeword.specs.declared.functions.Function.{Function}
use Rattle.subscribers.specs.Entries.{Listed}
use Rattle.subscribers.specs.Parts.{Parts}

-- a number with its capcode and function: its id is the decimal digits of the number, without zeros in front
abbrev pub numbered : (ℕ × ℕ × Function) → Listed
numbered n = (decimal n.0, record { function = n.2; capcodes = n.1 ∷ [] })

-- these cells, no password, and the ids of these numbers
abbrev pub made_parts : ℕ → List (ℕ × ℕ × Function) → Parts
made_parts cells numbers = record { cells = cells; password = None; ids = from_entries (map numbered numbers) }

-- the numbers alone
abbrev pub numbers_of : List (ℕ × ℕ × Function) → List ℕ
numbers_of numbers = map (λ n. n.0) numbers
