-- The 64 subscribers. docs/profile.md, "load mode".
use Rattle.std.specs.Prelude.{ℕ, zero, suc, ◌+◌, ◌*◌, ◌%◌, List, map}
use Rattle.std.specs.List.{range_with_len}
use Rattle.codeword.specs.declared.functions.Function.{Function}
use Rattle.codeword.specs.declared.functions.Function.TheVariants.{Numeric, Tone1, Tone2, Alpha}
use Rattle.subscribers.specs.Made.{made_parts}
use Rattle.subscribers.specs.Parts.{Parts}

-- the number whose digits are the id of a subscriber, by the subscriber's number from 0
abbrev pub id_number : ℕ → ℕ
id_number i = 5550000 + i

-- its capcode
abbrev pub capcode_number : ℕ → ℕ
capcode_number i = 1000 + 37 * i

-- its function: the four in turn
abbrev pub function_in_turn : ℕ → Function
function_in_turn zero = Numeric
function_in_turn (suc zero) = Tone1
function_in_turn (suc (suc zero)) = Tone2
function_in_turn (suc (suc (suc k))) = Alpha

abbrev pub function_number : ℕ → Function
function_number i = function_in_turn (i % 4)

-- how many cells the pool has
abbrev pub load_cells : ℕ
load_cells = 65536

-- so many of the subscribers
abbrev pub subscribers_before : ℕ → List (ℕ × ℕ × Function)
subscribers_before n = map (λ i. (id_number i, capcode_number i, function_number i)) (range_with_len 0 n)

-- the settings of all 64
unfoldable pub load_settings : Parts
load_settings = made_parts load_cells (subscribers_before 64)

-- the capcodes of so many of them
abbrev pub capcodes_before : ℕ → List ℕ
capcodes_before n = map capcode_number (range_with_len 0 n)

-- the capcodes of all 64
unfoldable pub load_capcodes : List ℕ
load_capcodes = capcodes_before 64

-- a number for each of so many of their receivers, from 1, with its capcode
abbrev pub receivers_before : ℕ → List (ℕ × ℕ)
receivers_before n = map (λ i. (i + 1, capcode_number i)) (range_with_len 0 n)
