-- Receivers with numbers from 1 to 64, each with a set of capcodes.
use Rattle.std.specs.Prelude.{ℕ, zero, suc, ◌==◌, ◌%◌, Bool, false, ◌&&◌, List, slice_index_or, filter, Option, Some, None}
use Rattle.std.specs.List.{list_any, range_with_len}
use Rattle.std.specs.Map.{lookup}
use Rattle.std.specs.Int.{bit_at}
use Rattle.receiver.specs.declared.marks.TheConstants.{MARKS}

-- the receiver of this number is paired with this capcode
abbrev pub is_paired : List (ℕ × ℕ) → ℕ → ℕ → Bool
is_paired pairs number capcode = list_any (λ pair. (pair.0 == number) && (pair.1 == capcode)) pairs

-- a capcode is paired with some number
abbrev pub is_listed : List (ℕ × ℕ) → ℕ → Bool
is_listed pairs capcode = list_any (λ pair. pair.1 == capcode) pairs

-- the most receivers
abbrev pub most_receivers : ℕ
most_receivers = 64

-- the numbers of the receivers that have this capcode, in ascending order. `has` says whether a receiver, by its number, has a capcode
unfoldable pub numbers_with : (ℕ → ℕ → Bool) → ℕ → List ℕ
numbers_with has capcode = filter (λ number. has number capcode) (range_with_len 1 most_receivers)

-- a number is in a set of numbers from 1, which a number's bits give: the lowest bit is for 1
abbrev pub is_in_set : ℕ → ℕ → Bool
is_in_set set zero = false
is_in_set set (suc n) = bit_at set n == 1

-- the same, of a set or none
abbrev pub is_in_some : Option ℕ → ℕ → Bool
is_in_some None number = false
is_in_some (Some set) number = is_in_set set number

-- the receiver of this number has this capcode, where each capcode has the set of its receivers' numbers
abbrev pub has_in : List (ℕ × ℕ) → ℕ → ℕ → Bool
has_in holders number capcode = is_in_some (lookup (λ c. c == capcode) holders) number

-- so many numbers from a start on, those that are in a set, in ascending order
unfoldable pub numbers_from : ℕ → ℕ → ℕ → List ℕ
numbers_from set start count = filter (is_in_set set) (range_with_len start count)

-- the numbers from 1 to 64 in a set, in ascending order
abbrev pub numbers_in : ℕ → List ℕ
numbers_in set = numbers_from set 1 most_receivers

-- a number has a mark: the one at the place that its twelve lowest bits say
abbrev pub is_marked : List Bool → ℕ → Bool
is_marked marks number = slice_index_or marks (number % MARKS) false
