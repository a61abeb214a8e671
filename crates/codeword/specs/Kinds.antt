-- What a word says.
use Rattle.std.specs.Prelude.{◌≡◌, ℕ, ◌+◌, ◌-◌, ◌*◌, ◌/◌, ◌%◌, ◌^◌, ◌<◌, ◌↔◌, ◌==◌, Bool, true, false, nat_lt, Option, Some, option_map}
use Rattle.bch31.specs.Codeword.{front_of}
use Rattle.bch31.specs.Fix.{IsFix, fix_of}
use Rattle.codeword.specs.declared.functions.Function.{Function}
use Rattle.codeword.specs.declared.functions.Function.TheVariants.{Numeric, Tone1, Tone2, Alpha}
use Rattle.codeword.specs.declared.kinds.WordKind.{WordKind}
use Rattle.codeword.specs.declared.kinds.WordKind.TheVariants.{Address, Message}
use Rattle.codeword.specs.Capcodes.{high_of}
use Rattle.codeword.specs.Functions.{number_of}
use Rattle.codeword.specs.Words.{address_of, message_of}

-- The high bits of a capcode have 18 bits, and a group has 20.
abbrev pub IsSmall : WordKind → Type 0
IsSmall (Address high function) = high < 2 ^ 18
IsSmall (Message group) = group < 2 ^ 20

-- The first 21 bits of a word of this kind: 0, the high bits and the two bits of the function; or 1 and the group.
abbrev pub front_for : WordKind → ℕ
front_for (Address high function) = high * 2 ^ 2 + number_of function
front_for (Message group) = 2 ^ 20 + group

-- The codeword within two bits of the word is one of this kind.
pub record IsKind (word : ℕ) (kind : WordKind) : Type 0 where
  pub codeword : ℕ
  pub fix : IsFix word codeword
  pub front : front_of codeword ≡ front_for kind
  pub small : IsSmall kind

-- the function that has this number, found by three tests on the number
abbrev pub function_with : Bool → Bool → Bool → Function
function_with true b c = Numeric
function_with false true c = Tone1
function_with false false true = Tone2
function_with false false false = Alpha

-- the function that has this number
abbrev pub function_of : ℕ → Function
function_of n = function_with (n == 0) (n == 1) (n == 2)

-- an address where bit 1 is 0, and a message where it is 1
abbrev pub kind_with : Bool → ℕ → WordKind
kind_with true front = Address (front / 2 ^ 2) (function_of (front % 2 ^ 2))
kind_with false front = Message (front - 2 ^ 20)

-- the kind of the word with these first 21 bits
abbrev pub kind_from : ℕ → WordKind
kind_from front = kind_with (nat_lt front (2 ^ 20)) front

-- the kind of the codeword within two bits of the word, or none
unfoldable pub kind_of : ℕ → Option WordKind
kind_of word = option_map (λ v. kind_from (front_of v)) (fix_of word)

-- `kind_of` gives exactly the kind of the codeword within two bits
abbrev pub KindOfIsKind : Type 0
KindOfIsKind = (word : ℕ) (kind : WordKind) → word < 2 ^ 32 → (kind_of word ≡ Some kind) ↔ IsKind word kind

-- A word within two bits of an address word is an address with the high bits of the capcode and the function.
abbrev pub AddressesAreRead : Type 0
AddressesAreRead =
    (word capcode : ℕ) (function : Function) → word < 2 ^ 32 → capcode < 2 ^ 21 → IsFix word (address_of capcode function)
    → kind_of word ≡ Some (Address (high_of capcode) function)

-- A word within two bits of a message word is a message with the group.
abbrev pub MessagesAreRead : Type 0
MessagesAreRead = (word group : ℕ) → word < 2 ^ 32 → group < 2 ^ 20 → IsFix word (message_of group) → kind_of word ≡ Some (Message group)
