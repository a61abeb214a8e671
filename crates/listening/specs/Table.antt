-- The table of the sync words and slots that are heard. docs/profile.md, "table".
use Rattle.std.specs.Prelude.{◌≡◌, ℕ, zero, suc, ◌+◌, ◌/◌, ◌%◌, ◌^◌, ◌==◌, ◌≤◌, if◌then◌else◌, Bool, List, [], ◌∷◌, ◌++◌, length, codes, decimal, Option, Some, None}
use Rattle.bch31.specs.Fix.{fix_of}
use Rattle.codeword.specs.declared.kinds.WordKind.{WordKind}
use Rattle.codeword.specs.declared.kinds.WordKind.TheVariants.{Address, Message}
use Rattle.codeword.specs.declared.words.TheConstants.{IDLE}
use Rattle.codeword.specs.Functions.{letter_of}
use Rattle.codeword.specs.Kinds.{kind_of}
use Rattle.page_text.specs.Line.{decimal_digits, hex_digit}
use Rattle.receiver.specs.Fronts.{FrontEnd, FrontStandsFor}
use Rattle.codeword.specs.Capcodes.{capcode_at}
use Rattle.receiver.specs.Slots.{Batch, TableEntry, Slot, entries}

-- the k lowest hexadecimal digits of a number, the highest first, in capitals
abbrev pub hex_digits : ℕ → ℕ → List ℕ
hex_digits zero n = []
hex_digits (suc k) n = hex_digit (n / 16 ^ k % 16) ∷ hex_digits k n

-- what an address word in a slot or a message word carries
abbrev pub kind_text : ℕ → Option WordKind → List ℕ
kind_text place None = []
kind_text place (Some (Address high function)) = codes "address " ++ decimal_digits 7 (capcode_at place high) ++ codes " " ++ letter_of function ∷ []
kind_text place (Some (Message group)) = codes "message " ++ hex_digits 5 group

-- what a word says in a slot: bad where no codeword is within two bits, idle where the corrected word is the idle word
abbrev pub word_text : ℕ → ℕ → Option ℕ → List ℕ
word_text place word None = codes "bad"
word_text place word (Some corrected) = if corrected == IDLE then codes "idle" else kind_text place (kind_of word)

-- the line of a slot: its place in two digits, and what its word says
abbrev pub slot_line : ℕ → ℕ → List ℕ
slot_line place word = decimal_digits 2 place ++ codes " " ++ word_text place word (fix_of word) ++ codes "\n"

-- the line of a sync word, which says how many there are up to it
abbrev pub batch_line : ℕ → List ℕ
batch_line n = codes "batch " ++ decimal n ++ codes "\n"

-- the lines of entries, behind n sync words
abbrev pub entry_lines : ℕ → List TableEntry → List ℕ
entry_lines n [] = []
entry_lines n (Batch ∷ rest) = batch_line (n + 1) ++ entry_lines (n + 1) rest
entry_lines n (Slot place word ∷ rest) = slot_line place word ++ entry_lines n rest

-- the table of a list of bits
abbrev pub table_of : List Bool → List ℕ
table_of bits = entry_lines 0 (entries bits)

-- how many sync words are among the entries
abbrev pub batches_in : List TableEntry → ℕ
batches_in [] = 0
batches_in (Batch ∷ rest) = suc (batches_in rest)
batches_in (Slot place word ∷ rest) = batches_in rest

-- A front end was fed these bits, and so many sync words came.
pub record TableStandsFor (front : FrontEnd) (batches : ℕ) (bits : List Bool) : Type 0 where
  pub front_is : FrontStandsFor front bits
  pub batches_are : batches ≡ batches_in (entries bits)
  pub few : batches ≤ length bits
