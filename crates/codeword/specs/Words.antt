-- Address words and message words.
use Rattle.std.specs.Prelude.{ℕ, ◌+◌, ◌*◌, ◌^◌}
use Rattle.bch31.specs.Word.{word_of}
use Rattle.codeword.specs.declared.functions.Function.{Function}
use Rattle.codeword.specs.Capcodes.{high_of}
use Rattle.codeword.specs.Functions.{number_of}

-- The codeword of 0, the 18 high bits of the capcode, and the two bits of the function.
unfoldable pub address_of : ℕ → Function → ℕ
address_of capcode function = word_of (high_of capcode * 2 ^ 2 + number_of function)

-- The codeword of 1 and the 20 bits of the group.
unfoldable pub message_of : ℕ → ℕ
message_of group = word_of (2 ^ 20 + group)

-- 32 bits 1010..10 of a preamble
abbrev pub filler : ℕ
filler = 0xAAAAAAAA
