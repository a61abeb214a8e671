-- The codeword of a front, computed. The law `one_word` says which it is.
use Rattle.std.specs.Prelude.{◌≡◌, ℕ, zero, suc, ◌+◌, ◌*◌, ◌/◌, ◌%◌, ◌^◌, ◌<◌}
use Rattle.bch31.specs.Codeword.{IsCodeword, front_of}
use Rattle.bch31.specs.Division.{remainder}

-- how many of the k lowest bits of a number are ones
unfoldable pub ones_among : ℕ → ℕ → ℕ
ones_among zero n = 0
ones_among (suc k) n = n % 2 + ones_among k (n / 2)

-- 31 bits, and the bit that makes the number of ones even
abbrev pub with_parity : ℕ → ℕ
with_parity s = s * 2 + ones_among 31 s % 2

-- the codeword whose first 21 bits are d
unfoldable pub word_of : ℕ → ℕ
word_of d = with_parity (d * 2 ^ 10 + remainder 31 (d * 2 ^ 10))

-- d is the front of exactly one codeword, and `word_of d` is it
pub record HasOneWord (d : ℕ) : Type 0 where
  pub codeword : IsCodeword (word_of d)
  pub front : front_of (word_of d) ≡ d
  pub only : (w : ℕ) → IsCodeword w → front_of w ≡ d → w ≡ word_of d

-- each number below 2 ^ 21 is the front of exactly one codeword
abbrev pub OneWord : Type 0
OneWord = (d : ℕ) → d < 2 ^ 21 → HasOneWord d
