-- What the plain search looks for. Only the tests call it.
use Rattle.std.specs.Prelude.{ℕ, ◌^◌, ◌<◌, ◌≤◌, bit_xor, count_ones}
use Rattle.bch31.specs.Codeword.{IsCodeword}

-- v is a codeword that differs from w only among the k lowest bits, and there in at most n
pub record IsNear (w v k n : ℕ) : Type 0 where
  pub codeword : IsCodeword v
  pub low : bit_xor w v < 2 ^ k
  pub few : count_ones (bit_xor w v) ≤ n
