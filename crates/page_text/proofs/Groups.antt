-- The groups of a text by their bits.
use Rattle.std.proofs.Common.{◌≡◌, ℕ, zero, suc, ◌+◌, ◌*◌, ◌/◌, ◌%◌, ◌^◌, ◌<◌, ◌≤◌, Bool, false, ◌==◌, List, [], ◌∷◌, ◌++◌, length, take, drop, replicate, get_or, refl, sym, ◌∙◌, ap, arith, length-append, length-drop}
use Rattle.std.proofs.Math.Nat.{pow-suc, div-div-eq-div-mul, mul_comm}
use Rattle.std.proofs.Math.Pow.{pow_mono}
use Rattle.std.proofs.lemmas.List.{length-take, get_or-drop, get_or-replicate, length-replicate, take_more}
use Rattle.bits.specs.Bits.{rising_bits_of, bit_value, number}
use Rattle.bits.proofs.Lengths.{length-rising_bits_of}
use Rattle.bits.proofs.Numbers.{bit_value-eqb, number-lt, number-push}
use Rattle.page_text.specs.Groups.{code_bits, group_count, groups_of}
use Rattle.page_text.proofs.RunTogether.{length-flat_map, get_or-flat_map, length-pieces, get_or-pieces}

-- bit i of a number, the least significant first
abbrev pub bit_at : ℕ → ℕ → Bool
bit_at n i = n / 2 ^ i % 2 == 1

-- a bit among the lowest of a number
pub get_or-rising_bits_of : (w n i : ℕ) → i < w → get_or (rising_bits_of w n) i false ≡ bit_at n i
unfolding rising_bits_of
get_or-rising_bits_of zero n i l = absurd (omega (arith, l))
get_or-rising_bits_of (suc w) n zero l = let e : n / 2 ^ 0 ≡ n = omega arith in ap (λ m. m % 2 == 1) (sym e)
get_or-rising_bits_of (suc w) n (suc i) l =
    let e : n / 2 / 2 ^ i ≡ n / 2 ^ suc i = div-div-eq-div-mul n 2 (2 ^ i) ∙ ap (λ m. n / m) (mul_comm 2 (2 ^ i) ∙ sym (pow-suc 2 i)) in
    get_or-rising_bits_of w (n / 2) i (omega (arith, l)) ∙ ap (λ m. m % 2 == 1) e

-- each code has w bits
pub length-code_bits : (w : ℕ) (codes : List ℕ) → length (code_bits w codes) ≡ length codes * w
length-code_bits w codes = length-flat_map (rising_bits_of w) w (length-rising_bits_of w) codes

-- a bit of codes run together is a bit of one of them
pub get_or-code_bits : (w : ℕ) (codes : List ℕ) (i : ℕ) → 0 < w → i < length codes * w
    → get_or (code_bits w codes) i false ≡ bit_at (get_or codes (i / w) 0) (i % w)
get_or-code_bits w codes i p l =
    get_or-flat_map (rising_bits_of w) w (length-rising_bits_of w) codes i p l
    ∙ get_or-rising_bits_of w (get_or codes (i / w) 0) (i % w) (within i w p)
  where
    within : (i w : ℕ) → 0 < w → i % w < w
    within i w p = grind arith

-- how many bits there are with the fill
pub length-filled_bits : (w fill : ℕ) (codes : List ℕ) → length (code_bits w (codes ++ replicate 20 fill)) ≡ (length codes + 20) * w
length-filled_bits w fill codes =
    length-code_bits w (codes ++ replicate 20 fill)
    ∙ ap (λ n. n * w) (length-append codes (replicate 20 fill) ∙ ap (λ n. length codes + n) (length-replicate 20 fill))

-- behind the codes stands the fill
pub get_or-filled : (codes : List ℕ) (fill i : ℕ) → i < length codes + 20 → get_or (codes ++ replicate 20 fill) i 0 ≡ get_or codes i fill
get_or-filled [] fill i l = get_or-replicate 20 i fill 0 (omega (arith, l))
get_or-filled (c ∷ codes) fill zero l = refl
get_or-filled (c ∷ codes) fill (suc i) l = get_or-filled codes fill i (omega (arith, l))

-- a bit of codes and the fill, as a number
pub bit_value-filled_bits : (w fill : ℕ) (codes : List ℕ) (i : ℕ) → 0 < w → i < (length codes + 20) * w
    → bit_value (get_or (code_bits w (codes ++ replicate 20 fill)) i false) ≡ get_or codes (i / w) fill / 2 ^ (i % w) % 2
bit_value-filled_bits w fill codes i p l =
    let size : length (codes ++ replicate 20 fill) ≡ length codes + 20 =
    length-append codes (replicate 20 fill) ∙ ap (λ n. length codes + n) (length-replicate 20 fill) in
    let within : i < length (codes ++ replicate 20 fill) * w = rw size l in
    ap bit_value
    (get_or-code_bits w (codes ++ replicate 20 fill) i p within
    ∙ ap (λ c. bit_at c (i % w)) (get_or-filled codes fill (i / w) (quotient i (length codes + 20) w p l)))
    ∙ bit_value-eqb (get_or codes (i / w) fill / 2 ^ (i % w) % 2) (omega arith)
  where
    quotient : (i n w : ℕ) → 0 < w → i < n * w → i / w < n
    quotient i n w p l = grind arith

-- how many groups a text has
pub length-groups_of : (w fill : ℕ) (codes : List ℕ) → length (groups_of w fill codes) ≡ group_count w (length codes)
unfolding groups_of
length-groups_of w fill codes = length-pieces number 20 (group_count w (length codes)) (code_bits w (codes ++ replicate 20 fill))

-- one group
pub get_or-groups_of : (w fill : ℕ) (codes : List ℕ) (k : ℕ) → k < group_count w (length codes)
    → get_or (groups_of w fill codes) k 0 ≡ number (take 20 (drop (20 * k) (code_bits w (codes ++ replicate 20 fill))))
unfolding groups_of
get_or-groups_of w fill codes k l = get_or-pieces number 20 (group_count w (length codes)) k (code_bits w (codes ++ replicate 20 fill)) l

-- at most k bits make a number below 2 ^ k
pub number-take-lt : (n j k : ℕ) (bits : List Bool) → n ≡ number (take j bits) → j ≤ k → n < 2 ^ k
number-take-lt n j k bits e l =
    let small = number-lt (take j bits) in
    let few : length (take j bits) ≤ k = omega (arith, length-take j bits, l) in
    let more : 2 ^ length (take j bits) ≤ 2 ^ k = pow_mono few in
    omega (arith, e, small, more)

-- a group has 20 bits
pub groups_of-lt : (w fill : ℕ) (codes : List ℕ) (k : ℕ) → k < group_count w (length codes) → get_or (groups_of w fill codes) k 0 < 2 ^ 20
groups_of-lt w fill codes k l =
    let bits : List Bool = drop (20 * k) (code_bits w (codes ++ replicate 20 fill)) in
    number-take-lt (get_or (groups_of w fill codes) k 0) 20 20 bits (get_or-groups_of w fill codes k l) (omega arith)

-- one bit more
pub number-take-more : (bits : List Bool) (from j : ℕ) → from + j < length bits
    → number (take (j + 1) (drop from bits)) ≡ number (take j (drop from bits)) * 2 + bit_value (get_or bits (from + j) false)
number-take-more bits from j l =
    ap number (take_more (drop from bits) j false (omega (arith, l, length-drop from bits)))
    ∙ number-push (take j (drop from bits)) (get_or (drop from bits) j false)
    ∙ ap (λ b. number (take j (drop from bits)) * 2 + bit_value b) (get_or-drop from bits j false)
