-- Codes and characters of groups, one by one, and the blanks at the end.
use Rattle.std.proofs.Common.{◌≡◌, ◌≢◌, ℕ, zero, suc, ◌+◌, ◌-◌, ◌*◌, ◌/◌, ◌%◌, ◌^◌, ◌<◌, ◌≤◌, Bool, false, ◌==◌, List, [], ◌∷◌, ◌++◌, length, take, drop, replicate, get_or, refl, sym, ◌∙◌, ap, ap₂, arith, eq-eqb, ne_eqb}
use Rattle.std.proofs.Math.Nat.{pow-suc, div-div-eq-div-mul, div-le_of_le-mul, div-mul-le_self, mul-le-mul_right, mul_comm}
use Rattle.std.proofs.Math.Pow.{pow_mono}
use Rattle.std.proofs.lemmas.List.{length-take, get_or_append_left, get_or-append_right, take_more, take_more_set, take_all}
use Rattle.std.specs.Prelude.{slice_set}
use Rattle.bits.specs.Bits.{bits_of, bit_value}
use Rattle.bits.proofs.Lengths.{length-bits_of}
use Rattle.bits.proofs.Numbers.{bit_value-eqb, bit_value-lt}
use Rattle.page_text.specs.declared.limits.TheConstants.{LONGEST_READ, MOST_GROUPS}
use Rattle.page_text.specs.Texts.{rising_number, group_bits, codes_of, kept, stripped}
use Rattle.page_text.proofs.Groups.{bit_at}
use Rattle.page_text.proofs.RunTogether.{length-flat_map, get_or-flat_map, length-pieces, get_or-pieces}

-- a bit among the k lowest of a number, of which j are lower
pub get_or-bits_of : (k n i j : ℕ) → i + j + 1 ≡ k → get_or (bits_of k n) i false ≡ bit_at n j
unfolding bits_of
get_or-bits_of zero n i j e = absurd (omega (arith, e))
get_or-bits_of (suc k) n i zero e =
    let place : i - k ≡ 0 = omega (arith, e) in
    let whole : n ≡ n / 2 ^ 0 = omega arith in
    get_or-append_right (bits_of k (n / 2)) ((n % 2 == 1) ∷ []) k i false (length-bits_of k (n / 2)) (omega (arith, e))
    ∙ ap (λ p. get_or ((n % 2 == 1) ∷ []) p false) place ∙ ap (λ m. m % 2 == 1) whole
get_or-bits_of (suc k) n i (suc j) e =
    let half : n / 2 / 2 ^ j ≡ n / 2 ^ suc j = div-div-eq-div-mul n 2 (2 ^ j) ∙ ap (λ m. n / m) (mul_comm 2 (2 ^ j) ∙ sym (pow-suc 2 j)) in
    get_or_append_left (bits_of k (n / 2)) ((n % 2 == 1) ∷ []) false i (omega (arith, e, length-bits_of k (n / 2)))
    ∙ get_or-bits_of k (n / 2) i j (omega (arith, e)) ∙ ap (λ m. m % 2 == 1) half

-- groups have 20 bits each
pub length-group_bits : (groups : List ℕ) → length (group_bits groups) ≡ length groups * 20
length-group_bits groups = length-flat_map (bits_of 20) 20 (length-bits_of 20) groups

-- a bit of groups, as a number
pub bit_value-group_bits : (groups : List ℕ) (i : ℕ) → i < 20 * length groups
    → bit_value (get_or (group_bits groups) i false) ≡ get_or groups (i / 20) 0 / 2 ^ (19 - i % 20) % 2
bit_value-group_bits groups i l =
    let n : ℕ = get_or groups (i / 20) 0 in
    ap bit_value
    (get_or-flat_map (bits_of 20) 20 (length-bits_of 20) groups i (omega arith) (omega (arith, l))
    ∙ get_or-bits_of 20 n (i % 20) (19 - i % 20) (omega arith))
    ∙ bit_value-eqb (n / 2 ^ (19 - i % 20) % 2) (omega arith)

-- k digits make a number below 2 ^ k
pub rising_number-lt : (bits : List Bool) → rising_number bits < 2 ^ length bits
rising_number-lt [] = omega arith
rising_number-lt (b ∷ bits) = omega (arith, rising_number-lt bits, bit_value-lt b, pow-suc 2 (length bits))

-- at most k digits do too
pub rising_number-take-lt : (n j k : ℕ) (bits : List Bool) → n ≡ rising_number (take j bits) → j ≤ k → n < 2 ^ k
rising_number-take-lt n j k bits e l =
    let small = rising_number-lt (take j bits) in
    let few : length (take j bits) ≤ k = omega (arith, length-take j bits, l) in
    let more : 2 ^ length (take j bits) ≤ 2 ^ k = pow_mono few in
    omega (arith, e, small, more)

-- one digit more, below the others
pub rising_number-more : (bits : List Bool) (from m : ℕ) → from < length bits
    → rising_number (take (suc m) (drop from bits)) ≡ rising_number (take m (drop (suc from) bits)) * 2 + bit_value (get_or bits from false)
rising_number-more [] from m l = absurd (omega (arith, l))
rising_number-more (b ∷ bits) zero m l = omega arith
rising_number-more (b ∷ bits) (suc from) m l = rising_number-more bits from m (omega (arith, l))

-- the same with the places as the code has them
pub rising_number-step : (bits : List Bool) (start w i j code bit : ℕ) → j + 1 ≡ i → i ≤ w → start + j < length bits
    → code ≡ rising_number (take (w - i) (drop (start + i) bits)) → bit ≡ bit_value (get_or bits (start + j) false)
    → code * 2 + bit ≡ rising_number (take (w - j) (drop (start + j) bits))
rising_number-step bits start w i j code bit e l within before last =
    let place : start + i ≡ suc (start + j) = omega (arith, e) in
    let count : suc (w - i) ≡ w - j = omega (arith, e, l) in
    ap₂ (λ a b. a * 2 + b) (before ∙ ap (λ d. rising_number (take (w - i) (drop d bits))) place) last
    ∙ sym (rising_number-more bits (start + j) (w - i) within)
    ∙ ap (λ m. rising_number (take m (drop (start + j) bits))) count

-- how many codes groups hold
pub length-codes_of : (w : ℕ) (groups : List ℕ) → length (codes_of w groups) ≡ 20 * length groups / w
unfolding codes_of
length-codes_of w groups = length-pieces rising_number w (20 * length groups / w) (group_bits groups)

-- one code
pub get_or-codes_of : (w : ℕ) (groups : List ℕ) (k : ℕ) → k < 20 * length groups / w
    → get_or (codes_of w groups) k 0 ≡ rising_number (take w (drop (w * k) (group_bits groups)))
unfolding codes_of
get_or-codes_of w groups k l = get_or-pieces rising_number w (20 * length groups / w) k (group_bits groups) l

-- blanks alone
pub stripped-replicate : (blank n : ℕ) → stripped blank (replicate n blank) ≡ []
stripped-replicate blank zero = refl
stripped-replicate blank (suc n) = ap (kept blank blank) (stripped-replicate blank n) ∙ rw (eq-eqb blank blank refl) refl

-- blanks at the end don't count
pub stripped-append : (blank n : ℕ) (xs : List ℕ) → stripped blank (xs ++ replicate n blank) ≡ stripped blank xs
stripped-append blank n [] = stripped-replicate blank n
stripped-append blank n (x ∷ xs) = ap (kept blank x) (stripped-append blank n xs)

-- one blank at the end
pub stripped-blank : (blank x : ℕ) (xs : List ℕ) → x ≡ blank → stripped blank (xs ++ x ∷ []) ≡ stripped blank xs
stripped-blank blank x xs e = ap (λ y. stripped blank (xs ++ y ∷ [])) e ∙ stripped-append blank 1 xs

-- another character at the end
pub stripped-other : (blank x : ℕ) (xs : List ℕ) → x ≢ blank → stripped blank (xs ++ x ∷ []) ≡ xs ++ x ∷ []
stripped-other blank x [] n = rw (ne_eqb x blank n) refl
stripped-other blank x (y ∷ []) n = ap (kept blank y) (stripped-other blank x [] n)
stripped-other blank x (y ∷ z ∷ xs) n = ap (kept blank y) (stripped-other blank x (z ∷ xs) n)

-- the bits of a code are bits of the groups
pub code-within : (w k i n : ℕ) → i < w → k < 20 * n / w → w * k + i < 20 * n
code-within w k i n l h =
    let low : (k + 1) * w ≤ 20 * n / w * w = mul-le-mul_right w (omega (arith, h)) in
    let all : 20 * n / w * w ≤ 20 * n = div-mul-le_self (20 * n) w in
    let c : (k + 1) * w ≡ w * k + w = omega (arith, mul_comm k w) in
    omega (arith, l, low, all, c)

-- a front that ends in a blank loses it
pub stripped-front-blank : (blank : ℕ) (text : List ℕ) (left less : ℕ) → less + 1 ≡ left → left ≤ length text → get_or text less 0 ≡ blank
    → stripped blank (take left text) ≡ stripped blank text → stripped blank (take less text) ≡ stripped blank text
stripped-front-blank blank text left less e within last same =
    sym (stripped-blank blank (get_or text less 0) (take less text) last)
    ∙ ap (stripped blank) (sym (take_more text less 0 (omega (arith, e, within))) ∙ ap (λ n. take n text) e) ∙ same

-- a front that ends in another character is what is left
pub stripped-front : (blank : ℕ) (text : List ℕ) (left less : ℕ) → less + 1 ≡ left → left ≤ length text → (get_or text less 0 ≢ blank)
    → stripped blank (take left text) ≡ stripped blank text → take left text ≡ stripped blank text
stripped-front blank text left less e within last same =
    let front : take left text ≡ take less text ++ get_or text less 0 ∷ [] = ap (λ n. take n text) (sym e) ∙ take_more text less 0 (omega (arith, e, within)) in
    front ∙ sym (stripped-other blank (get_or text less 0) (take less text) last) ∙ ap (stripped blank) (sym front) ∙ same

-- a front of a list is longer by one element after it is written
pub take-more-set : (xs ys : List ℕ) (k y : ℕ) → k < length xs → k < length ys → y ≡ get_or ys k 0 → take k xs ≡ take k ys
    → take (k + 1) (slice_set xs k y) ≡ take (k + 1) ys
take-more-set xs ys k y l m e same =
    take_more_set xs k y l ∙ ap₂ (λ front z. front ++ z ∷ []) same e ∙ sym (take_more ys k 0 m)

-- a front as long as the list is the list
pub take-whole : (xs : List ℕ) (n : ℕ) → length xs ≡ n → take n xs ≡ xs
take-whole xs n e = take_all n xs (omega (arith, e))

-- how many characters the most groups have at most
pub count-few : (n w : ℕ) → 4 ≤ w → n ≤ MOST_GROUPS → 20 * n / w ≤ LONGEST_READ
count-few n w l m = div-le_of_le-mul w (omega (arith, l, m))
