-- A text that fits is read back from its groups.
use Rattle.std.proofs.Common.{◌≡◌, ◌≢◌, ℕ, zero, suc, ◌+◌, ◌-◌, ◌*◌, ◌/◌, ◌%◌, ◌==◌, ◌^◌, ◌<◌, ◌≤◌, inl, inr, Bool, List, [], ◌∷◌, ◌++◌, length, map, take, drop, replicate, refl, sym, ◌∙◌, ap, ap₂, subst, arith, length-append, length-drop}
use Rattle.std.specs.Prelude.{All, Contains}
use Rattle.std.proofs.Math.Nat.{pow-suc}
use Rattle.std.proofs.Math.Seq.{take-add, take-append_seam, drop-append_seam, take-append-add}
use Rattle.std.proofs.lemmas.Bool.Decides.{eqb_tells}
use Rattle.std.proofs.lemmas.List.{drop-take, length-map, length-replicate, length-take-le, map-append, take-take}
use Rattle.std.proofs.lemmas.List.Elements.{All-append, All-replicate, All-map}
use Rattle.bits.specs.Bits.{bits_of, bit_value, number, rising_bits_of}
use Rattle.bits.proofs.Lengths.{length-rising_bits_of}
use Rattle.bits.proofs.Numbers.{bit_value-eqb, bits_of-number}
use Rattle.codeword.specs.declared.functions.Function.{Function}
use Rattle.codeword.specs.declared.functions.Function.TheVariants.{Numeric, Tone1, Tone2, Alpha}
use Rattle.page_text.specs.declared.limits.TheConstants.{LONGEST_NUMERIC, LONGEST_TEXT, MOST_GROUPS}
use Rattle.page_text.specs.Fits.{Fits, FitsNumeric, FitsAlpha, IsAlpha}
use Rattle.page_text.specs.Groups.{pieces, code_bits, group_count, groups_of, groups, numeric_characters, numeric_code}
use Rattle.page_text.specs.Texts.{rising_number, group_bits, codes_of, kept, stripped, numeric_character, text_of}
use Rattle.page_text.proofs.Codings.{numeric_code-is, is_alpha-small}
use Rattle.page_text.proofs.Groups.{length-code_bits, length-groups_of}
use Rattle.page_text.proofs.RunTogether.{length-pieces}
use Rattle.page_text.proofs.Texts.{stripped-append}

-- the number of the bits of a number, both with the least significant first
pub rising_number-rising_bits_of : (k n : ℕ) → n < 2 ^ k → rising_number (rising_bits_of k n) ≡ n
unfolding rising_bits_of
rising_number-rising_bits_of zero n l = omega (arith, l)
rising_number-rising_bits_of (suc k) n l =
    let half : n / 2 < 2 ^ k = omega (arith, l, pow-suc 2 k) in
    let low : bit_value (n % 2 == 1) ≡ n % 2 = bit_value-eqb (n % 2) (omega arith) in
    omega (arith, low, rising_number-rising_bits_of k (n / 2) half)

-- pieces of bits, as numbers and run together again
pub group_bits-pieces : (n : ℕ) (bits : List Bool) → n * 20 ≤ length bits → group_bits (map number (pieces 20 n bits)) ≡ take (n * 20) bits
group_bits-pieces zero bits l = let none : 0 ≡ zero * 20 = omega arith in ap (λ n. take n bits) none
group_bits-pieces (suc n) bits l =
    let long : length (take 20 bits) ≡ 20 = length-take-le 20 bits (omega (arith, l)) in
    let first : bits_of 20 (number (take 20 bits)) ≡ take 20 bits =
    subst (λ k. bits_of k (number (take 20 bits)) ≡ take 20 bits) long (bits_of-number (take 20 bits)) in
    let all : 20 + n * 20 ≡ suc n * 20 = omega arith in
    ap₂ (λ a b. a ++ b) first (group_bits-pieces n (drop 20 bits) (omega (arith, l, length-drop 20 bits)))
    ∙ sym (take-add 20 (n * 20) bits) ∙ ap (λ k. take k bits) all

-- pieces of a front
pub pieces-take : (w m l : ℕ) (bits : List Bool) → m * w ≤ l → pieces w m (take l bits) ≡ pieces w m bits
pieces-take w zero l bits h = refl
pieces-take w (suc m) l bits h =
    let here : w ≤ l = omega (arith, h) in
    let split : w + (l - w) ≡ l = omega (arith, here) in
    let rest : drop w (take l bits) ≡ take (l - w) (drop w bits) = ap (λ j. drop w (take j bits)) (sym split) ∙ drop-take w (l - w) bits in
    ap₂ (λ a b. a ∷ b) (take-take w l bits here) (ap (pieces w m) rest ∙ pieces-take w m (l - w) (drop w bits) (omega (arith, h)))

-- codes run together and cut again
pub codes-pieces : (w m : ℕ) (codes : List ℕ) → m ≤ length codes → All (λ c. c < 2 ^ w) codes
    → map rising_number (pieces w m (code_bits w codes)) ≡ take m codes
codes-pieces w zero codes l small = refl
codes-pieces w (suc m) [] l small = absurd (omega (arith, l))
codes-pieces w (suc m) (c ∷ codes) l small =
    let b : List Bool = rising_bits_of w c in
    let long : length b ≡ w = length-rising_bits_of w c in
    let first : take w (b ++ code_bits w codes) ≡ b = subst (λ j. take j (b ++ code_bits w codes) ≡ b) long (take-append_seam b (code_bits w codes)) in
    let rest : drop w (b ++ code_bits w codes) ≡ code_bits w codes =
    subst (λ j. drop j (b ++ code_bits w codes) ≡ code_bits w codes) long (drop-append_seam b (code_bits w codes)) in
    ap₂ (λ a b. a ∷ b) (ap rising_number first ∙ rising_number-rising_bits_of w c (small zero 0 (omega arith)))
    (ap (λ s. map rising_number (pieces w m s)) rest ∙ codes-pieces w m codes (omega (arith, l)) (λ k d h. small (suc k) d (omega (arith, h))))

-- a front of equal elements
take-replicate : (j n c : ℕ) → j ≤ n → take j (replicate n c) ≡ replicate j c
take-replicate zero n c l = refl
take-replicate (suc j) zero c l = absurd (omega (arith, l))
take-replicate (suc j) (suc n) c l = ap (λ x. c ∷ x) (take-replicate j n c (omega (arith, l)))

-- the codes of the groups of codes are the codes and some fill, where the n groups hold m codes
pub codes_of-groups_of : (w fill : ℕ) (codes : List ℕ) (n m : ℕ) → n ≡ group_count w (length codes) → m ≡ 20 * n / w
    → All (λ c. c < 2 ^ w) codes → fill < 2 ^ w → n * 20 ≤ (length codes + 20) * w → m * w ≤ n * 20 → length codes ≤ m → m ≤ length codes + 20
    → codes_of w (groups_of w fill codes) ≡ codes ++ replicate (m - length codes) fill
unfolding codes_of groups_of
codes_of-groups_of w fill codes n m count most small low enough within all few =
    let filled : List ℕ = codes ++ replicate 20 fill in
    let bits : List Bool = code_bits w filled in
    let size : length filled ≡ length codes + 20 = length-append codes (replicate 20 fill) ∙ ap (λ j. length codes + j) (length-replicate 20 fill) in
    let gs : List ℕ = map number (pieces 20 (group_count w (length codes)) bits) in
    let many : length gs ≡ n = length-pieces number 20 (group_count w (length codes)) bits ∙ sym count in
    let j : ℕ = m - length codes in
    let long : n * 20 ≤ length bits = subst (λ t. n * 20 ≤ t) (sym (length-code_bits w filled ∙ ap (λ t. t * w) size)) enough in
    let joined : group_bits gs ≡ take (n * 20) bits = ap (λ t. group_bits (map number (pieces 20 t bits))) (sym count) ∙ group_bits-pieces n bits long in
    let each : All (λ c. c < 2 ^ w) filled = All-append (λ c. c < 2 ^ w) codes (replicate 20 fill) small (All-replicate (λ c. c < 2 ^ w) 20 fill low) in
    let held : 20 * length gs / w ≡ m = ap (λ t. 20 * t / w) many ∙ sym most in
    let split : m ≡ length codes + j = omega (arith, all) in
    let there : m ≤ length filled = omega (arith, size, few) in
    ap₂ (λ t u. map rising_number (pieces w t u)) held joined
    ∙ ap (map rising_number) (pieces-take w m (n * 20) bits within) ∙ codes-pieces w m filled there each
    ∙ ap (λ t. take t filled) split ∙ take-append-add codes (replicate 20 fill) j
    ∙ ap (λ t. codes ++ t) (take-replicate j 20 fill (omega (arith, few)))

-- a text without a blank at its end has none to lose
pub stripped-same : (blank : ℕ) (xs : List ℕ) → ((front : List ℕ) → xs ≢ front ++ blank ∷ []) → stripped blank xs ≡ xs
stripped-same blank [] other = refl
stripped-same blank (x ∷ []) other =
    elim (eqb_tells x blank) [
      | inl h ↦ absurd (other [] (ap (λ y. y ∷ []) h.1))
      | inr h ↦ rw h.0 refl
    ]
stripped-same blank (x ∷ y ∷ xs) other =
    ap (kept blank x) (stripped-same blank (y ∷ xs) (λ front e. other (x ∷ front) (ap (λ t. x ∷ t) e)))

-- numeric characters are those of their codes
pub numeric_characters-codes : (text : List ℕ) → All (Contains numeric_characters) text → map numeric_character (map numeric_code text) ≡ text
numeric_characters-codes [] each = refl
numeric_characters-codes (c ∷ text) each =
    ap₂ (λ x y. x ∷ y) (numeric_code-is c (each zero 0 (omega arith))).1 (numeric_characters-codes text (λ k d l. each (suc k) d (omega (arith, l))))

-- characters of equal codes
map-replicate : (f : ℕ → ℕ) (n c : ℕ) → map f (replicate n c) ≡ replicate n (f c)
map-replicate f zero c = refl
map-replicate f (suc n) c = ap (λ x. f c ∷ x) (map-replicate f n c)

-- an alphanumeric text has no zero at its end
pub alpha-ends : (text : List ℕ) → All IsAlpha text → (front : List ℕ) → text ≢ front ++ 0 ∷ []
alpha-ends [] each [] e = cc
alpha-ends [] each (f ∷ front) e = cc
alpha-ends (c ∷ text) each [] e =
    let none : c ≡ 0 = cc in let more = (is_alpha-small c (each zero 0 (omega arith))).1 in omega (arith, more, none)
alpha-ends (c ∷ text) each (f ∷ front) e =
    let rest : text ≡ front ++ 0 ∷ [] = cc in alpha-ends text (λ k d l. each (suc k) d (omega (arith, l))) front rest

-- a numeric text is read back
pub numeric-back : (text : List ℕ) → FitsNumeric text → stripped 32 (map numeric_character (codes_of 4 (groups_of 4 12 (map numeric_code text)))) ≡ text
numeric-back text fits =
    let codes : List ℕ = map numeric_code text in
    let size : length codes ≡ length text = length-map text numeric_code in
    let short : length text ≤ LONGEST_NUMERIC = fits.short in
    let n : ℕ = group_count 4 (length codes) in
    let m : ℕ = 20 * n / 4 in
    let small : All (λ c. c < 2 ^ 4) codes = All-map (λ c. c < 2 ^ 4) numeric_code text (λ k d l. (numeric_code-is _ (fits.alphabet k d l)).0) in
    let read : codes_of 4 (groups_of 4 12 codes) ≡ codes ++ replicate (m - length codes) 12 =
    codes_of-groups_of 4 12 codes n m refl refl small (omega arith) (omega arith) (omega arith) (omega arith) (omega arith) in
    ap (λ t. stripped 32 (map numeric_character t)) read
    ∙ ap (stripped 32)
    (map-append numeric_character codes (replicate (m - length codes) 12)
    ∙ ap₂ (λ a b. a ++ b) (numeric_characters-codes text fits.alphabet) (map-replicate numeric_character (m - length codes) 12))
    ∙ stripped-append 32 (m - length codes) text ∙ stripped-same 32 text fits.no_space

-- an alphanumeric text is read back
pub alpha-back : (text : List ℕ) → FitsAlpha text → stripped 0 (codes_of 7 (groups_of 7 0 text)) ≡ text
alpha-back text fits =
    let short : length text ≤ LONGEST_TEXT = fits.short in
    let n : ℕ = group_count 7 (length text) in
    let m : ℕ = 20 * n / 7 in
    let small : All (λ c. c < 2 ^ 7) text = λ k d l. (is_alpha-small _ (fits.alphabet k d l)).0 in
    let read : codes_of 7 (groups_of 7 0 text) ≡ text ++ replicate (m - length text) 0 =
    codes_of-groups_of 7 0 text n m refl refl small (omega arith) (omega arith) (omega arith) (omega arith) (omega arith) in
    ap (stripped 0) read ∙ stripped-append 0 (m - length text) text ∙ stripped-same 0 text (alpha-ends text fits.alphabet)

-- a text that fits is read back
pub text_of-groups : (function : Function) (text : List ℕ) → Fits function text → text_of function (groups function text) ≡ text
text_of-groups Numeric text fits = numeric-back text fits
text_of-groups Tone1 text fits = sym fits
text_of-groups Tone2 text fits = sym fits
text_of-groups Alpha text fits = alpha-back text fits

-- it has no more groups than the limit
pub length-groups : (function : Function) (text : List ℕ) → Fits function text → length (groups function text) ≤ MOST_GROUPS
length-groups Numeric text fits =
    let codes : List ℕ = map numeric_code text in
    let size : length codes ≡ length text = length-map text numeric_code in
    omega (arith, length-groups_of 4 12 codes, size, fits.short)
length-groups Tone1 text fits = omega arith
length-groups Tone2 text fits = omega arith
length-groups Alpha text fits = omega (arith, length-groups_of 7 0 text, fits.short)
