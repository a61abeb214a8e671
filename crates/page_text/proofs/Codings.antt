-- Characters and their codes.
use Rattle.std.proofs.Common.{◌≡◌, ℕ, zero, suc, ◌+◌, ◌*◌, ◌<◌, inl, inr, List, length, get_or, refl, subst, ap, arith}
use Rattle.std.specs.Prelude.{All, Contains}
use Rattle.std.proofs.Math.Nat.{mul_comm}
use Rattle.std.proofs.lemmas.List.{get_or-map, length-map}
use Rattle.page_text.specs.declared.coding.Coding.{Coding}
use Rattle.page_text.specs.declared.coding.Coding.TheVariants.{Numeric, Alphanumeric}
use Rattle.page_text.specs.Groups.{group_count, numeric_characters, numeric_code}
use Rattle.page_text.specs.Texts.{numeric_character}
use Rattle.page_text.specs.Fits.{IsAlpha}
use Rattle.page_text.specs.Coding.{HasCode, character_of, characters_of, text_codes, width_of}

-- each code is that of its character
pub numeric_code-character : (k : ℕ) → k < 16 → numeric_code (numeric_character k) ≡ k
numeric_code-character zero l = refl
numeric_code-character (suc zero) l = refl
numeric_code-character (suc (suc zero)) l = refl
numeric_code-character (suc (suc (suc zero))) l = refl
numeric_code-character (suc (suc (suc (suc zero)))) l = refl
numeric_code-character (suc (suc (suc (suc (suc zero))))) l = refl
numeric_code-character (suc (suc (suc (suc (suc (suc zero)))))) l = refl
numeric_code-character (suc (suc (suc (suc (suc (suc (suc zero))))))) l = refl
numeric_code-character (suc (suc (suc (suc (suc (suc (suc (suc zero)))))))) l = refl
numeric_code-character (suc (suc (suc (suc (suc (suc (suc (suc (suc zero))))))))) l = refl
numeric_code-character (suc (suc (suc (suc (suc (suc (suc (suc (suc (suc zero)))))))))) l = refl
numeric_code-character (suc (suc (suc (suc (suc (suc (suc (suc (suc (suc (suc zero))))))))))) l = refl
numeric_code-character (suc (suc (suc (suc (suc (suc (suc (suc (suc (suc (suc (suc zero)))))))))))) l = refl
numeric_code-character (suc (suc (suc (suc (suc (suc (suc (suc (suc (suc (suc (suc (suc zero))))))))))))) l = refl
numeric_code-character (suc (suc (suc (suc (suc (suc (suc (suc (suc (suc (suc (suc (suc (suc zero)))))))))))))) l = refl
numeric_code-character (suc (suc (suc (suc (suc (suc (suc (suc (suc (suc (suc (suc (suc (suc (suc zero))))))))))))))) l = refl
numeric_code-character (suc (suc (suc (suc (suc (suc (suc (suc (suc (suc (suc (suc (suc (suc (suc (suc k)))))))))))))))) l = absurd (omega (arith, l))

-- a numeric character has a code below 16, and is the character of its code
pub numeric_code-is : (c : ℕ) → Contains numeric_characters c → (numeric_code c < 16) × (numeric_character (numeric_code c) ≡ c)
numeric_code-is c (k, l, e) =
    let at : numeric_character k ≡ c = same k c l e in
    subst (λ d. (numeric_code d < 16) × (numeric_character (numeric_code d) ≡ d)) at
    (let code : numeric_code (numeric_character k) ≡ k = numeric_code-character k l in (omega (arith, code, l), ap numeric_character code))
  where
    same : (k c : ℕ) → k < 16 → get_or numeric_characters k c ≡ c → numeric_character k ≡ c
    same k c l e = grind (arith, e)

-- an alphanumeric character is below 128, and isn't 0
pub is_alpha-small : (c : ℕ) → IsAlpha c → (c < 128) × (0 < c)
is_alpha-small c (inl h) = (omega (arith, h.1), omega (arith, h.0))
is_alpha-small c (inr (inl e)) = (omega (arith, e), omega (arith, e))
is_alpha-small c (inr (inr e)) = (omega (arith, e), omega (arith, e))

-- alphanumeric characters have codes
pub alpha-codes : (text : List ℕ) → All IsAlpha text → All (HasCode Alphanumeric) text
alpha-codes text a k d l = (is_alpha-small _ (a k d l)).0

-- each character has one code
pub length-text_codes : (coding : Coding) (text : List ℕ) → length (text_codes coding text) ≡ length text
length-text_codes Numeric text = length-map text numeric_code
length-text_codes Alphanumeric text = refl

-- each code has one character
pub length-characters_of : (coding : Coding) (codes : List ℕ) → length (characters_of coding codes) ≡ length codes
length-characters_of Numeric codes = length-map codes numeric_character
length-characters_of Alphanumeric codes = refl

-- one character
pub get_or-characters_of : (coding : Coding) (codes : List ℕ) (k : ℕ) → k < length codes
    → get_or (characters_of coding codes) k 0 ≡ character_of coding (get_or codes k 0)
get_or-characters_of Numeric codes k l = get_or-map numeric_character codes k 0 0 l
get_or-characters_of Alphanumeric codes k l = refl

-- the bits of the groups of a text are bits of the text or of its fill
pub place-within : (w k i n : ℕ) → 0 < w → i < 20 → k < group_count w n → 20 * k + i < (n + 20) * w
place-within w k i n p l h = let c : (n + 20) * w ≡ w * n + 20 * w = ap (λ t. t) (omega (arith, mul_comm n w)) in omega (arith, h, c, p, l)

-- characters have bits
pub width-pos : (coding : Coding) → 0 < width_of coding
width-pos Numeric = omega arith
width-pos Alphanumeric = omega arith
