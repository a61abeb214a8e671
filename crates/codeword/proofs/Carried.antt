-- Address words and message words: they are codewords, bit 1 tells them apart, and their fronts give back what they carry.
use Rattle.std.proofs.Common.{◌≡◌, ℕ, ◌+◌, ◌*◌, ◌^◌, ◌<◌, ◌≤◌, arith, refl, sym, ◌∙◌, ap}
use Rattle.bch31.specs.Codeword.{IsCodeword, front_of}
use Rattle.bch31.proofs.Fronts.{front_of-word_of, word_of-codeword}
use Rattle.codeword.specs.declared.functions.Function.{Function}
use Rattle.codeword.specs.declared.functions.Function.TheVariants.{Numeric, Tone1, Tone2, Alpha}
use Rattle.codeword.specs.Capcodes.{high_of}
use Rattle.codeword.specs.Functions.{number_of}
use Rattle.codeword.specs.Words.{address_of, message_of}
use Rattle.codeword.proofs.Fields.{number_of-lt}

-- the first 21 bits of an address word
pub front_of-address_of : (c : ℕ) (f : Function) → front_of (address_of c f) ≡ high_of c * 2 ^ 2 + number_of f
unfolding address_of
front_of-address_of c f = front_of-word_of (high_of c * 2 ^ 2 + number_of f)

-- the first 21 bits of a message word
pub front_of-message_of : (group : ℕ) → front_of (message_of group) ≡ 2 ^ 20 + group
unfolding message_of
front_of-message_of group = front_of-word_of (2 ^ 20 + group)

-- address words are codewords
pub address_of-codeword : (c : ℕ) (f : Function) → c < 2 ^ 21 → IsCodeword (address_of c f)
unfolding address_of
address_of-codeword c f h = let n = number_of-lt f in word_of-codeword (high_of c * 2 ^ 2 + number_of f) (omega arith)

-- message words are codewords
pub message_of-codeword : (group : ℕ) → group < 2 ^ 20 → IsCodeword (message_of group)
unfolding message_of
message_of-codeword group h = word_of-codeword (2 ^ 20 + group) (omega arith)

-- bit 1 of an address word is 0
pub address_of-lt : (c : ℕ) (f : Function) → c < 2 ^ 21 → address_of c f < 2 ^ 31
address_of-lt c f h = let n = number_of-lt f in let e = front_of-address_of c f in omega arith

-- a message word is a word
pub message_of-lt : (group : ℕ) → group < 2 ^ 20 → message_of group < 2 ^ 32
message_of-lt group h = let e = front_of-message_of group in omega arith

-- bit 1 of a message word is 1
pub message_of-ge : (group : ℕ) → 2 ^ 31 ≤ message_of group
message_of-ge group = let e = front_of-message_of group in omega arith

-- an address word gives back the high bits of its capcode
pub address_of-high : (c d : ℕ) (f g : Function) → address_of c f ≡ address_of d g → high_of c ≡ high_of d
address_of-high c d f g h =
    let nf = number_of-lt f in
    let ng = number_of-lt g in
    let same = sym (front_of-address_of c f) ∙ ap front_of h ∙ front_of-address_of d g in
    omega arith

-- functions with one number are the same
pub number_of-injective : (f g : Function) → number_of f ≡ number_of g → f ≡ g
number_of-injective Numeric Numeric h = refl
number_of-injective Tone1 Tone1 h = refl
number_of-injective Tone2 Tone2 h = refl
number_of-injective Alpha Alpha h = refl
number_of-injective Numeric Tone1 h = absurd (omega arith)
number_of-injective Numeric Tone2 h = absurd (omega arith)
number_of-injective Numeric Alpha h = absurd (omega arith)
number_of-injective Tone1 Numeric h = absurd (omega arith)
number_of-injective Tone1 Tone2 h = absurd (omega arith)
number_of-injective Tone1 Alpha h = absurd (omega arith)
number_of-injective Tone2 Numeric h = absurd (omega arith)
number_of-injective Tone2 Tone1 h = absurd (omega arith)
number_of-injective Tone2 Alpha h = absurd (omega arith)
number_of-injective Alpha Numeric h = absurd (omega arith)
number_of-injective Alpha Tone1 h = absurd (omega arith)
number_of-injective Alpha Tone2 h = absurd (omega arith)

-- an address word gives back its function
pub address_of-function : (c d : ℕ) (f g : Function) → address_of c f ≡ address_of d g → f ≡ g
address_of-function c d f g h =
    let nf = number_of-lt f in
    let ng = number_of-lt g in
    let same = sym (front_of-address_of c f) ∙ ap front_of h ∙ front_of-address_of d g in
    number_of-injective f g (omega arith)

-- a message word gives back its group
pub message_of-injective : (g h : ℕ) → message_of g ≡ message_of h → g ≡ h
message_of-injective g h e = let same = sym (front_of-message_of g) ∙ ap front_of e ∙ front_of-message_of h in omega arith
