-- Bits near the bits of words, behind a clean preamble.
use Rattle.std.proofs.Common.{◌≡◌, ℕ, zero, suc, ◌+◌, ◌*◌, ◌≤◌, Bool, List, [], ◌∷◌, ◌++◌, length, length-append, length-drop, length-take, take, drop, replicate, arith, refl, sym, ◌∙◌, ap}
use Rattle.std.proofs.lemmas.List.{take_at, drop_at, drop-drop}
use Rattle.bits.specs.Bits.{word_bits, words_bits, dist}
use Rattle.bits.proofs.Lengths.{length-bits_of, length-words_bits}
use Rattle.bits.proofs.Bytes.{words_bits-append}
use Rattle.codeword.specs.Words.{filler}
use Rattle.air.specs.Air.{preamble}
use Rattle.air.specs.Near.{IsNearAir, word_behind}
use Rattle.receiver.specs.Windows.{preamble_bits}

-- each of the words is heard with at most two wrong bits
unfoldable pub IsNearWords : List ℕ → List Bool → Type 0
IsNearWords [] bits = bits ≡ []
IsNearWords (u ∷ us) bits = (32 ≤ length bits) × (dist (take 32 bits) (word_bits u) ≤ 2) × IsNearWords us (drop 32 bits)

-- the words of 32 bits, counted from 0
abbrev word_at : ℕ → List Bool → List Bool
word_at k bits = take 32 (drop (32 * k) bits)

word_at-later : (k : ℕ) (bits : List Bool) → word_at (suc k) bits ≡ word_at k (drop 32 bits)
word_at-later k bits =
    let e : 32 * suc k ≡ 32 + 32 * k = omega arith in
    ap (λ (n : ℕ). take 32 (drop n bits)) e ∙ ap (take 32) (sym (drop-drop (32 * k) 32 bits))

near_same : {a b c d : List Bool} → dist a b ≤ 2 → a ≡ c → b ≡ d → dist c d ≤ 2
near_same h e f = rw (← e) (rw (← f) h)

no_bits : (bits : List Bool) → length bits ≡ 0 → bits ≡ []
no_bits [] h = refl
no_bits (b ∷ bits) h = absurd (omega arith)

near_words-at : (us : List ℕ) (bits : List Bool) → IsNearWords us bits → (k : ℕ) → dist (word_at k bits) (word_at k (words_bits us)) ≤ 2
unfolding IsNearWords
near_words-at [] bits h k =
    let l = length-take 32 (drop (32 * k) bits) in
    let d = length-drop (32 * k) bits in
    let n = ap length h in
    let none : word_at k bits ≡ [] = no_bits (word_at k bits) (omega arith) in
    let z : dist [] (word_at k (words_bits [])) ≤ 2 = omega arith in
    rw none z
near_words-at (u ∷ us) bits h zero =
    let first : word_at 0 (words_bits (u ∷ us)) ≡ word_bits u = take_at (word_bits u) (words_bits us) 32 (length-bits_of 32 u) in
    rw first h.1
near_words-at (u ∷ us) bits h (suc k) =
    let behind : drop 32 (words_bits (u ∷ us)) ≡ words_bits us = drop_at (word_bits u) (words_bits us) 32 (length-bits_of 32 u) in
    near_same (near_words-at us (drop 32 bits) h.2 k) (sym (word_at-later k bits))
    (ap (word_at k) (sym behind) ∙ sym (word_at-later k (words_bits (u ∷ us))))

length-near_words : (us : List ℕ) (bits : List Bool) → IsNearWords us bits → length bits ≡ 32 * length us
unfolding IsNearWords
length-near_words [] bits h = ap length h ∙ omega arith
length-near_words (u ∷ us) bits h =
    let ih = length-near_words us (drop 32 bits) h.2 in
    let l = length-drop 32 bits in
    let a = h.0 in
    omega arith

-- a clean preamble, and a part that is near the words
pub record PreambleAndWords (us : List ℕ) (heard : List Bool) : Type 0 where
  pub body : List Bool
  pub whole : heard ≡ preamble_bits 18 ++ body
  pub near : IsNearWords us body

preamble_bits_are : words_bits preamble ≡ preamble_bits 18
unfolding preamble
preamble_bits_are = refl

length-preamble_bits : length (preamble_bits 18) ≡ 576
length-preamble_bits = length-words_bits (replicate 18 filler)

word_behind-is : (k : ℕ) (front rest : List Bool) → length front ≡ 576 → word_behind k (front ++ rest) ≡ word_at k rest
word_behind-is k front rest l =
    ap (take 32) (sym (drop-drop (32 * k) 576 (front ++ rest)) ∙ ap (drop (32 * k)) (drop_at front rest 576 l))

air-parts : (us : List ℕ) → words_bits (preamble ++ us) ≡ preamble_bits 18 ++ words_bits us
air-parts us = words_bits-append preamble us ∙ ap (λ (xs : List Bool). xs ++ words_bits us) preamble_bits_are

-- a clean preamble and bits near further words are near the transmission of these words
pub near_air-whole : (us : List ℕ) (heard : List Bool) → PreambleAndWords us heard → IsNearAir (words_bits (preamble ++ us)) heard
near_air-whole us heard p =
    let lf : length (preamble_bits 18) ≡ 576 = length-preamble_bits in
    let air = air-parts us in
    let la = ap length air ∙ length-append (preamble_bits 18) (words_bits us) in
    let lh = ap length p.whole ∙ length-append (preamble_bits 18) p.body in
    let lu = length-words_bits us in
    let lb = length-near_words us p.body p.near in
    record {
      whole = omega arith;
      preamble = ap (take 576) p.whole ∙ take_at (preamble_bits 18) p.body 576 lf
          ∙ sym (ap (take 576) air ∙ take_at (preamble_bits 18) (words_bits us) 576 lf);
      words = λ k. near_same (near_words-at us p.body p.near k) (sym (ap (word_behind k) p.whole ∙ word_behind-is k (preamble_bits 18) p.body lf))
          (sym (ap (word_behind k) air ∙ word_behind-is k (preamble_bits 18) (words_bits us) lf));
    }
