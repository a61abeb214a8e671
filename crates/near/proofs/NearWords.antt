-- The words of a copy of a transmission, each near the word that was sent or not read.
use Rattle.std.proofs.Common.{◌≡◌, ℕ, suc, ◌+◌, ◌*◌, ◌%◌, ◌^◌, ◌<◌, nat_le, Bool, true, false, List, [], ◌∷◌, ◌++◌, length, length-append, length-drop, length-take-le, take, drop, replicate, arith, refl, sym, ◌∙◌, ap, take-append-drop, add-zero, le-leb}
use Rattle.std.proofs.lemmas.List.{take_at, drop_at, drop-drop}
use Rattle.bits.specs.Bits.{word_bits, words_bits, number, dist}
use Rattle.bits.proofs.Lengths.{length-bits_of, length-words_bits}
use Rattle.bits.proofs.Bytes.{words_bits-append}
use Rattle.bits.proofs.Numbers.{number-lt}
use Rattle.bch31.specs.Fix.{HasNoFix}
use Rattle.codeword.specs.Words.{filler}
use Rattle.air.specs.Air.{preamble}
use Rattle.air.specs.Near.{IsNearAir, preamble_length, word_behind}
use Rattle.receiver.specs.Stretches.{first_words}
use Rattle.receiver.specs.Windows.{preamble_bits}
use Rattle.receiver.proofs.Hunts.{word_bits-number}

-- ---- words as heard, one for each that was sent

-- A word as heard, at its number: it is within two bits of the word as sent exactly where it is marked so, and else has no fix.
pub record HeardAt (near : ℕ → Bool) (k u w : ℕ) : Type 0 where
  pub small : w < 2 ^ 32
  pub is : near k ≡ nat_le (dist (word_bits w) (word_bits u)) 2
  pub none : near k ≡ false → HasNoFix w

-- the words as heard, from the number k on
unfoldable pub AreHeard : (ℕ → Bool) → ℕ → List ℕ → List ℕ → Type 0
AreHeard near k [] ws = ws ≡ []
AreHeard near k (u ∷ us) [] = ⊥
AreHeard near k (u ∷ us) (w ∷ ws) = HeardAt near k u w × AreHeard near (suc k) us ws

-- marks that start one later
pub heard_later : (near : ℕ → Bool) (k : ℕ) (us ws : List ℕ) → AreHeard near (suc k) us ws → AreHeard (λ j. near (suc j)) k us ws
unfolding AreHeard
heard_later near k [] ws h = h
heard_later near k (u ∷ us) [] h = h
heard_later near k (u ∷ us) (w ∷ ws) h = (record { small = h.0.small; is = h.0.is; none = h.0.none }, heard_later near (suc k) us ws h.1)

pub length-heard : (near : ℕ → Bool) (k : ℕ) (us ws : List ℕ) → AreHeard near k us ws → length ws ≡ length us
unfolding AreHeard
length-heard near k [] ws h = ap length h
length-heard near k (u ∷ us) [] h = absurd h
length-heard near k (u ∷ us) (w ∷ ws) h = ap suc (length-heard near (suc k) us ws h.1)

-- ---- bits cut into words

-- the words of 32 bits, counted from 0
abbrev pub word_at : ℕ → List Bool → List Bool
word_at k bits = take 32 (drop (32 * k) bits)

pub word_at-later : (k : ℕ) (bits : List Bool) → word_at (suc k) bits ≡ word_at k (drop 32 bits)
word_at-later k bits =
    let e : 32 * suc k ≡ 32 + 32 * k = omega arith in
    ap (λ (n : ℕ). take 32 (drop n bits)) e ∙ ap (take 32) (sym (drop-drop (32 * k) 32 bits))

-- 32 bits as heard, at their number
pub record BitsAt (near : ℕ → Bool) (k : ℕ) (sent heard : List Bool) : Type 0 where
  pub is : near k ≡ nat_le (dist heard sent) 2
  pub none : near k ≡ false → HasNoFix (number heard)

bits_moved : (near : ℕ → Bool) (j k : ℕ) (a b c d : List Bool) → BitsAt near j a b → j ≡ k → a ≡ c → b ≡ d → BitsAt near k c d
bits_moved near j k a b c d h e f g = rw (← e) (rw (← f) (rw (← g) h))

-- bits as many as those of the words are cut into words as heard
cut : (near : ℕ → Bool) (k : ℕ) (us : List ℕ) (bits : List Bool) → length bits ≡ 32 * length us
    → ((j : ℕ) → BitsAt near (k + j) (word_at j (words_bits us)) (word_at j bits)) → AreHeard near k us (first_words (length us) bits)
unfolding AreHeard first_words
cut near k [] bits l h = refl
cut near k (u ∷ us) bits l h =
    let lu = length-bits_of 32 u in
    let first : word_at 0 (words_bits (u ∷ us)) ≡ word_bits u = take_at (word_bits u) (words_bits us) 32 lu in
    let behind : drop 32 (words_bits (u ∷ us)) ≡ words_bits us = drop_at (word_bits u) (words_bits us) 32 lu in
    let lt = length-take-le 32 bits (omega (arith, l)) in
    let n = number-lt (take 32 bits) in
    let small : number (take 32 bits) < 2 ^ 32 = rw lt at n in
    let same = word_bits-number (take 32 bits) lt in
    let here = bits_moved near (k + 0) k (word_at 0 (words_bits (u ∷ us))) (take 32 bits) (word_bits u) (take 32 bits) (h 0) (add-zero k) first refl in
    let ld = length-drop 32 bits in (
      record {
        small = small;
        is = here.is ∙ ap (λ (xs : List Bool). nat_le (dist xs (word_bits u)) 2) (sym same);
        none = here.none;
      },
      cut near (suc k) us (drop 32 bits) (omega (arith, l, ld))
          (λ j. let e : k + suc j ≡ suc k + j = omega arith in
          bits_moved near (k + suc j) (suc k + j) (word_at (suc j) (words_bits (u ∷ us))) (word_at (suc j) bits) (word_at j (words_bits us)) (word_at j (drop 32 bits))
          (h (suc j)) e (word_at-later j (words_bits (u ∷ us)) ∙ ap (word_at j) behind) (word_at-later j bits)),
    )

-- ---- a copy of a transmission

pub preamble_words : words_bits preamble ≡ preamble_bits 18
unfolding preamble
preamble_words = refl

pub length-preamble_bits : length (preamble_bits 18) ≡ 576
length-preamble_bits = length-words_bits (replicate 18 filler)

pub word_behind-is : (k : ℕ) (front rest : List Bool) → length front ≡ 576 → word_behind k (front ++ rest) ≡ word_at k rest
word_behind-is k front rest l =
    ap (take 32) (sym (drop-drop (32 * k) 576 (front ++ rest)) ∙ ap (drop (32 * k)) (drop_at front rest 576 l))

pub air-parts : (us : List ℕ) → words_bits (preamble ++ us) ≡ preamble_bits 18 ++ words_bits us
air-parts us = words_bits-append preamble us ∙ ap (λ (xs : List Bool). xs ++ words_bits us) preamble_words

-- A copy of a transmission has its length and its preamble. Each word behind it is near the word as sent where it is marked so, and
-- else has no fix, and every 17th, a sync word, is near.
pub record IsCopy (near : ℕ → Bool) (air copy : List Bool) : Type 0 where
  pub whole : length copy ≡ length air
  pub preamble : take preamble_length copy ≡ take preamble_length air
  pub words : (k : ℕ) → BitsAt near k (word_behind k air) (word_behind k copy)
  pub syncs : (k : ℕ) → k % 17 ≡ 0 → near k ≡ true

-- every word of what is heard near a transmission is near
pub near_copy : (air heard : List Bool) → IsNearAir air heard → IsCopy (λ k. true) air heard
near_copy air heard h = record {
  whole = h.whole;
  preamble = h.preamble;
  words = λ k. record { is = sym (le-leb (dist (word_behind k heard) (word_behind k air)) 2 (h.words k)); none = λ far. cc };
  syncs = λ k z. refl;
}

-- a clean preamble, and a part that is cut into words as heard
pub record CopyParts (near : ℕ → Bool) (us : List ℕ) (copy : List Bool) : Type 0 where
  pub body : List Bool
  pub whole : copy ≡ preamble_bits 18 ++ body
  pub long : length body ≡ 32 * length us
  pub heard : AreHeard near 0 us (first_words (length us) body)

pub copy_parts : (near : ℕ → Bool) (us : List ℕ) (copy : List Bool) → IsCopy near (words_bits (preamble ++ us)) copy → CopyParts near us copy
copy_parts near us copy h =
    let lf : length (preamble_bits 18) ≡ 576 = length-preamble_bits in
    let air = air-parts us in
    let clean : take 576 copy ≡ preamble_bits 18 = h.preamble ∙ ap (take 576) air ∙ take_at (preamble_bits 18) (words_bits us) 576 lf in
    let whole : copy ≡ preamble_bits 18 ++ drop 576 copy = sym (take-append-drop 576 copy) ∙ ap (λ (xs : List Bool). xs ++ drop 576 copy) clean in
    let la = h.whole ∙ ap length air ∙ length-append (preamble_bits 18) (words_bits us) in
    let lu = length-words_bits us in
    let ld = length-drop 576 copy in
    let long : length (drop 576 copy) ≡ 32 * length us = omega (arith, la, lu, ld, lf) in
    record {
      body = drop 576 copy;
      whole = whole;
      long = long;
      heard = cut near 0 us (drop 576 copy) long (λ j. bits_moved near j (0 + j) (word_behind j (words_bits (preamble ++ us))) (word_behind j copy)
          (word_at j (words_bits us)) (word_at j (drop 576 copy)) (h.words j) (omega arith)
          (ap (word_behind j) air ∙ word_behind-is j (preamble_bits 18) (words_bits us) lf)
          (ap (word_behind j) whole ∙ word_behind-is j (preamble_bits 18) (drop 576 copy) lf));
    }
