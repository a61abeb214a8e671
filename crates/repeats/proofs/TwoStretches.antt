-- The stretches of two copies: one slot for each slot that was sent, near it or with no codeword.
use Rattle.std.proofs.Common.{◌≡◌, ℕ, suc, ◌*◌, ◌/◌, Bool, List, [], ◌∷◌, ◌++◌, length, arith, refl, ◌∙◌, ap, ap₂, sym, inl, inr, append_assoc, append-nil, le-leb}
use Rattle.std.proofs.lemmas.Bool.{both_ways}
use Rattle.bits.specs.Bits.{word_bits, words_bits, dist}
use Rattle.codeword.specs.Words.{filler}
use Rattle.air.specs.Air.{batches, preamble}
use Rattle.air.specs.Near.{word_behind}
use Rattle.receiver.specs.Stretches.{first_words, stretches}
use Rattle.receiver.specs.Slots.{stretch_slots}
use Rattle.receiver.specs.Windows.{preamble_bits}
use Rattle.near.proofs.NearWords.{AreHeard, BitsAt, IsCopy, copy_parts}
use Rattle.near.proofs.NearStretches.{number_of_slot, nothing, next, first_stretch}
use Rattle.repeats.specs.Kept.{IsNearOrNone, near_word}

-- a copy whose words are near or have no codeword, by the marks of its near words
copy_marks : (air copy : List Bool) → IsNearOrNone air copy → IsCopy (near_word air copy) air copy
copy_marks air copy h = record {
  whole = h.whole;
  preamble = h.preamble;
  words = at;
  syncs = λ k z. le-leb (dist (word_behind k copy) (word_behind k air)) 2 (h.syncs k z);
}
  where
    at : (k : ℕ) → BitsAt (near_word air copy) k (word_behind k air) (word_behind k copy)
    at k = record {
      is = refl;
      none = λ far. elim (h.slots k) [
        | inl near ↦ absurd (both_ways (near_word air copy k) far (le-leb (dist (word_behind k copy) (word_behind k air)) 2 near))
        | inr none ↦ none
      ];
    }

-- ---- two copies

-- The stretches of what is heard are two, with one slot for each slot that was sent, near it in the copy or not read.
pub record TwoStretches (slots : List ℕ) (first second : List Bool) : Type 0 where
  pub one : List ℕ
  pub other : List ℕ
  pub all : stretches (first ++ second) ≡ one ∷ other ∷ []
  pub heard_one : AreHeard (λ p. near_word (words_bits (preamble ++ batches (length slots / 16) slots)) first (suc (number_of_slot p))) 0 slots (stretch_slots one)
  pub heard_other : AreHeard (λ p. near_word (words_bits (preamble ++ batches (length slots / 16) slots)) second (suc (number_of_slot p))) 0 slots (stretch_slots other)

pub two_stretches : (n : ℕ) (slots : List ℕ) (first second : List Bool) → length slots ≡ 16 * suc n
    → IsNearOrNone (words_bits (preamble ++ batches (length slots / 16) slots)) first
    → IsNearOrNone (words_bits (preamble ++ batches (length slots / 16) slots)) second
    → TwoStretches slots first second
two_stretches n slots first second l h1 h2 =
    let air = words_bits (preamble ++ batches (length slots / 16) slots) in
    let e : length slots / 16 ≡ suc n = omega arith in
    let c1 = copy_parts (near_word air first) (batches (length slots / 16) slots) first (copy_marks air first h1) in
    let c2 = copy_parts (near_word air second) (batches (length slots / 16) slots) second (copy_marks air second h2) in
    let s2 = first_stretch (near_word air second) 17 n slots c2.body [] [] l (long_at (length slots / 16) (suc n) slots c2.body e c2.long) (copy_marks air second h2).syncs
    (heard_at (near_word air second) (length slots / 16) (suc n) slots c2.body e c2.heard) nothing in
    let more = preamble_bits 17 ++ (c2.body ++ []) in
    let s1 = first_stretch (near_word air first) 18 n slots c1.body (word_bits filler ++ more) (stretches more) l (long_at (length slots / 16) (suc n) slots c1.body e c1.long) (copy_marks air first h1).syncs
    (heard_at (near_word air first) (length slots / 16) (suc n) slots c1.body e c1.heard) (next more) in
    let behind : second ≡ word_bits filler ++ more =
    c2.whole ∙ ap (λ (xs : List Bool). preamble_bits 18 ++ xs) (sym (append-nil c2.body)) ∙ append_assoc (word_bits filler) (preamble_bits 17) (c2.body ++ []) in
    let whole : first ++ second ≡ preamble_bits 18 ++ (c1.body ++ (word_bits filler ++ more)) =
    ap₂ (λ (x y : List Bool). x ++ y) c1.whole behind ∙ append_assoc (preamble_bits 18) c1.body (word_bits filler ++ more) in
    record {
      one = s1.words;
      other = s2.words;
      all = ap stretches whole ∙ s1.first ∙ ap (λ (xs : List (List ℕ)). s1.words ∷ xs) s2.first;
      heard_one = s1.heard;
      heard_other = s2.heard;
    }
  where
    long_at : (i j : ℕ) (slots : List ℕ) (body : List Bool) → i ≡ j → length body ≡ 32 * length (batches i slots) → length body ≡ 32 * length (batches j slots)
    long_at i j slots body e h = h ∙ ap (λ (k : ℕ). 32 * length (batches k slots)) e

    heard_at : (near : ℕ → Bool) (i j : ℕ) (slots : List ℕ) (body : List Bool) → i ≡ j
        → AreHeard near 0 (batches i slots) (first_words (length (batches i slots)) body) → AreHeard near 0 (batches j slots) (first_words (length (batches j slots)) body)
    heard_at near i j slots body e h = rw (← e) h
