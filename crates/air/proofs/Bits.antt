-- The bits of a transmission, one or some at a time.
use Rattle.std.proofs.Common.{◌≡◌, ◌≢◌, ℕ, ◌-◌, ◌/◌, ◌%◌, ◌^◌, ◌<◌, ◌≤◌, ◌==◌, zero, suc, Bool, List, [], ◌∷◌, ◌++◌, length, length-append, map, replicate, Ok, Some, None, refl, sym, ◌∙◌, ap, ap₂, arith}
use Rattle.std.specs.Borrow.{GName}
use Rattle.bits.specs.Bits.{bits_of, words_bits}
use Rattle.page_text.specs.Page.{Page}
use Rattle.page_pool.specs.Pool.{Pool, cells, pages}
use Rattle.scheduler.specs.Said.{word_in}
use Rattle.scheduler.specs.Sendings.{IsSendingOf, KeepsPool, slots_to_come, text_under_way}
use Rattle.scheduler.specs.declared.slots.Slot.{Slot}
use Rattle.scheduler.proofs.Ended.{ended}
use Rattle.wires.specs.declared.Failed.{Failed}
use Rattle.wires.specs.Held.{Lent}
use Rattle.wires.specs.Left.{TakesOne, TakesPiece}
use Rattle.wires.proofs.Ahead.{cut_bits, goes_on, none_pending}
use Rattle.wires.proofs.Pieces.{none_left}
use Rattle.bits.proofs.Lengths.{length-bits_of}
use Rattle.codeword.specs.Words.{filler}
use Rattle.air.specs.Air.{IsAir}
use Rattle.air.specs.Left.{air_bits, bits_to_come, with_sync, words_to_come, AreWords}
use Rattle.air.specs.declared.order.Order.{Order}

-- the bits of the words of a transmission
pub air_words : (accepted : List Page) (words : List ℕ) → AreWords accepted words → IsAir accepted (words_bits words)
air_words [] words are = ap words_bits are
air_words (page ∷ accepted) words are = (are.0, are.1, ap words_bits are.2)

-- the pool is lent with its cells, and the counter
lends : (w w' : Pool) (a b c d : GName) → c ≡ a → d ≡ b → KeepsPool w w' → Lent c ∷ Lent d ∷ replicate (cells w') (Lent c) ≡ Lent a ∷ Lent b ∷ replicate (cells w) (Lent a)
lends w w' a b c d pool steps keeps =
    ap₂ (λ (x y : GName). Lent x ∷ Lent y ∷ replicate (cells w') (Lent x)) pool steps ∙ ap (λ (k : ℕ). Lent a ∷ Lent b ∷ replicate k (Lent a)) keeps.cells

module _ (p n p' n' : ℕ) (s s' : Order) (w w' : Pool) (a b c d : GName) (pool : c ≡ a) (steps : d ≡ b) (keeps : KeepsPool w w') where
  -- a bit came out
  pub takes_bit : (bit : Bool) → bits_to_come p n s w ≡ bit ∷ bits_to_come p' n' s' w'
      → TakesOne {E = Failed} (air_bits p n s w a b) (air_bits p' n' s' w' c d) (Ok (Some bit))
  takes_bit bit e = record {
    tells = refl;
    left = λ t. e;
    there = λ t here. refl;
    came = λ t. refl;
    steady = λ t u. (refl, refl);
    faults = record { later = omega arith; failed = tt; kept = refl };
    lent = lends w w' a b c d pool steps keeps;
  }

  -- none was left
  pub takes_none : bits_to_come p n s w ≡ [] → bits_to_come p' n' s' w' ≡ []
      → TakesOne {E = Failed} (air_bits p n s w a b) (air_bits p' n' s' w' c d) (Ok None)
  takes_none e h = record {
    tells = refl;
    left = λ t. (e, h);
    there = λ t here. refl;
    came = λ t. refl;
    steady = λ t u. (refl, refl);
    faults = record { later = omega arith; failed = tt; kept = refl };
    lent = lends w w' a b c d pool steps keeps;
  }

module _ (p n p' n' : ℕ) (s s' : Order) (w w' : Pool) (a b c d : GName) (pool : c ≡ a) (steps : d ≡ b) (keeps : KeepsPool w w') where
  -- a piece came out, which is empty only where no bit was left
  pub takes_piece : (most : ℕ) (piece : List Bool) → length piece ≤ most → bits_to_come p n s w ≡ piece ++ bits_to_come p' n' s' w' → (piece ≡ [] → bits_to_come p n s w ≡ [])
      → TakesPiece {E = Failed} most (air_bits p n s w a b) (air_bits p' n' s' w' c d) (Ok piece)
  takes_piece most piece few e end = record {
    tells = refl;
    few = few;
    left = λ t. (e, end);
    there = λ t here. refl;
    came = λ t. refl;
    steady = λ t u. (refl, refl);
    faults = record { later = omega arith; failed = tt; kept = refl };
    lent = lends w w' a b c d pool steps keeps;
  }

-- without words no bit is left
pub bits-none : (p n : ℕ) (s : Order) (w : Pool) → p ≡ 0 → words_to_come s w ≡ [] → bits_to_come p n s w ≡ []
bits-none p n s w z e = none_pending p n (words_bits (words_to_come s w)) z ∙ ap words_bits e

-- a list of which a front is empty, and one behind it
no_rest : {A : Type 0} (xs ys : List A) → xs ++ ys ≡ [] → ys ≡ []
no_rest [] ys e = e
no_rest (x ∷ xs) ys e = cc

-- only no word has no bits
no_words : (words : List ℕ) → words_bits words ≡ [] → words ≡ []
no_words [] e = refl
no_words (word ∷ words) e =
    absurd (let z = ap length e in omega (arith, z, length-append (bits_of 32 word) (words_bits words), length-bits_of 32 word))

-- and no slot no words
no_slots : (k : ℕ) (slots : List Slot) → with_sync k (map word_in slots) ≡ [] → slots ≡ []
no_slots k [] e = refl
no_slots zero (slot ∷ slots) e = cc
no_slots (suc k) (slot ∷ slots) e = cc

-- where no bit is left, no page is held
pub no_bit : (p n : ℕ) (s : Order) (w : Pool) → IsSendingOf s.sending w → bits_to_come p n s w ≡ [] → pages w ≡ []
no_bit p n s w f e =
    let words : words_to_come s w ≡ [] = no_words (words_to_come s w) (no_rest (bits_of p n) (words_bits (words_to_come s w)) e) in
    let slots = no_slots s.room (slots_to_come w s.sending.place s.sending.before)
    (no_rest (replicate s.preamble filler) (with_sync s.room (map word_in (slots_to_come w s.sending.place s.sending.before))) words) in
    (ended w s.sending.place s.sending.before (text_under_way s.sending) f.in_batch f.in_run slots).none

-- the first bit of the next word
pub bits-word : (p n : ℕ) (s s' : Order) (w w' : Pool) (word : ℕ) → p ≡ 0 → words_to_come s w ≡ word ∷ words_to_come s' w'
    → bits_to_come p n s w ≡ (word / 2147483648 % 2 == 1) ∷ bits_to_come 31 word s' w'
bits-word p n s s' w w' word z e =
    none_pending p n (words_bits (words_to_come s w)) z ∙ ap words_bits e
    ∙ goes_on 32 word (words_bits (words_to_come s' w')) (λ h. absurd (omega (arith, h)))

-- the next bit of the word that was begun
pub bits-bit : (p n : ℕ) (s : Order) (w : Pool) → p ≢ 0 → bits_to_come p n s w ≡ (n / 2 ^ (p - 1) % 2 == 1) ∷ bits_to_come (p - 1) n s w
bits-bit p n s w z = goes_on p n (words_bits (words_to_come s w)) z

-- the next word was begun, of which no bit was taken
pub bits-begun : (p n : ℕ) (s s' : Order) (w w' : Pool) (word : ℕ) → p ≡ 0 → words_to_come s w ≡ word ∷ words_to_come s' w' → bits_to_come 32 word s' w' ≡ bits_to_come p n s w
bits-begun p n s s' w w' word z e = sym (none_pending p n (words_bits (words_to_come s w)) z ∙ ap words_bits e)

-- an empty piece
pub nothing-comes : (piece : List Bool) (old new : List Bool) → piece ≡ bits_of 0 0 → new ≡ old → old ≡ [] → (length piece ≡ 0) × (old ≡ piece ++ new) × (piece ≡ [] → old ≡ [])
nothing-comes piece old new is same none =
    let z = is ∙ none_left 0 0 refl in
    (ap length z, sym same ∙ ap (λ (xs : List Bool). xs ++ new) (sym z), λ e. none)

-- the next bits of the word that was begun
pub bits-piece : (p n count : ℕ) (s : Order) (w : Pool) (piece old : List Bool) → 0 < count → count ≤ p → piece ≡ bits_of count (n / 2 ^ (p - count)) → bits_to_come p n s w ≡ old
    → (length piece ≡ count) × (old ≡ piece ++ bits_to_come (p - count) n s w) × (piece ≡ [] → old ≡ [])
bits-piece p n count s w piece old some le is same =
    let l : length piece ≡ count = ap length is ∙ length-bits_of count (n / 2 ^ (p - count)) in (
      l,
      sym same ∙ cut_bits p count n (words_bits (words_to_come s w)) le ∙ ap (λ (xs : List Bool). xs ++ bits_to_come (p - count) n s w) (sym is),
      λ e. absurd (let z = ap length e in omega (arith, some, l, z)),
    )
