-- The words of a transmission, one at a time.
use Rattle.std.proofs.Common.{◌≡◌, ◌≢◌, ℕ, zero, suc, ◌*◌, ◌/◌, List, [], ◌∷◌, ◌++◌, length, take, drop, replicate, refl, ◌∙◌, ap, arith, length-append, length-drop}
use Rattle.std.proofs.lemmas.List.{length-map, length-replicate}
use Rattle.codeword.specs.declared.words.TheConstants.{SYNC}
use Rattle.page_text.specs.Page.{Page}
use Rattle.scheduler.specs.Said.{word_in, AreSlots}
use Rattle.scheduler.specs.declared.slots.Slot.{Slot}
use Rattle.scheduler.proofs.Said.{slots_schedule}
use Rattle.scheduler.proofs.Standing.{few-slots, whole-slots}
use Rattle.codeword.specs.Words.{filler}
use Rattle.air.specs.Air.{batches, preamble, transmission}
use Rattle.air.specs.Sends.{words_of_slots}
use Rattle.air.specs.Left.{with_sync, AreFew, AreWords}
use Rattle.air.proofs.Batches.{length-batches}

-- before the next sync word so many slots come
with_sync-take : (k : ℕ) (slots : List ℕ) → with_sync k slots ≡ take k slots ++ with_sync 0 (drop k slots)
with_sync-take zero [] = refl
with_sync-take zero (word ∷ slots) = refl
with_sync-take (suc k) [] = refl
with_sync-take (suc k) (word ∷ slots) = ap (λ l. word ∷ l) (with_sync-take k slots)

-- a sync word comes where a slot is left
pub with_sync-first : (slots : List ℕ) → slots ≢ [] → with_sync 0 slots ≡ SYNC ∷ with_sync 16 slots
with_sync-first [] some = absurd (some refl)
with_sync-first (word ∷ slots) some = refl

-- whole batches are batches
pub with_sync-batches : (n : ℕ) (slots : List ℕ) → length slots ≡ 16 * n → with_sync 0 slots ≡ batches n slots
unfolding batches
with_sync-batches zero [] l = refl
with_sync-batches zero (word ∷ slots) l = absurd (omega (arith, l))
with_sync-batches (suc n) slots l =
    with_sync-first slots (some slots l) ∙ ap (λ l. SYNC ∷ l) (with_sync-take 16 slots)
    ∙ ap (λ l. SYNC ∷ (take 16 slots ++ l)) (with_sync-batches n (drop 16 slots) (omega (arith, l, length-drop 16 slots)))
  where
    some : (slots : List ℕ) → length slots ≡ 16 * suc n → slots ≢ []
    some [] l e = absurd (omega (arith, l))
    some (word ∷ slots) l e = cc

-- the words from the start of a transmission on
pub words-begin : (accepted : List Page) (slots : List Slot) (p : ℕ) → p ≡ 18 → accepted ≢ [] → AreSlots accepted slots
    → replicate p filler ++ with_sync 0 (words_of_slots slots) ≡ transmission (words_of_slots slots)
unfolding preamble
words-begin accepted slots p e some are =
    let w = whole-slots accepted slots are in
    let l : length (words_of_slots slots) ≡ 16 * w.0 = length-map slots word_in ∙ w.1 in
    let n : w.0 ≡ length (words_of_slots slots) / 16 = omega (arith, l) in
    ap (λ n. replicate n filler ++ with_sync 0 (words_of_slots slots)) e
    ∙ ap (λ l. replicate 18 filler ++ l) (with_sync-batches w.0 (words_of_slots slots) l ∙ ap (λ n. batches n (words_of_slots slots)) n)

-- they are the words of the transmission
pub are_words : (accepted : List Page) (slots : List Slot) (words : List ℕ) → accepted ≢ [] → AreSlots accepted slots
    → words ≡ transmission (words_of_slots slots) → AreWords accepted words
are_words [] slots words some are e = absurd (some refl)
are_words (page ∷ accepted) slots words some are e = (words_of_slots slots, slots_schedule (page ∷ accepted) slots are, e)

-- no words
pub no_words : (accepted : List Page) (words : List ℕ) → accepted ≡ [] → words ≡ [] → AreWords accepted words
no_words [] words e h = h
no_words (page ∷ accepted) words e h = cc

-- they are few
pub are_few : (accepted : List Page) (slots : List Slot) (words : List ℕ) → accepted ≢ [] → AreSlots accepted slots
    → words ≡ transmission (words_of_slots slots) → AreFew accepted words
unfolding preamble
are_few accepted slots words some are e =
    let w = whole-slots accepted slots are in
    let l : length (words_of_slots slots) ≡ 16 * w.0 = length-map slots word_in ∙ w.1 in
    let n : length (words_of_slots slots) / 16 ≡ w.0 = omega (arith, l) in
    let b = length-batches w.0 (words_of_slots slots) (omega (arith, l)) in
    let all : length words ≡ length (replicate 18 filler ++ batches w.0 (words_of_slots slots)) =
    ap length (e ∙ ap (λ n. replicate 18 filler ++ batches n (words_of_slots slots)) n) in
    record {
      batches = w.0;
      words_are = omega (arith, all, b, length-append (replicate 18 filler) (batches w.0 (words_of_slots slots)), length-replicate 18 filler);
      few = omega (arith, w.1, few-slots accepted slots some are);
    }
