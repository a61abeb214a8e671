-- A whole transmission of a pool's pages.
use Rattle.std.proofs.Common.{◌≡◌, ◌≢◌, ℕ, ◌*◌, ◌^◌, ◌≤◌, ◌<◌, Bool, List, [], ◌∷◌, length, map, Result, Err, IsErr, refl, ◌∙◌, subst, arith, append-nil}
use Rattle.std.proofs.lemmas.List.{length-map}
use Rattle.bits.specs.Bits.{words_bits}
use Rattle.page_text.specs.Page.{Page}
use Rattle.page_pool.specs.Pool.{Live, Pool, Sound, pages}
use Rattle.scheduler.specs.Said.{word_in, AreSlots}
use Rattle.scheduler.specs.declared.slots.Slot.{Slot}
use Rattle.scheduler.proofs.Ended.{no_live}
use Rattle.scheduler.proofs.Said.{slots_schedule}
use Rattle.scheduler.proofs.Standing.{few-slots, length-live, runs-live}
use Rattle.wires.specs.Written.{Puts, Written}
use Rattle.wires.proofs.Written.{Puts-cut}
use Rattle.air.specs.Air.{transmission, IsAir}
use Rattle.air.specs.Sends.{words_of_slots, most_slots, HasBatches, SendsTransmission}

-- a pool with live pages has pages to send
pub some_pages : (w : Pool) (n : ℕ) → n ≡ length w.live → (n ≡ 0 → ⊥) → pages w ≢ []
some_pages w n e h none = h (e ∙ no_live w none)

-- the live pages are all sent
pub none_live : (w : Pool) → pages w ≡ [] → w.live ≡ []
none_live w e = none w.live e
  where
    none : (es : List Live) → map (λ (e : Live). e.page) es ≡ [] → es ≡ []
    none [] e = refl
    none (x ∷ es) e = cc

-- the bits of a transmission
air_some : (accepted : List Page) (slots : List Slot) → accepted ≢ [] → AreSlots accepted slots → IsAir accepted (words_bits (transmission (words_of_slots slots)))
air_some [] slots some are = absurd (some refl)
air_some (page ∷ accepted) slots some are = (words_of_slots slots, slots_schedule (page ∷ accepted) slots are, refl)

-- how many batches it has
pub has_batches : (accepted : List Page) (slots : List Slot) (n : ℕ) → accepted ≢ [] → AreSlots accepted slots → length slots ≡ 16 * n → HasBatches accepted n
has_batches [] slots n some are e = absurd (some refl)
has_batches (page ∷ accepted) slots n some are e = (words_of_slots slots, slots_schedule (page ∷ accepted) slots are, length-map slots word_in ∙ e)

-- it was sent, or a front of it
pub sends_some : {T E : Type 0} (accepted : List Page) (slots : List Slot) (a b : Written Bool) (r : Result T E) → accepted ≢ [] → AreSlots accepted slots
    → Puts a b (words_bits (transmission (words_of_slots slots))) r → SendsTransmission accepted a b r
sends_some accepted slots a b r some are h = record { bits = words_bits (transmission (words_of_slots slots)); air = air_some accepted slots some are; puts = h }

-- a call that failed, whatever it would have answered
pub Puts-err : {A T U E F : Type 0} (a b : Written A) (p : List A) (e : E) (r : Result U F) → IsErr r → Puts {T = T} a b p (Err e) → Puts a b p r
Puts-err {A} a b p e r bad h = subst (λ (l : List A). Puts a b l r) (append-nil p) (Puts-cut a b p [] e r bad h)

-- the slots are few enough to be counted
pub countable : (w : Pool) (slots : List Slot) → Sound w → pages w ≢ [] → AreSlots (pages w) slots → length slots < 2 ^ 32
countable w slots sound some are =
    omega (arith, few-slots (pages w) slots some are, runs-live w sound, length-live w sound, length-map w.live (λ (e : Live). e.page))

-- the batches are few
pub few_batches : (accepted : List Page) (slots : List Slot) (n : ℕ) → accepted ≢ [] → AreSlots accepted slots → length slots ≡ 16 * n → 16 * n ≤ most_slots accepted
few_batches accepted slots n some are e = omega (arith, e, few-slots accepted slots some are)
