-- What each kind of word changes.
use Rattle.std.proofs.Common.{◌≡◌, ◌≢◌, ℕ, suc, List, [], ◌∷◌, Some, None, refl, sym, ◌∙◌, ap, subst, append-nil}
use Rattle.codeword.specs.declared.words.TheConstants.{SYNC}
use Rattle.page_pool.specs.Pool.{Pool, pages}
use Rattle.scheduler.specs.Said.{word_in}
use Rattle.scheduler.specs.Sendings.{slots_to_come, IsSendingOf, SendingStandsAt}
use Rattle.scheduler.specs.Sendings.{GivesOneSlot as GivesSlot}
use Rattle.scheduler.specs.declared.slots.Slot.{Slot}
use Rattle.scheduler.specs.declared.sendings.Sending.{Sending}
use Rattle.codeword.specs.Words.{filler}
use Rattle.air.specs.Sends.{words_of_slots}
use Rattle.air.specs.Left.{with_sync, GivesWord, Stays}
use Rattle.air.specs.declared.order.Order.{Order}
use Rattle.air.proofs.Taking.{Keeps-same}
use Rattle.air.proofs.WithSync.{with_sync-first}

-- so far has a transmission come
abbrev order : ℕ → ℕ → Sending → Order
order p r d = record { preamble = p; room = r; sending = d }

-- no slot was given
none_given : (p q r t : ℕ) (d : Sending) (w : Pool) → Stays [] (order p r d) w (order q t d) w
none_given p q r t d w = λ a h s. subst (λ (l : List Slot). SendingStandsAt a l w d.place d.before) (sym (append-nil h)) s

-- a word of the preamble
pub gives_filler : (p q r : ℕ) (d : Sending) (w : Pool) → IsSendingOf d w → p ≡ suc q → GivesWord (Some filler) (order p r d) w (order q r d) w
gives_filler p q r d w f e =
    subst (λ (n : ℕ). GivesWord (Some filler) (order n r d) w (order q r d) w) (sym e)
    (record { follows = f; next = refl; ended = tt; slots = []; has_slot = refl; stands = none_given (suc q) q r r d w; keeps = Keeps-same w })

-- slots have words
some_words : (slots : List Slot) → slots ≢ [] → words_of_slots slots ≢ []
some_words [] some e = some refl
some_words (slot ∷ slots) some e = cc

-- a sync word
pub gives_sync : (p r : ℕ) (d : Sending) (w : Pool) → IsSendingOf d w → p ≡ 0 → r ≡ 0 → slots_to_come w d.place d.before ≢ []
    → GivesWord (Some SYNC) (order p r d) w (order p 16 d) w
gives_sync p r d w f e z some =
    subst (λ (n : ℕ). GivesWord (Some SYNC) (order n r d) w (order n 16 d) w) (sym e)
    (subst (λ (n : ℕ). GivesWord (Some SYNC) (order 0 n d) w (order 0 16 d) w) (sym z)
    (record {
      follows = f;
      next = with_sync-first (words_of_slots (slots_to_come w d.place d.before)) (some_words (slots_to_come w d.place d.before) some);
      ended = tt;
      slots = [];
      has_slot = refl;
      stands = none_given 0 0 0 16 d w;
      keeps = Keeps-same w;
    }))

-- the word of a slot
pub gives_slot : (p r q word : ℕ) (slot : Slot) (d d' : Sending) (w w' : Pool) → p ≡ 0 → r ≡ suc q → GivesSlot slot d w d' w' → word ≡ word_in slot
    → GivesWord (Some word) (order p r d) w (order p q d') w'
gives_slot p r q word slot d d' w w' e z g is =
    subst (λ (n : ℕ). GivesWord (Some word) (order n r d) w (order n q d') w') (sym e)
    (subst (λ (n : ℕ). GivesWord (Some word) (order 0 n d) w (order 0 q d') w') (sym z)
    (record {
      follows = g.follows;
      next = ap (λ l. with_sync (suc q) (words_of_slots l)) g.next ∙ ap (λ x. x ∷ with_sync q (words_of_slots (slots_to_come w' d'.place d'.before))) (sym is);
      ended = tt;
      slots = slot ∷ [];
      has_slot = (slot, refl, is);
      stands = g.stands;
      keeps = g.keeps;
    }))

-- no word, at the end
pub gives_none : (p r : ℕ) (d : Sending) (w : Pool) → IsSendingOf d w → p ≡ 0 → slots_to_come w d.place d.before ≡ [] → pages w ≡ []
    → GivesWord None (order p r d) w (order p r d) w
gives_none p r d w f e none empty =
    subst (λ (n : ℕ). GivesWord None (order n r d) w (order n r d) w) (sym e)
    (let no_word : with_sync r (words_of_slots (slots_to_come w d.place d.before)) ≡ [] = ap (λ l. with_sync r (words_of_slots l)) none in
    record {
      follows = f;
      next = no_word;
      ended = (no_word, empty);
      slots = [];
      has_slot = refl;
      stands = none_given 0 0 r r d w;
      keeps = Keeps-same w;
    })
