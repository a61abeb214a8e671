-- The first stretch of what is heard of a transmission: one slot for each slot that was sent, near it or not read.
use Rattle.std.proofs.Common.{◌≡◌, ℕ, zero, suc, ◌+◌, ◌-◌, ◌*◌, ◌/◌, ◌%◌, ◌≤◌, ◌≢◌, nat_le, Bool, true, false, List, [], ◌∷◌, ◌++◌, length, length-append, length-drop, length-take-le, take, drop, Option, Some, None, option_map, arith, refl, sym, ◌∙◌, ap, ap₂, ◌⊎◌, inl, inr, append_assoc, append-nil, eq-eqb, eqb-true, ne_eqb, add-zero, take-append-drop, lit<}
use Rattle.std.proofs.lemmas.List.{take_at, drop_at, take_all, drop-drop}
use Rattle.std.proofs.lemmas.Bool.{cases_Bool, leb-true, both_ways}
use Rattle.bits.specs.Bits.{word_bits, number, dist}
use Rattle.bits.proofs.Lengths.{length-bits_of}
use Rattle.bits.proofs.Numbers.{number-bits_of}
use Rattle.codeword.specs.declared.words.TheConstants.{SYNC}
use Rattle.air.specs.Air.{batches}
use Rattle.air.proofs.Batches.{length-batches}
use Rattle.receiver.specs.Stretches.{is_sync, is_sync_place, first_words, words_of_bits, held_with, held_from, held_words, loss_with, loss_from, after_loss, after_sync, later_with, stretches_with, stretches}
use Rattle.receiver.specs.Slots.{slots_with, slots_from, stretch_slots}
use Rattle.codeword.specs.Words.{filler}
use Rattle.receiver.specs.Windows.{preamble_bits}
use Rattle.receiver.proofs.Hunts.{word_bits-number}
use Rattle.receiver.proofs.Locks.{first_words-append, first_words-split}
use Rattle.receiver.proofs.Stretches.{stretches-is, loss_goes}
use Rattle.receiver.proofs.Windows.{finds_sync_word, filler_ends}
use Rattle.near.proofs.NearWords.{HeardAt, AreHeard, heard_later, length-heard}

-- ---- a lock over words with a sync word at each sync place

-- the words of a lock from the number k on have the sync word at each sync place
unfoldable pub IsFramed : ℕ → List ℕ → Type 0
IsFramed k [] = Unit {0}
IsFramed k (u ∷ us) = (is_sync_place k ≡ true → u ≡ SYNC) × IsFramed (suc k) us

-- the words at sync places are near
abbrev pub SyncsAreNear : (ℕ → Bool) → Type 0
SyncsAreNear near = (k : ℕ) → is_sync_place k ≡ true → near k ≡ true

good_word : (near : ℕ → Bool) (k u w : ℕ) → SyncsAreNear near → (is_sync_place k ≡ true → u ≡ SYNC) → HeardAt near k u w → (is_sync_place k ≡ false) ⊎ (is_sync w ≡ true)
good_word near k u w syncs at h = elim (cases_Bool (is_sync_place k)) [
  | inl held ↦ inr (sym (ap (λ (v : ℕ). nat_le (dist (word_bits w) (word_bits v)) 2) (at held)) ∙ sym h.is ∙ syncs k held)
  | inr other ↦ inl other
]

held_goes : (p g : Bool) (w : ℕ) (later : List ℕ) → (p ≡ false) ⊎ (g ≡ true) → held_with p g w later ≡ w ∷ later
held_goes true true w later h = refl
held_goes true false w later h = elim h [ inl x ↦ cc | inr y ↦ cc ]
held_goes false g w later h = refl

suc_plus : (l : ℕ) (o : Option ℕ) → option_map suc (option_map (λ n. l + n) o) ≡ option_map (λ n. suc l + n) o
suc_plus l None = refl
suc_plus l (Some n) = let e : suc (l + n) ≡ suc l + n = omega arith in ap (λ (x : ℕ). Some x) e

zero_plus : (o : Option ℕ) → o ≡ option_map (λ n. 0 + n) o
zero_plus None = refl
zero_plus (Some n) = let e : n ≡ 0 + n = omega arith in ap (λ (x : ℕ). Some x) e

-- A lock over words as heard, near at sync places, holds them all and goes on behind them.
pub record Goes (k : ℕ) (us ws vs : List ℕ) : Type 0 where
  pub held : held_from k (ws ++ vs) ≡ ws ++ held_from (k + length ws) vs
  pub loss : loss_from k (ws ++ vs) ≡ option_map (λ n. length ws + n) (loss_from (k + length ws) vs)

pub framed_lock : (near : ℕ → Bool) (k : ℕ) (us ws vs : List ℕ) → SyncsAreNear near → IsFramed k us → AreHeard near k us ws → Goes k us ws vs
unfolding IsFramed AreHeard held_from loss_from
framed_lock near k [] [] vs syncs f h = record {
  held = ap (λ (n : ℕ). held_from n vs) (sym (add-zero k));
  loss = zero_plus (loss_from k vs) ∙ ap (λ (n : ℕ). option_map (λ m. 0 + m) (loss_from n vs)) (sym (add-zero k));
}
framed_lock near k [] (w ∷ ws) vs syncs f h = absurd (let e : w ∷ ws ≡ [] = h in cc)
framed_lock near k (u ∷ us) [] vs syncs f h = absurd h
framed_lock near k (u ∷ us) (w ∷ ws) vs syncs f h =
    let ih = framed_lock near (suc k) us ws vs syncs f.1 h.1 in
    let good = good_word near k u w syncs f.0 h.0 in
    let e : suc k + length ws ≡ k + suc (length ws) = omega arith in
    record {
      held = ap (held_with (is_sync_place k) (is_sync w) w) (ih.held ∙ ap (λ (n : ℕ). ws ++ held_from n vs) e)
          ∙ held_goes (is_sync_place k) (is_sync w) w (ws ++ held_from (k + suc (length ws)) vs) good;
      loss = ap (loss_with (is_sync_place k) (is_sync w)) (ih.loss ∙ ap (λ (n : ℕ). option_map (λ m. length ws + m) (loss_from n vs)) e)
          ∙ loss_goes (is_sync_place k) (is_sync w) (option_map (λ m. length ws + m) (loss_from (k + suc (length ws)) vs)) good
          ∙ suc_plus (length ws) (loss_from (k + suc (length ws)) vs);
    }

-- ---- the slots among them

-- the number, in its stretch, of the word in a slot, and the slot of the word of a number
abbrev pub number_of_slot : ℕ → ℕ
number_of_slot place = place / 16 * 17 + place % 16

abbrev pub slot_of_number : ℕ → ℕ
slot_of_number k = k - k / 17

at_slot : (near : ℕ → Bool) (k u w p : ℕ) → HeardAt near k u w → number_of_slot p ≡ k → HeardAt (λ q. near (number_of_slot q)) p u w
at_slot near k u w p h e = record { small = h.small; is = ap near e ∙ h.is; none = λ far. h.none (sym (ap near e) ∙ far) }

moved : (near : ℕ → Bool) (j k : ℕ) (us ws : List ℕ) → AreHeard near j us ws → j ≡ k → AreHeard near k us ws
moved near j k us ws h e = rw (← e) h

one_slot : (near : ℕ → Bool) (s : Bool) (k u w : ℕ) (us ws : List ℕ) → is_sync_place k ≡ s → HeardAt near k u w
    → AreHeard (λ p. near (number_of_slot p)) (slot_of_number (suc k)) us ws
    → AreHeard (λ p. near (number_of_slot p)) (slot_of_number k) (slots_with s u us) (slots_with s w ws)
unfolding AreHeard
one_slot near true k u w us ws e h ih =
    let r = eqb-true (k % 17) 16 e in
    moved (λ p. near (number_of_slot p)) (slot_of_number (suc k)) (slot_of_number k) us ws ih (omega arith)
one_slot near false k u w us ws e h ih =
    let r : k % 17 ≢ 16 = λ z. both_ways (is_sync_place k) e (eq-eqb (k % 17) 16 z) in (
      at_slot near k u w (slot_of_number k) h (omega arith),
      moved (λ p. near (number_of_slot p)) (slot_of_number (suc k)) (suc (slot_of_number k)) us ws ih (omega arith),
    )

-- the slots of words as heard are as heard, each at its place
pub slots_heard : (near : ℕ → Bool) (k : ℕ) (us ws : List ℕ) → AreHeard near k us ws
    → AreHeard (λ p. near (number_of_slot p)) (slot_of_number k) (slots_from k us) (slots_from k ws)
unfolding AreHeard slots_from
slots_heard near k [] [] h = refl
slots_heard near k [] (w ∷ ws) h = absurd (let e : w ∷ ws ≡ [] = h in cc)
slots_heard near k (u ∷ us) [] h = absurd h
slots_heard near k (u ∷ us) (w ∷ ws) h =
    one_slot near (is_sync_place k) k u w (slots_from (suc k) us) (slots_from (suc k) ws) refl h.0 (slots_heard near (suc k) us ws h.1)

-- ---- the batches are framed

-- framed words, their slots, and how many they are
pub record Frames (k : ℕ) (us slots : List ℕ) : Type 0 where
  pub framed : IsFramed k us
  pub slots-are : slots_from k us ≡ slots

-- words at no sync place in front of framed ones
framed_slots : (k : ℕ) (us vs slots : List ℕ) → k % 17 + length us ≤ 16 → Frames (k + length us) vs slots → Frames k (us ++ vs) (us ++ slots)
unfolding IsFramed slots_from
framed_slots k [] vs slots h f = let e = add-zero k in record { framed = rw e at f.framed; slots-are = rw e at f.slots-are }
framed_slots k (u ∷ us) vs slots h f =
    let e : k + suc (length us) ≡ suc k + length us = omega arith in
    let m : suc k % 17 ≡ k % 17 + 1 = omega arith in
    let g : Frames (suc k + length us) vs slots = rw (← e) f in
    let ih = framed_slots (suc k) us vs slots (omega arith) g in
    let other : is_sync_place k ≡ false = ne_eqb (k % 17) 16 (λ q. omega arith) in
    record {
      framed = (λ held. absurd (both_ways (is_sync_place k) other held), ih.framed);
      slots-are = ap (λ (p : Bool). slots_with p u (slots_from (suc k) (us ++ vs))) other ∙ ap (λ (xs : List ℕ). u ∷ xs) ih.slots-are;
    }

-- what follows the first sync word: 16 slots, and the other batches
abbrev pub after_first : ℕ → List ℕ → List ℕ
after_first n slots = take 16 slots ++ batches n (drop 16 slots)

pub batches_framed : (n k : ℕ) (slots : List ℕ) → k % 17 ≡ 0 → length slots ≡ 16 * suc n → Frames k (after_first n slots) slots
unfolding batches IsFramed slots_from
batches_framed zero k slots z l =
    let t = length-take-le 16 slots (omega arith) in
    let f = framed_slots k (take 16 slots) [] [] (omega arith) (record { framed = tt; slots-are = refl }) in
    record { framed = f.framed; slots-are = f.slots-are ∙ append-nil (take 16 slots) ∙ take_all 16 slots (omega arith) }
batches_framed (suc n) k slots z l =
    let t = length-take-le 16 slots (omega arith) in
    let d = length-drop 16 slots in
    let held : is_sync_place (k + length (take 16 slots)) ≡ true = eq-eqb ((k + length (take 16 slots)) % 17) 16 (omega arith) in
    let ih = batches_framed n (suc (k + length (take 16 slots))) (drop 16 slots) (omega arith) (omega arith) in
    let later : Frames (k + length (take 16 slots)) (SYNC ∷ after_first n (drop 16 slots)) (drop 16 slots) =
    record {
      framed = (λ y. refl, ih.framed);
      slots-are = ap (λ (p : Bool). slots_with p SYNC (slots_from (suc (k + length (take 16 slots))) (after_first n (drop 16 slots)))) held ∙ ih.slots-are;
    } in
    let f = framed_slots k (take 16 slots) (SYNC ∷ after_first n (drop 16 slots)) (drop 16 slots) (omega arith) later in
    record { framed = f.framed; slots-are = f.slots-are ∙ take-append-drop 16 slots }

length-after_first : (n : ℕ) (slots : List ℕ) → length slots ≡ 16 * suc n → length (after_first n slots) + 1 ≡ 17 * suc n
length-after_first n slots l =
    let t = length-take-le 16 slots (omega arith) in
    let d = length-drop 16 slots in
    let a = length-append (take 16 slots) (batches n (drop 16 slots)) in
    let b = length-batches n (drop 16 slots) (omega arith) in
    omega arith

-- ---- the first stretch

words_of-behind : (n : ℕ) (body rest : List Bool) → length body ≡ 32 * n → words_of_bits (body ++ rest) ≡ first_words n body ++ words_of_bits rest
words_of-behind n body rest h =
    let l = length-append body rest in
    let e : length (body ++ rest) / 32 ≡ n + length rest / 32 = omega arith in
    ap (λ (k : ℕ). first_words k (body ++ rest)) e ∙ first_words-split n (length rest / 32) (body ++ rest)
    ∙ ap₂ (λ (xs : List ℕ) (ys : List Bool). xs ++ first_words (length rest / 32) ys) (first_words-append n body rest (omega arith)) (drop_at body rest (32 * n) h)

-- What comes after a transmission: nothing, or the first word of the next preamble and more.
pub data After : List Bool → List (List ℕ) → Type 0 where
  nothing : After [] []
  next : (more : List Bool) → After (word_bits filler ++ more) (stretches more)

filler_first : (more : List Bool) → words_of_bits (word_bits filler ++ more) ≡ filler ∷ words_of_bits more
unfolding first_words
filler_first more =
    let l = length-append (word_bits filler) more in
    let f : length (word_bits filler) ≡ 32 = length-bits_of 32 filler in
    let e : length (word_bits filler ++ more) / 32 ≡ suc (length more / 32) = omega arith in
    ap (λ (k : ℕ). first_words k (word_bits filler ++ more)) e
    ∙ ap₂ (λ (x : ℕ) (ys : List Bool). x ∷ first_words (length more / 32) ys)
    (ap number (take_at (word_bits filler) more 32 f) ∙ number-bits_of 32 filler (lit< tt))
    (drop_at (word_bits filler) more 32 f)

-- These stretches are the later ones and one before them, whose slots are as heard of those that were sent.
pub record FirstStretch (near : ℕ → Bool) (slots : List ℕ) (all : List (List ℕ)) (later : List (List ℕ)) : Type 0 where
  pub words : List ℕ
  pub first : all ≡ words ∷ later
  pub heard : AreHeard (λ p. near (number_of_slot p)) 0 slots (stretch_slots words)

sent_slots : (near : ℕ → Bool) (us ws slots : List ℕ) → AreHeard near 0 us ws → slots_from 0 us ≡ slots → AreHeard (λ p. near (number_of_slot p)) 0 slots (stretch_slots ws)
sent_slots near us ws slots h e = rw e at (slots_heard near 0 us ws h)

lock_ends : (near : ℕ → Bool) (us : List ℕ) (n : ℕ) (slots : List ℕ) (body rest : List Bool) (later : List (List ℕ))
    → SyncsAreNear near → Frames 0 us slots → length us + 1 ≡ 17 * suc n → length body ≡ 32 * length us
    → AreHeard near 0 us (first_words (length us) body) → After rest later
    → FirstStretch near slots (held_words (body ++ rest) ∷ later_with stretches (after_loss (body ++ rest))) later
unfolding held_from loss_from first_words
lock_ends near us n slots body rest later syncs frames count l h nothing =
    let w = words_of-behind (length us) body [] l in
    let f = framed_lock near 0 us (first_words (length us) body) [] syncs frames.framed h in
    record {
      words = first_words (length us) body;
      first = ap₂ (λ (x : List ℕ) (y : Option ℕ). x ∷ later_with stretches (option_map (λ n. drop (32 * n) (body ++ [])) y))
          (ap (held_from 0) w ∙ f.held ∙ append-nil (first_words (length us) body)) (ap (loss_from 0) w ∙ f.loss);
      heard = sent_slots near us (first_words (length us) body) slots h frames.slots-are;
    }
lock_ends near us n slots body rest later syncs frames count l h (next more) =
    let w : words_of_bits (body ++ (word_bits filler ++ more)) ≡ first_words (length us) body ++ (filler ∷ words_of_bits more) =
    words_of-behind (length us) body (word_bits filler ++ more) l ∙ ap (λ (xs : List ℕ). first_words (length us) body ++ xs) (filler_first more) in
    let f = framed_lock near 0 us (first_words (length us) body) (filler ∷ words_of_bits more) syncs frames.framed h in
    let n1 = length-heard near 0 us (first_words (length us) body) h in
    let at : is_sync_place (0 + length (first_words (length us) body)) ≡ true = eq-eqb ((0 + length (first_words (length us) body)) % 17) 16 (omega arith) in
    let ends = filler_ends (0 + length (first_words (length us) body)) (words_of_bits more) at in
    let left = dropped (first_words (length us) body) body more (omega arith) in
    record {
      words = first_words (length us) body;
      first = ap₂ (λ (x : List ℕ) (y : Option ℕ). x ∷ later_with stretches (option_map (λ n. drop (32 * n) (body ++ (word_bits filler ++ more))) y))
          (ap (held_from 0) w ∙ f.held ∙ ap (λ (xs : List ℕ). first_words (length us) body ++ xs) ends.0 ∙ append-nil (first_words (length us) body))
          (ap (loss_from 0) w ∙ f.loss ∙ ap (option_map (λ n. length (first_words (length us) body) + n)) ends.1)
          ∙ ap (λ (xs : List Bool). first_words (length us) body ∷ stretches xs) left;
      heard = sent_slots near us (first_words (length us) body) slots h frames.slots-are;
    }
  where
    dropped : (ws : List ℕ) (body more : List Bool) → length body ≡ 32 * length ws → drop (32 * (length ws + 1)) (body ++ (word_bits filler ++ more)) ≡ more
    dropped ws body more h =
        let e : 32 * (length ws + 1) ≡ 32 * length ws + 32 = omega arith in
        ap (λ (k : ℕ). drop k (body ++ (word_bits filler ++ more))) e
        ∙ sym (drop-drop 32 (32 * length ws) (body ++ (word_bits filler ++ more)))
        ∙ ap (drop 32) (drop_at body (word_bits filler ++ more) (32 * length ws) h)
        ∙ drop_at (word_bits filler) more 32 (length-bits_of 32 filler)

-- every 17th word behind the preamble is near, and these are those at sync places behind the first sync word
syncs_later : (near : ℕ → Bool) → ((k : ℕ) → k % 17 ≡ 0 → near k ≡ true) → SyncsAreNear (λ j. near (suc j))
syncs_later near h k at = let r = eqb-true (k % 17) 16 at in h (suc k) (omega arith)

-- the first word of the batches is near the sync word
first_near : (near : ℕ → Bool) (n : ℕ) (slots : List ℕ) (body : List Bool) → near 0 ≡ true
    → AreHeard near 0 (batches (suc n) slots) (first_words (length (batches (suc n) slots)) body) → length (take 32 body) ≡ 32
    → dist (take 32 body) (word_bits SYNC) ≤ 2
unfolding AreHeard batches first_words
first_near near n slots body z h l =
    let same = word_bits-number (take 32 body) l in
    let d : dist (word_bits (number (take 32 body))) (word_bits SYNC) ≤ 2 = leb-true (dist (word_bits (number (take 32 body))) (word_bits SYNC)) 2 (sym h.0.is ∙ z) in
    rw same at d

others_heard : (near : ℕ → Bool) (n : ℕ) (slots : List ℕ) (body : List Bool)
    → AreHeard near 0 (batches (suc n) slots) (first_words (length (batches (suc n) slots)) body)
    → AreHeard (λ j. near (suc j)) 0 (after_first n slots) (first_words (length (after_first n slots)) (drop 32 body))
unfolding AreHeard batches first_words
others_heard near n slots body h = heard_later near 0 (after_first n slots) (first_words (length (after_first n slots)) (drop 32 body)) h.1

-- After a clean preamble the first stretch has one slot for each slot that was sent, as heard.
pub first_stretch : (near : ℕ → Bool) (m n : ℕ) (slots : List ℕ) (body rest : List Bool) (later : List (List ℕ)) → length slots ≡ 16 * suc n
    → length body ≡ 32 * length (batches (suc n) slots) → ((k : ℕ) → k % 17 ≡ 0 → near k ≡ true)
    → AreHeard near 0 (batches (suc n) slots) (first_words (length (batches (suc n) slots)) body) → After rest later
    → FirstStretch (λ j. near (suc j)) slots (stretches (preamble_bits m ++ (body ++ rest))) later
first_stretch near m n slots body rest later l lb syncs h after =
    let ba = length-batches (suc n) slots (omega arith) in
    let la = length-after_first n slots l in
    let ld = length-drop 32 body in
    let b = batches_framed n 0 slots (omega arith) l in
    let s = lock_ends (λ j. near (suc j)) (after_first n slots) n slots (drop 32 body) rest later (syncs_later near syncs) b la
    (omega (arith, lb, ba, la, ld)) (others_heard near n slots body h) after in
    let t = length-take-le 32 body (omega (arith, lb, ba)) in
    let whole : preamble_bits m ++ (body ++ rest) ≡ preamble_bits m ++ (take 32 body ++ (drop 32 body ++ rest)) =
    ap (λ (xs : List Bool). preamble_bits m ++ (xs ++ rest)) (sym (take-append-drop 32 body))
    ∙ ap (λ (xs : List Bool). preamble_bits m ++ xs) (append_assoc (take 32 body) (drop 32 body) rest) in
    record {
      words = s.words;
      first = stretches-is (preamble_bits m ++ (body ++ rest))
          ∙ ap (stretches_with stretches) (ap after_sync whole ∙ finds_sync_word m (take 32 body) (drop 32 body ++ rest) t (first_near near n slots body (syncs 0 refl) h t))
          ∙ s.first;
      heard = s.heard;
    }
