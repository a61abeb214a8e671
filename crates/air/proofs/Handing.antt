-- A transmission that is handed to a sink piece by piece.
use Rattle.std.proofs.Common.{◌≡◌, ◌≢◌, ℕ, suc, ◌+◌, ◌-◌, ◌*◌, ◌/◌, ◌≤◌, ◌<◌, Bool, List, [], ◌∷◌, ◌++◌, length, map, take, drop, Result, Ok, Err, IsErr, OnErr, refl, sym, ◌∙◌, ap, subst, arith, append_assoc, append-nil, length-drop}
use Rattle.std.proofs.lemmas.List.{drop-drop, drop-map, take-map, length-map}
use Rattle.std.proofs.Math.Seq.{take-add}
use Rattle.bits.specs.Bits.{words_bits}
use Rattle.bits.proofs.Bytes.{words_bits-append}
use Rattle.codeword.specs.declared.words.TheConstants.{SYNC}
use Rattle.page_text.specs.Page.{Page}
use Rattle.scheduler.specs.Said.{word_in, AreSlots}
use Rattle.scheduler.specs.Sendings.{HeldPages}
use Rattle.scheduler.specs.declared.slots.Slot.{Slot}
use Rattle.wires.specs.Written.{Puts, Written}
use Rattle.wires.proofs.Written.{still, Puts-cut, Puts_words-fails, Puts_words-then}
use Rattle.air.specs.Air.{batches, preamble, transmission}
use Rattle.air.specs.Sends.{words_of_slots, SendingStops}
use Rattle.air.proofs.Batches.{batches-at, batches-last}

-- a call that succeeded, whatever it answered
pub Puts-ok : {A T U E F : Type 0} (a b : Written A) (p : List A) (x : T) (y : U) → Puts {E = E} a b p (Ok x) → Puts {E = F} a b p (Ok y)
Puts-ok a b p x y h = record {
  tells = h.tells;
  held = h.held;
  room = h.room;
  steady = λ t s l. (refl, (h.steady t s l).1);
  faults = record { later = h.faults.later; failed = tt; kept = h.faults.kept };
  lent = h.lent;
}

-- what holds after a failure
pub on_err : {T E P : Type 0} (r : Result T E) → IsErr r → P → OnErr r P
on_err (Ok x) h p = cc
on_err (Err e) h p = p

-- a batch of the slots that are left
pub batch_is : (items : List ℕ) (slots left : List Slot) (k : ℕ) → left ≡ drop (16 * k) slots → items ≡ SYNC ∷ words_of_slots (take 16 left)
    → items ≡ SYNC ∷ take 16 (drop (16 * k) (words_of_slots slots))
batch_is items slots left k e is =
    is ∙ ap (λ l. SYNC ∷ map word_in (take 16 l)) e
    ∙ ap (λ l. SYNC ∷ l) (sym (take-map word_in 16 (drop (16 * k) slots)) ∙ ap (take 16) (sym (drop-map word_in (16 * k) slots)))

-- the slots of a batch more
pub taken_batch : (slots left : List Slot) (k : ℕ) → left ≡ drop (16 * k) slots → take (16 * k) slots ++ take 16 left ≡ take (16 * suc k) slots
taken_batch slots left k e =
    let n : 16 * k + 16 ≡ 16 * suc k = omega arith in
    ap (λ l. take (16 * k) slots ++ take 16 l) e ∙ sym (take-add (16 * k) 16 slots) ∙ ap (λ n. take n slots) n

-- the slots that are left behind it
pub left_batch : (slots left new : List Slot) (k : ℕ) → left ≡ drop (16 * k) slots → new ≡ drop 16 left → new ≡ drop (16 * suc k) slots
left_batch slots left new k e h =
    let n : 16 * k + 16 ≡ 16 * suc k = omega arith in
    h ∙ ap (drop 16) e ∙ drop-drop 16 (16 * k) slots ∙ ap (λ n. drop n slots) n

-- where a slot is left of whole batches, a batch is left
pub room_batch : (slots left : List Slot) (k b : ℕ) → length slots ≡ 16 * b → left ≡ drop (16 * k) slots → left ≢ [] → 16 * suc k ≤ length slots
room_batch slots left k b whole e some = more left some (ap length e ∙ length-drop (16 * k) slots)
  where
    more : (left : List Slot) → left ≢ [] → length left ≡ length slots - 16 * k → 16 * suc k ≤ length slots
    more [] some l = absurd (some refl)
    more (x ∷ left) some l = omega (arith, l, whole)

-- fewer slots are left behind it
pub shorter_batch : (slots left new : List Slot) (k : ℕ) → left ≡ drop (16 * k) slots → 16 * suc k ≤ length slots → new ≡ drop 16 left → length new < length left
shorter_batch slots left new k e l h = omega (arith, l, ap length e, length-drop (16 * k) slots, ap length h, length-drop 16 left)

-- where none is left, all batches were handed over
pub all_batches : (slots left : List Slot) (k : ℕ) → 16 * k ≤ length slots → left ≡ drop (16 * k) slots → left ≡ [] → length slots ≡ 16 * k
all_batches slots left k within e none = omega (arith, within, length-drop (16 * k) slots, ap length (sym e ∙ none))

module _ {T E : Type 0} (a b c : Written Bool) (k : ℕ) (slots items : List ℕ) (x : T)
    (is : items ≡ SYNC ∷ take 16 (drop (16 * k) slots)) (h : Puts {E = E} a b (words_bits (preamble ++ batches k slots)) (Ok x)) where
  -- one batch more was written
  pub batch_sent : {U F : Type 0} (r : Result U F) → Puts b c (words_bits items) r → Puts a c (words_bits (preamble ++ batches (suc k) slots)) r
  batch_sent r p =
      let all : (preamble ++ batches k slots) ++ items ≡ preamble ++ batches (suc k) slots =
      append_assoc preamble (batches k slots) items ∙ ap (λ l. preamble ++ (batches k slots ++ l)) is
      ∙ ap (λ l. preamble ++ l) (sym (batches-last k slots)) in
      subst (λ (ws : List ℕ). Puts a c (words_bits ws) r) all (Puts_words-then a b c (preamble ++ batches k slots) items x r h p)

  -- a batch was refused
  pub batch_failed : {U V F G : Type 0} (e : F) (r : Result U G) → IsErr r → k < length slots / 16 → Puts {T = V} b c (words_bits items) (Err e)
      → Puts a c (words_bits (transmission slots)) r
  batch_failed e r bad l p =
      let n : ℕ = length slots / 16 in
      let rest = batches (n - suc k) (drop (16 * suc k) slots) in
      let all : (preamble ++ batches k slots) ++ (items ++ rest) ≡ transmission slots =
      append_assoc preamble (batches k slots) (items ++ rest) ∙ ap (λ ws. preamble ++ (batches k slots ++ (ws ++ rest))) is
      ∙ ap (λ ws. preamble ++ ws) (batches-at k n slots l) in
      Puts_words-fails a b c (preamble ++ batches k slots) items rest (transmission slots) x e r all bad h p

-- the preamble was refused
pub preamble_failed : {T U E F : Type 0} (slots : List ℕ) (a b : Written Bool) (e : E) (r : Result U F) → IsErr r → Puts {T = T} a b (words_bits preamble) (Err e)
    → Puts a b (words_bits (transmission slots)) r
preamble_failed slots a b e r bad h =
    subst (λ (bs : List Bool). Puts a b bs r) (sym (words_bits-append preamble (batches (length slots / 16) slots)))
    (Puts-cut a b (words_bits preamble) (words_bits (batches (length slots / 16) slots)) e r bad h)

-- all of it was written
pub all_sent : {T E : Type 0} (slots : List Slot) (a b : Written Bool) (k : ℕ) (x : T) → length slots ≡ 16 * k
    → Puts {E = E} a b (words_bits (preamble ++ batches k (words_of_slots slots))) (Ok x) → Puts {E = E} a b (words_bits (transmission (words_of_slots slots))) (Ok k)
all_sent {E = E} slots a b k x l h =
    let n : k ≡ length (words_of_slots slots) / 16 = omega (arith, l, length-map slots word_in) in
    Puts-ok a b _ x k (subst (λ (n : ℕ). Puts {E = E} a b (words_bits (preamble ++ batches n (words_of_slots slots))) (Ok x)) n h)

-- what is held where the preamble was refused
pub stops_preamble : {T E : Type 0} (accepted : List Page) (slots : List Slot) (a b : Written Bool) (e : E) (held : List Page) → AreSlots accepted slots
    → Puts {T = T} a b (words_bits preamble) (Err e) → HeldPages accepted [] held → SendingStops accepted a b held
stops_preamble accepted slots a b e held are h held_are = record {
  slots = slots;
  are = are;
  handed = 0;
  within = omega arith;
  written = λ t. (let k = h.held t in (k.0, k.1, k.2 ∙ ap (λ (l : List Bool). l ++ take k.0 (words_bits preamble)) (sym (append-nil a.held))));
  held_are = held_are;
}

-- what is held where a batch was refused
pub stops_batch : {T U E F : Type 0} (accepted : List Page) (slots : List Slot) (a b c : Written Bool) (k : ℕ) (items : List ℕ) (x : T) (e : F) (held : List Page)
    → AreSlots accepted slots → 16 * suc k ≤ length slots → items ≡ SYNC ∷ take 16 (drop (16 * k) (words_of_slots slots))
    → Puts {E = E} a b (words_bits (preamble ++ batches k (words_of_slots slots))) (Ok x) → Puts {T = U} b c (words_bits items) (Err e)
    → HeldPages accepted (take (16 * suc k) slots) held → SendingStops accepted a c held
stops_batch accepted slots a b c k items x e held are l is h p held_are = record {
  slots = slots;
  are = are;
  handed = suc k;
  within = l;
  written = λ t. (let q = p.held (still h.tells t) in
      let whole = h.held t in
      let same = ap words_bits is in (
        q.0,
        subst (λ (l : List Bool). q.0 ≤ length l) same q.1,
        q.2 ∙ ap (λ (l : List Bool). b.held ++ take q.0 l) same ∙ ap (λ (l : List Bool). l ++ take q.0 (words_bits (SYNC ∷ take 16 (drop (16 * k) (words_of_slots slots))))) whole,
      ));
  held_are = held_are;
}
