-- Further bits to a lock.
use Rattle.std.proofs.Common.{◌≡◌, ℕ, zero, suc, ◌+◌, ◌-◌, ◌*◌, ◌/◌, ◌%◌, ◌^◌, ◌<◌, ◌≤◌, Bool, true, false, List, [], ◌∷◌, ◌++◌, length, length-append, length-drop, take, drop, Option, Some, None, option_map, arith, refl, sym, ◌∙◌, ap, ap₂, ◌⊎◌, inl, inr, mul-suc, add-zero, eq-eqb, ne_eqb, zero-add}
use Rattle.std.proofs.lemmas.List.{drop-append-le, take-append-le, take_all, drop_all, drop-drop}
use Rattle.bits.specs.Bits.{number}
use Rattle.bits.proofs.Numbers.{number-lt}
use Rattle.receiver.specs.Registers.{last_32}
use Rattle.receiver.specs.Stretches.{first_words, words_of_bits, is_sync_place, is_sync, held_with, held_from, held_words, loss_with, loss_from, after_loss}
use Rattle.receiver.specs.Locks.{Lock, lock_of, LockHolds}
use Rattle.receiver.proofs.Hunts.{length-push}

-- ---- the words of a longer list

pub length-first_words : (n : ℕ) (bits : List Bool) → length (first_words n bits) ≡ n
unfolding first_words
length-first_words zero bits = refl
length-first_words (suc n) bits = ap suc (length-first_words n (drop 32 bits))

pub first_words-append : (n : ℕ) (bits more : List Bool) → 32 * n ≤ length bits → first_words n (bits ++ more) ≡ first_words n bits
unfolding first_words
first_words-append zero bits more h = refl
first_words-append (suc n) bits more h =
    let m = mul-suc 32 n in
    let l = length-drop 32 bits in
    ap₂ (λ (x : ℕ) (xs : List ℕ). x ∷ xs)
    (ap number (take-append-le 32 bits more (omega arith)))
    (ap (first_words n) (drop-append-le 32 bits more (omega arith)) ∙ first_words-append n (drop 32 bits) more (omega arith))

pub first_words-suc : (n : ℕ) (bits : List Bool) → first_words (suc n) bits ≡ first_words n bits ++ number (take 32 (drop (32 * n) bits)) ∷ []
unfolding first_words
first_words-suc zero bits = refl
first_words-suc (suc n) bits =
    let m : 32 + 32 * n ≡ 32 * suc n = omega arith in
    ap (λ (xs : List ℕ). number (take 32 bits) ∷ xs)
    (first_words-suc n (drop 32 bits)
    ∙ ap (λ (ys : List Bool). first_words n (drop 32 bits) ++ number (take 32 ys) ∷ []) (drop-drop (32 * n) 32 bits ∙ ap (λ (k : ℕ). drop k bits) m))

-- ---- the words that are held, and the loss of the lock

none_inside : {X Y : Type 0} (f : X → Y) (o : Option X) → option_map f o ≡ None → o ≡ None
none_inside f None h = refl
none_inside f (Some x) h = cc

loss_parts : (p g : Bool) (o : Option ℕ) → loss_with p g o ≡ None → (o ≡ None) × ((p ≡ false) ⊎ (g ≡ true))
loss_parts true true o h = (none_inside suc o h, inr refl)
loss_parts true false o h = cc
loss_parts false g o h = (none_inside suc o h, inl refl)

loss_keeps : (p g : Bool) (o : Option ℕ) → (p ≡ false) ⊎ (g ≡ true) → loss_with p g o ≡ option_map suc o
loss_keeps true true o h = refl
loss_keeps true false o h = elim h [ inl x ↦ cc | inr y ↦ cc ]
loss_keeps false g o h = refl

held_keeps : (p g : Bool) (w : ℕ) (later : List ℕ) → (p ≡ false) ⊎ (g ≡ true) → held_with p g w later ≡ w ∷ later
held_keeps true true w later h = refl
held_keeps true false w later h = elim h [ inl x ↦ cc | inr y ↦ cc ]
held_keeps false g w later h = refl

-- where no word loses the lock, all are held
pub held_from-whole : (k : ℕ) (ws : List ℕ) → loss_from k ws ≡ None → held_from k ws ≡ ws
unfolding held_from loss_from
held_from-whole k [] h = refl
held_from-whole k (w ∷ ws) h =
    let parts = loss_parts (is_sync_place k) (is_sync w) (loss_from (suc k) ws) h in
    held_keeps (is_sync_place k) (is_sync w) w (held_from (suc k) ws) parts.1 ∙ ap (λ (xs : List ℕ). w ∷ xs) (held_from-whole (suc k) ws parts.0)

-- where the last word loses the lock, the words before it are held
pub held_from-lost : (k : ℕ) (ws : List ℕ) (w : ℕ) → loss_from k ws ≡ None → is_sync_place (k + length ws) ≡ true → is_sync w ≡ false → held_from k (ws ++ w ∷ []) ≡ ws
unfolding held_from loss_from
held_from-lost k [] w h p g =
    let e : is_sync_place k ≡ true = ap is_sync_place (sym (add-zero k)) ∙ p in
    ap₂ (λ (x y : Bool). held_with x y w []) e g
held_from-lost k (v ∷ ws) w h p g =
    let parts = loss_parts (is_sync_place k) (is_sync v) (loss_from (suc k) ws) h in
    let e : suc k + length ws ≡ k + suc (length ws) = omega arith in
    held_keeps (is_sync_place k) (is_sync v) v (held_from (suc k) (ws ++ w ∷ [])) parts.1
    ∙ ap (λ (xs : List ℕ). v ∷ xs) (held_from-lost (suc k) ws w parts.0 (ap is_sync_place e ∙ p) g)

pub loss_from-push : (k : ℕ) (ws : List ℕ) (w : ℕ) → loss_from k ws ≡ None
    → loss_from k (ws ++ w ∷ []) ≡ option_map (λ n. length ws + n) (loss_with (is_sync_place (k + length ws)) (is_sync w) None)
unfolding loss_from
loss_from-push k [] w h = zero_map (loss_with (is_sync_place k) (is_sync w) None) ∙ ap (λ (n : ℕ). option_map (λ n. 0 + n) (loss_with (is_sync_place n) (is_sync w) None)) (sym (add-zero k))
  where
    zero_map : (o : Option ℕ) → o ≡ option_map (λ n. 0 + n) o
    zero_map None = refl
    zero_map (Some n) = let e : n ≡ 0 + n = omega arith in ap (λ (x : ℕ). Some x) e
loss_from-push k (v ∷ ws) w h =
    let parts = loss_parts (is_sync_place k) (is_sync v) (loss_from (suc k) ws) h in
    let e : suc k + length ws ≡ k + suc (length ws) = omega arith in
    ap (loss_with (is_sync_place k) (is_sync v)) (loss_from-push (suc k) ws w parts.0)
    ∙ loss_keeps (is_sync_place k) (is_sync v) _ parts.1
    ∙ suc_map (length ws) (loss_with (is_sync_place (suc k + length ws)) (is_sync w) None)
    ∙ ap (λ (n : ℕ). option_map (λ m. suc (length ws) + m) (loss_with (is_sync_place n) (is_sync w) None)) e
  where
    suc_map : (l : ℕ) (o : Option ℕ) → option_map suc (option_map (λ n. l + n) o) ≡ option_map (λ n. suc l + n) o
    suc_map l None = refl
    suc_map l (Some n) = let e : suc (l + n) ≡ suc l + n = omega arith in ap (λ (x : ℕ). Some x) e

-- ---- further bits, up to the end of the word under way

-- the lock over these bits takes more, not beyond the end of the word under way, and keeps these of that word
pub record Taken (lock : Lock) (bits kept more : List Bool) : Type 0 where
  pub holds : LockHolds lock bits
  pub fits : length lock.partial + length more ≤ 32
  pub kept-is : kept ≡ lock.partial ++ more

pub not_lost : (bits : List Bool) → after_loss bits ≡ None → loss_from 0 (words_of_bits bits) ≡ None
not_lost bits h = none_inside (λ n. drop (32 * n) bits) (loss_from 0 (words_of_bits bits)) h

pub partial-length : (lock : Lock) (bits : List Bool) → LockHolds lock bits → length lock.partial ≡ length bits % 32
partial-length lock bits h =
    let d = length-drop (32 * (length bits / 32)) bits in
    let e = ap length h.partial in
    omega arith

pub taken_kept : (lock : Lock) (bits kept more : List Bool) → Taken lock bits kept more → kept ≡ drop (32 * (length bits / 32)) (bits ++ more)
taken_kept lock bits kept more t =
    t.kept-is ∙ ap (λ (xs : List Bool). xs ++ more) t.holds.partial
    ∙ sym (drop-append-le (32 * (length bits / 32)) bits more (omega arith))

pub taken_length : (lock : Lock) (bits kept more : List Bool) → Taken lock bits kept more → (length kept ≡ length bits % 32 + length more) × (length kept ≤ 32)
taken_length lock bits kept more t =
    let k = ap length t.kept-is in
    let p = partial-length lock bits t.holds in
    let l = length-append lock.partial more in
    let f = t.fits in
    (omega arith, omega arith)

-- one bit fits where the word under way isn't whole
pub taken_one : (lock : Lock) (bits kept : List Bool) (b : Bool) → LockHolds lock bits → length lock.partial < 32 → kept ≡ last_32 (lock.partial ++ b ∷ []) → Taken lock bits kept (b ∷ [])
taken_one lock bits kept b h s e =
    let l = length-push lock.partial b in
    let z : length (lock.partial ++ b ∷ []) - 32 ≡ 0 = omega arith in
    record { holds = h; fits = omega arith; kept-is = e ∙ ap (λ (n : ℕ). drop n (lock.partial ++ b ∷ [])) z }

-- no word is whole with it
pub words_still : (lock : Lock) (bits kept more : List Bool) → Taken lock bits kept more → length kept < 32 → words_of_bits (bits ++ more) ≡ words_of_bits bits
words_still lock bits kept more t h =
    let n = taken_length lock bits kept more t in
    let l = length-append bits more in
    let e : length (bits ++ more) / 32 ≡ length bits / 32 = omega arith in
    ap (λ (k : ℕ). first_words k (bits ++ more)) e ∙ first_words-append (length bits / 32) bits more (omega arith)

-- one more word
pub words_more : (lock : Lock) (bits kept more : List Bool) → Taken lock bits kept more → 32 ≤ length kept → words_of_bits (bits ++ more) ≡ words_of_bits bits ++ number kept ∷ []
words_more lock bits kept more t h =
    let n = taken_length lock bits kept more t in
    let l = length-append bits more in
    let e : length (bits ++ more) / 32 ≡ suc (length bits / 32) = omega arith in
    ap (λ (k : ℕ). first_words k (bits ++ more)) e ∙ first_words-suc (length bits / 32) (bits ++ more)
    ∙ ap₂ (λ (xs : List ℕ) (ys : List Bool). xs ++ number ys ∷ [])
    (first_words-append (length bits / 32) bits more (omega arith))
    (ap (take 32) (sym (taken_kept lock bits kept more t)) ∙ take_all 32 kept (omega arith))

pub place_words : (lock : Lock) (bits : List Bool) → LockHolds lock bits → lock.place ≡ length (words_of_bits bits) % 17
place_words lock bits h = h.place ∙ ap (λ (n : ℕ). n % 17) (sym (length-first_words (length bits / 32) bits))

pub lock_still : (lock : Lock) (bits kept more : List Bool) → Taken lock bits kept more → length kept < 32
    → LockHolds (lock_of lock.place kept) (bits ++ more) × (words_of_bits (bits ++ more) ≡ words_of_bits bits)
lock_still lock bits kept more t h =
    let n = taken_length lock bits kept more t in
    let l = length-append bits more in
    let e : length (bits ++ more) / 32 ≡ length bits / 32 = omega arith in
    let w = words_still lock bits kept more t h in (
      record {
        place = t.holds.place ∙ ap (λ (k : ℕ). k % 17) (sym e);
        partial = taken_kept lock bits kept more t ∙ ap (λ (k : ℕ). drop (32 * k) (bits ++ more)) (sym e);
        held = ap (option_map (λ n. drop (32 * n) (bits ++ more))) (ap (loss_from 0) w ∙ not_lost bits t.holds.held);
      },
      w,
    )

-- a whole word at its place: what is left of the bits is nothing
pub nothing_left : (lock : Lock) (bits kept more : List Bool) → Taken lock bits kept more → 32 ≤ length kept
    → (length (bits ++ more) / 32 ≡ suc (length bits / 32)) × (drop (32 * (length (bits ++ more) / 32)) (bits ++ more) ≡ [])
nothing_left lock bits kept more t h =
    let n = taken_length lock bits kept more t in
    let l = length-append bits more in
    let e : length (bits ++ more) / 32 ≡ suc (length bits / 32) = omega arith in
    (e, drop_all (32 * (length (bits ++ more) / 32)) (bits ++ more) (omega arith))

-- the word that is whole now isn't one that loses the lock
pub lock_goes_on : (lock : Lock) (bits kept more : List Bool) (place : ℕ) → Taken lock bits kept more → 32 ≤ length kept
    → (is_sync_place (length (words_of_bits bits)) ≡ false) ⊎ (is_sync (number kept) ≡ true)
    → place ≡ suc (length bits / 32) % 17
    → LockHolds (lock_of place []) (bits ++ more)
lock_goes_on lock bits kept more place t h ok p =
    let left = nothing_left lock bits kept more t h in
    let ws = words_of_bits bits in
    record {
      place = p ∙ ap (λ (k : ℕ). k % 17) (sym left.0);
      partial = sym left.1;
      held = ap (option_map (λ n. drop (32 * n) (bits ++ more)))
          (ap (loss_from 0) (words_more lock bits kept more t h) ∙ loss_from-push 0 ws (number kept) (not_lost bits t.holds.held)
          ∙ ap (λ (n : ℕ). option_map (λ m. length ws + m) (loss_with (is_sync_place n) (is_sync (number kept)) None)) (zero-add (length ws))
          ∙ ap (option_map (λ m. length ws + m)) (loss_keeps (is_sync_place (length ws)) (is_sync (number kept)) None ok));
    }

at_slot : (lock : Lock) (bits : List Bool) → LockHolds lock bits → lock.place < 16 → is_sync_place (length (words_of_bits bits)) ≡ false
at_slot lock bits h p = let q = place_words lock bits h in ne_eqb (length (words_of_bits bits) % 17) 16 (λ e. omega arith)

at_sync : (lock : Lock) (bits : List Bool) → LockHolds lock bits → 16 ≤ lock.place → is_sync_place (length (words_of_bits bits)) ≡ true
at_sync lock bits h p = let q = place_words lock bits h in eq-eqb (length (words_of_bits bits) % 17) 16 (omega arith)

pub number-kept-lt : (lock : Lock) (bits kept more : List Bool) → Taken lock bits kept more → 32 ≤ length kept → number kept < 2 ^ 32
number-kept-lt lock bits kept more t h =
    let n = taken_length lock bits kept more t in
    let e : length kept ≡ 32 = omega arith in
    let l = number-lt kept in
    rw e at l

pub lock_slot : (lock : Lock) (bits kept more : List Bool) → Taken lock bits kept more → 32 ≤ length kept → lock.place < 16
    → LockHolds (lock_of (lock.place + 1) []) (bits ++ more) × (words_of_bits (bits ++ more) ≡ words_of_bits bits ++ number kept ∷ [])
    × (length (words_of_bits bits) % 17 ≡ lock.place) × (lock.place < 16) × (number kept < 2 ^ 32)
lock_slot lock bits kept more t h p =
    let q = t.holds.place in
    let slot = at_slot lock bits t.holds p in (
      lock_goes_on lock bits kept more (lock.place + 1) t h (inl slot) (omega arith),
      words_more lock bits kept more t h,
      sym (place_words lock bits t.holds),
      p,
      number-kept-lt lock bits kept more t h,
    )

pub lock_batch : (lock : Lock) (bits kept more : List Bool) → Taken lock bits kept more → 32 ≤ length kept → 16 ≤ lock.place → is_sync (number kept) ≡ true
    → LockHolds (lock_of 0 []) (bits ++ more) × (word : ℕ) × (words_of_bits (bits ++ more) ≡ words_of_bits bits ++ word ∷ []) × (length (words_of_bits bits) % 17 ≡ 16)
lock_batch lock bits kept more t h p good =
    let q = t.holds.place in
    let r = place_words lock bits t.holds in (
      lock_goes_on lock bits kept more 0 t h (inr good) (omega arith),
      number kept,
      words_more lock bits kept more t h,
      omega arith,
    )

pub lock_lost : (lock : Lock) (bits kept more : List Bool) → Taken lock bits kept more → 32 ≤ length kept → 16 ≤ lock.place → is_sync (number kept) ≡ false
    → (after_loss (bits ++ more) ≡ Some []) × (held_words (bits ++ more) ≡ words_of_bits bits)
lock_lost lock bits kept more t h p bad =
    let place = at_sync lock bits t.holds p in
    let ws = words_of_bits bits in
    let left = nothing_left lock bits kept more t h in
    let n : length ws + 1 ≡ length (bits ++ more) / 32 = (let e = length-first_words (length bits / 32) bits in omega (arith, left.0)) in (
      ap (option_map (λ n. drop (32 * n) (bits ++ more)))
          (ap (loss_from 0) (words_more lock bits kept more t h) ∙ loss_from-push 0 ws (number kept) (not_lost bits t.holds.held)
          ∙ ap (λ (n : ℕ). option_map (λ m. length ws + m) (loss_with (is_sync_place n) (is_sync (number kept)) None)) (zero-add (length ws))
          ∙ ap₂ (λ (x y : Bool). option_map (λ m. length ws + m) (loss_with x y None)) place bad)
          ∙ ap (λ (k : ℕ). Some (drop (32 * k) (bits ++ more))) n ∙ ap (λ (xs : List Bool). Some xs) left.1,
      ap (held_from 0) (words_more lock bits kept more t h)
          ∙ held_from-lost 0 ws (number kept) (not_lost bits t.holds.held) (ap is_sync_place (zero-add (length ws)) ∙ place) bad,
    )

pub first_words-split : (n m : ℕ) (bits : List Bool) → first_words (n + m) bits ≡ first_words n bits ++ first_words m (drop (32 * n) bits)
unfolding first_words
first_words-split zero m bits = let e : 0 + m ≡ m = omega arith in ap (λ (k : ℕ). first_words k bits) e
first_words-split (suc n) m bits =
    let e : suc n + m ≡ suc (n + m) = omega arith in
    let d : 32 + 32 * n ≡ 32 * suc n = omega arith in
    ap (λ (k : ℕ). first_words k bits) e
    ∙ ap (λ (xs : List ℕ). number (take 32 bits) ∷ xs)
    (first_words-split n m (drop 32 bits) ∙ ap (λ (ys : List Bool). first_words n (drop 32 bits) ++ first_words m ys) (drop-drop (32 * n) 32 bits ∙ ap (λ (k : ℕ). drop k bits) d))
