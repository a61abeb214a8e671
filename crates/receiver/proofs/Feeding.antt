-- What a front end meets at further bits, by its parts.
use Rattle.std.proofs.Common.{◌≡◌, ℕ, zero, suc, ◌+◌, ◌-◌, ◌*◌, ◌/◌, ◌%◌, ◌^◌, ◌<◌, ◌≤◌, Bool, IsTrue, true, false, List, [], ◌∷◌, ◌++◌, length, length-append, length-drop, take, drop, get_or, Option, arith, refl, sym, ◌∙◌, ap, ap₂, subst, append_assoc, append-nil, inl, inr, add-one, bit_or}
use Rattle.std.proofs.lemmas.Bool.{both_ways, cases_lt}
use Rattle.std.proofs.Math.Seq.{take-suc, take-append_seam, take-append-add}
use Rattle.bits.specs.Bits.{bits_of, number, number_from}
use Rattle.bits.proofs.Bytes.{bits_of-add}
use Rattle.bits.proofs.Lengths.{length-bits_of}
use Rattle.bits.proofs.Numbers.{bits_of-number_from, number_from-bits_of, number-bits_of, number-lt}
use Rattle.receiver.specs.Places.{NoSyncBefore}
use Rattle.receiver.specs.Registers.{last_32}
use Rattle.receiver.specs.Stretches.{is_sync, after_sync}
use Rattle.receiver.specs.Heard.{HeardPage}
use Rattle.receiver.specs.Locks.{lock_of, Hunts, LockHolds}
use Rattle.receiver.specs.Fronts.{FrontEnd, Hunt, Locking, front_end_of, FrontIsAt, FrontStandsFor, HasUnderWay}
use Rattle.receiver.specs.FrontSteps.{Shows, HearsPage, FrontGoesOn}
use Rattle.receiver.specs.Steps.{HuntsOn, Finds, HuntsThrough}
use Rattle.wires.specs.Pieces.{taken_of}
use Rattle.wires.proofs.Pieces.{taken_is, last_bits, low_bits}
use Rattle.receiver.specs.declared.front.FrontEvent.{FrontEvent}
use Rattle.receiver.specs.declared.front.FrontEvent.TheVariants.{Still, Batch, Slot, Lost}
use Rattle.std.proofs.lemmas.List.{drop_all}
use Rattle.receiver.proofs.Registers.{first_taken, shifted_in}
use Rattle.receiver.proofs.Hunts.{length-push, last_32-push, word_bits-number, Pushed, pushed_last, hunt_found as finds, hunt_still_full, hunt_still_short, holds_nothing, hunts_nothing}
use Rattle.receiver.proofs.Locks.{lock_still as stays, lock_slot as takes_slot, lock_batch as takes_batch, lock_lost as loses}
use Rattle.receiver.proofs.FrontSteps.{hunt_still, hunt_found, lock_still, lock_slot, lock_batch, lock_lost}
use Rattle.receiver.proofs.Heard.{AlwaysGoesOn, shows, hears}

-- in whichever bits this front end is, these further bits take it to that one with this event
abbrev pub Feeds : FrontEnd → FrontEnd → FrontEvent → List Bool → Type 0
Feeds front after event more = (bits : List Bool) → AlwaysGoesOn front after event bits (bits ++ more)

pub shows_fed : (front after : FrontEnd) (event : FrontEvent) (more : List Bool) → Feeds front after event more
    → (was : FrontEnd) → front ≡ was → (bits : List Bool) → FrontStandsFor was bits → Shows after event bits (bits ++ more)
shows_fed front after event more fed was is bits here =
    shows front after event bits (bits ++ more) (fed bits) (subst (λ (f : FrontEnd). FrontStandsFor f bits) (sym is) here)

pub hears_fed : (front after : FrontEnd) (event : FrontEvent) (more : List Bool) → Feeds front after event more
    → (was : FrontEnd) → front ≡ was → (listens : ℕ → Bool) (page : Option HeardPage) (bits : List Bool) → HasUnderWay listens was page bits
    → HearsPage listens page after event bits (bits ++ more)
hears_fed front after event more fed was is listens page bits here =
    hears front after event bits (bits ++ more) (fed bits) listens page (subst (λ (f : FrontEnd). HasUnderWay listens f page bits) (sym is) here)

pub goes_fed : (front after : FrontEnd) (event : FrontEvent) (more : List Bool) → Feeds front after event more
    → (was : FrontEnd) → front ≡ was → (bits : List Bool) (before : List (List ℕ)) (words : Option (List ℕ)) → FrontIsAt was bits before words
    → FrontGoesOn after event before words (bits ++ more)
goes_fed front after event more fed was is bits before words here = fed bits before words (subst (λ (f : FrontEnd). FrontIsAt f bits before words) (sym is) here)

-- ---- a hunt

pub still_hunting : (locked : Bool) (place : ℕ) (kept next more : List Bool) → locked ≡ false → HuntsOn kept next more
    → Feeds (front_end_of locked place kept) (front_end_of locked place next) Still more
still_hunting false place kept next more is on = hunt_still kept next more on
still_hunting true place kept next more is on = cc

pub found : (locked : Bool) (place : ℕ) (kept empty more : List Bool) → locked ≡ false → empty ≡ [] → Finds kept more
    → Feeds (front_end_of locked place kept) (Locking (lock_of 0 empty)) Batch more
found false place kept empty more is e finds =
    hunt_found kept (lock_of 0 empty) more (λ (bits : List Bool) (h : Hunts kept bits). (finds bits h, subst (λ (xs : List Bool). LockHolds (lock_of 0 xs) []) (sym e) holds_nothing))
found true place kept empty more is e finds = cc

-- ---- a lock

-- more bits of the word under way came, not beyond its end
pub record Joined (kept next more : List Bool) : Type 0 where
  pub fits : length kept + length more ≤ 32
  pub next-is : next ≡ kept ++ more

pub still_locked : (locked : Bool) (place : ℕ) (kept next more : List Bool) → locked ≡ true → Joined kept next more → length next < 32
    → Feeds (front_end_of locked place kept) (front_end_of locked place next) Still more
still_locked true place kept next more is j short =
    lock_still (lock_of place kept) (lock_of place next) more
    (λ (bits : List Bool) (h : LockHolds (lock_of place kept) bits). stays (lock_of place kept) bits next more record { holds = h; fits = j.fits; kept-is = j.next-is } short)
still_locked false place kept next more is j short = cc

pub slot : (locked : Bool) (place : ℕ) (kept next more empty : List Bool) (word : ℕ) → locked ≡ true → Joined kept next more → 32 ≤ length next → empty ≡ []
    → word ≡ number next → place < 16 → Feeds (front_end_of locked place kept) (front_end_of locked (place + 1) empty) (Slot place word) more
slot true place kept next more empty word is j full e w p =
    lock_slot (lock_of place kept) (lock_of (place + 1) empty) place word more
    (λ (bits : List Bool) (h : LockHolds (lock_of place kept) bits).
    rw (e, w) (takes_slot (lock_of place kept) bits next more record { holds = h; fits = j.fits; kept-is = j.next-is } full p))
slot false place kept next more empty word is j full e w p = cc

pub batch : (locked : Bool) (place : ℕ) (kept next more empty : List Bool) → locked ≡ true → Joined kept next more → 32 ≤ length next → empty ≡ []
    → 16 ≤ place → is_sync (number next) ≡ true → Feeds (front_end_of locked place kept) (front_end_of locked 0 empty) Batch more
batch true place kept next more empty is j full e p good =
    lock_batch (lock_of place kept) (lock_of 0 empty) more
    (λ (bits : List Bool) (h : LockHolds (lock_of place kept) bits).
    rw e (takes_batch (lock_of place kept) bits next more record { holds = h; fits = j.fits; kept-is = j.next-is } full p good))
batch false place kept next more empty is j full e p good = cc

pub lost : (locked : Bool) (place : ℕ) (kept next more empty : List Bool) → locked ≡ true → Joined kept next more → 32 ≤ length next → empty ≡ []
    → 16 ≤ place → is_sync (number next) ≡ false → Feeds (front_end_of locked place kept) (Hunt empty) Lost more
lost true place kept next more empty is j full e p bad =
    lock_lost (lock_of place kept) empty more
    (λ (bits : List Bool) (h : LockHolds (lock_of place kept) bits).
    let all = loses (lock_of place kept) bits next more record { holds = h; fits = j.fits; kept-is = j.next-is } full p bad in
    (subst (λ (xs : List Bool). Hunts xs []) (sym e) hunts_nothing, all.0, all.1))
lost false place kept next more empty is j full e p bad = cc

-- ---- one bit

-- a register that isn't full
pub short : (n : ℕ) (b : Bool) → b ≡ false → (32 ≤ n → IsTrue b) → n < 32
short n b not f = let h : 32 ≤ n → ⊥ = λ l. both_ways b not (f l) in omega arith

pub joined_one : (kept next : List Bool) (b : Bool) → length kept < 32 → next ≡ last_32 (kept ++ b ∷ []) → Joined kept next (b ∷ [])
joined_one kept next b s e =
    let l = length-push kept b in
    let z : length (kept ++ b ∷ []) - 32 ≡ 0 = omega arith in
    record { fits = omega arith; next-is = e ∙ ap (λ (n : ℕ). drop n (kept ++ b ∷ [])) z }

-- the register isn't full with this bit, or full and not near the sync word
pub hunts_short : (kept next : List Bool) (b : Bool) → next ≡ last_32 (kept ++ b ∷ []) → length next < 32 → HuntsOn kept next (b ∷ [])
hunts_short kept next b e short bits h =
    let p : Pushed next kept bits b = record { kept-is = e; was-is = h.last; none = h.none } in
    record { last = pushed_last next kept bits b p; none = hunt_still_short next kept bits b p (λ l. omega arith) }

pub hunts_full : (kept next : List Bool) (b : Bool) → next ≡ last_32 (kept ++ b ∷ []) → 32 ≤ length next → is_sync (number next) ≡ false → HuntsOn kept next (b ∷ [])
hunts_full kept next b e full bad bits h =
    let p : Pushed next kept bits b = record { kept-is = e; was-is = h.last; none = h.none } in
    record { last = pushed_last next kept bits b p; none = hunt_still_full next kept bits b p full bad }

pub finds_full : (kept next : List Bool) (b : Bool) → next ≡ last_32 (kept ++ b ∷ []) → 32 ≤ length next → is_sync (number next) ≡ true → Finds kept (b ∷ [])
finds_full kept next b e full good bits h = finds next kept bits b record { kept-is = e; was-is = h.last; none = h.none } full good

pub still_short : (locked : Bool) (place : ℕ) (kept next : List Bool) (b : Bool) → next ≡ last_32 (kept ++ b ∷ []) → (locked ≡ true → length kept < 32) → length next < 32
    → Feeds (front_end_of locked place kept) (front_end_of locked place next) Still (b ∷ [])
still_short true place kept next b e short s = still_locked true place kept next (b ∷ []) refl (joined_one kept next b (short refl) e) s
still_short false place kept next b e short s = still_hunting false place kept next (b ∷ []) refl (hunts_short kept next b e s)

-- ---- a piece

-- a hunt took these bits of a piece and found nothing, and these are left
pub record Hunted (kept next piece left : List Bool) : Type 0 where
  pub taken : List Bool
  pub whole : piece ≡ taken ++ left
  pub on : HuntsOn kept next taken

pub hunted_nothing : (kept piece : List Bool) → Hunted kept kept piece piece
hunted_nothing kept piece = record {
  taken = [];
  whole = refl;
  on = λ (bits : List Bool) (h : Hunts kept bits). subst (λ (xs : List Bool). Hunts kept xs) (sym (append-nil bits)) h;
}

whole_more : (piece taken left rest : List Bool) (b : Bool) → piece ≡ taken ++ left → left ≡ b ∷ rest → piece ≡ (taken ++ b ∷ []) ++ rest
whole_more piece taken left rest b e f = e ∙ ap (λ (xs : List Bool). taken ++ xs) f ∙ sym (append_assoc taken (b ∷ []) rest)

pub hunted_more : (kept next piece left after rest : List Bool) (b : Bool) → Hunted kept next piece left → left ≡ b ∷ rest → HuntsOn next after (b ∷ [])
    → Hunted kept after piece rest
hunted_more kept next piece left after rest b h e on = record {
  taken = h.taken ++ b ∷ [];
  whole = whole_more piece h.taken left rest b h.whole e;
  on = λ (bits : List Bool) (hunts : Hunts kept bits).
      subst (λ (xs : List Bool). Hunts after xs) (append_assoc bits h.taken (b ∷ [])) (on (bits ++ h.taken) (h.on bits hunts));
}

pub hunted_finds : (kept next piece left after rest : List Bool) (b : Bool) → Hunted kept next piece left → left ≡ b ∷ rest → Finds next (b ∷ [])
    → HuntsThrough kept after piece rest true
hunted_finds kept next piece left after rest b h e finds =
    let whole = whole_more piece h.taken left rest b h.whole e in
    let t = taken_is piece (h.taken ++ b ∷ []) rest whole in
    let l = length-append (h.taken ++ b ∷ []) rest in
    let m = length-push h.taken b in
    let n = ap length whole in
    record {
      whole = subst (λ (xs : List Bool). piece ≡ xs ++ rest) (sym t) whole;
      on = λ (f : true ≡ false). cc;
      finds = λ (f : true ≡ true). (
        subst (λ (xs : List Bool). Finds kept xs) (sym t)
            (λ (bits : List Bool) (hunts : Hunts kept bits).
            ap after_sync (sym (append_assoc bits h.taken (b ∷ []))) ∙ finds (bits ++ h.taken) (h.on bits hunts)),
        omega arith,
      );
    }

pub hunted_all : (kept next piece left : List Bool) → Hunted kept next piece left → left ≡ [] → HuntsThrough kept next piece left false
hunted_all kept next piece left h e =
    let t = taken_is piece h.taken left h.whole in
    record {
      whole = subst (λ (xs : List Bool). piece ≡ xs ++ left) (sym t) h.whole;
      on = λ (f : false ≡ false). (subst (λ (xs : List Bool). HuntsOn kept next xs) (sym t) h.on, e);
      finds = λ (f : false ≡ true). cc;
    }

-- some of a piece was taken where one more bit fits
pub some_taken : (kept next piece left : List Bool) → length kept < 32 → next ≡ kept ++ taken_of piece left → piece ≡ taken_of piece left ++ left
    → (length next < 32 → left ≡ []) → 0 < length piece → length left < length piece
some_taken kept next piece left room e whole end some =
    let l = length-append kept (taken_of piece left) in
    let m = length-append (taken_of piece left) left in
    let n = ap length whole in
    let k = ap length e in
    elim (cases_lt (length next) 32) [
      | inl short ↦ let z : length left ≡ 0 = ap length (end short) in omega arith
      | inr full ↦ omega arith
    ]

pub joined_piece : (kept next piece left : List Bool) → next ≡ kept ++ taken_of piece left → length next ≤ 32 → Joined kept next (taken_of piece left)
joined_piece kept next piece left e few =
    let l = length-append kept (taken_of piece left) in
    let k = ap length e in
    record { fits = omega arith; next-is = e }

-- ---- a full register and a piece together

-- the word that ends k bits into the piece
pub window_word : (r p n k : ℕ) → r < 2 ^ 32 → p < 2 ^ n → k ≤ n → bits_of 32 ((r * 2 ^ n + p) / 2 ^ (n - k)) ≡ last_32 (bits_of 32 r ++ take k (bits_of n p))
window_word r p n k small lt h =
    let w = r * 2 ^ n + p in
    let nk : k + (n - k) ≡ n = omega arith in
    let m : (32 + k) + (n - k) ≡ 32 + n = omega arith in
    let c : k + 32 ≡ 32 + k = omega arith in
    let l32 = length-bits_of 32 r in
    let lk = length-bits_of (32 + k) (w / 2 ^ (n - k)) in
    let all : bits_of 32 r ++ bits_of n p ≡ bits_of (32 + n) w =
    sym (ap (bits_of (32 + n)) (sym (number_from-bits_of n r p lt)) ∙ ap (λ (j : ℕ). bits_of (32 + j) (number_from r (bits_of n p))) (sym (length-bits_of n p)) ∙ bits_of-number_from 32 r (bits_of n p)) in
    let front : bits_of 32 r ++ take k (bits_of n p) ≡ bits_of (32 + k) (w / 2 ^ (n - k)) =
    sym (take-append-add (bits_of 32 r) (bits_of n p) k)
    ∙ ap (λ (j : ℕ). take (j + k) (bits_of 32 r ++ bits_of n p)) l32
    ∙ ap (take (32 + k)) (all ∙ ap (λ (j : ℕ). bits_of j w) (sym m) ∙ bits_of-add (32 + k) (n - k) w)
    ∙ ap (λ (j : ℕ). take j (bits_of (32 + k) (w / 2 ^ (n - k)) ++ bits_of (n - k) w)) (sym lk)
    ∙ take-append_seam (bits_of (32 + k) (w / 2 ^ (n - k))) (bits_of (n - k) w) in
    let d : length (bits_of (32 + k) (w / 2 ^ (n - k))) - 32 ≡ k = omega arith in
    last_bits k 32 (w / 2 ^ (n - k)) ∙ ap (λ (j : ℕ). drop k (bits_of j (w / 2 ^ (n - k)))) c
    ∙ ap (λ (j : ℕ). drop j (bits_of (32 + k) (w / 2 ^ (n - k)))) (sym d)
    ∙ ap last_32 (sym front)

-- a full register
last_of_full : (kept : List Bool) → length kept ≡ 32 → last_32 kept ≡ kept
last_of_full kept full = let z : length kept - 32 ≡ 0 = omega arith in ap (λ (n : ℕ). drop n kept) z

scan_start : (kept piece : List Bool) → length kept ≡ 32 → HuntsOn kept (last_32 (kept ++ take 0 piece)) (take 0 piece)
scan_start kept piece full bits h =
    let e : last_32 (kept ++ []) ≡ kept = ap last_32 (append-nil kept) ∙ last_of_full kept full in
    rw (e, append-nil bits) h

take_more : (l : List Bool) (j : ℕ) (d : Bool) → j < length l → take (j + 1) l ≡ take j l ++ get_or l j d ∷ []
take_more l j d h = ap (λ (k : ℕ). take k l) (add-one j) ∙ take-suc l j d h

scan_more : (kept piece : List Bool) (k : ℕ) → k < length piece
    → last_32 (kept ++ take (k + 1) piece) ≡ last_32 (last_32 (kept ++ take k piece) ++ get_or piece k false ∷ [])
scan_more kept piece k lt =
    ap (λ (xs : List Bool). last_32 (kept ++ xs)) (take_more piece k false lt)
    ∙ ap last_32 (sym (append_assoc kept (take k piece) (get_or piece k false ∷ [])))
    ∙ sym (last_32-push (kept ++ take k piece) (get_or piece k false))

full_window : (kept piece : List Bool) (k : ℕ) → length kept ≡ 32 → 32 ≤ length (last_32 (kept ++ take k piece))
full_window kept piece k full =
    let l = length-append kept (take k piece) in
    let d = length-drop (length (kept ++ take k piece) - 32) (kept ++ take k piece) in
    omega arith

scan_next : (kept piece : List Bool) (k : ℕ) → length kept ≡ 32 → k < length piece → HuntsOn kept (last_32 (kept ++ take k piece)) (take k piece)
    → is_sync (number (last_32 (kept ++ take (k + 1) piece))) ≡ false → HuntsOn kept (last_32 (kept ++ take (k + 1) piece)) (take (k + 1) piece)
scan_next kept piece k full lt on bad bits h =
    let b = get_or piece k false in
    let next = hunts_full (last_32 (kept ++ take k piece)) (last_32 (kept ++ take (k + 1) piece)) b (scan_more kept piece k lt) (full_window kept piece (k + 1) full) bad
    (bits ++ take k piece) (on bits h) in
    subst (λ (xs : List Bool). Hunts (last_32 (kept ++ take (k + 1) piece)) xs) (append_assoc bits (take k piece) (b ∷ []) ∙ ap (λ (xs : List Bool). bits ++ xs) (sym (take_more piece k false lt))) next

scan_finds : (kept piece : List Bool) (k : ℕ) → length kept ≡ 32 → k < length piece → HuntsOn kept (last_32 (kept ++ take k piece)) (take k piece)
    → is_sync (number (last_32 (kept ++ take (k + 1) piece))) ≡ true → Finds kept (take (k + 1) piece)
scan_finds kept piece k full lt on good bits h =
    let b = get_or piece k false in
    ap after_sync (ap (λ (xs : List Bool). bits ++ xs) (take_more piece k false lt) ∙ sym (append_assoc bits (take k piece) (b ∷ [])))
    ∙ finds_full (last_32 (kept ++ take k piece)) (last_32 (kept ++ take (k + 1) piece)) b (scan_more kept piece k lt) (full_window kept piece (k + 1) full) good
    (bits ++ take k piece) (on bits h)

-- the number that the window has k bits into the piece
pub scan_word : (kept piece : List Bool) (p k : ℕ) → length kept ≡ 32 → bits_of (length piece) p ≡ piece → p < 2 ^ length piece → k ≤ length piece
    → bits_of 32 ((number kept * 2 ^ length piece + p) / 2 ^ (length piece - k)) ≡ last_32 (kept ++ take k piece)
scan_word kept piece p k full is lt le =
    let n = number-lt kept in
    let small : number kept < 2 ^ 32 = rw full at n in
    window_word (number kept) p (length piece) k small lt le
    ∙ ap₂ (λ (xs ys : List Bool). last_32 (xs ++ take k ys)) (word_bits-number kept full) is

low_number : (w : ℕ) (bits : List Bool) → bits_of 32 w ≡ bits → w % 4294967296 ≡ number bits
low_number w bits e =
    let lt : w % 4294967296 < 2 ^ 32 = omega arith in
    sym (ap number (sym e ∙ sym (low_bits 32 w)) ∙ number-bits_of 32 (w % 4294967296) lt)

-- the window that the code looks at
pub scan_low : (kept piece : List Bool) (window p k at : ℕ) → length kept ≡ 32 → bits_of (length piece) p ≡ piece → p < 2 ^ length piece
    → window ≡ number kept * 2 ^ length piece + p → k < length piece → at ≡ length piece - (k + 1)
    → window / 2 ^ at % 4294967296 ≡ number (last_32 (kept ++ take (k + 1) piece))
scan_low kept piece window p k at full is lt w le e =
    let k1 : k + 1 ≤ length piece = omega arith in
    ap₂ (λ (x y : ℕ). x / 2 ^ y % 4294967296) w e
    ∙ low_number _ _ (scan_word kept piece p (k + 1) full is lt k1)

pub scan_end : (kept piece : List Bool) (window p : ℕ) → length kept ≡ 32 → bits_of (length piece) p ≡ piece → p < 2 ^ length piece
    → window ≡ number kept * 2 ^ length piece + p → bits_of 32 (window % 4294967296) ≡ last_32 (kept ++ take (length piece) piece)
scan_end kept piece window p full is lt w =
    let le : length piece ≤ length piece = omega arith in
    let z : length piece - length piece ≡ 0 = omega arith in
    let v = number kept * 2 ^ length piece + p in
    let o : v / 2 ^ 0 ≡ v = omega arith in
    low_bits 32 window ∙ ap (bits_of 32) (w ∙ sym o ∙ ap (λ (j : ℕ). v / 2 ^ j) (sym z)) ∙ scan_word kept piece p (length piece) full is lt le

pub scan_found : (kept after piece left : List Bool) (k : ℕ) → length kept ≡ 32 → k < length piece → HuntsOn kept (last_32 (kept ++ take k piece)) (take k piece)
    → is_sync (number (last_32 (kept ++ take (k + 1) piece))) ≡ true → left ≡ drop (k + 1) piece → HuntsThrough kept after piece left true
scan_found kept after piece left k full lt on good e =
    let t = first_taken (k + 1) piece left e in
    let d = length-drop (k + 1) piece in
    let l = ap length e in
    record {
      whole = subst (λ (xs : List Bool). piece ≡ xs ++ left) (sym t.1) t.0;
      on = λ (f : true ≡ false). cc;
      finds = λ (f : true ≡ true). (subst (λ (xs : List Bool). Finds kept xs) (sym t.1) (scan_finds kept piece k full lt on good), omega arith);
    }

pub scan_all : (kept next piece left : List Bool) → next ≡ last_32 (kept ++ take (length piece) piece)
    → HuntsOn kept (last_32 (kept ++ take (length piece) piece)) (take (length piece) piece) → left ≡ drop (length piece) piece → HuntsThrough kept next piece left false
scan_all kept next piece left is on e =
    let t = first_taken (length piece) piece left e in
    record {
      whole = subst (λ (xs : List Bool). piece ≡ xs ++ left) (sym t.1) t.0;
      on = λ (f : false ≡ false). (rw (is, t.1) on, e ∙ drop_all (length piece) piece (omega arith));
      finds = λ (f : false ≡ true). cc;
    }

-- where none of the words that end in the first k bits of the piece is near the sync word
pub scan_past : (kept piece : List Bool) (window p count : ℕ) → length kept ≡ 32 → bits_of (length piece) p ≡ piece → p < 2 ^ length piece
    → window ≡ number kept * 2 ^ length piece + p → count ≡ length piece → (k : ℕ) → k ≤ length piece → NoSyncBefore window count k
    → HuntsOn kept (last_32 (kept ++ take k piece)) (take k piece)
scan_past kept piece window p count full is lt w n zero le none = scan_start kept piece full
scan_past kept piece window p count full is lt w n (suc k) le none =
    let at : count - 1 - k ≡ length piece - (k + 1) = omega arith in
    let before = scan_past kept piece window p count full is lt w n k (omega arith) (λ j h. none j (omega arith)) in
    let low = scan_low kept piece window p k (count - 1 - k) full is lt w (omega arith) at in
    subst (λ (j : ℕ). HuntsOn kept (last_32 (kept ++ take j piece)) (take j piece)) (add-one k)
    (scan_next kept piece k full (omega arith) before (sym (ap is_sync low) ∙ none k (omega arith)))

pub scan_window : (kept piece : List Bool) (r count p : ℕ) → r ≡ number kept → count ≡ length piece → length kept ≡ 32 → p < 2 ^ length piece → count ≤ 32
    → bit_or (r * 2 ^ count % 18446744073709551616) p ≡ number kept * 2 ^ length piece + p
scan_window kept piece r count p is n full lt few =
    let m = number-lt kept in
    let small : number kept < 2 ^ 32 = rw full at m in
    let below : length piece ≤ 32 = omega arith in
    ap₂ (λ (x y : ℕ). bit_or (x * 2 ^ y % 18446744073709551616) p) is n ∙ shifted_in (number kept) (length piece) p small below lt
