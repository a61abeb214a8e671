-- The windows over a preamble and a sync word.
use Rattle.std.proofs.Common.{◌≡◌, ℕ, zero, suc, ◌+◌, ◌-◌, ◌*◌, ◌%◌, ◌<◌, ◌≤◌, ◌==◌, Bool, true, false, ◌&&◌, nat_le, List, [], ◌∷◌, ◌++◌, length, length-append, take, drop, Some, arith, refl, sym, ◌∙◌, ap, ap₂, inl, inr, leb-true, le-leb, length-take-le}
use Rattle.std.proofs.Math.Seq.{take-append-add}
use Rattle.std.proofs.lemmas.List.{take-append-le, take_at, drop_at}
use Rattle.std.proofs.lemmas.Bool.{cases_lt, and_right, lt-leb}
use Rattle.bits.specs.Bits.{bits_of, word_bits, dist}
use Rattle.bits.proofs.Lengths.{length-bits_of}
use Rattle.bits.proofs.Metric.{dist-sym, dist-triangle, dist-behind, dist-take}
use Rattle.bch31.proofs.Multiples.{all_below, all_below_at}
use Rattle.codeword.specs.declared.words.TheConstants.{SYNC}
use Rattle.receiver.specs.Stretches.{near_sync, begins_with_sync, value_or, after_sync, is_sync, held_with, held_from, loss_with, loss_from}
use Rattle.codeword.specs.Words.{filler}
use Rattle.receiver.specs.Windows.{preamble_bits, FindsSyncWord, FillerEnds}

-- ---- the end of a preamble

-- the last k bits of a preamble
unfoldable pub alternating : ℕ → List Bool
alternating zero = []
alternating (suc k) = (suc k % 2 == 0) ∷ alternating k

length-alternating : (k : ℕ) → length (alternating k) ≡ k
unfolding alternating
length-alternating zero = refl
length-alternating (suc k) = ap suc (length-alternating k)

-- two bits more in front don't change what it begins with
take-alternating : (n k : ℕ) → n ≤ k → take n (alternating (suc (suc k))) ≡ take n (alternating k)
unfolding alternating
take-alternating zero k h = refl
take-alternating (suc n) zero h = absurd (omega arith)
take-alternating (suc n) (suc k) h =
    let e : suc (suc (suc k)) % 2 ≡ suc k % 2 = omega arith in
    ap₂ (λ (p : ℕ) (xs : List Bool). (p == 0) ∷ xs) e (take-alternating n k (omega arith))

-- computed: the last k + 1 bits of a preamble and the beginning of the sync word differ from the sync word in five places or more
abbrev cut_differs : ℕ → Bool
cut_differs k = nat_le 5 (dist (alternating (suc k) ++ take (31 - k) (word_bits SYNC)) (word_bits SYNC))

cuts_differ : all_below cut_differs 32 ≡ true
unfolding all_below alternating bits_of
cuts_differ = refl

inside_even : near_sync (take 32 (alternating 32)) ≡ false
unfolding alternating bits_of
inside_even = refl

inside_odd : near_sync (take 32 (alternating 33)) ≡ false
unfolding alternating bits_of
inside_odd = refl

inside : (j : ℕ) → near_sync (take 32 (alternating (32 + j))) ≡ false
inside zero = inside_even
inside (suc zero) = inside_odd
inside (suc (suc j)) =
    let e : 32 + suc (suc j) ≡ suc (suc (32 + j)) = omega arith in
    ap (λ (n : ℕ). near_sync (take 32 (alternating n))) e ∙ ap near_sync (take-alternating 32 (32 + j) (omega arith)) ∙ inside j

-- ---- the windows

far_from_sync : (bits : List Bool) → 2 < dist bits (word_bits SYNC) → near_sync bits ≡ false
far_from_sync bits h = lt-leb (dist bits (word_bits SYNC)) 2 h

-- a window that begins in the preamble and ends in the word
window_cut : (k : ℕ) (word rest : List Bool) → k < 31 → length word ≡ 32 → dist word (word_bits SYNC) ≤ 2
    → near_sync (take 32 (alternating (suc k) ++ (word ++ rest))) ≡ false
window_cut k word rest h l near =
    let lx = length-alternating (suc k) in
    let e : 32 ≡ length (alternating (suc k)) + (31 - k) = omega arith in
    let t : take 32 (alternating (suc k) ++ (word ++ rest)) ≡ alternating (suc k) ++ take (31 - k) word =
    ap (λ (n : ℕ). take n (alternating (suc k) ++ (word ++ rest))) e ∙ take-append-add (alternating (suc k)) (word ++ rest) (31 - k)
    ∙ ap (λ (ys : List Bool). alternating (suc k) ++ ys) (take-append-le (31 - k) word rest (omega arith)) in
    let c = leb-true 5 (dist (alternating (suc k) ++ take (31 - k) (word_bits SYNC)) (word_bits SYNC)) (all_below_at cut_differs 32 k cuts_differ (omega arith)) in
    let ls = length-bits_of 32 SYNC in
    let l1 = length-append (alternating (suc k)) (take (31 - k) word) in
    let l2 = length-append (alternating (suc k)) (take (31 - k) (word_bits SYNC)) in
    let lw = length-take-le (31 - k) word (omega arith) in
    let lv = length-take-le (31 - k) (word_bits SYNC) (omega arith) in
    let tri = dist-triangle (alternating (suc k) ++ take (31 - k) (word_bits SYNC)) (alternating (suc k) ++ take (31 - k) word) (word_bits SYNC) (omega arith) (omega arith) in
    let same = dist-behind (alternating (suc k)) (take (31 - k) (word_bits SYNC)) (take (31 - k) word) in
    let part = dist-take (31 - k) (word_bits SYNC) word in
    let swap = dist-sym (word_bits SYNC) word (omega arith) in
    ap near_sync t ∙ far_from_sync (alternating (suc k) ++ take (31 - k) word) (omega arith)

-- a window inside the preamble
window_inside : (k : ℕ) (rest : List Bool) → 31 ≤ k → near_sync (take 32 (alternating (suc k) ++ rest)) ≡ false
window_inside k rest h =
    let l = length-alternating (suc k) in
    let e : suc k ≡ 32 + (k - 31) = omega arith in
    ap near_sync (take-append-le 32 (alternating (suc k)) rest (omega arith)) ∙ ap (λ (n : ℕ). near_sync (take 32 (alternating n))) e ∙ inside (k - 31)

no_window : (k : ℕ) (word rest : List Bool) → length word ≡ 32 → dist word (word_bits SYNC) ≤ 2
    → begins_with_sync (alternating (suc k) ++ (word ++ rest)) ≡ false
no_window k word rest l near =
    and_right (nat_le 32 (length (alternating (suc k) ++ (word ++ rest)))) (near_sync (take 32 (alternating (suc k) ++ (word ++ rest))))
    (elim (cases_lt k 31) [ inl cut ↦ window_cut k word rest cut l near | inr whole ↦ window_inside k (word ++ rest) whole ])

after_sync-at_once : (word rest : List Bool) → length word ≡ 32 → dist word (word_bits SYNC) ≤ 2 → after_sync (word ++ rest) ≡ Some rest
unfolding after_sync
after_sync-at_once [] rest l near = absurd (omega arith)
after_sync-at_once (b ∷ word) rest l near =
    let n = length-append (b ∷ word) rest in
    let good : begins_with_sync ((b ∷ word) ++ rest) ≡ true =
    ap₂ (λ (x y : Bool). x && y) (le-leb 32 (length ((b ∷ word) ++ rest)) (omega arith))
    (ap near_sync (take_at (b ∷ word) rest 32 l) ∙ le-leb (dist (b ∷ word) (word_bits SYNC)) 2 near) in
    ap (λ (t : Bool). value_or t (drop 31 (word ++ rest)) (after_sync (word ++ rest))) good
    ∙ ap (λ (xs : List Bool). Some xs) (drop_at word rest 31 (omega arith))

after_sync-alternating : (k : ℕ) (word rest : List Bool) → length word ≡ 32 → dist word (word_bits SYNC) ≤ 2
    → after_sync (alternating k ++ (word ++ rest)) ≡ Some rest
unfolding alternating after_sync
after_sync-alternating zero word rest l near = after_sync-at_once word rest l near
after_sync-alternating (suc k) word rest l near =
    ap (λ (t : Bool). value_or t (drop 31 (alternating k ++ (word ++ rest))) (after_sync (alternating k ++ (word ++ rest)))) (no_window k word rest l near)
    ∙ after_sync-alternating k word rest l near

-- ---- a preamble of words

filler_bits : word_bits filler ≡ alternating 32
unfolding alternating bits_of
filler_bits = refl

alternating-append : (k m : ℕ) → m % 2 ≡ 0 → alternating (k + m) ≡ alternating k ++ alternating m
unfolding alternating
alternating-append zero m h = let e : 0 + m ≡ m = omega arith in ap alternating e
alternating-append (suc k) m h =
    let e : suc k + m ≡ suc (k + m) = omega arith in
    let p : suc (k + m) % 2 ≡ suc k % 2 = omega arith in
    ap alternating e ∙ ap₂ (λ (q : ℕ) (xs : List Bool). (q == 0) ∷ xs) p (alternating-append k m h)

preamble_bits-is : (n : ℕ) → preamble_bits n ≡ alternating (32 * n)
unfolding alternating
preamble_bits-is zero = refl
preamble_bits-is (suc n) =
    let e : 32 + 32 * n ≡ 32 * suc n = omega arith in
    ap₂ (λ (x y : List Bool). x ++ y) filler_bits (preamble_bits-is n) ∙ sym (alternating-append 32 (32 * n) (omega arith)) ∙ ap alternating e

pub finds_sync_word : FindsSyncWord
finds_sync_word n word rest l near =
    ap (λ (xs : List Bool). after_sync (xs ++ (word ++ rest))) (preamble_bits-is n) ∙ after_sync-alternating (32 * n) word rest l near

-- ---- a word of a preamble at a sync place

filler_is_no_sync : is_sync filler ≡ false
unfolding bits_of
filler_is_no_sync = refl

pub filler_ends : FillerEnds
unfolding held_from loss_from
filler_ends k words at = (
  ap₂ (λ (p g : Bool). held_with p g filler (held_from (suc k) words)) at filler_is_no_sync,
  ap₂ (λ (p g : Bool). loss_with p g (loss_from (suc k) words)) at filler_is_no_sync,
)
