-- What words over a sink of bytes do, from what the sink did.
use Rattle.std.proofs.Common.{◌≡◌, ℕ, zero, suc, ◌*◌, ◌<◌, ◌&&◌, nat_lt, List, [], ◌∷◌, ◌++◌, length, take, drop, Bool, true, false, Result, Ok, Err, IsTrue, refl, sym, ◌∙◌, ap, ap₂, subst, arith}
use Rattle.std.specs.Prelude.{if◌then◌else◌}
use Rattle.std.specs.Int.{byte_at, bytes_high_first, to_be_bytes, w32}
use Rattle.std.proofs.lemmas.Bool.{lt-ltb}
use Rattle.std.proofs.lemmas.List.{take-append-drop}
use Rattle.std.proofs.lemmas.List.Folds.{list_all-append}
use Rattle.std.specs.Borrow.{GName}
use Rattle.bits.specs.Bits.{bytes_bits}
use Rattle.bits.proofs.Bytes.{bytes_bits-append, take-bytes_bits}
use Rattle.bits.proofs.Lengths.{length-bytes_bits}
use Rattle.wires.specs.Held.{Bytes, Held, Lent}
use Rattle.wires.specs.Stacked.{are_bytes, bits_over, words_bytes}
use Rattle.wires.specs.Written.{Written, Puts, Appends}

-- bytes that were appended, as bits
pub appends_bits : {T E : Type 0} (old new piece : List ℕ) (r : Result T E) → Appends old new piece r → Appends (bytes_bits old) (bytes_bits new) (bytes_bits piece) r
appends_bits old new piece (Ok x) h = ap bytes_bits h ∙ bytes_bits-append old piece
appends_bits old new piece (Err e) h = (
  8 * h.0,
  omega (arith, h.1, length-bytes_bits piece),
  ap bytes_bits h.2 ∙ (bytes_bits-append old (take h.0 piece) ∙ ap (λ (bs : List Bool). bytes_bits old ++ bs) (sym (take-bytes_bits h.0 piece))),
)

-- ---- bytes

and_true : (a b : Bool) → b ≡ true → (a && b) ≡ a
and_true true b h = h
and_true false b h = refl

and_first : (a b : Bool) → (a && b) ≡ true → a ≡ true
and_first true b h = refl
and_first false b h = h

pub are_bytes-append : (xs ys : List ℕ) → are_bytes ys ≡ true → are_bytes (xs ++ ys) ≡ are_bytes xs
are_bytes-append xs ys h = list_all-append (λ b. nat_lt b 256) xs ys ∙ and_true (are_bytes xs) (are_bytes ys) h

pub are_bytes-take : (n : ℕ) (xs : List ℕ) → are_bytes xs ≡ true → are_bytes (take n xs) ≡ true
are_bytes-take n xs h =
    and_first (are_bytes (take n xs)) (are_bytes (drop n xs)) (sym (list_all-append (λ b. nat_lt b 256) (take n xs) (drop n xs)) ∙ (ap are_bytes (take-append-drop n xs) ∙ h))

pub are_bytes-cons : (x : ℕ) (xs : List ℕ) → x < 256 → are_bytes xs ≡ true → are_bytes (x ∷ xs) ≡ true
are_bytes-cons x xs lt h = list_all-append (λ b. nat_lt b 256) (x ∷ []) xs ∙ (and_true (are_bytes (x ∷ [])) (are_bytes xs) h ∙ rw (lt-ltb x 256 lt) refl)

byte_at-lt : (k n : ℕ) → byte_at k n < 256
byte_at-lt zero n = omega arith
byte_at-lt (suc k) n = omega arith

are_bytes-high_first : (k n : ℕ) → are_bytes (bytes_high_first k n) ≡ true
are_bytes-high_first zero n = refl
are_bytes-high_first (suc k) n = are_bytes-cons (byte_at k n) (bytes_high_first k n) (byte_at-lt k n) (are_bytes-high_first k n)

pub are_bytes-word : (w : ℕ) → are_bytes (to_be_bytes w32 w) ≡ true
are_bytes-word w = are_bytes-high_first 4 w

pub are_bytes-words : (ws : List ℕ) → are_bytes (words_bytes ws) ≡ true
are_bytes-words [] = refl
are_bytes-words (w ∷ ws) = are_bytes-append (to_be_bytes w32 w) (words_bytes ws) (are_bytes-words ws) ∙ are_bytes-word w

-- bytes that were appended leave bytes
appends_bytes : {T E : Type 0} (old new piece : List ℕ) (r : Result T E) → are_bytes piece ≡ true → Appends old new piece r → are_bytes new ≡ are_bytes old
appends_bytes old new piece (Ok x) b h = ap are_bytes h ∙ are_bytes-append old piece b
appends_bytes old new piece (Err e) b h = ap are_bytes h.2 ∙ are_bytes-append old (take h.0 piece) (are_bytes-take h.0 piece b)

told_stays : (b c x y : Bool) → c ≡ b → (IsTrue b → y ≡ x) → (if c then y else true) ≡ (if b then x else true)
told_stays true true x y e f = f refl
told_stays false false x y e f = refl
told_stays true false x y e f = absurd cc
told_stays false true x y e f = absurd cc

-- a write of bytes below is a write of their bits
pub bits_puts : {T E : Type 0} (name : GName) (old new : Written ℕ) (piece : List ℕ) (bits : List Bool) (r : Result T E) → bytes_bits piece ≡ bits → are_bytes piece ≡ true → Puts old new piece r → Puts (bits_over name old) (bits_over name new) bits r
bits_puts name old new piece bits r e are h =
    let n : length bits ≡ 8 * length piece = ap length (sym e) ∙ length-bytes_bits piece in
    record {
      tells = h.tells;
      held = λ t. subst (λ (bs : List Bool). Appends (bytes_bits old.held) (bytes_bits new.held) bs r) e (appends_bits old.held new.held piece r (h.held t));
      room = λ t. omega (arith, h.room t, length-bytes_bits old.held, length-bytes_bits new.held);
      steady = λ t s fits. h.steady t s (omega (arith, n, fits));
      faults = h.faults;
      lent = ap₂ (λ (b : Bool) (xs : List Held). Lent name ∷ Bytes b ∷ xs)
          (told_stays old.tells new.tells (are_bytes old.held) (are_bytes new.held) h.tells (λ t. appends_bytes old.held new.held piece r are (h.held t))) h.lent;
    }
