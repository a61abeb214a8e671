-- Bits that are appended to a file, some bytes at a time.
use Rattle.std.proofs.Common.{◌≡◌, ℕ, zero, suc, ◌-◌, ◌*◌, ◌^◌, ◌<◌, Bool, List, [], ◌∷◌, ◌++◌, length, length-append, take, drop, append_assoc, append-nil, Result, Ok, Err, IsErr, IsTrue, refl, sym, ◌∙◌, ap, ap₂, arith, length-drop}
use Rattle.std.proofs.lemmas.List.{length-take-le, take-append-drop}
use Rattle.std.specs.Borrow.{GName}
use Rattle.bits.specs.Bits.{bits_of, bytes_bits, number}
use Rattle.bits.proofs.Bytes.{bytes_bits-append}
use Rattle.bits.proofs.Lengths.{length-bytes_bits}
use Rattle.bits.proofs.Numbers.{bits_of-number, number-lt}
use Rattle.wires.specs.declared.Failed.{Failed}
use Rattle.wires.specs.Files.{AppendsTo, Files}
use Rattle.wires.specs.Stacked.{are_bytes, file_over}
use Rattle.wires.proofs.Below.{file_back, file_puts}
use Rattle.wires.proofs.Stacked.{are_bytes-append, are_bytes-cons}
use Rattle.wires.proofs.Written.{Puts-cut, Puts-nothing, Puts-then}
use Rattle.line_writer.specs.LineFile.{AppendsBits, AreBytesOf}

-- ---- appends one after another

appends_then : {T U E F : Type 0} (n : GName) (a b c : Files) (name p q : List ℕ) (x : T) (r : Result U F) → AppendsTo {E = E} a b name p (Ok x) → AppendsTo b c name q r → AppendsTo a c name (p ++ q) r
appends_then {E} n a b c name p q x r h k =
    file_back n n name name a c (p ++ q) r
    (Puts-then {E = E} (file_over n name a) (file_over n name b) (file_over n name c) p q x r (file_puts {E = E} n name a b p (Ok x) h) (file_puts n name b c q r k))

-- a failed append of the front of a longer piece
appends_cut : {T U E F : Type 0} (n : GName) (a b : Files) (name p q : List ℕ) (e : E) (r : Result U F) → IsErr r → AppendsTo {T = T} a b name p (Err e) → AppendsTo a b name (p ++ q) r
appends_cut {T} n a b name p q e r bad h =
    file_back n n name name a b (p ++ q) r (Puts-cut {T = T} (file_over n name a) (file_over n name b) p q e r bad (file_puts {T = T} n name a b p (Err e) h))

appends_nothing : {T E : Type 0} (n : GName) (a : Files) (name : List ℕ) (x : T) → AppendsTo {E = E} a a name [] (Ok x)
appends_nothing {E} n a name x = file_back {E = E} n n name name a a [] (Ok x) (Puts-nothing {E = E} (file_over n name a) x)

-- ---- bytes of bits

-- bits of which there are eight for each of some bytes are those of bytes
some_bytes : (n : ℕ) (bits : List Bool) → length bits ≡ 8 * n → (bytes : List ℕ) × AreBytesOf bits bytes
some_bytes zero [] h = ([], record { bits_are = refl; are = refl })
some_bytes zero (b ∷ bits) h = absurd (omega (arith, h))
some_bytes (suc n) bits h =
    let first = take 8 bits in
    let eight : length first ≡ 8 = length-take-le 8 bits (omega (arith, h)) in
    let rest = some_bytes n (drop 8 bits) (omega (arith, h, length-drop 8 bits)) in
    let is : bits_of 8 (number first) ≡ first = ap (λ (k : ℕ). bits_of k (number first)) (sym eight) ∙ bits_of-number first in
    let lt : number first < 256 = (let few = number-lt first in let e : 2 ^ length first ≡ 2 ^ 8 = ap (λ (k : ℕ). 2 ^ k) eight in omega (arith, few, e)) in (
      number first ∷ rest.0,
      record {
        bits_are = ap₂ (λ (xs ys : List Bool). xs ++ ys) is rest.1.bits_are ∙ take-append-drop 8 bits;
        are = are_bytes-cons (number first) rest.0 lt rest.1.are;
      },
    )

-- ---- the loop

-- Of all bits the first were appended to a file. These are left, of so many bytes.
pub record AppendedSo (name : List ℕ) (all left : List Bool) (to_come : ℕ) (old now : Files) : Type 0 where
  pub done : List ℕ
  pub are : IsTrue (are_bytes done)
  pub takes : all ≡ bytes_bits done ++ left
  pub long : length left ≡ 8 * to_come
  pub appended : AppendsTo {E = Failed} old now name done (Ok (tt {0}))

pub appending_begins : (n : GName) (name : List ℕ) (bits : List Bool) (count : ℕ) (a : Files) → length bits ≡ 8 * count → AppendedSo name bits bits count a a
appending_begins n name bits count a h = record { done = []; are = refl; takes = refl; long = h; appended = appends_nothing {E = Failed} n a name (tt {0}) }

behind : (all left later : List Bool) (done piece : List ℕ) → all ≡ bytes_bits done ++ left → left ≡ bytes_bits piece ++ later → all ≡ bytes_bits (done ++ piece) ++ later
behind all left later done piece e f =
    e ∙ (ap (λ (xs : List Bool). bytes_bits done ++ xs) f
    ∙ (sym (append_assoc (bytes_bits done) (bytes_bits piece) later) ∙ ap (λ (xs : List Bool). xs ++ later) (sym (bytes_bits-append done piece))))

left_long : (left later : List Bool) (piece : List ℕ) (to_come : ℕ) → length left ≡ 8 * to_come → left ≡ bytes_bits piece ++ later → length later ≡ 8 * (to_come - length piece)
left_long left later piece to_come h e = omega (arith, h, ap length e, length-append (bytes_bits piece) later, length-bytes_bits piece)

bytes_then : (xs ys : List ℕ) → IsTrue (are_bytes xs) → IsTrue (are_bytes ys) → IsTrue (are_bytes (xs ++ ys))
bytes_then xs ys h k = are_bytes-append xs ys k ∙ h

pub appending_goes_on : (n : GName) (y : Unit {0}) (name : List ℕ) (all left later : List Bool) (piece : List ℕ) (to_come : ℕ) (a b c : Files) → AppendedSo name all left to_come a b
    → left ≡ bytes_bits piece ++ later → IsTrue (are_bytes piece) → AppendsTo {E = Failed} b c name piece (Ok y) → AppendedSo name all later (to_come - length piece) a c
appending_goes_on n y name all left later piece to_come a b c h takes are k = record {
  done = h.done ++ piece;
  are = bytes_then h.done piece h.are are;
  takes = behind all left later h.done piece h.takes takes;
  long = left_long left later piece to_come h.long takes;
  appended = appends_then {E = Failed} n a b c name h.done piece (tt {0}) (Ok (tt {0})) h.appended k;
}

pub appending_fails : {U V F : Type 0} (n : GName) (e : Failed) (r : Result V F) (name : List ℕ) (all left later : List Bool) (piece : List ℕ) (to_come : ℕ) (a b c : Files) → IsErr r → AppendedSo name all left to_come a b
    → left ≡ bytes_bits piece ++ later → IsTrue (are_bytes piece) → AppendsTo {T = U} b c name piece (Err e) → AppendsBits name all a c r
appending_fails {U} n e r name all left later piece to_come a b c bad h takes are k =
    let rest = some_bytes (to_come - length piece) later (left_long left later piece to_come h.long takes) in
    record {
      bytes = (h.done ++ piece) ++ rest.0;
      are = record {
        bits_are = bytes_bits-append (h.done ++ piece) rest.0 ∙ (ap (λ (xs : List Bool). bytes_bits (h.done ++ piece) ++ xs) rest.1.bits_are ∙ sym (behind all left later h.done piece h.takes takes));
        are = bytes_then (h.done ++ piece) rest.0 (bytes_then h.done piece h.are are) rest.1.are;
      };
      appends = appends_cut {T = U} n a c name (h.done ++ piece) rest.0 e r bad (appends_then {E = Failed} n a b c name h.done piece (tt {0}) (Err e) h.appended k);
    }

pub appending_ends : (name : List ℕ) (all left : List Bool) (to_come : ℕ) (a b : Files) → to_come ≡ 0 → AppendedSo name all left to_come a b → AppendsBits {E = Failed} name all a b (Ok (tt {0}))
appending_ends name all left to_come a b none h = record {
  bytes = h.done;
  are = record { bits_are = sym (h.takes ∙ (ap (λ (xs : List Bool). bytes_bits h.done ++ xs) (no_left left (omega (arith, h.long, none))) ∙ append-nil (bytes_bits h.done))); are = h.are };
  appends = h.appended;
}
  where
    no_left : (bits : List Bool) → length bits ≡ 0 → bits ≡ []
    no_left [] e = refl
    no_left (b ∷ bits) e = absurd (omega (arith, e))
