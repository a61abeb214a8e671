-- Bits of bytes that were read ahead of those that were taken.
use Rattle.std.proofs.Common.{◌≡◌, ◌≢◌, ℕ, zero, suc, ◌+◌, ◌*◌, ◌/◌, ◌%◌, ◌-◌, ◌^◌, ◌<◌, ◌≤◌, ◌==◌, nat_le, min, Bool, true, false, List, [], ◌∷◌, ◌++◌, length, take, drop, get_or, Option, Some, None, Result, Ok, Err, IsErr, refl, sym, ◌∙◌, ap, ap₂, subst, append_assoc, arith, length-take, length-drop}
use Rattle.std.proofs.lemmas.Grind.{common_steps}
use Rattle.std.proofs.lemmas.Bool.Decides.{nat_tests}
use Rattle.std.proofs.lemmas.List.{drop_more, take-append-drop}
use Rattle.std.specs.Borrow.{GName}
use Rattle.bits.specs.Bits.{bits_of, bytes_bits}
use Rattle.wires.specs.Files.{Files, all_files, ReadsAt}
use Rattle.wires.specs.Held.{Held, Lent, Text, OfShelf, OtherFiles}
use Rattle.wires.specs.Ahead.{Fills}
use Rattle.wires.specs.Left.{Left, Takes, TakesOne, TakesPiece}
use Rattle.wires.specs.Stacked.{bits_left, shelf_bits, some_or}
use Rattle.bits.proofs.Bytes.{bits_of-add, bits_of-mod, bytes_bits-append}
use Rattle.bits.proofs.Lengths.{length-bytes_bits}
use Rattle.wires.proofs.Causes.{cause_ok, cause_err, cause_none}
use Rattle.std.specs.Int.{from_bool}
use Rattle.wires.proofs.Pieces.{none_left}
use Rattle.wires.proofs.Written.{still, and_both, and_one, no_ok}

get_or-take : {A : Type 0} (n i : ℕ) (xs : List A) (d : A) → i < n → get_or (take n xs) i d ≡ get_or xs i d
get_or-take zero i xs d h = absurd (omega arith)
get_or-take (suc n) i [] d h = refl
get_or-take (suc n) zero (x ∷ xs) d h = refl
get_or-take (suc n) (suc i) (x ∷ xs) d h = get_or-take n i xs d (omega (arith, h))

pub drop-all : {A : Type 0} (n : ℕ) (xs : List A) → length xs ≤ n → drop n xs ≡ []
drop-all n [] h = grind (arith, common_steps)
drop-all zero (x ∷ xs) h = absurd (omega arith)
drop-all (suc n) (x ∷ xs) h = drop-all n xs (omega (arith, h))

-- no bits of a byte are pending
pub none_pending : (p byte : ℕ) (rest : List Bool) → p ≡ 0 → bits_of p byte ++ rest ≡ rest
unfolding bits_of
none_pending p byte rest z = rw z refl

-- nor are bytes left
pub none_ready : (p byte at end : ℕ) (bytes : List ℕ) → p ≡ 0 → at ≡ end → bits_of p byte ++ bytes_bits (drop at (take end bytes)) ≡ []
none_ready p byte at end bytes z e = none_pending p byte (bytes_bits (drop at (take end bytes))) z ∙ ap bytes_bits (drop-all at (take end bytes) (omega (arith, e, length-take end bytes)))

-- the most significant of the bits comes first
first_bit : (p w : ℕ) → bits_of (suc p) w ≡ (w / 2 ^ p % 2 == 1) ∷ bits_of p w
unfolding bits_of
first_bit p w = let e : 1 + p ≡ suc p = omega arith in subst (λ (k : ℕ). bits_of k w ≡ (w / 2 ^ p % 2 == 1) ∷ bits_of p w) e (bits_of-add 1 p w)

-- the first bit of the next byte
pub begins : (p byte at end : ℕ) (bytes : List ℕ) → p ≡ 0 → at < end → end ≤ length bytes
    → bits_of p byte ++ bytes_bits (drop at (take end bytes)) ≡ (get_or bytes at 0 / 128 % 2 == 1) ∷ (bits_of 7 (get_or bytes at 0) ++ bytes_bits (drop (at + 1) (take end bytes)))
begins p byte at end bytes z lt le =
    let n : at < length (take end bytes) = omega (arith, lt, le, length-take end bytes) in
    none_pending p byte (bytes_bits (drop at (take end bytes))) z
    ∙ (ap bytes_bits (drop_more (take end bytes) at 0 n ∙ ap (λ (b : ℕ). b ∷ drop (at + 1) (take end bytes)) (get_or-take end at bytes 0 lt))
    ∙ ap (λ (bs : List Bool). bs ++ bytes_bits (drop (at + 1) (take end bytes))) (first_bit 7 (get_or bytes at 0)))

-- the next bit of a byte
pub goes_on : (p byte : ℕ) (rest : List Bool) → p ≢ 0 → bits_of p byte ++ rest ≡ (byte / 2 ^ (p - 1) % 2 == 1) ∷ (bits_of (p - 1) byte ++ rest)
goes_on zero byte rest h = absurd (h refl)
goes_on (suc p) byte rest h = let e : suc p - 1 ≡ p = omega arith in rw e (ap (λ (bs : List Bool). bs ++ rest) (first_bit p byte))

no_bits : (xs : List ℕ) → bytes_bits xs ≡ [] → length xs ≡ 0
no_bits xs h = omega (arith, length-bytes_bits xs, ap length h)

pub source_fill : {E : Type 0} (ready : List Bool) (n : ℕ) (a b : Left ℕ) (buffer : List ℕ) → ready ≡ [] → Takes {E = E} a b buffer (Ok n)
    → Fills {T = Unit {0}} {E = E} (bits_left ready a) (bits_left (bytes_bits (take n buffer)) b) (bytes_bits (take n buffer)) (Ok (tt {0}))
source_fill ready n a b buffer z h = rw z (record {
  tells = h.tells;
  left = λ t. sym (bytes_bits-append (take n buffer) b.left) ∙ ap bytes_bits (sym (h.left t).0);
  there = λ t here. h.came t;
  came = λ t. h.came t;
  end = λ t e. ap bytes_bits ((h.left t).1.0 (omega (arith, no_bits (take n buffer) e, length-take n buffer, h.within)));
  steady = λ t s. (refl, (h.steady t s).1);
  faults = cause_ok n (tt {0}) h.faults;
  lent = h.lent;
})

drop-drop : {A : Type 0} (m n : ℕ) (xs : List A) → drop (m + n) xs ≡ drop n (drop m xs)
drop-drop zero n xs = let e : 0 + n ≡ n = omega arith in rw e refl
drop-drop (suc m) n [] = grind (arith, common_steps)
drop-drop (suc m) n (x ∷ xs) = let e : suc m + n ≡ suc (m + n) = omega arith in rw e (drop-drop m n xs)

-- a place in a file with fewer bytes than there are numbers of 64 bits
place_after : {A : Type 0} (b : Bool) (from n most : ℕ) (xs : List A) → nat_le (length xs) from ≡ b → n ≤ length (drop from xs) → length xs ≤ most → drop (min (from + n) most) xs ≡ drop n (drop from xs)
place_after true from n most xs t h k =
    let le : length xs ≤ from = grind (arith, nat_tests, t) in
    let z : n ≡ 0 = omega (arith, length-drop from xs, h, le) in
    rw (drop-all from xs le) (drop-all (min (from + n) most) xs (omega (arith, le, k)) ∙ rw z refl)
place_after false from n most xs t h k =
    let gt : from < length xs = grind (arith, nat_tests, t) in
    let e : min (from + n) most ≡ from + n = omega (arith, length-drop from xs, h, k, gt) in
    rw e (drop-drop from n xs)

pub shelf_fill : {E : Type 0} (name : GName) (file : List ℕ) (ready : List Bool) (from n : ℕ) (a b : Files) (buffer : List ℕ) → ready ≡ [] → ReadsAt {E = E} a b file from buffer (Ok n)
    → Fills {T = Unit {0}} {E = E} (shelf_bits name file ready from a) (shelf_bits name file (bytes_bits (take n buffer)) (min (from + n) 18446744073709551615) b) (bytes_bits (take n buffer)) (Ok (tt {0}))
shelf_fill name file ready from n a b buffer z h = rw z (record {
  tells = h.tells;
  left = λ t.
      let k = h.bytes t in
      let same : b.file file ≡ a.file file = ap (λ (s : OtherFiles). s.file file) h.files in
      let rest : drop (min (from + n) 18446744073709551615) (b.file file) ≡ drop n (drop from (a.file file)) =
      subst (λ (xs : List ℕ). drop (min (from + n) 18446744073709551615) xs ≡ drop n (drop from (a.file file))) (sym same)
      (place_after (nat_le (length (a.file file)) from) from n 18446744073709551615 (a.file file) refl k.1 (omega (arith, h.size t))) in
      let whole : take n buffer ++ drop (min (from + n) 18446744073709551615) (b.file file) ≡ drop from (a.file file) =
      ap (λ (xs : List ℕ). xs ++ drop (min (from + n) 18446744073709551615) (b.file file)) k.0 ∙ (ap (λ (xs : List ℕ). take n (drop from (a.file file)) ++ xs) rest ∙ take-append-drop n (drop from (a.file file))) in
      sym (bytes_bits-append (take n buffer) (drop (min (from + n) 18446744073709551615) (b.file file))) ∙ ap bytes_bits whole;
  there = λ t here. h.there t;
  came = λ t. h.there t;
  end = λ t e.
      let k = h.bytes t in
      let none : n ≡ 0 = omega (arith, no_bits (take n buffer) e, ap length k.0, length-take n (drop from (a.file file)), k.1) in
      ap bytes_bits (drop-all from (a.file file) ((h.at_end t).0 none));
  steady = λ t s.
      let two = and_both a.steady (a.there file) s in
      let after = h.steady t two.0 two.1 in
      (refl, and_one b.steady (b.there file) after.1 (still (ap (λ (s : OtherFiles). s.there file) h.files) two.1));
  faults = cause_ok n (tt {0}) h.faults;
  lent = let files = h.files in let below = h.lent in λ i. Lent name ∷ Text file ∷ OfShelf (files i) ∷ below i;
})

pub shelf_fill-fails : {U E F : Type 0} (name : GName) (file : List ℕ) (ready : List Bool) (from : ℕ) (a b : Files) (buffer : List ℕ) (e : E) (r : Result U F) → IsErr r → ReadsAt a b file from buffer (Err e)
    → Fills (shelf_bits name file ready from a) (shelf_bits name file ready from b) ready r
shelf_fill-fails name file ready from a b buffer e (Ok x) k h = cc
shelf_fill-fails {E} name file ready from a b buffer e (Err f) k h = record {
  tells = h.tells;
  left = λ t. ap (λ (s : OtherFiles). ready ++ bytes_bits (drop from (s.file file))) h.files;
  there = λ t here. still (sym (ap (λ (s : OtherFiles). some_or ready (s.there file)) h.files)) here;
  came = λ t. tt;
  end = λ t. tt;
  steady = λ t s. let two = and_both a.steady (a.there file) s in no_ok ℕ E e (h.steady t two.0 two.1).0;
  faults = cause_err e f h.faults;
  lent = let files = h.files in let below = h.lent in λ i. Lent name ∷ Text file ∷ OfShelf (files i) ∷ below i;
}

-- all the bits of a source, from the start
pub bits_left-start : (ready : List Bool) (below below' : Left ℕ) → ready ≡ [] → below' ≡ below → (bits_left ready below').left ≡ bytes_bits below.left
bits_left-start ready below below' z e = rw (z, e) refl

-- all the bits of a file, from the start
pub shelf_bits-start : (name : GName) (file file' : List ℕ) (ready : List Bool) (from : ℕ) (below below' : Files) → ready ≡ [] → from ≡ 0 → file' ≡ file → below' ≡ below
    → (shelf_bits name file' ready from below').left ≡ bytes_bits (below.file file)
shelf_bits-start name file file' ready from below below' z f n e = rw (z, f, n, e) refl

-- what the bits of a file hold of the shelf
abbrev files_of : OtherFiles → List Held → OtherFiles
files_of o (Lent n ∷ Text t ∷ OfShelf s ∷ ls) = s
files_of o _ = o

-- the bits of a file leave the shelf as it was, where what they hold is as it was
pub shelf_bits-keeps : (m n : GName) (a b : List ℕ) (ready ready' : List Bool) (from from' : ℕ) (old new : Files) → (shelf_bits m b ready' from' new).lent ≡ (shelf_bits n a ready from old).lent
    → (all_files new ≡ all_files old) × (new.lent ≡ old.lent)
shelf_bits-keeps m n a b ready ready' from from' old new e = (ap (files_of (all_files old)) e, ap (λ (ls : List Held). drop 3 ls) e)

-- ---- pieces of what is ready

-- the bits of the next byte
pub next_byte : (p byte at end : ℕ) (bytes : List ℕ) → p ≡ 0 → at < end → end ≤ length bytes
    → bits_of p byte ++ bytes_bits (drop at (take end bytes)) ≡ bits_of 8 (get_or bytes at 0) ++ bytes_bits (drop (at + 1) (take end bytes))
next_byte p byte at end bytes z lt le =
    let n : at < length (take end bytes) = omega (arith, lt, le, length-take end bytes) in
    none_pending p byte (bytes_bits (drop at (take end bytes))) z
    ∙ ap bytes_bits (drop_more (take end bytes) at 0 n ∙ ap (λ (b : ℕ). b ∷ drop (at + 1) (take end bytes)) (get_or-take end at bytes 0 lt))

-- the first n of p bits, and the others
pub cut_bits : (p n w : ℕ) (rest : List Bool) → n ≤ p → bits_of p w ++ rest ≡ bits_of n (w / 2 ^ (p - n)) ++ (bits_of (p - n) w ++ rest)
cut_bits p n w rest h =
    let e : n + (p - n) ≡ p = omega arith in
    ap (λ (xs : List Bool). xs ++ rest) (ap (λ (k : ℕ). bits_of k w) (sym e) ∙ bits_of-add n (p - n) w) ∙ append_assoc (bits_of n (w / 2 ^ (p - n))) (bits_of (p - n) w) rest

-- a word of four bytes
pub four_bytes : (a b c d : ℕ) → b < 256 → c < 256 → d < 256
    → bits_of 32 (((a * 256 + b) * 256 + c) * 256 + d) ≡ bits_of 8 a ++ (bits_of 8 b ++ (bits_of 8 c ++ bits_of 8 d))
four_bytes a b c d p q r =
    let w = ((a * 256 + b) * 256 + c) * 256 + d in
    let e1 : w / 2 ^ 24 ≡ a = omega arith in
    let e2 : w / 2 ^ 16 % 256 ≡ b % 256 = omega arith in
    let e3 : w / 2 ^ 8 % 256 ≡ c % 256 = omega arith in
    let e4 : w % 256 ≡ d % 256 = omega arith in
    let same : (x y : ℕ) → x % 256 ≡ y % 256 → bits_of 8 x ≡ bits_of 8 y = λ x y e. sym (bits_of-mod x) ∙ ap (bits_of 8) e ∙ bits_of-mod y in
    bits_of-add 8 24 w
    ∙ ap₂ (λ (xs ys : List Bool). xs ++ ys) (ap (bits_of 8) e1)
    (bits_of-add 8 16 w
    ∙ ap₂ (λ (xs ys : List Bool). xs ++ ys) (same _ _ e2)
    (bits_of-add 8 8 w ∙ ap₂ (λ (xs ys : List Bool). xs ++ ys) (same _ _ e3) (same _ _ e4)))

pub next_word : (p byte at end : ℕ) (bytes : List ℕ) (a b c d : ℕ) → p ≡ 0 → at + 4 ≤ end → end ≤ length bytes
    → a ≡ get_or bytes at 0 → b ≡ get_or bytes (at + 1) 0 → c ≡ get_or bytes (at + 2) 0 → d ≡ get_or bytes (at + 3) 0 → b < 256 → c < 256 → d < 256
    → bits_of p byte ++ bytes_bits (drop at (take end bytes)) ≡ bits_of 32 (((a * 256 + b) * 256 + c) * 256 + d) ++ (bits_of p byte ++ bytes_bits (drop (at + 4) (take end bytes)))
next_word p byte at end bytes a b c d z le few ea eb ec ed lb lc ld =
    let xs = take end bytes in
    let l = length-take end bytes in
    let step : (i : ℕ) (x : ℕ) → i < end → x ≡ get_or bytes i 0 → drop i xs ≡ x ∷ drop (i + 1) xs = λ i x lt e.
    drop_more xs i 0 (omega (arith, lt, few, l)) ∙ ap (λ (y : ℕ). y ∷ drop (i + 1) xs) (get_or-take end i bytes 0 lt ∙ sym e) in
    let r = bytes_bits (drop (at + 4) xs) in
    let o1 : (at + 1) + 1 ≡ at + 2 = omega arith in
    let o2 : (at + 2) + 1 ≡ at + 3 = omega arith in
    let o3 : (at + 3) + 1 ≡ at + 4 = omega arith in
    let lt0 : at < end = omega arith in
    let lt1 : at + 1 < end = omega arith in
    let lt2 : at + 2 < end = omega arith in
    let lt3 : at + 3 < end = omega arith in
    let all : drop at xs ≡ a ∷ (b ∷ (c ∷ (d ∷ drop (at + 4) xs))) =
    step at a lt0 ea
    ∙ ap (λ (ys : List ℕ). a ∷ ys) (step (at + 1) b lt1 eb ∙ ap (λ (k : ℕ). b ∷ drop k xs) o1
    ∙ ap (λ (ys : List ℕ). b ∷ ys) (step (at + 2) c lt2 ec ∙ ap (λ (k : ℕ). c ∷ drop k xs) o2
    ∙ ap (λ (ys : List ℕ). c ∷ ys) (step (at + 3) d lt3 ed ∙ ap (λ (k : ℕ). d ∷ drop k xs) o3))) in
    none_pending p byte (bytes_bits (drop at xs)) z ∙ ap bytes_bits all
    ∙ regroup (bits_of 8 a) (bits_of 8 b) (bits_of 8 c) (bits_of 8 d) r
    ∙ ap₂ (λ (us vs : List Bool). us ++ vs) (sym (four_bytes a b c d lb lc ld)) (sym (none_pending p byte r z))
  where
    regroup : (u v w x y : List Bool) → u ++ (v ++ (w ++ (x ++ y))) ≡ (u ++ (v ++ (w ++ x))) ++ y
    regroup u v w x y = simp append_assoc

-- something is there where a piece is ready
some_ready : (ready piece rest : List Bool) (there : Bool) → ready ≡ piece ++ rest → piece ≢ [] → some_or ready there ≡ true
some_ready ready [] rest there e h = absurd (h refl)
some_ready [] (x ∷ piece) rest there e h = cc
some_ready (y ∷ ready) (x ∷ piece) rest there e h = refl

pub bits_piece : {E : Type 0} (most : ℕ) (ready piece rest : List Bool) (a : Left ℕ) → ready ≡ piece ++ rest → length piece ≤ most → piece ≢ []
    → TakesPiece {E = E} most (bits_left ready a) (bits_left rest a) (Ok piece)
bits_piece most ready piece rest a e few h = record {
  tells = refl;
  few = few;
  left = λ t. (ap (λ (xs : List Bool). xs ++ bytes_bits a.left) e ∙ append_assoc piece rest (bytes_bits a.left), λ n. absurd (h n));
  there = λ t here. some_ready ready piece rest a.there e h;
  came = λ t. some_ready ready piece rest a.there e h;
  steady = λ t s. (refl, s);
  faults = cause_none piece a.faults;
  lent = refl;
}

pub shelf_piece : {E : Type 0} (most : ℕ) (name : GName) (file : List ℕ) (from : ℕ) (ready piece rest : List Bool) (a : Files) → ready ≡ piece ++ rest → length piece ≤ most → piece ≢ []
    → TakesPiece {E = E} most (shelf_bits name file ready from a) (shelf_bits name file rest from a) (Ok piece)
shelf_piece most name file from ready piece rest a e few h = record {
  tells = refl;
  few = few;
  left = λ t. (ap (λ (xs : List Bool). xs ++ bytes_bits (drop from (a.file file))) e ∙ append_assoc piece rest (bytes_bits (drop from (a.file file))), λ n. absurd (h n));
  there = λ t here. some_ready ready piece rest (a.there file) e h;
  came = λ t. some_ready ready piece rest (a.there file) e h;
  steady = λ t s. (refl, s);
  faults = cause_none piece a.faults;
  lent = refl;
}

bit_of : (b : Bool) → bits_of 1 (from_bool b) ≡ b ∷ []
unfolding bits_of
bit_of true = refl
bit_of false = refl

-- one bit as a piece, and none
pub piece_of_one : {E : Type 0} (most : ℕ) (old new : Left Bool) (answer : Option Bool) (b : Bool) (piece : List Bool) → answer ≡ Some b → piece ≡ bits_of 1 (from_bool b) → 0 < most
    → TakesOne {E = E} old new (Ok answer) → TakesPiece {E = E} most old new (Ok piece)
piece_of_one {E} most old new answer b piece is e some h =
    let one : piece ≡ b ∷ [] = e ∙ bit_of b in
    let g : TakesOne {E = E} old new (Ok (Some b)) = rw is at h in
    rw one (record {
      tells = g.tells;
      few = omega arith;
      left = λ t. (g.left t, λ n. cc);
      there = g.there;
      came = g.came;
      steady = λ t s. (refl, (g.steady t s).1);
      faults = cause_ok (Some b) (b ∷ []) g.faults;
      lent = g.lent;
    })

pub piece_of_none : {E : Type 0} (most : ℕ) (old new : Left Bool) (answer : Option Bool) (piece : List Bool) → answer ≡ None → piece ≡ bits_of 0 0
    → TakesOne {E = E} old new (Ok answer) → TakesPiece {E = E} most old new (Ok piece)
piece_of_none {E} most old new answer piece is e h =
    let nothing : piece ≡ [] = e ∙ none_left 0 0 refl in
    let g : TakesOne {E = E} old new (Ok None) = rw is at h in
    rw nothing (record {
      tells = g.tells;
      few = omega arith;
      left = λ t. ((g.left t).0 ∙ sym (g.left t).1, λ n. (g.left t).0);
      there = g.there;
      came = g.came;
      steady = λ t s. (refl, (g.steady t s).1);
      faults = cause_ok None [] g.faults;
      lent = g.lent;
    })
