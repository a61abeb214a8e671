-- What `one` read, from what the front of the input is.
use Rattle.std.proofs.Common.{◌≡◌, ℕ, ◌%◌, ◌<◌, ◌≤◌, inl, inr, Bool, List, [], ◌∷◌, ◌++◌, length, length-append, take, Ok, IsTrue, refl, sym, ◌∙◌, ap, ap₂, subst, arith, append-nil}
use Rattle.std.proofs.lemmas.List.{length-map, length-take-le}
use Rattle.std.proofs.lemmas.Bool.{cases_lt}
use Rattle.entry_line.specs.Chars.{char_of}
use Rattle.tap_block.specs.Chars.{characters, etx, stx}
use Rattle.tap_block.specs.Reading.{IsTrailer}
use Rattle.wires.specs.Left.{Left}
use Rattle.one_block.specs.Input.{ReadsFront}
use Rattle.one_block.specs.LoneBlock.{IsLoneBlock, IsMarkedBlock}
use Rattle.one_block.specs.OneRow.{ReadBlock, ReadInput, ReadNoBlock}
use Rattle.one_block.proofs.LoneBlocks.{lone_form}

-- characters stand for themselves
pub characters-characters : (bytes : List ℕ) → characters (characters bytes) ≡ characters bytes
characters-characters [] = refl
characters-characters (b ∷ bytes) = let e : b % 128 % 128 ≡ b % 128 = omega arith in ap₂ (λ (c : ℕ) (l : List ℕ). c ∷ l) e (characters-characters bytes)

length-trailer : (t : List ℕ) → IsTrailer t → length t ≤ 4
length-trailer [] h = omega arith
length-trailer (a ∷ []) h = omega arith
length-trailer (a ∷ b ∷ []) h = omega arith
length-trailer (a ∷ b ∷ c ∷ []) h = omega arith
length-trailer (a ∷ b ∷ c ∷ d ∷ []) h = omega arith
length-trailer (a ∷ b ∷ c ∷ d ∷ e ∷ t) h = elim h [ ]

-- one block has at most 256 characters
pub length-lone : (x body trailer : List ℕ) → IsLoneBlock x body trailer → length x ≤ 256
length-lone x body trailer h =
    let f = lone_form x body trailer h in
    omega (arith, ap length f.0, length-append (stx ∷ body) (etx ∷ trailer), length-trailer trailer f.2, h.short)

length-characters : (bytes : List ℕ) → length (characters bytes) ≡ length bytes
length-characters bytes = length-map bytes char_of

-- the characters of what was left are those that were read, where fewer were read than the buffer holds
all_read : {E : Type 0} (old new : Left ℕ) (buffer chars : List ℕ) (n : ℕ) → ReadsFront {E = E} old new buffer (Ok n) → chars ≡ characters (take n buffer)
    → IsTrue old.tells → n < length buffer → characters old.left ≡ chars
all_read old new buffer chars n h e t lt =
    ap characters (h.took.left t ∙ ap (λ (rest : List ℕ). take n buffer ++ rest) (h.whole t lt) ∙ append-nil (take n buffer)) ∙ sym e

-- where the buffer was filled, more characters were left than one block has
many : {E : Type 0} (old new : Left ℕ) (buffer : List ℕ) (n : ℕ) → ReadsFront {E = E} old new buffer (Ok n) → IsTrue old.tells → length buffer ≤ n
    → length buffer ≤ length (characters old.left)
many old new buffer n h t le =
    omega (arith, length-characters old.left, ap length (h.took.left t), length-append (take n buffer) new.left, length-take-le n buffer h.within, h.within)

read_input : {E : Type 0} (old new : Left ℕ) (buffer : List ℕ) (n : ℕ) → length buffer ≡ 257 → ReadsFront {E = E} old new buffer (Ok n) → ReadInput old new
read_input old new buffer n size h = record {
  taken = take n buffer;
  took = h.took;
  few = omega (arith, length-take-le n buffer h.within, h.within, size);
}

-- what was read isn't one block
pub read_no_block : {E : Type 0} (old new : Left ℕ) (buffer chars : List ℕ) (n : ℕ) → length buffer ≡ 257 → ReadsFront {E = E} old new buffer (Ok n)
    → chars ≡ characters (take n buffer) → ((body trailer : List ℕ) → IsLoneBlock chars body trailer → ⊥) → ReadNoBlock old new
read_no_block old new buffer chars n size h e none = record {
  input = read_input old new buffer n size h;
  no_block = λ t body trailer p. elim (cases_lt n (length buffer)) [
    | inl lt ↦ none body trailer (subst (λ (x : List ℕ). IsLoneBlock x body trailer) (all_read old new buffer chars n h e t lt) p)
    | inr le ↦ omega (arith, many old new buffer n h t le, length-lone (characters old.left) body trailer p, size)
  ];
}

-- what was read is one block
pub read_block : {E : Type 0} (old new : Left ℕ) (buffer chars body : List ℕ) (right : Bool) (n : ℕ) → length buffer ≡ 257 → ReadsFront {E = E} old new buffer (Ok n)
    → chars ≡ characters (take n buffer) → IsMarkedBlock chars body right → ReadBlock old new body right
read_block old new buffer chars body right n size h e p =
    let l : length chars ≡ n = ap length e ∙ length-characters (take n buffer) ∙ length-take-le n buffer h.within in
    let lt : n < length buffer = omega (arith, length-lone chars body p.trailer p.lone, l, size) in
    record {
      input = read_input old new buffer n size h;
      whole = λ t. h.whole t lt;
      block = λ t. subst (λ (x : List ℕ). IsMarkedBlock x body right) (sym (all_read old new buffer chars n h e t lt)) p;
    }
