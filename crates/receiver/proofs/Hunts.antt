-- One more bit to a hunt.
use Rattle.std.proofs.Common.{◌≡◌, ℕ, suc, ◌+◌, ◌-◌, ◌<◌, ◌≤◌, Bool, true, false, ◌&&◌, nat_le, List, [], ◌∷◌, ◌++◌, length, length-append, length-drop, take, drop, Option, Some, None, arith, refl, sym, ◌∙◌, ap, ap₂, inl, inr}
use Rattle.std.proofs.lemmas.List.{drop-append-le, take-append-le, take_all, drop_all, drop-drop}
use Rattle.std.proofs.lemmas.Bool.{cases_lt, le-leb, lt-leb, and_left}
use Rattle.std.specs.Int.{from_bool}
use Rattle.bits.specs.Bits.{bits_of, bit_value, word_bits, number}
use Rattle.bits.proofs.Numbers.{bits_of-number}
use Rattle.receiver.specs.Locks.{Hunts, LockHolds, lock_of}
use Rattle.receiver.specs.Stretches.{first_words, loss_from, near_sync, is_sync, begins_with_sync, value_or, after_sync}
use Rattle.receiver.specs.Registers.{last_32}

pub length-push : (bits : List Bool) (b : Bool) → length (bits ++ b ∷ []) ≡ suc (length bits)
length-push bits b = length-append bits (b ∷ []) ∙ omega arith

pub short_begins : (bits : List Bool) → length bits < 32 → begins_with_sync bits ≡ false
short_begins bits h = and_left (nat_le 32 (length bits)) (near_sync (take 32 bits)) (lt-leb 32 (length bits) h)

pub short_finds : (bits : List Bool) → length bits < 32 → after_sync bits ≡ None
unfolding after_sync
short_finds [] h = refl
short_finds (b ∷ bits) h =
    ap (λ (t : Bool). value_or t (drop 31 bits) (after_sync bits)) (short_begins (b ∷ bits) h) ∙ short_finds bits (omega arith)

-- a list that has 32 elements or more begins with the same 32 when it grows
pub long_begins : (bits more : List Bool) → 32 ≤ length bits → begins_with_sync (bits ++ more) ≡ begins_with_sync bits
long_begins bits more h =
    ap₂ (λ (x y : Bool). x && y)
    (le-leb 32 (length (bits ++ more)) (omega (arith, length-append bits more)) ∙ sym (le-leb 32 (length bits) h))
    (ap near_sync (take-append-le 32 bits more h))

-- the first of the bits doesn't count for the last 32 of many
pub last_32-cons : (b : Bool) (bits : List Bool) → 32 ≤ length bits → last_32 (b ∷ bits) ≡ last_32 bits
last_32-cons b bits h = let e : length (b ∷ bits) - 32 ≡ suc (length bits - 32) = omega arith in rw e refl

none_parts : (t : Bool) (bits : List Bool) (o : Option (List Bool)) → value_or t bits o ≡ None → (t ≡ false) × (o ≡ None)
none_parts true bits o h = cc
none_parts false bits o h = (refl, h)

-- what one more bit finds is its own last 32 bits
pub after_sync-push : (bits : List Bool) (b : Bool) → after_sync bits ≡ None
    → after_sync (bits ++ b ∷ []) ≡ value_or (begins_with_sync (last_32 (bits ++ b ∷ []))) [] None
unfolding after_sync
after_sync-push [] b h = refl
after_sync-push (a ∷ bits) b h =
    let parts = none_parts (begins_with_sync (a ∷ bits)) (drop 31 bits) (after_sync bits) h in
    let l = length-push bits b in
    elim (cases_lt (length bits) 31) [
      | inl short ↦
          let e : length (a ∷ (bits ++ b ∷ [])) - 32 ≡ 0 = omega arith in
          ap₂ (value_or (begins_with_sync (a ∷ (bits ++ b ∷ [])))) (drop_all 31 (bits ++ b ∷ []) (omega arith)) (short_finds (bits ++ b ∷ []) (omega arith))
          ∙ ap (λ (n : ℕ). value_or (begins_with_sync (drop n (a ∷ (bits ++ b ∷ [])))) [] None) (sym e)
      | inr long ↦
          ap (λ (t : Bool). value_or t (drop 31 (bits ++ b ∷ [])) (after_sync (bits ++ b ∷ []))) (long_begins (a ∷ bits) (b ∷ []) (omega arith) ∙ parts.0)
          ∙ after_sync-push bits b parts.1
          ∙ ap (λ (xs : List Bool). value_or (begins_with_sync xs) [] None) (sym (last_32-cons a (bits ++ b ∷ []) (omega arith)))
    ]

-- what the last 32 bits keep is enough for one more
pub last_32-push : (bits : List Bool) (b : Bool) → last_32 (last_32 bits ++ b ∷ []) ≡ last_32 (bits ++ b ∷ [])
last_32-push bits b =
    let l = length-push bits b in
    let d = length-drop (length bits - 32) bits in
    let m = length-push (last_32 bits) b in
    elim (cases_lt (length bits) 32) [
      | inl short ↦
          let e : length bits - 32 ≡ 0 = omega arith in
          ap (λ (n : ℕ). last_32 (drop n bits ++ b ∷ [])) e
      | inr long ↦
          let full : length (last_32 bits ++ b ∷ []) - 32 ≡ 1 = omega arith in
          let whole : length (bits ++ b ∷ []) - 32 ≡ (length bits - 32) + 1 = omega arith in
          ap (λ (n : ℕ). drop n (last_32 bits ++ b ∷ [])) full
          ∙ ap (drop 1) (sym (drop-append-le (length bits - 32) bits (b ∷ []) (omega arith)))
          ∙ drop-drop 1 (length bits - 32) (bits ++ b ∷ [])
          ∙ ap (λ (n : ℕ). drop n (bits ++ b ∷ [])) (sym whole)
    ]

pub length-last_32 : (bits : List Bool) → length (last_32 bits) ≤ 32
length-last_32 bits = let d = length-drop (length bits - 32) bits in omega arith

-- 32 bits and their number
pub word_bits-number : (kept : List Bool) → length kept ≡ 32 → word_bits (number kept) ≡ kept
word_bits-number kept h = ap (λ (n : ℕ). bits_of n (number kept)) (sym h) ∙ bits_of-number kept

pub begins-full : (kept : List Bool) → length kept ≡ 32 → begins_with_sync kept ≡ is_sync (number kept)
begins-full kept h =
    ap₂ (λ (x y : Bool). x && y) (le-leb 32 (length kept) (omega arith)) (ap near_sync (take_all 32 kept (omega arith)))
    ∙ ap near_sync (sym (word_bits-number kept h))

-- the hunt over these bits keeps these
pub record Pushed (kept was bits : List Bool) (b : Bool) : Type 0 where
  pub kept-is : kept ≡ last_32 (was ++ b ∷ [])
  pub was-is : was ≡ last_32 bits
  pub none : after_sync bits ≡ None

pub pushed_last : (kept was bits : List Bool) (b : Bool) → Pushed kept was bits b → kept ≡ last_32 (bits ++ b ∷ [])
pushed_last kept was bits b p = p.kept-is ∙ ap (λ (xs : List Bool). last_32 (xs ++ b ∷ [])) p.was-is ∙ last_32-push bits b

pub pushed_finds : (kept was bits : List Bool) (b : Bool) → Pushed kept was bits b → after_sync (bits ++ b ∷ []) ≡ value_or (begins_with_sync kept) [] None
pushed_finds kept was bits b p =
    after_sync-push bits b p.none ∙ ap (λ (xs : List Bool). value_or (begins_with_sync xs) [] None) (sym (pushed_last kept was bits b p))

pub hunt_found : (kept was bits : List Bool) (b : Bool) → Pushed kept was bits b → 32 ≤ length kept → is_sync (number kept) ≡ true
    → after_sync (bits ++ b ∷ []) ≡ Some []
hunt_found kept was bits b p full good =
    let most = length-last_32 (was ++ b ∷ []) in
    let n = ap length p.kept-is in
    pushed_finds kept was bits b p ∙ ap (λ (t : Bool). value_or t [] None) (begins-full kept (omega arith) ∙ good)

pub hunt_still_full : (kept was bits : List Bool) (b : Bool) → Pushed kept was bits b → 32 ≤ length kept → is_sync (number kept) ≡ false
    → after_sync (bits ++ b ∷ []) ≡ None
hunt_still_full kept was bits b p full bad =
    let most = length-last_32 (was ++ b ∷ []) in
    let n = ap length p.kept-is in
    pushed_finds kept was bits b p ∙ ap (λ (t : Bool). value_or t [] None) (begins-full kept (omega arith) ∙ bad)

pub hunt_still_short : (kept was bits : List Bool) (b : Bool) → Pushed kept was bits b → (32 ≤ length kept → ⊥)
    → after_sync (bits ++ b ∷ []) ≡ None
hunt_still_short kept was bits b p short =
    pushed_finds kept was bits b p ∙ ap (λ (t : Bool). value_or t [] None) (short_begins kept (omega arith))

pub bool_byte_value : (b : Bool) → from_bool b ≡ bit_value b
bool_byte_value true = refl
bool_byte_value false = refl

pub holds_nothing : LockHolds (lock_of 0 []) []
unfolding first_words loss_from
holds_nothing = record { place = refl; partial = refl; held = refl }

pub hunts_nothing : Hunts [] []
unfolding after_sync
hunts_nothing = record { last = refl; none = refl }
