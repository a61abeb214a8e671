-- The bits of recorded words, one or some at a time.
use Rattle.std.proofs.Common.{◌≡◌, ℕ, ◌+◌, ◌-◌, ◌/◌, ◌^◌, ◌<◌, ◌≤◌, Bool, true, false, List, [], ◌∷◌, ◌++◌, length, take, drop, get_or, set, Ok, Some, None, refl, sym, ◌∙◌, ap, arith, append_assoc, append-nil, length-take-le}
use Rattle.std.proofs.lemmas.List.{drop_more, take_more_set}
use Rattle.bits.specs.Bits.{bits_of, words_bits}
use Rattle.bits.proofs.Lengths.{length-bits_of}
use Rattle.wires.specs.declared.Failed.{Failed}
use Rattle.wires.specs.Left.{TakesOne, TakesPiece}
use Rattle.wires.proofs.Ahead.{cut_bits, drop-all, none_pending}
use Rattle.wires.proofs.Pieces.{none_left}
use Rattle.repeats.specs.Recordings.{copies_left, steady_bits}

-- a bit came out
pub takes_bit : (old new : List Bool) (bit : Bool) → old ≡ bit ∷ new → TakesOne {E = Failed} (steady_bits old) (steady_bits new) (Ok (Some bit))
takes_bit old new bit e = record {
  tells = refl;
  left = λ t. e;
  there = λ t here. refl;
  came = λ t. refl;
  steady = λ t u. (refl, refl);
  faults = record { later = omega arith; failed = tt; kept = refl };
  lent = refl;
}

-- none was left
pub takes_none : (old new : List Bool) → old ≡ [] → new ≡ [] → TakesOne {E = Failed} (steady_bits old) (steady_bits new) (Ok None)
takes_none old new e h = record {
  tells = refl;
  left = λ t. (e, h);
  there = λ t here. refl;
  came = λ t. refl;
  steady = λ t u. (refl, refl);
  faults = record { later = omega arith; failed = tt; kept = refl };
  lent = refl;
}

-- a piece came out, which is empty only where no bit was left
pub takes_piece : (most : ℕ) (old new piece : List Bool) → length piece ≤ most → old ≡ piece ++ new → (piece ≡ [] → old ≡ [])
    → TakesPiece {E = Failed} most (steady_bits old) (steady_bits new) (Ok piece)
takes_piece most old new piece few e end = record {
  tells = refl;
  few = few;
  left = λ t. (e, end);
  there = λ t here. refl;
  came = λ t. refl;
  steady = λ t u. (refl, refl);
  faults = record { later = omega arith; failed = tt; kept = refl };
  lent = refl;
}

-- the first words were all taken, and the second come
pub turned : (p w at : ℕ) (words : List ℕ) (second : Bool) → second ≡ false → length words ≤ at → copies_left p w words 0 true ≡ copies_left p w words at second
turned p w at words false e h =
    ap (λ (xs : List Bool). bits_of p w ++ xs)
    (append-nil (words_bits words) ∙ ap (λ (ws : List ℕ). words_bits ws ++ words_bits words) (sym (drop-all at words h)))
turned p w at words true e h = cc

-- both were taken
pub both_taken : (p w at : ℕ) (words : List ℕ) (second : Bool) → second ≡ true → p ≡ 0 → length words ≤ at → copies_left p w words at second ≡ []
both_taken p w at words true e z h =
    none_pending p w (words_bits (drop at words) ++ []) z ∙ append-nil (words_bits (drop at words)) ∙ ap words_bits (drop-all at words h)
both_taken p w at words false e z h = cc

-- a word is begun
pub begun : (p w at : ℕ) (words : List ℕ) (second : Bool) → p ≡ 0 → at < length words
    → copies_left 32 (get_or words at 0) words (at + 1) second ≡ copies_left p w words at second
begun p w at words second z h = both second
  where
    one : (rest : List Bool) → bits_of 32 (get_or words at 0) ++ (words_bits (drop (at + 1) words) ++ rest) ≡ bits_of p w ++ (words_bits (drop at words) ++ rest)
    one rest =
        sym (append_assoc (bits_of 32 (get_or words at 0)) (words_bits (drop (at + 1) words)) rest)
        ∙ ap (λ (ws : List ℕ). words_bits ws ++ rest) (sym (drop_more words at 0 h))
        ∙ sym (none_pending p w (words_bits (drop at words) ++ rest) z)

    both : (b : Bool) → copies_left 32 (get_or words at 0) words (at + 1) b ≡ copies_left p w words at b
    both true = one []
    both false = one (words_bits words)

-- no bit of a word, and none behind it
pub nothing_left : (piece old new : List Bool) → piece ≡ bits_of 0 0 → new ≡ old → old ≡ [] → (length piece ≡ 0) × (old ≡ piece ++ new) × (piece ≡ [] → old ≡ [])
nothing_left piece old new is same none =
    let z = is ∙ none_left 0 0 refl in
    (ap length z, sym same ∙ ap (λ (xs : List Bool). xs ++ new) (sym z), λ e. none)

-- the next bits of the word that was begun
pub next_bits : (p w count : ℕ) (rest piece old : List Bool) → 0 < count → count ≤ p → piece ≡ bits_of count (w / 2 ^ (p - count)) → bits_of p w ++ rest ≡ old
    → (length piece ≡ count) × (old ≡ piece ++ (bits_of (p - count) w ++ rest)) × (piece ≡ [] → old ≡ [])
next_bits p w count rest piece old some le is same =
    let l : length piece ≡ count = ap length is ∙ length-bits_of count (w / 2 ^ (p - count)) in (
      l,
      sym same ∙ cut_bits p count w rest le ∙ ap (λ (xs : List Bool). xs ++ (bits_of (p - count) w ++ rest)) (sym is),
      λ e. absurd (let z = ap length e in omega (arith, some, l, z)),
    )

-- one word more is recorded
pub recorded_one : (most : ℕ) (words : List ℕ) (count word : ℕ) (now : List ℕ) → take count words ≡ now → length words ≡ most → length now < most → count ≤ most
    → (count < length words) × (take (count + 1) (set words count word) ≡ now ++ word ∷ [])
recorded_one most words count word now e l h k =
    let lt = length-take-le count words (omega arith) in
    let n = ap length e in
    let below : count < length words = omega arith in
    (below, take_more_set words count word below ∙ ap (λ (ws : List ℕ). ws ++ word ∷ []) e)
