-- Recording the words of a transmission.
use Rattle.std.proofs.Common.{◌≡◌, ℕ, ◌+◌, ◌*◌, ◌<◌, ◌≤◌, ◌^◌, Bool, List, [], ◌∷◌, ◌++◌, length, length-append, append-nil, append_assoc, arith, refl, ap, subst, sym, ◌∙◌}
use Rattle.air.specs.Left.{AreWords}
use Rattle.air.specs.Air.{IsAir, transmission}
use Rattle.bits.specs.Bits.{words_bits}
use Rattle.bits.proofs.Lengths.{length-words_bits}
use Rattle.page_pool.specs.Pool.{Pool, Sound, cells, pages}
use Rattle.page_text.specs.Page.{Page}
use Rattle.repeats.specs.Recordings.{recorded_words, twice_bits}
use Rattle.serving.specs.Sent.{IsSent, twice}
use Rattle.serving.proofs.FewWords.{few_words}

-- Of a transmission of accepted pages these words are recorded, and those are left. There is room for all.
pub record Recorded (accepted : List Page) (recorded left : List ℕ) : Type 0 where
  pub words : AreWords accepted (recorded ++ left)
  pub few : length (recorded ++ left) < recorded_words

pub recorded_none : (w : Pool) (left : List ℕ) → Sound w → AreWords (pages w) left → Recorded (pages w) [] left
unfolding recorded_words
recorded_none w left sound are = record { words = are; few = few_words w left sound are }

-- a word more
pub recorded_more : (accepted : List Page) (recorded left : List ℕ) (word : ℕ) (later : List ℕ) → left ≡ word ∷ later → Recorded accepted recorded left
    → Recorded accepted (recorded ++ word ∷ []) later
recorded_more accepted recorded left word later e h =
    let same : recorded ++ left ≡ (recorded ++ word ∷ []) ++ later = ap (λ (ws : List ℕ). recorded ++ ws) e ∙ sym (append_assoc recorded (word ∷ []) later) in
    record {
      words = subst (AreWords accepted) same h.words;
      few = subst (λ (ws : List ℕ). length ws < recorded_words) same h.few;
    }

pub has_room : (accepted : List Page) (recorded left : List ℕ) (word : ℕ) (later : List ℕ) → left ≡ word ∷ later → Recorded accepted recorded left → length recorded < recorded_words
has_room accepted recorded left word later e h =
    let few = h.few in
    omega (arith, few, length-append recorded left, ap length e)

-- all of them
pub recorded_all : (accepted : List Page) (recorded left : List ℕ) → left ≡ [] → Recorded accepted recorded left → AreWords accepted recorded
recorded_all accepted recorded left e h = subst (AreWords accepted) (ap (λ (ws : List ℕ). recorded ++ ws) e ∙ append-nil recorded) h.words

-- the bits of recorded words, twice
air_of_words : (accepted : List Page) (words : List ℕ) → AreWords accepted words → IsAir accepted (words_bits words)
air_of_words [] words are = ap words_bits are
air_of_words (page ∷ accepted) words are = (are.0, are.1, ap words_bits are.2)

pub sent_twice : (accepted : List Page) (words : List ℕ) (bits : List Bool) → AreWords accepted words → bits ≡ twice_bits words → IsSent twice accepted bits
sent_twice accepted words bits are e = (words_bits words, air_of_words accepted words are, e)

pub few_twice : (w : Pool) (words : List ℕ) (bits : List Bool) → Sound w → AreWords (pages w) words → bits ≡ twice_bits words → length bits < 2 ^ 32
few_twice w words bits sound are e =
    omega (arith, few_words w words sound are, ap length e, length-append (words_bits words) (words_bits words), length-words_bits words)
