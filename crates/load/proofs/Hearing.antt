-- Two groups hear a transmission word by word.
use Rattle.std.proofs.Common.{◌≡◌, ℕ, ◌+◌, ◌-◌, ◌*◌, ◌/◌, ◌^◌, ◌<◌, ◌≤◌, Bool, List, [], ◌∷◌, ◌++◌, length, length-append, append-nil, append_assoc, bit_xor, sum, arith, refl, ap, subst, sym, ◌∙◌}
use Rattle.std.proofs.lemmas.List.{length-map, length-replicate}
use Rattle.std.specs.List.{sum_by}
use Rattle.rand_pcg.specs.Lcg.{Lcg}
use Rattle.air.specs.Air.{batches, preamble, transmission}
use Rattle.air.specs.Left.{AreWords}
use Rattle.air.proofs.Batches.{length-batches}
use Rattle.bits.specs.Bits.{word_bits, words_bits}
use Rattle.codeword.specs.Words.{filler}
use Rattle.page_pool.specs.Pool.{Live, Pool, Sound, pages}
use Rattle.page_text.specs.Page.{Page}
use Rattle.page_text.specs.declared.limits.TheConstants.{MOST_GROUPS}
use Rattle.receiver.specs.Heard.{HeardPage, heard}
use Rattle.receiver.specs.Listeners.{Listener, StandsFor, is_one_of}
use Rattle.receiver.specs.Stretches.{first_stretches, stretches}
use Rattle.scheduler.specs.Slots.{run}
use Rattle.scheduler.proofs.Schedules.{few_slots}
use Rattle.scheduler.proofs.Standing.{length-live, runs-live}
use Rattle.wires.specs.Stacked.{noisy_bits}
use Rattle.load.specs.Counting.{HasCounted, HasHeardAll, HasLines, lines_of_pages, pages_of_group}
use Rattle.load.specs.Draws.{draw, generator_at}
use Rattle.load.specs.WordNoises.{first_noise_front, first_word_noise, second_noise_front, second_word_noise}
use Rattle.load.proofs.WordNoises.{length-first_word_noise, length-second_word_noise, noisy-word}

-- the words of a pool's pages are few
few_words : (accepted : List Page) (words : List ℕ) → length accepted ≤ 65536 → sum_by (λ page. length (run page)) accepted ≤ (1 + MOST_GROUPS) * length accepted → AreWords accepted words
    → length words < 2 ^ 32
unfolding preamble
few_words [] words most runs are = omega (arith, ap length are)
few_words (page ∷ accepted) words most runs are =
    let slots = are.0 in
    let size : length (transmission slots) ≡ 18 + length (batches (length slots / 16) slots) = (let n : length preamble ≡ 18 = length-replicate 18 filler in omega (arith, n, length-append preamble (batches (length slots / 16) slots))) in
    omega (arith, most, runs, few_slots (page ∷ accepted) slots (λ e. cc) are.1, size, length-batches (length slots / 16) slots (omega arith), ap length are.2)

pub few-words : (w : Pool) (words : List ℕ) → Sound w → AreWords (pages w) words → length words < 2 ^ 32
few-words w words sound are =
    let n : length (pages w) ≡ length w.live = length-map w.live (λ (e : Live). e.page) in
    few_words (pages w) words (omega (arith, length-live w sound, n)) (omega (arith, runs-live w sound, n)) are

-- Of a transmission of accepted pages these words are left. The others were heard, so many.
pub record HearsWords (accepted : List Page) (at_first : Lcg) (first0 second0 : Listener) (now : Lcg) (first second : Listener) (words count bytes total kept : ℕ) (left : List ℕ) : Type 0 where
  pub seen : List ℕ
  pub all_are : AreWords accepted (seen ++ left)
  pub few : length (seen ++ left) < 2 ^ 32
  pub words_are : words ≡ length seen
  pub same_first : first.capcodes ≡ first0.capcodes
  pub same_second : second.capcodes ≡ second0.capcodes
  pub few_count : count ≤ 32 * words
  pub few_kept : kept ≤ 32 * words
  pub further : (seed k : ℕ) → at_first ≡ generator_at seed k → now ≡ generator_at seed (k + 3 * (words - 18))
  pub lines : (seed k : ℕ) → at_first ≡ generator_at seed k → StandsFor first0 [] → HasLines first count bytes total (noisy_bits (words_bits seen) (first_noise_front (draw seed) k words))
  pub counted : (seed k : ℕ) → at_first ≡ generator_at seed k → StandsFor second0 [] → HasCounted second kept (noisy_bits (words_bits seen) (second_noise_front (draw seed) k words))

-- no pages are heard in no bits
unheard_pages : (listens : ℕ → Bool) → heard listens [] ≡ []
unfolding stretches first_stretches
unheard_pages listens = refl

lines_at_first : (group : Listener) → StandsFor group [] → HasLines group 0 0 0 []
lines_at_first group unfed =
    let none : pages_of_group group [] ≡ [] = unheard_pages (is_one_of group.capcodes) in
    record {
      stands = unfed;
      count_is = sym (ap length none);
      bytes_is = sym (ap (λ (pages : List HeardPage). length (lines_of_pages pages)) none);
      sum_is = sym (ap (λ (pages : List HeardPage). sum (lines_of_pages pages)) none);
    }

counted_at_first : (group : Listener) → StandsFor group [] → HasCounted group 0 []
counted_at_first group unfed = record { stands = unfed; count_is = sym (ap length (unheard_pages (is_one_of group.capcodes))) }

-- nothing was heard
pub hears-none : (accepted : List Page) (generator : Lcg) (first second : Listener) (all : List ℕ) → AreWords accepted all → length all < 2 ^ 32
    → HearsWords accepted generator first second generator first second 0 0 0 0 0 all
hears-none accepted generator first second all are few = record {
  seen = [];
  all_are = are;
  few = few;
  words_are = refl;
  same_first = refl;
  same_second = refl;
  few_count = omega arith;
  few_kept = omega arith;
  further = λ seed k at. at ∙ ap (generator_at seed) (omega arith);
  lines = λ seed k at unfed. lines_at_first first unfed;
  counted = λ seed k at unfed. counted_at_first second unfed;
}

-- one word more
module _ (accepted : List Page) (at_first : Lcg) (first0 second0 : Listener) (now next : Lcg) (first second first' second' : Listener)
    (words count bytes total kept count' bytes' total' kept' word flips more : ℕ) (left left' : List ℕ) where
  pub hears-more : HearsWords accepted at_first first0 second0 now first second words count bytes total kept left → left ≡ word ∷ left'
      → ((seed k : ℕ) → now ≡ generator_at seed (k + 3 * (words - 18)) → next ≡ generator_at seed (k + 3 * (words + 1 - 18)))
      → ((seed k : ℕ) → now ≡ generator_at seed (k + 3 * (words - 18)) → word_bits flips ≡ first_word_noise (draw seed) k words)
      → ((seed k : ℕ) → now ≡ generator_at seed (k + 3 * (words - 18)) → word_bits more ≡ second_word_noise (draw seed) k words)
      → first'.capcodes ≡ first.capcodes → second'.capcodes ≡ second.capcodes → count' ≤ count + 32 → kept' ≤ kept + 32
      → ((bits : List Bool) → HasLines first count bytes total bits → HasLines first' count' bytes' total' (bits ++ word_bits (bit_xor word flips)))
      → ((bits : List Bool) → HasCounted second kept bits → HasCounted second' kept' (bits ++ word_bits (bit_xor word more)))
      → HearsWords accepted at_first first0 second0 next first' second' (words + 1) count' bytes' total' kept' left'
  hears-more h is further noise noise_more same_first same_second few_count few_kept lines counted =
      let whole : h.seen ++ left ≡ (h.seen ++ word ∷ []) ++ left' = ap (λ (l : List ℕ). h.seen ++ l) is ∙ sym (append_assoc h.seen (word ∷ []) left') in
      record {
        seen = h.seen ++ word ∷ [];
        all_are = subst (AreWords accepted) whole h.all_are;
        few = subst (λ (l : List ℕ). length l < 2 ^ 32) whole h.few;
        words_are = ap (λ (n : ℕ). n + 1) h.words_are ∙ sym (length-append h.seen (word ∷ []));
        same_first = same_first ∙ h.same_first;
        same_second = same_second ∙ h.same_second;
        few_count = omega (arith, few_count, h.few_count);
        few_kept = omega (arith, few_kept, h.few_kept);
        further = λ seed k at. further seed k (h.further seed k at);
        lines = λ seed k at unfed.
            subst (HasLines first' count' bytes' total')
            (noisy-word (first_word_noise (draw seed) k) (length-first_word_noise (draw seed) k) h.seen word flips words h.words_are (noise seed k (h.further seed k at)))
            (lines (noisy_bits (words_bits h.seen) (first_noise_front (draw seed) k words)) (h.lines seed k at unfed));
        counted = λ seed k at unfed.
            subst (HasCounted second' kept')
            (noisy-word (second_word_noise (draw seed) k) (length-second_word_noise (draw seed) k) h.seen word more words h.words_are (noise_more seed k (h.further seed k at)))
            (counted (noisy_bits (words_bits h.seen) (second_noise_front (draw seed) k words)) (h.counted seed k at unfed));
      }

-- all were heard
pub hears-all : (accepted : List Page) (at_first now : Lcg) (first0 second0 first second : Listener) (words count bytes total kept : ℕ) (left : List ℕ)
    → HearsWords accepted at_first first0 second0 now first second words count bytes total kept left → left ≡ []
    → (seed k : ℕ) → at_first ≡ generator_at seed k → StandsFor first0 [] → StandsFor second0 []
    → HasHeardAll (draw seed) k accepted first second words count bytes total kept
hears-all accepted at_first now first0 second0 first second words count bytes total kept left h end = λ seed k at unfed unfed_too. record {
  all = h.seen;
  all_are = subst (AreWords accepted) (ap (λ (l : List ℕ). h.seen ++ l) end ∙ append-nil h.seen) h.all_are;
  words_are = h.words_are;
  lines = h.lines seed k at unfed;
  counted = h.counted seed k at unfed_too;
}
