-- The two noises. `draws` gives the draws by number. docs/profile.md, "load mode".
use Rattle.std.specs.Prelude.{ℕ, ◌+◌, ◌*◌, ◌%◌, ◌==◌, Bool, false, not, ◌||◌, ◌&&◌, List, ◌++◌, map, flat_map, replicate, if◌then◌else◌}
use Rattle.std.specs.List.{range_with_len}
use Rattle.air.specs.Near.{preamble_length}
use Rattle.codeword.specs.declared.batches.TheConstants.{BATCH_WORDS}

-- the place of the first bit of a word that is flipped, by the draws from this one on. Places are counted from 0
abbrev pub one_place : (ℕ → ℕ) → ℕ → ℕ
one_place draws k = draws k % 32

-- the place of the second, another one
abbrev pub other_place : (ℕ → ℕ) → ℕ → ℕ
other_place draws k = (one_place draws k + 1 + draws (k + 1) % 31) % 32

-- the word is one of those of which the second noise flips a third bit
abbrev pub is_third : (ℕ → ℕ) → ℕ → Bool
is_third draws k = draws (k + 2) % 64 == 0

-- a place is neither of two
abbrev pub is_beside : ℕ → ℕ → ℕ → Bool
is_beside a b c = not (c == a) && not (c == b)

-- the least place that is neither of two
abbrev pub least_beside : ℕ → ℕ → ℕ
least_beside a b = if is_beside a b 0 then 0 else if is_beside a b 1 then 1 else 2

-- a bit is flipped by the first noise, and by the second
abbrev pub is_flipped : (ℕ → ℕ) → ℕ → ℕ → Bool
is_flipped draws k i = (i == one_place draws k) || (i == other_place draws k)

abbrev pub is_flipped_more : (ℕ → ℕ) → ℕ → Bool → ℕ → Bool
is_flipped_more draws k is_slot i =
    is_flipped draws k i || ((is_slot && is_third draws k) && (i == least_beside (one_place draws k) (other_place draws k)))

-- the bits of a word that satisfy a test, by place
abbrev pub word_of_test : (ℕ → Bool) → List Bool
word_of_test test = map test (range_with_len 0 32)

-- the word of this number behind the preamble is that of a slot
abbrev pub is_slot_word : ℕ → Bool
is_slot_word j = not (j % BATCH_WORDS == 0)

-- the noises of so many words behind a preamble, which has none: three draws for each, from this one on
unfoldable pub first_noise : (ℕ → ℕ) → ℕ → ℕ → List Bool
first_noise draws k count =
    replicate preamble_length false ++ flat_map (λ j. word_of_test (is_flipped draws (k + 3 * j))) (range_with_len 0 count)

unfoldable pub second_noise : (ℕ → ℕ) → ℕ → ℕ → List Bool
second_noise draws k count =
    replicate preamble_length false ++ flat_map (λ j. word_of_test (is_flipped_more draws (k + 3 * j) (is_slot_word j))) (range_with_len 0 count)
