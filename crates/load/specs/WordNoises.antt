-- The noises word by word, over the words of a transmission from the preamble's first on.
use Rattle.std.specs.Prelude.{ℕ, zero, suc, ◌+◌, ◌-◌, ◌*◌, Bool, false, List, flat_map, replicate}
use Rattle.std.specs.List.{range_with_len}
use Rattle.load.specs.Noises.{is_flipped, is_flipped_more, is_slot_word, word_of_test}

-- how many words a preamble has
abbrev pub preamble_words : ℕ
preamble_words = 18

-- the noise of a word, by how many words of the preamble come behind it with it: the preamble has none
abbrev pub none_in_preamble : ℕ → List Bool → List Bool
none_in_preamble zero noise = noise
none_in_preamble (suc left) noise = replicate 32 false

-- the noises of the word of this number
abbrev pub first_word_noise : (ℕ → ℕ) → ℕ → ℕ → List Bool
first_word_noise draws k n = none_in_preamble (preamble_words - n) (word_of_test (is_flipped draws (k + 3 * (n - preamble_words))))

abbrev pub second_word_noise : (ℕ → ℕ) → ℕ → ℕ → List Bool
second_word_noise draws k n = none_in_preamble (preamble_words - n) (word_of_test (is_flipped_more draws (k + 3 * (n - preamble_words)) (is_slot_word (n - preamble_words))))

-- the noises of so many words
abbrev pub first_noise_front : (ℕ → ℕ) → ℕ → ℕ → List Bool
first_noise_front draws k count = flat_map (first_word_noise draws k) (range_with_len 0 count)

abbrev pub second_noise_front : (ℕ → ℕ) → ℕ → ℕ → List Bool
second_noise_front draws k count = flat_map (second_word_noise draws k) (range_with_len 0 count)
