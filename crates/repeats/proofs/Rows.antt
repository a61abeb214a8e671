-- Worked transmissions that are sent twice: one batch, with a page HELLO to capcode 8.
use Rattle.std.proofs.Common.{◌≡◌, ℕ, ◌==◌, Bool, List, [], ◌∷◌, ◌++◌, map, replicate, refl, bit_xor}
use Rattle.bits.specs.Bits.{words_bits, bits_of, rising_bits_of}
use Rattle.bch31.specs.Word.{word_of, ones_among}
use Rattle.bch31.specs.Division.{remainder}
use Rattle.bch31.specs.Fix.{fix_of, repaired}
use Rattle.codeword.specs.declared.functions.Function.TheVariants.{Alpha}
use Rattle.codeword.specs.declared.words.TheConstants.{IDLE, SYNC}
use Rattle.codeword.specs.Words.{address_of, message_of}
use Rattle.page_text.specs.Groups.{groups_of}
use Rattle.page_text.specs.Texts.{codes_of}
use Rattle.page_text.specs.Page.{Page}
use Rattle.scheduler.specs.Slots.{run}
use Rattle.codeword.specs.Words.{filler}
use Rattle.receiver.specs.Heard.{with_text, groups_to_address, pages_from}
use Rattle.receiver.specs.Stretches.{after_sync, first_words, held_from, loss_from, first_stretches, stretches}
use Rattle.receiver.specs.Slots.{slots_from}
use Rattle.repeats.specs.Twin.{held_slots, twin, twins, twin_pages, heard_twice}

abbrev hello : Page
hello = record { capcode = 8; function = Alpha; text = 72 ∷ 69 ∷ 76 ∷ 76 ∷ 79 ∷ [] }

-- these words xor those
abbrev noisy : List ℕ → List ℕ → List ℕ
noisy [] noise = []
noisy (w ∷ ws) [] = w ∷ ws
noisy (w ∷ ws) (n ∷ noise) = bit_xor w n ∷ noisy ws noise

-- the slots of the batch, through a noise on its first words
abbrev slots : List ℕ → List ℕ
slots noise = noisy (run hello ++ replicate 13 IDLE) noise

abbrev bad : ℕ
bad = 0x80000003

-- the address word bad in the first copy, and a message word in the second
each_once : map with_text (twin_pages (λ c. c == 8) (twin (slots (bad ∷ [])) (slots (0 ∷ bad ∷ [])))) ≡ hello ∷ []
unfolding run groups_of codes_of rising_bits_of fix_of repaired remainder address_of message_of word_of ones_among bits_of twin pages_from groups_to_address
each_once = refl

-- the address word bad in both copies
address_lost : map with_text (twin_pages (λ c. c == 8) (twin (slots (bad ∷ [])) (slots (bad ∷ [])))) ≡ []
unfolding run groups_of codes_of rising_bits_of fix_of repaired remainder address_of message_of word_of ones_among bits_of twin pages_from groups_to_address
address_lost = refl

-- the word after the run bad in both copies
behind_lost : map with_text (twin_pages (λ c. c == 8) (twin (slots (0 ∷ 0 ∷ 0 ∷ bad ∷ [])) (slots (0 ∷ 0 ∷ 0 ∷ bad ∷ [])))) ≡ []
unfolding run groups_of codes_of rising_bits_of fix_of repaired remainder address_of message_of word_of ones_among bits_of twin pages_from groups_to_address
behind_lost = refl

-- the bits of a copy through this noise
abbrev copy : List ℕ → List Bool
copy noise = words_bits (replicate 18 filler ++ SYNC ∷ slots noise)

-- the same over the bits
row_once : map with_text (heard_twice (λ c. c == 8) (copy (bad ∷ []) ++ copy (0 ∷ bad ∷ []))) ≡ hello ∷ []
unfolding run groups_of codes_of rising_bits_of fix_of repaired remainder address_of message_of word_of ones_among bits_of twin twins pages_from groups_to_address after_sync first_words held_from loss_from first_stretches stretches slots_from held_slots
row_once = refl

row_lost : map with_text (heard_twice (λ c. c == 8) (copy (bad ∷ []) ++ copy (bad ∷ []))) ≡ []
unfolding run groups_of codes_of rising_bits_of fix_of repaired remainder address_of message_of word_of ones_among bits_of twin twins pages_from groups_to_address after_sync first_words held_from loss_from first_stretches stretches slots_from held_slots
row_lost = refl

-- one copy gives no page, and three give those of two
single : map with_text (heard_twice (λ c. c == 8) (copy [])) ≡ []
unfolding run groups_of codes_of rising_bits_of fix_of repaired remainder address_of message_of word_of ones_among bits_of twin twins pages_from groups_to_address after_sync first_words held_from loss_from first_stretches stretches slots_from held_slots
single = refl

three : map with_text (heard_twice (λ c. c == 8) (copy [] ++ copy [] ++ copy [])) ≡ hello ∷ []
unfolding run groups_of codes_of rising_bits_of fix_of repaired remainder address_of message_of word_of ones_among bits_of twin twins pages_from groups_to_address after_sync first_words held_from loss_from first_stretches stretches slots_from held_slots
three = refl
