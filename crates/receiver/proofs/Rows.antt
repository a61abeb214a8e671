-- Worked transmissions: what is heard of them, and their tables.
use Rattle.std.proofs.Common.{◌≡◌, ℕ, List, [], ◌∷◌, ◌++◌, take, replicate, refl}
use Rattle.bits.specs.Bits.{bits_of, words_bits}
use Rattle.bch31.specs.Division.{remainder}
use Rattle.bch31.specs.Fix.{repaired, fix_of}
use Rattle.bch31.specs.Word.{ones_among}
use Rattle.codeword.specs.declared.functions.Function.TheVariants.{Numeric, Alpha}
use Rattle.codeword.specs.Kinds.{kind_of}
use Rattle.receiver.specs.Stretches.{after_sync, first_words, held_from, loss_from, first_stretches, stretches}
use Rattle.receiver.specs.Slots.{Batch, Slot, slots_from, entries_from, entries}
use Rattle.receiver.specs.Heard.{HeardPage, groups_to_address, pages_from, heard}
use Rattle.receiver.specs.Listeners.{is_one_of}

abbrev idle : ℕ
idle = 0x7A89C197

-- the sync word, and an alphanumeric page to capcode 8 with the groups of `ABC`
abbrev abc : List ℕ
abc = 0x7CD215D8 ∷ 0x00003B49 ∷ 0xC14387B8 ∷ 0xC00004DC ∷ []

abbrev abc_page : HeardPage
abc_page = record { capcode = 8; function = Alpha; groups = 0x82870 ∷ 0x80000 ∷ [] }

-- the idle word completes the page
abc_heard : heard (is_one_of (8 ∷ [])) (words_bits (abc ++ idle ∷ [])) ≡ abc_page ∷ []
unfolding bits_of after_sync first_words held_from loss_from first_stretches stretches slots_from groups_to_address pages_from kind_of fix_of repaired remainder ones_among
abc_heard = refl

-- without its last bit it doesn't
abc_cut : heard (is_one_of (8 ∷ [])) (take 159 (words_bits (abc ++ idle ∷ []))) ≡ []
unfolding bits_of after_sync first_words held_from loss_from first_stretches stretches slots_from groups_to_address pages_from kind_of fix_of repaired remainder ones_among
abc_cut = refl

-- another capcode hears nothing
abc_to_another : heard (is_one_of (9 ∷ [])) (words_bits (abc ++ idle ∷ [])) ≡ []
unfolding bits_of after_sync first_words held_from loss_from first_stretches stretches slots_from groups_to_address pages_from kind_of fix_of repaired remainder ones_among
abc_to_another = refl

-- two wrong bits in each word
two_wrong : heard (is_one_of (8 ∷ [])) (words_bits (0xFCD215D9 ∷ 0x80003B48 ∷ 0x414387B9 ∷ 0x400004DD ∷ 0xFA89C196 ∷ [])) ≡ abc_page ∷ []
unfolding bits_of after_sync first_words held_from loss_from first_stretches stretches slots_from groups_to_address pages_from kind_of fix_of repaired remainder ones_among
two_wrong = refl

-- three wrong bits in the address word
three_wrong : heard (is_one_of (8 ∷ [])) (words_bits (0x7CD215D8 ∷ 0x80003B4A ∷ 0xC14387B8 ∷ 0xC00004DC ∷ idle ∷ [])) ≡ []
unfolding bits_of after_sync first_words held_from loss_from first_stretches stretches slots_from groups_to_address pages_from kind_of fix_of repaired remainder ones_among
three_wrong = refl

-- an empty numeric page to capcode 15 in the second slot of frame 7, completed by a sync word at the first slot of the next batch
empty_page : heard (is_one_of (8 ∷ 15 ∷ [])) (words_bits (0x7CD215D8 ∷ replicate 15 idle ++ 0x000026EC ∷ 0x7CD215D8 ∷ 0x7CD215D8 ∷ []))
    ≡ record { capcode = 15; function = Numeric; groups = [] } ∷ []
unfolding bits_of after_sync first_words held_from loss_from first_stretches stretches slots_from groups_to_address pages_from kind_of fix_of repaired remainder ones_among
empty_page = refl

-- a word of the preamble at a sync place loses the lock, and the next sync word is found
lost_and_found : entries (words_bits (0xAAAAAAAA ∷ abc ++ replicate 13 idle ++ 0xAAAAAAAA ∷ 0x7CD215D8 ∷ idle ∷ []))
    ≡ Batch ∷ Slot 0 0x00003B49 ∷ Slot 1 0xC14387B8 ∷ Slot 2 0xC00004DC ∷ Slot 3 idle ∷ Slot 4 idle ∷ Slot 5 idle ∷ Slot 6 idle ∷ Slot 7 idle ∷ Slot 8 idle
    ∷ Slot 9 idle ∷ Slot 10 idle ∷ Slot 11 idle ∷ Slot 12 idle ∷ Slot 13 idle ∷ Slot 14 idle ∷ Slot 15 idle ∷ Batch ∷ Slot 0 idle ∷ []
unfolding bits_of after_sync first_words held_from loss_from first_stretches stretches entries_from
lost_and_found = refl

-- 18 sync words: the first is found, 16 stand in slots, and the last is good at its place
sync_words : entries (words_bits (replicate 18 0x7CD215D8))
    ≡ Batch ∷ Slot 0 0x7CD215D8 ∷ Slot 1 0x7CD215D8 ∷ Slot 2 0x7CD215D8 ∷ Slot 3 0x7CD215D8 ∷ Slot 4 0x7CD215D8 ∷ Slot 5 0x7CD215D8 ∷ Slot 6 0x7CD215D8
    ∷ Slot 7 0x7CD215D8 ∷ Slot 8 0x7CD215D8 ∷ Slot 9 0x7CD215D8 ∷ Slot 10 0x7CD215D8 ∷ Slot 11 0x7CD215D8 ∷ Slot 12 0x7CD215D8 ∷ Slot 13 0x7CD215D8
    ∷ Slot 14 0x7CD215D8 ∷ Slot 15 0x7CD215D8 ∷ Batch ∷ []
unfolding bits_of after_sync first_words held_from loss_from first_stretches stretches entries_from
sync_words = refl
