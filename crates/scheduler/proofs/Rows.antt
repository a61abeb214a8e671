-- Worked schedules, by computation. `slots_of-schedule` says that these are schedules, and `schedule-is_slots_of` that there are
-- no others.
use Rattle.std.proofs.Common.{◌≡◌, ℕ, List, [], ◌∷◌, ◌++◌, replicate, refl}
use Rattle.std.specs.Prelude.{codes}
use Rattle.bits.specs.Bits.{rising_bits_of}
use Rattle.bch31.specs.Division.{remainder}
use Rattle.bch31.specs.Word.{word_of, ones_among}
use Rattle.codeword.specs.declared.functions.Function.TheVariants.{Tone1, Alpha}
use Rattle.codeword.specs.declared.words.TheConstants.{IDLE}
use Rattle.codeword.specs.Words.{address_of, message_of}
use Rattle.page_text.specs.Groups.{groups_of}
use Rattle.page_text.specs.Page.{Page}
use Rattle.scheduler.specs.Slots.{run}
use Rattle.scheduler.specs.Plan.{some_pieces, pieces_of, slots_of}

tone : ℕ → Page
tone capcode = record { capcode = capcode; function = Tone1; text = [] }

alpha : ℕ → List ℕ → Page
alpha capcode text = record { capcode = capcode; function = Alpha; text = text }

-- frame 7 comes last, and two pages of one frame follow one another
three_tones : slots_of (tone 15 ∷ tone 8 ∷ tone 16 ∷ [])
    ≡ 0x0000283F ∷ 0x00004DD8 ∷ (replicate 12 IDLE ++ 0x0000283F ∷ IDLE ∷ [])
unfolding tone pieces_of some_pieces run address_of message_of word_of remainder ones_among
three_tones = refl

-- a run to the last place of a batch: a batch of idle slots follows
one_letter : slots_of (alpha 15 (codes "A") ∷ []) ≡ replicate 14 IDLE ++ 0x00003B49 ∷ 0xC100057F ∷ replicate 16 IDLE
unfolding alpha pieces_of some_pieces run address_of message_of word_of remainder ones_among groups_of rising_bits_of
one_letter = refl

two_tones : slots_of (tone 15 ∷ tone 15 ∷ []) ≡ replicate 14 IDLE ++ 0x0000283F ∷ 0x0000283F ∷ replicate 16 IDLE
unfolding tone pieces_of some_pieces run address_of message_of word_of remainder ones_among
two_tones = refl

abc : slots_of (alpha 8 (codes "ABC") ∷ []) ≡ 0x00003B49 ∷ 0xC14387B8 ∷ 0xC00004DC ∷ replicate 13 IDLE
unfolding alpha pieces_of some_pieces run address_of message_of word_of remainder ones_among groups_of rising_bits_of
abc = refl
