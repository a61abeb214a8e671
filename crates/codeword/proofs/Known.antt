-- Known words, by computation.
use Rattle.std.proofs.Common.{◌≡◌, refl}
use Rattle.bch31.specs.Division.{remainder}
use Rattle.bch31.specs.Word.{word_of, ones_among}
use Rattle.codeword.specs.declared.functions.Function.TheVariants.{Numeric, Tone1, Tone2, Alpha}
use Rattle.codeword.specs.declared.words.TheConstants.{IDLE, SYNC}
use Rattle.codeword.specs.Words.{address_of, message_of}

-- the idle word is the address word of an unused capcode
pub idle_is : IDLE ≡ address_of 2007664 Numeric
unfolding address_of word_of remainder ones_among
idle_is = refl

-- the sync word is the address word of an unused capcode
pub sync_is : SYNC ≡ address_of 2045056 Tone2
unfolding address_of word_of remainder ones_among
sync_is = refl

-- capcode 0, tone 1
first_address : address_of 0 Tone1 ≡ 0x00000ED3
unfolding address_of word_of remainder ones_among
first_address = refl

-- capcode 8, alphanumeric
alpha_address : address_of 8 Alpha ≡ 0x00003B49
unfolding address_of word_of remainder ones_among
alpha_address = refl

-- a group of zeros
empty_message : message_of 0 ≡ 0x80000769
unfolding message_of word_of remainder ones_among
empty_message = refl

-- the first group of the text ABC
abc_message : message_of 0x82870 ≡ 0xC14387B8
unfolding message_of word_of remainder ones_among
abc_message = refl
