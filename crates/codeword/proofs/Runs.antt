-- The idle word, the sync word and the words of pages: all are codewords, and those of pages are neither of the two.
use Rattle.std.proofs.Common.{◌^◌, ◌≤◌, arith, ◌∙◌, sym, subst, lit<}
use Rattle.bch31.specs.Codeword.{IsCodeword}
use Rattle.codeword.specs.declared.functions.Function.TheVariants.{Numeric, Tone2}
use Rattle.codeword.specs.declared.words.TheConstants.{IDLE, SYNC}
use Rattle.codeword.specs.Words.{message_of}
use Rattle.codeword.specs.Runs.{AddressesAreNotIdle, MessagesAreNotIdle}
use Rattle.codeword.proofs.Known.{idle_is, sync_is}
use Rattle.codeword.proofs.Carried.{address_of-codeword, address_of-high, message_of-ge}

-- two address words with different high bits differ, and no usable capcode has the high bits of the idle word or the sync word
pub addresses_are_not_idle : AddressesAreNotIdle
addresses_are_not_idle c f u = record {
  not_idle = λ e. u.not_idle (address_of-high c 2007664 f Numeric (e ∙ idle_is));
  not_sync = λ e. u.not_sync (address_of-high c 2045056 f Tone2 (e ∙ sync_is));
}

-- bit 1 of the idle word and of the sync word is 0
pub messages_are_not_idle : MessagesAreNotIdle
messages_are_not_idle group h = record {
  not_idle = λ e. let high : 2 ^ 31 ≤ message_of group = message_of-ge group in absurd (omega arith);
  not_sync = λ e. let high : 2 ^ 31 ≤ message_of group = message_of-ge group in absurd (omega arith);
}

-- the idle word is a codeword
pub idle_codeword : IsCodeword IDLE
idle_codeword = subst IsCodeword (sym idle_is) (address_of-codeword 2007664 Numeric (lit< tt))

-- the sync word is a codeword
pub sync_codeword : IsCodeword SYNC
sync_codeword = subst IsCodeword (sym sync_is) (address_of-codeword 2045056 Tone2 (lit< tt))
