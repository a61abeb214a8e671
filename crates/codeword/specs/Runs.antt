-- The words of pages and the words between them.
use Rattle.std.specs.Prelude.{◌≢◌, ℕ, ◌<◌, ◌^◌}
use Rattle.codeword.specs.declared.functions.Function.{Function}
use Rattle.codeword.specs.declared.words.TheConstants.{IDLE, SYNC}
use Rattle.codeword.specs.Capcodes.{IsUsable}
use Rattle.codeword.specs.Words.{address_of, message_of}

-- The word is neither the idle word nor the sync word.
pub record IsNeitherIdleNorSync (word : ℕ) : Type 0 where
  pub not_idle : word ≢ IDLE
  pub not_sync : word ≢ SYNC

-- No address word of a usable capcode is the idle word or the sync word.
abbrev pub AddressesAreNotIdle : Type 0
AddressesAreNotIdle = (capcode : ℕ) (function : Function) → IsUsable capcode → IsNeitherIdleNorSync (address_of capcode function)

-- No message word is the idle word or the sync word.
abbrev pub MessagesAreNotIdle : Type 0
MessagesAreNotIdle = (group : ℕ) → group < 2 ^ 20 → IsNeitherIdleNorSync (message_of group)
