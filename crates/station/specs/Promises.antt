-- What a run promises of the pages that receivers hear.
use Rattle.std.specs.Prelude.{◌≡◌, ℕ, ◌≤◌, ◌⊎◌, Bool, false, List, [], ◌∷◌, ◌++◌, length, map, take, IsTrue, All}
use Rattle.std.specs.List.{AllByRecursion, concat}
use Rattle.std.proofs.Common.{inl, inr}
use Rattle.bits.specs.Bits.{bytes_bits}
use Rattle.entry_line.specs.Chars.{char_of}
use Rattle.page_text.specs.Page.{Page, IsAcceptable}
use Rattle.air.specs.Near.{IsAirs, Near}
use Rattle.receiver.specs.Listeners.{is_one_of}
use Rattle.receiver.specs.Receivers.{most_receivers}
use Rattle.receiver.specs.Shown.{has_of, pages_in, pages_of_frame, shown_by}
use Rattle.sampler.specs.Line.{IsLine}
use Rattle.sampler.specs.Runs.{NoneLonger, sampled_bits}
use Rattle.snpp_entry.specs.Sends.{ArePagesOfSends, session_lines}
use Rattle.subscribers.specs.Directory.{directory_of}
use Rattle.subscribers.specs.Parts.{Parts}
use Rattle.wires.specs.Files.{Files}
use Rattle.wires.specs.Left.{Left}
use Rattle.wires.specs.Line.{Line}
use Rattle.wires.specs.Stacked.{noisy_bits}
use Rattle.wires.specs.Written.{Written}
use Rattle.station.specs.declared.outcomes.Outcome.{Outcome}
use Rattle.station.specs.declared.outcomes.Outcome.TheVariants.{Ended}
use Rattle.endings.specs.declared.statuses.Status.TheVariants.{Done, FileFault, OutFault, WireFault}
use Rattle.near.specs.NearAir.{AreUsable, joined}
use Rattle.repeats.specs.Kept.{NearOrNone, kept_pages}
use Rattle.listening.specs.PageLines.{pairs_heard}
use Rattle.listening.specs.TwinLines.{pairs_heard_twice}
use Rattle.serving.specs.Protocols.{IsSessionIn, Protocol, SessionIn, queued_in, snpp, tap}
use Rattle.serving.specs.Served.{AllFrom, NextFit, Served, airs}
use Rattle.station.specs.ReadFile.{Unreadable}
use Rattle.serving.specs.Sent.{once, twice}
use Rattle.serving.specs.Serving.{Around, AtAppendFault, AtFreshFault}
use Rattle.station.specs.StationRows.{LeavesWireAndOut, ServedBy, StationRow, TrialRow, with_shelf}

-- What each receiver, by its number, prints of each frame are exactly the pages of its capcodes in these lists, in order, each with its
-- text.
abbrev pub HearLists : List (List ℕ) → List (List Page) → List Bool → Type 0
HearLists receivers lists bits = (number f : ℕ) → 1 ≤ number → number ≤ most_receivers
    → pages_of_frame f (shown_by number (pairs_heard receivers bits)) ≡ pages_of_frame f (pages_in (has_of receivers number) (joined lists))

-- This is so where the bits are near the transmissions of lists of acceptable pages: every preamble is as it was sent, and every word
-- after it has at most two wrong bits.
abbrev pub HearNear : List (List ℕ) → List Bool → Type 0
HearNear receivers bits = (lists : List (List Page)) → All (All IsAcceptable) lists → Near lists bits → HearLists receivers lists bits

-- What receivers hear in the bits of samples is this where the samples are a line of bits that are near the transmissions of such lists, and
-- no run of these bits is longer than 127.
abbrev pub HearNearLine : List (List ℕ) → List Bool → Type 0
HearNearLine receivers samples = (lists : List (List Page)) (bits : List Bool) → All (All IsAcceptable) lists → Near lists bits → IsLine bits samples → NoneLonger 127 bits
    → HearLists receivers lists (sampled_bits samples)

-- The bits that were heard in a trial are those of the transmission, each xor the bit of the noise in its place. Where they are near the
-- transmission, and where no bit of the noise is 1, exactly the pages that the session accepted are heard.
pub record HearsTrial (receivers : List (List ℕ)) (pages : List Page) (air flips noise : List Bool) : Type 0 where
  pub bits : noisy_bits air flips ≡ noisy_bits air noise
  pub near : Near (pages ∷ []) (noisy_bits air flips) → HearLists receivers (pages ∷ []) (noisy_bits air flips)
  pub silent : All (λ bit. bit ≡ false) noise → HearLists receivers (pages ∷ []) (noisy_bits air flips)

-- what a trial promises, where it came to Done
abbrev pub TrialPromise : (settings noise : List ℕ) (receivers : List (List ℕ)) (input0 input : Left ℕ) (old new : Files) (out0 out : Written ℕ) (outcome : Outcome)
    → TrialRow once settings noise receivers input0 input old new out0 out outcome → Type 0
TrialPromise settings noise receivers input0 input old new out0 out (Ended Done) row =
    IsTrue old.tells → HearsTrial receivers row.tried.tries.tried.session.pages row.tried.tries.tried.air row.tried.tries.flips (bytes_bits (old.file noise))
TrialPromise settings noise receivers input0 input old new out0 out outcome row = Unit {0}

-- The bits that were heard of a transmission that was sent twice are those that were sent, each xor the bit of the noise in its place.
-- Where each word of a copy is near or can't be read there, what each receiver, by its number, prints of each frame are exactly the accepted
-- pages of its capcodes that have a clean copy of each word, and of the word after them, in order, each with its text.
pub record HearsTwice (receivers : List (List ℕ)) (pages : List Page) (air flips noise : List Bool) : Type 0 where
  pub bits : noisy_bits air flips ≡ noisy_bits air noise
  pub kept : (near : NearOrNone pages (noisy_bits air flips)) (number f : ℕ) → 1 ≤ number → number ≤ most_receivers
      → pages_of_frame f (shown_by number (pairs_heard_twice receivers (noisy_bits air flips))) ≡ pages_of_frame f (pages_in (has_of receivers number) (kept_pages pages (noisy_bits air flips) near))

-- what `twice` promises, where it came to Done
abbrev pub TwicePromise : (settings noise : List ℕ) (receivers : List (List ℕ)) (input0 input : Left ℕ) (old new : Files) (out0 out : Written ℕ) (outcome : Outcome)
    → TrialRow twice settings noise receivers input0 input old new out0 out outcome → Type 0
TwicePromise settings noise receivers input0 input old new out0 out (Ended Done) row =
    IsTrue old.tells → HearsTwice receivers row.tried.tries.tried.session.pages row.tried.tries.tried.air row.tried.tries.flips (bytes_bits (old.file noise))
TwicePromise settings noise receivers input0 input old new out0 out outcome row = Unit {0}

-- the pages that sessions accepted, session by session
abbrev pub accepted_in : {p : Protocol} {settings : Parts} {spare : ℕ} → List (Served p settings spare) → List (List Page)
accepted_in {p} sessions = map (λ s. queued_in p s.ran.session) sessions

-- The pages that sessions accepted are acceptable, and these are their transmissions, one after another. They are near as they were
-- sent, and of bits that are near them any receivers hear exactly these pages.
pub record SendsAccepted (lists : List (List Page)) (bits : List Bool) : Type 0 where
  pub acceptable : All (All IsAcceptable) lists
  pub airs : IsAirs lists bits
  pub clean : Near lists bits
  pub heard : (receivers : List (List ℕ)) (now : List Bool) → AreUsable (is_one_of (concat receivers)) → Near lists now → HearLists receivers lists now

-- these are the pages of the session of all that is to be heard on the connection of this number
abbrev pub AreAccepted : Protocol → Parts → ℕ → Line → ℕ → List Page → Type 0
AreAccepted p settings spare wire k pages = (session : SessionIn p) → IsSessionIn p settings spare (wire.connection k).rest session → queued_in p session ≡ pages

-- As long as the next connections have room for the replies, the first of these lists are the pages of their sessions, whatever happens
-- on connections behind them.
abbrev pub AcceptedWhileFit : Protocol → Parts → ℕ → Line → List (List Page) → Type 0
AcceptedWhileFit p settings spare wire lists = (n : ℕ) → NextFit p settings spare wire n → AllFrom (AreAccepted p settings spare wire) wire.opened (take n lists)

-- The pages of a session of SNPP are, for each line of it that is a SEND that was answered 250 OK, in order, one page for each capcode of
-- the id that was pending, and no other line queues one.
abbrev pub QueuedAtSends : (p : Protocol) → Parts → List ℕ → SessionIn p → Type 0
QueuedAtSends tap settings heard session = Unit {0}
QueuedAtSends snpp settings heard session = ArePagesOfSends (directory_of settings) (session_lines (map char_of heard)) session.answers session.pages

-- Sessions that were served send what they accepted. Over a steady wire, while its connections are fit, that is what the sessions of all
-- that was to be heard accept.
pub record ServedSend {p : Protocol} {settings : Parts} {spare : ℕ} (old : Around) (sessions : List (Served p settings spare)) : Type 0 where
  pub sends : IsTrue old.shelf.tells → SendsAccepted (accepted_in sessions) (airs sessions)
  pub queued : AllByRecursion (λ (s : Served p settings spare). QueuedAtSends p settings s.ran.fed s.ran.session) sessions
  pub whole : IsTrue old.wire.tells → IsTrue old.wire.steady → AcceptedWhileFit p settings spare old.wire (accepted_in sessions)

-- where an append failed, this holds of the sessions before the last one
abbrev pub FaultPromise : (p : Protocol) (settings : Parts) (spare : ℕ) (first old new : Around) (address name : List ℕ) (most : ℕ)
    → AtFreshFault p settings spare old new name most ⊎ AtAppendFault p settings spare old new address name most → Type 0
FaultPromise p settings spare first old new address name most (inl fresh) = Unit {0}
FaultPromise p settings spare first old new address name most (inr fault) = ServedSend first fault.sessions

-- where a file failed: the settings file wasn't read, or the air failed
abbrev pub FilePromise : (p : Protocol) (address settings air : List ℕ) (count : ℕ) (old new : Around)
    → (Unreadable settings old.shelf new.shelf × LeavesWireAndOut old new) ⊎ ServedBy p address settings air count old new FileFault → Type 0
FilePromise p address settings air count old new (inl unread) = Unit {0}
FilePromise p address settings air count old new (inr by) = FaultPromise p by.parts by.parts.cells old (with_shelf old by.shelf) new address air count by.served

-- what serving connections promises of the sessions whose transmissions were appended
abbrev pub StationPromise : (p : Protocol) (address settings air : List ℕ) (count : ℕ) (old new : Around) (outcome : Outcome) → StationRow p address settings air count old new outcome → Type 0
StationPromise p address settings air count old new (Ended Done) row = ServedSend old row.served.sessions
StationPromise p address settings air count old new (Ended WireFault) row = ServedSend old row.served.sessions
StationPromise p address settings air count old new (Ended OutFault) row = ServedSend old (row.served.sessions ++ row.served.unreported ∷ [])
StationPromise p address settings air count old new (Ended FileFault) row = FilePromise p address settings air count old new row
StationPromise p address settings air count old new outcome row = Unit {0}
