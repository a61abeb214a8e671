-- How much room a station's air and its replies take.
use Rattle.std.specs.Prelude.{ℕ, ◌+◌, ◌*◌, ◌<◌, ◌≤◌, ◌⊎◌, List, length, IsTrue}
use Rattle.subscribers.specs.Parts.{Parts}
use Rattle.tap_entry.specs.PagesFile.{IsFile, FileContent}
use Rattle.wires.specs.Files.{Files, longest_name}
use Rattle.wires.specs.Held.{Connection}
use Rattle.wires.specs.Line.{Line}
use Rattle.calling.specs.Conversations.{HasRoom}
use Rattle.serving.specs.Protocols.{Protocol, snpp, tap}
use Rattle.serving.specs.Served.{FitShelf, FitWire, Served, airs}

-- the most bytes that the transmission of a session's pages has, by the cells that are spare before it
abbrev pub most_air : ℕ → ℕ
most_air spare = 140 + 115 * spare

-- The bits of the transmissions of sessions fit in so many bytes a session.
abbrev pub AirsFit : Type 0
AirsFit = (p : Protocol) (settings : Parts) (spare : ℕ) (sessions : List (Served p settings spare)) → length (airs sessions) ≤ 8 * (length sessions * most_air spare)

-- A steady shelf is fit for the air of so many connections where its fresh files have room for as many times the most bytes of a session.
abbrev pub ShelfFits : Type 0
ShelfFits = (p : Protocol) (settings : Parts) (spare most : ℕ) (wire : Line) (shelf : Files) (name : List ℕ) → IsTrue wire.tells → IsTrue shelf.tells → IsTrue shelf.steady
    → (IsTrue (shelf.there name) ⊎ (IsTrue shelf.further × (length name ≤ longest_name))) → most * most_air spare ≤ shelf.fresh_room → FitShelf p settings spare wire shelf name most

-- the most bytes that are said to a client, where so many are to be heard: for TAP six for each and six more, and for SNPP 21 for each and the
-- twelve of the greeting
abbrev pub most_spoken : Protocol → ℕ → ℕ
most_spoken tap heard = 6 * heard + 6
most_spoken snpp heard = 21 * heard + 12

-- A steady wire is fit for so many connections where each of the next ones has room for the most that is said, by what is to be heard there.
abbrev pub WireFits : Type 0
WireFits = (p : Protocol) (settings : Parts) (spare most : ℕ) (wire : Line) → IsTrue wire.tells → IsTrue wire.steady
    → ((k : ℕ) → wire.opened ≤ k → k < wire.opened + most → k < wire.count → most_spoken p (length (wire.connection k).rest) ≤ (wire.connection k).room) → FitWire p settings spare wire most

-- the most bytes that a client says for so many pages, where so many bytes are to be heard
abbrev pub most_said : ℕ → ℕ → ℕ
most_said pages heard = 14 + 256 * (pages + heard)

-- A connection has room for all that a client may say for a file, where it has room for the most that is said for its pages.
abbrev pub CallFits : Type 0
CallFits = (bytes : List ℕ) (told : FileContent) (c : Connection) → IsFile bytes told → most_said (length told.pages) (length c.rest) ≤ c.room → HasRoom told c
