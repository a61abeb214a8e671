-- The pages that a session accepts.
use Rattle.std.specs.Prelude.{◌≡◌, ℕ, List, Ok, All}
use Rattle.page_text.specs.Page.{IsAcceptable}
use Rattle.subscribers.specs.Parts.{Parts}
use Rattle.subscribers.specs.Settings.{settings_of}
use Rattle.serving.specs.Protocols.{IsSessionIn, Protocol, SessionIn, queued_in}

-- Each page that a session of either entry line accepts under the settings of a file has a usable capcode, and a text that fits its function.
abbrev pub AreAcceptable : Type 0
AreAcceptable =
    (p : Protocol) (bytes : List ℕ) (parts : Parts) (spare : ℕ) (taken : List ℕ) (session : SessionIn p)
    → settings_of bytes ≡ Ok parts → IsSessionIn p parts spare taken session → All IsAcceptable (queued_in p session)
