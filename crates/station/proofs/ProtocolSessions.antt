-- What holds of the sessions of each protocol: they are determined, their pages have room and are acceptable, and how much is said in them.
use Rattle.std.proofs.Common.{◌≡◌, ℕ, ◌+◌, ◌*◌, ◌≤◌, inl, inr, cond, Bool, true, false, List, [], ◌∷◌, ◌++◌, length, length-append, map, take, Ok, Option, Some, refl, sym, ◌∙◌, ap, subst, arith}
use Rattle.std.specs.Prelude.{All}
use Rattle.std.specs.FinMap.{get}
use Rattle.std.specs.List.{sum_by}
use Rattle.std.proofs.lemmas.List.{length-map}
use Rattle.std.proofs.lemmas.List.Elements.{All-nil, All-cons, All-append}
use Rattle.entry_line.specs.Chars.{char_of}
use Rattle.page_pool.specs.Cells.{cells_of}
use Rattle.page_text.specs.Page.{Page, IsAcceptable}
use Rattle.page_text.proofs.FitTest.{fits_from_test}
use Rattle.snpp_entry.proofs.Bounds.{snpp_said_few, snpp_within}
use Rattle.snpp_entry.proofs.Sends.{at_line, pages_at_sends}
use Rattle.snpp_entry.specs.Lines.{cut, without_cr}
use Rattle.snpp_entry.specs.Replies.{snpp_replies, the_greeting}
use Rattle.snpp_entry.specs.Rows.{Outcome, Pending, outcome}
use Rattle.snpp_entry.specs.Sends.{ArePagesOfSends, session_lines}
use Rattle.snpp_entry.specs.Session.{SnppCourse, SnppSession, course_after, is_bye, outcome_of_piece, outcome_pages, session, snpp_start, snpp_tell}
use Rattle.subscribers.specs.Directory.{Directory, directory_of}
use Rattle.subscribers.specs.Parts.{Parts}
use Rattle.subscribers.specs.Settings.{settings_of}
use Rattle.tap_block.specs.Chars.{characters}
use Rattle.tap_terminal.proofs.Sessions.{one_session}
use Rattle.serving.specs.Protocols.{IsSessionIn, Protocol, SessionIn, queued_in, snpp, spoken, tap}
use Rattle.station.specs.AcceptedPages.{AreAcceptable}
use Rattle.station.specs.AirRoom.{most_spoken}
use Rattle.station.specs.Promises.{QueuedAtSends}
use Rattle.station.proofs.AcceptablePages.{All-pages, All-pages_to}
use Rattle.station.proofs.AirRooms.{pages_within, replies_few}
use Rattle.station.proofs.UsableSettings.{GivesUsable, GivesUsable-settings_of}

-- bytes have one session
pub one_in : (p : Protocol) (settings : Parts) (spare : ℕ) (bytes : List ℕ) (a b : SessionIn p) → IsSessionIn p settings spare bytes a → IsSessionIn p settings spare bytes b → a ≡ b
one_in tap settings spare bytes a b h k = one_session settings.password (directory_of settings) spare (characters bytes) a b h k
one_in snpp settings spare bytes a b h k = h ∙ sym k

-- ---- the cells of pages, and what is said

-- the pages of a session take no more cells than were spare
pub queued_within : (p : Protocol) (settings : Parts) (spare : ℕ) (bytes : List ℕ) (session : SessionIn p) → IsSessionIn p settings spare bytes session → sum_by cells_of (queued_in p session) ≤ spare
queued_within tap settings spare bytes session h = pages_within settings spare bytes session h
queued_within snpp settings spare bytes session h =
    subst (λ (s : SnppSession). sum_by cells_of s.pages ≤ spare) (sym h) (snpp_within (directory_of settings) spare (map char_of bytes))

-- what is said in a session
pub spoken_few : (p : Protocol) (settings : Parts) (spare : ℕ) (bytes : List ℕ) (session : SessionIn p) → IsSessionIn p settings spare bytes session → length (spoken p session) ≤ most_spoken p (length bytes)
spoken_few tap settings spare bytes session h = replies_few settings spare bytes session h
spoken_few snpp settings spare bytes session h =
    let a = snpp_said_few (directory_of settings) spare (map char_of bytes) in
    let b : length (map char_of bytes) ≡ length bytes = length-map bytes char_of in
    let c = ap (λ (s : SnppSession). length (snpp_replies s.answers)) h in
    let d = length-append the_greeting (snpp_replies session.answers) in
    omega (arith, a, b, c, d)

-- ---- acceptable pages

module _ (directory : Directory) (usable : GivesUsable directory) where
  line_acceptable : (spare : ℕ) (p : Pending) (line : List ℕ) → All IsAcceptable (outcome directory spare p line).pages
  line_acceptable spare p line = elim (at_line directory spare p line) [
    | inl h ↦ subst (λ (pages : List Page). All IsAcceptable pages) (sym h.pages_are)
        (All-pages_to h.target h.text (usable h.id h.target h.known) (fits_from_test h.target.function h.text h.suits))
    | inr h ↦ subst (λ (pages : List Page). All IsAcceptable pages) (sym h.none) (All-nil IsAcceptable)
  ]

  told_acceptable : (s : SnppCourse) (ps : List (List ℕ)) → All IsAcceptable (outcome_pages (snpp_tell directory s ps))
  told_acceptable s [] = All-nil IsAcceptable
  told_acceptable s (piece ∷ ps) =
      let o = outcome_of_piece directory s piece in
      All-append IsAcceptable o.pages (outcome_pages (cond (is_bye o.answer) [] (snpp_tell directory (course_after s o) ps))) (line_acceptable s.spare s.pending (without_cr piece))
      (by_bye (is_bye o.answer) (told_acceptable (course_after s o) ps))
    where
      by_bye : (b : Bool) → All IsAcceptable (outcome_pages (snpp_tell directory (course_after s (outcome_of_piece directory s piece)) ps))
          → All IsAcceptable (outcome_pages (cond b [] (snpp_tell directory (course_after s (outcome_of_piece directory s piece)) ps)))
      by_bye true h = All-nil IsAcceptable
      by_bye false h = h

-- each page that a session accepts under the settings of a file is acceptable
pub are_acceptable : AreAcceptable
are_acceptable tap bytes parts spare taken session h k = All-pages parts spare taken session (GivesUsable-settings_of bytes parts h) k
are_acceptable snpp bytes parts spare taken session h k =
    subst (λ (s : SnppSession). All IsAcceptable s.pages) (sym k)
    (told_acceptable (directory_of parts) (GivesUsable-settings_of bytes parts h) (snpp_start spare) (cut (take 999999 (map char_of taken))).pieces)

-- ---- the lines that queue pages

pub queued_at_sends : (p : Protocol) (settings : Parts) (spare : ℕ) (bytes : List ℕ) (session : SessionIn p) → IsSessionIn p settings spare bytes session → QueuedAtSends p settings bytes session
queued_at_sends tap settings spare bytes session h = tt
queued_at_sends snpp settings spare bytes session h =
    subst (λ (s : SnppSession). ArePagesOfSends (directory_of settings) (session_lines (map char_of bytes)) s.answers s.pages) (sym h) (pages_at_sends (directory_of settings) spare (map char_of bytes))
