-- What serving and a trial leave of a station: the pages that wait in its pool, and the session whose report its terminal holds. The cells
-- of the pool are always those of the settings.
use Rattle.std.specs.Prelude.{◌≡◌, ℕ, Bool, List, [], ◌∷◌, ◌++◌, length, Option, Some, None}
use mathlib.Core.Logic.{inl, inr}
use Rattle.page_pool.specs.Pool.{Pool, cells, pages}
use Rattle.subscribers.specs.Parts.{Parts}
use Rattle.tap_terminal.specs.State.{TerminalState}
use Rattle.tap_terminal.specs.Session.{Session}
use Rattle.wires.specs.Left.{Left}
use Rattle.wires.specs.Written.{Written}
use Rattle.endings.specs.declared.statuses.Status.{Status}
use Rattle.endings.specs.declared.statuses.Status.TheVariants.{Done, FileFault, InputFault, OutFault, WireFault}
use Rattle.serving.specs.Protocols.{Protocol, StateIn}
use Rattle.serving.specs.Sent.{Times}
use Rattle.serving.specs.Served.{Served}
use Rattle.serving.specs.Serving.{Around, HasServed, SoFar}
use Rattle.serving.specs.TapSessions.{TerminalStandsFor}
use Rattle.serving.specs.Trying.{Tries}

-- This was the terminal's last session: the terminal stands for the bytes that were fed in it, so that its report is the session's.
pub record WasLast (settings : Parts) (spare : ℕ) (session : Session) (desk : TerminalState) : Type 0 where
  pub fed : List ℕ
  pub left : ℕ
  pub stands : TerminalStandsFor settings spare desk fed session left

-- the entry line after some sessions: that of the last one, and where there was none the one that was there before
abbrev pub state_after : {p : Protocol} {settings : Parts} {spare : ℕ} → StateIn p → List (Served p settings spare) → StateIn p
state_after first [] = first
state_after first (s ∷ ss) = state_after s.state ss

-- No page waits, and the last of these sessions was the entry line's last one.
pub record LeavesNoPage {p : Protocol} {settings : Parts} {spare : ℕ} (first : StateIn p) (sessions : List (Served p settings spare)) (pool : Pool) (state : StateIn p) : Type 0 where
  pub no_page : pool.live ≡ []
  pub last : state ≡ state_after first sessions

-- what serving leaves, by how it ended. Where an append failed, pages of the session may wait whose transmission failed.
abbrev pub ServingLeaves : (p : Protocol) (settings : Parts) (spare : ℕ) (old new : Around) (address name : List ℕ) (most : ℕ) (first : StateIn p) (pool : Pool) (state : StateIn p)
    (status : Status) → HasServed p settings spare old new address name most status → Type 0
ServingLeaves p settings spare old new address name most first pool state Done h = LeavesNoPage first h.sessions pool state
ServingLeaves p settings spare old new address name most first pool state WireFault h = LeavesNoPage first h.sessions pool state
ServingLeaves p settings spare old new address name most first pool state FileFault (inl h) = (pool.live ≡ []) × (state ≡ first)
ServingLeaves p settings spare old new address name most first pool state FileFault (inr h) = state ≡ h.unsent.state
ServingLeaves p settings spare old new address name most first pool state OutFault h = LeavesNoPage first (h.sessions ++ h.unreported ∷ []) pool state
ServingLeaves p settings spare old new address name most first pool state other h = ⊥

-- how serving ended, and what it left
pub record Serves (p : Protocol) (settings : Parts) (spare : ℕ) (old new : Around) (address name : List ℕ) (most : ℕ) (first : StateIn p) (pool : Pool) (state : StateIn p) (status : Status) : Type 0 where
  pub served : HasServed p settings spare old new address name most status
  pub leaves : ServingLeaves p settings spare old new address name most first pool state status served

-- One session more is served, or the serving ended.
abbrev pub Further : (p : Protocol) → Parts → ℕ → Around → Around → List ℕ → List ℕ → ℕ → StateIn p → Pool → StateIn p → ℕ → Option Status → Type 0
Further p settings spare old now address name most first pool state number None =
    (sessions : List (Served p settings spare)) × SoFar old now address name most pool sessions × (state ≡ state_after first sessions) × (length sessions ≡ number)
Further p settings spare old now address name most first pool state number (Some status) = Serves p settings spare old now address name most first pool state status

-- No page waits: all were sent. The session was the terminal's last one.
pub record LeavesSent (settings : Parts) (spare : ℕ) (session : Session) (pool : Pool) (desk : TerminalState) : Type 0 where
  pub no_page : pool.live ≡ []
  pub last : WasLast settings spare session desk

-- All pages of the session wait, and it was the terminal's last one.
pub record LeavesAccepted (settings : Parts) (spare : ℕ) (session : Session) (pool : Pool) (desk : TerminalState) : Type 0 where
  pub accepted : pages pool ≡ session.pages
  pub last : WasLast settings spare session desk

-- what a trial leaves, by how it ended. Where it failed behind the answers, pages of the session may wait.
abbrev pub TrialLeaves : (times : Times) (settings : Parts) (spare : ℕ) (printed : List Bool → List ℕ) (old new : Left ℕ) (noise0 noise : Left Bool) (out0 out : Written ℕ) (pool : Pool) (desk : TerminalState)
    (status : Status) → Tries times settings spare printed old new noise0 noise out0 out status → Type 0
TrialLeaves times settings spare printed old new noise0 noise out0 out pool desk Done h = LeavesSent settings spare h.tried.session pool desk
TrialLeaves times settings spare printed old new noise0 noise out0 out pool desk FileFault h = WasLast settings spare h.tried.session desk
TrialLeaves times settings spare printed old new noise0 noise out0 out pool desk InputFault h = LeavesAccepted settings spare h.broken.session pool desk
TrialLeaves times settings spare printed old new noise0 noise out0 out pool desk OutFault (inl h) = LeavesAccepted settings spare h.unprinted.session pool desk
TrialLeaves times settings spare printed old new noise0 noise out0 out pool desk OutFault (inr h) = WasLast settings spare h.tried.session desk
TrialLeaves times settings spare printed old new noise0 noise out0 out pool desk other h = ⊥

-- a trial, by its status, and what it left
pub record HasTried (times : Times) (settings : Parts) (spare : ℕ) (printed : List Bool → List ℕ) (old new : Left ℕ) (noise0 noise : Left Bool) (out0 out : Written ℕ) (pool : Pool) (desk : TerminalState) (status : Status) : Type 0 where
  pub tries : Tries times settings spare printed old new noise0 noise out0 out status
  pub leaves : TrialLeaves times settings spare printed old new noise0 noise out0 out pool desk status tries

-- What hearing pages leaves of their pool: the cells that it had, and behind Done no page.
pub record HearingLeaves (before after : Pool) (status : Status) : Type 0 where
  pub cells_stay : cells after ≡ cells before
  pub all : status ≡ Done → after.live ≡ []
