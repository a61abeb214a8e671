-- What follows where connections were served in turn.
use Rattle.std.specs.Prelude.{◌≡◌, ◌≢◌, ℕ, ◌+◌, ◌<◌, ◌≤◌, ◌⊎◌, List, length, IsTrue, IsFalse}
use Rattle.std.specs.List.{AllByRecursion}
use Rattle.subscribers.specs.Parts.{Parts}
use Rattle.wires.specs.Causes.{Rose}
use Rattle.wires.specs.Line.{IsBlank, Keeps, Line}
use Rattle.serving.specs.declared.session.SessionEnd.TheVariants.{HungUp, LineLost}
use Rattle.serving.specs.Protocols.{Protocol}
use Rattle.serving.specs.Served.{AllFrom, FitWire, IsWhole, Served, ServedInTurn, ServedWhileFit, UsedWell}
use Rattle.endings.specs.Talk.{Grew}

-- The session was served on the connection of this number, which is one of the wire's. It was open and blank, and what was to be heard
-- there was what it had at first. What came of it stays, so what was heard and said there and the turns are those of the session. Where
-- it ended because nothing was left, all that was to be heard was fed.
pub record SessionIsAt {p : Protocol} {settings : Parts} {spare : ℕ} (first now : Line) (k : ℕ) (s : Served p settings spare) : Type 0 where
  pub within : k < first.count
  pub number : s.before.opened ≡ k + 1
  pub was_open : IsTrue s.before.is_open
  pub blank : IsBlank (s.before.connection k)
  pub to_hear : s.before.connection k ≡ first.connection k
  pub stays : now.connection k ≡ s.after.connection k
  pub grew : Grew (first.connection k) (now.connection k) s.ran.heard s.ran.said s.ran.turns
  pub all_fed : s.end ≡ HungUp → s.ran.fed ≡ (first.connection k).rest

-- The wire opened the first of the connections that were left, one for each session, and the sessions were served there. All other
-- connections are as they were. None is open where a session was served, or where none was open at first.
pub record WireAfter {p : Protocol} {settings : Parts} {spare : ℕ} (first now : Line) (sessions : List (Served p settings spare)) : Type 0 where
  pub keeps : Keeps first now
  pub opened : IsTrue first.tells → now.opened ≡ first.opened + length sessions
  pub others : IsTrue first.tells → (k : ℕ) → (k < first.opened ⊎ first.opened + length sessions ≤ k) → now.connection k ≡ first.connection k
  pub served : IsTrue first.tells → AllFrom (SessionIsAt first now) first.opened sessions
  pub shut : IsTrue first.tells → (0 < length sessions ⊎ IsFalse first.is_open) → IsFalse now.is_open

-- A session is lost only where the wire's faults of hear or of say rose.
abbrev pub LostRaises : {p : Protocol} {settings : Parts} {spare : ℕ} → Line → Line → Served p settings spare → Type 0
LostRaises first now s = s.end ≡ LineLost → Rose first.hear now.hear ⊎ Rose first.say now.say

-- Each session is whole, none was lost, and no hear, say and hang-up failed.
pub record WellServed {p : Protocol} {settings : Parts} {spare : ℕ} (first now : Line) (sessions : List (Served p settings spare)) : Type 0 where
  pub used : UsedWell first now
  pub whole : AllFrom (IsWhole first now) first.opened sessions
  pub none_lost : AllByRecursion (λ (s : Served p settings spare). s.end ≢ LineLost) sessions

-- What follows of connections that were served in turn: what the wire is afterwards, why sessions were lost, and how they went over a
-- steady wire, while its connections are fit and where all are.
pub record InTurn (p : Protocol) (settings : Parts) (spare : ℕ) (first now : Line) (sessions : List (Served p settings spare)) : Type 0 where
  pub after : WireAfter first now sessions
  pub lost : AllByRecursion (LostRaises first now) sessions
  pub while_fit : IsTrue first.tells → IsTrue first.steady → ServedWhileFit first now sessions
  pub well : FitWire p settings spare first (length sessions) → WellServed first now sessions

-- This follows of any sessions that were served in turn.
abbrev pub AllInTurn : Type 0
AllInTurn = (p : Protocol) (settings : Parts) (spare : ℕ) (first now : Line) (sessions : List (Served p settings spare)) → ServedInTurn first now sessions → InTurn p settings spare first now sessions
