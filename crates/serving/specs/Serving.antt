-- A station's serving of connections, by how it ended.
use Rattle.std.specs.Prelude.{◌≡◌, ◌≢◌, ℕ, ◌+◌, ◌*◌, ◌<◌, ◌≤◌, ◌⊎◌, Bool, List, [], ◌∷◌, ◌++◌, length, IsTrue, IsFalse, Result, IsOk, OnOk}
use Rattle.air.specs.Air.{IsAir}
use Rattle.bits.specs.Bits.{bytes_bits}
use Rattle.page_pool.specs.Pool.{Pool, cells, pages}
use Rattle.subscribers.specs.Parts.{Parts}
use Rattle.wires.specs.Causes.{HasCause, Rose}
use Rattle.wires.specs.Files.{Files, SameAt}
use Rattle.wires.specs.Line.{Line}
use Rattle.wires.specs.Stacked.{are_bytes}
use Rattle.wires.specs.Written.{Appends, Written}
use Rattle.endings.specs.declared.statuses.Status.{Status}
use Rattle.endings.specs.declared.statuses.Status.TheVariants.{Done, FileFault, OutFault, WireFault}
use Rattle.serving.specs.Protocols.{Protocol}
use Rattle.serving.specs.Served.{FileAfter, FitOut, FitShelf, NextFit, OutAfter, Served, ServedInTurn, ServedWhileFit, airs, line_for, lines}
use Rattle.wires.specs.Fronts.{IsFront}

-- what wire, shelf and output tell
pub record Around : Type 0 where
  pub wire : Line
  pub shelf : Files
  pub out : Written ℕ

-- Done: so many connections were served at this address, or all that were left, and none is open. Their airs are the file, and their lines were
-- put. No count of faults rose but the wire's for hear, say and hang-up, and over a steady wire none of these while the connections are fit.
-- Fit objects are steady.
pub record AtDone (p : Protocol) (settings : Parts) (spare : ℕ) (old new : Around) (address name : List ℕ) (most : ℕ) : Type 0 where
  pub sessions : List (Served p settings spare)
  pub few : length sessions ≤ most
  pub all : (length sessions ≡ most) ⊎ (IsTrue old.wire.tells → new.wire.count ≤ new.wire.opened)
  pub wire : ServedInTurn old.wire new.wire sessions
  pub asked : IsTrue old.wire.tells → new.wire.asked ≡ address
  pub shut : IsTrue old.wire.tells → (0 < most ⊎ IsFalse old.wire.is_open) → IsFalse new.wire.is_open
  pub well : IsTrue old.wire.tells → IsTrue old.wire.steady → ServedWhileFit old.wire new.wire sessions
  pub file : FileAfter old.shelf new.shelf name (airs sessions)
  pub file_well : FitShelf p settings spare old.wire old.shelf name most → IsTrue new.shelf.steady
  pub out : OutAfter old.out new.out (lines 1 sessions)
  pub out_well : FitOut old.out most → IsTrue new.out.steady
  pub gate : new.wire.gate ≡ old.wire.gate
  pub shelf_faults : new.shelf.faults ≡ old.shelf.faults
  pub out_faults : new.out.faults ≡ old.out.faults

-- WireFault: `listen` or `next` failed, which they don't over a steady wire whose connections so far are fit. Fewer connections than so many
-- were served, or none. The airs and lines of the sessions that were served stand.
pub record AtWireFault (p : Protocol) (settings : Parts) (spare : ℕ) (old new : Around) (address name : List ℕ) (most : ℕ) : Type 0 where
  pub sessions : List (Served p settings spare)
  pub few : (length sessions < most) ⊎ (sessions ≡ [])
  pub wire : ServedInTurn old.wire new.wire sessions
  pub asked : IsTrue old.wire.tells → new.wire.asked ≡ address
  pub well : IsTrue old.wire.tells → IsTrue old.wire.steady → ServedWhileFit old.wire new.wire sessions
  pub unfit : IsTrue old.wire.tells → IsTrue old.wire.steady → NextFit p settings spare old.wire (length sessions) → ⊥
  pub file : FileAfter old.shelf new.shelf name (airs sessions)
  pub file_well : FitShelf p settings spare old.wire old.shelf name most → IsTrue new.shelf.steady
  pub out : OutAfter old.out new.out (lines 1 sessions)
  pub out_well : FitOut old.out most → IsTrue new.out.steady
  pub gate : Rose old.wire.gate new.wire.gate
  pub shelf_faults : new.shelf.faults ≡ old.shelf.faults
  pub out_faults : new.out.faults ≡ old.out.faults

-- FileFault of an append, which no fit shelf has: the airs of the finished sessions and a front of this session's air are the file.
-- The lines of the finished sessions were put, and this one's wasn't.
pub record AtAppendFault (p : Protocol) (settings : Parts) (spare : ℕ) (old new : Around) (address name : List ℕ) (most : ℕ) : Type 0 where
  pub sessions : List (Served p settings spare)
  pub unsent : Served p settings spare
  pub front : List Bool
  pub few : length (sessions ++ unsent ∷ []) ≤ most
  pub wire : ServedInTurn old.wire new.wire (sessions ++ unsent ∷ [])
  pub asked : IsTrue old.wire.tells → new.wire.asked ≡ address
  pub well : IsTrue old.wire.tells → IsTrue old.wire.steady → ServedWhileFit old.wire new.wire (sessions ++ unsent ∷ [])
  pub front_is : IsFront front unsent.bits
  pub file : FileAfter old.shelf new.shelf name (airs sessions ++ front)
  pub unfit : FitShelf p settings spare old.wire old.shelf name most → ⊥
  pub out : OutAfter old.out new.out (lines 1 sessions)
  pub out_well : FitOut old.out most → IsTrue new.out.steady
  pub gate : new.wire.gate ≡ old.wire.gate
  pub shelf_faults : Rose old.shelf.faults new.shelf.faults
  pub out_faults : new.out.faults ≡ old.out.faults

-- FileFault of `fresh`, which no fit shelf has: the file is as it was or empty, and the wire and the output are as they were.
pub record AtFreshFault (p : Protocol) (settings : Parts) (spare : ℕ) (old new : Around) (name : List ℕ) (most : ℕ) : Type 0 where
  pub wire : new.wire ≡ old.wire
  pub out : new.out ≡ old.out
  pub tells : new.shelf.tells ≡ old.shelf.tells
  pub file : IsTrue old.shelf.tells → (new.shelf.file name ≡ old.shelf.file name) ⊎ (new.shelf.file name ≡ [])
  pub there : IsTrue old.shelf.tells → IsTrue (old.shelf.there name) → IsTrue (new.shelf.there name)
  pub fresh_room : new.shelf.fresh_room ≡ old.shelf.fresh_room
  pub others : (other : List ℕ) → other ≢ name → SameAt old.shelf new.shelf other
  pub lent : new.shelf.lent ≡ old.shelf.lent
  pub unfit : FitShelf p settings spare old.wire old.shelf name most → ⊥
  pub shelf_faults : Rose old.shelf.faults new.shelf.faults

-- OutFault, which no fit output has: the airs of all sessions are the file, this one's included. Of its line a front was put.
pub record AtOutFault (p : Protocol) (settings : Parts) (spare : ℕ) (old new : Around) (address name : List ℕ) (most : ℕ) : Type 0 where
  pub sessions : List (Served p settings spare)
  pub unreported : Served p settings spare
  pub front : List ℕ
  pub few : length (sessions ++ unreported ∷ []) ≤ most
  pub wire : ServedInTurn old.wire new.wire (sessions ++ unreported ∷ [])
  pub asked : IsTrue old.wire.tells → new.wire.asked ≡ address
  pub well : IsTrue old.wire.tells → IsTrue old.wire.steady → ServedWhileFit old.wire new.wire (sessions ++ unreported ∷ [])
  pub file : FileAfter old.shelf new.shelf name (airs (sessions ++ unreported ∷ []))
  pub file_well : FitShelf p settings spare old.wire old.shelf name most → IsTrue new.shelf.steady
  pub front_is : IsFront front (line_for (length sessions + 1) unreported)
  pub out : OutAfter old.out new.out (lines 1 sessions ++ front)
  pub unfit : FitOut old.out most → ⊥
  pub gate : new.wire.gate ≡ old.wire.gate
  pub shelf_faults : new.shelf.faults ≡ old.shelf.faults
  pub out_faults : Rose old.out.faults new.out.faults

-- How serving at most so many connections at an address ended, by its status. No other status is answered.
abbrev pub HasServed : Protocol → Parts → ℕ → Around → Around → List ℕ → List ℕ → ℕ → Status → Type 0
HasServed p settings spare old new address name most Done = AtDone p settings spare old new address name most
HasServed p settings spare old new address name most WireFault = AtWireFault p settings spare old new address name most
HasServed p settings spare old new address name most FileFault = AtFreshFault p settings spare old new name most ⊎ AtAppendFault p settings spare old new address name most
HasServed p settings spare old new address name most OutFault = AtOutFault p settings spare old new address name most
HasServed p settings spare old new address name most other = ⊥

-- The sessions so far are served at this address, sent and reported, and no page is live.
pub record SoFar {p : Protocol} {settings : Parts} {spare : ℕ} (old now : Around) (address name : List ℕ) (most : ℕ) (pool : Pool) (sessions : List (Served p settings spare)) : Type 0 where
  pub wire : ServedInTurn old.wire now.wire sessions
  pub asked : IsTrue old.wire.tells → now.wire.asked ≡ address
  pub file : FileAfter old.shelf now.shelf name (airs sessions)
  pub file_well : FitShelf p settings spare old.wire old.shelf name most → IsTrue now.shelf.steady
  pub out : OutAfter old.out now.out (lines 1 sessions)
  pub out_well : FitOut old.out most → IsTrue now.out.steady
  pub short : length (lines 1 sessions) ≤ length sessions * 200
  pub gate : now.wire.gate ≡ old.wire.gate
  pub shelf_faults : now.shelf.faults ≡ old.shelf.faults
  pub out_faults : now.out.faults ≡ old.out.faults
  pub no_page : pool.live ≡ []
  pub all_spare : pool.spare ≡ spare

-- The transmission of a pool's pages was appended to a file, in bytes, and the pool is empty.
pub record SendsTo {T E : Type 0} (before after : Pool) (old new : Files) (name : List ℕ) (result : Result T E) : Type 0 where
  pub bits : List Bool
  pub is_air : IsAir (pages before) bits
  pub tells : new.tells ≡ old.tells
  pub bits_are : IsTrue old.tells → Appends (bytes_bits (old.file name)) (bytes_bits (new.file name)) bits result
  pub bytes_stay : IsTrue old.tells → are_bytes (new.file name) ≡ are_bytes (old.file name)
  pub there : new.there name ≡ old.there name
  pub fresh : new.fresh name ≡ old.fresh name
  pub room : IsTrue old.tells → 8 * new.room name + length (bytes_bits (new.file name)) ≡ 8 * old.room name + length (bytes_bits (old.file name))
  pub others : (other : List ℕ) → other ≢ name → SameAt old new other
  pub fresh_room : new.fresh_room ≡ old.fresh_room
  pub further : new.further ≡ old.further
  pub lent : new.lent ≡ old.lent
  pub steady : IsTrue old.tells → IsTrue old.steady → IsTrue (old.fresh name) → length bits ≤ 8 * old.room name → IsOk result × IsTrue new.steady
  pub cause : HasCause old.faults new.faults result
  pub emptied : OnOk result (after.live ≡ [])
  pub cells_stay : cells after ≡ cells before
