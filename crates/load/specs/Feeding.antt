-- A session that is fed to a terminal.
use Rattle.std.specs.Prelude.{◌≡◌, ℕ, List}
use Rattle.page_pool.specs.Pool.{Pool, pages}
use Rattle.subscribers.specs.Directory.{directory_of}
use Rattle.subscribers.specs.Parts.{Parts}
use Rattle.tap_terminal.specs.Session.{Session}
use Rattle.tap_terminal.specs.State.{Stands, TerminalState}

-- These characters were fed, before which so many cells were spare: the terminal stands for them, and the pool holds the pages of their
-- session.
pub record IsFed (settings : Parts) (spare : ℕ) (terminal : TerminalState) (pool : Pool) (x : List ℕ) : Type 0 where
  pub session : Session
  pub stands : Stands settings.password (directory_of settings) spare terminal x session pool.spare
  pub pages_are : pages pool ≡ session.pages
