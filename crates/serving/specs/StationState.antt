-- What a station is seen as.
use Rattle.std.specs.Coded.{Coded, code_by, coded×}
use Rattle.std.specs.Prelude.{◌≡◌, refl}
use Rattle.page_pool.specs.Pool.{Pool, cells}
use Rattle.page_pool.specs.contracts.pool.Pool as a_pool
use Rattle.subscribers.specs.Parts.{Parts, parts_code}
use Rattle.tap_terminal.specs.State.{TerminalState}
use Rattle.tap_terminal.specs.contracts.terminal.Terminal as a_terminal
use Rattle.serving.specs.declared.session.Station.TheInside.{Inside}

-- the settings, the terminal of its sessions, and the pool of its pages
pub record StationState : Type 0 where
  pub settings : Parts
  pub desk : TerminalState
  pub pool : Pool

-- the state of a station is stored as the triple of its fields
abbrev pub station_state_code : Coded StationState
station_state_code =
    code_by (Parts × (TerminalState × Pool)) (coded× parts_code (coded× a_terminal.the_row.coded a_pool.the_row.coded))
    (λ h. (h.settings, (h.desk, h.pool))) (λ t. record { settings = t.0; desk = t.1.0; pool = t.1.1 }) (λ _. refl)

-- the fields of a station
abbrev pub station_state_of : Inside → StationState
station_state_of s = record { settings = s.settings; desk = s.terminal; pool = s.pool }

-- The pool has the cells of the settings: those in use and the spare ones add up to as many.
pub record IsReady (s : Inside) : Type 0 where
  pub cells_are : cells s.pool ≡ s.settings.cells
