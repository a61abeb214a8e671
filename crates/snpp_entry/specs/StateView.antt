-- What the fields of an Snpp stand for.
use Rattle.std.specs.Prelude.{◌*◌, ◌≤◌}
use Rattle.snpp_entry.specs.declared.snpp.Snpp.TheInside.{Inside}
use Rattle.snpp_entry.specs.Seen.{pending_of}
use Rattle.snpp_entry.specs.State.{SnppState}

-- the fields of an Snpp
abbrev pub snpp_state_of : Inside → SnppState
snpp_state_of t = record { pending = pending_of t.pending; kept = t.kept; count = t.count; heard = t.heard; report = t.report; over = t.over }

-- each line has at least one character, and queues at most 16 pages
pub record SnppIsInRange (t : Inside) : Type 0 where
  pub heard_bound : t.heard ≤ 999999
  pub count_bound : t.count ≤ 1102
  pub pages_bound : t.report.pages ≤ 16 * t.heard
  pub refused_bound : t.report.refused ≤ t.heard
