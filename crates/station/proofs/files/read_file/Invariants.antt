use Rattle.std.proofs.Common.{◌≡◌, ◌≤◌, ◌<◌, ◌-◌, take, length, IsTrue}
use Rattle.station.specs.ReadFile.{Unharmed}
use Rattle.station.proofs.files.read_file.Given as goal

abbrev pub invariant-loop-piece : goal.invariant-loop-piece
invariant-loop-piece g l = record {
  unharmed : Unharmed l.name (g.F.Shelf.state l.fn.shelf) (g.F.Shelf.state l.shelf);
  there : IsTrue (g.F.Shelf.state l.fn.shelf).tells → 0 < length l.bytes.items → IsTrue ((g.F.Shelf.state l.fn.shelf).there l.name);
  bytes_are : IsTrue (g.F.Shelf.state l.fn.shelf).tells → l.bytes.items ≡ take (length l.bytes.items) ((g.F.Shelf.state l.fn.shelf).file l.name);
  few : length l.bytes.items ≤ 1048577;
}

abbrev pub decreases-loop-piece : goal.decreases-loop-piece
decreases-loop-piece g l = 1048577 - length l.bytes.items
