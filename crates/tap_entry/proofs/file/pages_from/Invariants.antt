use Rattle.std.proofs.Common.{length}
use Rattle.tap_entry.specs.Seen.{seen_pages}
use Rattle.tap_entry.specs.Signs.{PagesUpTo}
use Rattle.tap_entry.proofs.file.pages_from.Given as goal

abbrev pub invariant-loop-rest : goal.invariant-loop-rest
invariant-loop-rest l = PagesUpTo l.fn.x (seen_pages l.pages.items) l.rest

abbrev pub decreases-loop-rest : goal.decreases-loop-rest
decreases-loop-rest l = length l.rest
