use Rattle.bch31.proofs.Turns.{fix_from_search, search_from_fix, some_map}
use Rattle.bch31.proofs.twin.searched.Goals as goal

pub returns-clause-some : goal.returns-clause-some
returns-clause-some c = some_map c.search.result (λ v h. fix_from_search c.args.w v c.ranges.w.fits h) c.search.ensures.some

pub returns-clause-none : goal.returns-clause-none
returns-clause-none c n v f = c.search.ensures.none n v (search_from_fix c.args.w v c.ranges.w.fits f)
