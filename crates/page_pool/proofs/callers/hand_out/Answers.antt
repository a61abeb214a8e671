use Rattle.page_pool.proofs.Laws.{first_live, first_taken}
use Rattle.page_pool.proofs.callers.hand_out.Goals as goal

pub capcode-capcode-requires : goal.capcode-capcode-requires
capcode-capcode-requires c = first_live _ _ _ c.in_ok-t.ensures.first

pub take-requires : goal.take-requires
take-requires c = first_live _ _ _ c.in_ok-t.ensures.first

pub returns : goal.returns
returns c = first_taken _ _ _ _ c.in_ok-t.ensures.sound c.in_ok-t.ensures.first c.take.ensures
