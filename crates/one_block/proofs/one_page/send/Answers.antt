use Rattle.page_pool.specs.Pool.{pages}
use Rattle.one_block.proofs.Sendings.{page_sends}
use Rattle.one_block.proofs.one_page.send.Goals as goal

pub returns : goal.returns
returns g c = λ page is.
    page_sends g.O.Sink.state (pages c.args.pool.now) page _ _ _ c.args.out.now c.over-words.result.sink.now c.transmit.new.sink.sink.now _ c.transmit.result
    is c.over-words.ensures.same c.over-words.ensures.same_reference (assumption) c.transmit.ensures.sends
