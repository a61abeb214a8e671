use Rattle.std.proofs.Common.{arith}
use Rattle.sampler.proofs.Reading.{not_asked, reads}
use Rattle.sampler.proofs.progress.Progress.read.Goals as goal

pub returns-clause-fills : goal.returns-clause-fills
returns-clause-fills g c =
    let s = c.args.self.now in
    rw (c.reads.ensures, c.from-2.ensures, c.len.ensures.length)
    (reads _ s.counter s.limit s.further c.in_ok-samples.samples _ _ _ c.requires.none (not_asked s.further s.limit s.past c.requires.some) (omega (arith, c.min-most.ensures)) c.in_ok-samples.ensures)
