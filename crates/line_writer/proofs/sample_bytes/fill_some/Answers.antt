use Rattle.std.proofs.Common.{arith}
use Rattle.line_writer.proofs.SampleBytes.{four_more, four_more-bytes}
use Rattle.line_writer.proofs.sample_bytes.fill_some.Goals as goal

pub returns-clause-takes : goal.returns-clause-takes
returns-clause-takes g c =
    four_more (g.B.BitSource.state c.args.samples.now).left (g.B.BitSource.state c.next_samples-word.new.samples).left c.args.into.now c.args.at c.next_samples-word.result c.to_be_bytes.result
    (omega (arith, c.requires.within, c.if-into-at-lt-BYTES_AT_ONCE.false)) c.to_be_bytes.ensures c.next_samples-word.ensures.takes

pub returns-clause-are : goal.returns-clause-are
returns-clause-are g c = four_more-bytes c.args.into.now c.args.at c.next_samples-word.result c.to_be_bytes.result (omega (arith, c.requires.within, c.if-into-at-lt-BYTES_AT_ONCE.false)) c.to_be_bytes.ensures
