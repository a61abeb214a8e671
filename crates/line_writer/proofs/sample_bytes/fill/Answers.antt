use Rattle.std.proofs.Common.{length, length-append, take, ap, arith}
use Rattle.std.proofs.lemmas.List.{length-take-le}
use Rattle.bits.specs.Bits.{bytes_bits}
use Rattle.bits.proofs.Lengths.{length-bytes_bits}
use Rattle.line_writer.proofs.sample_bytes.fill.Goals as goal

pub fill_some-at-requires-clause-enough : goal.fill_some-at-requires-clause-enough
fill_some-at-requires-clause-enough g c =
    let front = take c.loop-at.at c.loop-at.into in
    let v = c.loop-at.invariant in
    omega (arith, c.requires.enough, ap length v.takes, length-append (bytes_bits front) (g.B.BitSource.state c.loop-at.samples).left, length-bytes_bits front, length-take-le c.loop-at.at c.loop-at.into v.within, v.within, c.loop-at.auto.into)
