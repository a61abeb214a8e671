use Rattle.std.proofs.Common.{◌≡◌, ◌*◌, ◌++◌, ◌∙◌, ℕ, Bool, List, length, ap}
use Rattle.bits.specs.Bits.{bytes_bits}
use Rattle.bits.proofs.Lengths.{length-bytes_bits}
use Rattle.line_writer.specs.declared.memory.InMemory.{InMemory}
use Rattle.line_writer.proofs.SampleCount.{length-strayed}
use Rattle.line_writer.proofs.writing.append_samples.Goals as goal

pub append_bits-requires-clause-whole : goal.append_bits-requires-clause-whole
append_bits-requires-clause-whole g c =
    let source = c.over.result.source in
    let rest : source.rest.now ≡ c.args.bytes.now = ap (λ (s : InMemory). s.rest.now) c.over.ensures.source ∙ c.of.ensures in
    let bits : c.over.result.ready ++ bytes_bits source.rest.now ≡ bytes_bits c.args.bytes.now = ap (λ (xs : List Bool). xs ++ bytes_bits source.rest.now) c.over.ensures.ready ∙ ap bytes_bits rest in
    ap length c.over-samples.ensures.left
    ∙ (length-strayed (c.over.result.ready ++ bytes_bits source.rest.now) c.args.seed ∙ ap (λ (n : ℕ). 8 * n) (ap length bits ∙ length-bytes_bits c.args.bytes.now))
