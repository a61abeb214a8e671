use Rattle.std.proofs.Common.{◌≡◌, ◌+◌, ◌++◌, ◌∙◌, length, length-append, take, sym, ap, arith, ℕ, List}
use Rattle.std.proofs.Math.Seq.{take-append-add}
use Rattle.wires.specs.declared.Failed.{Failed}
use Rattle.line_writer.proofs.Reading.{read_goes_on}
use Rattle.line_writer.proofs.writing.read_whole.Goals as goal

pub loop-count-preserved : goal.loop-count-preserved
loop-count-preserved g c =
    let h = c.split_at_mut-rest.ensures in
    let front = c.split_at_mut-rest.result.0.now in
    let rest = c.read.new.into in
    let n = c.in-Ok.n in
    let v = c.loop-count.invariant in
    let place : c.loop-count.count ≡ length (take c.loop-count.count c.loop-count.into) = sym h.front_len ∙ ap length h.front in
    let more : take (c.loop-count.count + n) (front ++ rest) ≡ take c.loop-count.count c.loop-count.into ++ take n rest =
    ap (λ (k : ℕ). take (k + n) (front ++ rest)) (sym h.front_len) ∙ (take-append-add front rest n ∙ ap (λ (xs : List ℕ). xs ++ take n rest) h.front) in
    record {
      few = omega (arith, length-append front rest, h.front_len, c.in-Ok.ensures.within);
      so_far = read_goes_on {E = Failed} c.args.name.now (g.F.Shelf.state c.args.shelf.now) (g.F.Shelf.state c.loop-count.shelf) (g.F.Shelf.state c.read.new.self) (take c.loop-count.count c.loop-count.into) rest
          (take (c.loop-count.count + n) (front ++ rest)) c.loop-count.count n v.so_far c.in-Ok.ensures place more;
    }
