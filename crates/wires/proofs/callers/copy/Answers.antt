use Rattle.std.proofs.Common.{ℕ, List, ◌++◌, take, arith}
use Rattle.std.proofs.lemmas.Grind.{common_steps}
use Rattle.wires.proofs.Left.{Took-then, Took-from_take}
use Rattle.wires.proofs.Written.{Puts-then}
use Rattle.wires.proofs.callers.copy.Goals as goal

pub loop-preserved : goal.loop-preserved
loop-preserved g c =
    let i = c.loop.invariant in
    let n = c.in-Ok.n in
    let bytes : List ℕ = take n c.take.new.into in (
      i.0 ++ bytes,
      Took-then _ _ _ i.0 bytes i.1 (Took-from_take _ _ c.take.new.into n c.in-Ok.ensures),
      Puts-then _ _ _ i.0 bytes _ _ i.2 c.in-Ok-put.ensures,
      grind (arith, common_steps, c.in-Ok.ensures.within, i.3),
    )
