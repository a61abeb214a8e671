use Rattle.std.proofs.Common.{take, sym, subst, List, ℕ}
use Rattle.wires.specs.Left.{Took}
use Rattle.wires.proofs.Left.{Took-from_take, Took-then}
use Rattle.one_block.proofs.Fronts.{take-more, within-more}
use Rattle.one_block.proofs.one_page.read_front.Goals as goal

pub loop-count-preserved : goal.loop-count-preserved
loop-count-preserved g c =
    let taken = Took-then (g.I.Source.state c.args.input.now) (g.I.Source.state c.loop-count.input) (g.I.Source.state c.take.new.self)
    (take c.loop-count.count c.loop-count.into) (take c.in_ok-n.n c.take.new.into) c.loop-count.invariant.taken
    (Took-from_take (g.I.Source.state c.loop-count.input) (g.I.Source.state c.take.new.self) c.take.new.into c.in_ok-n.n c.in_ok-n.ensures) in
    record {
      taken = subst (λ (front : List ℕ). Took (g.I.Source.state c.args.input.now) (g.I.Source.state c.take.new.self) front)
          (sym (take-more c.loop-count.count c.in_ok-n.n c.loop-count.into c.take.new.into _ c.loop-count.invariant.within c.in_ok-n.ensures.within)) taken;
      within = within-more c.loop-count.count c.in_ok-n.n c.loop-count.into c.take.new.into _ c.loop-count.invariant.within c.in_ok-n.ensures.within;
    }
