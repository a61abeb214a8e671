use Rattle.std.proofs.Common.{refl, ◌∙◌}
use Rattle.wires.proofs.Pieces.{none_left}
use Rattle.sampler.proofs.Reading.{gives_none, then_piece}
use Rattle.sampler.proofs.progress.Progress.piece.Goals as goal

pub returns : goal.returns
returns g c =
    let f = c.in_ok-fill.ensures in
    then_piece c.args.most _ _ _ _ c.loop-self.invariant (gives_none c.args.most _ _ c.fill.new.self.counter.ready c.of.result _ (f.none c.if-branch.false) (c.of.ensures ∙ none_left 0 0 refl) f.fills)
