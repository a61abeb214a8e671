use Rattle.std.proofs.Common.{ap, arith}
use Rattle.std.proofs.lemmas.Grind.{common_steps}
use Rattle.listening.specs.HeardLine.{HearsSamples}
use Rattle.listening.specs.PageLines.{group_lines}
use Rattle.listening.proofs.HeardSamples.{hears_samples}
use Rattle.listening.proofs.hearing.play_samples.Goals as goal

pub returns : goal.returns
returns g c =
    let h : HearsSamples (group_lines c.args.group.now) c.args.name.now (g.F.Shelf.state c.args.shelf.now) (g.F.Shelf.state c.play_sampled.new.samples.shelf.now) (g.O.Sink.state c.args.out.now) (g.O.Sink.state c.play_sampled.new.out) c.play_sampled.result
    = hears_samples (group_lines c.args.group.now) _ _ c.args.name.now _ _ _ _ _ _ (g.F.Shelf.state c.args.shelf.now) (g.F.Shelf.state c.over-samples.result.shelf.now) (g.F.Shelf.state c.play_sampled.new.samples.shelf.now) (g.O.Sink.state c.args.out.now) (g.O.Sink.state c.play_sampled.new.out) c.play_sampled.result
    c.over-samples.ensures.ready c.over-samples.ensures.from c.over-samples.ensures.name (ap g.F.Shelf.state c.over-samples.ensures.same) c.play_sampled.ensures in
    grind (arith, common_steps, h)
