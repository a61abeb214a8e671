use Rattle.listening.specs.PageLines.{group_lines, play_lines}
use Rattle.listening.proofs.PlayedFiles.{plays_samples_same}
use Rattle.station.proofs.top.play_sampled.Goals as goal

pub returns-in-Ok : goal.returns-in-Ok
returns-in-Ok g c =
    plays_samples_same (group_lines c.in-Ok.group) (play_lines c.args.receivers.now) c.args.line.now (g.F.Shelf.state c.args.shelf.now) (g.F.Shelf.state c.play_samples.new.shelf) (g.O.Sink.state c.args.out.now)
    (g.O.Sink.state c.play_samples.new.out) c.play_samples.result c.in-Ok.ensures.prints c.play_samples.ensures
