use Rattle.listening.specs.PageLines.{group_lines, play_lines}
use Rattle.listening.proofs.PlayedFiles.{plays_same}
use Rattle.station.proofs.top.play_air.Goals as goal

pub returns-in-Ok : goal.returns-in-Ok
returns-in-Ok g c =
    plays_same (group_lines c.in-Ok.group) (play_lines c.args.receivers.now) c.args.air.now (g.F.Shelf.state c.args.shelf.now) (g.F.Shelf.state c.play_file.new.shelf) (g.O.Sink.state c.args.out.now)
    (g.O.Sink.state c.play_file.new.out) c.play_file.result c.in-Ok.ensures.prints c.play_file.ensures
