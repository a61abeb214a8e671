use Rattle.std.proofs.Common.{ap, arith}
use Rattle.std.proofs.lemmas.Grind.{common_steps}
use Rattle.listening.specs.HeardFile.{HearsFile}
use Rattle.listening.specs.PageLines.{group_lines}
use Rattle.listening.proofs.HeardFiles.{hears_file}
use Rattle.listening.proofs.hearing.play_file.Goals as goal

pub returns : goal.returns
returns g c =
    let h : HearsFile (group_lines c.args.group.now) c.args.name.now (g.F.Shelf.state c.args.shelf.now) (g.F.Shelf.state c.play.new.bits.shelf.now) (g.O.Sink.state c.args.out.now) (g.O.Sink.state c.play.new.out) c.play.result
    = hears_file (group_lines c.args.group.now) _ _ c.args.name.now _ _ _ _ _ _ (g.F.Shelf.state c.args.shelf.now) (g.F.Shelf.state c.over-bits.result.shelf.now) (g.F.Shelf.state c.play.new.bits.shelf.now)
    (g.O.Sink.state c.args.out.now) (g.O.Sink.state c.play.new.out) c.play.result
    c.over-bits.ensures.ready c.over-bits.ensures.from c.over-bits.ensures.name (ap g.F.Shelf.state c.over-bits.ensures.same) c.play.ensures.listens in
    grind (arith, common_steps, h)
