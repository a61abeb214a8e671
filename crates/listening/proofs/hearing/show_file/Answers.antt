use Rattle.std.proofs.Common.{ap, arith}
use Rattle.std.proofs.lemmas.Grind.{common_steps}
use Rattle.listening.specs.HeardFile.{HearsFile}
use Rattle.listening.specs.Table.{table_of}
use Rattle.listening.proofs.HeardFiles.{hears_file}
use Rattle.listening.proofs.hearing.show_file.Goals as goal

pub returns : goal.returns
returns g c =
    let h : HearsFile table_of c.args.name.now (g.F.Shelf.state c.args.shelf.now) (g.F.Shelf.state c.show.new.bits.shelf.now) (g.O.Sink.state c.args.out.now) (g.O.Sink.state c.show.new.out) c.show.result
    = hears_file table_of _ _ c.args.name.now _ _ _ _ _ _ (g.F.Shelf.state c.args.shelf.now) (g.F.Shelf.state c.over-bits.result.shelf.now) (g.F.Shelf.state c.show.new.bits.shelf.now)
    (g.O.Sink.state c.args.out.now) (g.O.Sink.state c.show.new.out) c.show.result
    c.over-bits.ensures.ready c.over-bits.ensures.from c.over-bits.ensures.name (ap g.F.Shelf.state c.over-bits.ensures.same) c.show.ensures.listens in
    grind (arith, common_steps, h)
