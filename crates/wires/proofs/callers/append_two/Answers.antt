use Rattle.std.proofs.Common.{arith, ◌++◌}
use Rattle.std.proofs.lemmas.Grind.{common_steps}
use Rattle.wires.specs.Files.{AppendsTo}
use Rattle.wires.proofs.Below.{file_back}
use Rattle.wires.proofs.callers.append_two.Goals as goal

pub returns : goal.returns
returns g c =
    let k : AppendsTo (g.F.Shelf.state c.over-file.result.shelf.now) (g.F.Shelf.state c.put_two.new.sink.shelf.now) c.over-file.result.name.now (c.args.first.now ++ c.args.second.now) c.put_two.result =
    file_back c.put_two.new.sink.shelf.ghost_name c.over-file.result.shelf.ghost_name c.over-file.result.name.now c.put_two.new.sink.name.now (g.F.Shelf.state c.over-file.result.shelf.now) (g.F.Shelf.state c.put_two.new.sink.shelf.now)
    (c.args.first.now ++ c.args.second.now) c.put_two.result c.put_two.ensures in
    grind (arith, common_steps, k)
