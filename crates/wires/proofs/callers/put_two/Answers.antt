use Rattle.wires.proofs.Written.{Puts-then}
use Rattle.wires.proofs.callers.put_two.Goals as goal

pub returns : goal.returns
returns g c =
    Puts-then (g.K.Sink.state c.args.sink.now) (g.K.Sink.state c.put.new.self) (g.K.Sink.state c.put-2.new.self) c.args.first.now c.args.second.now c.in_ok-put.field-0 c.put-2.result c.in_ok-put.ensures c.put-2.ensures
