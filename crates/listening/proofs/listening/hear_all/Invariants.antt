use Rattle.std.proofs.Common.{◌≡◌, length}
use Rattle.listening.proofs.Listens.{HeardOf}
use Rattle.listening.proofs.listening.hear_all.Given as goal

abbrev pub invariant-loop-rest : goal.invariant-loop-rest
invariant-loop-rest g l = record {
  same : g.P.Listener.printed l.listener ≡ g.P.Listener.printed l.fn.listener;
  heard : HeardOf (g.P.Listener.printed l.fn.listener) (g.P.Listener.fed l.fn.listener) (g.P.Listener.fed l.listener) l.fn.piece l.rest (g.O.Sink.state l.fn.out) (g.O.Sink.state l.out);
}

abbrev pub decreases-loop-rest : goal.decreases-loop-rest
decreases-loop-rest g l = length l.rest
