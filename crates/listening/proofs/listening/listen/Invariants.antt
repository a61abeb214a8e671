use Rattle.std.proofs.Common.{◌≡◌}
use Rattle.listening.specs.Listening.{ListeningTo}
use Rattle.listening.proofs.listening.listen.Given as goal

abbrev pub invariant-loop-to_come : goal.invariant-loop-to_come
invariant-loop-to_come g l = record {
  same : g.P.Listener.printed l.listener ≡ g.P.Listener.printed l.fn.listener;
  so_far : (h : ListeningTo (g.P.Listener.printed l.fn.listener) (g.B.BitSource.state l.fn.bits) (g.B.BitSource.state l.bits) (g.O.Sink.state l.fn.out) (g.O.Sink.state l.out) l.to_come)
      × g.P.Listener.fed l.listener h.bits;
}

abbrev pub decreases-loop-to_come : goal.decreases-loop-to_come
decreases-loop-to_come g l = l.to_come
