use Rattle.std.proofs.Common.{◌≡◌, ◌++◌, IsTrue, length}
use Rattle.wires.specs.Stacked.{noisy_bits}
use Rattle.listening.specs.Noise.{ListeningThrough}
use Rattle.listening.proofs.noise.listen_through.Given as goal

abbrev pub invariant-loop-piece : goal.invariant-loop-piece
invariant-loop-piece g l = record {
  same : g.P.Listener.printed l.listener ≡ g.P.Listener.printed l.fn.listener;
  tells : IsTrue (g.A.BitSource.state l.bits).tells;
  steady : IsTrue (g.A.BitSource.state l.bits).steady;
  lent : (g.A.BitSource.state l.bits).lent ≡ (g.A.BitSource.state l.fn.bits).lent;
  so_far : (h : ListeningThrough (g.P.Listener.printed l.fn.listener) (g.A.BitSource.state l.fn.bits).left (l.piece ++ (g.A.BitSource.state l.bits).left) l.ended
      (g.N.BitSource.state l.fn.noise) (g.N.BitSource.state l.noise) (g.O.Sink.state l.fn.out) (g.O.Sink.state l.out))
      × g.P.Listener.fed l.listener (noisy_bits h.heard h.noise);
}

abbrev pub decreases-loop-piece : goal.decreases-loop-piece
decreases-loop-piece g l = length (l.piece ++ (g.A.BitSource.state l.bits).left)
