use Rattle.std.proofs.Common.{ℕ, subst, ◌∙◌}
use Rattle.serving.specs.Leaves.{Serves}
use Rattle.serving.specs.Protocols.{snpp}
use Rattle.serving.specs.StationState.{StationState}
use Rattle.serving.proofs.session.Station.serve_snpp.Goals as goal

pub returns-clause-serves : goal.returns-clause-serves
returns-clause-serves g c = (
  c.new.result,
  c.serve_on.new.entry,
  subst (λ (h : StationState). Serves snpp h.settings h.settings.cells
      (record { wire = g.W.Wire.state c.args.wire.now; shelf = g.F.Shelf.state c.args.shelf.now; out = g.O.Sink.state c.args.out.now })
      (record { wire = g.W.Wire.state c.serve_on.new.wire; shelf = g.F.Shelf.state c.serve_on.new.shelf; out = g.O.Sink.state c.serve_on.new.out })
      c.args.address.now c.args.air.now c.args.count c.new.result c.serve_on.new.pool c.serve_on.new.entry c.serve_on.result) c.self.view_is
      (subst (λ (n : ℕ). Serves snpp c.self.inside.settings n
      (record { wire = g.W.Wire.state c.args.wire.now; shelf = g.F.Shelf.state c.args.shelf.now; out = g.O.Sink.state c.args.out.now })
      (record { wire = g.W.Wire.state c.serve_on.new.wire; shelf = g.F.Shelf.state c.serve_on.new.shelf; out = g.O.Sink.state c.serve_on.new.out })
      c.args.address.now c.args.air.now c.args.count c.new.result c.serve_on.new.pool c.serve_on.new.entry c.serve_on.result)
      (c.clear.ensures.spare ∙ c.self.invariant.cells_are) c.serve_on.ensures.serves),
)
