use Rattle.std.proofs.Common.{refl}
use Rattle.serving.specs.Protocols.{snpp}
use Rattle.station.proofs.SettingsRuns.{station_row}
use Rattle.station.proofs.settings_runs.run_snpp.Goals as goal

pub returns : goal.returns
returns g c =
    station_row snpp c.args.line.now.address.now c.args.line.now.settings.now c.args.line.now.air.now c.args.line.now.count
    (record { wire = g.W.Wire.state c.args.wire.now; shelf = g.F.Shelf.state c.args.shelf.now; out = g.O.Sink.state c.args.out.now })
    (record { wire = g.W.Wire.state c.serve_snpp.new.wire; shelf = g.F.Shelf.state c.serve_snpp.new.shelf; out = g.O.Sink.state c.serve_snpp.new.out })
    c.in-Ok.station.settings c.in-Ok.station.settings (g.F.Shelf.state c.open_station.new.shelf) c.in-Ok.station.settings.cells c.serve_snpp.result refl refl
    c.in-Ok.ensures c.serve_snpp.ensures.serves.2.served
