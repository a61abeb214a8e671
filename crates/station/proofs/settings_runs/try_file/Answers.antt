use Rattle.std.proofs.Common.{ap, rules}
use Rattle.station.specs.StationRows.{TriesFile}
use Rattle.station.proofs.SettingsRuns.{tries_file}
use Rattle.station.proofs.settings_runs.try_file.Goals as goal

pub returns : goal.returns
returns g c =
    let h : TriesFile (g.H.Hearing.times c.args.hearing.now) c.args.station.now.settings c.args.station.now.settings.cells (g.H.Hearing.prints c.args.hearing.now) c.args.noise.now (g.I.Source.state c.args.input.now)
    (g.I.Source.state c.trial.new.input) (g.F.Shelf.state c.args.shelf.now) (g.F.Shelf.state c.trial.new.noise.shelf.now) (g.O.Sink.state c.args.out.now) (g.O.Sink.state c.trial.new.out) c.trial.result
    = tries_file (g.H.Hearing.times c.args.hearing.now) _ _ (g.H.Hearing.prints c.args.hearing.now) _ _ c.args.noise.now _ _ _ _ _ _ _ _ (g.F.Shelf.state c.args.shelf.now) (g.F.Shelf.state c.over-bits.result.shelf.now)
    (g.F.Shelf.state c.trial.new.noise.shelf.now) (g.O.Sink.state c.args.out.now) (g.O.Sink.state c.trial.new.out) c.trial.result
    c.over-bits.ensures.ready c.over-bits.ensures.from c.over-bits.ensures.name (ap g.F.Shelf.state c.over-bits.ensures.same) c.trial.ensures.tries.tries in
    search (rules, h)
