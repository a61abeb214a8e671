use Rattle.std.proofs.Common.{ap}
use Rattle.subscribers.specs.Parts.{Parts}
use Rattle.listening.specs.TwinLines.{twin_group_lines}
use Rattle.listening.proofs.HeardFronts.{twin_group_lines-grow, twin_group_lines-none}
use Rattle.serving.specs.Sent.{twice}
use Rattle.station.proofs.SettingsRuns.{trial_row}
use Rattle.station.proofs.settings_runs.run_twice.Goals as goal

pub returns : goal.returns
returns g c =
    trial_row twice c.args.settings.now c.args.noise.now c.args.receivers.now (g.I.Source.state c.args.input.now) (g.I.Source.state c.try_file.new.input) (g.F.Shelf.state c.args.shelf.now)
    (g.F.Shelf.state c.try_file.new.shelf) (g.O.Sink.state c.args.out.now) (g.O.Sink.state c.try_file.new.out) c.in-Ok.settings c.in-Ok-new.station.settings (g.F.Shelf.state c.read_settings.new.shelf) _
    (twin_group_lines c.in-Ok-sent_twice_to.hearing.group) c.try_file.result c.in-Ok-new.ensures.settings
    (ap (λ (p : Parts). p.cells) c.in-Ok-new.ensures.settings)
    c.in-Ok-sent_twice_to.ensures.prints
    c.in-Ok.ensures c.try_file.ensures

pub try_file-requires-clause-silent : goal.try_file-requires-clause-silent
try_file-requires-clause-silent g c = twin_group_lines-none c.in-Ok-sent_twice_to.hearing.group

pub try_file-requires-clause-grows : goal.try_file-requires-clause-grows
try_file-requires-clause-grows g c = twin_group_lines-grow c.in-Ok-sent_twice_to.hearing.group
