use Rattle.std.proofs.Common.{subst, sym}
use Rattle.station.specs.ReadFile.{HasNoSettings}
use Rattle.station.proofs.SettingsRead.{no_settings, read_settings}
use Rattle.station.proofs.files.read_settings.Goals as goal

pub returns-in-Ok-read : goal.returns-in-Ok-read
returns-in-Ok-read g c =
    read_settings c.args.name.now (g.F.Shelf.state c.args.shelf.now) (g.F.Shelf.state c.read_file.new.shelf) c.in-Ok.bytes.items c.deref.result.now c.in-Ok-read.settings
    c.deref.ensures.value c.in-Ok.ensures c.in-Ok-read.ensures

pub returns : goal.returns
returns g c =
    subst (HasNoSettings c.args.name.now (g.F.Shelf.state c.args.shelf.now) (g.F.Shelf.state c.read_file.new.shelf)) (sym c.without_settings.ensures)
    (no_settings c.args.name.now (g.F.Shelf.state c.args.shelf.now) (g.F.Shelf.state c.read_file.new.shelf) c.in-Ok.bytes.items c.deref.result.now c.in-Err-read.fault _
    c.deref.ensures.value c.in-Ok.ensures c.in-Err-read.is c.read.ensures)
