use Rattle.std.proofs.Common.{subst, sym}
use Rattle.station.specs.SendRows.{SendRow}
use Rattle.station.proofs.PagesRead.{read_pages, refused_row, sent_row}
use Rattle.station.proofs.pages_runs.run_send.Goals as goal

pub returns-in-Ok-read : goal.returns-in-Ok-read
returns-in-Ok-read g c = sent_row c.args.address.now c.args.pages.now _ _ _ c.send.result
    (read_pages c.args.pages.now _ _ c.in-Ok.bytes.items c.deref.result.now _ c.deref.ensures.value c.in-Ok.ensures c.in-Ok-read.ensures.file) c.send.ensures

pub returns : goal.returns
returns g c =
    subst (SendRow c.args.address.now c.args.pages.now
    (record { wire = g.W.Wire.state c.args.wire.now; shelf = g.F.Shelf.state c.args.shelf.now; out = g.O.Sink.state c.args.out.now })
    (record { wire = g.W.Wire.state c.args.wire.now; shelf = g.F.Shelf.state c.read_file.new.shelf; out = g.O.Sink.state c.args.out.now })) (sym c.without_pages.ensures)
    (refused_row c.args.address.now c.args.pages.now _ _ _ _ c.in-Ok.bytes.items c.deref.result.now c.in-Err-read.fault c.deref.ensures.value c.in-Ok.ensures c.in-Err-read.ensures.refused)
