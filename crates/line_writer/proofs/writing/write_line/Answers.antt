use Rattle.std.proofs.Common.{◌≡◌, ◌∙◌, length, take}
use Rattle.std.proofs.lemmas.List.{take_at}
use Rattle.line_writer.proofs.LineWriting.{air_not_read, air_read, line_cut, line_not_fresh, line_written}
use Rattle.line_writer.proofs.writing.write_line.Goals as goal

pub returns-in-Err : goal.returns-in-Err
returns-in-Err g c = line_not_fresh c.args.air.now c.args.line.now c.args.seed (g.F.Shelf.state c.args.shelf.now) (g.F.Shelf.state c.fresh.new.self) c.in-Err.field-0 c.in-Err.ensures

pub returns-in-Err-read_whole : goal.returns-in-Err-read_whole
returns-in-Err-read_whole g c =
    air_not_read c.args.air.now c.args.line.now c.read_whole.new.into c.args.seed (g.F.Shelf.state c.args.shelf.now) (g.F.Shelf.state c.fresh.new.self) (g.F.Shelf.state c.read_whole.new.shelf)
    (tt {0}) c.in-Err-read_whole.status c.requires c.in_default-fresh.ensures (c.read_whole.auto.into ∙ (c.deref_mut.ensures.len ∙ c.in-Ok.ensures.len)) c.in-Err-read_whole.ensures

pub returns-in-Ok-append_samples : goal.returns-in-Ok-append_samples
returns-in-Ok-append_samples g c =
    let buffer = c.read_whole.new.into in
    let long : length buffer ≡ c.in-Ok.bytes.len = c.read_whole.auto.into ∙ c.deref_mut.ensures.len in
    let seen : c.deref.result.now ≡ buffer = c.deref.ensures.value ∙ take_at buffer _ c.in-Ok.bytes.len long in
    line_written c.args.air.now c.args.line.now (take c.in-Ok-read_whole.count c.deref.result.now) c.args.seed (g.F.Shelf.state c.args.shelf.now) (g.F.Shelf.state c.fresh.new.self) (g.F.Shelf.state c.read_whole.new.shelf) (g.F.Shelf.state c.append_samples.new.shelf)
    (tt {0}) (tt {0}) c.requires c.in_default-fresh.ensures
    (air_read c.args.air.now buffer c.deref.result.now c.in-Ok-read_whole.count (g.F.Shelf.state c.fresh.new.self) (g.F.Shelf.state c.read_whole.new.shelf) seen (long ∙ c.in-Ok.ensures.len) c.in-Ok-read_whole.ensures)
    c.in-Ok-append_samples.ensures

pub returns : goal.returns
returns g c =
    let buffer = c.read_whole.new.into in
    let long : length buffer ≡ c.in-Ok.bytes.len = c.read_whole.auto.into ∙ c.deref_mut.ensures.len in
    let seen : c.deref.result.now ≡ buffer = c.deref.ensures.value ∙ take_at buffer _ c.in-Ok.bytes.len long in
    line_cut c.args.air.now c.args.line.now (take c.in-Ok-read_whole.count c.deref.result.now) c.args.seed (g.F.Shelf.state c.args.shelf.now) (g.F.Shelf.state c.fresh.new.self) (g.F.Shelf.state c.read_whole.new.shelf) (g.F.Shelf.state c.append_samples.new.shelf)
    (tt {0}) c.in-Err-append_samples.field-0 c.requires c.in_default-fresh.ensures
    (air_read c.args.air.now buffer c.deref.result.now c.in-Ok-read_whole.count (g.F.Shelf.state c.fresh.new.self) (g.F.Shelf.state c.read_whole.new.shelf) seen (long ∙ c.in-Ok.ensures.len) c.in-Ok-read_whole.ensures)
    c.in-Err-append_samples.ensures
