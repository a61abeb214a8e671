use Rattle.std.proofs.Common.{refl}
use Rattle.line_writer.proofs.Appending.{appending_fails, appending_goes_on}
use Rattle.line_writer.proofs.writing.append_bits.Goals as goal

pub returns-in-Err : goal.returns-in-Err
returns-in-Err g c =
    let e = c.in-Err.ensures in
    appending_fails c.args.shelf.ghost_name c.in-Err.field-0 _ c.args.name.now _ _ _ c.append_next.new.buffer c.loop-to_come.to_come _ _ _ refl c.loop-to_come.invariant.so_far e.takes e.are e.appends

pub loop-to_come-preserved : goal.loop-to_come-preserved
loop-to_come-preserved g c =
    let e = c.in_default.ensures in
    record {
      told = e.told;
      steady = e.steady;
      so_far = appending_goes_on c.args.shelf.ghost_name (tt {0}) c.args.name.now _ _ _ c.append_next.new.buffer c.loop-to_come.to_come _ _ _ c.loop-to_come.invariant.so_far e.takes e.are e.appends;
    }
