use Rattle.std.proofs.Common.{◌≡◌, ◌+◌, ◌-◌, ◌*◌, ◌/◌, ◌%◌, ◌<◌, ◌∙◌, ap, sym, arith, length, get_or}
use Rattle.page_pool.specs.Cells.{cells_for}
use Rattle.page_pool.specs.Chain.{cell_behind}
use Rattle.page_pool.specs.Layout.{link_of, cells_from, byte_at, text_in_cells}
use Rattle.page_pool.proofs.Chains.{get_or-walk}
use Rattle.page_pool.proofs.Texts.{step_in, cells_for-enough, read_more, text_is, cell_next, cell_stays, cell_starts}
use Rattle.page_pool.proofs.cells.read_text.Goals as goal
use Rattle.page_pool.proofs.cells.read_text.Goals.{then-i-gt0+then-i-eq0, else-i-gt0, else-i-gt0-via-then-i-gt0+else-i-eq0, else-i-gt0-via-else-i-gt0}

pub bounds-links-cell : goal.bounds-links-cell
bounds-links-cell c =
    let h : c.loop-i.i < length c.args.into.now = omega (arith, c.loop-i-test.true, c.loop-i.auto.into) in
    let k : (c.loop-i.i - 1) / 32 < cells_for (length c.args.into.now) = omega (arith, cells_for-enough (length c.args.into.now) c.loop-i.i h) in
    rw c.loop-i.invariant.cell (c.requires.cells _ (step_in _ _ _ _ k))

pub bounds-bytes-cell : goal.bounds-bytes-cell
bounds-bytes-cell c =
    let f = link_of c.args.links.now in
    let cell : c.if-i-gt0.cell ≡ cell_behind f (c.loop-i.i / 32) c.args.from = elim c.if-i-gt0.branch [
      | then-i-gt0+then-i-eq0 w ↦ cell_next f c.args.from c.loop-i.i c.loop-i.cell _ c.loop-i.invariant.cell w.if-i-gt0.true w.if-i-eq0.true w.cell-is
      | else-i-gt0 w ↦ elim w.else-i-gt0.branch [
        | else-i-gt0-via-then-i-gt0+else-i-eq0 v ↦ cell_stays f c.args.from c.loop-i.i c.loop-i.cell _ c.loop-i.invariant.cell v.if-i-eq0.false w.cell-is
        | else-i-gt0-via-else-i-gt0 v ↦ cell_starts f c.args.from c.loop-i.i c.loop-i.cell _ c.loop-i.invariant.cell v.if-i-gt0.false w.cell-is
      ]
    ] in
    let h : c.loop-i.i < length c.args.into.now = omega (arith, c.loop-i-test.true, c.loop-i.auto.into) in
    let k : c.loop-i.i / 32 < cells_for (length c.args.into.now) = cells_for-enough (length c.args.into.now) c.loop-i.i h in
    let b : c.if-i-gt0.cell < length c.args.links.now = rw cell (c.requires.cells _ (step_in f _ c.args.from _ k)) in
    omega (arith, b, c.requires.room)

pub loop-i-preserved : goal.loop-i-preserved
loop-i-preserved c =
    let f = link_of c.args.links.now in
    let cell : c.if-i-gt0.cell ≡ cell_behind f (c.loop-i.i / 32) c.args.from = elim c.if-i-gt0.branch [
      | then-i-gt0+then-i-eq0 w ↦ cell_next f c.args.from c.loop-i.i c.loop-i.cell _ c.loop-i.invariant.cell w.if-i-gt0.true w.if-i-eq0.true w.cell-is
      | else-i-gt0 w ↦ elim w.else-i-gt0.branch [
        | else-i-gt0-via-then-i-gt0+else-i-eq0 v ↦ cell_stays f c.args.from c.loop-i.i c.loop-i.cell _ c.loop-i.invariant.cell v.if-i-eq0.false w.cell-is
        | else-i-gt0-via-else-i-gt0 v ↦ cell_starts f c.args.from c.loop-i.i c.loop-i.cell _ c.loop-i.invariant.cell v.if-i-gt0.false w.cell-is
      ]
    ] in
    let cells = cells_from c.args.links.now c.args.from (length c.args.into.now) in
    let h : c.loop-i.i < length c.args.into.now = omega (arith, c.loop-i-test.true, c.loop-i.auto.into) in
    let k : c.loop-i.i / 32 < cells_for (length c.args.into.now) = cells_for-enough (length c.args.into.now) c.loop-i.i h in
    let at : get_or c.args.bytes.now (32 * c.if-i-gt0.cell + c.loop-i.i % 32) 0 ≡ byte_at c.args.bytes.now cells c.loop-i.i =
    ap (λ z. get_or c.args.bytes.now (32 * z + c.loop-i.i % 32) 0) (cell ∙ sym (get_or-walk f (cells_for (length c.args.into.now)) c.args.from (c.loop-i.i / 32) 0 k)) in
    record {
      cell = cell ∙ ap (λ n. cell_behind f (n / 32) c.args.from) (let e : c.loop-i.i ≡ c.loop-i.i + 1 - 1 = omega arith in e);
      read = read_more c.loop-i.into (byte_at c.args.bytes.now cells) c.loop-i.i _ (omega (arith, h, c.loop-i.auto.into)) at c.loop-i.invariant.read;
    }

pub returns : goal.returns
returns c =
    let cells = cells_from c.args.links.now c.args.from (length c.args.into.now) in
    sym (ap (text_in_cells c.args.bytes.now cells) (sym c.loop-i.auto.into)
    ∙ text_is c.args.bytes.now cells c.loop-i.into (λ k h. sym (c.loop-i.invariant.read k (omega (arith, c.loop-i-test.false, c.loop-i.auto.into, h)))))
