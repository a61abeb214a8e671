use Rattle.std.proofs.Common.{◌≡◌, ◌+◌, ◌-◌, ◌*◌, ◌/◌, ◌%◌, ◌<◌, ◌∙◌, ap, sym, subst, arith, length, get_or, refl}
use Rattle.page_pool.specs.Cells.{cells_for}
use Rattle.page_pool.specs.Chain.{cell_behind, walk}
use Rattle.page_pool.specs.Layout.{link_of}
use Rattle.page_pool.proofs.Chains.{get_or-walk, length-walk}
use Rattle.page_pool.proofs.Texts.{step_in, cells_for-enough, written_more, others_more, text_is, cell_next, cell_stays, cell_starts}
use Rattle.page_pool.proofs.cells.write_text.Goals as goal
use Rattle.page_pool.proofs.cells.write_text.Goals.{then-i-gt0+then-i-eq0, else-i-gt0, else-i-gt0-via-then-i-gt0+else-i-eq0, else-i-gt0-via-else-i-gt0}

pub bounds-links-cell : goal.bounds-links-cell
bounds-links-cell c =
    let k : (c.loop-i.i - 1) / 32 < cells_for (length c.args.chars.now) = omega (arith, cells_for-enough (length c.args.chars.now) c.loop-i.i c.loop-i-test.true) in
    rw c.loop-i.invariant.cell (c.requires.cells _ (step_in _ _ _ _ k))

pub bounds-bytes-cell : goal.bounds-bytes-cell
bounds-bytes-cell c =
    let f = link_of c.args.links.now in
    let cell : c.if-i-gt0.cell ≡ cell_behind f (c.loop-i.i / 32) c.args.from = elim c.if-i-gt0.branch [
      | then-i-gt0+then-i-eq0 w ↦ cell_next f c.args.from c.loop-i.i c.loop-i.cell _ c.loop-i.invariant.cell w.if-i-gt0.true w.if-i-eq0.true w.cell-is
      | else-i-gt0 w ↦ elim w.else-i-gt0.branch [
        | else-i-gt0-via-then-i-gt0+else-i-eq0 v ↦ cell_stays f c.args.from c.loop-i.i c.loop-i.cell _ c.loop-i.invariant.cell v.if-i-eq0.false w.cell-is
        | else-i-gt0-via-else-i-gt0 v ↦ cell_starts f c.args.from c.loop-i.i c.loop-i.cell _ c.loop-i.invariant.cell v.if-i-gt0.false w.cell-is
      ]
    ] in
    let k : c.loop-i.i / 32 < cells_for (length c.args.chars.now) = cells_for-enough (length c.args.chars.now) c.loop-i.i c.loop-i-test.true in
    let b : c.if-i-gt0.cell < length c.args.links.now = rw cell (c.requires.cells _ (step_in f _ c.args.from _ k)) in
    omega (arith, b, c.requires.room, c.loop-i.auto.bytes)

pub loop-i-preserved : goal.loop-i-preserved
loop-i-preserved c =
    let f = link_of c.args.links.now in
    let cell : c.if-i-gt0.cell ≡ cell_behind f (c.loop-i.i / 32) c.args.from = elim c.if-i-gt0.branch [
      | then-i-gt0+then-i-eq0 w ↦ cell_next f c.args.from c.loop-i.i c.loop-i.cell _ c.loop-i.invariant.cell w.if-i-gt0.true w.if-i-eq0.true w.cell-is
      | else-i-gt0 w ↦ elim w.else-i-gt0.branch [
        | else-i-gt0-via-then-i-gt0+else-i-eq0 v ↦ cell_stays f c.args.from c.loop-i.i c.loop-i.cell _ c.loop-i.invariant.cell v.if-i-eq0.false w.cell-is
        | else-i-gt0-via-else-i-gt0 v ↦ cell_starts f c.args.from c.loop-i.i c.loop-i.cell _ c.loop-i.invariant.cell v.if-i-gt0.false w.cell-is
      ]
    ] in
    let cells = walk f (cells_for (length c.args.chars.now)) c.args.from in
    let k : c.loop-i.i / 32 < cells_for (length c.args.chars.now) = cells_for-enough (length c.args.chars.now) c.loop-i.i c.loop-i-test.true in
    let b : c.if-i-gt0.cell < length c.args.links.now = rw cell (c.requires.cells _ (step_in f _ c.args.from _ k)) in
    let within : c.loop-i.i / 32 < length cells = subst (λ n. c.loop-i.i / 32 < n) (sym (length-walk f (cells_for (length c.args.chars.now)) c.args.from)) k in
    let at : 32 * c.if-i-gt0.cell + c.loop-i.i % 32 ≡ 32 * get_or cells (c.loop-i.i / 32) 0 + c.loop-i.i % 32 =
    ap (λ z. 32 * z + c.loop-i.i % 32) (cell ∙ sym (get_or-walk f (cells_for (length c.args.chars.now)) c.args.from (c.loop-i.i / 32) 0 k)) in
    let room : 32 * c.if-i-gt0.cell + c.loop-i.i % 32 < length c.loop-i.bytes = omega (arith, b, c.requires.room, c.loop-i.auto.bytes) in
    record {
      cell = cell ∙ ap (λ n. cell_behind f (n / 32) c.args.from) (let e : c.loop-i.i ≡ c.loop-i.i + 1 - 1 = omega arith in e);
      written = written_more c.loop-i.bytes cells c.args.chars.now c.loop-i.i _ _ c.requires.apart within at room refl c.loop-i.invariant.written;
      others = λ q none j h. others_more c.loop-i.bytes cells c.loop-i.i _ _ within at q none j h ∙ c.loop-i.invariant.others q none j h;
    }

pub returns-clause-written : goal.returns-clause-written
returns-clause-written c = text_is _ _ _ (λ k h. c.loop-i.invariant.written k (omega (arith, c.loop-i-test.false, h)))
