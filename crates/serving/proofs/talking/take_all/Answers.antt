use Rattle.std.proofs.Common.{ℕ, List, drop, subst, drop-cons, add-one, ◌<◌, length, suc}
use Rattle.serving.specs.Sessions.{SessionUnderWay}
use Rattle.serving.proofs.talking.take_all.Goals as goal

pub loop-byte-preserved : goal.loop-byte-preserved
loop-byte-preserved g c = λ spare first before heard u.
    let lt : c.loop-byte.byte-index < length c.args.bytes.now = c.loop-byte-test.true in
    let v = c.loop-byte.invariant spare first before heard u in
    let w = subst (λ (z : List ℕ). SessionUnderWay g.E.EntryLine.protocol c.args.settings.now spare first (g.W.Wire.state c.loop-byte.wire) before c.loop-byte.pool (g.E.EntryLine.state c.loop-byte.entry) heard z) (drop-cons c.args.bytes.now c.loop-byte.byte-index 0 lt) v in
    rw add-one (c.in_default.ensures spare first before heard (drop (suc c.loop-byte.byte-index) c.args.bytes.now) w)

pub returns-in-Some : goal.returns-in-Some
returns-in-Some g c = λ spare first before heard u.
    let lt : c.loop-byte.byte-index < length c.args.bytes.now = c.loop-byte-test.true in
    let v = c.loop-byte.invariant spare first before heard u in
    let w = subst (λ (z : List ℕ). SessionUnderWay g.E.EntryLine.protocol c.args.settings.now spare first (g.W.Wire.state c.loop-byte.wire) before c.loop-byte.pool (g.E.EntryLine.state c.loop-byte.entry) heard z) (drop-cons c.args.bytes.now c.loop-byte.byte-index 0 lt) v in
    c.in-Some.ensures spare first before heard (drop (suc c.loop-byte.byte-index) c.args.bytes.now) w
