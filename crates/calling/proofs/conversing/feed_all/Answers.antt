use Rattle.std.proofs.Common.{ℕ, List, drop, subst, drop-cons, add-one, ◌<◌, length, suc}
use Rattle.calling.specs.Conversations.{CallUnderWay}
use Rattle.calling.proofs.conversing.feed_all.Goals as goal

pub loop-byte-preserved : goal.loop-byte-preserved
loop-byte-preserved g c = λ first heard u.
    let lt : c.loop-byte.byte-index < length c.args.bytes.now = c.loop-byte-test.true in
    let w = subst (λ (z : List ℕ). CallUnderWay c.args.pages.now first (g.W.Wire.state c.loop-byte.wire) c.loop-byte.now c.loop-byte.left c.loop-byte.done.items heard z) (drop-cons c.args.bytes.now c.loop-byte.byte-index 0 lt) (c.loop-byte.invariant first heard u) in
    rw add-one (c.in-On.ensures first heard (drop (suc c.loop-byte.byte-index) c.args.bytes.now) w)

pub returns-in-Ends : goal.returns-in-Ends
returns-in-Ends g c = λ first heard u.
    let lt : c.loop-byte.byte-index < length c.args.bytes.now = c.loop-byte-test.true in
    let w = subst (λ (z : List ℕ). CallUnderWay c.args.pages.now first (g.W.Wire.state c.loop-byte.wire) c.loop-byte.now c.loop-byte.left c.loop-byte.done.items heard z) (drop-cons c.args.bytes.now c.loop-byte.byte-index 0 lt) (c.loop-byte.invariant first heard u) in
    c.in-Ends.ensures first heard (drop (suc c.loop-byte.byte-index) c.args.bytes.now) w
