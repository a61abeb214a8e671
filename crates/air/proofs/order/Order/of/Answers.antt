use Rattle.std.proofs.Common.{◌≡◌, ◌≢◌, [], IsTrue, Bool, false, refl}
use Rattle.page_pool.specs.Pool.{pages}
use Rattle.scheduler.specs.Sendings.{slots_to_come}
use Rattle.air.proofs.WithSync.{are_few, are_words, words-begin}
use Rattle.air.proofs.order.Order.of.Goals as goal

-- a test that fails
not_true : {b : Bool} → b ≡ false → IsTrue b → ⊥
not_true e h = cc

pub is_done-requires : goal.is_done-requires
is_done-requires c = c.begin-sending.ensures.follows c.args.pool.now

pub returns-then-is_done-clause-follows : goal.returns-then-is_done-clause-follows
returns-then-is_done-clause-follows c = c.begin-sending.ensures.follows c.args.pool.now

pub returns-else-is_done-clause-follows : goal.returns-else-is_done-clause-follows
returns-else-is_done-clause-follows c = c.begin-sending.ensures.follows c.args.pool.now

pub returns-else-is_done-clause-words : goal.returns-else-is_done-clause-words
returns-else-is_done-clause-words c =
    let o = c.begin-sending.ensures in
    let some : pages c.args.pool.now ≢ [] = λ none. not_true c.if-is_done.false (c.is_done.ensures.end.1 (o.none c.args.pool.now none)) in
    are_words (pages c.args.pool.now) (slots_to_come c.args.pool.now c.begin-sending.result.place c.begin-sending.result.before) _ some (o.slots c.args.pool.now some)
    (words-begin (pages c.args.pool.now) _ _ refl some (o.slots c.args.pool.now some))

pub returns-else-is_done-clause-few : goal.returns-else-is_done-clause-few
returns-else-is_done-clause-few c = λ some.
    let o = c.begin-sending.ensures in
    are_few (pages c.args.pool.now) (slots_to_come c.args.pool.now c.begin-sending.result.place c.begin-sending.result.before) _ some (o.slots c.args.pool.now some)
    (words-begin (pages c.args.pool.now) _ _ refl some (o.slots c.args.pool.now some))
