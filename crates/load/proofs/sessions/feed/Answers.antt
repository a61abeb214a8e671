use Rattle.std.proofs.Common.{◌++◌, append-nil, take, subst, sym}
use Rattle.std.proofs.lemmas.List.{take_all}
use Rattle.tap_block.specs.Chars.{characters}
use Rattle.load.specs.Feeding.{IsFed}
use Rattle.load.proofs.Fed.{fed-more, characters-more}
use Rattle.load.proofs.sessions.feed.Goals as goal

pub loop-byte-init : goal.loop-byte-init
loop-byte-init c = λ spare x fed. subst (IsFed c.args.settings.now spare c.args.terminal.now c.args.pool.now) (sym (append-nil x)) fed

pub loop-byte-preserved : goal.loop-byte-preserved
loop-byte-preserved c = λ spare x fed.
    let settings = c.args.settings.now in
    let so_far = c.loop-byte.invariant spare x fed in
    subst (IsFed settings spare c.feed.new.self c.feed.new.pool) (characters-more x c.args.bytes.now c.loop-byte.byte-index c.loop-byte-test.true)
    (fed-more settings spare c.loop-byte.terminal c.feed.new.self c.loop-byte.pool c.feed.new.pool (x ++ characters (take c.loop-byte.byte-index c.args.bytes.now)) _ c.feed.result so_far
    (λ session stands. c.feed.ensures.hears settings.password spare (x ++ characters (take c.loop-byte.byte-index c.args.bytes.now)) session stands))

pub returns : goal.returns
returns c = λ spare x fed.
    subst (λ l. IsFed c.args.settings.now spare c.loop-byte.terminal c.loop-byte.pool (x ++ characters l)) (take_all c.loop-byte.byte-index c.args.bytes.now c.loop-byte-test.false) (c.loop-byte.invariant spare x fed)
