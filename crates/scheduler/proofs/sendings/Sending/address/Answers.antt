use Rattle.std.proofs.Common.{◌∙◌}
use Rattle.scheduler.proofs.Given.{first-live, short, gives-tone, gives-address}
use Rattle.scheduler.proofs.sendings.Sending.address.Goals as goal
use Rattle.scheduler.proofs.sendings.Sending.address.Goals.{then-word_count-eq0, else-word_count-eq0}

pub capcode-capcode-requires : goal.capcode-capcode-requires
capcode-capcode-requires c = first-live _ _ _ c.requires.first

pub function-function-requires : goal.function-function-requires
function-function-requires c = first-live _ _ _ c.requires.first

pub length-requires : goal.length-requires
length-requires c = first-live _ _ _ c.requires.first

pub end-requires-clause-live : goal.end-requires-clause-live
end-requires-clause-live c = first-live _ _ _ c.requires.first

pub copy_text-self-requires-clause-live : goal.copy_text-self-requires-clause-live
copy_text-self-requires-clause-live c = first-live _ _ _ c.requires.first

pub word_count-requires : goal.word_count-requires
word_count-requires c = short c.args.pool.now _ _ _ c.requires.sound c.requires.first c.length.ensures

pub returns-clause-gives : goal.returns-clause-gives
returns-clause-gives c =
    elim c.if-word_count-eq0.branch [
      | then-word_count-eq0 w ↦ rw (w.self-is, w.pool-is)
          (gives-tone c.args.pool.now c.args.t _ _ c.args.self.now w.end.new.self c.args.frame c.requires.follows c.requires.between c.requires.frame
          c.requires.sound c.requires.first c.capcode-capcode.ensures c.function-function.ensures w.end.ensures.place w.end.new.pool _ _ c.length.ensures
          c.word_count.ensures.groups w.if-word_count-eq0.true w.end.ensures.takes w.end.ensures.length w.end.ensures.before)
      | else-word_count-eq0 w ↦ rw (w.self-is, w.pool-is)
          (gives-address c.args.pool.now c.args.t _ _ c.args.self.now w.pass.new.self c.args.frame c.requires.follows c.requires.between
          c.requires.frame c.requires.sound c.requires.first c.capcode-capcode.ensures c.function-function.ensures w.pass.ensures.place _ _ c.length.ensures
          c.word_count.ensures.groups w.if-word_count-eq0.false
          _ (λ e n. w.pass.ensures.length ∙ w.copy_text-self.ensures.length e n) (λ e n. w.pass.ensures.text ∙ w.copy_text-self.ensures.text e n) w.pass.ensures.before)
    ]
