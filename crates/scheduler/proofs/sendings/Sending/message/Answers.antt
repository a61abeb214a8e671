use Rattle.std.proofs.Common.{refl, sym, ◌∙◌, arith}
use Rattle.scheduler.specs.Sendings.{IsFirst, text_under_way}
use Rattle.scheduler.proofs.Given.{some-first, first-live, own_fits, own_groups, gives-message, gives-last}
use Rattle.scheduler.proofs.sendings.Sending.message.Goals as goal
use Rattle.scheduler.proofs.sendings.Sending.message.Goals.{then-k-words, else-k-words}

pub first-requires : goal.first-requires
first-requires g c = (c.requires.follows.in_run _ _ c.requires.under_way).in_batch

pub unwrap-t-requires : goal.unwrap-t-requires
unwrap-t-requires g c = some-first c.args.pool.now c.args.frame _ c.first.ensures.first (c.requires.follows.in_run _ _ c.requires.under_way).waits

pub function-function-requires : goal.function-function-requires
function-function-requires g c = first-live _ _ _ (sym c.unwrap-t.ensures ∙ c.first.ensures.first)

pub group-group-requires-clause-fits : goal.group-group-requires-clause-fits
group-group-requires-clause-fits g c =
    own_fits _ _ _ _ c.first.ensures.sound (sym c.unwrap-t.ensures ∙ c.first.ensures.first) c.function-function.ensures _
    (c.requires.follows.in_run _ _ c.requires.under_way).text_is

pub group-group-requires-clause-within : goal.group-group-requires-clause-within
group-group-requires-clause-within g c =
    let u = c.requires.follows.in_run _ _ c.requires.under_way in
    let l = u.more in
    let n = own_groups _ _ _ _ c.first.ensures.sound (sym c.unwrap-t.ensures ∙ c.first.ensures.first) c.function-function.ensures _ u.text_is in
    omega (arith, l, n)

pub overflow_add-k : goal.overflow_add-k
overflow_add-k g c =
    let u = c.requires.follows.in_run _ _ c.requires.under_way in
    let l = u.more in
    let n = own_groups _ _ _ _ c.first.ensures.sound (sym c.unwrap-t.ensures ∙ c.first.ensures.first) c.function-function.ensures _ u.text_is in
    let m = c.word_count-words.ensures.groups (text_under_way c.args.self.now) refl in
    let few = c.word_count-words.ensures.few in
    omega (arith, l, n, m, few)

pub end-requires-clause-live : goal.end-requires-clause-live
end-requires-clause-live g c = first-live _ _ _ (sym c.unwrap-t.ensures ∙ c.first.ensures.first)

pub returns-clause-gives : goal.returns-clause-gives
returns-clause-gives g c =
    let h : IsFirst c.args.pool.now c.args.frame c.unwrap-t.result = sym c.unwrap-t.ensures ∙ c.first.ensures.first in
    let m = c.word_count-words.ensures.groups (text_under_way c.args.self.now) refl in
    elim c.if-k-words.branch [
      | then-k-words w ↦ rw (w.self-is, w.pool-is)
          (gives-message c.args.pool.now c.args.frame c.unwrap-t.result _ c.first.ensures.sound h c.function-function.ensures c.args.self.now w.pass.new.self
          _ c.args.k _ c.requires.follows c.requires.under_way refl c.group-group.ensures.small c.group-group.ensures.value
          (let t = w.if-k-words.true in omega (arith, t, m)) w.pass.ensures.place w.pass.ensures.before w.pass.ensures.text w.pass.ensures.length)
      | else-k-words w ↦ rw (w.self-is, w.pool-is)
          (gives-last c.args.pool.now c.args.frame c.unwrap-t.result _ c.first.ensures.sound h c.function-function.ensures c.args.self.now w.end.new.self
          w.end.new.pool _ c.args.k _ c.requires.follows c.requires.under_way refl c.group-group.ensures.small c.group-group.ensures.value
          (let t = w.if-k-words.false in omega (arith, t, m)) w.end.ensures.takes w.end.ensures.place w.end.ensures.length w.end.ensures.before)
    ]
