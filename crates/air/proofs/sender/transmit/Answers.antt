use Rattle.std.proofs.Common.{sym, ◌∙◌, ap}
use Rattle.page_pool.specs.Pool.{pages}
use Rattle.scheduler.specs.Pooled.{slots_left}
use Rattle.scheduler.proofs.Standing.{whole-slots}
use Rattle.air.proofs.Taking.{Keeps-same}
use Rattle.air.proofs.Handing.{Puts-ok}
use Rattle.air.proofs.Whole.{countable, few_batches, has_batches, none_live, Puts-err, sends_some, some_pages}
use Rattle.air.proofs.sender.transmit.Goals as goal

pub send-requires-clause-whole : goal.send-requires-clause-whole
send-requires-clause-whole g c =
    whole-slots _ _ (c.over-schedule.ensures.slots (some_pages c.args.pool.now _ c.count-pages.ensures.count c.if-pages-eq0.false))

pub send-requires-clause-few : goal.send-requires-clause-few
send-requires-clause-few g c =
    let some = some_pages c.args.pool.now _ c.count-pages.ensures.count c.if-pages-eq0.false in
    countable c.args.pool.now _ c.count-pages.ensures.sound some (c.over-schedule.ensures.slots some)

pub returns-in_err-batches-clause-sends : goal.returns-in_err-batches-clause-sends
returns-in_err-batches-clause-sends g c =
    let some = some_pages c.args.pool.now _ c.count-pages.ensures.count c.if-pages-eq0.false in
    sends_some _ (slots_left c.over-schedule.result) _ _ _ some (c.over-schedule.ensures.slots some) (Puts-err _ _ _ _ _ c.from_residual.ensures.0 c.in_err-batches.ensures.puts)

pub returns-clause-sends : goal.returns-clause-sends
returns-clause-sends g c =
    let some = some_pages c.args.pool.now _ c.count-pages.ensures.count c.if-pages-eq0.false in
    sends_some _ (slots_left c.over-schedule.result) _ _ _ some (c.over-schedule.ensures.slots some) (Puts-ok _ _ _ c.in_ok-batches.batches _ c.in_ok-batches.ensures.puts)

pub returns-clause-batches : goal.returns-clause-batches
returns-clause-batches g c =
    let some = some_pages c.args.pool.now _ c.count-pages.ensures.count c.if-pages-eq0.false in
    has_batches _ (slots_left c.over-schedule.result) _ some (c.over-schedule.ensures.slots some) c.in_ok-batches.ensures.batches

pub returns-clause-few : goal.returns-clause-few
returns-clause-few g c =
    let some = some_pages c.args.pool.now _ c.count-pages.ensures.count c.if-pages-eq0.false in
    few_batches _ (slots_left c.over-schedule.result) _ some (c.over-schedule.ensures.slots some) c.in_ok-batches.ensures.batches

pub returns-clause-empties : goal.returns-clause-empties
returns-clause-empties g c =
    let same = c.pool-1.given.1 (sym (c.send.ensures.lends ∙ c.over-schedule.ensures.lends)) in
    none_live c.pool-1.given.0 (ap pages same ∙ c.in_ok-batches.ensures.empties)

pub returns-then-pages-eq0-clause-keeps : goal.returns-then-pages-eq0-clause-keeps
returns-then-pages-eq0-clause-keeps g c = Keeps-same _
