use Rattle.std.proofs.Common.{◌≡◌, ◌*◌, ℕ, suc, List, [], ◌++◌, take, refl, sym, ◌∙◌, ap, subst, arith, add-one, append-nil, append_assoc, Bool, false, IsTrue}
use Rattle.std.proofs.lemmas.List.{length-map}
use Rattle.scheduler.specs.Pooled.{ScheduleStands, slots_left}
use Rattle.scheduler.specs.Said.{word_in}
use Rattle.scheduler.specs.declared.slots.Slot.{Slot}
use Rattle.scheduler.proofs.Standing.{held-stands, slots-stands}
use Rattle.air.specs.Air.{batches, preamble}
use Rattle.air.specs.Sends.{words_of_slots}
use Rattle.air.proofs.Taking.{Keeps-same, Keeps-then}
use Rattle.air.proofs.Handing.{all_batches, all_sent, batch_failed, batch_is, batch_sent, left_batch, on_err, preamble_failed, room_batch, shorter_batch, stops_batch, stops_preamble, taken_batch}
use Rattle.air.proofs.sender.send.Goals as goal

-- a test that fails
not_true : {b : Bool} → b ≡ false → IsTrue b → ⊥
not_true e h = cc

pub returns-in_err-send_preamble-clause-puts : goal.returns-in_err-send_preamble-clause-puts
returns-in_err-send_preamble-clause-puts g c = preamble_failed (words_of_slots (slots_left c.args.schedule.now)) _ _ _ _ c.from_residual.ensures.0 c.in_err-send_preamble.ensures

pub returns-in_err-send_preamble-clause-stops : goal.returns-in_err-send_preamble-clause-stops
returns-in_err-send_preamble-clause-stops g c =
    on_err _ c.from_residual.ensures.0
    (λ a s. stops_preamble a (slots_left c.args.schedule.now) _ _ _ _ (slots-stands a [] _ _ _ s) c.in_err-send_preamble.ensures
    (held-stands a [] _ _ _ _ c.args.schedule.now.follows.in_run s))

pub loop-schedule-init : goal.loop-schedule-init
unfolding batches preamble
loop-schedule-init g c = record {
  lends = refl;
  left = refl;
  within = omega arith;
  puts = c.in_ok-send_preamble.ensures;
  stands = λ a h s. subst (λ (l : List Slot). ScheduleStands a l c.args.schedule.now) (sym (append-nil h)) s;
  keeps = Keeps-same _;
  later = omega arith;
  heads = omega arith;
}

pub returns-in_err-words-clause-puts : goal.returns-in_err-words-clause-puts
returns-in_err-words-clause-puts g c =
    let slots : List Slot = slots_left c.args.schedule.now in
    let k : ℕ = c.loop-schedule.batches in
    let i = c.loop-schedule.invariant in
    let w = c.requires.whole in
    let room = room_batch slots _ k w.0 w.1 i.left (λ e. not_true refl (c.loop-schedule-test.ensures.end.1 e)) in
    batch_failed _ _ _ k (words_of_slots slots) c.as_slice.result.now tt
    (c.as_slice.ensures.value ∙ batch_is c.batch-words.result.items slots (slots_left c.loop-schedule.schedule) k i.left c.batch-words.ensures.words) i.puts
    _ c.from_residual-in_err-words.result c.from_residual-in_err-words.ensures.0 (omega (arith, room, length-map slots word_in)) c.in_err-words.ensures

pub returns-in_err-words-clause-stops : goal.returns-in_err-words-clause-stops
returns-in_err-words-clause-stops g c =
    let slots : List Slot = slots_left c.args.schedule.now in
    let k : ℕ = c.loop-schedule.batches in
    let i = c.loop-schedule.invariant in
    let w = c.requires.whole in
    let room = room_batch slots _ k w.0 w.1 i.left (λ e. not_true refl (c.loop-schedule-test.ensures.end.1 e)) in
    on_err _ c.from_residual-in_err-words.ensures.0
    (λ a s.
    let stands : ScheduleStands a (take (16 * suc k) slots) c.batch-words.new.schedule =
    subst (λ (l : List Slot). ScheduleStands a l c.batch-words.new.schedule) (taken_batch slots (slots_left c.loop-schedule.schedule) k i.left)
    (c.batch-words.ensures.stands a (take (16 * k) slots) (i.stands a [] s)) in
    stops_batch a slots _ _ _ k c.as_slice.result.now tt _ _ (slots-stands a [] _ _ _ s) room
    (c.as_slice.ensures.value ∙ batch_is c.batch-words.result.items slots (slots_left c.loop-schedule.schedule) k i.left c.batch-words.ensures.words) i.puts
    c.in_err-words.ensures (held-stands a (take (16 * suc k) slots) _ _ _ _ c.batch-words.new.schedule.follows.in_run stands))

pub loop-schedule-smaller : goal.loop-schedule-smaller
loop-schedule-smaller g c =
    let slots : List Slot = slots_left c.args.schedule.now in
    let k : ℕ = c.loop-schedule.batches in
    let i = c.loop-schedule.invariant in
    let w = c.requires.whole in
    let room = room_batch slots _ k w.0 w.1 i.left (λ e. not_true refl (c.loop-schedule-test.ensures.end.1 e)) in
    shorter_batch slots (slots_left c.loop-schedule.schedule) _ k i.left room c.batch-words.ensures.left

pub loop-schedule-preserved : goal.loop-schedule-preserved
loop-schedule-preserved g c =
    let slots : List Slot = slots_left c.args.schedule.now in
    let k : ℕ = c.loop-schedule.batches in
    let i = c.loop-schedule.invariant in
    let b = c.batch-words.ensures in
    let w = c.requires.whole in
    let room = room_batch slots _ k w.0 w.1 i.left (λ e. not_true refl (c.loop-schedule-test.ensures.end.1 e)) in
    rw (add-one k) (record {
      lends = b.lends ∙ i.lends;
      left = left_batch slots (slots_left c.loop-schedule.schedule) _ k i.left b.left;
      within = room;
      puts = batch_sent _ _ _ k (words_of_slots slots) c.as_slice.result.now tt
          (c.as_slice.ensures.value ∙ batch_is c.batch-words.result.items slots (slots_left c.loop-schedule.schedule) k i.left b.words) i.puts _ c.in_ok-words.ensures;
      stands = λ a h s. subst (λ (l : List Slot). ScheduleStands a l c.batch-words.new.schedule)
          (append_assoc h (take (16 * k) slots) (take 16 (slots_left c.loop-schedule.schedule)) ∙ ap (λ l. h ++ l) (taken_batch slots (slots_left c.loop-schedule.schedule) k i.left))
          (b.stands a (h ++ take (16 * k) slots) (i.stands a h s));
      keeps = Keeps-then _ _ _ i.keeps b.keeps;
      later = omega (arith, i.later, b.later);
      heads = omega (arith, i.heads, b.heads);
    })

pub returns-clause-puts : goal.returns-clause-puts
returns-clause-puts g c =
    let slots : List Slot = slots_left c.args.schedule.now in
    let i = c.loop-schedule.invariant in
    all_sent slots _ _ c.loop-schedule.batches tt
    (all_batches slots (slots_left c.loop-schedule.schedule) c.loop-schedule.batches i.within i.left (c.loop-schedule-test.ensures.end.0 refl)) i.puts

pub returns-clause-batches : goal.returns-clause-batches
returns-clause-batches g c =
    let i = c.loop-schedule.invariant in
    all_batches (slots_left c.args.schedule.now) (slots_left c.loop-schedule.schedule) c.loop-schedule.batches i.within i.left
    (c.loop-schedule-test.ensures.end.0 refl)

pub returns-in_err-send_preamble-clause-keeps : goal.returns-in_err-send_preamble-clause-keeps
returns-in_err-send_preamble-clause-keeps g c = Keeps-same _

pub returns-in_err-words-clause-keeps : goal.returns-in_err-words-clause-keeps
returns-in_err-words-clause-keeps g c = Keeps-then _ _ _ c.loop-schedule.invariant.keeps c.batch-words.ensures.keeps
