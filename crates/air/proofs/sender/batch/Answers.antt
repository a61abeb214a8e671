use Rattle.std.proofs.Common.{◌≡◌, ◌<◌, ℕ, List, [], ◌∷◌, ◌++◌, length, take, refl, sym, ◌∙◌, ap, subst, arith, append-nil}
use Rattle.std.proofs.lemmas.List.{length-map, length-take-le}
use Rattle.codeword.specs.declared.words.TheConstants.{SYNC}
use Rattle.scheduler.specs.Pooled.{ScheduleStands, slots_left}
use Rattle.scheduler.specs.Said.{word_in}
use Rattle.scheduler.specs.declared.slots.Slot.{Slot}
use Rattle.air.proofs.Taking.{drop-more, given-more, Keeps-same, Keeps-then, one_head, some-left, words-more}
use Rattle.air.proofs.sender.batch.Goals as goal

pub loop-init : goal.loop-init
loop-init g c = record {
  lends = refl;
  words = c.push.ensures.items ∙ ap (λ l. l ++ SYNC ∷ []) c.new-words.ensures;
  left = refl;
  stands = λ a h s. subst (λ (l : List Slot). ScheduleStands a l c.args.schedule.now) (sym (append-nil h)) s;
  keeps = Keeps-same _;
  later = omega arith;
  heads = omega arith;
}

pub slot-requires : goal.slot-requires
slot-requires g c = let r = c.requires in some-left (slots_left c.args.schedule.now) _ c.loop.counter c.loop.invariant.left (let t = c.loop-test.true in omega (arith, r, t))

pub push-requires-in-loop : goal.push-requires-in-loop
push-requires-in-loop g c =
    let r = c.requires in
    let t = c.loop-test.true in
    let few : length c.loop.words.items < 17 =
    omega (
      arith,
      ap length c.loop.invariant.words,
      length-map (take c.loop.counter (slots_left c.args.schedule.now)) word_in,
      length-take-le c.loop.counter (slots_left c.args.schedule.now) (omega (arith, r, t)),
      t,
    ) in
    (omega arith, few)

pub loop-preserved : goal.loop-preserved
loop-preserved g c =
    let i = c.loop.invariant in
    let s = c.slot.ensures in
    record {
      lends = s.lends ∙ i.lends;
      words = words-more _ _ (slots_left c.args.schedule.now) _ _ c.loop.counter _ c.slot.result i.left s.gives i.words c.word.ensures c.push-in-loop.ensures.items;
      left = drop-more (slots_left c.args.schedule.now) _ _ c.loop.counter c.slot.result i.left s.gives;
      stands = λ a h x. subst (λ (l : List Slot). ScheduleStands a l c.slot.new.self)
          (given-more h (slots_left c.args.schedule.now) _ _ c.loop.counter c.slot.result i.left s.gives) (s.stands a (h ++ take c.loop.counter (slots_left c.args.schedule.now)) (i.stands a h x));
      keeps = Keeps-then _ _ _ i.keeps s.keeps;
      later = omega (arith, i.later, s.heads);
      heads = omega (arith, i.heads, s.heads, one_head c.slot.result);
    }

pub returns : goal.returns
returns g c =
    let i = c.loop.invariant in
    let all : c.loop.counter ≡ 16 = omega arith in
    record {
      lends = i.lends;
      words = rw all at i.words;
      left = rw all at i.left;
      stands = λ a h x. subst (λ (n : ℕ). ScheduleStands a (h ++ take n (slots_left c.args.schedule.now)) c.loop.schedule) all (i.stands a h x);
      keeps = i.keeps;
      later = i.later;
      heads = omega (arith, i.heads);
    }
