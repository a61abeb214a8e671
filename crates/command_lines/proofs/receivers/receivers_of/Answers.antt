use Rattle.std.proofs.Common.{◌≡◌, sym, ap, refl, subst, arith, ℕ, List, ◌∷◌, ◌+◌, [], length, length-append, take}
use Rattle.command_lines.specs.Commands.{IsReceiverWord, Say, texts}
use Rattle.command_lines.proofs.ListedReceivers.{not_full, refuse_full, refuse_unread, texts-all, texts-at}
use Rattle.command_lines.proofs.Saying.{Say-more, length-Say}
use Rattle.command_lines.proofs.receivers.receivers_of.Goals as goal

pub returns-in_err-capcodes : goal.returns-in_err-capcodes
returns-in_err-capcodes c =
    let at = texts-at c.args.words.now c.in_ok-first.others.now c.in_ok-first.first.now c.word-item.result c.loop-word.word-index c.in_ok-first.ensures.cases.0 (omega arith) c.word-item.is in
    rw (c.from_residual-in_err-capcodes.ensures)
    (refuse_unread _ _ _ _ at.0
    (λ n h. c.in_err-capcodes.ensures n (subst (λ (w : List ℕ). IsReceiverWord w n) (sym c.as_str-in-loop-word.ensures.value) h)))

pub returns-then-is_full : goal.returns-then-is_full
returns-then-is_full c =
    let at = texts-at c.args.words.now c.in_ok-first.others.now c.in_ok-first.first.now c.word-item.result c.loop-word.word-index c.in_ok-first.ensures.cases.0 (omega arith) c.word-item.is in
    let many : length (take (c.loop-word.word-index + 1) (texts c.args.words.now)) ≡ 64 = omega (arith, length-Say IsReceiverWord _ c.loop-word.receivers c.loop-word.invariant.say, c.if-is_full.ensures.0 refl) in
    refuse_full _ _ _ _ at.0 many

pub push-requires : goal.push-requires
push-requires c = not_full _ 64 c.loop-word.invariant.few c.if-is_full.ensures.1

pub loop-word-preserved : goal.loop-word-preserved
loop-word-preserved c =
    let at = texts-at c.args.words.now c.in_ok-first.others.now c.in_ok-first.first.now c.word-item.result c.loop-word.word-index c.in_ok-first.ensures.cases.0 (omega arith) c.word-item.is in
    let own = subst (λ (w : List ℕ). IsReceiverWord w c.in_ok-capcodes.capcodes) c.as_str-in-loop-word.ensures.value c.in_ok-capcodes.ensures in
    let less = not_full _ 64 c.loop-word.invariant.few c.if-is_full.ensures.1 in
    record {
      say = rw (at.1, c.push.ensures) (Say-more IsReceiverWord _ _ c.loop-word.receivers c.in_ok-capcodes.capcodes c.loop-word.invariant.say own);
      many = omega (arith, ap length c.push.ensures, length-append c.loop-word.receivers (c.in_ok-capcodes.capcodes ∷ []), c.loop-word.invariant.many);
      few = omega (arith, ap length c.push.ensures, length-append c.loop-word.receivers (c.in_ok-capcodes.capcodes ∷ []), less);
    }

pub returns : goal.returns
returns c = record {
  say = subst (λ (ws : List (List ℕ)). Say IsReceiverWord ws c.loop-word.receivers) (texts-all c.args.words.now c.in_ok-first.others.now c.in_ok-first.first.now c.loop-word.word-index c.in_ok-first.ensures.cases.0 (omega arith)) c.loop-word.invariant.say;
  some = omega (arith, c.loop-word.invariant.many);
  few = c.loop-word.invariant.few;
}
