use Rattle.std.proofs.Common.{◌≡◌, ℕ, Bool, true, ◌||◌, ◌==◌, ◌&&◌, ◌∙◌, ap, subst}
use Rattle.codeword.specs.Capcodes.{IsUsable}
use Rattle.receiver.specs.Receivers.{is_marked}
use Rattle.std.specs.BTreeMap.{keys}
use Rattle.receiver.proofs.Capcodes.{key_has, listed_more, paired_more}
use Rattle.receiver.proofs.group.Holders.of.Goals as goal

pub loop-number-preserved : goal.loop-number-preserved
loop-number-preserved c =
    let item = c.loop-number-item.result in
    record {
      usable = key_has IsUsable (keys c.loop-number.sets) (keys c.add_holder.new.holders) item.1 c.add_holder.ensures.usable c.in_default.ensures.keys c.loop-number.invariant.usable;
      marked = key_has (λ q. is_marked c.mark.new.self q ≡ true) (keys c.loop-number.sets) (keys c.add_holder.new.holders) item.1
          (subst (λ (k : ℕ). is_marked c.mark.new.self k ≡ true) c.number.ensures.value c.mark.ensures.marked) c.in_default.ensures.keys
          (λ q h. c.mark.ensures.kept q (c.loop-number.invariant.marked q h));
      capcodes = λ q. c.in_default.ensures.keys q ∙ ap (λ (b : Bool). b || (item.1 == q)) (c.loop-number.invariant.capcodes q)
          ∙ listed_more c.args.pairs.now c.loop-number.number-index item c.loop-number-test.true c.loop-number-item.is q;
      has = λ n q. c.in_default.ensures.has n q ∙ ap (λ (b : Bool). b || ((item.0 == n) && (item.1 == q))) (c.loop-number.invariant.has n q)
          ∙ paired_more c.args.pairs.now c.loop-number.number-index item c.loop-number-test.true c.loop-number-item.is n q;
    }
