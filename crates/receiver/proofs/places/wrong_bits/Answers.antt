use Rattle.std.proofs.Common.{◌≡◌, ◌+◌, ◌-◌, ℕ, suc, arith, ◌∙◌, subst}
use Rattle.std.specs.Int.{bit_at}
use Rattle.receiver.specs.Places.{HasWrongBit}
use Rattle.receiver.proofs.WrongBits.{wrong_more, shifted_bit}
use Rattle.receiver.proofs.places.wrong_bits.Goals as goal

pub loop-place-preserved : goal.loop-place-preserved
loop-place-preserved c =
    let e : c.loop-place.place ≡ suc (c.loop-place.place - 1) = omega (arith, c.loop-place-test.true) in
    record {
      first = omega (arith, c.loop-place-test.true);
      end = omega (arith, c.loop-place.invariant.end);
      wrong = wrong_more c.args.window c.loop-place.wrong c.other_bits.result (c.loop-place.place - 1) c.args.end (omega (arith, c.loop-place.invariant.end, c.loop-place-test.true))
          (subst (λ (p : ℕ). (n : ℕ) → bit_at c.loop-place.wrong n ≡ 1 → HasWrongBit c.args.window n p c.args.end) e c.loop-place.invariant.wrong)
          c.other_bits.ensures;
    }

pub returns : goal.returns
returns c behind h =
    let e : c.loop-place.place ≡ c.args.first = omega (arith, c.loop-place-test.false, c.loop-place.invariant.first) in
    subst (λ (p : ℕ). HasWrongBit c.args.window (behind + c.args.first) p c.args.end) e
    (c.loop-place.invariant.wrong (behind + c.args.first) (shifted_bit c.loop-place.wrong c.args.first behind ∙ h))
