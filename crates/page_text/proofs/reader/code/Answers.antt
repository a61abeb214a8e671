use Rattle.std.proofs.Common.{◌≡◌, ◌+◌, ◌-◌, ◌*◌, Bool, List, drop, length, take, subst, sym, ap, ◌∙◌, arith}
use Rattle.bits.proofs.Numbers.{bit_value-lt}
use Rattle.page_text.specs.Texts.{group_bits, rising_number}
use Rattle.page_text.proofs.Texts.{code-within, get_or-codes_of, length-group_bits, rising_number-step, rising_number-take-lt}
use Rattle.page_text.proofs.reader.code.Goals as goal

pub bit-requires : goal.bit-requires
bit-requires c = code-within c.args.width c.args.k (c.loop-i.i - 1) (length c.args.groups.now) (omega arith) c.requires.within

-- the code so far has at most six bits
pub overflow_mul-code : goal.overflow_mul-code
overflow_mul-code c =
    let few = rising_number-take-lt c.loop-i.code (c.args.width - c.loop-i.i) 6 _ c.loop-i.invariant.value (omega arith) in
    omega (arith, few)

pub overflow_add-code : goal.overflow_add-code
overflow_add-code c =
    let few = rising_number-take-lt c.loop-i.code (c.args.width - c.loop-i.i) 6 _ c.loop-i.invariant.value (omega arith) in
    omega (arith, c.bit.ensures, few, bit_value-lt)

pub loop-i-preserved : goal.loop-i-preserved
loop-i-preserved c =
    let within = code-within c.args.width c.args.k (c.loop-i.i - 1) (length c.args.groups.now) (omega arith) c.requires.within in
    record {
      within = omega arith;
      value =
          rising_number-step (group_bits c.args.groups.now) (c.args.width * c.args.k) c.args.width c.loop-i.i (c.loop-i.i - 1) c.loop-i.code c.bit.result
          (omega arith) c.loop-i.invariant.within (omega (arith, length-group_bits c.args.groups.now, within)) c.loop-i.invariant.value c.bit.ensures;
    }

pub returns-clause-value : goal.returns-clause-value
returns-clause-value c =
    let done : c.loop-i.i ≡ 0 = omega arith in
    let whole : c.args.width - 0 ≡ c.args.width = omega arith in
    let start : c.args.width * c.args.k + 0 ≡ c.args.width * c.args.k = omega arith in
    let bits : List Bool = group_bits c.args.groups.now in
    subst (λ i. c.loop-i.code ≡ rising_number (take (c.args.width - i) (drop (c.args.width * c.args.k + i) bits))) done c.loop-i.invariant.value
    ∙ ap (λ n. rising_number (take n (drop (c.args.width * c.args.k + 0) bits))) whole
    ∙ ap (λ d. rising_number (take c.args.width (drop d bits))) start
    ∙ sym (get_or-codes_of c.args.width c.args.groups.now c.args.k c.requires.within)

pub returns-clause-small : goal.returns-clause-small
returns-clause-small c = rising_number-take-lt c.loop-i.code (c.args.width - c.loop-i.i) c.args.width _ c.loop-i.invariant.value (omega arith)
