use Rattle.std.proofs.Common.{◌≡◌, ◌+◌, ◌*◌, ◌<◌, ◌++◌, Bool, List, ℕ, drop, length, replicate, take, subst, sym, ap, ap₂, ◌∙◌, arith}
use Rattle.bits.specs.Bits.{number}
use Rattle.bits.proofs.Numbers.{bit_value-lt}
use Rattle.page_text.specs.Coding.{fill_of, text_codes, width_of}
use Rattle.page_text.specs.Groups.{code_bits, group_count}
use Rattle.page_text.proofs.Codings.{length-text_codes, place-within, width-pos}
use Rattle.page_text.proofs.Groups.{get_or-groups_of, length-filled_bits, number-take-lt, number-take-more}
use Rattle.page_text.proofs.packing.packed.Goals as goal

pub bit-requires-clause-within : goal.bit-requires-clause-within
bit-requires-clause-within c =
    place-within (width_of c.args.coding) c.args.k c.loop-i.i (length c.args.text.now) (width-pos c.args.coding) (omega arith) c.requires.within

-- the group so far has at most 19 bits
pub overflow_mul-group : goal.overflow_mul-group
overflow_mul-group c = let few = number-take-lt c.loop-i.group c.loop-i.i 19 _ c.loop-i.invariant (omega arith) in omega (arith, few)

pub overflow_add-group : goal.overflow_add-group
overflow_add-group c =
    let few = number-take-lt c.loop-i.group c.loop-i.i 19 _ c.loop-i.invariant (omega arith) in
    omega (arith, c.bit.ensures, few, bit_value-lt)

pub loop-i-preserved : goal.loop-i-preserved
loop-i-preserved c =
    let w : ℕ = width_of c.args.coding in
    let codes : List ℕ = text_codes c.args.coding c.args.text.now in
    let fill : ℕ = fill_of c.args.coding in
    let bits : List Bool = code_bits w (codes ++ replicate 20 fill) in
    let within = place-within w c.args.k c.loop-i.i (length c.args.text.now) (width-pos c.args.coding) (omega arith) c.requires.within in
    let size : length bits ≡ (length c.args.text.now + 20) * w =
    length-filled_bits w fill codes ∙ ap (λ n. (n + 20) * w) (length-text_codes c.args.coding c.args.text.now) in
    ap₂ (λ group bit. group * 2 + bit) c.loop-i.invariant c.bit.ensures
    ∙ sym (number-take-more bits (20 * c.args.k) c.loop-i.i (rw size within))

pub returns-clause-value : goal.returns-clause-value
returns-clause-value c =
    let codes : List ℕ = text_codes c.args.coding c.args.text.now in
    let all : c.loop-i.i ≡ 20 = omega arith in
    let within : c.args.k < group_count (width_of c.args.coding) (length codes) = rw (length-text_codes c.args.coding c.args.text.now) c.requires.within in
    subst (λ i. c.loop-i.group ≡ number (take i (drop (20 * c.args.k) (code_bits (width_of c.args.coding) (codes ++ replicate 20 (fill_of c.args.coding)))))) all c.loop-i.invariant
    ∙ sym (get_or-groups_of (width_of c.args.coding) (fill_of c.args.coding) codes c.args.k within)

pub returns-clause-small : goal.returns-clause-small
returns-clause-small c = number-take-lt c.loop-i.group c.loop-i.i 20 _ c.loop-i.invariant (omega arith)
