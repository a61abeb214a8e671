use Rattle.std.proofs.Common.{◌≡◌, ◌+◌, ◌-◌, ◌/◌, ◌^◌, ◌≤◌, ℕ, List, Bool, ◌++◌, length, take, drop, get_or, arith, refl, sym, ◌∙◌, ap}
use Rattle.bits.specs.Bits.{bits_of, bytes_bits}
use Rattle.bits.proofs.Lengths.{length-bits_of}
use Rattle.wires.proofs.Pieces.{none_left}
use Rattle.wires.proofs.Ahead.{none_ready, next_byte, cut_bits}
use Rattle.wires.proofs.byte_bits.Ready.few.Goals as goal

-- bits that came out of a register are as many as were asked for
many : (piece : List Bool) (n w : ℕ) → piece ≡ bits_of n w → length piece ≡ n
many piece n w e = ap length e ∙ length-bits_of n w

pub returns-then-self-clause-pops : goal.returns-then-self-clause-pops
returns-then-self-clause-pops c = ap (λ (xs : List Bool). xs ++ c.args.self.now) (sym (c.of.ensures ∙ none_left 0 0 refl))

pub returns-then-self-clause-few : goal.returns-then-self-clause-few
returns-then-self-clause-few c = let n = many _ _ _ c.of.ensures in omega arith

pub returns-then-self-clause-end : goal.returns-then-self-clause-end
returns-then-self-clause-end c = λ e. sym c.self.view_is ∙ none_ready c.self.inside.pending c.self.inside.byte c.self.inside.at c.self.inside.end c.self.inside.bytes c.if-self-eq0.true c.if-self.true

pub returns-then-self-eq0-clause-pops : goal.returns-then-self-eq0-clause-pops
returns-then-self-eq0-clause-pops c =
    let m = c.min-count.ensures in
    let le : c.min-count.result ≤ 8 = omega arith in
    let rest = bytes_bits (drop (c.self.inside.at + 1) (take c.self.inside.end c.self.inside.bytes)) in
    let byte = get_or c.self.inside.bytes c.self.inside.at 0 in
    sym c.self.view_is ∙ next_byte c.self.inside.pending c.self.inside.byte c.self.inside.at c.self.inside.end c.self.inside.bytes c.if-self-eq0.true
    (omega (arith, c.self.invariant.0, c.if-self.false)) (omega (arith, c.self.invariant.1, c.self.told))
    ∙ cut_bits 8 c.min-count.result byte rest le
    ∙ ap (λ (xs : List Bool). xs ++ (bits_of (8 - c.min-count.result) byte ++ rest)) (sym (c.of-then-self-eq0.ensures ∙ ap (λ (w : ℕ). bits_of c.min-count.result (w / 2 ^ (8 - c.min-count.result))) c.from.ensures))

pub returns-then-self-eq0-clause-few : goal.returns-then-self-eq0-clause-few
returns-then-self-eq0-clause-few c = let n = many _ _ _ c.of-then-self-eq0.ensures in let m = c.min-count.ensures in omega arith

pub returns-then-self-eq0-clause-end : goal.returns-then-self-eq0-clause-end
returns-then-self-eq0-clause-end c = λ e. let n = many _ _ _ c.of-then-self-eq0.ensures in let m = c.min-count.ensures in let l = ap length e in let some = c.requires in absurd (omega arith)

pub returns-clause-pops : goal.returns-clause-pops
returns-clause-pops c =
    let m = c.min-count-2.ensures in
    let k = c.from-2.ensures in
    let le : c.min-count-2.result ≤ c.self.inside.pending = omega arith in
    let rest = bytes_bits (drop c.self.inside.at (take c.self.inside.end c.self.inside.bytes)) in
    sym c.self.view_is ∙ cut_bits c.self.inside.pending c.min-count-2.result c.self.inside.byte rest le
    ∙ ap (λ (xs : List Bool). xs ++ (bits_of (c.self.inside.pending - c.min-count-2.result) c.self.inside.byte ++ rest))
    (sym (c.of-2.ensures ∙ ap (λ (w : ℕ). bits_of c.min-count-2.result (w / 2 ^ (c.self.inside.pending - c.min-count-2.result))) c.from-3.ensures))

pub returns-clause-few : goal.returns-clause-few
returns-clause-few c = let n = many _ _ _ c.of-2.ensures in let m = c.min-count-2.ensures in omega arith

pub returns-clause-end : goal.returns-clause-end
returns-clause-end c = λ e.
    let n = many _ _ _ c.of-2.ensures in let m = c.min-count-2.ensures in let k = c.from-2.ensures in let l = ap length e in let some = c.requires in let p = c.if-self-eq0.false in absurd (omega arith)
