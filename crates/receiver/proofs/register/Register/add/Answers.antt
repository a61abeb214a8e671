use Rattle.std.proofs.Common.{◌+◌, ◌*◌, ◌%◌, ◌^◌, ◌<◌, ◌≤◌, ℕ, List, Bool, ◌++◌, bit_or, arith, sym, ◌∙◌, ap}
use Rattle.std.proofs.lemmas.List.{drop_all}
use Rattle.bits.specs.Bits.{bits_of}
use Rattle.bits.proofs.Lengths.{length-bits_of}
use Rattle.receiver.proofs.Registers.{filled, first_taken}
use Rattle.receiver.proofs.register.Register.add.Goals as goal

pub returns-clause-joined : goal.returns-clause-joined
returns-clause-joined c =
    let n = c.min-count.result in
    let t = first_taken n c.args.piece.now c.take-first.new.self c.take-first.ensures.left in
    let m = c.min-count.ensures in
    let v = c.self.invariant in
    let few : c.self.inside.count + n ≤ 32 = omega arith in
    let small : c.self.inside.bits < 2 ^ 32 = omega arith in
    ap (λ (r : ℕ). bits_of (c.self.inside.count + n) (bit_or (r * 2 ^ n % 18446744073709551616) c.take-first.result % 4294967296)) c.from.ensures
    ∙ filled c.self.inside.count c.self.inside.bits n c.take-first.result _ _ c.self.view_is c.take-first.ensures.first c.take-first.ensures.small small few
    ∙ ap (λ (xs : List Bool). c.args.self.now ++ xs) (sym t.1)

pub returns-clause-whole : goal.returns-clause-whole
returns-clause-whole c =
    let t = first_taken c.min-count.result c.args.piece.now c.take-first.new.self c.take-first.ensures.left in
    t.0 ∙ ap (λ (xs : List Bool). xs ++ c.take-first.new.self) (sym t.1)

pub returns-clause-few : goal.returns-clause-few
returns-clause-few c =
    let l = length-bits_of (c.self.inside.count + c.min-count.result) (bit_or (c.from.result * 2 ^ c.min-count.result % 18446744073709551616) c.take-first.result % 4294967296) in
    let m = c.min-count.ensures in
    let v = c.self.invariant in
    omega arith

pub returns-clause-end : goal.returns-clause-end
returns-clause-end c = λ h.
    let l = length-bits_of (c.self.inside.count + c.min-count.result) (bit_or (c.from.result * 2 ^ c.min-count.result % 18446744073709551616) c.take-first.result % 4294967296) in
    let m = c.min-count.ensures in
    let v = c.self.invariant in
    let k = c.len.ensures.length in
    c.take-first.ensures.left ∙ drop_all c.min-count.result c.args.piece.now (omega arith)
