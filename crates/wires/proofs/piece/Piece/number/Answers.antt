use Rattle.std.proofs.Common.{◌≡◌, ◌*◌, ◌%◌, ◌^◌, ℕ, length, arith, sym, ◌∙◌, ap}
use Rattle.std.proofs.lemmas.Nat.{one_shl, pow_pos}
use Rattle.bits.specs.Bits.{bits_of}
use Rattle.bits.proofs.Lengths.{length-bits_of}
use Rattle.wires.proofs.Pieces.{low_bits}
use Rattle.wires.proofs.piece.Piece.number.Goals as goal

pub returns-clause-bits : goal.returns-clause-bits
returns-clause-bits c =
    let n : length c.args.self.now ≡ c.self.inside.count = ap length (sym c.self.view_is) ∙ length-bits_of c.self.inside.count c.self.inside.bits in
    let s = one_shl c.self.inside.count 64 (omega (arith, c.self.invariant)) in
    ap (λ (k : ℕ). bits_of k (c.from.result % (1 * 2 ^ c.self.inside.count % 18446744073709551616))) n
    ∙ ap (λ (m : ℕ). bits_of c.self.inside.count (c.from.result % m)) s
    ∙ low_bits c.self.inside.count c.from.result
    ∙ ap (bits_of c.self.inside.count) c.from.ensures ∙ c.self.view_is

pub returns-clause-small : goal.returns-clause-small
returns-clause-small c =
    let n : length c.args.self.now ≡ c.self.inside.count = ap length (sym c.self.view_is) ∙ length-bits_of c.self.inside.count c.self.inside.bits in
    let s = one_shl c.self.inside.count 64 (omega (arith, c.self.invariant)) in
    let p = pow_pos c.self.inside.count in
    let e : 2 ^ length c.args.self.now ≡ 2 ^ c.self.inside.count = ap (λ (k : ℕ). 2 ^ k) n in
    let m : c.from.result % (1 * 2 ^ c.self.inside.count % 18446744073709551616) ≡ c.from.result % 2 ^ c.self.inside.count = ap (λ (k : ℕ). c.from.result % k) s in
    omega arith
