use Rattle.std.proofs.Common.{ℕ, ◌-◌, ◌/◌, ◌%◌, ◌^◌, take, drop, arith, ◌∙◌, ap}
use Rattle.std.proofs.lemmas.Nat.{one_shl, pow_pos}
use Rattle.bits.specs.Bits.{bits_of}
use Rattle.wires.proofs.Pieces.{within, takes_first, takes_last}
use Rattle.wires.proofs.piece.Piece.take.Goals as goal

pub overflow_sub-self : goal.overflow_sub-self
overflow_sub-self c = within _ _ _ _ c.self.view_is c.requires

pub overflow_shl-result : goal.overflow_shl-result
overflow_shl-result c = let h = within _ _ _ _ c.self.view_is c.requires in omega (arith, c.self.invariant)

pub nonzero_rem-result : goal.nonzero_rem-result
nonzero_rem-result c =
    let h = within _ _ _ _ c.self.view_is c.requires in
    omega (arith, one_shl c.args.n 64 (omega (arith, c.self.invariant)), pow_pos c.args.n)

pub returns-clause-first : goal.returns-clause-first
returns-clause-first c =
    let h = within _ _ _ _ c.self.view_is c.requires in
    ap (λ (m : ℕ). bits_of c.args.n (c.from.result / 2 ^ (c.self.inside.count - c.args.n) % m)) (one_shl c.args.n 64 (omega (arith, c.self.invariant)))
    ∙ takes_first c.args.n c.self.inside.count c.from.result h
    ∙ ap (λ (w : ℕ). take c.args.n (bits_of c.self.inside.count w)) c.from.ensures ∙ ap (take c.args.n) c.self.view_is

pub returns-clause-left : goal.returns-clause-left
returns-clause-left c =
    let h = within _ _ _ _ c.self.view_is c.requires in
    takes_last c.args.n c.self.inside.count c.self.inside.bits h ∙ ap (drop c.args.n) c.self.view_is
