use Rattle.std.proofs.Common.{◌≡◌, [], ◌∷◌, ◌≤◌, length, true, false, sym, ◌∙◌, ap, subst, arith, rules}
use Rattle.std.proofs.lemmas.Bool.{both_ways}
use Rattle.bits.specs.Bits.{number}
use Rattle.receiver.specs.Locks.{Lock, lock_of, LockHolds}
use Rattle.receiver.specs.Stretches.{is_sync}
use Rattle.receiver.proofs.Locks.{Taken, taken_one, lock_still, lock_slot, lock_batch, lock_lost}
use Rattle.receiver.proofs.front.Locked.feed.Goals as goal

pub returns-then-not-is_full-clause-step : goal.returns-then-not-is_full-clause-step
returns-then-not-is_full-clause-step c bits h =
    let held : LockHolds (lock_of c.self.inside.place c.self.inside.register) bits = subst (λ (x : Lock). LockHolds x bits) (sym c.self.view_is) h in
    let t : Taken (lock_of c.self.inside.place c.self.inside.register) bits c.push.new.self (c.args.bit ∷ []) = taken_one _ _ _ _ held c.self.invariant.1 c.push.ensures in
    let e = c.if-not-is_full.true in
    lock_still _ _ _ _ t (let f : 32 ≤ length c.push.new.self → ⊥ = λ l. both_ways c.is_full.result (search rules) (c.is_full.ensures.1 l) in omega arith)

pub returns-then-self-lt-SLOTS-clause-step : goal.returns-then-self-lt-SLOTS-clause-step
returns-then-self-lt-SLOTS-clause-step c bits h =
    let held : LockHolds (lock_of c.self.inside.place c.self.inside.register) bits = subst (λ (x : Lock). LockHolds x bits) (sym c.self.view_is) h in
    let t : Taken (lock_of c.self.inside.place c.self.inside.register) bits c.push.new.self (c.args.bit ∷ []) = taken_one _ _ _ _ held c.self.invariant.1 c.push.ensures in
    let full : 32 ≤ length c.push.new.self = c.is_full.ensures.0 (search rules) in
    let all = lock_slot _ _ _ _ t full c.if-self-lt-SLOTS.true in
    rw (c.new.ensures, c.word-word.ensures) all

pub returns-then-is_sync-clause-step : goal.returns-then-is_sync-clause-step
returns-then-is_sync-clause-step c bits h =
    let held : LockHolds (lock_of c.self.inside.place c.self.inside.register) bits = subst (λ (x : Lock). LockHolds x bits) (sym c.self.view_is) h in
    let t : Taken (lock_of c.self.inside.place c.self.inside.register) bits c.push.new.self (c.args.bit ∷ []) = taken_one _ _ _ _ held c.self.invariant.1 c.push.ensures in
    let full : 32 ≤ length c.push.new.self = c.is_full.ensures.0 (search rules) in
    let good : is_sync (number c.push.new.self) ≡ true = sym (c.is_sync.ensures ∙ ap is_sync c.word-word.ensures) ∙ c.if-is_sync.true in
    rw c.new-then-is_sync.ensures (lock_batch _ _ _ _ t full c.if-self-lt-SLOTS.false good)

pub returns-else-is_sync-clause-step : goal.returns-else-is_sync-clause-step
returns-else-is_sync-clause-step c bits h =
    let held : LockHolds (lock_of c.self.inside.place c.self.inside.register) bits = subst (λ (x : Lock). LockHolds x bits) (sym c.self.view_is) h in
    let t : Taken (lock_of c.self.inside.place c.self.inside.register) bits c.push.new.self (c.args.bit ∷ []) = taken_one _ _ _ _ held c.self.invariant.1 c.push.ensures in
    let full : 32 ≤ length c.push.new.self = c.is_full.ensures.0 (search rules) in
    let bad : is_sync (number c.push.new.self) ≡ false = sym (c.is_sync.ensures ∙ ap is_sync c.word-word.ensures) ∙ c.if-is_sync.false in
    let all = lock_lost _ _ _ _ t full c.if-self-lt-SLOTS.false bad in
    (search rules, all.0, all.1)
