use Rattle.std.proofs.Common.{◌≡◌, arith, subst, take}
use Rattle.std.proofs.lemmas.List.{take_all}
use Rattle.std.specs.List.{AllByRecursion}
use Rattle.tap_entry.specs.Signs.{IsDigit}
use Rattle.tap_entry.proofs.PageLines.{id_none, digits_none}
use Rattle.tap_entry.proofs.lines.id_front.Goals as goal
use Rattle.tap_entry.proofs.lines.id_front.Goals.{then-c-lt48-via-then-c-lt48, then-c-lt48-via-else-c-lt48+then-c-gt57}
use Rattle.tap_entry.proofs.lines.id_front.Goals.{else-c-eq-SPACE-via-then-c-eq-SPACE+then-i-gt0+else-i-le-MOST_DIGITS, else-c-eq-SPACE-via-then-c-eq-SPACE+else-i-gt0, else-c-eq-SPACE-via-else-c-eq-SPACE}

pub returns-then-c-lt48 : goal.returns-then-c-lt48
returns-then-c-lt48 c id behind h = id_none c.args.x.now c.loop-i.i c.loop-i.invariant c.loop-i-test.true
    (λ d. elim c.then-c-lt48.branch [
      | then-c-lt48-via-then-c-lt48 w ↦ (let a = w.if-c-lt48.true in let b = d.0 in omega (arith, a, b))
      | then-c-lt48-via-else-c-lt48+then-c-gt57 w ↦ (let a = w.if-c-gt57.true in let b = d.1 in omega (arith, a, b))
    ])
    (λ e p q. elim c.else-c-eq-SPACE.branch [
      | else-c-eq-SPACE-via-then-c-eq-SPACE+then-i-gt0+else-i-le-MOST_DIGITS w ↦ (let a = w.if-i-le-MOST_DIGITS.false in omega (arith, a, q))
      | else-c-eq-SPACE-via-then-c-eq-SPACE+else-i-gt0 w ↦ (let a = w.if-i-gt0.false in omega (arith, a, p))
      | else-c-eq-SPACE-via-else-c-eq-SPACE w ↦ w.if-c-eq-SPACE.false e
    ])
    id behind h

pub returns : goal.returns
returns c id behind h =
    let e : take c.loop-i.i c.args.x.now ≡ c.args.x.now = take_all c.loop-i.i c.args.x.now (omega arith) in
    digits_none c.args.x.now (subst (AllByRecursion IsDigit) e c.loop-i.invariant) id behind h
