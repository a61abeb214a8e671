-- Which calls of a fake fail.
use Rattle.std.proofs.Common.{◌≡◌, ℕ, suc, ◌+◌, ◌<◌, ◌≤◌, get_or, nat_le, nat_eq, false, List, [], ◌∷◌, IsTrue, refl, arith}
use Rattle.std.proofs.lemmas.Bool.Decides.{nat_tests}
use Rattle.std.specs.List.{list_any}
use Rattle.wires.specs.Calls.{CallsMade, none_to_come, is_steady, next_fails}
use Rattle.wires.proofs.Written.{and_both, and_one}

not_next : (n made : ℕ) → IsTrue (nat_le n made) → nat_eq n (made + 1) ≡ false
not_next n made h = grind (arith, nat_tests)

below_not : (n m : ℕ) → n < m → nat_eq n m ≡ false
below_not n m h = grind (arith, nat_tests)

past : (n made more : ℕ) → made ≤ more → IsTrue (nat_le n made) → IsTrue (nat_le n more)
past n made more le h = grind (arith, nat_tests)

-- where none is to come, the next is none
none_next : (ns : List ℕ) (made : ℕ) → IsTrue (none_to_come ns made) → list_any (λ n. nat_eq n (made + 1)) ns ≡ false
none_next [] made h = refl
none_next (n ∷ ns) made h =
    let two = and_both (nat_le n made) (none_to_come ns made) h in
    let here : nat_eq n (made + 1) ≡ false = not_next n made two.0 in
    rw (here, none_next ns made two.1) refl

-- where none is to come, none is to come after more calls
none_later : (ns : List ℕ) (made more : ℕ) → made ≤ more → IsTrue (none_to_come ns made) → IsTrue (none_to_come ns more)
none_later [] made more le h = refl
none_later (n ∷ ns) made more le h =
    let two = and_both (nat_le n made) (none_to_come ns made) h in
    and_one (nat_le n more) (none_to_come ns more) (past n made more le two.0) (none_later ns made more le two.1)

-- a number above all of them is none of them
pub none_above : (ns : List ℕ) (m : ℕ) → ((i : ℕ) → get_or ns i 0 < m) → list_any (λ n. nat_eq n m) ns ≡ false
none_above [] m h = refl
none_above (n ∷ ns) m h =
    let here : nat_eq n m ≡ false = below_not n m (h 0) in
    rw (here, none_above ns m (λ i. h (suc i))) refl

-- the next call of a steady fake is none that fails
pub steady_next : (calls : CallsMade) → IsTrue (is_steady calls) → next_fails calls ≡ false
steady_next calls h = none_next calls.failing calls.made h

-- a steady fake is steady after more calls
pub steady_later : (old new : CallsMade) → new.failing ≡ old.failing → old.made ≤ new.made → IsTrue (is_steady old) → IsTrue (is_steady new)
steady_later old new same le h = rw same (none_later old.failing old.made new.made le h)
