-- The test of a capcode is the definition of the usable ones.
use Rattle.std.proofs.Common.{◌≡◌, ◌≢◌, ℕ, ◌^◌, ◌==◌, Bool, true, false, ◌&&◌, not, refl, ap, sym, ◌∙◌, arith, eqb-true}
use Rattle.std.specs.Prelude.{nat_lt}
use Rattle.std.proofs.lemmas.Bool.{eq-eqb}
use Rattle.std.proofs.lemmas.Bool.Decides.{nat_tests}
use Rattle.codeword.specs.Capcodes.{IsUsable, high_of, idle_high, sync_high}
use Rattle.subscribers.specs.Entries.{is_usable}

-- two tests that hold
both_hold : (a b : Bool) → (a && b) ≡ true → (a ≡ true) × (b ≡ true)
both_hold true b h = (refl, h)
both_hold false b h = absurd cc

unequal : (a b : ℕ) → not (a == b) ≡ true → a ≢ b
unequal a b h e = let t : not true ≡ true = ap not (sym (eq-eqb a b e)) ∙ h in absurd cc

-- a test of a fact that doesn't hold
not_equal : (a b : ℕ) → a ≢ b → not (a == b) ≡ true
not_equal a b h = by_test (a == b) refl
  where
    by_test : (t : Bool) → (a == b) ≡ t → not t ≡ true
    by_test true e = absurd (h (eqb-true a b e))
    by_test false e = refl

-- a capcode that passes the test is usable
pub IsUsable-from_is_usable : (n : ℕ) → is_usable n ≡ true → IsUsable n
IsUsable-from_is_usable n h =
    let one = both_hold (nat_lt n (2 ^ 21)) (not (high_of n == idle_high) && not (high_of n == sync_high)) h in
    let two = both_hold (not (high_of n == idle_high)) (not (high_of n == sync_high)) one.1 in
    let low : nat_lt n (2 ^ 21) ≡ true = one.0 in
    record {
      small = grind (arith, nat_tests, low);
      not_idle = unequal (high_of n) idle_high two.0;
      not_sync = unequal (high_of n) sync_high two.1;
    }

-- a usable capcode passes the test
pub is_usable-from_IsUsable : (n : ℕ) → IsUsable n → is_usable n ≡ true
is_usable-from_IsUsable n h =
    let low : nat_lt n (2 ^ 21) ≡ true = (let s = h.small in grind (arith, nat_tests)) in
    let idle = not_equal (high_of n) idle_high h.not_idle in
    let sync = not_equal (high_of n) sync_high h.not_sync in
    rw (low, idle, sync) refl
