-- Fronts and counts that stop at a bound.
use Rattle.std.proofs.Common.{◌≡◌, ℕ, ◌+◌, ◌<◌, ◌≤◌, true, false, List, [], ◌∷◌, ◌++◌, length, take, refl, arith, inl, inr, min, length-append, nat_lt}
use Rattle.std.proofs.lemmas.Bool.Decides.{nat_tests}
use Rattle.std.proofs.lemmas.List.{take-append-le, take_all, length-take-le}
use Rattle.std.proofs.lemmas.Bool.{cases_lt}
use Rattle.entry_line.specs.Kept.{push_within, count_within}

-- a front with one character more
pub take_push : (n : ℕ) (b : List ℕ) (c : ℕ) → push_within n (take n b) c ≡ take n (b ++ c ∷ [])
take_push n b c = elim (cases_lt (length b) n) [ inl h ↦ short n b c h | inr h ↦ long n b c h ]
  where
    short : (n : ℕ) (b : List ℕ) (c : ℕ) → length b < n → push_within n (take n b) c ≡ take n (b ++ c ∷ [])
    short n b c h =
        let e : take n b ≡ b = take_all n b (omega arith) in
        let f : take n (b ++ c ∷ []) ≡ b ++ c ∷ [] = take_all n (b ++ c ∷ []) (simp length-append (omega arith)) in
        let t : nat_lt (length b) n ≡ true = grind (arith, nat_tests) in
        rw (e, f, t) refl

    long : (n : ℕ) (b : List ℕ) (c : ℕ) → n ≤ length b → push_within n (take n b) c ≡ take n (b ++ c ∷ [])
    long n b c h =
        let e : take n (b ++ c ∷ []) ≡ take n b = take-append-le n b (c ∷ []) h in
        let k : length (take n b) ≡ n = length-take-le n b h in
        let t : nat_lt n n ≡ false = grind (arith, nat_tests) in
        rw (e, k, t) refl

-- a length that stops at a bound, with one character more
pub count_push : (n k : ℕ) → count_within n (min k n) ≡ min (k + 1) n
count_push n k = grind (arith, nat_tests)
