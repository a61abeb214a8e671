-- Runs, and the bits of samples.
use Rattle.std.proofs.Common.{◌≡◌, ◌≢◌, ℕ, zero, suc, ◌+◌, ◌/◌, ◌<◌, Bool, true, false, List, [], ◌∷◌, ◌++◌, drop, replicate, refl, sym, ◌∙◌, ap, subst, arith}
use Rattle.std.proofs.lemmas.List.{drop_at, length-replicate}
use Rattle.std.specs.Bool.{beq}
use Rattle.std.specs.List.{flat_map}
use Rattle.std.specs.Prelude.{if◌then◌else◌}
use Rattle.sampler.specs.Runs.{Other, Run, with_bit, run_bits, runs, sampled_bits}
use Rattle.sampler.specs.Stacked.{bits_after}

abbrev pub run : Bool → ℕ → Run
run b n = record { value = b; count = n }

pub beq-same : (b : Bool) → beq b b ≡ true
beq-same true = refl
beq-same false = refl

pub beq-is : (a b : Bool) → beq a b ≡ true → a ≡ b
beq-is true true h = refl
beq-is true false h = cc
beq-is false true h = cc
beq-is false false h = refl

beq-turned : (a b : Bool) → beq a b ≡ false → beq b a ≡ false
beq-turned true true h = h
beq-turned true false h = refl
beq-turned false true h = refl
beq-turned false false h = h

-- equal bits in front of runs
abbrev pub more : ℕ → Bool → List Run → List Run
more zero v rs = rs
more (suc n) v rs = with_bit v (more n v rs)

pub runs-front : (n : ℕ) (v : Bool) (bs : List Bool) → runs (replicate n v ++ bs) ≡ more n v (runs bs)
unfolding runs
runs-front zero v bs = refl
runs-front (suc n) v bs = ap (with_bit v) (runs-front n v bs)

with_bit-same : (v : Bool) (n : ℕ) (rs : List Run) → with_bit v (run v n ∷ rs) ≡ run v (suc n) ∷ rs
with_bit-same true n rs = refl
with_bit-same false n rs = refl

with_bit-other : (v : Bool) (rs : List Run) → Other v rs → with_bit v rs ≡ run v 1 ∷ rs
with_bit-other v [] h = refl
with_bit-other v (r ∷ rs) h = rw h refl

pub more-other : (n : ℕ) (v : Bool) (rs : List Run) → Other v rs → more (suc n) v rs ≡ run v (suc n) ∷ rs
more-other zero v rs h = with_bit-other v rs h
more-other (suc n) v rs h = ap (with_bit v) (more-other n v rs h) ∙ with_bit-same v (suc n) rs

more-same : (n : ℕ) (v : Bool) (c : ℕ) (rs : List Run) → more n v (run v c ∷ rs) ≡ run v (n + c) ∷ rs
more-same zero v c rs = let e : 0 + c ≡ c = omega arith in rw e refl
more-same (suc n) v c rs = let e : suc n + c ≡ suc (n + c) = omega arith in rw e (ap (with_bit v) (more-same n v c rs) ∙ with_bit-same v (n + c) rs)

pub other-with_bit : (v s : Bool) (rs : List Run) → beq v s ≡ false → Other v (with_bit s rs)
other-with_bit v s [] h = h
other-with_bit v s (r ∷ rs) h = elim (beq s r.value) as (λ b. Other v (if b then (run s (suc r.count) ∷ rs) else (run s 1 ∷ r ∷ rs))) [ true ↦ h | false ↦ h ]

bits-front : (n : ℕ) (v : Bool) (bs : List Bool) → sampled_bits (replicate n v ++ bs) ≡ flat_map run_bits (more n v (runs bs))
unfolding sampled_bits
bits-front n v bs = ap (λ (rs : List Run). flat_map run_bits rs) (runs-front n v bs)

-- a run that is whole gives its bits
pub whole_run : (n : ℕ) (v : Bool) (bs : List Bool) → Other v (runs bs) → sampled_bits (replicate n v ++ bs) ≡ replicate ((n + 4) / 8) v ++ sampled_bits bs
unfolding sampled_bits
whole_run zero v bs h = refl
whole_run (suc n) v bs h = bits-front (suc n) v bs ∙ ap (λ (rs : List Run). flat_map run_bits rs) (more-other n v (runs bs) h)

-- what is done where the first run has this value, and where it has another
by_first : (P : List Run → Type 0) (v : Bool) (rs : List Run) → ((c : ℕ) (ss : List Run) → P (run v c ∷ ss)) → (Other v rs → P rs) → P rs
by_first P v [] same other = other tt
by_first P v (r ∷ rs) same other = elim (beq v r.value) as (λ b. beq v r.value ≡ b → P (r ∷ rs)) [
  | true ↦ λ e. subst (λ (b : Bool). P (run b r.count ∷ rs)) (beq-is v r.value e) (same r.count rs)
  | false ↦ λ e. other e
] refl

eight_more : (v : Bool) (rs : List Run) → flat_map run_bits (more 8 v rs) ≡ v ∷ flat_map run_bits rs
eight_more v rs = by_first (λ rs. flat_map run_bits (more 8 v rs) ≡ v ∷ flat_map run_bits rs) v rs
    (λ c ss. ap (λ (xs : List Run). flat_map run_bits xs) (more-same 8 v c ss) ∙ (let e : (8 + c + 4) / 8 ≡ suc ((c + 4) / 8) = omega arith in ap (λ (k : ℕ). replicate k v ++ flat_map run_bits ss) e))
    (λ h. ap (λ (xs : List Run). flat_map run_bits xs) (more-other 7 v rs h))

starts : (v : Bool) (n : ℕ) (ys : List Bool) → replicate (suc n) v ++ ys ≡ v ∷ drop 1 (replicate (suc n) v ++ ys)
starts v n ys = refl

four_more : (v : Bool) (rs : List Run) → flat_map run_bits (more 4 v rs) ≡ v ∷ drop 1 (flat_map run_bits (more 4 v rs))
four_more v rs = by_first (λ rs. flat_map run_bits (more 4 v rs) ≡ v ∷ drop 1 (flat_map run_bits (more 4 v rs))) v rs
    (λ c ss. rw (more-same 4 v c ss) (let e : (4 + c + 4) / 8 ≡ suc (c / 8) = omega arith in rw e refl))
    (λ h. rw (more-other 3 v rs h) refl)

more_by_one : (n : ℕ) (v : Bool) (bs : List Bool) → replicate n v ++ v ∷ bs ≡ replicate (suc n) v ++ bs
more_by_one zero v bs = refl
more_by_one (suc n) v bs = ap (λ (xs : List Bool). v ∷ xs) (more_by_one n v bs)

-- no bit comes where the count goes on to another number than four
pub goes_on : (v : Bool) (c : ℕ) (bs : List Bool) → c < 7 → c ≢ 3 → bits_after v c (v ∷ bs) ≡ bits_after v (suc c) bs
goes_on v c bs h k =
    let e : (c + 4) / 8 ≡ (suc c + 4) / 8 = omega arith in
    rw (e, more_by_one c v bs) refl

pub gives : (v : Bool) (bs : List Bool) → bits_after v 3 (v ∷ bs) ≡ v ∷ bits_after v 4 bs
gives v bs = bits-front 4 v bs ∙ (four_more v (runs bs) ∙ ap (λ (xs : List Bool). v ∷ drop 1 xs) (sym (bits-front 4 v bs)))

pub begins_again : (v : Bool) (bs : List Bool) → bits_after v 7 (v ∷ bs) ≡ bits_after v 0 bs
unfolding sampled_bits
begins_again v bs = ap (drop 1) (bits-front 8 v bs ∙ eight_more v (runs bs))

pub at_edge : (v s : Bool) (c : ℕ) (bs : List Bool) → beq s v ≡ false → bits_after v c (s ∷ bs) ≡ bits_after s 1 bs
unfolding runs
at_edge v s c bs h =
    ap (drop ((c + 4) / 8)) (whole_run c v (s ∷ bs) (other-with_bit v s (runs bs) (beq-turned s v h)))
    ∙ drop_at (replicate ((c + 4) / 8) v) (sampled_bits (s ∷ bs)) ((c + 4) / 8) (length-replicate ((c + 4) / 8) v)

pub at_end : (v : Bool) (c : ℕ) → bits_after v c [] ≡ []
unfolding runs sampled_bits
at_end v c =
    ap (drop ((c + 4) / 8)) (whole_run c v [] tt)
    ∙ drop_at (replicate ((c + 4) / 8) v) [] ((c + 4) / 8) (length-replicate ((c + 4) / 8) v)
