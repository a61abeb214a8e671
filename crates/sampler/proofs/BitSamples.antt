-- The samples of bits, one bit after another.
use Rattle.std.proofs.Common.{◌≡◌, ◌≢◌, ℕ, suc, ◌+◌, ◌-◌, ◌*◌, ◌%◌, ◌<◌, ◌≤◌, Bool, true, false, List, [], ◌∷◌, ◌++◌, length, replicate, Option, Result, Some, None, Ok, Err, IsTrue, refl, sym, ◌∙◌, ap, subst, arith, append-nil, append_assoc}
use Rattle.std.proofs.lemmas.List.{length-replicate, replicate-append-replicate}
use Rattle.std.specs.Bool.{beq}
use Rattle.std.specs.Prelude.{if◌then◌else◌, OnOk}
use Rattle.rand_pcg.specs.Lcg.{Lcg, started, increment_of}
use Rattle.rand_pcg.specs.Pcg.{multiplier_64, pcg32}
use Rattle.wires.specs.Ahead.{Fills}
use Rattle.wires.specs.Left.{Left, TakesOne, Pops}
use Rattle.wires.proofs.Causes.{cause_ok, cause_then}
use Rattle.wires.proofs.Written.{still}
use Rattle.sampler.specs.Runs.{Run, with_bit, runs, Apart}
use Rattle.sampler.specs.Stacked.{ahead_bits, ahead_of, moved, samples_of, sampling_over}
use Rattle.sampler.specs.Strayed.{edge_after, strayed, strayed_runs}
use Rattle.sampler.specs.declared.sampling.Ahead.{Ahead}
use Rattle.sampler.specs.declared.sampling.Ahead.TheVariants.{Unread, Bit, End}
use Rattle.sampler.proofs.Line.{runs-apart}
use Rattle.sampler.proofs.Runs.{run, beq-is}

-- one bit more before the runs
shift : (generator : Lcg) (n place : ℕ) (rs : List Run) → 0 < n → strayed_runs generator (suc n) (place + 8) rs ≡ strayed_runs generator n place rs
unfolding strayed_runs
shift generator n place [] h = refl
shift generator n place (r ∷ []) h = let e : 8 * (suc n + r.count) - (place + 8) ≡ 8 * (n + r.count) - place = omega arith in ap (λ (k : ℕ). replicate k r.value) e
shift generator n place (r ∷ next ∷ rs) h =
    let s : suc n + r.count ≡ suc (n + r.count) = omega arith in
    let e : edge_after (suc n + r.count) generator ≡ edge_after (n + r.count) generator + 8 = omega (arith, h) in
    let f : edge_after (suc n + r.count) generator - (place + 8) ≡ edge_after (n + r.count) generator - place = omega (arith, e) in
    let rest : strayed_runs (pcg32 generator).1 (suc n + r.count) (edge_after (suc n + r.count) generator) (next ∷ rs) ≡ strayed_runs (pcg32 generator).1 (n + r.count) (edge_after (n + r.count) generator) (next ∷ rs) =
    ap (λ (k : ℕ). strayed_runs (pcg32 generator).1 (suc n + r.count) k (next ∷ rs)) e
    ∙ (ap (λ (k : ℕ). strayed_runs (pcg32 generator).1 k (edge_after (n + r.count) generator + 8) (next ∷ rs)) s ∙ shift (pcg32 generator).1 (n + r.count) (edge_after (n + r.count) generator) (next ∷ rs) (omega (arith, h))) in
    ap (λ (k : ℕ). replicate k r.value ++ strayed_runs (pcg32 generator).1 (suc n + r.count) (edge_after (suc n + r.count) generator) (next ∷ rs)) f
    ∙ ap (λ (xs : List Bool). replicate (edge_after (n + r.count) generator - place) r.value ++ xs) rest

-- the start is as after one bit whose end isn't moved
from_start : (generator : Lcg) (rs : List Run) → Apart rs → strayed_runs generator 1 8 rs ≡ strayed_runs generator 0 0 rs
unfolding strayed_runs
from_start generator [] h = refl
from_start generator (r ∷ []) h = let e : 8 * (1 + r.count) - 8 ≡ 8 * (0 + r.count) - 0 = omega arith in ap (λ (k : ℕ). replicate k r.value) e
from_start generator (r ∷ next ∷ rs) h =
    let s : 1 + r.count ≡ suc (0 + r.count) = omega arith in
    let e : edge_after (1 + r.count) generator ≡ edge_after (0 + r.count) generator + 8 = omega (arith, h.0) in
    let f : edge_after (1 + r.count) generator - 8 ≡ edge_after (0 + r.count) generator - 0 = omega (arith, e) in
    let rest : strayed_runs (pcg32 generator).1 (1 + r.count) (edge_after (1 + r.count) generator) (next ∷ rs) ≡ strayed_runs (pcg32 generator).1 (0 + r.count) (edge_after (0 + r.count) generator) (next ∷ rs) =
    ap (λ (k : ℕ). strayed_runs (pcg32 generator).1 (1 + r.count) k (next ∷ rs)) e
    ∙ (ap (λ (k : ℕ). strayed_runs (pcg32 generator).1 k (edge_after (0 + r.count) generator + 8) (next ∷ rs)) s ∙ shift (pcg32 generator).1 (0 + r.count) (edge_after (0 + r.count) generator) (next ∷ rs) (omega (arith, h.0))) in
    ap (λ (k : ℕ). replicate k r.value ++ strayed_runs (pcg32 generator).1 (1 + r.count) (edge_after (1 + r.count) generator) (next ∷ rs)) f
    ∙ ap (λ (xs : List Bool). replicate (edge_after (0 + r.count) generator - 0) r.value ++ xs) rest

pub strayed-start : (bits : List Bool) (seed : ℕ) → strayed_runs (started 64 multiplier_64 seed (increment_of 64 1)) 1 8 (runs bits) ≡ strayed bits seed
unfolding strayed
strayed-start bits seed = from_start (started 64 multiplier_64 seed (increment_of 64 1)) (runs bits) (runs-apart bits)

-- the first run begins with the first bit
with_bit-first : (b : Bool) (rs : List Run) → (m : ℕ) × (ss : List Run) × (with_bit b rs ≡ run b (suc m) ∷ ss)
with_bit-first b [] = (0, [], refl)
with_bit-first b (r ∷ rs) = elim (beq b r.value) as (λ t. (m : ℕ) × (ss : List Run) × ((if t then (run b (suc r.count) ∷ rs) else (run b 1 ∷ r ∷ rs)) ≡ run b (suc m) ∷ ss)) [
  | true ↦ (r.count, rs, refl)
  | false ↦ (0, r ∷ rs, refl)
]

with_bit-run : (v : Bool) (m : ℕ) (ss : List Run) → with_bit v (run v m ∷ ss) ≡ run v (suc m) ∷ ss
with_bit-run true m ss = refl
with_bit-run false m ss = refl

-- a bit before an equal one
same_bit : (generator : Lcg) (d : ℕ) (v : Bool) (m : ℕ) (ss : List Run) → d < 3 → 0 < m → strayed_runs generator 1 (7 + d) (run v (suc m) ∷ ss) ≡ replicate (9 - d) v ++ strayed_runs generator 1 8 (run v m ∷ ss)
unfolding strayed_runs
same_bit generator d v m [] h some =
    let e : 8 * (1 + suc m) - (7 + d) ≡ 9 - d + (8 * (1 + m) - 8) = omega (arith, h) in
    ap (λ (k : ℕ). replicate k v) e ∙ sym (replicate-append-replicate (9 - d) (8 * (1 + m) - 8) v)
same_bit generator d v m (next ∷ ss) h some =
    let s : 1 + suc m ≡ suc (1 + m) = omega arith in
    let e : edge_after (1 + suc m) generator ≡ edge_after (1 + m) generator + 8 = omega arith in
    let f : edge_after (1 + suc m) generator - (7 + d) ≡ 9 - d + (edge_after (1 + m) generator - 8) = omega (arith, e, h, some) in
    let rest : strayed_runs (pcg32 generator).1 (1 + suc m) (edge_after (1 + suc m) generator) (next ∷ ss) ≡ strayed_runs (pcg32 generator).1 (1 + m) (edge_after (1 + m) generator) (next ∷ ss) =
    ap (λ (k : ℕ). strayed_runs (pcg32 generator).1 (1 + suc m) k (next ∷ ss)) e
    ∙ (ap (λ (k : ℕ). strayed_runs (pcg32 generator).1 k (edge_after (1 + m) generator + 8) (next ∷ ss)) s ∙ shift (pcg32 generator).1 (1 + m) (edge_after (1 + m) generator) (next ∷ ss) (omega arith)) in
    ap (λ (k : ℕ). replicate k v ++ strayed_runs (pcg32 generator).1 (1 + suc m) (edge_after (1 + suc m) generator) (next ∷ ss)) f
    ∙ (ap (λ (xs : List Bool). xs ++ strayed_runs (pcg32 generator).1 (1 + suc m) (edge_after (1 + suc m) generator) (next ∷ ss)) (sym (replicate-append-replicate (9 - d) (edge_after (1 + m) generator - 8) v))
    ∙ (append_assoc (replicate (9 - d) v) (replicate (edge_after (1 + m) generator - 8) v) (strayed_runs (pcg32 generator).1 (1 + suc m) (edge_after (1 + suc m) generator) (next ∷ ss))
    ∙ ap (λ (xs : List Bool). replicate (9 - d) v ++ (replicate (edge_after (1 + m) generator - 8) v ++ xs)) rest))

-- a bit before another one
other_bit : (generator : Lcg) (d : ℕ) (v : Bool) (next : Run) (ss : List Run) → d < 3
    → strayed_runs generator 1 (7 + d) (run v 1 ∷ next ∷ ss) ≡ replicate (8 + (pcg32 generator).0 % 3 - d) v ++ strayed_runs (pcg32 generator).1 1 (7 + (pcg32 generator).0 % 3) (next ∷ ss)
unfolding strayed_runs
other_bit generator d v next ss h =
    let e : edge_after 2 generator ≡ 7 + (pcg32 generator).0 % 3 + 8 = omega arith in
    let f : edge_after 2 generator - (7 + d) ≡ 8 + (pcg32 generator).0 % 3 - d = omega (arith, e, h) in
    ap (λ (k : ℕ). replicate k v ++ strayed_runs (pcg32 generator).1 2 (edge_after 2 generator) (next ∷ ss)) f
    ∙ ap (λ (xs : List Bool). replicate (8 + (pcg32 generator).0 % 3 - d) v ++ xs)
    (ap (λ (k : ℕ). strayed_runs (pcg32 generator).1 2 k (next ∷ ss)) e ∙ shift (pcg32 generator).1 1 (7 + (pcg32 generator).0 % 3) (next ∷ ss) (omega arith))

-- what is said of a bit and of what comes after it
abbrev StepsOn : Lcg → ℕ → Bool → ℕ × Lcg → List Run → List Run → Type 0
StepsOn generator d v m whole rest = strayed_runs generator 1 (7 + d) whole ≡ replicate (8 + m.0 - d) v ++ strayed_runs m.1 1 (7 + m.0) rest

-- the samples of the first bit, and then those of the others
next_bit : (generator : Lcg) (d : ℕ) (v : Bool) (after : Option Bool) (left : List Bool) → d < 3
    → StepsOn generator d v (moved generator v after) (runs (v ∷ ahead_bits (ahead_of after) left)) (runs (ahead_bits (ahead_of after) left))
unfolding runs strayed_runs
next_bit generator d v None left h = let e : 16 - (7 + d) ≡ 9 - d = omega (arith, h) in ap (λ (k : ℕ). replicate k v) e ∙ sym (append-nil (replicate (9 - d) v))
next_bit generator d v (Some b) left h =
    let first = with_bit-first b (runs left) in
    let m : ℕ = suc first.0 in
    let ss = first.1 in
    subst (λ (rs : List Run). StepsOn generator d v (moved generator v (Some b)) (with_bit v rs) rs) (sym first.2)
    (elim (beq v b) as (λ t. beq v b ≡ t → StepsOn generator d v (if t then (1, generator) else ((pcg32 generator).0 % 3, (pcg32 generator).1)) (if t then (run v (suc m) ∷ ss) else (run v 1 ∷ run b m ∷ ss)) (run b m ∷ ss)) [
      | true ↦ λ e. subst (λ (w : Bool). strayed_runs generator 1 (7 + d) (run v (suc m) ∷ ss) ≡ replicate (9 - d) v ++ strayed_runs generator 1 8 (run w m ∷ ss)) (beq-is v b e) (same_bit generator d v m ss h (omega arith))
      | false ↦ λ e. other_bit generator d v (run b m) ss h
    ] refl)

answered : (E : Type 0) (x y : List Bool) (after : Option Bool) → Pops {E = E} x y (Ok after) → x ≡ ahead_bits (ahead_of after) y
answered E x y None h = h.0
answered E x y (Some b) h = h

-- the first bit is asked for
pub first_read : {E F : Type 0} (value : Bool) (generator : Lcg) (d : ℕ) (x y : Left Bool) (after : Option Bool) → TakesOne {E = E} x y (Ok after)
    → Fills {T = Unit {0}} {E = F} (sampling_over 0 value generator d Unread x) (sampling_over 0 value generator d (ahead_of after) y) (ahead_bits (ahead_of after) []) (Ok (tt {0}))
unfolding runs strayed_runs
first_read value generator d x y None h = record {
  tells = h.tells;
  left = λ t. ap (λ (bs : List Bool). strayed_runs generator 1 (7 + d) (runs bs)) (sym (h.left t).0);
  there = λ t here. h.came t;
  came = λ t. h.came t;
  end = λ t e. ap (λ (bs : List Bool). strayed_runs generator 1 (7 + d) (runs bs)) (h.left t).0;
  steady = λ t s. (refl, (h.steady t s).1);
  faults = cause_ok None (tt {0}) h.faults;
  lent = h.lent;
}
first_read value generator d x y (Some b) h = record {
  tells = h.tells;
  left = λ t. ap (λ (bs : List Bool). strayed_runs generator 1 (7 + d) (runs bs)) (sym (h.left t));
  there = λ t here. h.came t;
  came = λ t. h.came t;
  end = λ t e. cc;
  steady = λ t s. (refl, (h.steady t s).1);
  faults = cause_ok (Some b) (tt {0}) h.faults;
  lent = h.lent;
}

-- it was asked for before
pub was_begun : {E : Type 0} (value : Bool) (generator : Lcg) (d : ℕ) (ahead : Ahead) (x : Left Bool) → ahead ≢ Unread
    → Fills {T = Unit {0}} {E = E} (sampling_over 0 value generator d ahead x) (sampling_over 0 value generator d ahead x) (ahead_bits ahead []) (Ok (tt {0}))
unfolding runs strayed_runs
was_begun value generator d Unread x h = absurd (h refl)
was_begun value generator d (Bit b) x h = record {
  tells = refl;
  left = λ t. refl;
  there = λ t here. here;
  came = λ t. refl;
  end = λ t e. cc;
  steady = λ t s. (refl, s);
  faults = record { later = omega arith; failed = tt; kept = refl };
  lent = refl;
}
was_begun value generator d End x h = record {
  tells = refl;
  left = λ t. refl;
  there = λ t here. here;
  came = λ t. refl;
  end = λ t e. refl;
  steady = λ t s. (refl, s);
  faults = record { later = omega arith; failed = tt; kept = refl };
  lent = refl;
}

-- the samples of a bit are begun
pub placed : {E F : Type 0} (before value : Bool) (generator generator' : Lcg) (d d' pending : ℕ) (x y : Left Bool) (after : Option Bool) → d < 3 → (d', generator') ≡ moved generator value after → pending ≡ 8 + d' - d → TakesOne {E = E} x y (Ok after)
    → Fills {T = Unit {0}} {E = F} (sampling_over 0 before generator d (Bit value) x) (sampling_over pending value generator' d' (ahead_of after) y) (replicate pending value) (Ok (tt {0}))
placed {E} before value generator generator' d d' pending x y after lt e p h = record {
  tells = h.tells;
  left = λ t.
      let step : StepsOn generator d value (d', generator') (runs (value ∷ ahead_bits (ahead_of after) y.left)) (runs (ahead_bits (ahead_of after) y.left)) =
      subst (λ (m : ℕ × Lcg). StepsOn generator d value m (runs (value ∷ ahead_bits (ahead_of after) y.left)) (runs (ahead_bits (ahead_of after) y.left))) (sym e) (next_bit generator d value after y.left lt) in
      ap (λ (k : ℕ). replicate k value ++ strayed_runs generator' 1 (7 + d') (runs (ahead_bits (ahead_of after) y.left))) p
      ∙ (sym step ∙ ap (λ (bs : List Bool). strayed_runs generator 1 (7 + d) (runs (value ∷ bs))) (sym (answered E x.left y.left after (h.left t))));
  there = λ t here. refl;
  came = λ t. refl;
  end = λ t none. absurd (omega (arith, ap length none, length-replicate pending value, p, lt));
  steady = λ t s. (refl, (h.steady t s).1);
  faults = cause_ok after (tt {0}) h.faults;
  lent = h.lent;
}

-- the same, as the code has it
pub placed_from : {E F : Type 0} (before value : Bool) (generator generator' : Lcg) (d d' none pending : ℕ) (ahead : Ahead) (x y : Left Bool) (after : Option Bool) → none ≡ 0 → ahead ≡ Bit value → d < 3 → (d', generator') ≡ moved generator value after → pending ≡ 8 + d' - d
    → TakesOne {E = E} x y (Ok after) → Fills {T = Unit {0}} {E = F} (sampling_over none before generator d ahead x) (sampling_over pending value generator' d' (ahead_of after) y) (replicate pending value) (Ok (tt {0}))
placed_from before value generator generator' d d' none pending ahead x y after z a lt e p h = rw (z, a) (placed before value generator generator' d d' pending x y after lt e p h)

came_then : {T U E F : Type 0} (a b c : Left Bool) (p q : List Bool) (v : T) (r : Result U F) → Fills {E = E} a b p (Ok v) → Fills b c q r → IsTrue a.tells → OnOk r (IsTrue a.there)
came_then a b c p q v (Ok u) h k t = h.there t (k.came (still h.tells t))
came_then a b c p q v (Err e) h k t = tt

end_then : {T U E F : Type 0} (a b c : Left Bool) (p q : List Bool) (v : T) (r : Result U F) → Fills {E = E} a b p (Ok v) → Fills b c q r → IsTrue a.tells → OnOk r (q ≡ [] → a.left ≡ [])
end_then a b c p q v (Ok u) h k t = λ e. sym (h.left t) ∙ k.end (still h.tells t) e
end_then a b c p q v (Err e) h k t = tt

-- one step of a fill after another
pub Fills-then : {T U E F : Type 0} (a b c : Left Bool) (p q : List Bool) (v : T) (r : Result U F) → Fills {E = E} a b p (Ok v) → Fills b c q r → Fills a c q r
Fills-then a b c p q v r h k = record {
  tells = k.tells ∙ h.tells;
  left = λ t. k.left (still h.tells t) ∙ h.left t;
  there = λ t here. h.there t (k.there (still h.tells t) here);
  came = λ t. came_then a b c p q v r h k t;
  end = λ t. end_then a b c p q v r h k t;
  steady = λ t s. k.steady (still h.tells t) (h.steady t s).1;
  faults = cause_then h.faults k.faults;
  lent = k.lent ∙ h.lent;
}

-- some samples of a bit are given out, behind others
pub parted : (pending n : ℕ) (value : Bool) (samples samples' : List Bool) → n ≤ pending → samples' ≡ samples ++ replicate n value → samples ++ replicate pending value ≡ samples' ++ replicate (pending - n) value
parted pending n value samples samples' le is =
    let e : n + (pending - n) ≡ pending = omega (arith, le) in
    ap (λ (k : ℕ). samples ++ replicate k value) (sym e)
    ∙ (ap (λ (l : List Bool). samples ++ l) (sym (replicate-append-replicate n (pending - n) value))
    ∙ (sym (append_assoc samples (replicate n value) (replicate (pending - n) value)) ∙ ap (λ (l : List Bool). l ++ replicate (pending - n) value) (sym is)))

-- the samples of the next bit are begun, where the bit behind it was read
pub goes_on : (before value value' : Bool) (generator generator' : Lcg) (d d' none pending : ℕ) (ahead ahead' : Ahead) (after : Bool) (ready ready' below : List Bool) → none ≡ 0 → ahead ≡ Bit value → ready ≡ after ∷ ready' → d < 3 → (d', generator') ≡ moved generator value (Some after)
    → pending ≡ 8 + d' - d → value' ≡ value → ahead' ≡ ahead_of (Some after) → samples_of none before generator d ahead (ready ++ below) ≡ samples_of pending value' generator' d' ahead' (ready' ++ below)
goes_on before value value' generator generator' d d' none pending ahead ahead' after ready ready' below z a r lt e p v b =
    let left = ready' ++ below in
    let step : StepsOn generator d value (d', generator') (runs (value ∷ after ∷ left)) (runs (after ∷ left)) =
    subst (λ (m : ℕ × Lcg). StepsOn generator d value m (runs (value ∷ after ∷ left)) (runs (after ∷ left))) (sym e) (next_bit generator d value (Some after) left lt) in
    rw (z, a, r, p, v, b) step
