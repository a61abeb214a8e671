-- The bits of a line.
use Rattle.std.proofs.Common.{◌≡◌, ℕ, zero, suc, ◌+◌, ◌-◌, ◌*◌, ◌/◌, ◌<◌, ◌≤◌, Bool, true, false, List, [], ◌∷◌, ◌++◌, length, take, drop, get_or, replicate, refl, sym, ◌∙◌, ap, subst, arith}
use Rattle.std.proofs.lemmas.List.{drop_all, drop-drop, get_or-drop, get_or-replicate, get_or-take, length-drop, length-replicate, length-take, same_lists, get_or_default, take-append-drop}
use Rattle.std.proofs.Math.Nat.{mul-le-mul_right, mul-add}
use Rattle.std.specs.Bool.{beq}
use Rattle.std.specs.List.{flat_map}
use Rattle.std.specs.Prelude.{if◌then◌else◌}
use Rattle.sampler.specs.Laws.{LineBack, RunsAreMaximal}
use Rattle.sampler.specs.Line.{Within, total, value_at}
use Rattle.sampler.specs.Runs.{Apart, Other, Run, spread, with_bit, run_bits, runs, sampled_bits}
use Rattle.sampler.proofs.Runs.{run, beq-is, more, more-other, runs-front}

with_bit-apart : (b : Bool) (rs : List Run) → Apart rs → Apart (with_bit b rs)
with_bit-apart b [] h = (omega arith, tt, tt)
with_bit-apart b (r ∷ rs) h = elim (beq b r.value) as (λ t. beq b r.value ≡ t → Apart (if t then (run b (suc r.count) ∷ rs) else (run b 1 ∷ r ∷ rs))) [
  | true ↦ λ e. (omega arith, subst (λ (v : Bool). Other v rs) (sym (beq-is b r.value e)) h.1, h.2)
  | false ↦ λ e. (omega arith, e, h)
] refl

pub runs-apart : (bs : List Bool) → Apart (runs bs)
unfolding runs
runs-apart [] = tt
runs-apart (b ∷ bs) = with_bit-apart b (runs bs) (runs-apart bs)

with_bit-spread : (b : Bool) (rs : List Run) → spread (with_bit b rs) ≡ b ∷ spread rs
with_bit-spread b [] = refl
with_bit-spread b (r ∷ rs) = elim (beq b r.value) as (λ t. beq b r.value ≡ t → spread (if t then (run b (suc r.count) ∷ rs) else (run b 1 ∷ r ∷ rs)) ≡ b ∷ spread (r ∷ rs)) [
  | true ↦ λ e. rw (beq-is b r.value e) refl
  | false ↦ λ e. refl
] refl

pub runs-spread : (bs : List Bool) → spread (runs bs) ≡ bs
unfolding runs
runs-spread [] = refl
runs-spread (b ∷ bs) = with_bit-spread b (runs bs) ∙ ap (λ (xs : List Bool). b ∷ xs) (runs-spread bs)

runs-from : (rs : List Run) → Apart rs → runs (spread rs) ≡ rs
unfolding runs
runs-from [] h = refl
runs-from (r ∷ rs) h =
    let n : r.count ≡ suc (r.count - 1) = omega (arith, h.0) in
    runs-front r.count r.value (spread rs)
    ∙ (ap (more r.count r.value) (runs-from rs h.2)
    ∙ subst (λ (k : ℕ). more k r.value rs ≡ run r.value k ∷ rs) (sym n) (more-other (r.count - 1) r.value rs h.1))

pub maximal_runs : RunsAreMaximal
maximal_runs bits = (runs-apart bits, runs-spread bits, λ rs h e. ap runs (sym e) ∙ runs-from rs h)

-- the runs between places
abbrev pub measured : List Run → (ℕ → ℕ) → List Run
measured [] place = []
measured (r ∷ rs) place = run r.value (place 1 - place 0) ∷ measured rs (λ j. place (suc j))

other-measured : (v : Bool) (rs : List Run) (place : ℕ → ℕ) → Other v rs → Other v (measured rs place)
other-measured v [] place h = h
other-measured v (r ∷ rs) place h = h

pub climbs : (n : ℕ) (place : ℕ → ℕ) → ((j : ℕ) → j < n → place j < place (suc j)) → place 0 ≤ place n
climbs zero place h = omega arith
climbs (suc n) place h = let a = climbs n (λ j. place (suc j)) (λ j l. h (suc j) (omega (arith, l))) in omega (arith, a, h 0 (omega arith))

-- equal samples from one place to another
front_run : (v : Bool) (a b : ℕ) (s : List Bool) → a ≤ b → b ≤ length s → ((i : ℕ) → a ≤ i → i < b → get_or s i false ≡ v) → drop a s ≡ replicate (b - a) v ++ drop b s
front_run v a b s le within h =
    let m : a + (b - a) ≡ b = omega (arith, le) in
    let n : length (take (b - a) (drop a s)) ≡ b - a = omega (arith, length-take (b - a) (drop a s), length-drop a s, le, within) in
    let same : take (b - a) (drop a s) ≡ replicate (b - a) v = same_lists _ _ (n ∙ sym (length-replicate (b - a) v)) (λ k d l.
    let l' : k < b - a = omega (arith, l, n) in
    let in_s : a + k < length s = omega (arith, l', le, within) in
    get_or-take (b - a) (drop a s) k d l' ∙ (get_or-drop a s k d ∙ (get_or_default s (a + k) d false in_s ∙ (h (a + k) (omega arith) (omega (arith, l', le)) ∙ sym (get_or-replicate (b - a) k v d l'))))) in
    sym (take-append-drop (b - a) (drop a s)) ∙ (ap (λ (xs : List Bool). xs ++ drop (b - a) (drop a s)) same ∙ ap (λ (xs : List Bool). replicate (b - a) v ++ xs) (drop-drop (b - a) a s ∙ ap (λ (k : ℕ). drop k s) m))

-- the runs of samples are those between the places
runs-measured : (rs : List Run) (place : ℕ → ℕ) (s : List Bool) → Apart rs → place (length rs) ≡ length s → ((j : ℕ) → j < length rs → place j < place (suc j))
    → ((j i : ℕ) → j < length rs → place j ≤ i → i < place (suc j) → get_or s i false ≡ value_at j rs) → runs (drop (place 0) s) ≡ measured rs place
unfolding runs
runs-measured [] place s apart end rises equal = ap runs (drop_all (place 0) s (omega (arith, end)))
runs-measured (r ∷ rs) place s apart end rises equal =
    let rest = runs-measured rs (λ j. place (suc j)) s apart.2 end (λ j l. rises (suc j) (omega (arith, l))) (λ j i l. equal (suc j) i (omega (arith, l))) in
    let up : place 0 < place 1 = rises 0 (omega arith) in
    let top : place 1 ≤ place (suc (length rs)) = climbs (length rs) (λ j. place (suc j)) (λ j l. rises (suc j) (omega (arith, l))) in
    let front : drop (place 0) s ≡ replicate (place 1 - place 0) r.value ++ drop (place 1) s = front_run r.value (place 0) (place 1) s (omega (arith, up)) (omega (arith, top, end)) (λ i. equal 0 i (omega arith)) in
    let n : place 1 - place 0 ≡ suc (place 1 - place 0 - 1) = omega (arith, up) in
    ap runs front ∙ (runs-front (place 1 - place 0) r.value (drop (place 1) s) ∙ (ap (more (place 1 - place 0) r.value) rest
    ∙ subst (λ (k : ℕ). more k r.value (measured rs (λ j. place (suc j))) ≡ run r.value k ∷ measured rs (λ j. place (suc j))) (sym n)
    (more-other (place 1 - place 0 - 1) r.value (measured rs (λ j. place (suc j))) (other-measured r.value rs (λ j. place (suc j)) apart.1))))

-- between two edges that stray by at most one sample each there are within three samples of eight times the bits
eighth : (rate t r a b : ℕ) → 8176 ≤ rate → rate ≤ 8208 → r ≤ 127 → a < b → Within 1024 (1024 * a) (rate * t) → Within 1024 (1024 * b) (rate * (t + r)) → (b - a + 4) / 8 ≡ r
eighth rate t r a b slow fast few up one two =
    let e : rate * (t + r) ≡ rate * t + rate * r = mul-add rate t r in
    let low : 8176 * r ≤ rate * r = mul-le-mul_right r slow in
    let high : rate * r ≤ 8208 * r = mul-le-mul_right r fast in
    omega (arith, e, low, high, one.below, one.above, two.below, two.above, few, up)

bits-measured : (rate t : ℕ) (rs : List Run) (place : ℕ → ℕ) → 8176 ≤ rate → rate ≤ 8208 → ((k : ℕ) (d : Run) → k < length rs → (get_or rs k d).count ≤ 127) → ((j : ℕ) → j < length rs → place j < place (suc j))
    → ((j : ℕ) → j ≤ length rs → Within 1024 (1024 * place j) (rate * (t + total (take j rs)))) → flat_map run_bits (measured rs place) ≡ spread rs
bits-measured rate t [] place slow fast few rises strays = refl
bits-measured rate t (r ∷ rs) place slow fast few rises strays =
    let t0 : t + 0 ≡ t = omega arith in
    let t1 : t + (r.count + 0) ≡ t + r.count = omega arith in
    let n = eighth rate t r.count (place 0) (place 1) slow fast (few 0 r (omega arith)) (rises 0 (omega arith))
    (subst (λ (k : ℕ). Within 1024 (1024 * place 0) (rate * k)) t0 (strays 0 (omega arith)))
    (subst (λ (k : ℕ). Within 1024 (1024 * place 1) (rate * k)) t1 (strays 1 (omega arith))) in
    let rest = bits-measured rate (t + r.count) rs (λ j. place (suc j)) slow fast (λ k d l. few (suc k) d (omega (arith, l))) (λ j l. rises (suc j) (omega (arith, l)))
    (λ j l. let e : t + (r.count + total (take j rs)) ≡ t + r.count + total (take j rs) = omega arith in subst (λ (k : ℕ). Within 1024 (1024 * place (suc j)) (rate * k)) e (strays (suc j) (omega (arith, l)))) in
    ap (λ (k : ℕ). replicate k r.value ++ flat_map run_bits (measured rs (λ j. place (suc j)))) n ∙ ap (λ (xs : List Bool). replicate r.count r.value ++ xs) rest

pub line_back : LineBack
unfolding sampled_bits
line_back bits samples line few =
    let z : drop (line.place 0) samples ≡ samples = ap (λ (k : ℕ). drop k samples) line.start in
    let same : runs samples ≡ measured (runs bits) line.place = ap runs (sym z) ∙ runs-measured (runs bits) line.place samples (runs-apart bits) line.end line.rises line.equal in
    let strays : (j : ℕ) → j ≤ length (runs bits) → Within 1024 (1024 * line.place j) (line.rate * (0 + total (take j (runs bits)))) =
    λ j l. (let e : 0 + total (take j (runs bits)) ≡ total (take j (runs bits)) = omega arith in subst (λ (k : ℕ). Within 1024 (1024 * line.place j) (line.rate * k)) (sym e) (line.strays j l)) in
    ap (λ (rs : List Run). flat_map run_bits rs) same ∙ (bits-measured line.rate 0 (runs bits) line.place line.slowest line.fastest few line.rises strays ∙ runs-spread bits)
