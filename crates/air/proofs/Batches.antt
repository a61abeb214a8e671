-- Batches one after another.
use Rattle.std.proofs.Common.{◌≡◌, ℕ, zero, suc, ◌+◌, ◌-◌, ◌*◌, ◌<◌, ◌≤◌, List, ◌∷◌, ◌++◌, length, take, drop, refl, sym, ◌∙◌, ap, arith, append_assoc, append-nil, length-append, zero-add}
use Rattle.std.proofs.lemmas.List.{drop-drop, length-take-le, length-drop}
use Rattle.codeword.specs.declared.words.TheConstants.{SYNC}
use Rattle.air.specs.Air.{batches}

-- the last of some batches, counted from 0
pub batches-last : (k : ℕ) (slots : List ℕ) → batches (suc k) slots ≡ batches k slots ++ SYNC ∷ take 16 (drop (16 * k) slots)
unfolding batches
batches-last zero slots = ap (λ words. SYNC ∷ words) (append-nil (take 16 slots))
batches-last (suc k) slots =
    let e : 16 + 16 * k ≡ 16 * suc k = omega arith in
    ap (λ words. SYNC ∷ (take 16 slots ++ words))
    (batches-last k (drop 16 slots)
    ∙ ap (λ rest. batches k (drop 16 slots) ++ SYNC ∷ take 16 rest) (drop-drop (16 * k) 16 slots ∙ ap (λ d. drop d slots) e))
    ∙ ap (λ words. SYNC ∷ words) (sym (append_assoc (take 16 slots) (batches k (drop 16 slots)) (SYNC ∷ take 16 (drop (16 * suc k) slots))))

-- a batch has 17 words
pub length-batches : (n : ℕ) (slots : List ℕ) → 16 * n ≤ length slots → length (batches n slots) ≡ 17 * n
unfolding batches
length-batches zero slots l = refl
length-batches (suc n) slots l =
    omega (
      arith,
      l,
      length-append (take 16 slots) (batches n (drop 16 slots)),
      length-take-le 16 slots (omega (arith, l)),
      length-batches n (drop 16 slots) (omega (arith, l, length-drop 16 slots)),
    )

-- some batches, and those behind them
pub batches-add : (a b : ℕ) (slots : List ℕ) → batches (a + b) slots ≡ batches a slots ++ batches b (drop (16 * a) slots)
unfolding batches
batches-add zero b slots = ap (λ n. batches n slots) (zero-add b)
batches-add (suc a) b slots =
    let e : suc a + b ≡ suc (a + b) = omega arith in
    let f : 16 + 16 * a ≡ 16 * suc a = omega arith in
    ap (λ n. batches n slots) e
    ∙ ap (λ words. SYNC ∷ (take 16 slots ++ words))
    (batches-add a b (drop 16 slots) ∙ ap (λ rest. batches a (drop 16 slots) ++ batches b rest) (drop-drop (16 * a) 16 slots ∙ ap (λ d. drop d slots) f))
    ∙ ap (λ words. SYNC ∷ words) (sym (append_assoc (take 16 slots) (batches a (drop 16 slots)) (batches b (drop (16 * suc a) slots))))

-- the batches of a transmission up to one of them, this one, and those behind it
pub batches-at : (k n : ℕ) (slots : List ℕ) → k < n
    → batches k slots ++ ((SYNC ∷ take 16 (drop (16 * k) slots)) ++ batches (n - suc k) (drop (16 * suc k) slots)) ≡ batches n slots
batches-at k n slots h =
    let e : suc k + (n - suc k) ≡ n = omega (arith, h) in
    sym (append_assoc (batches k slots) (SYNC ∷ take 16 (drop (16 * k) slots)) (batches (n - suc k) (drop (16 * suc k) slots)))
    ∙ ap (λ words. words ++ batches (n - suc k) (drop (16 * suc k) slots)) (sym (batches-last k slots))
    ∙ sym (batches-add (suc k) (n - suc k) slots) ∙ ap (λ m. batches m slots) e
