-- The lists of subscribers and of receivers.
use Rattle.std.proofs.Common.{◌≡◌, ◌==◌, ℕ, zero, suc, ◌+◌, ◌<◌, ◌≤◌, Bool, false, ◌||◌, List, [], ◌∷◌, ◌++◌, map, length, slice_index_or, Result, Ok, Err, IfOk, arith, refl, subst, ap, sym, ◌∙◌}
use Rattle.std.proofs.lemmas.Bool.{ne_eqb}
use Rattle.std.proofs.lemmas.List.FromFn.{map-range_with_len_more, get_or-map-range_with_len, length-map-range_with_len}
use Rattle.std.specs.List.{AllByRecursion, IsDistinct, range_with_len}
use Rattle.codeword.specs.declared.functions.Function.{Function}
use Rattle.receiver.specs.Listeners.{is_one_of}
use Rattle.receiver.specs.Receivers.{is_listed}
use Rattle.subscribers.specs.Made.{made_parts, numbers_of}
use Rattle.load.specs.Subscribers.{id_number, capcode_number, function_number, load_capcodes, load_settings, receivers_before, subscribers_before}

pub if_ok : {A E : Type 0} (r : Result A E) (P Q : A → Type 0) → ((x : A) → P x → Q x) → IfOk r P → IfOk r Q
if_ok (Ok x) P Q f h = f x h
if_ok (Err e) P Q f h = tt

-- one more
pub subscribers-more : (n a b : ℕ) (f : Function) (ids new : List (ℕ × ℕ × Function)) → new ≡ ids ++ (a, b, f) ∷ [] → ids ≡ subscribers_before n → a ≡ id_number n → b ≡ capcode_number n → f ≡ function_number n
    → new ≡ subscribers_before (n + 1)
subscribers-more n a b f ids new is so_far first second third =
    is
    ∙ ap (λ l. l ++ (a, b, f) ∷ []) so_far
    ∙ ap (λ (x : ℕ). subscribers_before n ++ (x, b, f) ∷ []) first
    ∙ ap (λ (x : ℕ). subscribers_before n ++ (id_number n, x, f) ∷ []) second
    ∙ ap (λ (x : Function). subscribers_before n ++ (id_number n, capcode_number n, x) ∷ []) third
    ∙ sym (map-range_with_len_more (λ i. (id_number i, capcode_number i, function_number i)) 0 n n (omega arith))

pub receivers-more : (n a b : ℕ) (pairs new : List (ℕ × ℕ)) → new ≡ pairs ++ (a, b) ∷ [] → pairs ≡ receivers_before n → a ≡ n + 1 → b ≡ capcode_number n → new ≡ receivers_before (n + 1)
receivers-more n a b pairs new is so_far first second =
    is
    ∙ ap (λ l. l ++ (a, b) ∷ []) so_far
    ∙ ap (λ (x : ℕ). receivers_before n ++ (x, b) ∷ []) first
    ∙ ap (λ (x : ℕ). receivers_before n ++ (n + 1, x) ∷ []) second
    ∙ sym (map-range_with_len_more (λ i. (i + 1, capcode_number i)) 0 n n (omega arith))

-- the numbers of the ids differ

others : (b a n : ℕ) → b < a → AllByRecursion (λ y. (id_number b == y) ≡ false) (numbers_of (map (λ i. (id_number i, capcode_number i, function_number i)) (range_with_len a n)))
others b a zero below = tt
others b a (suc n) below = (ne_eqb (id_number b) (id_number a) (λ e. omega arith), others b (a + 1) n (omega arith))

differ-from : (a n : ℕ) → IsDistinct ◌==◌ (numbers_of (map (λ i. (id_number i, capcode_number i, function_number i)) (range_with_len a n)))
unfolding IsDistinct
differ-from a zero = tt
differ-from a (suc n) = (others a (a + 1) n (omega arith), differ-from (a + 1) n)

pub numbers-differ : (ids : List (ℕ × ℕ × Function)) → ids ≡ subscribers_before 64 → IsDistinct ◌==◌ (numbers_of ids)
numbers-differ ids is = subst (λ l. IsDistinct ◌==◌ (numbers_of l)) (sym is) (differ-from 0 64)

pub settings-made : (ids : List (ℕ × ℕ × Function)) → ids ≡ subscribers_before 64 → made_parts 65536 ids ≡ load_settings
unfolding load_settings
settings-made ids is = ap (made_parts 65536) is

-- the receivers have numbers from 1 to 64
pub numbers-in : (pairs : List (ℕ × ℕ)) → pairs ≡ receivers_before 64 → (k : ℕ) (d : ℕ × ℕ) → k < length pairs → (1 ≤ (slice_index_or pairs k d).0) × ((slice_index_or pairs k d).0 ≤ 64)
numbers-in pairs is k d within =
    let size : length pairs ≡ 64 = ap length is ∙ length-map-range_with_len {X = ℕ × ℕ} (λ i. (i + 1, capcode_number i)) 0 64 in
    let at : slice_index_or pairs k d ≡ (k + 1, capcode_number k) = ap (λ l. slice_index_or l k d) is ∙ get_or-map-range_with_len {X = ℕ × ℕ} (λ i. (i + 1, capcode_number i)) 0 64 k k d (omega (arith, size)) (omega arith) in
    subst (λ (p : ℕ × ℕ). (1 ≤ p.0) × (p.0 ≤ 64)) (sym at) (omega arith, omega (arith, size))

-- the capcodes that are listened to
listed : (c : ℕ) (xs : List ℕ) → is_listed (map (λ i. (i + 1, capcode_number i)) xs) c ≡ is_one_of (map capcode_number xs) c
listed c [] = refl
listed c (x ∷ xs) = ap (λ (b : Bool). (capcode_number x == c) || b) (listed c xs)

pub listed-capcodes : (pairs : List (ℕ × ℕ)) → pairs ≡ receivers_before 64 → (c : ℕ) → is_listed pairs c ≡ is_one_of load_capcodes c
unfolding load_capcodes
listed-capcodes pairs is c = ap (λ l. is_listed l c) is ∙ listed c (range_with_len 0 64)
