-- The numbers in a set, one after another.
use Rattle.std.proofs.Common.{◌≡◌, ℕ, zero, suc, ◌+◌, ◌-◌, ◌/◌, ◌%◌, ◌^◌, ◌<◌, ◌≤◌, bit_and, Bool, true, false, ◌==◌, cond, List, [], ◌∷◌, Option, Some, None, refl, sym, ◌∙◌, ap, ap₂, eq-eqb, ne_eqb, add-one, arith}
use Rattle.std.proofs.Math.Nat.{pow-suc, div-div-eq-div-mul}
use Rattle.std.specs.Prelude.{filter}
use Rattle.std.specs.Int.{bit_at}
use Rattle.std.specs.List.{range_with_len, slice_get}
use Rattle.std.specs.Map.{lookup}
use Rattle.std.proofs.lemmas.Nat.Bits.{shr_and_one}
use Rattle.std.specs.BTreeMap.{is_at}
use Rattle.std.specs.Ordering.{nat_cmp}
use Rattle.receiver.proofs.Capcodes.{lookup-same}
use Rattle.receiver.specs.Receivers.{has_in, is_in_some, numbers_from, numbers_in, numbers_with}

one_more : (set n m : ℕ) → numbers_from set (suc n) (suc m) ≡ cond (bit_at set n == 1) (suc n ∷ numbers_from set (suc n + 1) m) (numbers_from set (suc n + 1) m)
unfolding numbers_from
one_more set n m = refl

-- the number n + 1 is among those from n + 1 on, or not
next_with : (set n : ℕ) (b : Bool) → n < 64 → (bit_at set n == 1) ≡ b
    → numbers_from set (suc n) (64 - n) ≡ cond b (suc n ∷ numbers_from set (suc (n + 1)) (64 - (n + 1))) (numbers_from set (suc (n + 1)) (64 - (n + 1)))
next_with set n b l t =
    let e : 64 - n ≡ suc (64 - (n + 1)) = omega arith in
    let f : suc n + 1 ≡ suc (n + 1) = omega arith in
    ap (numbers_from set (suc n)) e ∙ one_more set n (64 - (n + 1))
    ∙ ap₂ (λ (x : Bool) (start : ℕ). cond x (suc n ∷ numbers_from set start (64 - (n + 1))) (numbers_from set start (64 - (n + 1)))) t f

pub next_in : (set n : ℕ) → n < 64 → bit_and (set / 2 ^ n) 1 ≡ 1 → numbers_from set (suc n) (64 - n) ≡ suc n ∷ numbers_from set (suc (n + 1)) (64 - (n + 1))
next_in set n l h = next_with set n true l (eq-eqb (bit_at set n) 1 (sym (shr_and_one set n) ∙ h))

pub next_out : (set n : ℕ) → n < 64 → (bit_and (set / 2 ^ n) 1 ≡ 1 → ⊥) → numbers_from set (suc n) (64 - n) ≡ numbers_from set (suc (n + 1)) (64 - (n + 1))
next_out set n l h = next_with set n false l (ne_eqb (bit_at set n) 1 (λ e. h (shr_and_one set n ∙ e)))

pub found : (set n before : ℕ) (o : Option ℕ) → n < 64 → bit_and (set / 2 ^ n) 1 ≡ 1 → before ≡ 0 → o ≡ slice_get (numbers_from set (suc n) (64 - n)) before → Some (n + 1) ≡ o
found set n before o l h z is =
    let e : n + 1 ≡ suc n = omega arith in
    ap (λ (k : ℕ). Some k) e ∙ sym (is ∙ ap₂ (λ (xs : List ℕ) (k : ℕ). slice_get xs k) (next_in set n l h) z)

later : (x : ℕ) (xs : List ℕ) (before : ℕ) → (before ≡ 0 → ⊥) → slice_get (x ∷ xs) before ≡ slice_get xs (before - 1)
later x xs zero h = absurd (h refl)
later x xs (suc b) h = let e : b ≡ suc b - 1 = omega arith in ap (slice_get xs) e

pub goes_past : (set n before : ℕ) (o : Option ℕ) → n < 64 → bit_and (set / 2 ^ n) 1 ≡ 1 → (before ≡ 0 → ⊥) → o ≡ slice_get (numbers_from set (suc n) (64 - n)) before
    → o ≡ slice_get (numbers_from set (suc (n + 1)) (64 - (n + 1))) (before - 1)
goes_past set n before o l h z is =
    is ∙ ap (λ (xs : List ℕ). slice_get xs before) (next_in set n l h) ∙ later (suc n) (numbers_from set (suc (n + 1)) (64 - (n + 1))) before z

pub goes_on : (set n before : ℕ) (o : Option ℕ) → n < 64 → (bit_and (set / 2 ^ n) 1 ≡ 1 → ⊥) → o ≡ slice_get (numbers_from set (suc n) (64 - n)) before
    → o ≡ slice_get (numbers_from set (suc (n + 1)) (64 - (n + 1))) before
goes_on set n before o l h is = is ∙ ap (λ (xs : List ℕ). slice_get xs before) (next_out set n l h)

none_from : (set start before : ℕ) → slice_get (numbers_from set start 0) before ≡ None
unfolding numbers_from
none_from set start before = refl

pub none_left : (set n before : ℕ) (o : Option ℕ) → 64 ≤ n → o ≡ slice_get (numbers_from set (suc n) (64 - n)) before → None ≡ o
none_left set n before o l is =
    let e : 64 - n ≡ 0 = omega arith in
    sym (is ∙ ap (λ (m : ℕ). slice_get (numbers_from set (suc n) m) before) e ∙ none_from set (suc n) before)

half_none : (set n : ℕ) → set / 2 ^ n ≡ 0 → set / 2 ^ (n + 1) ≡ 0
half_none set n h =
    let z : 0 / 2 ≡ 0 = omega arith in
    ap (λ (k : ℕ). set / 2 ^ k) (add-one n) ∙ ap (λ (k : ℕ). set / k) (pow-suc 2 n) ∙ sym (div-div-eq-div-mul set (2 ^ n) 2) ∙ ap (λ (k : ℕ). k / 2) h ∙ z

-- no number from n + 1 on is in a set below 2 ^ n
numbers_above : (m set n : ℕ) → set / 2 ^ n ≡ 0 → numbers_from set (suc n) m ≡ []
unfolding numbers_from
numbers_above zero set n h = refl
numbers_above (suc m) set n h =
    let z : bit_at set n ≡ 0 = ap (λ (k : ℕ). k % 2) h in
    let f : suc n + 1 ≡ suc (n + 1) = omega arith in
    one_more set n m
    ∙ ap₂ (λ (x : Bool) (start : ℕ). cond x (suc n ∷ numbers_from set start m) (numbers_from set start m)) (ne_eqb (bit_at set n) 1 (λ e. omega (arith, e, z))) f
    ∙ numbers_above m set (n + 1) (half_none set n h)

pub none_above : (set n before : ℕ) (o : Option ℕ) → set / 2 ^ n ≡ 0 → o ≡ slice_get (numbers_from set (suc n) (64 - n)) before → None ≡ o
none_above set n before o h is = sym (is ∙ ap (λ (xs : List ℕ). slice_get xs before) (numbers_above (64 - n) set n h))

-- what a map gives for a capcode
looked_up : (holders entries : List (ℕ × ℕ)) (key capcode : ℕ) (o : Option ℕ) → entries ≡ holders → key ≡ capcode
    → o ≡ lookup (is_at (nat_cmp key)) entries → lookup (λ c. c == capcode) holders ≡ o
looked_up holders entries key capcode o same at is =
    ap (λ (k : ℕ). lookup (λ c. c == k) holders) (sym at) ∙ sym (lookup-same holders key) ∙ ap (λ (es : List (ℕ × ℕ)). lookup (is_at (nat_cmp key)) es) (sym same) ∙ sym is

-- the numbers that have a capcode are those in its set, or none
numbers_of : (holders : List (ℕ × ℕ)) (capcode : ℕ) (o : Option ℕ) → lookup (λ c. c == capcode) holders ≡ o
    → numbers_with (has_in holders) capcode ≡ filter (is_in_some o) (range_with_len 1 64)
unfolding numbers_with
numbers_of holders capcode o is = ap (λ (x : Option ℕ). filter (is_in_some x) (range_with_len 1 64)) is

in_none : filter (is_in_some None) (range_with_len 1 64) ≡ []
in_none = refl

in_some : (set : ℕ) → filter (is_in_some (Some set)) (range_with_len 1 64) ≡ numbers_in set
unfolding numbers_from
in_some set = refl

pub holder_some : (holders entries : List (ℕ × ℕ)) (key capcode set k : ℕ) (answer : Option ℕ) → entries ≡ holders → key ≡ capcode
    → Some set ≡ lookup (is_at (nat_cmp key)) entries → answer ≡ slice_get (numbers_in set) k → answer ≡ slice_get (numbers_with (has_in holders) capcode) k
holder_some holders entries key capcode set k answer same at is h =
    h ∙ ap (λ (xs : List ℕ). slice_get xs k) (sym (numbers_of holders capcode (Some set) (looked_up holders entries key capcode (Some set) same at is) ∙ in_some set))

pub holder_none : (holders entries : List (ℕ × ℕ)) (key capcode k : ℕ) → entries ≡ holders → key ≡ capcode
    → None ≡ lookup (is_at (nat_cmp key)) entries → None ≡ slice_get (numbers_with (has_in holders) capcode) k
holder_none holders entries key capcode k same at is =
    ap (λ (xs : List ℕ). slice_get xs k) (sym (numbers_of holders capcode None (looked_up holders entries key capcode None same at is) ∙ in_none))
