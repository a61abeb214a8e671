-- The test of a text is the definition of the texts that fit.
use Rattle.std.proofs.Common.{◌≡◌, ◌≢◌, ℕ, ◌==◌, ◌⊎◌, inl, inr, Bool, true, false, ◌&&◌, ◌||◌, not, List, [], ◌∷◌, ◌++◌, length, refl, ap, sym, ◌∙◌, arith, nat_le}
use Rattle.std.specs.Prelude.{All, Contains}
use Rattle.std.specs.List.{list_all}
use Rattle.std.specs.Cmp.{nat_eq_equiv}
use Rattle.std.proofs.lemmas.Bool.{eqb-true, eq-eqb}
use Rattle.std.proofs.lemmas.Bool.Decides.{nat_tests}
use Rattle.std.proofs.lemmas.List.{nil_from_length}
use Rattle.std.proofs.lemmas.List.Elements.{All-nil, All-cons, All-head, All-tail}
use Rattle.std.proofs.lemmas.Map.Views.{list_any-from_Contains, Contains-from_any}
use Rattle.codeword.specs.declared.functions.Function.{Function}
use Rattle.codeword.specs.declared.functions.Function.TheVariants.{Numeric, Tone1, Tone2, Alpha}
use Rattle.page_text.specs.declared.limits.TheConstants.{LONGEST_NUMERIC, LONGEST_TEXT}
use Rattle.page_text.specs.Groups.{numeric_characters}
use Rattle.page_text.specs.Fits.{IsAlpha, Fits}
use Rattle.page_text.specs.FitTest.{is_numeric, is_alpha, ends_in_space, fits}

-- two tests hold where both do
both_true : (a b : Bool) → a ≡ true → b ≡ true → (a && b) ≡ true
both_true a b h k = rw (h, k) refl

-- the first of two tests that hold
first_true : (a b : Bool) → (a && b) ≡ true → a ≡ true
first_true true b h = refl
first_true false b h = absurd cc

-- the second of two tests that hold
second_true : (a b : Bool) → (a && b) ≡ true → b ≡ true
second_true true b h = h
second_true false b h = absurd cc

-- a fact and its test, over a list
all_from_test : (P : ℕ → Type 0) (p : ℕ → Bool) → ((c : ℕ) → p c ≡ true → P c) → (x : List ℕ) → list_all p x ≡ true → All P x
all_from_test P p f [] h = All-nil P
all_from_test P p f (c ∷ x) h = All-cons P c x (f c (first_true (p c) (list_all p x) h)) (all_from_test P p f x (second_true (p c) (list_all p x) h))

-- the test of a fact, over a list
test_from_all : (P : ℕ → Type 0) (p : ℕ → Bool) → ((c : ℕ) → P c → p c ≡ true) → (x : List ℕ) → All P x → list_all p x ≡ true
test_from_all P p f [] h = refl
test_from_all P p f (c ∷ x) h = both_true (p c) (list_all p x) (f c (All-head P c x h)) (test_from_all P p f x (All-tail P c x h))

-- a numeric character
numeric_from_test : (c : ℕ) → is_numeric c ≡ true → Contains numeric_characters c
numeric_from_test c h = Contains-from_any (λ x y e. eqb-true x y e) c numeric_characters h

-- its test
test_from_numeric : (c : ℕ) → Contains numeric_characters c → is_numeric c ≡ true
test_from_numeric c h = list_any-from_Contains nat_eq_equiv c numeric_characters h

-- one of two tests that hold
either_true : (a b : Bool) → (a || b) ≡ true → (a ≡ true) ⊎ (b ≡ true)
either_true true b h = inl refl
either_true false b h = inr h

-- an alphanumeric character
alpha_from_test : (c : ℕ) → is_alpha c ≡ true → IsAlpha c
alpha_from_test c h = by_first (either_true (nat_le 32 c && nat_le c 126) ((c == 13) || (c == 10)) h)
  where
    by_second : ((c == 13) ≡ true) ⊎ ((c == 10) ≡ true) → IsAlpha c
    by_second (inl e) = inr (inl (eqb-true c 13 e))
    by_second (inr e) = inr (inr (eqb-true c 10 e))

    by_first : ((nat_le 32 c && nat_le c 126) ≡ true) ⊎ (((c == 13) || (c == 10)) ≡ true) → IsAlpha c
    by_first (inl e) =
        let low : nat_le 32 c ≡ true = first_true (nat_le 32 c) (nat_le c 126) e in
        let high : nat_le c 126 ≡ true = second_true (nat_le 32 c) (nat_le c 126) e in
        inl (grind (arith, nat_tests, low), grind (arith, nat_tests, high))
    by_first (inr e) = by_second (either_true (c == 13) (c == 10) e)

-- two tests of which the second holds
or_true : (a b : Bool) → b ≡ true → (a || b) ≡ true
or_true true b h = refl
or_true false b h = h

-- two tests of which the first holds
true_or : (a b : Bool) → a ≡ true → (a || b) ≡ true
true_or a b h = ap (λ z. z || b) h

-- its test
test_from_alpha : (c : ℕ) → IsAlpha c → is_alpha c ≡ true
test_from_alpha c (inl h) =
    let low : nat_le 32 c ≡ true = (let l = h.0 in grind (arith, nat_tests)) in
    let high : nat_le c 126 ≡ true = (let l = h.1 in grind (arith, nat_tests)) in
    true_or (nat_le 32 c && nat_le c 126) ((c == 13) || (c == 10)) (both_true (nat_le 32 c) (nat_le c 126) low high)
test_from_alpha c (inr (inl h)) = or_true (nat_le 32 c && nat_le c 126) ((c == 13) || (c == 10)) (true_or (c == 13) (c == 10) (eq-eqb c 13 h))
test_from_alpha c (inr (inr h)) = or_true (nat_le 32 c && nat_le c 126) ((c == 13) || (c == 10)) (or_true (c == 13) (c == 10) (eq-eqb c 10 h))

-- the last character of a front and a space
ends_there : (front : List ℕ) → ends_in_space (front ++ 32 ∷ []) ≡ true
ends_there [] = refl
ends_there (c ∷ []) = refl
ends_there (c ∷ d ∷ front) = ends_there (d ∷ front)

-- a text that ends in a space is a front and a space
space_front : (text : List ℕ) → ends_in_space text ≡ true → (front : List ℕ) × (text ≡ front ++ 32 ∷ [])
space_front [] h = absurd cc
space_front (c ∷ []) h = ([], ap (λ z. z ∷ []) (eqb-true c 32 h))
space_front (c ∷ d ∷ text) h = let r = space_front (d ∷ text) h in (c ∷ r.0, ap (λ z. c ∷ z) r.1)

-- not a space
not_false : (b : Bool) → not b ≡ true → b ≡ false
not_false true h = absurd cc
not_false false h = refl

-- a text that no front and space is doesn't end in one
no_space : (text : List ℕ) → ((front : List ℕ) → text ≢ front ++ 32 ∷ []) → not (ends_in_space text) ≡ true
no_space text h = by_test (ends_in_space text) refl
  where
    by_test : (b : Bool) → ends_in_space text ≡ b → not b ≡ true
    by_test true e = let r = space_front text e in absurd (h r.0 r.1)
    by_test false e = refl

-- no character
nil_from_test : (text : List ℕ) → (length text == 0) ≡ true → text ≡ []
nil_from_test text h = nil_from_length text (eqb-true (length text) 0 h)

-- a text that passes the test fits
pub fits_from_test : (function : Function) (text : List ℕ) → fits function text ≡ true → Fits function text
fits_from_test Numeric text h =
    let short = first_true (nat_le (length text) LONGEST_NUMERIC) (list_all is_numeric text && not (ends_in_space text)) h in
    let rest = second_true (nat_le (length text) LONGEST_NUMERIC) (list_all is_numeric text && not (ends_in_space text)) h in
    let last = not_false (ends_in_space text) (second_true (list_all is_numeric text) (not (ends_in_space text)) rest) in
    record {
      short = grind (arith, nat_tests, short);
      alphabet = all_from_test (Contains numeric_characters) is_numeric numeric_from_test text (first_true (list_all is_numeric text) (not (ends_in_space text)) rest);
      no_space = λ front e. (let k = sym (ends_there front) ∙ ap ends_in_space (sym e) ∙ last in absurd cc);
    }
fits_from_test Tone1 text h = nil_from_test text h
fits_from_test Tone2 text h = nil_from_test text h
fits_from_test Alpha text h =
    let short = first_true (nat_le (length text) LONGEST_TEXT) (list_all is_alpha text) h in record {
      short = grind (arith, nat_tests, short);
      alphabet = all_from_test IsAlpha is_alpha alpha_from_test text (second_true (nat_le (length text) LONGEST_TEXT) (list_all is_alpha text) h);
    }

-- a text that fits passes the test
pub test_from_fits : (function : Function) (text : List ℕ) → Fits function text → fits function text ≡ true
test_from_fits Numeric text h =
    let short : nat_le (length text) LONGEST_NUMERIC ≡ true = (let s = h.short in grind (arith, nat_tests)) in
    both_true (nat_le (length text) LONGEST_NUMERIC) (list_all is_numeric text && not (ends_in_space text)) short
    (both_true (list_all is_numeric text) (not (ends_in_space text)) (test_from_all (Contains numeric_characters) is_numeric test_from_numeric text h.alphabet) (no_space text h.no_space))
test_from_fits Tone1 text h = ap (λ z. length z == 0) h
test_from_fits Tone2 text h = ap (λ z. length z == 0) h
test_from_fits Alpha text h =
    let short : nat_le (length text) LONGEST_TEXT ≡ true = (let s = h.short in grind (arith, nat_tests)) in
    both_true (nat_le (length text) LONGEST_TEXT) (list_all is_alpha text) short (test_from_all IsAlpha is_alpha test_from_alpha text h.alphabet)
