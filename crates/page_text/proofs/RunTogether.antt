-- Lists of one length, run together and cut again.
use Rattle.std.proofs.Common.{◌≡◌, ℕ, zero, suc, ◌+◌, ◌-◌, ◌*◌, ◌/◌, ◌%◌, ◌<◌, ◌≤◌, ◌⊎◌, inl, inr, Bool, false, List, [], ◌∷◌, ◌++◌, length, map, take, drop, get_or, flat_map, refl, sym, ◌∙◌, ap, ap₂, arith, add-one, length-append}
use Rattle.std.proofs.Math.Nat.{add-div_right, add-mod_right, div-eq_of_lt, mod-eq_of_lt}
use Rattle.std.proofs.lemmas.List.{drop-drop, get_or_append_left, get_or-append_right}
use Rattle.page_text.specs.Groups.{pieces}

-- how long they are together
pub length-flat_map : (f : ℕ → List Bool) (w : ℕ) → ((c : ℕ) → length (f c) ≡ w) → (xs : List ℕ) → length (flat_map f xs) ≡ length xs * w
length-flat_map f w long [] = omega arith
length-flat_map f w long (x ∷ xs) = length-append (f x) (flat_map f xs) ∙ omega (arith, long x, length-flat_map f w long xs)

-- an element is an element of one of them
pub get_or-flat_map : (f : ℕ → List Bool) (w : ℕ) → ((c : ℕ) → length (f c) ≡ w) → (xs : List ℕ) (i : ℕ) → 0 < w → i < length xs * w
    → get_or (flat_map f xs) i false ≡ get_or (f (get_or xs (i / w) 0)) (i % w) false
get_or-flat_map f w long [] i p l = absurd (omega (arith, l))
get_or-flat_map f w long (x ∷ xs) i p l = elim (split i w) [ inl h ↦ here h | inr h ↦ there h (get_or-flat_map f w long xs (i - w) p (omega (arith, l, h))) ]
  where
    split : (i w : ℕ) → (i < w) ⊎ (w ≤ i)
    split i w = grind arith

    here : i < w → get_or (f x ++ flat_map f xs) i false ≡ get_or (f (get_or (x ∷ xs) (i / w) 0)) (i % w) false
    here h =
        get_or_append_left (f x) (flat_map f xs) false i (omega (arith, h, long x))
        ∙ ap₂ (λ a b. get_or (f (get_or (x ∷ xs) a 0)) b false) (sym (div-eq_of_lt h)) (sym (mod-eq_of_lt h))

    there : w ≤ i → get_or (flat_map f xs) (i - w) false ≡ get_or (f (get_or xs ((i - w) / w) 0)) ((i - w) % w) false
        → get_or (f x ++ flat_map f xs) i false ≡ get_or (f (get_or (x ∷ xs) (i / w) 0)) (i % w) false
    there h rest =
        let back : i - w + w ≡ i = omega (arith, h) in
        let quotient : i / w ≡ suc ((i - w) / w) = ap (λ n. n / w) (sym back) ∙ add-div_right (i - w) p ∙ add-one ((i - w) / w) in
        let remains : i % w ≡ (i - w) % w = ap (λ n. n % w) (sym back) ∙ add-mod_right (i - w) w in
        get_or-append_right (f x) (flat_map f xs) w i false (long x) h ∙ rest
        ∙ ap₂ (λ a b. get_or (f (get_or (x ∷ xs) a 0)) b false) (sym quotient) (sym remains)

-- how many pieces there are
pub length-pieces : (f : List Bool → ℕ) (k n : ℕ) (bits : List Bool) → length (map f (pieces k n bits)) ≡ n
length-pieces f k zero bits = refl
length-pieces f k (suc n) bits = ap suc (length-pieces f k n (drop k bits))

-- the number of one piece
pub get_or-pieces : (f : List Bool → ℕ) (w n k : ℕ) (bits : List Bool) → k < n
    → get_or (map f (pieces w n bits)) k 0 ≡ f (take w (drop (w * k) bits))
get_or-pieces f w zero k bits l = absurd (omega (arith, l))
get_or-pieces f w (suc n) zero bits l = let e : 0 ≡ w * zero = omega arith in ap (λ d. f (take w (drop d bits))) e
get_or-pieces f w (suc n) (suc k) bits l =
    let e : w + w * k ≡ w * suc k = omega arith in
    get_or-pieces f w n k (drop w bits) (omega (arith, l)) ∙ ap (λ t. f (take w t)) (drop-drop (w * k) w bits ∙ ap (λ d. drop d bits) e)
