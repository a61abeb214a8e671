-- A buffer that is filled part by part.
use Rattle.std.proofs.Common.{◌≡◌, ℕ, ◌+◌, ◌≤◌, List, ◌++◌, length, length-append, take, sym, ◌∙◌, ap, arith}
use Rattle.std.proofs.lemmas.List.{length-take-le, take-append-le}
use Rattle.std.proofs.Math.Seq.{take-append-add}

-- n more at place a
pub take-more : (a n : ℕ) (xs ys zs : List ℕ) → a ≤ length xs → n ≤ length ys → take (a + n) (take a xs ++ (ys ++ zs)) ≡ take a xs ++ take n ys
take-more a n xs ys zs h k =
    let l : length (take a xs) ≡ a = length-take-le a xs h in
    ap (λ (m : ℕ). take (m + n) (take a xs ++ (ys ++ zs))) (sym l) ∙ take-append-add (take a xs) (ys ++ zs) n ∙ ap (λ (t : List ℕ). take a xs ++ t) (take-append-le n ys zs k)

pub within-more : (a n : ℕ) (xs ys zs : List ℕ) → a ≤ length xs → n ≤ length ys → a + n ≤ length (take a xs ++ (ys ++ zs))
within-more a n xs ys zs h k = omega (arith, length-append (take a xs) (ys ++ zs), length-append ys zs, length-take-le a xs h)
