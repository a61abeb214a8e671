-- Fronts of lists.
use Rattle.std.proofs.Common.{◌≡◌, ◌⊎◌, inl, inr, List, [], ◌∷◌, ◌++◌, append-nil, append_assoc, refl, sym, ◌∙◌, ap, ap₂, subst}
use Rattle.wires.specs.Fronts.{Grows, IsFront}

-- a list is a front of itself
pub front_same : {A : Type 0} (a : List A) → IsFront a a
front_same a = record { rest = []; is = sym (append-nil a) }

-- and of a longer one
pub front_append : {A : Type 0} (a b : List A) → IsFront a (a ++ b)
front_append a b = record { rest = b; is = refl }

-- a front of a front
pub front_then : {A : Type 0} (a b c : List A) → IsFront a b → IsFront b c → IsFront a c
front_then a b c h k = record { rest = h.rest ++ k.rest; is = k.is ∙ (ap (λ (z : List _). z ++ k.rest) h.is ∙ append_assoc a h.rest k.rest) }

-- one element from the front of the second list to the end of the first
pub splice : {A : Type 0} (a : List A) (x : A) (b : List A) → (a ++ x ∷ []) ++ b ≡ a ++ x ∷ b
splice a x b = append_assoc a (x ∷ []) b

-- it does so where one more element does so
pub grows_by_one : {A B : Type 0} (f : List A → List B) → ((xs : List A) (x : A) → IsFront (f xs) (f (xs ++ x ∷ []))) → Grows f
grows_by_one f one xs [] = subst (λ (zs : List _). IsFront (f xs) (f zs)) (sym (append-nil xs)) (front_same (f xs))
grows_by_one f one xs (y ∷ ys) =
    subst (λ (zs : List _). IsFront (f xs) (f zs)) (splice xs y ys)
    (front_then (f xs) (f (xs ++ y ∷ [])) (f ((xs ++ y ∷ []) ++ ys)) (one xs y) (grows_by_one f one (xs ++ y ∷ []) ys))

-- lists behind the same list
pub front_behind : {A : Type 0} (c a b : List A) → IsFront a b → IsFront (c ++ a) (c ++ b)
front_behind c a b h = record { rest = h.rest; is = ap (λ (z : List _). c ++ z) h.is ∙ sym (append_assoc c a h.rest) }

-- a front with one element before it
front_cons : {A : Type 0} (x y : A) (a b : List A) → y ≡ x → IsFront a b → IsFront (x ∷ a) (y ∷ b)
front_cons x y a b e h = record { rest = h.rest; is = ap₂ (λ (z : _) (l : List _). z ∷ l) e h.is }

-- one of two fronts of a list is a front of the other
pub fronts_of : {A : Type 0} (a b p q : List A) → a ++ p ≡ b ++ q → IsFront a b ⊎ IsFront b a
fronts_of [] b p q e = inl (front_append [] b)
fronts_of (x ∷ a) [] p q e = inr (front_append [] (x ∷ a))
fronts_of (x ∷ a) (y ∷ b) p q e =
    let same : y ≡ x = cc in
    let tails : a ++ p ≡ b ++ q = cc in
    elim (fronts_of a b p q tails) [
      | inl h ↦ inl (front_cons x y a b same h)
      | inr h ↦ inr (front_cons y x b a (sym same) h)
    ]
