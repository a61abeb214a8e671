-- How a list of characters is cut.
use Rattle.std.proofs.Common.{◌≡◌, ℕ, suc, zero, ◌<◌, Bool, true, false, ◌&&◌, List, [], ◌∷◌, ◌++◌, length, take, nat_eq, refl, ap, sym, ◌∙◌, subst, append_assoc, append-nil, arith, ◌⊎◌, inl, inr}
use Rattle.std.specs.List.{AllByRecursion, flat_map}
use Rattle.std.specs.Prelude.{codes}
use Rattle.entry_line.specs.Chars.{cr}
use Rattle.tap_entry.specs.Marks.{Ends, IsOpen, IsPiece, Cuts, same}

-- a list and one more, cut in two: the one more is in the second part, or there is no second part
pub split_push : {A : Type 0} (r : List A) (c : A) (front rest : List A) → r ++ c ∷ [] ≡ front ++ rest
    → ((rest ≡ []) × (front ≡ r ++ c ∷ [])) ⊎ ((before : List A) × ((rest ≡ before ++ c ∷ []) × (r ≡ front ++ before)))
split_push r c [] rest e = inr (r, (sym e, refl))
split_push [] c (f ∷ []) [] e = inl (refl, sym e)
split_push [] c (f ∷ []) (d ∷ rest) e = let g : [] ≡ d ∷ rest = cc in absurd cc
split_push [] c (f ∷ g ∷ front) rest e = let h : [] ≡ g ∷ (front ++ rest) = cc in absurd cc
split_push (d ∷ r) c (f ∷ front) rest e =
    let same_head : d ≡ f = cc in
    let tails : r ++ c ∷ [] ≡ front ++ rest = cc in
    elim (split_push r c front rest tails) [
      | inl h ↦ inl (h.0, (let k = h.1 in rw (same_head, k) refl))
      | inr h ↦ inr (h.0, (h.1.0, (let k = h.1.1 in rw (same_head, k) refl)))
    ]

pub push_is : (r l : List ℕ) (c d : ℕ) → r ++ c ∷ [] ≡ l ++ d ∷ [] → (r ≡ l) × (c ≡ d)
push_is r l c d e = elim (split_push r c l (d ∷ []) e) [
  | inl h ↦ absurd (let k = h.0 in cc)
  | inr h ↦ by_before h.0 h.1.0 h.1.1
]
  where
    by_before : (before : List ℕ) → d ∷ [] ≡ before ++ c ∷ [] → r ≡ l ++ before → (r ≡ l) × (c ≡ d)
    by_before [] k m = (m ∙ append-nil l, cc)
    by_before (b ∷ []) k m = let q : [] ≡ c ∷ [] = cc in absurd cc
    by_before (b ∷ a ∷ before) k m = let q : [] ≡ a ∷ (before ++ c ∷ []) = cc in absurd cc

-- with one more character an open list is a piece, or it stays open
pub becomes_piece : (r : List ℕ) (c : ℕ) → IsOpen r → Ends (r ++ c ∷ []) → IsPiece (r ++ c ∷ [])
becomes_piece r c h k = (
  k,
  λ front rest e ends. elim (split_push r c front rest e) [
    | inl m ↦ m.0
    | inr m ↦ absurd (h front m.0 m.1.1 ends)
  ],
)

pub stays_open : (r : List ℕ) (c : ℕ) → IsOpen r → (Ends (r ++ c ∷ []) → ⊥) → IsOpen (r ++ c ∷ [])
stays_open r c h k front rest e ends = elim (split_push r c front rest e) [
  | inl m ↦ k (subst Ends m.1 ends)
  | inr m ↦ h front m.0 m.1.1 ends
]

some_end : (l : List ℕ) (c : ℕ) → [] ≡ l ++ c ∷ [] → ⊥
some_end [] c e = cc
some_end (d ∷ l) c e = cc

pub nil_open : IsOpen []
nil_open [] rest e (l, inl k) = some_end l _ k
nil_open [] rest e (l, inr k) = some_end (l ++ codes "ID") 61 (k ∙ sym (append_assoc l (codes "ID") (61 ∷ [])))
nil_open (c ∷ front) rest e h = cc

-- it ends where the character is CR, or `=` behind `ID`
pub ends_push : (r : List ℕ) (c : ℕ) → Ends (r ++ c ∷ []) → (c ≡ cr) ⊎ ((c ≡ 61) × ((l : List ℕ) × (r ≡ l ++ codes "ID")))
ends_push r c (l, inl e) = inl (push_is r l c cr e).1
ends_push r c (l, inr e) = let k = push_is r (l ++ codes "ID") c 61 (e ∙ sym (append_assoc l (codes "ID") (61 ∷ []))) in inr (k.1, (l, k.0))

pub flat_append : (ps qs : List (List ℕ)) → flat_map (λ p. p) (ps ++ qs) ≡ flat_map (λ p. p) ps ++ flat_map (λ p. p) qs
flat_append [] qs = refl
flat_append (p ∷ ps) qs = ap (λ z. p ++ z) (flat_append ps qs) ∙ sym (append_assoc p (flat_map (λ p. p) ps) (flat_map (λ p. p) qs))

pub all_pieces : (ps qs : List (List ℕ)) → AllByRecursion IsPiece ps → AllByRecursion IsPiece qs → AllByRecursion IsPiece (ps ++ qs)
all_pieces [] qs h k = k
all_pieces (p ∷ ps) qs h k = (h.0, all_pieces ps qs h.1 k)

pub cuts_piece : (pieces : List (List ℕ)) (r x : List ℕ) (c : ℕ) → Cuts pieces r x → Ends (r ++ c ∷ []) → Cuts (pieces ++ (r ++ c ∷ []) ∷ []) [] (x ++ c ∷ [])
cuts_piece pieces r x c h k = record {
  form = ap (λ z. z ++ c ∷ []) h.form ∙ append_assoc (flat_map (λ p. p) pieces) r (c ∷ [])
      ∙ sym (append-nil (flat_map (λ p. p) (pieces ++ (r ++ c ∷ []) ∷ [])) ∙ flat_append pieces ((r ++ c ∷ []) ∷ []) ∙ ap (λ z. flat_map (λ p. p) pieces ++ z) (append-nil (r ++ c ∷ [])));
  each = all_pieces pieces ((r ++ c ∷ []) ∷ []) h.each (becomes_piece r c h.is_open k, tt);
  is_open = nil_open;
}

pub cuts_more : (pieces : List (List ℕ)) (r x : List ℕ) (c : ℕ) → Cuts pieces r x → (Ends (r ++ c ∷ []) → ⊥) → Cuts pieces (r ++ c ∷ []) (x ++ c ∷ [])
cuts_more pieces r x c h k = record {
  form = ap (λ z. z ++ c ∷ []) h.form ∙ append_assoc (flat_map (λ p. p) pieces) r (c ∷ []);
  each = h.each;
  is_open = stays_open r c h.is_open k;
}

and_false : (b : Bool) → (b && false) ≡ false
and_false true = refl
and_false false = refl

and_assoc : (a b c : Bool) → (a && (b && c)) ≡ ((a && b) && c)
and_assoc true b c = refl
and_assoc false b c = refl

and_true : (b : Bool) → (b && true) ≡ b
and_true true = refl
and_true false = refl

-- two texts with their last characters apart
pub same_push : (x y : List ℕ) (c d : ℕ) → same (x ++ c ∷ []) (y ++ d ∷ []) ≡ (same x y && nat_eq c d)
same_push [] [] c d = and_true (nat_eq c d)
same_push [] (b ∷ []) c d = and_false (nat_eq c b)
same_push [] (b ∷ a ∷ y) c d = and_false (nat_eq c b)
same_push (a ∷ []) [] c d = and_false (nat_eq a d)
same_push (a ∷ b ∷ x) [] c d = and_false (nat_eq a d)
same_push (a ∷ x) (b ∷ y) c d = ap (λ z. nat_eq a b && z) (same_push x y c d) ∙ and_assoc (nat_eq a b) (same x y) (nat_eq c d)

-- a short text is compared by a front that is longer
pub same_take : (n : ℕ) (x y : List ℕ) → length y < n → same (take n x) y ≡ same x y
same_take zero x y h = absurd (omega (arith, h))
same_take (suc n) [] y h = refl
same_take (suc n) (a ∷ x) [] h = refl
same_take (suc n) (a ∷ x) (b ∷ y) h = ap (λ z. nat_eq a b && z) (same_take n x y (omega (arith, h)))
