-- The first mark that decides.
use Rattle.std.proofs.Common.{◌≡◌, List, [], ◌∷◌, ◌++◌, refl, sym, ◌∙◌, subst, append_assoc, append-nil, ◌⊎◌, inl, inr}
use Rattle.std.specs.List.{AllByRecursion}
use Rattle.tap_entry.specs.declared.hearing.Mark.{Mark}
use Rattle.tap_entry.proofs.Counts.{none_push}

-- no mark of the list decides
abbrev pub NoneIn : (List Mark → Mark → Type 0) → List Mark → Type 0
NoneIn D since = (front : List Mark) (mark : Mark) (rest : List Mark) → since ≡ front ++ mark ∷ rest → D front mark → ⊥

-- a mark decides, and none before it
pub record First (D : List Mark → Mark → Type 0) (marks front : List Mark) (mark : Mark) (rest : List Mark) : Type 0 where
  pub form : marks ≡ front ++ mark ∷ rest
  pub none : NoneIn D front
  pub decides : D front mark

-- two marks of one list
pub data Places (a : List Mark) (m : Mark) (x b : List Mark) (n : Mark) (y : List Mark) : Type 0 where
  same : a ≡ b → m ≡ n → x ≡ y → Places a m x b n y
  before : (z : List Mark) → b ≡ a ++ m ∷ z → Places a m x b n y
  behind : (z : List Mark) → a ≡ b ++ n ∷ z → Places a m x b n y

pub places : (a : List Mark) (m : Mark) (x b : List Mark) (n : Mark) (y : List Mark) → a ++ m ∷ x ≡ b ++ n ∷ y → Places a m x b n y
places [] m x [] n y e = same refl (cc) (cc)
places [] m x (d ∷ b) n y e = before b (let h : m ≡ d = cc in rw h refl)
places (c ∷ a) m x [] n y e = behind a (let h : c ≡ n = cc in rw h refl)
places (c ∷ a) m x (d ∷ b) n y e =
    let h : c ≡ d = cc in
    let t : a ++ m ∷ x ≡ b ++ n ∷ y = cc in
    elim (places a m x b n y t) [
      | same p q r ↦ same (rw (h, p) refl) q r
      | before z p ↦ before z (rw (h, p) refl)
      | behind z p ↦ behind z (rw (h, p) refl)
    ]

-- there is one first
pub one_first : (D : List Mark → Mark → Type 0) (marks a : List Mark) (m : Mark) (x b : List Mark) (n : Mark) (y : List Mark) → First D marks a m x → First D marks b n y
    → (a ≡ b) × (m ≡ n) × (x ≡ y)
one_first D marks a m x b n y h k = elim (places a m x b n y (sym h.form ∙ k.form)) [
  | same p q r ↦ (p, q, r)
  | before z p ↦ absurd (k.none a m z p h.decides)
  | behind z p ↦ absurd (h.none b n z p k.decides)
]

-- what holds of each mark holds of this one
pub all_at : (P : Mark → Type 0) (a : List Mark) (m : Mark) (x : List Mark) → AllByRecursion P (a ++ m ∷ x) → P m
all_at P [] m x h = h.0
all_at P (c ∷ a) m x h = all_at P a m x h.1

pub nothing_first : (front : List Mark) (mark : Mark) (rest : List Mark) → [] ≡ front ++ mark ∷ rest → ⊥
nothing_first [] mark rest e = cc
nothing_first (f ∷ front) mark rest e = cc

-- there is a first one, or none
pub record Found (D : List Mark → Mark → Type 0) (marks : List Mark) : Type 0 where
  pub front : List Mark
  pub mark : Mark
  pub rest : List Mark
  pub first : First D marks front mark rest

pub find : (D : List Mark → Mark → Type 0) → ((front : List Mark) (mark : Mark) → D front mark ⊎ (D front mark → ⊥)) → (front rest : List Mark) → NoneIn D front
    → NoneIn D (front ++ rest) ⊎ Found D (front ++ rest)
find D test front [] none = inl (subst (NoneIn D) (sym (append-nil front)) none)
find D test front (m ∷ rest) none = elim (test front m) [
  | inl d ↦ inr (record { front = front; mark = m; rest = rest; first = record { form = refl; none = none; decides = d } })
  | inr n ↦ (let e = append_assoc front (m ∷ []) rest in elim (find D test (front ++ m ∷ []) rest (none_push D front m none n)) [
    | inl k ↦ inl (subst (NoneIn D) e k)
    | inr k ↦ inr (subst (Found D) e k)
  ])
]
