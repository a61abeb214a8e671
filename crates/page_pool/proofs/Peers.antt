-- A chain linked both ways: a cell leaves it, joins it, or another chain changes.
use Rattle.std.proofs.Common.{◌≡◌, ◌≢◌, ℕ, ◌+◌, ◌<◌, ◌≤◌, Bool, true, false, cond, ◌==◌, ◌⊎◌, inl, inr, List, [], ◌∷◌, ◌++◌, reverse, refl, sym, ◌∙◌, ap, subst, arith, eq-eqb, zero-add, append_assoc}
use Rattle.std.proofs.lemmas.Bool.{eqb-true}
use Rattle.std.proofs.lemmas.List.{reverse-append, reverse-reverse}
use Rattle.std.specs.List.{filter}
use mathlib.Core.List.{reverse-cons}
use Rattle.page_pool.specs.Chain.{first_or, Chain, times}
use Rattle.page_pool.specs.Layout.{NONE, Linked}
use Rattle.page_pool.proofs.Chains.{times-append, times-self, times-one, times-reverse, apart, last_is, chain_same, chain_rest, unlink, link_end}

module _ (n b n' b' : ℕ → ℕ) where
  -- a chain stays where none of its cells was written
  pub stays : (xs : List ℕ) (first last : ℕ) → ((c : ℕ) → 0 < times c xs → n' c ≡ n c) → ((c : ℕ) → 0 < times c xs → b' c ≡ b c) → Linked n b xs first last → Linked n' b' xs first last
  stays xs first last sn sb l = record {
    onward = chain_same n n' xs NONE sn l.onward;
    backward = chain_same b b' (reverse xs) NONE (λ c k. sb c (omega (arith, times-reverse c xs, k))) l.backward;
    first_is = l.first_is;
    last_is = l.last_is;
  }

-- the first of a chain once one cell has left it
pub ends_without : (t : ℕ) (xs ys : List ℕ) (first next : ℕ) → first ≡ first_or (xs ++ t ∷ ys) NONE → next ≡ first_or ys NONE
    → ((c : ℕ) → 0 < times c xs → c ≢ t) → cond (first == t) next first ≡ first_or (xs ++ ys) NONE
ends_without t [] ys first next e n ne = rw (eq-eqb first t e) n
ends_without t (x ∷ xs) ys first next e n ne = elim (first == t) as (λ v. (first == t) ≡ v → cond v next first ≡ x) [
  | true ↦ λ q. absurd (ne x (times-self x xs) (sym e ∙ eqb-true first t q))
  | false ↦ λ q. e
] refl

module _ (n b n' b' : ℕ → ℕ) (xs : List ℕ) (t : ℕ) (ys : List ℕ) (first last : ℕ) (l : Linked n b (xs ++ t ∷ ys) first last)
    (one : (c : ℕ) → times c (xs ++ t ∷ ys) ≤ 1) (none : times NONE (xs ++ t ∷ ys) ≡ 0) where
  -- the list turned round
  turned : reverse (xs ++ t ∷ ys) ≡ reverse ys ++ t ∷ reverse xs
  turned = reverse-append xs (t ∷ ys) ∙ ap (λ z. z ++ reverse xs) (reverse-cons t ys) ∙ append_assoc (reverse ys) (t ∷ []) (reverse xs)

  -- the chain back, from the last on
  backward : Chain b (reverse ys ++ t ∷ reverse xs) NONE
  backward = subst (λ z. Chain b z NONE) turned l.backward

  -- the cell before t
  pub before_is : b t ≡ first_or (reverse xs) NONE
  before_is = (chain_rest b (reverse ys) (t ∷ reverse xs) NONE backward).0

  -- the cell after t
  pub after_is : n t ≡ first_or ys NONE
  after_is = (chain_rest n xs (t ∷ ys) NONE l.onward).0

  -- how often a cell stands in the list with t
  count : (c : ℕ) → times c (xs ++ t ∷ ys) ≡ times c (xs ++ ys) + times c (t ∷ [])
  count c = times-append c xs (t ∷ ys) ∙ omega (arith, times-append c xs ys)

  -- how often a cell stands in the list turned round
  other_way : (c : ℕ) → times c (reverse ys ++ reverse xs) ≡ times c (xs ++ ys)
  other_way c = ap (times c) (sym (reverse-append xs ys)) ∙ times-reverse c (xs ++ ys)

  -- the last of the turned list
  back_is : first_or (reverse (reverse ys)) NONE ≡ n t
  back_is = ap (λ z. first_or z NONE) (reverse-reverse ys) ∙ sym after_is

  -- t leaves the chain
  pub leaves : ((c : ℕ) → 0 < times c (xs ++ ys) → c ≢ b t → n' c ≡ n c) → (0 < times (b t) (xs ++ ys) → n' (b t) ≡ n t)
      → ((c : ℕ) → 0 < times c (xs ++ ys) → c ≢ n t → b' c ≡ b c) → (0 < times (n t) (xs ++ ys) → b' (n t) ≡ b t)
      → Linked n' b' (xs ++ ys) (cond (first == t) (n t) first) (cond (last == t) (b t) last)
  leaves sn an sb ab = record {
    onward = unlink n n' xs t ys NONE l.onward (λ c. omega (arith, count c, one c)) (omega (arith, count NONE, none))
        (λ c k ne. sn c k (λ e. ne (e ∙ before_is)))
        (λ k. subst (λ z. n' z ≡ n t) before_is (an (subst (λ z. 0 < times z (xs ++ ys)) (sym before_is) k)));
    backward = subst (λ z. Chain b' z NONE) (sym (reverse-append xs ys))
        (unlink b b' (reverse ys) t (reverse xs) NONE backward (λ c. omega (arith, count c, one c, other_way c)) (omega (arith, count NONE, none, other_way NONE))
        (λ c k ne. sb c (omega (arith, k, other_way c)) (λ e. ne (e ∙ sym back_is)))
        (λ k. subst (λ z. b' z ≡ b t) (sym back_is) (ab (subst (λ m. 0 < m) (other_way (n t)) (subst (λ z. 0 < times z (reverse ys ++ reverse xs)) back_is k)))));
    first_is = ends_without t xs ys first (n t) l.first_is after_is (λ c k. apart t c xs (omega (arith, count t, one t, times-one t, times-append t xs ys)) k);
    last_is = ends_without t (reverse ys) (reverse xs) last (b t) (l.last_is ∙ ap (λ z. first_or z NONE) turned) before_is
        (λ c k. apart t c (reverse ys) (omega (arith, times-reverse t ys, count t, one t, times-one t, times-append t xs ys)) k)
        ∙ ap (λ z. first_or z NONE) (sym (reverse-append xs ys));
  }

-- the first of a chain to which t was added at the end
pub starts : (t first : ℕ) (xs : List ℕ) → first ≡ first_or xs NONE → (0 < times first xs → first ≢ NONE) → cond (first == NONE) t first ≡ first_or (xs ++ t ∷ []) NONE
starts t first [] e ne = rw (eq-eqb first NONE e) refl
starts t first (x ∷ xs) e ne = elim (first == NONE) as (λ v. (first == NONE) ≡ v → cond v t first ≡ x) [
  | true ↦ λ q. absurd (ne (subst (λ z. 0 < times z (x ∷ xs)) (sym e) (times-self x xs)) (eqb-true first NONE q))
  | false ↦ λ q. e
] refl

-- t joins the chain at its end
pub joins : (n b n' b' : ℕ → ℕ) (xs : List ℕ) (t first last : ℕ) → Linked n b xs first last → ((c : ℕ) → times c xs ≤ 1) → times NONE xs ≡ 0
    → ((c : ℕ) → 0 < times c xs → c ≢ last → n' c ≡ n c) → (0 < times last xs → n' last ≡ t) → n' t ≡ NONE
    → ((c : ℕ) → 0 < times c xs → b' c ≡ b c) → b' t ≡ last
    → Linked n' b' (xs ++ t ∷ []) (cond (first == NONE) t first) t
joins n b n' b' xs t first last l one none sn an en sb ab = record {
  onward = link_end n n' xs t NONE l.onward one (λ c k ne. sn c k (λ e. ne (e ∙ l.last_is)))
      (λ k. subst (λ z. n' z ≡ t) l.last_is (an (subst (λ z. 0 < times z xs) (sym l.last_is) k))) en;
  backward = subst (λ z. Chain b' z NONE) (sym (reverse-append xs (t ∷ [])))
      (ab ∙ l.last_is, chain_same b b' (reverse xs) NONE (λ c k. sb c (omega (arith, times-reverse c xs, k))) l.backward);
  first_is = starts t first xs l.first_is (λ k e. let z : 0 < times NONE xs = subst (λ v. 0 < times v xs) e k in omega (arith, z, none));
  last_is = sym (last_is xs t NONE);
}

-- what passes stands no more often among those that pass
pub times-filter : (p : ℕ → Bool) (c : ℕ) (xs : List ℕ) → times c (filter p xs) ≤ times c xs
times-filter p c [] = omega arith
times-filter p c (x ∷ xs) = let r = times-filter p c xs in elim (p x) as (λ v. times c (cond v (x ∷ filter p xs) (filter p xs)) ≤ times c (x ∷ xs)) [ true ↦ omega (arith, r) | false ↦ omega (arith, r) ]

-- what stands among those that pass passes
pub filter-pass : (p : ℕ → Bool) (c : ℕ) (xs : List ℕ) → 0 < times c (filter p xs) → p c ≡ true
filter-pass p c [] k = absurd (omega (arith, k))
filter-pass p c (x ∷ xs) k = elim (p x) as (λ v. p x ≡ v → 0 < times c (cond v (x ∷ filter p xs) (filter p xs)) → p c ≡ true) [
  | true ↦ λ e h. elim (c == x) as (λ v. (c == x) ≡ v → p c ≡ true) [
    | true ↦ λ q. ap p (eqb-true c x q) ∙ e
    | false ↦ λ q. filter-pass p c xs (let z : times c (x ∷ filter p xs) ≡ times c (filter p xs) = ap (λ v. cond v 1 0 + times c (filter p xs)) q ∙ zero-add (times c (filter p xs)) in omega (arith, z, h))
  ] refl
  | false ↦ λ e h. filter-pass p c xs h
] refl k

-- those that pass stay where the test stays
pub filter-same : (p q : ℕ → Bool) (xs : List ℕ) → ((c : ℕ) → 0 < times c xs → q c ≡ p c) → filter q xs ≡ filter p xs
filter-same p q [] h = refl
filter-same p q (x ∷ xs) h =
    let a : q x ≡ p x = h x (times-self x xs) in
    let r : filter q xs ≡ filter p xs = filter-same p q xs (λ c k. h c (omega (arith, k))) in
    rw (a, r) refl

-- the first is the end or one of the list
pub first_in : (xs : List ℕ) (e : ℕ) → (first_or xs e ≡ e) ⊎ (0 < times (first_or xs e) xs)
first_in [] e = inl refl
first_in (x ∷ xs) e = inr (times-self x xs)

-- different numbers compare as different
pub not_eqb : (a b : ℕ) → (a ≡ b → ⊥) → (a == b) ≡ false
not_eqb a b ne = elim (a == b) as (λ v. (a == b) ≡ v → v ≡ false) [ true ↦ λ e. absurd (ne (eqb-true a b e)) | false ↦ λ e. refl ] refl
