-- The first line of a pages file.
use Rattle.std.proofs.Common.{◌≡◌, ◌≢◌, ℕ, ◌≤◌, cond, Bool, true, false, List, [], ◌∷◌, ◌++◌, refl, ap, ◌∙◌, subst, arith, Option, Some, None, inl, inr}
use Rattle.std.specs.List.{AllByRecursion, list_all}
use Rattle.std.proofs.lemmas.Bool.Decides.{eqb_tells, leb_tells, nat_tests}
use Rattle.entry_line.specs.Chars.{lf}
use Rattle.tap_block.proofs.First.{not_equal}
use Rattle.tap_entry.specs.PagesFile.{IsPassword, first_line}
use Rattle.tap_entry.specs.Signs.{BeginsFile, is_visible, six_at, password_at, first_line_at}

visible_test : (c : ℕ) → 33 ≤ c → c ≤ 126 → is_visible c ≡ true
visible_test c h k = grind (arith, nat_tests)

visible_all : (x : List ℕ) → AllByRecursion (λ c. (33 ≤ c) × (c ≤ 126)) x → list_all is_visible x ≡ true
visible_all [] h = refl
visible_all (c ∷ x) h = rw (visible_test c h.0.0 h.0.1, visible_all x h.1) refl

-- a right first line is found
pub first_found : (password : Option (List ℕ)) (behind : List ℕ) → IsPassword password → first_line_at (first_line password ++ behind) ≡ Some (password, behind)
first_found None behind h = refl
first_found (Some (a ∷ b ∷ c ∷ d ∷ e ∷ f ∷ [])) behind h =
    let low = h.1.0.0 in
    let n : a ≢ lf = (λ q. omega (arith, q, low)) in
    let v = visible_all (a ∷ b ∷ c ∷ d ∷ e ∷ f ∷ []) h.1 in
    rw (not_equal a lf n, v) refl
first_found (Some []) behind h = absurd (let q = h.0 in cc)
first_found (Some (a ∷ [])) behind h = absurd (let q = h.0 in cc)
first_found (Some (a ∷ b ∷ [])) behind h = absurd (let q = h.0 in cc)
first_found (Some (a ∷ b ∷ c ∷ [])) behind h = absurd (let q = h.0 in cc)
first_found (Some (a ∷ b ∷ c ∷ d ∷ [])) behind h = absurd (let q = h.0 in cc)
first_found (Some (a ∷ b ∷ c ∷ d ∷ e ∷ [])) behind h = absurd (let q = h.0 in cc)
first_found (Some (a ∷ b ∷ c ∷ d ∷ e ∷ f ∷ g ∷ more)) behind h = absurd (let q = h.0 in cc)

-- what a first line said, and what is behind it
abbrev Said : Type 0
Said = Option (List ℕ) × List ℕ

abbrev no_password : Option (List ℕ)
no_password = None

abbrev first_in : Option Said → Option (List ℕ)
first_in None = None
first_in (Some p) = p.0

abbrev second_in : Option Said → List ℕ
second_in None = []
second_in (Some p) = p.1

both_are : (p q : Said) → Some p ≡ Some q → (p.0 ≡ q.0) × (p.1 ≡ q.1)
both_are p q e = (ap first_in e, ap second_in e)

visible_sound : (x : List ℕ) → list_all is_visible x ≡ true → AllByRecursion (λ c. (33 ≤ c) × (c ≤ 126)) x
visible_sound [] e = tt
visible_sound (c ∷ x) e = elim (leb_tells 33 c) [
  | inl h ↦ elim (leb_tells c 126) [
    | inl k ↦ ((h.1, k.1), visible_sound x (rw (h.0, k.0) at e))
    | inr k ↦ (let w = rw (h.0, k.0) at e in absurd (cc))
  ]
  | inr h ↦ (let w = rw h.0 at e in absurd (cc))
]

-- what is found behind `PG1`
record Found (x : List ℕ) (password : Option (List ℕ)) (behind : List ℕ) : Type 0 where
  is_password : IsPassword password
  form : 80 ∷ 71 ∷ 49 ∷ x ≡ first_line password ++ behind

six_sound : (x : List ℕ) (password : Option (List ℕ)) (behind : List ℕ) → six_at x ≡ Some (password, behind) → Found x password behind
six_sound [] p y e = absurd (cc)
six_sound (a ∷ []) p y e = absurd (cc)
six_sound (a ∷ b ∷ []) p y e = absurd (cc)
six_sound (a ∷ b ∷ c ∷ []) p y e = absurd (cc)
six_sound (a ∷ b ∷ c ∷ d ∷ []) p y e = absurd (cc)
six_sound (a ∷ b ∷ c ∷ d ∷ h ∷ []) p y e = absurd (cc)
six_sound (a ∷ b ∷ c ∷ d ∷ h ∷ f ∷ []) p y e = absurd (cc)
six_sound (a ∷ b ∷ c ∷ d ∷ h ∷ f ∷ g ∷ x) p y e = elim (eqb_tells g lf) [
  | inl k ↦ by_check (list_all is_visible (a ∷ b ∷ c ∷ d ∷ h ∷ f ∷ [])) refl (rw k.0 at e) k.1
  | inr k ↦ (let w = rw k.0 at e in absurd (cc))
]
  where
    by_check : (t : Bool) → list_all is_visible (a ∷ b ∷ c ∷ d ∷ h ∷ f ∷ []) ≡ t → cond {A = Option Said} t (Some (Some (a ∷ b ∷ c ∷ d ∷ h ∷ f ∷ []), x)) None ≡ Some (p, y) → g ≡ lf → Found (a ∷ b ∷ c ∷ d ∷ h ∷ f ∷ g ∷ x) p y
    by_check true v q l =
        let r = both_are (Some (a ∷ b ∷ c ∷ d ∷ h ∷ f ∷ []), x) (p, y) q in
        let s = r.0 in let t = r.1 in
        record {
          is_password = subst IsPassword s (refl, visible_sound (a ∷ b ∷ c ∷ d ∷ h ∷ f ∷ []) v);
          form = ap (λ z. 80 ∷ 71 ∷ 49 ∷ a ∷ b ∷ c ∷ d ∷ h ∷ f ∷ z) (rw (l, t) refl) ∙ ap (λ z. first_line z ++ y) s;
        }
    by_check false v q l = absurd (cc)

password_sound : (x : List ℕ) (password : Option (List ℕ)) (behind : List ℕ) → password_at x ≡ Some (password, behind) → Found x password behind
password_sound [] p y e = absurd (cc)
password_sound (c ∷ x) p y e = elim (eqb_tells c lf) [
  | inl k ↦ (let w = rw k.0 at e in let r = both_are (no_password, x) (p, y) w in
      let s = r.0 in let t = r.1 in let l = k.1 in
      record { is_password = subst IsPassword s tt; form = rw (l, t) (ap (λ z. first_line z ++ y) s) })
  | inr k ↦ six_sound (c ∷ x) p y (rw k.0 at e)
]

-- what is found is a right first line
pub first_sound : (x : List ℕ) (password : Option (List ℕ)) (behind : List ℕ) → first_line_at x ≡ Some (password, behind) → BeginsFile x password behind
first_sound [] p y e = absurd (cc)
first_sound (a ∷ []) p y e = absurd (cc)
first_sound (a ∷ b ∷ []) p y e = absurd (cc)
first_sound (a ∷ b ∷ c ∷ x) p y e = elim (eqb_tells a 80) [
  | inl h ↦ elim (eqb_tells b 71) [
    | inl k ↦ elim (eqb_tells c 49) [
      | inl l ↦ (let f = password_sound x p y (rw (h.0, k.0, l.0) at e) in let i = h.1 in let j = k.1 in let m = l.1 in record { is_password = f.is_password; form = rw (i, j, m) f.form })
      | inr l ↦ (let w = rw (h.0, k.0, l.0) at e in absurd (cc))
    ]
    | inr k ↦ (let w = rw (h.0, k.0) at e in absurd (cc))
  ]
  | inr h ↦ (let w = rw h.0 at e in absurd (cc))
]

-- none is found where none begins
pub first_none : (x : List ℕ) → first_line_at x ≡ None → (password : Option (List ℕ)) (behind : List ℕ) → IsPassword password → x ≡ first_line password ++ behind → ⊥
first_none x n password behind h e = let a = first_found password behind h in let b = ap first_line_at e in absurd (cc)
