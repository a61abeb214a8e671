-- Marks counted, and one mark more.
use Rattle.std.proofs.Common.{◌≡◌, ℕ, ◌+◌, cond, List, [], ◌∷◌, ◌++◌, refl, ap, sym, ◌∙◌, subst, append_assoc, append-nil, arith, Option, ◌⊎◌, inl, inr}
use Rattle.std.specs.List.{AllByRecursion, flat_map}
use Rattle.std.proofs.lemmas.List.Sums.{sum_by-append}
use Rattle.tap_entry.specs.declared.hearing.Mark.{Mark}
use Rattle.tap_entry.specs.declared.hearing.Mark.TheVariants.{Id, Ack, Nak, Rs, End, Go}
use Rattle.tap_entry.specs.declared.outcomes.Outcome.{Outcome}
use Rattle.tap_entry.specs.Client.{acks, naks, is_ack, is_nak, IsCalling, DecidesLogon, IsUndecided, Decides, AreSinceAck, logons, logon_line, said_after, block_at}
use Rattle.tap_entry.proofs.Cutting.{split_push}

pub naks_push : (x : List Mark) (m : Mark) → naks (x ++ m ∷ []) ≡ naks x + naks (m ∷ [])
naks_push x m = sum_by-append (λ m. cond (is_nak m) 1 0) x (m ∷ [])

pub acks_push : (x : List Mark) (m : Mark) → acks (x ++ m ∷ []) ≡ acks x + acks (m ∷ [])
acks_push x m = sum_by-append (λ m. cond (is_ack m) 1 0) x (m ∷ [])

-- none of the marks decides, nor does one more
pub none_push : (D : List Mark → Mark → Type 0) (since : List Mark) (m : Mark)
    → ((front : List Mark) (mark : Mark) (rest : List Mark) → since ≡ front ++ mark ∷ rest → D front mark → ⊥) → (D since m → ⊥)
    → (front : List Mark) (mark : Mark) (rest : List Mark) → since ++ m ∷ [] ≡ front ++ mark ∷ rest → D front mark → ⊥
none_push D since m none ne front mark rest e d = elim (split_push since m front (mark ∷ rest) e) [
  | inl h ↦ (let k = h.0 in cc)
  | inr h ↦ by_before h.0 h.1.0 h.1.1
]
  where
    by_before : (before : List Mark) → mark ∷ rest ≡ before ++ m ∷ [] → since ≡ front ++ before → ⊥
    by_before [] k q =
        let head : mark ≡ m = cc in
        ne (subst (λ z. D z m) (sym (q ∙ append-nil front)) (subst (λ z. D front z) head d))
    by_before (b ∷ before) k q = let head : b ≡ mark = cc in none front mark before (q ∙ ap (λ z. front ++ z ∷ before) head) d

pub calling_push : (since : List Mark) (m : Mark) → IsCalling since → (DecidesLogon since m → ⊥) → IsCalling (since ++ m ∷ [])
calling_push since m h n front mark rest e d = none_push DecidesLogon since m h n front mark rest e d

pub undecided_push : (k : ℕ) (since : List Mark) (m : Mark) → IsUndecided k since → ((o : Outcome) → Decides k since m o → ⊥) → IsUndecided k (since ++ m ∷ [])
undecided_push k since m h n front mark rest o e d =
    none_push (λ front mark. Decides k front mark o) since m (λ f g r q w. h f g r o q w) (n o) front mark rest e d

pub all_push : (P : Mark → Type 0) (x : List Mark) (m : Mark) → AllByRecursion P x → P m → AllByRecursion P (x ++ m ∷ [])
all_push P [] m h k = (k, tt)
all_push P (c ∷ x) m h k = (h.0, all_push P x m h.1 k)

flat_push : (f : Mark → List ℕ) (x : List Mark) (m : Mark) → flat_map f (x ++ m ∷ []) ≡ flat_map f x ++ f m
flat_push f [] m = append-nil (f m)
flat_push f (c ∷ x) m = ap (λ z. f c ++ z) (flat_push f x m) ∙ sym (append_assoc (f c) (flat_map f x) (f m))

pub logons_push : (password : Option (List ℕ)) (x : List Mark) (m : Mark) → logons password (x ++ m ∷ []) ≡ logons password x ++ cond (is_nak m) (logon_line password) []
logons_push password x m =
    ap (λ z. logon_line password ++ z) (flat_push (λ m. cond (is_nak m) (logon_line password) []) x m)
    ∙ sym (append_assoc (logon_line password) (flat_map (λ m. cond (is_nak m) (logon_line password) []) x) (cond (is_nak m) (logon_line password) []))

pub acks_cons : (m : Mark) (x : List Mark) → acks (m ∷ x) ≡ acks (m ∷ []) + acks x
acks_cons m x = sum_by-append (λ m. cond (is_ack m) 1 0) (m ∷ []) x

-- behind one more mark is said what that mark brings
abbrev pub said_step : List ℕ → ℕ → Mark → List ℕ
said_step x k Ack = block_at x (k + 1)
said_step x k Nak = block_at x k
said_step x k other = []

pub said_push : (x : List ℕ) (k : ℕ) (since : List Mark) (m : Mark) → said_after x k (since ++ m ∷ []) ≡ said_after x k since ++ said_step x (k + acks since) m
said_push x k [] Ack = append-nil (block_at x (k + 1)) ∙ ap (λ n. block_at x (n + 1)) (let e : k ≡ k + 0 = omega arith in e)
said_push x k [] Nak = append-nil (block_at x k) ∙ ap (λ n. block_at x n) (let e : k ≡ k + 0 = omega arith in e)
said_push x k [] Id = refl
said_push x k [] Rs = refl
said_push x k [] End = refl
said_push x k [] Go = refl
said_push x k (Ack ∷ since) m =
    ap (λ z. block_at x (k + 1) ++ z) (said_push x (k + 1) since m ∙ ap (λ n. said_after x (k + 1) since ++ said_step x n m) (let a = acks_cons Ack since in let e : k + 1 + acks since ≡ k + acks (Ack ∷ since) = omega (arith, a) in e))
    ∙ sym (append_assoc (block_at x (k + 1)) (said_after x (k + 1) since) (said_step x (k + acks (Ack ∷ since)) m))
said_push x k (Nak ∷ since) m =
    ap (λ z. block_at x k ++ z) (said_push x k since m ∙ ap (λ n. said_after x k since ++ said_step x n m) (let a = acks_cons Nak since in let e : k + acks since ≡ k + acks (Nak ∷ since) = omega (arith, a) in e))
    ∙ sym (append_assoc (block_at x k) (said_after x k since) (said_step x (k + acks (Nak ∷ since)) m))
said_push x k (Id ∷ since) m = said_push x k since m ∙ ap (λ n. said_after x k since ++ said_step x n m) (let a = acks_cons Id since in let e : k + acks since ≡ k + acks (Id ∷ since) = omega (arith, a) in e)
said_push x k (Rs ∷ since) m = said_push x k since m ∙ ap (λ n. said_after x k since ++ said_step x n m) (let a = acks_cons Rs since in let e : k + acks since ≡ k + acks (Rs ∷ since) = omega (arith, a) in e)
said_push x k (End ∷ since) m = said_push x k since m ∙ ap (λ n. said_after x k since ++ said_step x n m) (let a = acks_cons End since in let e : k + acks since ≡ k + acks (End ∷ since) = omega (arith, a) in e)
said_push x k (Go ∷ since) m = said_push x k since m ∙ ap (λ n. said_after x k since ++ said_step x n m) (let a = acks_cons Go since in let e : k + acks since ≡ k + acks (Go ∷ since) = omega (arith, a) in e)

-- the marks since the last Ack
pub since_none : AreSinceAck [] []
since_none = (refl, inl refl)

pub since_ack : (since : List Mark) → AreSinceAck (since ++ Ack ∷ []) []
since_ack since = (refl, inr (since, refl))

pub since_other : (since last : List Mark) (m : Mark) → AreSinceAck since last → acks (m ∷ []) ≡ 0 → AreSinceAck (since ++ m ∷ []) (last ++ m ∷ [])
since_other since last m h n = ((let a = acks_push last m in let b = h.0 in omega (arith, a, b, n)), by_form h.1)
  where
    by_form : (since ≡ last) ⊎ ((before : List Mark) × (since ≡ before ++ Ack ∷ last)) → (since ++ m ∷ [] ≡ last ++ m ∷ []) ⊎ ((before : List Mark) × (since ++ m ∷ [] ≡ before ++ Ack ∷ (last ++ m ∷ [])))
    by_form (inl e) = inl (ap (λ z. z ++ m ∷ []) e)
    by_form (inr e) = inr (e.0, ap (λ z. z ++ m ∷ []) e.1 ∙ append_assoc e.0 (Ack ∷ last) (m ∷ []))

-- there is one list of marks since the last Ack
no_ack_in : (before last other : List Mark) → before ++ Ack ∷ last ≡ other → acks other ≡ 0 → ⊥
no_ack_in before last other e n = let a = sum_by-append (λ m. cond (is_ack m) 1 0) before (Ack ∷ last) in let b = ap acks e in let d = acks_cons Ack last in omega (arith, a, b, n, d)

same_last : (before other last more : List Mark) → before ++ Ack ∷ last ≡ other ++ Ack ∷ more → acks last ≡ 0 → acks more ≡ 0 → last ≡ more
same_last [] [] last more e n k = cc
same_last [] (c ∷ other) last more e n k = let f : last ≡ other ++ Ack ∷ more = cc in absurd (no_ack_in other more last (sym f) n)
same_last (c ∷ before) [] last more e n k = let f : before ++ Ack ∷ last ≡ more = cc in absurd (no_ack_in before last more f k)
same_last (c ∷ before) (d ∷ other) last more e n k = let f : before ++ Ack ∷ last ≡ other ++ Ack ∷ more = cc in same_last before other last more f n k

pub one_since : (since last more : List Mark) → AreSinceAck since last → AreSinceAck since more → last ≡ more
one_since since last more h k = by_form h.1 k.1
  where
    by_form : (since ≡ last) ⊎ ((before : List Mark) × (since ≡ before ++ Ack ∷ last)) → (since ≡ more) ⊎ ((before : List Mark) × (since ≡ before ++ Ack ∷ more)) → last ≡ more
    by_form (inl e) (inl f) = sym e ∙ f
    by_form (inl e) (inr f) = absurd (no_ack_in f.0 more last (sym f.1 ∙ e) h.0)
    by_form (inr e) (inl f) = absurd (no_ack_in e.0 last more (sym e.1 ∙ f) k.0)
    by_form (inr e) (inr f) = same_last e.0 f.0 last more (sym e.1 ∙ f.1) h.0 k.0
