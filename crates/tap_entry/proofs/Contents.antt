-- The content of a page.
use Rattle.std.proofs.Common.{◌≡◌, ◌≢◌, ℕ, suc, zero, ◌+◌, ◌-◌, ◌*◌, ◌≤◌, ◌<◌, ◌==◌, true, false, nat_lt, nat_le, List, [], ◌∷◌, ◌++◌, length, take, drop, ap, sym, ◌∙◌, arith, length-append, inl, inr}
use Rattle.std.proofs.Common.{min, length-drop}
use Rattle.std.proofs.lemmas.List.{take_all, take_min}
use Rattle.std.specs.List.{AllByRecursion}
use Rattle.std.proofs.lemmas.Bool.{cases_lt}
use Rattle.std.proofs.lemmas.Bool.Decides.{nat_tests}
use Rattle.entry_line.specs.Chars.{cr}
use Rattle.tap_block.specs.Chars.{IsChar, sub}
use Rattle.tap_block.specs.Fields.{escaped, escape_of}
use Rattle.tap_block.specs.Reading.{IsBodyChar, IsBody}
use Rattle.tap_entry.specs.Client.{PageToSend, IsPage, content, count_of, is_last_at}
use Rattle.tap_entry.specs.Sound.{IsSound}

all_append : (P : ℕ → Type 0) (x y : List ℕ) → AllByRecursion P x → AllByRecursion P y → AllByRecursion P (x ++ y)
all_append P [] y h k = k
all_append P (c ∷ x) y h k = (h.0, all_append P x y h.1 k)

all_drop : (P : ℕ → Type 0) (n : ℕ) (x : List ℕ) → AllByRecursion P x → AllByRecursion P (drop n x)
all_drop P zero x h = h
all_drop P (suc n) [] h = h
all_drop P (suc n) (c ∷ x) h = all_drop P n x h.1

all_take : (P : ℕ → Type 0) (n : ℕ) (x : List ℕ) → AllByRecursion P x → AllByRecursion P (take n x)
all_take P zero x h = tt
all_take P (suc n) [] h = h
all_take P (suc n) (c ∷ x) h = (h.0, all_take P n x h.1)

-- a part of a list
pub all_part : (P : ℕ → Type 0) (k n : ℕ) (x : List ℕ) → AllByRecursion P x → AllByRecursion P (take n (drop k x))
all_part P k n x h = all_take P n (drop k x) (all_drop P k x h)

-- a character that may stand in a body
abbrev Both : ℕ → Type 0
Both c = IsChar c × IsBodyChar c

both_split : (x : List ℕ) → AllByRecursion Both x → AllByRecursion IsChar x × IsBody x
both_split [] h = (tt, tt)
both_split (c ∷ x) h = let k = both_split x h.1 in ((h.0.0, k.0), (h.0.1, k.1))

both_above : (c : ℕ) → 32 ≤ c → c ≤ 126 → Both c
both_above c h k = (omega (arith, k), ((λ e. omega (arith, e, h)), (λ e. omega (arith, e, h)), (λ e. omega (arith, e, h)), (λ e. omega (arith, e, h))))

digits_both : (x : List ℕ) → AllByRecursion (λ c. (48 ≤ c) × (c ≤ 57)) x → AllByRecursion Both x
digits_both [] h = tt
digits_both (c ∷ x) h = let a = h.0.0 in let b = h.0.1 in (both_above c (omega (arith, a)) (omega (arith, b)), digits_both x h.1)

escape_both : (c : ℕ) → c ≤ 126 → AllByRecursion Both (escape_of c)
escape_both c h = elim (cases_lt c 32) [
  | inl k ↦ (let t : nat_lt c 32 ≡ true = grind (arith, nat_tests) in rw t (both_sub, (both_above (c + 64) (omega arith) (omega (arith, k)), tt)))
  | inr k ↦ (let t : nat_lt c 32 ≡ false = grind (arith, nat_tests) in rw t (both_above c k h, tt))
]
  where
    both_sub : Both sub
    both_sub = (omega arith, ((λ e. cc), (λ e. cc), (λ e. cc), (λ e. cc)))

escaped_both : (x : List ℕ) → AllByRecursion (λ c. c ≤ 126) x → AllByRecursion Both (escaped x)
escaped_both [] h = tt
escaped_both (c ∷ x) h = all_append Both (escape_of c) (escaped x) (escape_both c h.0) (escaped_both x h.1)

both_cr : Both cr
both_cr = (omega arith, ((λ e. cc), (λ e. cc), (λ e. cc), (λ e. cc)))

-- the content of a page is cut into blocks as it stands
pub content_sound : (p : PageToSend) → IsPage p → IsSound (content p) 0 0
content_sound p h =
    let k = both_split (content p) (all_append Both p.id (cr ∷ (escaped p.text ++ cr ∷ [])) (digits_both p.id h.id_digits)
    (both_cr, all_append Both (escaped p.text) (cr ∷ []) (escaped_both p.text h.text_chars) (both_cr, tt))) in
    let n = length-append p.id (cr ∷ (escaped p.text ++ cr ∷ [])) in
    let s = h.id_some in
    record { chars = k.0; no_block_inside = k.1; place = omega (arith, n, s); tries = omega arith }

-- the last block by the length
pub last_by_length : (x : List ℕ) (k : ℕ) → 250 * k < length x → nat_le (length x) (250 * (k + 1)) ≡ is_last_at x k
last_by_length x k h = elim (cases_lt (250 * (k + 1)) (length x)) [
  | inl l ↦ (let a : nat_le (length x) (250 * (k + 1)) ≡ false = grind (arith, nat_tests) in
      let n : k + 1 ≢ count_of x = (λ e. omega (arith, e, l)) in
      let b : (k + 1 == count_of x) ≡ false = grind (arith, nat_tests) in a ∙ sym b)
  | inr l ↦ (let a : nat_le (length x) (250 * (k + 1)) ≡ true = grind (arith, nat_tests) in
      let n : k + 1 ≡ count_of x = omega (arith, l, h) in
      let b : (k + 1 == count_of x) ≡ true = grind (arith, nat_tests) in a ∙ sym b)
]

-- the front of what is behind a place
pub front_of_rest : (x : List ℕ) (k n : ℕ) → n ≡ min (length (take (length x - k) (drop k x))) 250 → take n (take (length x - k) (drop k x)) ≡ take 250 (drop k x)
front_of_rest x k n e =
    let a : take (length x - k) (drop k x) ≡ drop k x = take_all (length x - k) (drop k x) (simp length-drop (omega arith)) in
    let b : n ≡ min 250 (length (drop k x)) = e ∙ ap (λ z. min (length z) 250) a ∙ (let c : min (length (drop k x)) 250 ≡ min 250 (length (drop k x)) = omega arith in c) in
    rw (a, b) (take_min 250 (drop k x))
