-- Capcodes in an ordered map, and the sets of numbers there.
use Rattle.std.proofs.Common.{◌≡◌, ℕ, zero, suc, ◌+◌, ◌-◌, ◌*◌, ◌%◌, ◌^◌, ◌≤◌, ◌<◌, w64, bit_or, Bool, true, false, ◌==◌, ◌||◌, ◌&&◌, cond, List, [], ◌∷◌, length, take, get_or, Option, Some, None, SomeIff, refl, sym, ◌∙◌, ap, ap₂, subst, inl, inr, eq-eqb, ne_eqb, arith}
use Rattle.std.proofs.lemmas.Bool.{cases_lt, cases_eq, lt-ltb, le-ltb}
use Rattle.std.proofs.lemmas.List.Folds.{list_any_more}
use Rattle.std.specs.List.{list_any}
use Rattle.std.specs.declared.cmp.Ordering.TheVariants.{Less, Equal, Greater}
use Rattle.std.specs.Ordering.{is_eq, nat_cmp}
use Rattle.std.specs.BTreeMap.{is_at}
use Rattle.std.specs.Int.{bit_at}
use Rattle.std.specs.Map.{keys_of, lookup}
use Rattle.std.specs.Option.{is_some, unwrap_or}
use Rattle.std.proofs.lemmas.Map.Made.{is_some-lookup}
use Rattle.std.proofs.lemmas.Nat.Bits.{bit_at-zero, bit_at_set_same, bit_at_set_other}
use Rattle.codeword.specs.Capcodes.{IsUsable}
use Rattle.receiver.specs.Listeners.{is_one_of}
use Rattle.receiver.specs.Receivers.{has_in, is_in_set, is_in_some, is_listed, is_paired}
use Rattle.receiver.specs.Gathering.{IsFound}

at_same : (n k : ℕ) → is_at (nat_cmp n) k ≡ (k == n)
at_same n k = elim (cases_eq k n) [
  | inl same ↦
      ap₂ (λ (x y : Bool). is_eq (cond x Less (cond y Equal Greater))) (le-ltb n k (omega arith)) (eq-eqb n k (sym same)) ∙ sym (eq-eqb k n same)
  | inr apart ↦ elim (cases_lt n k) [
    | inl below ↦ ap (λ (x : Bool). is_eq (cond x Less (cond (n == k) Equal Greater))) (lt-ltb n k below) ∙ sym (ne_eqb k n apart)
    | inr above ↦
        ap₂ (λ (x y : Bool). is_eq (cond x Less (cond y Equal Greater))) (le-ltb n k above) (ne_eqb n k (λ e. apart (sym e))) ∙ sym (ne_eqb k n apart)
  ]
]

pub contains-is_one_of : (keys : List ℕ) (n : ℕ) → list_any (is_at (nat_cmp n)) keys ≡ is_one_of keys n
contains-is_one_of [] n = refl
contains-is_one_of (k ∷ keys) n = ap₂ (λ (x y : Bool). x || y) (at_same n k) (contains-is_one_of keys n)

pub is_found : (keys : List ℕ) (n : ℕ) (o : Option ℕ) → list_any (is_at (nat_cmp n)) keys ≡ true → ((c : ℕ) → is_one_of keys c ≡ true → IsUsable c)
    → SomeIff o (IsUsable n) n → IsFound keys n o
is_found keys n None at usable s = absurd (s (usable n (sym (contains-is_one_of keys n) ∙ at)))
is_found keys n (Some c) at usable s = (s.1, sym (contains-is_one_of keys n) ∙ at)

-- no unusable number is one of usable ones
pub none_found : (keys : List ℕ) (n : ℕ) → ((c : ℕ) → is_one_of keys c ≡ true → IsUsable c) → (IsUsable n → ⊥) → is_one_of keys n ≡ false
none_found keys n usable unusable = not_true (is_one_of keys n) refl
  where
    not_true : (b : Bool) → is_one_of keys n ≡ b → b ≡ false
    not_true true e = absurd (unusable (usable n e))
    not_true false e = refl

-- a key of a map
pub has_key-is_one_of : (es : List (ℕ × ℕ)) (n : ℕ) → is_some (lookup (is_at (nat_cmp n)) es) ≡ is_one_of (keys_of es) n
has_key-is_one_of es n = is_some-lookup (is_at (nat_cmp n)) es ∙ contains-is_one_of (keys_of es) n

pub lookup-same : (es : List (ℕ × ℕ)) (n : ℕ) → lookup (is_at (nat_cmp n)) es ≡ lookup (λ c. c == n) es
lookup-same [] n = refl
lookup-same (e ∷ es) n = ap₂ (λ (t : Bool) (o : Option ℕ). cond t (Some e.1) o) (at_same n e.0) (lookup-same es n)

or_true : (b : Bool) → (b || true) ≡ true
or_true true = refl
or_true false = refl

or_false : (b : Bool) → (b || false) ≡ b
or_false true = refl
or_false false = refl

and_true : (b : Bool) → (b && true) ≡ b
and_true true = refl
and_true false = refl

and_false : (b : Bool) → (b && false) ≡ false
and_false true = refl
and_false false = refl

-- ---- one more number in a set

none_at_zero : (o : Option ℕ) → is_in_some o 0 ≡ false
none_at_zero None = refl
none_at_zero (Some set) = refl

in_some-suc : (o : Option ℕ) (j : ℕ) → is_in_some o (suc j) ≡ (bit_at (unwrap_or o 0) j == 1)
in_some-suc None j = sym (ap (λ (b : ℕ). b == 1) (bit_at-zero j))
in_some-suc (Some set) j = refl

added_at : (o : Option ℕ) (m n : ℕ) → m < 64 → is_in_set (bit_or (unwrap_or o 0) (1 * 2 ^ m % 2 ^ 64)) n ≡ (is_in_some o n || (suc m == n))
added_at o m zero l = sym (ap (λ (b : Bool). b || (suc m == 0)) (none_at_zero o) ∙ ne_eqb (suc m) 0 (λ e. omega (arith, e)))
added_at o m (suc j) l = elim (cases_eq j m) [
  | inl same ↦
      ap (λ (i : ℕ). bit_at (bit_or (unwrap_or o 0) (1 * 2 ^ m % 2 ^ 64)) i == 1) same
      ∙ ap (λ (b : ℕ). b == 1) (bit_at_set_same w64 (unwrap_or o 0) m l)
      ∙ sym (ap (λ (t : Bool). is_in_some o (suc j) || t) (eq-eqb (suc m) (suc j) (ap suc (sym same))) ∙ or_true (is_in_some o (suc j)))
  | inr apart ↦
      ap (λ (b : ℕ). b == 1) (bit_at_set_other w64 (unwrap_or o 0) m l j apart)
      ∙ sym (in_some-suc o j)
      ∙ sym (ap (λ (t : Bool). is_in_some o (suc j) || t) (ne_eqb (suc m) (suc j) (λ e. apart (omega (arith, e)))) ∙ or_false (is_in_some o (suc j)))
]

added : (o : Option ℕ) (number n : ℕ) → 1 ≤ number → number ≤ 64 → is_in_set (bit_or (unwrap_or o 0) (1 * 2 ^ (number - 1) % 2 ^ 64)) n ≡ (is_in_some o n || (number == n))
added o zero n some most = absurd (omega arith)
added o (suc m) n some most =
    let e : suc m - 1 ≡ m = omega arith in
    ap (λ (k : ℕ). is_in_set (bit_or (unwrap_or o 0) (1 * 2 ^ k % 2 ^ 64)) n) e ∙ added_at o m n (omega arith)

-- ---- a map with one more number for a capcode

-- what an entry that was put into a map gives
abbrev pub IsUpdate : List (ℕ × ℕ) → List (ℕ × ℕ) → ℕ → ℕ → Type 0
IsUpdate old new key set = (q : ℕ) → lookup (is_at (nat_cmp q)) new ≡ cond (is_at (nat_cmp key) q) (Some set) (lookup (is_at (nat_cmp q)) old)

update-at : (old new : List (ℕ × ℕ)) (key set : ℕ) → IsUpdate old new key set → (q : ℕ) → lookup (λ c. c == q) new ≡ cond (q == key) (Some set) (lookup (λ c. c == q) old)
update-at old new key set u q =
    sym (lookup-same new q) ∙ u q ∙ ap₂ (λ (t : Bool) (o : Option ℕ). cond t (Some set) o) (at_same key q) (lookup-same old q)

holder_added-key : (old new : List (ℕ × ℕ)) (number key set : ℕ) → 1 ≤ number → number ≤ 64
    → set ≡ bit_or (unwrap_or (lookup (is_at (nat_cmp key)) old) 0) (1 * 2 ^ (number - 1) % 2 ^ 64) → IsUpdate old new key set
    → (n c : ℕ) → has_in new n c ≡ (has_in old n c || ((number == n) && (key == c)))
holder_added-key old new number key set some most is u n c = elim (cases_eq c key) [
  | inl same ↦
      let at : lookup (λ q. q == c) new ≡ Some set = update-at old new key set u c ∙ ap (λ (t : Bool). cond t (Some set) (lookup (λ q. q == c) old)) (eq-eqb c key same) in
      let was : lookup (is_at (nat_cmp key)) old ≡ lookup (λ q. q == c) old = lookup-same old key ∙ ap (λ (k : ℕ). lookup (λ q. q == k) old) (sym same) in
      ap (λ (o : Option ℕ). is_in_some o n) at
      ∙ ap (λ (s : ℕ). is_in_set s n) (is ∙ ap (λ (o : Option ℕ). bit_or (unwrap_or o 0) (1 * 2 ^ (number - 1) % 2 ^ 64)) was)
      ∙ added (lookup (λ q. q == c) old) number n some most
      ∙ ap (λ (t : Bool). has_in old n c || t) (sym (ap (λ (t : Bool). (number == n) && t) (eq-eqb key c (sym same)) ∙ and_true (number == n)))
  | inr apart ↦
      let at : lookup (λ q. q == c) new ≡ lookup (λ q. q == c) old = update-at old new key set u c ∙ ap (λ (t : Bool). cond t (Some set) (lookup (λ q. q == c) old)) (ne_eqb c key apart) in
      ap (λ (o : Option ℕ). is_in_some o n) at
      ∙ sym (ap (λ (t : Bool). has_in old n c || t) (ap (λ (t : Bool). (number == n) && t) (ne_eqb key c (λ e. apart (sym e))) ∙ and_false (number == n)) ∙ or_false (has_in old n c))
]

pub holder_added : (old new : List (ℕ × ℕ)) (number key capcode before set : ℕ) → 1 ≤ number → number ≤ 64 → key ≡ capcode
    → before ≡ unwrap_or (lookup (is_at (nat_cmp key)) old) 0 → set ≡ bit_or before (1 * 2 ^ (number - 1) % 2 ^ 64) → IsUpdate old new key set
    → (n c : ℕ) → has_in new n c ≡ (has_in old n c || ((number == n) && (capcode == c)))
holder_added old new number key capcode before set some most same was is u n c =
    holder_added-key old new number key set some most (is ∙ ap (λ (b : ℕ). bit_or b (1 * 2 ^ (number - 1) % 2 ^ 64)) was) u n c
    ∙ ap (λ (k : ℕ). has_in old n c || ((number == n) && (k == c))) same

-- a capcode is a key exactly where it has an entry
is_key : (es : List (ℕ × ℕ)) (c : ℕ) → is_one_of (keys_of es) c ≡ is_some (lookup (λ q. q == c) es)
is_key es c = sym (is_some-lookup (λ q. q == c) es)

key_added-key : (old new : List (ℕ × ℕ)) (key set : ℕ) → IsUpdate old new key set → (c : ℕ) → is_one_of (keys_of new) c ≡ (is_one_of (keys_of old) c || (key == c))
key_added-key old new key set u c =
    is_key new c ∙ ap (λ (o : Option ℕ). is_some o) (update-at old new key set u c) ∙ elim (cases_eq c key) [
      | inl same ↦
          ap (λ (t : Bool). is_some (cond t (Some set) (lookup (λ q. q == c) old))) (eq-eqb c key same)
          ∙ sym (ap (λ (t : Bool). is_one_of (keys_of old) c || t) (eq-eqb key c (sym same)) ∙ or_true (is_one_of (keys_of old) c))
      | inr apart ↦
          ap (λ (t : Bool). is_some (cond t (Some set) (lookup (λ q. q == c) old))) (ne_eqb c key apart) ∙ sym (is_key old c)
          ∙ sym (ap (λ (t : Bool). is_one_of (keys_of old) c || t) (ne_eqb key c (λ e. apart (sym e))) ∙ or_false (is_one_of (keys_of old) c))
    ]

pub key_added : (old new : List (ℕ × ℕ)) (key capcode set : ℕ) → key ≡ capcode → IsUpdate old new key set
    → (c : ℕ) → is_one_of (keys_of new) c ≡ (is_one_of (keys_of old) c || (capcode == c))
key_added old new key capcode set same u c = key_added-key old new key set u c ∙ ap (λ (k : ℕ). is_one_of (keys_of old) c || (k == c)) same

-- the usable ones stay usable
-- what holds of a key and of the keys before it holds of all keys
pub key_has : (P : ℕ → Type 0) (old new : List ℕ) (key : ℕ) → P key → ((c : ℕ) → is_one_of new c ≡ (is_one_of old c || (key == c)))
    → ((c : ℕ) → is_one_of old c ≡ true → P c) → (c : ℕ) → is_one_of new c ≡ true → P c
key_has P old new key holds updates before c h = elim (cases_eq c key) [
  | inl same ↦ subst P (sym same) holds
  | inr apart ↦ before c (sym (updates c ∙ ap (λ (t : Bool). is_one_of old c || t) (ne_eqb key c (λ e. apart (sym e))) ∙ or_false (is_one_of old c)) ∙ h)
]

-- ---- one more pair

pub listed_more : (pairs : List (ℕ × ℕ)) (i : ℕ) (item : ℕ × ℕ) → i < length pairs → item ≡ get_or pairs i item
    → (c : ℕ) → (is_listed (take i pairs) c || (item.1 == c)) ≡ is_listed (take (i + 1) pairs) c
listed_more pairs i item l is c =
    ap (λ (p : ℕ × ℕ). is_listed (take i pairs) c || (p.1 == c)) is ∙ sym (list_any_more (λ (p : ℕ × ℕ). p.1 == c) pairs i item l)

pub paired_more : (pairs : List (ℕ × ℕ)) (i : ℕ) (item : ℕ × ℕ) → i < length pairs → item ≡ get_or pairs i item
    → (n c : ℕ) → (is_paired (take i pairs) n c || ((item.0 == n) && (item.1 == c))) ≡ is_paired (take (i + 1) pairs) n c
paired_more pairs i item l is n c =
    ap (λ (p : ℕ × ℕ). is_paired (take i pairs) n c || ((p.0 == n) && (p.1 == c))) is
    ∙ sym (list_any_more (λ (p : ℕ × ℕ). (p.0 == n) && (p.1 == c)) pairs i item l)
