-- Texts as a pages file writes them.
use Rattle.std.proofs.Common.{◌≡◌, ◌≢◌, ℕ, suc, ◌+◌, ◌*◌, ◌≤◌, true, ◌&&◌, nat_le, List, [], ◌∷◌, ◌++◌, length, map, refl, ap, sym, ◌∙◌, subst, append_assoc, append-nil, arith, Option, Some, None, inl, inr, length-append}
use Rattle.std.specs.List.{AllByRecursion, flat_map}
use Rattle.std.proofs.lemmas.Bool.Decides.{eqb_tells, leb_tells, nat_tests}
use Rattle.entry_line.specs.Chars.{lf, cr}
use Rattle.tap_block.proofs.First.{not_equal}
use Rattle.page_text.specs.declared.limits.TheConstants.{LONGEST_TEXT}
use Rattle.tap_entry.specs.PagesFile.{Sign, plain, a_backslash, a_line_feed, a_return, hexadecimal, IsSign, sign_written, char_meant, digit_of, backslash}
use Rattle.tap_entry.specs.Signs.{of_digits, hexadecimal_at, escape_at, sign_at, TextUpTo, BeginsText}

plain_test : (c : ℕ) → 32 ≤ c → c ≤ 126 → (nat_le 32 c && nat_le c 126) ≡ true
plain_test c h k = grind (arith, nat_tests)

small_test : (n : ℕ) → n ≤ 126 → nat_le n 126 ≡ true
small_test n h = grind (arith, nat_tests)

-- a sign is found
pub sign_found : (s : Sign) (y : List ℕ) → IsSign s → sign_at (sign_written s ++ y) ≡ Some (char_meant s, y)
sign_found (plain c) y h = rw (not_equal c backslash h.2, plain_test c h.0 h.1) refl
sign_found a_backslash y h = refl
sign_found a_line_feed y h = refl
sign_found a_return y h = refl
sign_found (hexadecimal a b m n) y h = rw (h.0, h.1, small_test (16 * m + n) h.2) refl

abbrev first_in : Option (ℕ × List ℕ) → ℕ
first_in None = 0
first_in (Some p) = p.0

abbrev second_in : Option (ℕ × List ℕ) → List ℕ
second_in None = []
second_in (Some p) = p.1

-- a character and what is behind it, apart
pair_is : (p q : ℕ × List ℕ) → Some p ≡ Some q → (p.0 ≡ q.0) × (p.1 ≡ q.1)
pair_is p q e = (ap first_in e, ap second_in e)

-- this sign stands there, and this is behind it
pub record SignAt (x : List ℕ) (c : ℕ) (y : List ℕ) : Type 0 where
  pub sign : Sign
  pub is_sign : IsSign sign
  pub form : x ≡ sign_written sign ++ y
  pub means : c ≡ char_meant sign

hexadecimal_sound : (x : List ℕ) (c : ℕ) (y : List ℕ) → hexadecimal_at x ≡ Some (c, y) → SignAt (backslash ∷ 120 ∷ x) c y
hexadecimal_sound [] c y e = absurd (cc)
hexadecimal_sound (a ∷ []) c y e = absurd (cc)
hexadecimal_sound (a ∷ b ∷ x) c y e = by_digits (digit_of a) (digit_of b) refl refl e
  where
    by_digits : (m n : Option ℕ) → digit_of a ≡ m → digit_of b ≡ n → of_digits m n x ≡ Some (c, y) → SignAt (backslash ∷ 120 ∷ a ∷ b ∷ x) c y
    by_digits None n p q k = absurd (cc)
    by_digits (Some m) None p q k = absurd (cc)
    by_digits (Some m) (Some n) p q k = elim (leb_tells (16 * m + n) 126) [
      | inl h ↦ (let w = rw h.0 at k in let r = pair_is (16 * m + n, x) (c, y) w in let v = sym r.0 in let z = r.1 in
          record { sign = hexadecimal a b m n; is_sign = (p, q, h.1); form = ap (λ l. backslash ∷ 120 ∷ a ∷ b ∷ l) z; means = v })
      | inr h ↦ (let w = rw h.0 at k in absurd (cc))
    ]

escape_sound : (x : List ℕ) (c : ℕ) (y : List ℕ) → escape_at x ≡ Some (c, y) → SignAt (backslash ∷ x) c y
escape_sound [] c y e = absurd (cc)
escape_sound (d ∷ x) c y e = elim (eqb_tells d backslash) [
  | inl h ↦ (let w = rw h.0 at e in let k = h.1 in let q = pair_is (backslash, x) (c, y) w in let v = sym q.0 in let z = q.1 in record { sign = a_backslash; is_sign = tt; form = rw (k, z) refl; means = v })
  | inr h ↦ elim (eqb_tells d 110) [
    | inl i ↦ (let w = rw (h.0, i.0) at e in let k = i.1 in let q = pair_is (lf, x) (c, y) w in let v = sym q.0 in let z = q.1 in record { sign = a_line_feed; is_sign = tt; form = rw (k, z) refl; means = v })
    | inr i ↦ elim (eqb_tells d 114) [
      | inl j ↦ (let w = rw (h.0, i.0, j.0) at e in let k = j.1 in let q = pair_is (cr, x) (c, y) w in let v = sym q.0 in let z = q.1 in record { sign = a_return; is_sign = tt; form = rw (k, z) refl; means = v })
      | inr j ↦ elim (eqb_tells d 120) [
        | inl k ↦ (let w = rw (h.0, i.0, j.0, k.0) at e in subst (λ z. SignAt (backslash ∷ z ∷ x) c y) (sym k.1) (hexadecimal_sound x c y w))
        | inr k ↦ (let w = rw (h.0, i.0, j.0, k.0) at e in absurd (cc))
      ]
    ]
  ]
]

-- what is found is a sign
pub sign_sound : (x : List ℕ) (c : ℕ) (y : List ℕ) → sign_at x ≡ Some (c, y) → SignAt x c y
sign_sound [] c y e = absurd (cc)
sign_sound (d ∷ x) c y e = elim (eqb_tells d backslash) [
  | inl h ↦ (let w = rw h.0 at e in subst (λ z. SignAt (z ∷ x) c y) (sym h.1) (escape_sound x c y w))
  | inr h ↦ elim (leb_tells 32 d) [
    | inl i ↦ elim (leb_tells d 126) [
      | inl j ↦ (let w = rw (h.0, i.0, j.0) at e in let q = pair_is (d, x) (c, y) w in let v = sym q.0 in let z = q.1 in record { sign = plain d; is_sign = (i.1, j.1, h.1); form = ap (λ l. d ∷ l) z; means = v })
      | inr j ↦ (let w = rw (h.0, i.0, j.0) at e in absurd (cc))
    ]
    | inr i ↦ (let w = rw (h.0, i.0) at e in absurd (cc))
  ]
]

-- a text ends at LF, so of two writings of it one goes on where the other stops
record GoesOn (signs others : List Sign) (rest more : List ℕ) : Type 0 where
  extra : List Sign
  each : AllByRecursion IsSign extra
  means : map char_meant others ≡ map char_meant signs ++ map char_meant extra
  form : rest ≡ flat_map sign_written extra ++ lf ∷ more

sign_front : (s : Sign) (signs : List Sign) (rest : List ℕ) → IsSign s → sign_at (flat_map sign_written (s ∷ signs) ++ rest) ≡ Some (char_meant s, flat_map sign_written signs ++ rest)
sign_front s signs rest h = ap sign_at (append_assoc (sign_written s) (flat_map sign_written signs) rest) ∙ sign_found s (flat_map sign_written signs ++ rest) h

goes_on : (signs others : List Sign) (rest more : List ℕ) → AllByRecursion IsSign signs → AllByRecursion IsSign others
    → flat_map sign_written signs ++ rest ≡ flat_map sign_written others ++ lf ∷ more → GoesOn signs others rest more
goes_on [] others rest more h k e = record { extra = others; each = k; means = refl; form = e }
goes_on (s ∷ signs) [] rest more h k e = let a = sign_front s signs rest h.0 in let b = ap sign_at e in let n : sign_at (lf ∷ more) ≡ None = refl in absurd (cc)
goes_on (s ∷ signs) (t ∷ others) rest more h k e =
    let a = sign_front s signs rest h.0 in
    let b = sign_front t others (lf ∷ more) k.0 in
    let d = ap sign_at e in
    let q = pair_is (char_meant s, flat_map sign_written signs ++ rest) (char_meant t, flat_map sign_written others ++ lf ∷ more) (sym a ∙ d ∙ b) in
    let same = q.0 in
    let tails = q.1 in
    let on = goes_on signs others rest more h.1 k.1 tails in
    record { extra = on.extra; each = on.each; means = ap (λ z. char_meant t ∷ z) on.means ∙ ap (λ z. z ∷ (map char_meant signs ++ map char_meant on.extra)) (sym same); form = on.form }

on_from : (x text rest other more : List ℕ) (h : TextUpTo x text rest) (k : BeginsText x other more) → GoesOn h.signs k.written_so.signs rest more
on_from x text rest other more h k =
    goes_on h.signs k.written_so.signs rest more h.each k.written_so.each (sym h.form ∙ k.form ∙ ap (λ z. z ++ lf ∷ more) k.written_so.form)

-- the loop's invariant
pub upto_nil : (x : List ℕ) → TextUpTo x [] x
upto_nil x = record { signs = []; each = tt; form = refl; means = refl; size = omega arith }

flat_push : (signs : List Sign) (s : Sign) → flat_map sign_written (signs ++ s ∷ []) ≡ flat_map sign_written signs ++ sign_written s
flat_push [] s = append-nil (sign_written s)
flat_push (t ∷ signs) s = ap (λ z. sign_written t ++ z) (flat_push signs s) ∙ sym (append_assoc (sign_written t) (flat_map sign_written signs) (sign_written s))

map_push : (signs : List Sign) (s : Sign) → map char_meant (signs ++ s ∷ []) ≡ map char_meant signs ++ char_meant s ∷ []
map_push [] s = refl
map_push (t ∷ signs) s = ap (λ z. char_meant t ∷ z) (map_push signs s)

each_push : (signs : List Sign) (s : Sign) → AllByRecursion IsSign signs → IsSign s → AllByRecursion IsSign (signs ++ s ∷ [])
each_push [] s h k = (k, tt)
each_push (t ∷ signs) s h k = (h.0, each_push signs s h.1 k)

pub upto_more : (x text rest : List ℕ) (c : ℕ) (behind : List ℕ) → TextUpTo x text rest → sign_at rest ≡ Some (c, behind) → length text ≢ LONGEST_TEXT → TextUpTo x (text ++ c ∷ []) behind
upto_more x text rest c behind h e n =
    let s = sign_sound rest c behind e in
    record {
      signs = h.signs ++ s.sign ∷ [];
      each = each_push h.signs s.sign h.each s.is_sign;
      form = h.form ∙ ap (λ z. flat_map sign_written h.signs ++ z) s.form ∙ sym (ap (λ z. z ++ behind) (flat_push h.signs s.sign) ∙ append_assoc (flat_map sign_written h.signs) (sign_written s.sign) behind);
      means = ap (λ z. z ++ c ∷ []) h.means ∙ ap (λ z. map char_meant h.signs ++ z ∷ []) s.means ∙ sym (map_push h.signs s.sign);
      size = (let a = length-append text (c ∷ []) in let b = h.size in omega (arith, a, b, n));
    }

-- the text ends
pub text_ends : (x text behind : List ℕ) → TextUpTo x text (lf ∷ behind) → BeginsText x text behind
text_ends x text behind h = record {
  characters = flat_map sign_written h.signs;
  written_so = record { signs = h.signs; each = h.each; form = refl; means = h.means };
  size = h.size;
  form = h.form;
}

length_map : (signs : List Sign) → length (map char_meant signs) ≡ length signs
length_map [] = refl
length_map (s ∷ signs) = ap suc (length_map signs)

-- it is too long
pub text_full : (x text rest : List ℕ) (c : ℕ) (behind other more : List ℕ) → TextUpTo x text rest → sign_at rest ≡ Some (c, behind) → length text ≡ LONGEST_TEXT → BeginsText x other more → ⊥
text_full x text rest c behind other more h e n k = by_extra on.extra on.each on.means on.form
  where
    on : GoesOn h.signs k.written_so.signs rest more
    on = on_from x text rest other more h k

    by_extra : (extra : List Sign) → AllByRecursion IsSign extra → map char_meant k.written_so.signs ≡ map char_meant h.signs ++ map char_meant extra → rest ≡ flat_map sign_written extra ++ lf ∷ more → ⊥
    by_extra [] p m f = let a = ap sign_at f in let b : sign_at (lf ∷ more) ≡ None = refl in absurd (cc)
    by_extra (s ∷ extra) p m f =
        let a = ap length (k.written_so.means ∙ m ∙ ap (λ z. z ++ map char_meant (s ∷ extra)) (sym h.means)) in
        let b = length-append text (map char_meant (s ∷ extra)) in
        let z = k.size in
        omega (arith, a, b, n, z)

-- it stops at what is neither a sign nor LF
pub text_stops : (x text rest other more : List ℕ) → TextUpTo x text rest → sign_at rest ≡ None → ((behind : List ℕ) → rest ≡ lf ∷ behind → ⊥) → BeginsText x other more → ⊥
text_stops x text rest other more h e n k = by_extra on.extra on.each on.form
  where
    on : GoesOn h.signs k.written_so.signs rest more
    on = on_from x text rest other more h k

    by_extra : (extra : List Sign) → AllByRecursion IsSign extra → rest ≡ flat_map sign_written extra ++ lf ∷ more → ⊥
    by_extra [] p f = n more f
    by_extra (s ∷ extra) p f = let a = ap sign_at f in let b = sign_front s extra (lf ∷ more) p.0 in absurd (cc)

-- a line has one text
pub one_text : (x text behind other more : List ℕ) → BeginsText x text behind → BeginsText x other more → (text ≡ other) × (behind ≡ more)
one_text x text behind other more h k = by_extra on.extra on.each on.means on.form
  where
    up : TextUpTo x text (lf ∷ behind)
    up = record { signs = h.written_so.signs; each = h.written_so.each; form = h.form ∙ ap (λ z. z ++ lf ∷ behind) h.written_so.form; means = h.written_so.means; size = h.size }

    on : GoesOn h.written_so.signs k.written_so.signs (lf ∷ behind) more
    on = on_from x text (lf ∷ behind) other more up k

    by_extra : (extra : List Sign) → AllByRecursion IsSign extra → map char_meant k.written_so.signs ≡ map char_meant h.written_so.signs ++ map char_meant extra → lf ∷ behind ≡ flat_map sign_written extra ++ lf ∷ more → (text ≡ other) × (behind ≡ more)
    by_extra [] p m f = (h.written_so.means ∙ sym (k.written_so.means ∙ m ∙ append-nil (map char_meant h.written_so.signs)), cc)
    by_extra (s ∷ extra) p m f = let a = ap sign_at f in let b = sign_front s extra (lf ∷ more) p.0 in let d : sign_at (lf ∷ behind) ≡ None = refl in absurd (cc)

-- the characters of a text
pub meant_small : (signs : List Sign) → AllByRecursion IsSign signs → AllByRecursion (λ c. c ≤ 126) (map char_meant signs)
meant_small [] h = tt
meant_small (plain c ∷ signs) h = (h.0.1, meant_small signs h.1)
meant_small (a_backslash ∷ signs) h = (omega arith, meant_small signs h.1)
meant_small (a_line_feed ∷ signs) h = (omega arith, meant_small signs h.1)
meant_small (a_return ∷ signs) h = (omega arith, meant_small signs h.1)
meant_small (hexadecimal a b m n ∷ signs) h = (h.0.2, meant_small signs h.1)
