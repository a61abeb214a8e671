-- What a terminal makes of the content of a page.
use Rattle.std.proofs.Common.{◌≡◌, ◌≢◌, ℕ, suc, zero, ◌+◌, ◌*◌, ◌<◌, ◌≤◌, cond, Bool, true, false, List, [], ◌∷◌, ◌++◌, length, take, drop, refl, ap, sym, ◌∙◌, subst, arith, Option, Some, None, ◌⊎◌, inl, inr, Ok, nat_lt, length-append}
use Rattle.std.specs.List.{AllByRecursion}
use Rattle.std.proofs.lemmas.Bool.{cases_lt}
use Rattle.std.proofs.lemmas.Bool.Decides.{nat_tests}
use Rattle.entry_line.specs.Chars.{cr}
use Rattle.tap_block.specs.Chars.{stx, etx, etb, us, sub}
use Rattle.tap_block.specs.Reading.{IsBody, IsBodyChar}
use Rattle.tap_block.specs.Fields.{escaped, escape_of, content_parts, read_field, front}
use Rattle.tap_block.proofs.Values.{escaped_read, read_plain}
use Rattle.tap_block.proofs.PartsOf.{parts_some}
use Rattle.subscribers.specs.Parts.{Target}
use Rattle.tap_terminal.specs.declared.answers.Reason.{Reason}
use Rattle.tap_terminal.specs.declared.answers.Reason.TheVariants.{Unknown, Text, Room}
use Rattle.tap_terminal.specs.declared.answers.Answer.TheVariants.{Ack}
use Rattle.page_text.specs.declared.limits.TheConstants.{LONGEST_TEXT}
use Rattle.page_text.specs.FitTest.{fits}
use Rattle.page_pool.specs.Cells.{cells_for}
use Rattle.page_pool.specs.Gains.{pages_to}
use Rattle.subscribers.specs.Directory.{Directory}
use Rattle.tap_terminal.specs.Verdict.{Verdict, refused, values_of, room_for, text_for, judge_content}
use Rattle.tap_entry.specs.Client.{PageToSend, IsPage, content}

-- what holds of all is so of parts
pub all_append : (P : ℕ → Type 0) (x y : List ℕ) → AllByRecursion P x → AllByRecursion P y → AllByRecursion P (x ++ y)
all_append P [] y h k = k
all_append P (c ∷ x) y h k = (h.0, all_append P x y h.1 k)

pub all_left : (P : ℕ → Type 0) (x y : List ℕ) → AllByRecursion P (x ++ y) → AllByRecursion P x
all_left P [] y h = tt
all_left P (c ∷ x) y h = (h.0, all_left P x y h.1)

pub all_right : (P : ℕ → Type 0) (x y : List ℕ) → AllByRecursion P (x ++ y) → AllByRecursion P y
all_right P [] y h = h
all_right P (c ∷ x) y h = all_right P x y h.1

pub all_weak : (P Q : ℕ → Type 0) → ((c : ℕ) → P c → Q c) → (x : List ℕ) → AllByRecursion P x → AllByRecursion Q x
all_weak P Q f [] h = tt
all_weak P Q f (c ∷ x) h = (f c h.0, all_weak P Q f x h.1)

pub all_take : (P : ℕ → Type 0) (n : ℕ) (x : List ℕ) → AllByRecursion P x → AllByRecursion P (take n x)
all_take P zero x h = tt
all_take P (suc n) [] h = tt
all_take P (suc n) (c ∷ x) h = (h.0, all_take P n x h.1)

pub all_drop : (P : ℕ → Type 0) (n : ℕ) (x : List ℕ) → AllByRecursion P x → AllByRecursion P (drop n x)
all_drop P zero x h = h
all_drop P (suc n) [] h = tt
all_drop P (suc n) (c ∷ x) h = all_drop P n x h.1

-- characters that stand in a field: none that ends it or its block
abbrev pub IsPlain : ℕ → Type 0
IsPlain c = (c ≢ stx) × (c ≢ etx) × (c ≢ etb) × (c ≢ us) × (c ≢ cr)

high : (c : ℕ) → 32 ≤ c → IsPlain c
high c h = ((λ e. omega (arith, h, e)), (λ e. omega (arith, h, e)), (λ e. omega (arith, h, e)), (λ e. omega (arith, h, e)), (λ e. omega (arith, h, e)))

sub_plain : IsPlain sub
sub_plain = ((λ e. omega (arith, e)), (λ e. omega (arith, e)), (λ e. omega (arith, e)), (λ e. omega (arith, e)), (λ e. omega (arith, e)))

pub escaped_plain : (text : List ℕ) → AllByRecursion IsPlain (escaped text)
escaped_plain [] = tt
escaped_plain (c ∷ text) = all_append IsPlain (escape_of c) (escaped text) (one (cases_lt c 32)) (escaped_plain text)
  where
    one : ((c < 32) ⊎ (32 ≤ c)) → AllByRecursion IsPlain (escape_of c)
    one (inl k) = let t : nat_lt c 32 ≡ true = grind (arith, nat_tests) in
        subst (λ b. AllByRecursion IsPlain (cond b (sub ∷ (c + 64) ∷ []) (c ∷ []))) (sym t) (sub_plain, (high (c + 64) (omega arith), tt))
    one (inr k) = let t : nat_lt c 32 ≡ false = grind (arith, nat_tests) in
        subst (λ b. AllByRecursion IsPlain (cond b (sub ∷ (c + 64) ∷ []) (c ∷ []))) (sym t) (high c k, tt)

pub escaped_length : (text : List ℕ) → length (escaped text) ≤ 2 * length text
escaped_length [] = omega arith
escaped_length (c ∷ text) = let k = one (nat_lt c 32) in let r = escaped_length text in let e = length-append (escape_of c) (escaped text) in omega (arith, k, r, e)
  where
    one : (b : Bool) → length (cond b (sub ∷ (c + 64) ∷ []) (c ∷ [])) ≤ 2
    one true = omega arith
    one false = omega arith

digits_plain : (x : List ℕ) → AllByRecursion (λ c. (48 ≤ c) × (c ≤ 57)) x → AllByRecursion IsPlain x
digits_plain x h = all_weak (λ c. (48 ≤ c) × (c ≤ 57)) IsPlain (λ c k. let l = k.0 in high c (omega (arith, l))) x h

pub digits_read : (x : List ℕ) → AllByRecursion (λ c. (48 ≤ c) × (c ≤ 57)) x → read_field x ≡ Ok x
digits_read [] h = refl
digits_read (c ∷ x) h = let l = h.0.0 in let k = h.0.1 in read_plain c x (omega (arith, l)) (omega (arith, k)) ∙ ap (front (c ∷ [])) (digits_read x h.1)

-- a content is a body but for its length
pub content_body : (p : PageToSend) → IsPage p → IsBody (content p)
content_body p h = all_append IsBodyChar p.id (cr ∷ (escaped p.text ++ cr ∷ [])) (weak p.id (digits_plain p.id h.id_digits))
    (cr_body, all_append IsBodyChar (escaped p.text) (cr ∷ []) (weak (escaped p.text) (escaped_plain p.text)) (cr_body, tt))
  where
    weak : (x : List ℕ) → AllByRecursion IsPlain x → IsBody x
    weak x k = all_weak IsPlain IsBodyChar (λ c m. (m.0, m.1, m.2, m.3)) x k

    cr_body : IsBodyChar cr
    cr_body = ((λ e. omega (arith, e)), (λ e. omega (arith, e)), (λ e. omega (arith, e)), (λ e. omega (arith, e)))

pub content_length : (p : PageToSend) → IsPage p → length (content p) ≤ 12 + 2 * LONGEST_TEXT
content_length p h =
    let a = length-append p.id (cr ∷ (escaped p.text ++ cr ∷ [])) in
    let b = length-append (escaped p.text) (cr ∷ []) in
    let e = escaped_length p.text in
    let s = h.id_size in
    let t = h.text_size in
    omega (arith, a, b, e, s, t)

pub content_some : (p : PageToSend) → IsPage p → 0 < length (content p)
content_some p h = let a = length-append p.id (cr ∷ (escaped p.text ++ cr ∷ [])) in omega (arith, a)

-- the two fields come back
pub content_values : (p : PageToSend) → IsPage p → values_of (content_parts (content p)) ≡ Some (p.id, p.text)
content_values p h =
    let parts = parts_some (content p) p.id (escaped p.text) (record {
      form = refl;
      no_cr_first = all_weak IsPlain (λ c. c ≢ cr) (λ c m. m.4) p.id (digits_plain p.id h.id_digits);
      no_cr_second = all_weak IsPlain (λ c. c ≢ cr) (λ c m. m.4) (escaped p.text) (escaped_plain p.text);
    }) in
    rw (parts, digits_read p.id h.id_digits, escaped_read p.text h.text_chars) refl

-- a whole content is accepted as the pages of this page to send, or refused
pub data IsJudged (table : Directory) (p : PageToSend) : Verdict → Type 0 where
  taken : (t : Target) → table p.id ≡ Some t → IsJudged table p (record { answer = Ack; joined = []; pages = pages_to t.capcodes t.function p.text })
  refused_for : (reason : Reason) → IsJudged table p (refused reason)

pub judged : (table : Directory) (spare : ℕ) (p : PageToSend) → IsPage p → IsJudged table p (judge_content table spare (content p))
judged table spare p h = rw (content_values p h) (by_id (table p.id) refl)
  where
    by_room : (t : Target) → table p.id ≡ Some t → (b : Bool) → IsJudged table p (cond b (refused Room) (record { answer = Ack; joined = []; pages = pages_to t.capcodes t.function p.text }))
    by_room t e true = refused_for Room
    by_room t e false = taken t e

    by_fit : (t : Target) → table p.id ≡ Some t → (b : Bool) → IsJudged table p (cond b (room_for t p.text spare) (refused Text))
    by_fit t e true = by_room t e (nat_lt spare (cells_for (length p.text) * length t.capcodes))
    by_fit t e false = refused_for Text

    by_id : (o : Option Target) → table p.id ≡ o → IsJudged table p (text_for o p.text spare)
    by_id None e = refused_for Unknown
    by_id (Some t) e = by_fit t e (fits t.function p.text)
