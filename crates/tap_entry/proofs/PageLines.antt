-- The lines of a pages file.
use Rattle.std.proofs.Common.{◌≡◌, ◌≢◌, ℕ, suc, zero, ◌<◌, ◌≤◌, ◌==◌, cond, Bool, true, false, List, [], ◌∷◌, ◌++◌, length, take, get_or, refl, ap, sym, ◌∙◌, subst, append_assoc, append-nil, arith, length-append}
use Rattle.std.specs.List.{AllByRecursion, flat_map}
use Rattle.entry_line.specs.Chars.{lf, space}
use Rattle.tap_entry.specs.Client.{PageToSend}
use Rattle.tap_entry.specs.PagesFile.{IsLineOf, AreLinesOf}
use Rattle.tap_entry.specs.Signs.{IsDigit, BeginsId, BeginsText, BeginsPage, PagesUpTo}
use Rattle.tap_entry.proofs.Texts.{one_text, meant_small}

-- an id ends where the digits end
id_ends : (x : List ℕ) (i : ℕ) → AllByRecursion IsDigit (take i x) → i < length x → (IsDigit (get_or x i 0) → ⊥) → (id behind : List ℕ) → AllByRecursion IsDigit id → x ≡ id ++ space ∷ behind → (length id ≡ i) × (get_or x i 0 ≡ space)
id_ends [] i h l n id behind k e = absurd (omega (arith, l))
id_ends (c ∷ x) zero h l n [] behind k e = (refl, (let q : c ≡ space = cc in q))
id_ends (c ∷ x) zero h l n (d ∷ id) behind k e = let q : c ≡ d = cc in absurd (n (subst IsDigit (sym q) k.0))
id_ends (c ∷ x) (suc i) h l n [] behind k e = let q : c ≡ space = cc in let a = h.0.0 in absurd (omega (arith, q, a))
id_ends (c ∷ x) (suc i) h l n (d ∷ id) behind k e =
    let q : x ≡ id ++ space ∷ behind = cc in
    let r = id_ends x i h.1 (omega (arith, l)) n id behind k.1 q in
    (ap suc r.0, r.1)

-- no id ends there
pub id_none : (x : List ℕ) (i : ℕ) → AllByRecursion IsDigit (take i x) → i < length x → (IsDigit (get_or x i 0) → ⊥) → (get_or x i 0 ≡ space → 0 < i → i ≤ 10 → ⊥)
    → (id behind : List ℕ) → BeginsId x id behind → ⊥
id_none x i h l n w id behind k =
    let r = id_ends x i h l n id behind k.digits k.form in
    let a = r.0 in let b = k.size in let d = k.some in
    w r.1 (omega (arith, a, d)) (omega (arith, a, b))

-- digits alone are no id and space
pub digits_none : (x : List ℕ) → AllByRecursion IsDigit x → (id behind : List ℕ) → BeginsId x id behind → ⊥
digits_none x h id behind k = no_space id behind (subst (AllByRecursion IsDigit) k.form h)
  where
    no_space : (id behind : List ℕ) → AllByRecursion IsDigit (id ++ space ∷ behind) → ⊥
    no_space [] behind p = let a = p.0.0 in omega (arith, a)
    no_space (c ∷ id) behind p = no_space id behind p.1

-- a line has one id
one_id : (id behind other more : List ℕ) → AllByRecursion IsDigit id → AllByRecursion IsDigit other → id ++ space ∷ behind ≡ other ++ space ∷ more → (id ≡ other) × (behind ≡ more)
one_id [] behind [] more h k e = (refl, cc)
one_id [] behind (d ∷ other) more h k e = let q : space ≡ d = cc in let a = k.0.0 in absurd (omega (arith, q, a))
one_id (c ∷ id) behind [] more h k e = let q : c ≡ space = cc in let a = h.0.0 in absurd (omega (arith, q, a))
one_id (c ∷ id) behind (d ∷ other) more h k e =
    let q : c ≡ d = cc in
    let t : id ++ space ∷ behind ≡ other ++ space ∷ more = cc in
    let r = one_id id behind other more h.1 k.1 t in
    let a = r.0 in
    (rw (q, a) refl, r.1)

-- the parts of a page's line
pub page_id : (x : List ℕ) (page : PageToSend) (behind : List ℕ) (h : BeginsPage x page behind) → BeginsId x page.id (h.line_is.characters ++ lf ∷ behind)
page_id x page behind h = record {
  size = h.line_is.fits.id_size;
  some = h.line_is.fits.id_some;
  digits = h.line_is.fits.id_digits;
  form = h.form ∙ ap (λ z. z ++ behind) h.line_is.form ∙ append_assoc page.id (space ∷ (h.line_is.characters ++ lf ∷ [])) behind
      ∙ ap (λ z. page.id ++ space ∷ z) (append_assoc h.line_is.characters (lf ∷ []) behind);
}

pub page_text : (x : List ℕ) (page : PageToSend) (behind : List ℕ) (h : BeginsPage x page behind) → BeginsText (h.line_is.characters ++ lf ∷ behind) page.text behind
page_text x page behind h = record { characters = h.line_is.characters; written_so = h.line_is.text; size = h.line_is.fits.text_size; form = refl }

-- a page's line from its parts
pub page_of_parts : (x id rest text behind : List ℕ) → BeginsId x id rest → BeginsText rest text behind → BeginsPage x (record { id = id; text = text }) behind
page_of_parts x id rest text behind h k = record {
  line = id ++ space ∷ (k.characters ++ lf ∷ []);
  line_is = record {
    characters = k.characters;
    form = refl;
    text = k.written_so;
    fits = record {
      id_size = h.size;
      id_some = h.some;
      id_digits = h.digits;
      text_size = k.size;
      text_chars = subst (AllByRecursion (λ c. c ≤ 126)) (sym k.written_so.means) (meant_small k.written_so.signs k.written_so.each);
    };
  };
  form = h.form ∙ ap (λ z. id ++ space ∷ z) (k.form ∙ sym (append_assoc k.characters (lf ∷ []) behind)) ∙ sym (append_assoc id (space ∷ (k.characters ++ lf ∷ [])) behind);
}

-- behind the id of a page no text begins
pub no_text : (x id rest : List ℕ) → BeginsId x id rest → ((text behind : List ℕ) → BeginsText rest text behind → ⊥) → (page : PageToSend) (behind : List ℕ) → BeginsPage x page behind → ⊥
no_text x id rest h n page behind k =
    let p = page_id x page behind k in
    let r = one_id id rest page.id (k.line_is.characters ++ lf ∷ behind) h.digits p.digits (sym h.form ∙ p.form) in
    n page.text behind (subst (λ z. BeginsText z page.text behind) (sym r.1) (page_text x page behind k))

-- a line has one page
pub one_page : (x : List ℕ) (page : PageToSend) (behind : List ℕ) (other : PageToSend) (more : List ℕ) → BeginsPage x page behind → BeginsPage x other more → (page ≡ other) × (behind ≡ more)
one_page x page behind other more h k =
    let p = page_id x page behind h in
    let q = page_id x other more k in
    let r = one_id page.id (h.line_is.characters ++ lf ∷ behind) other.id (k.line_is.characters ++ lf ∷ more) p.digits q.digits (sym p.form ∙ q.form) in
    let t = one_text (h.line_is.characters ++ lf ∷ behind) page.text behind other.text more (page_text x page behind h) (subst (λ z. BeginsText z other.text more) (sym r.1) (page_text x other more k)) in
    (same_page page other r.0 t.0, t.1)
  where
    same_page : (a b : PageToSend) → a.id ≡ b.id → a.text ≡ b.text → a ≡ b
    same_page a b e f = ap (λ (i : List ℕ). record { id = i; text = a.text }) e ∙ ap (λ (t : List ℕ). record { id = b.id; text = t }) f

-- the line of a page isn't empty
pub page_shorter : (x : List ℕ) (page : PageToSend) (behind : List ℕ) → BeginsPage x page behind → length behind < length x
page_shorter x page behind h =
    let p = page_id x page behind h in
    let a = ap length p.form in
    let b = length-append page.id (space ∷ (h.line_is.characters ++ lf ∷ behind)) in
    let d = length-append h.line_is.characters (lf ∷ behind) in
    omega (arith, a, b, d)

-- the lines of pages
pub lines_nil : (x : List ℕ) → PagesUpTo x [] x
lines_nil x = record { lines = []; each = tt; few = omega arith; form = refl }

lines_push : (pages : List PageToSend) (lines : List (List ℕ)) (page : PageToSend) (line : List ℕ) → AreLinesOf pages lines → IsLineOf page line → AreLinesOf (pages ++ page ∷ []) (lines ++ line ∷ [])
lines_push [] [] page line h k = (k, tt)
lines_push [] (l ∷ lines) page line h k = elim h [ ]
lines_push (p ∷ pages) [] page line h k = elim h [ ]
lines_push (p ∷ pages) (l ∷ lines) page line h k = (h.0, lines_push pages lines page line h.1 k)

flat_push : (lines : List (List ℕ)) (line : List ℕ) → flat_map (λ l. l) (lines ++ line ∷ []) ≡ flat_map (λ l. l) lines ++ line
flat_push [] line = append-nil line
flat_push (l ∷ lines) line = ap (λ z. l ++ z) (flat_push lines line) ∙ sym (append_assoc l (flat_map (λ l. l) lines) line)

pub lines_more : (x : List ℕ) (pages : List PageToSend) (rest : List ℕ) (page : PageToSend) (behind : List ℕ) → PagesUpTo x pages rest → BeginsPage rest page behind → length pages ≢ 1000 → PagesUpTo x (pages ++ page ∷ []) behind
lines_more x pages rest page behind h k n = record {
  lines = h.lines ++ k.line ∷ [];
  each = lines_push pages h.lines page k.line h.each k.line_is;
  few = (let a = length-append pages (page ∷ []) in let b = h.few in omega (arith, a, b, n));
  form = h.form ∙ ap (λ z. flat_map (λ l. l) h.lines ++ z) k.form ∙ sym (ap (λ z. z ++ behind) (flat_push h.lines k.line) ∙ append_assoc (flat_map (λ l. l) h.lines) k.line behind);
}

-- none begins there
pub no_line : (x : List ℕ) → ((page : PageToSend) (behind : List ℕ) → BeginsPage x page behind → ⊥) → (page : PageToSend) (line behind : List ℕ) → IsLineOf page line → x ≡ line ++ behind → ⊥
no_line x n page line behind h e = n page behind (record { line = line; line_is = h; form = e })

-- what a test for an end says
pub not_empty : (x : List ℕ) → (length x == 0) ≡ false → x ≢ []
not_empty [] h e = absurd (cc)
not_empty (c ∷ x) h e = cc

-- what a push that went well leaves
pub pushed : {A : Type 0} (b : Bool) (new old : List A) (more : List A) → b ≡ true → new ≡ cond b more old → new ≡ more
pushed true new old more h e = e
pushed false new old more h e = absurd (cc)
