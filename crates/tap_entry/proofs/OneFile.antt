-- A pages file says one thing, or has one first wrong line.
use Rattle.std.proofs.Common.{◌≡◌, ℕ, ◌+◌, ◌≤◌, ◌<◌, List, [], ◌∷◌, ◌++◌, length, refl, ap, sym, ◌∙◌, subst, append_assoc, arith, Option, Some, None, ◌⊎◌, inl, inr}
use Rattle.std.specs.List.{flat_map}
use Rattle.tap_entry.specs.Client.{PageToSend}
use Rattle.tap_entry.specs.PagesFile.{AreLinesOf, IsPassword, first_line, FileContent, Begins, IsFile, IsWrongLine, IsWrongLater, HasNoPageLine, HasNoFirstLine, most_pages}
use Rattle.tap_entry.specs.Signs.{BeginsPage, first_line_at}
use Rattle.tap_entry.proofs.FirstLines.{first_found}
use Rattle.tap_entry.proofs.PageLines.{one_page, page_shorter}

-- the pages of two readings of the same lines
data Compared (ps : List PageToSend) (x : List ℕ) (qs : List PageToSend) (y : List ℕ) : Type 0 where
  same : ps ≡ qs → x ≡ y → Compared ps x qs y
  fewer : (q : PageToSend) (behind : List ℕ) → BeginsPage x q behind → length ps < length qs → Compared ps x qs y
  more : (p : PageToSend) (behind : List ℕ) → BeginsPage y p behind → length qs < length ps → Compared ps x qs y

compared : (ps : List PageToSend) (ls : List (List ℕ)) (x : List ℕ) (qs : List PageToSend) (ms : List (List ℕ)) (y : List ℕ) → AreLinesOf ps ls → AreLinesOf qs ms
    → flat_map (λ l. l) ls ++ x ≡ flat_map (λ l. l) ms ++ y → Compared ps x qs y
compared [] (l ∷ ls) x qs ms y h k e = elim h [ ]
compared (p ∷ ps) [] x qs ms y h k e = elim h [ ]
compared ps ls x [] (m ∷ ms) y h k e = elim k [ ]
compared ps ls x (q ∷ qs) [] y h k e = elim k [ ]
compared [] [] x [] [] y h k e = same refl e
compared [] [] x (q ∷ qs) (m ∷ ms) y h k e =
    fewer q (flat_map (λ l. l) ms ++ y) (record { line = m; line_is = k.0; form = e ∙ append_assoc m (flat_map (λ l. l) ms) y }) (omega arith)
compared (p ∷ ps) (l ∷ ls) x [] [] y h k e =
    more p (flat_map (λ l. l) ls ++ x) (record { line = l; line_is = h.0; form = sym e ∙ append_assoc l (flat_map (λ l. l) ls) x }) (omega arith)
compared (p ∷ ps) (l ∷ ls) x (q ∷ qs) (m ∷ ms) y h k e =
    let a : BeginsPage (l ++ (flat_map (λ l. l) ls ++ x)) p (flat_map (λ l. l) ls ++ x) = record { line = l; line_is = h.0; form = refl } in
    let b : BeginsPage (l ++ (flat_map (λ l. l) ls ++ x)) q (flat_map (λ l. l) ms ++ y)
    = record { line = m; line_is = k.0; form = sym (append_assoc l (flat_map (λ l. l) ls) x) ∙ e ∙ append_assoc m (flat_map (λ l. l) ms) y } in
    let w = one_page (l ++ (flat_map (λ l. l) ls ++ x)) p (flat_map (λ l. l) ls ++ x) q (flat_map (λ l. l) ms ++ y) a b in
    on w.0 (compared ps ls x qs ms y h.1 k.1 w.1)
  where
    on : p ≡ q → Compared ps x qs y → Compared (p ∷ ps) x (q ∷ qs) y
    on r (same s t) = same (ap (λ z. z ∷ ps) r ∙ ap (λ z. q ∷ z) s) t
    on r (fewer z behind s t) = fewer z behind s (omega (arith, t))
    on r (more z behind s t) = more z behind s (omega (arith, t))

abbrev Said : Type 0
Said = Option (List ℕ) × List ℕ

abbrev first_in : Option Said → Option (List ℕ)
first_in None = None
first_in (Some p) = p.0

abbrev second_in : Option Said → List ℕ
second_in None = []
second_in (Some p) = p.1

-- a file has one password, and one list of lines behind it
one_password : (p q : Option (List ℕ)) (x y : List ℕ) → IsPassword p → IsPassword q → first_line p ++ x ≡ first_line q ++ y → (p ≡ q) × (x ≡ y)
one_password p q x y h k e =
    let w = sym (first_found p x h) ∙ ap first_line_at e ∙ first_found q y k in
    (ap first_in w, ap second_in w)

-- two readings of one file
readings : (bytes : List ℕ) (a : FileContent) (x : List ℕ) (b : FileContent) (y : List ℕ) → Begins bytes a x → Begins bytes b y → (a.password ≡ b.password) × Compared a.pages x b.pages y
readings bytes a x b y h k =
    let w = one_password a.password b.password (flat_map (λ l. l) h.lines ++ x) (flat_map (λ l. l) k.lines ++ y) h.password k.password (sym h.form ∙ k.form) in
    (w.0, compared a.pages h.lines x b.pages k.lines y h.each k.each w.1)

nothing_begins : (p : PageToSend) (behind : List ℕ) → BeginsPage [] p behind → ⊥
nothing_begins p behind h = let a = page_shorter [] p behind h in omega (arith, a)

same_told : (a b : FileContent) → a.password ≡ b.password → a.pages ≡ b.pages → a ≡ b
same_told a b e f = ap (λ (p : Option (List ℕ)). record { password = p; pages = a.pages }) e ∙ ap (λ (ps : List PageToSend). record { password = b.password; pages = ps }) f

pub one_told : (bytes : List ℕ) (a b : FileContent) → IsFile bytes a → IsFile bytes b → a ≡ b
one_told bytes a b h k = let w = readings bytes a [] b [] h.whole k.whole in by_pages w.0 w.1
  where
    by_pages : a.password ≡ b.password → Compared a.pages [] b.pages [] → a ≡ b
    by_pages e (same s t) = same_told a b e s
    by_pages e (fewer q behind s t) = absurd (nothing_begins q behind s)
    by_pages e (more q behind s t) = absurd (nothing_begins q behind s)

-- no further page stands where a line is wrong
not_further : (n m : ℕ) (x : List ℕ) (p : PageToSend) (behind : List ℕ) → (n ≡ most_pages) ⊎ HasNoPageLine x → m ≤ most_pages → BeginsPage x p behind → n < m → ⊥
not_further n m x p behind (inl e) h k l = omega (arith, e, h, l)
not_further n m x p behind (inr e) h k l = e p k.line behind k.line_is k.form

later : (bytes : List ℕ) (a : FileContent) (x : List ℕ) (n : ℕ) → Begins bytes a x → IsWrongLater bytes n → x ≡ [] → ⊥
later bytes a x n h k e = let w = readings bytes a x k.told k.behind h k.before in by_pages w.1
  where
    by_pages : Compared a.pages x k.told.pages k.behind → ⊥
    by_pages (same s t) = k.some (sym t ∙ e)
    by_pages (fewer q behind s t) = nothing_begins q behind (subst (λ z. BeginsPage z q behind) e s)
    by_pages (more q behind s t) = not_further (length k.told.pages) (length a.pages) k.behind q behind k.wrong h.few s t

no_first : (bytes : List ℕ) (a : FileContent) (x : List ℕ) → Begins bytes a x → HasNoFirstLine bytes → ⊥
no_first bytes a x h n = n a.password (flat_map (λ l. l) h.lines ++ x) h.password h.form

pub not_wrong : (bytes : List ℕ) (a : FileContent) (n : ℕ) → IsFile bytes a → IsWrongLine bytes n → ⊥
not_wrong bytes a n h (inl k) = no_first bytes a [] h.whole k.1
not_wrong bytes a n h (inr k) = later bytes a [] n h.whole k refl

pub one_line : (bytes : List ℕ) (n m : ℕ) → IsWrongLine bytes n → IsWrongLine bytes m → n ≡ m
one_line bytes n m (inl h) (inl k) = h.0 ∙ sym k.0
one_line bytes n m (inl h) (inr k) = absurd (no_first bytes k.told k.behind k.before h.1)
one_line bytes n m (inr h) (inl k) = absurd (no_first bytes h.told h.behind h.before k.1)
one_line bytes n m (inr h) (inr k) = let w = readings bytes h.told h.behind k.told k.behind h.before k.before in by_pages w.1
  where
    by_pages : Compared h.told.pages h.behind k.told.pages k.behind → n ≡ m
    by_pages (same s t) = h.number ∙ ap (λ z. length z + 2) s ∙ sym k.number
    by_pages (fewer q behind s t) = absurd (not_further (length h.told.pages) (length k.told.pages) h.behind q behind h.wrong k.before.few s t)
    by_pages (more q behind s t) = absurd (not_further (length k.told.pages) (length h.told.pages) k.behind q behind k.wrong h.before.few s t)
