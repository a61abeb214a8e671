-- The pages that receivers print, piece by piece.
use Rattle.std.proofs.Common.{◌≡◌, ℕ, zero, suc, ◌+◌, ◌<◌, ◌≤◌, length, flat_map, cond, true, false, arith, Bool, List, [], ◌∷◌, ◌++◌, take, Result, Ok, Err, refl, sym, ◌∙◌, ap, subst, append-nil}
use Rattle.std.specs.Prelude.{map, filter, IfSome, IsErr, Option, Some, None}
use Rattle.std.proofs.lemmas.List.{map-append}
use Rattle.std.proofs.lemmas.Grind.{flat_map-append}
use Rattle.std.proofs.lemmas.List.{take_all}
use Rattle.std.proofs.lemmas.Option.{get_or_from_slice_get}
use Rattle.std.specs.List.{range_with_len, slice_get}
use Rattle.page_text.specs.Page.{Page}
use Rattle.page_text.specs.Texts.{text_of}
use Rattle.receiver.specs.Heard.{HeardPage, with_text}
use Rattle.receiver.specs.Receivers.{numbers_with}
use Rattle.receiver.specs.Shown.{shown, shown_page}
use Rattle.receiver.specs.Listeners.{Listener, ready_answer, ready_pages}
use Rattle.receiver.specs.Stretches.{first_stretches, stretches}
use Rattle.receiver.specs.declared.ready.Ready.{Ready}
use Rattle.wires.specs.Written.{Written, Puts}
use Rattle.wires.proofs.Written.{Puts-nothing, Puts-turn, Puts-turn-fails}
use Rattle.listening.specs.Listening.{Prints}
use Rattle.listening.specs.PageLines.{group_lines, lines_for, lines_of_heard, shown_line, shown_lines}

-- no bits have no page
pub group_lines-none : (group : Listener) → group_lines group [] ≡ []
unfolding stretches first_stretches
group_lines-none group = refl

pub lines_of_heard-append : (has : ℕ → ℕ → Bool) (pages more : List HeardPage) → lines_of_heard has (pages ++ more) ≡ lines_of_heard has pages ++ lines_of_heard has more
lines_of_heard-append has pages more =
    ap (λ (ps : List Page). shown_lines (shown has ps)) (map-append with_text pages more)
    ∙ (ap shown_lines (flat_map-append (shown_page has) (map with_text pages) (map with_text more))
    ∙ flat_map-append shown_line (shown has (map with_text pages)) (shown has (map with_text more)))

-- a piece that completes no page
pub prints_no_page : {E : Type 0} (has : ℕ → ℕ → Bool) (hears : List Bool → List HeardPage) (bits next : List Bool) (ready : Option HeardPage) (answer : Option Ready) (o : Written ℕ)
    → answer ≡ None → answer ≡ ready_answer ready
    → hears (bits ++ next) ≡ hears bits ++ ready_pages ready → Prints {E = E} (λ heard. lines_of_heard has (hears heard)) bits next o o (Ok (tt {0}))
prints_no_page {E} has hears bits next None answer o none is e = record {
  piece = [];
  more = ap (lines_of_heard has) e ∙ lines_of_heard-append has (hears bits) [];
  put = Puts-nothing {E = E} o (tt {0});
}
prints_no_page has hears bits next (Some page) answer o none is e = absurd (some_none (sym is ∙ none))
  where
    some_none : {X : Type 0} {x : X} → Some x ≡ None → ⊥
    some_none p = cc

abbrev ready_of : Option Ready → Ready → Ready
ready_of None other = other
ready_of (Some ready) other = ready

-- the lines of a page, number by number
lines-for : (page : Page) (numbers : List ℕ) → shown_lines (map (λ number. (number, page)) numbers) ≡ lines_for page.capcode page.function page.text numbers
lines-for page [] = refl
lines-for page (number ∷ numbers) = ap (λ (rest : List ℕ). shown_line (number, page) ++ rest) (lines-for page numbers)

-- a piece that completes a page
pub prints_page : {T E : Type 0} (has : ℕ → ℕ → Bool) (hears : List Bool → List HeardPage) (bits next : List Bool) (ready : Option HeardPage) (answer : Option Ready) (page : Ready) (said : List ℕ) (o1 o2 : Written ℕ)
    (r : Result T E) → answer ≡ Some page → answer ≡ ready_answer ready
    → hears (bits ++ next) ≡ hears bits ++ ready_pages ready
    → IfSome ready (λ p. said ≡ text_of p.function p.groups)
    → Puts o1 o2 (lines_for page.capcode page.function said (numbers_with has page.capcode)) r
    → Prints (λ heard. lines_of_heard has (hears heard)) bits next o1 o2 r
prints_page has hears bits next None answer page said o1 o2 r some is e text put = absurd (some_none (sym some ∙ is))
  where
    some_none : {X : Type 0} {x : X} → Some x ≡ None → ⊥
    some_none p = cc
prints_page has hears bits next (Some p) answer page said o1 o2 r some is e text put =
    let same : page ≡ record { capcode = p.capcode; function = p.function } = ap (λ (a : Option Ready). ready_of a page) (sym some ∙ is) in
    let numbers = numbers_with has p.capcode in
    record {
      piece = lines_for p.capcode p.function (text_of p.function p.groups) numbers;
      more =
          ap (lines_of_heard has) e ∙ lines_of_heard-append has (hears bits) (p ∷ [])
          ∙ ap (λ (rest : List ℕ). lines_of_heard has (hears bits) ++ rest)
          (ap shown_lines (append-nil (shown_page has (with_text p))) ∙ lines-for (with_text p) numbers);
      put = subst (λ (piece : List ℕ). Puts o1 o2 piece r)
          (ap (λ (a : Ready). lines_for a.capcode a.function said (numbers_with has a.capcode)) same
          ∙ ap (λ (t : List ℕ). lines_for p.capcode p.function t numbers) text) put;
    }

-- ---- the lines of a page, one after another

inside : (xs : List ℕ) (k x : ℕ) → slice_get xs k ≡ Some x → k < length xs
inside [] k x h = absurd cc
inside (y ∷ xs) zero x h = omega arith
inside (y ∷ xs) (suc k) x h = let l = inside xs k x h in omega arith

past : (xs : List ℕ) (k : ℕ) → slice_get xs k ≡ None → length xs ≤ k
past [] k h = omega arith
past (y ∷ xs) zero h = absurd cc
past (y ∷ xs) (suc k) h = let l = past xs k h in omega arith

pub lines_turn : {T U E F : Type 0} (f : ℕ → List ℕ) (numbers : List ℕ) (k number : ℕ) (a b d : Written ℕ) (x : T) (r : Result U F) → Some number ≡ slice_get numbers k
    → Puts {E = E} a b (flat_map f (take k numbers)) (Ok x) → Puts b d (f number) r → Puts a d (flat_map f (take (k + 1) numbers)) r
lines_turn f numbers k number a b d x r is h put =
    Puts-turn f numbers k 0 (inside numbers k number (sym is)) a b d x r h
    (subst (λ (n : ℕ). Puts b d (f n) r) (sym (get_or_from_slice_get numbers k number 0 (sym is))) put)

pub lines_fail : {T U V E F G : Type 0} (f : ℕ → List ℕ) (numbers : List ℕ) (k number : ℕ) (a b d : Written ℕ) (x : T) (e : F) (r : Result U G) → IsErr r → Some number ≡ slice_get numbers k
    → Puts {E = E} a b (flat_map f (take k numbers)) (Ok x) → Puts {T = V} b d (f number) (Err e) → Puts a d (flat_map f numbers) r
lines_fail {V = V} f numbers k number a b d x e r bad is h put =
    Puts-turn-fails {V = V} f numbers k 0 (inside numbers k number (sym is)) a b d x e r bad h
    (subst (λ (n : ℕ). Puts {T = V} b d (f n) (Err e)) (sym (get_or_from_slice_get numbers k number 0 (sym is))) put)

pub lines_all : {T E : Type 0} (f : ℕ → List ℕ) (numbers : List ℕ) (k : ℕ) (a b : Written ℕ) (x : T) → None ≡ slice_get numbers k
    → Puts {E = E} a b (flat_map f (take k numbers)) (Ok x) → Puts {E = E} a b (flat_map f numbers) (Ok x)
lines_all {E = E} f numbers k a b x is h = subst (λ (ns : List ℕ). Puts {E = E} a b (flat_map f ns) (Ok x)) (take_all k numbers (past numbers k (sym is))) h

-- no capcode has more than 64 receivers
few_numbers : (has : ℕ → ℕ → Bool) (capcode : ℕ) → length (numbers_with has capcode) ≤ 64
unfolding numbers_with
few_numbers has capcode = few (λ (number : ℕ). has number capcode) 1 64
  where
    few_more : (b : Bool) (x : ℕ) (xs : List ℕ) (n : ℕ) → length xs ≤ n → length (cond b (x ∷ xs) xs) ≤ suc n
    few_more true x xs n l = omega arith
    few_more false x xs n l = omega arith

    few : (p : ℕ → Bool) (a n : ℕ) → length (filter p (range_with_len a n)) ≤ n
    few p a zero = omega arith
    few p a (suc n) = few_more (p a) a (filter p (range_with_len (a + 1) n)) n (few p (a + 1) n)

pub lines_at_end : {T E : Type 0} (f : ℕ → List ℕ) (has : ℕ → ℕ → Bool) (capcode k : ℕ) (a b : Written ℕ) (x : T) → 64 ≤ k
    → Puts {E = E} a b (flat_map f (take k (numbers_with has capcode))) (Ok x) → Puts {E = E} a b (flat_map f (numbers_with has capcode)) (Ok x)
lines_at_end {E = E} f has capcode k a b x l h =
    let few = few_numbers has capcode in
    subst (λ (ns : List ℕ). Puts {E = E} a b (flat_map f ns) (Ok x)) (take_all k (numbers_with has capcode) (omega arith)) h
