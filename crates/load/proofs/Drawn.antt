-- What is drawn, with one more.
use Rattle.std.proofs.Common.{◌≡◌, ℕ, zero, suc, ◌+◌, ◌<◌, ◌%◌, List, [], ◌∷◌, ◌++◌, flat_map, append-nil, append_assoc, add-one, arith, refl, sym, ap, ◌∙◌}
use Rattle.std.proofs.lemmas.List.FromFn.{map-range_with_len_more}
use Rattle.std.proofs.lemmas.Grind.{flat_map-append}
use Rattle.std.specs.List.{AllByRecursion, range_with_len}
use Rattle.std.specs.Str.{IsAscii}
use Rattle.tap_block.specs.Chars.{IsChar}
use Rattle.tap_block.specs.Fields.{block_of}
use Rattle.tap_block.specs.declared.ends.End.TheVariants.{Etx}
use Rattle.load.specs.Generated.{drawn_blocks, drawn_body, drawn_characters, page_begins, page_draws}

-- one character more behind a list
pub characters-more : (draws : ℕ → ℕ) (k first kinds n x : ℕ) (old new before : List ℕ) → new ≡ before ++ (first + x) ∷ [] → x ≡ draws (k + n) % kinds → before ≡ old ++ drawn_characters draws k first kinds n
    → new ≡ old ++ drawn_characters draws k first kinds (n + 1)
characters-more draws k first kinds n x old new before is drawn so_far =
    is
    ∙ ap (λ l. l ++ (first + x) ∷ []) so_far
    ∙ append_assoc old (drawn_characters draws k first kinds n) ((first + x) ∷ [])
    ∙ ap (λ y. old ++ (drawn_characters draws k first kinds n ++ (first + y) ∷ [])) drawn
    ∙ ap (λ l. old ++ l) (sym (map-range_with_len_more (λ j. first + draws (k + j) % kinds) 0 n n (omega arith)))

-- one character more, of characters
pub chars-more : (x : List ℕ) (c : ℕ) → AllByRecursion IsChar x → c < 128 → AllByRecursion IsChar (x ++ c ∷ [])
chars-more [] c h small = (small, tt)
chars-more (y ∷ x) c h small = (h.0, chars-more x c h.1 small)

-- the characters of a list of ASCII
pub chars-ascii : (x : List ℕ) → IsAscii x → AllByRecursion IsChar x
chars-ascii [] h = tt
chars-ascii (y ∷ x) h = (h 0, chars-ascii x (λ i. h (suc i)))

range-more : (a n : ℕ) → range_with_len a (suc n) ≡ range_with_len a n ++ (a + n) ∷ []
range-more a zero = ap (λ x. x ∷ []) (omega arith)
range-more a (suc n) =
    let same : a + 1 + n ≡ a + suc n = omega arith in
    ap (λ l. a ∷ l) (range-more (a + 1) n) ∙ ap (λ x. a ∷ (range_with_len (a + 1) n ++ x ∷ [])) same

-- what a range of numbers gives, with one number more
pub flat_map-range-more : {A : Type 0} (f : ℕ → List A) (n : ℕ) → flat_map f (range_with_len 0 (n + 1)) ≡ flat_map f (range_with_len 0 n) ++ f n
flat_map-range-more f n =
    let same : 0 + n ≡ n = omega arith in
    ap (λ k. flat_map f (range_with_len 0 k)) (add-one n)
    ∙ ap (flat_map f) (range-more 0 n)
    ∙ flat_map-append f (range_with_len 0 n) ((0 + n) ∷ [])
    ∙ ap (λ l. flat_map f (range_with_len 0 n) ++ l) (append-nil (f (0 + n)) ∙ ap f same)

-- where a further page begins
pub page_begins-more : (draws : ℕ → ℕ) (m : ℕ) → page_begins draws m + page_draws draws (page_begins draws m) ≡ page_begins draws (m + 1)
unfolding page_begins
page_begins-more draws m = ap (page_begins draws) (sym (add-one m))

pub page_begins-none : (draws : ℕ → ℕ) → page_begins draws 0 ≡ 0
unfolding page_begins
page_begins-none draws = refl

-- the blocks with a further one
pub drawn_blocks-more : (draws : ℕ → ℕ) (m : ℕ) → drawn_blocks draws m ++ block_of (drawn_body draws (page_begins draws m)) Etx ≡ drawn_blocks draws (m + 1)
unfolding drawn_blocks
drawn_blocks-more draws m = sym (flat_map-range-more (λ n. block_of (drawn_body draws (page_begins draws n)) Etx) m)

pub drawn_blocks-none : (draws : ℕ → ℕ) → drawn_blocks draws 0 ≡ []
unfolding drawn_blocks
drawn_blocks-none draws = refl
