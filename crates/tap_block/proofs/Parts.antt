-- The two parts of a content: there is one way at most.
use Rattle.std.proofs.Common.{◌≡◌, ◌≢◌, ℕ, List, [], ◌∷◌, ◌++◌, Some, ap, ◌∙◌}
use Rattle.std.proofs.lemmas.List.{append_cancel_right}
use Rattle.std.specs.List.{AllByRecursion}
use Rattle.entry_line.specs.Chars.{cr}
use Rattle.tap_block.specs.Fields.{AreParts, line_cut}
use Rattle.tap_block.proofs.First.{line_found, line_none}

-- the first part is what is cut at the first CR
parts_cut : (x a b : List ℕ) → AreParts x a b → line_cut x ≡ Some (a, b ++ cr ∷ [])
parts_cut x a b h = ap line_cut h.form ∙ line_found a (b ++ cr ∷ []) h.no_cr_first

-- what stands before a first CR is cut there
line_cut_is : (x l next : List ℕ) → x ≡ l ++ cr ∷ next → AllByRecursion (λ c. c ≢ cr) l → line_cut x ≡ Some (l, next)
line_cut_is x l next e h = ap line_cut e ∙ line_found l next h

-- what is behind the first CR is one list
same_rest : (x l next m more : List ℕ) → line_cut x ≡ Some (l, next) → line_cut x ≡ Some (m, more) → next ≡ more
same_rest x l next m more e f =
    let g : ◌≡◌ {A = List ℕ × List ℕ} (l, next) (m, more) = cc in ap (λ (z : List ℕ × List ℕ). z.1) g

-- a list without CR has no parts
pub no_parts : (x a b : List ℕ) → AllByRecursion (λ c. c ≢ cr) x → AreParts x a b → ⊥
no_parts x a b h p = let e = line_none x h in let f = parts_cut x a b p in cc

-- nor has one with a single CR
pub no_second : (x first rest a b : List ℕ) → x ≡ first ++ cr ∷ rest → AllByRecursion (λ c. c ≢ cr) first → AllByRecursion (λ c. c ≢ cr) rest → AreParts x a b → ⊥
no_second x first rest a b e h k p =
    let r = same_rest x first rest a (b ++ cr ∷ []) (line_cut_is x first rest e h) (parts_cut x a b p) in
    let f = line_none rest k in
    let g = line_cut_is rest b [] r p.no_cr_second in
    cc

-- nothing follows the second CR
pub no_more : (x first rest second more a b : List ℕ) → x ≡ first ++ cr ∷ rest → AllByRecursion (λ c. c ≢ cr) first
    → rest ≡ second ++ cr ∷ more → AllByRecursion (λ c. c ≢ cr) second → AreParts x a b → more ≡ []
no_more x first rest second more a b e h f k p =
    let r = same_rest x first rest a (b ++ cr ∷ []) (line_cut_is x first rest e h) (parts_cut x a b p) in
    same_rest rest second more b [] (line_cut_is rest second more f k) (line_cut_is rest b [] r p.no_cr_second)

-- two ways to part a content are one
pub same_parts : (x a b c d : List ℕ) → AreParts x a b → AreParts x c d → (a ≡ c) × (b ≡ d)
same_parts x a b c d p q =
    let e = parts_cut x a b p in
    let f = parts_cut x c d q in
    let g : ◌≡◌ {A = List ℕ × List ℕ} (a, b ++ cr ∷ []) (c, d ++ cr ∷ []) = cc in
    let h : b ++ cr ∷ [] ≡ d ++ cr ∷ [] = ap (λ (z : List ℕ × List ℕ). z.1) g in
    (ap (λ (z : List ℕ × List ℕ). z.0) g, append_cancel_right b d (cr ∷ []) h)
