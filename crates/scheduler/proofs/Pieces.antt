-- The words, the pages and the place of pieces.
use Rattle.std.proofs.Common.{◌≡◌, ◌+◌, List, [], ◌∷◌, ◌++◌, length, refl, sym, ◌∙◌, ap, append_assoc, length-append}
use Rattle.codeword.specs.declared.words.TheConstants.{IDLE}
use Rattle.page_text.specs.Page.{Page}
use Rattle.scheduler.specs.Slots.{PlanPiece, Idle, Run, run, words, pages_in_order, place}

-- the pages of pieces one after another
pub pages-append : (xs ys : List PlanPiece) → pages_in_order (xs ++ ys) ≡ pages_in_order xs ++ pages_in_order ys
pages-append [] ys = refl
pages-append (Idle ∷ xs) ys = pages-append xs ys
pages-append (Run page ∷ xs) ys = ap (λ rest. page ∷ rest) (pages-append xs ys)

-- their words
pub words-append : (xs ys : List PlanPiece) → words (xs ++ ys) ≡ words xs ++ words ys
words-append [] ys = refl
words-append (Idle ∷ xs) ys = ap (λ rest. IDLE ∷ rest) (words-append xs ys)
words-append (Run page ∷ xs) ys =
    ap (λ rest. run page ++ rest) (words-append xs ys) ∙ sym (append_assoc (run page) (words xs) (words ys))

-- and the place after them
pub place-append : (xs ys : List PlanPiece) → place (xs ++ ys) ≡ place xs + place ys
place-append xs ys = ap length (words-append xs ys) ∙ length-append (words xs) (words ys)

-- the place after a run
pub place-run : (page : Page) (rest : List PlanPiece) → place (Run page ∷ rest) ≡ length (run page) + place rest
place-run page rest = length-append (run page) (words rest)
