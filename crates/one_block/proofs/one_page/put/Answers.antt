use Rattle.std.proofs.Common.{◌≡◌, List, [], ◌∷◌, ◌++◌, map, Result, Ok, Err, IsErr, OnOk, ◌∙◌, ap, arith}
use Rattle.page_text.specs.Page.{Page}
use Rattle.page_pool.specs.Pool.{Live, Pool, PutsPage, pages}
use Rattle.one_block.proofs.one_page.put.Goals as goal

-- a page that was put into an empty pool is its one page
put_alone : {E : Type 0} (old new : Pool) (page : Page) (r : Result (Unit {0}) E) → old.live ≡ [] → (IsErr r → ⊥) → OnOk r (PutsPage old new page) → pages new ≡ page ∷ []
put_alone old new page (Ok x) none ok h =
    let live : new.live ≡ h.entry ∷ [] = h.at_end ∙ ap (λ (l : List Live). l ++ h.entry ∷ []) none in
    ap (map (λ (e : Live). e.page)) live ∙ ap (λ (p : Page). p ∷ []) h.is
put_alone {E} old new page (Err e) none ok h = absurd (ok (cc))

pub returns : goal.returns
returns c =
    let room = c.requires.room in
    put_alone _ _ _ c.put.result c.requires.empty (λ e. absurd (let full = c.put.ensures.full.0 e in omega (arith, room, full))) c.put.ensures.put
