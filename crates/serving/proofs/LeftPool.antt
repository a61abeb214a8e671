-- What is left of a pool whose transmission was listened to.
use Rattle.std.proofs.Common.{◌≡◌, List, [], ◌∷◌, length, map, refl, ap, arith}
use Rattle.std.specs.Prelude.{replicate}
use Rattle.std.proofs.lemmas.List.{length-replicate}
use Rattle.std.specs.Borrow.{GName}
use Rattle.page_pool.specs.Pool.{Live, Pool, cells, pages}
use Rattle.wires.specs.Held.{Held, Lent}

-- a pool that is lent with its cells has as many as before
pub same_cells : (a b c d : GName) (w w' : Pool) → Lent c ∷ Lent d ∷ replicate (cells w') (Lent c) ≡ Lent a ∷ Lent b ∷ replicate (cells w) (Lent a) → cells w' ≡ cells w
same_cells a b c d w w' e =
    let l = ap (λ (hs : List Held). length hs) e in omega (arith, l, length-replicate (cells w') (Lent c), length-replicate (cells w) (Lent a))

-- without pages, and with none that are counted, nothing is live
pub no_page : (w : Pool) → pages w ≡ [] → w.live ≡ []
no_page w e = none w.live e
  where
    none : (es : List Live) → map (λ (l : Live). l.page) es ≡ [] → es ≡ []
    none [] e = refl
    none (x ∷ es) e = cc

pub no_live : (w : Pool) → length w.live ≡ 0 → w.live ≡ []
no_live w e = none w.live e
  where
    none : (es : List Live) → length es ≡ 0 → es ≡ []
    none [] e = refl
    none (x ∷ es) e = cc
