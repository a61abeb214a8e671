-- Lists of live pages.
use Rattle.std.proofs.Common.{◌≡◌, ℕ, ◌+◌, List, [], ◌∷◌, ◌++◌, ap, arith}
use Rattle.page_pool.specs.Pool.{Live, Pool, in_use, cells, TakesPage}

-- the cells of two lists of pages joined
pub in_use-append : (xs ys : List Live) → in_use (xs ++ ys) ≡ in_use xs + in_use ys
in_use-append [] ys = omega arith
in_use-append (e ∷ xs) ys = omega (arith, in_use-append xs ys)

-- the cells of the making stay
pub cells-takes : (old new : Pool) (t : ℕ) → TakesPage old new t → cells new ≡ cells old
cells-takes old new t k = omega (arith, ap in_use k.was, ap in_use k.left, in_use-append k.before (k.entry ∷ k.after), in_use-append k.before k.after, k.spare)
