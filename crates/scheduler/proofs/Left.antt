-- What stays of a pool while pages are taken out of it.
use Rattle.std.proofs.Common.{ℕ, List, [], ◌∷◌, ◌++◌, refl, sym, ◌∙◌, ap, subst, arith, inl, inr}
use Rattle.page_pool.specs.Pool.{Live, Pool, TakesPage, in_use}
use Rattle.page_pool.proofs.Lists.{in_use-append}
use Rattle.scheduler.specs.Sendings.{AreLeft, KeepsPool}

-- all of them are left
left-same : (es : List Live) → AreLeft es es
unfolding AreLeft
left-same [] = refl
left-same (e ∷ es) = inr (es, refl, left-same es)

-- all but one are left
left-without : (before : List Live) (e : Live) (after : List Live) → AreLeft (before ++ e ∷ after) (before ++ after)
unfolding AreLeft
left-without [] e after = inl (left-same after)
left-without (x ∷ before) e after = inr (before ++ after, refl, left-without before e after)

-- what is left of what is left
left-then : (a b c : List Live) → AreLeft a b → AreLeft b c → AreLeft a c
unfolding AreLeft
left-then [] b c h k = subst (λ l. AreLeft l c) h k
left-then (e ∷ a) b c h k =
    elim h [
      | inl h ↦ inl (left-then a b c h k)
      | inr h ↦ elim (subst (λ l. AreLeft l c) h.1 k) [
        | inl k ↦ inl (left-then a h.0 c h.2 k)
        | inr k ↦ inr (k.0, k.1, left-then a h.0 k.0 h.2 k.2)
      ]
    ]

-- nothing is taken
pub keeps-same : (w : Pool) → KeepsPool w w
keeps-same w = record { cells = refl; region = refl; left = left-same w.live }

-- a page is taken
pub keeps-taken : (old new : Pool) (t : ℕ) → TakesPage old new t → KeepsPool old new
keeps-taken old new t k = record {
  cells = omega (arith, ap in_use k.was, ap in_use k.left, k.spare, in_use-append k.before k.after, in_use-append k.before (k.entry ∷ k.after));
  region = k.region;
  left = subst (λ l. AreLeft l new.live) (sym k.was) (subst (AreLeft (k.before ++ k.entry ∷ k.after)) (sym k.left) (left-without k.before k.entry k.after));
}

-- pages are taken, and then others
pub keeps-then : (a b c : Pool) → KeepsPool a b → KeepsPool b c → KeepsPool a c
keeps-then a b c h k = record { cells = k.cells ∙ h.cells; region = k.region ∙ h.region; left = left-then a.live b.live c.live h.left k.left }
