-- What the slots of a twin stretch say.
use Rattle.std.proofs.Common.{◌≡◌, ℕ, suc, Bool, true, false, ◌||◌, cond, List, [], ◌∷◌, map, Option, Some, None, refl, ◌∙◌, ap₂}
use Rattle.std.specs.List.{All}
use Rattle.std.proofs.lemmas.List.Elements.{All-head, All-tail}
use Rattle.bch31.specs.Codeword.{IsCodeword}
use Rattle.bch31.specs.Fix.{fix_of}
use Rattle.codeword.specs.declared.kinds.WordKind.{WordKind}
use Rattle.codeword.specs.Kinds.{kind_of}
use Rattle.near.proofs.NearKinds.{heard_fix, said_where, says_codeword}
use Rattle.near.proofs.NearWords.{HeardAt, AreHeard}
use Rattle.repeats.specs.Twin.{first_there, twin, says}

first_says : (a b : Bool) (u : ℕ) → IsCodeword u → says (first_there (cond a (Some u) None) (cond b (Some u) None)) ≡ cond (a || b) (kind_of u) None
first_says true b u c = says_codeword u c
first_says false true u c = says_codeword u c
first_says false false u c = refl

-- A twin slot says what was sent where the word is near in a copy, and nothing elsewhere.
pub twin_slot : (one other : ℕ → Bool) (p u v w : ℕ) → HeardAt one p u v → HeardAt other p u w → IsCodeword u
    → says (first_there (fix_of v) (fix_of w)) ≡ cond (one p || other p) (kind_of u) None
twin_slot one other p u v w h g c =
    ap₂ (λ (x y : Option ℕ). says (first_there x y)) (heard_fix one p u v h c) (heard_fix other p u w g c) ∙ first_says (one p) (other p) u c

-- and so all of them
pub twin_says : (one other : ℕ → Bool) (p : ℕ) (us vs ws : List ℕ) → AreHeard one p us vs → AreHeard other p us ws → All IsCodeword us
    → map says (twin vs ws) ≡ said_where (λ q. one q || other q) p (map kind_of us)
unfolding AreHeard twin said_where
twin_says one other p [] [] [] h g c = refl
twin_says one other p [] (v ∷ vs) ws h g c = absurd (let e : v ∷ vs ≡ [] = h in cc)
twin_says one other p [] [] (w ∷ ws) h g c = absurd (let e : w ∷ ws ≡ [] = g in cc)
twin_says one other p (u ∷ us) [] ws h g c = absurd h
twin_says one other p (u ∷ us) (v ∷ vs) [] h g c = absurd g
twin_says one other p (u ∷ us) (v ∷ vs) (w ∷ ws) h g c =
    ap₂ (λ (x : Option WordKind) (xs : List (Option WordKind)). x ∷ xs)
    (twin_slot one other p u v w h.0 g.0 (All-head IsCodeword u us c))
    (twin_says one other (suc p) us vs ws h.1 g.1 (All-tail IsCodeword u us c))
