-- The cut of a list is a cut of it.
use Rattle.std.proofs.Common.{◌≡◌, ◌≢◌, ℕ, ◌==◌, cond, Bool, true, false, List, [], ◌∷◌, ◌++◌, refl, ap, sym, ◌∙◌, append_assoc, append-nil, arith}
use Rattle.std.specs.Prelude.{All}
use Rattle.std.specs.List.{flat_map}
use Rattle.std.proofs.lemmas.Bool.{eqb-true}
use Rattle.std.proofs.lemmas.Bool.Decides.{nat_tests}
use Rattle.std.proofs.lemmas.Grind.{flat_map-append}
use Rattle.std.proofs.lemmas.List.Elements.{All-nil, All-cons, All-append, All-head, All-tail}
use Rattle.entry_line.specs.Chars.{lf}
use Rattle.snpp_entry.specs.Lines.{Cut, cut, cut_on, with_char, uncut, rejoined, HasNo}

-- one character more
joined_more : (k : Cut) (c : ℕ) → rejoined (with_char k c) ≡ rejoined k ++ c ∷ []
joined_more k c = by_char (c == lf) refl
  where
    by_char : (b : Bool) → (c == lf) ≡ b → rejoined (cond b (let n : Cut = record { pieces = k.pieces ++ k.rest ∷ []; rest = [] } in n) (record { pieces = k.pieces; rest = k.rest ++ c ∷ [] })) ≡ rejoined k ++ c ∷ []
    by_char true h =
        append-nil _ ∙ flat_map-append (λ (piece : List ℕ). piece ++ lf ∷ []) k.pieces (k.rest ∷ [])
        ∙ ap (λ z. flat_map (λ (piece : List ℕ). piece ++ lf ∷ []) k.pieces ++ z) (append-nil (k.rest ++ lf ∷ []))
        ∙ sym (append_assoc (flat_map (λ (piece : List ℕ). piece ++ lf ∷ []) k.pieces) k.rest (lf ∷ []))
        ∙ ap (λ d. rejoined k ++ d ∷ []) (sym (eqb-true c lf h))
    by_char false h = sym (append_assoc (flat_map (λ (piece : List ℕ). piece ++ lf ∷ []) k.pieces) k.rest (c ∷ []))

-- further characters
joined_on : (k : Cut) (x : List ℕ) → rejoined (cut_on k x) ≡ rejoined k ++ x
joined_on k [] = sym (append-nil (rejoined k))
joined_on k (c ∷ x) = joined_on (with_char k c) x ∙ ap (λ z. z ++ x) (joined_more k c) ∙ append_assoc (rejoined k) (c ∷ []) x

-- the pieces and the rest are the characters
pub joined_cut : (x : List ℕ) → rejoined (cut x) ≡ x
joined_cut x = joined_on uncut x

-- no piece has an LF, and the rest has none
pub record IsClean (k : Cut) : Type 0 where
  pub pieces : All (HasNo lf) k.pieces
  pub rest : HasNo lf k.rest

-- one character more
clean_more : (k : Cut) (c : ℕ) → IsClean k → IsClean (with_char k c)
clean_more k c h = by_char (c == lf) refl
  where
    by_char : (b : Bool) → (c == lf) ≡ b → IsClean (cond b (let n : Cut = record { pieces = k.pieces ++ k.rest ∷ []; rest = [] } in n) (record { pieces = k.pieces; rest = k.rest ++ c ∷ [] }))
    by_char true e = record {
      pieces = All-append (HasNo lf) k.pieces (k.rest ∷ []) h.pieces (All-cons (HasNo lf) k.rest [] h.rest (All-nil (HasNo lf)));
      rest = All-nil (λ d. d ≢ lf);
    }
    by_char false e = record {
      pieces = h.pieces;
      rest = All-append (λ d. d ≢ lf) k.rest (c ∷ []) h.rest (All-cons (λ d. d ≢ lf) c [] (grind (arith, nat_tests, e)) (All-nil (λ d. d ≢ lf)));
    }

-- further characters
clean_on : (k : Cut) (x : List ℕ) → IsClean k → IsClean (cut_on k x)
clean_on k [] h = h
clean_on k (c ∷ x) h = clean_on (with_char k c) x (clean_more k c h)

-- a list
pub clean_cut : (x : List ℕ) → IsClean (cut x)
clean_cut x = clean_on uncut x (record { pieces = All-nil (HasNo lf); rest = All-nil (λ d. d ≢ lf) })

-- characters without an LF go to the rest
pass : (k : Cut) (p y : List ℕ) → HasNo lf p → cut_on k (p ++ y) ≡ cut_on (record { pieces = k.pieces; rest = k.rest ++ p }) y
pass k [] y h = ap (λ (r : List ℕ). cut_on (record { pieces = k.pieces; rest = r }) y) (sym (append-nil k.rest))
pass k (c ∷ p) y h =
    let t : (c == lf) ≡ false = (let q = All-head (λ d. d ≢ lf) c p h in grind (arith, nat_tests)) in
    ap (λ b. cut_on (cond b (let n : Cut = record { pieces = k.pieces ++ k.rest ∷ []; rest = [] } in n) (record { pieces = k.pieces; rest = k.rest ++ c ∷ [] })) (p ++ y)) t
    ∙ pass (record { pieces = k.pieces; rest = k.rest ++ c ∷ [] }) p y (All-tail (λ d. d ≢ lf) c p h)
    ∙ ap (λ (r : List ℕ). cut_on (record { pieces = k.pieces; rest = r }) y) (append_assoc k.rest (c ∷ []) p)

-- pieces without an LF are read back
through : (ps : List (List ℕ)) (r : List ℕ) (done : List (List ℕ)) → All (HasNo lf) ps → HasNo lf r
    → cut_on (record { pieces = done; rest = [] }) (flat_map (λ (piece : List ℕ). piece ++ lf ∷ []) ps ++ r) ≡ record { pieces = done ++ ps; rest = r }
through [] r done h k =
    ap (cut_on (record { pieces = done; rest = [] })) (sym (append-nil r)) ∙ pass (record { pieces = done; rest = [] }) r [] k
    ∙ ap (λ (z : List (List ℕ)). record { pieces = z; rest = r }) (sym (append-nil done))
through (p ∷ ps) r done h k =
    let more = flat_map (λ (piece : List ℕ). piece ++ lf ∷ []) ps ++ r in
    ap (cut_on (record { pieces = done; rest = [] })) (append_assoc (p ++ lf ∷ []) (flat_map (λ (piece : List ℕ). piece ++ lf ∷ []) ps) r ∙ append_assoc p (lf ∷ []) more)
    ∙ pass (record { pieces = done; rest = [] }) p (lf ∷ more) (All-head (HasNo lf) p ps h)
    ∙ through ps r (done ++ p ∷ []) (All-tail (HasNo lf) p ps h) k
    ∙ ap (λ (z : List (List ℕ)). record { pieces = z; rest = r }) (append_assoc done (p ∷ []) ps)

-- a list has one cut
pub one_cut : (k : Cut) → All (HasNo lf) k.pieces → HasNo lf k.rest → cut (rejoined k) ≡ k
one_cut k h e = through k.pieces k.rest [] h e
