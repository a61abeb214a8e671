-- A list has at most one reading, and a reading goes on by one character.
use Rattle.std.proofs.Common.{◌≡◌, ℕ, List, [], ◌∷◌, ◌++◌, refl, ap, sym, ◌∙◌, subst, append_assoc, Option}
use Rattle.tap_block.specs.Reading.{Mode, BeforeLogon, AfterLogon, InputPiece, line, skipped, lone_eot, bye, dropped, block, piece_text, FirstIs, IsPieceBefore, Reads, mode_after, mode_at}
use Rattle.tap_block.proofs.First.{first_piece, found}

-- two pieces in one place are one
same_piece : (mode : Mode) (p q : InputPiece) (n m : List ℕ) → IsPieceBefore mode p n → IsPieceBefore mode q m → piece_text p ++ n ≡ piece_text q ++ m → ◌≡◌ {A = InputPiece × List ℕ} (p, n) (q, m)
same_piece mode p q n m hp hq e =
    let a = found mode p n hp in
    let b = found mode q m hq in
    let c = ap (λ x. first_piece mode x) e in
    cc

-- two readings of one list are one
pub at_most_one : (password : Option (List ℕ)) (mode : Mode) (ps qs : List InputPiece) (r s x : List ℕ) → Reads password mode ps r x → Reads password mode qs s x → (ps ≡ qs) × (r ≡ s)
at_most_one password mode [] [] r s x h k = (refl, sym h.0 ∙ k.0)
at_most_one password mode [] (q ∷ qs) r s x h k = absurd (h.1 q k.0 (sym h.0 ∙ k.1) k.2)
at_most_one password mode (p ∷ ps) [] r s x h k = absurd (k.1 p h.0 (sym k.0 ∙ h.1) h.2)
at_most_one password mode (p ∷ ps) (q ∷ qs) r s x h k =
    let same = same_piece mode p q h.0 k.0 h.2 k.2 (sym h.1 ∙ k.1) in
    let moved : Reads password (mode_after password p mode) qs s h.0 =
    subst (λ (z : InputPiece × List ℕ). Reads password (mode_after password z.0 mode) qs s z.1) (sym same) k.3 in
    let rest = at_most_one password (mode_after password p mode) ps qs r s h.0 h.3 moved in
    let heads = ap (λ (z : InputPiece × List ℕ). z.0) same in
    let tails = rest.0 in
    (cc, rest.1)

-- what begins so begins so with more behind it
begins_more : (P : ℕ → Type 0) (x y : List ℕ) → FirstIs P x → FirstIs P (x ++ y)
begins_more P [] y h = elim h [ ]
begins_more P (c ∷ x) y h = h

-- a piece may stand before a longer list too
still : (mode : Mode) (p : InputPiece) (x y : List ℕ) → IsPieceBefore mode p x → IsPieceBefore mode p (x ++ y)
still BeforeLogon (line l) x y h = h
still AfterLogon (skipped c) x y h = h
still AfterLogon lone_eot x y h = begins_more _ x y h
still AfterLogon bye x y h = h
still AfterLogon (dropped b) x y h = (h.0, begins_more _ x y h.1)
still AfterLogon (block b e t) x y h = h
still BeforeLogon (skipped c) x y h = elim h [ ]
still BeforeLogon lone_eot x y h = elim h [ ]
still BeforeLogon bye x y h = elim h [ ]
still BeforeLogon (dropped b) x y h = elim h [ ]
still BeforeLogon (block b e t) x y h = elim h [ ]
still AfterLogon (line l) x y h = elim h [ ]

-- where the rest and what follows it are read on, all of it is
pub goes_on : (password : Option (List ℕ)) (mode : Mode) (ps new : List InputPiece) (r s x y : List ℕ)
    → Reads password mode ps r x → Reads password (mode_at password mode ps) new s (r ++ y) → Reads password mode (ps ++ new) s (x ++ y)
goes_on password mode [] new r s x y h k = rw h.0 k
goes_on password mode (p ∷ ps) new r s x y h k =
    (h.0 ++ y, ap (λ z. z ++ y) h.1 ∙ append_assoc (piece_text p) h.0 y, still mode p h.0 y h.2, goes_on password (mode_after password p mode) ps new r s h.0 y h.3 k)

-- the mode after pieces and further pieces
pub mode_at-append : (password : Option (List ℕ)) (mode : Mode) (ps new : List InputPiece) → mode_at password mode (ps ++ new) ≡ mode_at password (mode_at password mode ps) new
mode_at-append password mode [] new = refl
mode_at-append password mode (p ∷ ps) new = mode_at-append password (mode_after password p mode) ps new
