-- The first piece of a list, as a function.
use Rattle.std.proofs.Common.{◌≡◌, ◌≢◌, ℕ, ◌==◌, cond, true, false, List, [], ◌∷◌, ◌++◌, refl, ap, ◌∙◌, append_assoc, append-nil, arith, Option, Some, None, inl, inr}
use Rattle.std.specs.List.{AllByRecursion}
use Rattle.std.proofs.lemmas.Bool.Decides.{eqb_tells, nat_tests}
use Rattle.tap_block.specs.declared.ends.End.{End}
use Rattle.tap_block.specs.declared.ends.End.TheVariants.{Etx, Etb, Us}
use Rattle.entry_line.specs.Chars.{cr}
use Rattle.tap_block.specs.Chars.{stx, etx, eot, etb, us, end_char}
pub use Rattle.tap_block.specs.Fields.{longer, line_cut}
use Rattle.tap_block.specs.Reading.{Mode, BeforeLogon, AfterLogon, InputPiece, line, skipped, lone_eot, bye, dropped, block, piece_text, IsBody, IsTrailer, FirstIs, IsPieceBefore, HasNoPiece}

-- the fourth character of a trailer
abbrev pub four : ℕ → ℕ → ℕ → List ℕ → Option (List ℕ × List ℕ)
four a b c [] = None
four a b c (d ∷ x) = Some (a ∷ b ∷ c ∷ d ∷ [], x)

-- its third character
abbrev pub three : ℕ → ℕ → List ℕ → Option (List ℕ × List ℕ)
three a b [] = None
three a b (c ∷ x) = cond (c == cr) (Some (a ∷ b ∷ c ∷ [], x)) (four a b c x)

-- its second character
abbrev pub two : ℕ → List ℕ → Option (List ℕ × List ℕ)
two a [] = None
two a (b ∷ x) = cond (b == cr) (Some (a ∷ b ∷ [], x)) (three a b x)

-- the trailer at the front, and what is behind it
abbrev pub trailer_cut : List ℕ → Option (List ℕ × List ℕ)
trailer_cut [] = None
trailer_cut (a ∷ x) = cond (a == cr) (Some (a ∷ [], x)) (two a x)

-- the block that a trailer ends
abbrev pub after_trailer : List ℕ → End → Option (List ℕ × List ℕ) → Option (InputPiece × List ℕ)
after_trailer b e None = None
after_trailer b e (Some (t, x)) = Some (block b e t, x)

-- behind an STX: the body so far, and what is left
abbrev pub body_cut : List ℕ → List ℕ → Option (InputPiece × List ℕ)
body_cut b [] = None
body_cut b (c ∷ x) =
    cond (c == stx) (Some (dropped b, c ∷ x))
    (cond (c == etx) (after_trailer b Etx (trailer_cut x))
    (cond (c == etb) (after_trailer b Etb (trailer_cut x))
    (cond (c == us) (after_trailer b Us (trailer_cut x))
    (body_cut (b ++ c ∷ []) x))))

-- behind an EOT
abbrev pub eot_cut : List ℕ → Option (InputPiece × List ℕ)
eot_cut [] = None
eot_cut (c ∷ x) = cond (c == cr) (Some (bye, x)) (Some (lone_eot, c ∷ x))

-- the piece of a line
abbrev pub after_line : Option (List ℕ × List ℕ) → Option (InputPiece × List ℕ)
after_line None = None
after_line (Some (l, x)) = Some (line l, x)

-- the first piece, and what is behind it
abbrev pub first_piece : Mode → List ℕ → Option (InputPiece × List ℕ)
first_piece BeforeLogon x = after_line (line_cut x)
first_piece AfterLogon [] = None
first_piece AfterLogon (c ∷ x) = cond (c == stx) (body_cut [] x) (cond (c == eot) (eot_cut x) (Some (skipped c, x)))

-- tests at a known answer
pub not_equal : (a b : ℕ) → a ≢ b → (a == b) ≡ false
not_equal a b h = grind (arith, nat_tests)

-- the same where they are equal
pub equal : (a b : ℕ) → a ≡ b → (a == b) ≡ true
equal a b h = grind (arith, nat_tests)

-- a choice by a test
pub by_test : {A : Type 0} (P : A → Type 0) (a b : ℕ) (x y : A) → (a ≡ b → P x) → (a ≢ b → P y) → P (cond (a == b) x y)
by_test P a b x y p q = elim (eqb_tells a b) [ inl h ↦ rw h.0 (p h.1) | inr h ↦ rw h.0 (q h.1) ]

-- one more at the end of which the fact holds too
pub all_push : (P : ℕ → Type 0) (b : List ℕ) (c : ℕ) → AllByRecursion P b → P c → AllByRecursion P (b ++ c ∷ [])
all_push P [] c h p = (p, tt)
all_push P (a ∷ b) c h p = (h.0, all_push P b c h.1 p)

-- a list without CR has no line
pub line_none : (r : List ℕ) → AllByRecursion (λ c. c ≢ cr) r → line_cut r ≡ None
line_none [] h = refl
line_none (c ∷ r) h = rw (not_equal c cr h.0, line_none r h.1) refl

-- a line before a CR is found
pub line_found : (l next : List ℕ) → AllByRecursion (λ c. c ≢ cr) l → line_cut (l ++ cr ∷ next) ≡ Some (l, next)
line_found [] next h = refl
line_found (c ∷ l) next h = rw (not_equal c cr h.0, line_found l next h.1) refl

-- a trailer is found
pub trailer_found : (t next : List ℕ) → IsTrailer t → trailer_cut (t ++ next) ≡ Some (t, next)
trailer_found [] next h = elim h [ ]
trailer_found (a ∷ []) next h = rw (equal a cr h) refl
trailer_found (a ∷ b ∷ []) next h = rw (not_equal a cr h.0, equal b cr h.1) refl
trailer_found (a ∷ b ∷ c ∷ []) next h = rw (not_equal a cr h.0, not_equal b cr h.1, equal c cr h.2) refl
trailer_found (a ∷ b ∷ c ∷ d ∷ []) next h = rw (not_equal a cr h.0, not_equal b cr h.1, not_equal c cr h.2) refl
trailer_found (a ∷ b ∷ c ∷ d ∷ e ∷ t) next h = elim h [ ]

-- a body is gone over
pub body_skipped : (b0 b y : List ℕ) → IsBody b → body_cut b0 (b ++ y) ≡ body_cut (b0 ++ b) y
body_skipped b0 [] y h = rw append-nil refl
body_skipped b0 (c ∷ b) y h =
    rw (not_equal c stx h.0.0, not_equal c etx h.0.1, not_equal c etb h.0.2, not_equal c us h.0.3)
    (body_skipped (b0 ++ c ∷ []) b y h.1 ∙ ap (λ z. body_cut z y) (append_assoc b0 (c ∷ []) b))

-- a block is found from its end on
end_found : (b t next : List ℕ) (e : End) → IsTrailer t → body_cut b (end_char e ∷ (t ++ next)) ≡ Some (block b e t, next)
end_found b t next Etx h = rw (trailer_found t next h) refl
end_found b t next Etb h = rw (trailer_found t next h) refl
end_found b t next Us h = rw (trailer_found t next h) refl

-- a dropped body is found
dropped_found : (b next : List ℕ) → FirstIs (λ c. c ≡ stx) next → body_cut b next ≡ Some (dropped b, next)
dropped_found b [] h = elim h [ ]
dropped_found b (c ∷ x) h = rw (equal c stx h) refl

-- an EOT without CR is found
lone_found : (next : List ℕ) → FirstIs (λ c. c ≢ cr) next → eot_cut next ≡ Some (lone_eot, next)
lone_found [] h = elim h [ ]
lone_found (c ∷ x) h = rw (not_equal c cr h) refl

-- what may stand at the front is what is found there
pub found : (mode : Mode) (p : InputPiece) (next : List ℕ) → IsPieceBefore mode p next → first_piece mode (piece_text p ++ next) ≡ Some (p, next)
found BeforeLogon (line l) next h = rw append_assoc (rw (line_found l next h) refl)
found AfterLogon (skipped c) next h = rw (not_equal c stx h.0, not_equal c eot h.1) refl
found AfterLogon lone_eot next h = lone_found next h
found AfterLogon bye next h = refl
found AfterLogon (dropped b) next h = body_skipped [] b next h.0 ∙ dropped_found b next h.1
found AfterLogon (block b e t) next h = ap (body_cut []) (append_assoc b (end_char e ∷ t) next) ∙ body_skipped [] b (end_char e ∷ (t ++ next)) h.0 ∙ end_found b t next e h.1
found BeforeLogon (skipped c) next h = elim h [ ]
found BeforeLogon lone_eot next h = elim h [ ]
found BeforeLogon bye next h = elim h [ ]
found BeforeLogon (dropped b) next h = elim h [ ]
found BeforeLogon (block b e t) next h = elim h [ ]
found AfterLogon (line l) next h = elim h [ ]

-- where none is found there is none
pub no_piece : (mode : Mode) (r : List ℕ) → first_piece mode r ≡ None → HasNoPiece mode r
no_piece mode r none p next e h = let f = found mode p next h in cc
