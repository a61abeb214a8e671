-- Each list has a reading: cut pieces off its front as long as there is one.
use Rattle.std.proofs.Common.{◌≡◌, ◌≢◌, ℕ, suc, zero, ◌<◌, ◌≤◌, List, [], ◌∷◌, ◌++◌, length, refl, ap, sym, ◌∙◌, subst, append_assoc, arith, Option, Some, None, length-append}
use Rattle.std.specs.List.{AllByRecursion}
use Rattle.tap_block.specs.declared.ends.End.{End}
use Rattle.tap_block.specs.declared.ends.End.TheVariants.{Etx, Etb, Us}
use Rattle.entry_line.specs.Chars.{cr}
use Rattle.tap_block.specs.Chars.{stx, etx, eot, etb, us, end_char}
use Rattle.tap_block.specs.Reading.{Mode, BeforeLogon, AfterLogon, InputPiece, line, skipped, lone_eot, bye, dropped, block, piece_text, IsBodyChar, IsBody, IsTrailer, IsPieceBefore, Reads, mode_after}
use Rattle.tap_block.proofs.First.{first_piece, line_cut, longer, four, three, two, trailer_cut, after_trailer, body_cut, eot_cut, after_line, no_piece, all_push, by_test}

-- what is found at the front, and how it goes on behind it
abbrev pub with_front : List ℕ → (InputPiece → List ℕ → List InputPiece × List ℕ) → Option (InputPiece × List ℕ) → List InputPiece × List ℕ
with_front x onward None = ([], x)
with_front x onward (Some (p, next)) = (p ∷ (onward p next).0, (onward p next).1)

-- the pieces of a list, at most n of them, and the rest
abbrev pub cut : ℕ → Option (List ℕ) → Mode → List ℕ → List InputPiece × List ℕ
cut zero password mode x = ([], x)
cut (suc n) password mode x = with_front x (λ p next. cut n password (mode_after password p mode) next) (first_piece mode x)

-- what a cut has found
abbrev LineCut : List ℕ → Option (List ℕ × List ℕ) → Type 0
LineCut x None = Unit {0}
LineCut x (Some (l, next)) = (x ≡ l ++ cr ∷ next) × AllByRecursion (λ c. c ≢ cr) l

-- what a trailer at the front is
abbrev pub TrailerCut : List ℕ → Option (List ℕ × List ℕ) → Type 0
TrailerCut x None = Unit {0}
TrailerCut x (Some (t, next)) = (x ≡ t ++ next) × IsTrailer t

-- what a piece at the front is
abbrev pub Cut : Mode → List ℕ → Option (InputPiece × List ℕ) → Type 0
Cut mode x None = Unit {0}
Cut mode x (Some (p, next)) = (x ≡ piece_text p ++ next) × IsPieceBefore mode p next

-- one character more before the line
longer_sound : (c : ℕ) (x : List ℕ) (o : Option (List ℕ × List ℕ)) → c ≢ cr → LineCut x o → LineCut (c ∷ x) (longer c o)
longer_sound c x None n h = tt
longer_sound c x (Some (l, next)) n h = (ap (λ z. c ∷ z) h.0, (n, h.1))

-- the line at the front is one
line_sound : (x : List ℕ) → LineCut x (line_cut x)
line_sound [] = tt
line_sound (c ∷ x) = by_test (LineCut (c ∷ x)) c cr _ _ (λ e. (ap (λ k. k ∷ x) e, tt)) (λ n. longer_sound c x (line_cut x) n (line_sound x))

-- what is cut at the first CR is a line and what is behind it
pub line_is : (x l next : List ℕ) → line_cut x ≡ Some (l, next) → (x ≡ l ++ cr ∷ next) × AllByRecursion (λ c. c ≢ cr) l
line_is x l next e = let P : Option (List ℕ × List ℕ) → Type 0 = λ o. LineCut x o in subst P e (line_sound x)

-- a trailer of four characters
four_sound : (a b c : ℕ) (x : List ℕ) → a ≢ cr → b ≢ cr → c ≢ cr → TrailerCut (a ∷ b ∷ c ∷ x) (four a b c x)
four_sound a b c [] na nb nc = tt
four_sound a b c (d ∷ x) na nb nc = (refl, (na, nb, nc))

-- a trailer of three characters or four
three_sound : (a b : ℕ) (x : List ℕ) → a ≢ cr → b ≢ cr → TrailerCut (a ∷ b ∷ x) (three a b x)
three_sound a b [] na nb = tt
three_sound a b (c ∷ x) na nb = by_test (TrailerCut (a ∷ b ∷ c ∷ x)) c cr _ _ (λ e. (refl, (na, nb, e))) (λ n. four_sound a b c x na nb n)

-- a trailer of two characters or more
two_sound : (a : ℕ) (x : List ℕ) → a ≢ cr → TrailerCut (a ∷ x) (two a x)
two_sound a [] na = tt
two_sound a (b ∷ x) na = by_test (TrailerCut (a ∷ b ∷ x)) b cr _ _ (λ e. (refl, (na, e))) (λ n. three_sound a b x na n)

-- the trailer at the front is one
pub trailer_sound : (x : List ℕ) → TrailerCut x (trailer_cut x)
trailer_sound [] = tt
trailer_sound (a ∷ x) = by_test (TrailerCut (a ∷ x)) a cr _ _ (λ e. (refl, e)) (λ n. two_sound a x n)

-- a block from its end on
after_sound : (b x : List ℕ) (c : ℕ) (e : End) (o : Option (List ℕ × List ℕ)) → IsBody b → c ≡ end_char e → TrailerCut x o
    → Cut AfterLogon ((stx ∷ b) ++ c ∷ x) (after_trailer b e o)
after_sound b x c e None body p h = tt
after_sound b x c e (Some (t, next)) body p h =
    (ap (λ z. (stx ∷ b) ++ c ∷ z) h.0 ∙ ap (λ k. (stx ∷ b) ++ k ∷ (t ++ next)) p ∙ sym (append_assoc (stx ∷ b) (end_char e ∷ t) next), (body, h.1))

-- a block or a dropped body from its STX on
body_sound : (b x : List ℕ) → IsBody b → Cut AfterLogon ((stx ∷ b) ++ x) (body_cut b x)
body_sound b [] body = tt
body_sound b (c ∷ x) body =
    let P : Option (InputPiece × List ℕ) → Type 0 = λ o. Cut AfterLogon ((stx ∷ b) ++ c ∷ x) o in
    by_test P c stx _ _ (λ e. (refl, (body, e)))
    (λ n2. by_test P c etx _ _ (λ e. after_sound b x c Etx (trailer_cut x) body e (trailer_sound x))
    (λ n3. by_test P c etb _ _ (λ e. after_sound b x c Etb (trailer_cut x) body e (trailer_sound x))
    (λ n23. by_test P c us _ _ (λ e. after_sound b x c Us (trailer_cut x) body e (trailer_sound x))
    (λ n31. subst (λ z. Cut AfterLogon (stx ∷ z) (body_cut (b ++ c ∷ []) x)) (append_assoc b (c ∷ []) x)
    (body_sound (b ++ c ∷ []) x (all_push IsBodyChar b c body (n2, n3, n23, n31)))))))

-- an EOT and what is behind it
eot_sound : (x : List ℕ) → Cut AfterLogon (eot ∷ x) (eot_cut x)
eot_sound [] = tt
eot_sound (c ∷ x) = by_test (Cut AfterLogon (eot ∷ c ∷ x)) c cr _ _ (λ e. (ap (λ k. eot ∷ k ∷ x) e, tt)) (λ n. (refl, n))

-- the line at the front is a piece
after_line_sound : (x : List ℕ) (o : Option (List ℕ × List ℕ)) → LineCut x o → Cut BeforeLogon x (after_line o)
after_line_sound x None h = tt
after_line_sound x (Some (l, next)) h = (h.0 ∙ sym (append_assoc l (cr ∷ []) next), h.1)

-- what is found at the front may stand there
pub sound : (mode : Mode) (x : List ℕ) → Cut mode x (first_piece mode x)
sound BeforeLogon x = after_line_sound x (line_cut x) (line_sound x)
sound AfterLogon [] = tt
sound AfterLogon (c ∷ x) = by_test (Cut AfterLogon (c ∷ x)) c stx _ _
    (λ e. subst (λ k. Cut AfterLogon (k ∷ x) (body_cut [] x)) (sym e) (body_sound [] x tt))
    (λ n2. by_test (Cut AfterLogon (c ∷ x)) c eot _ _
    (λ e. subst (λ k. Cut AfterLogon (k ∷ x) (eot_cut x)) (sym e) (eot_sound x))
    (λ n4. (refl, (n2, n4))))

-- a piece has a character
text_some : (p : InputPiece) → 0 < length (piece_text p)
text_some (line l) = simp length-append (omega arith)
text_some (skipped c) = omega arith
text_some lone_eot = omega arith
text_some bye = omega arith
text_some (dropped b) = omega arith
text_some (block b e t) = omega arith

-- what is behind a piece is shorter
shorter : (p : InputPiece) (x next : List ℕ) (n : ℕ) → x ≡ piece_text p ++ next → length x ≤ suc n → length next ≤ n
shorter p x next n e h = let k = ap length e ∙ length-append (piece_text p) next in let m = text_some p in omega arith

-- enough pieces are a reading
pub cut_reads : (n : ℕ) (password : Option (List ℕ)) (mode : Mode) (x : List ℕ) → length x ≤ n
    → Reads password mode (cut n password mode x).0 (cut n password mode x).1 x
cut_reads zero password mode x h = (refl, no_piece mode x (none_at mode x h))
  where
    none_at : (mode : Mode) (x : List ℕ) → length x ≤ 0 → first_piece mode x ≡ None
    none_at BeforeLogon [] h = refl
    none_at AfterLogon [] h = refl
    none_at mode (c ∷ x) h = absurd (omega (arith, h))
cut_reads (suc n) password mode x h =
    found_reads (first_piece mode x) refl (sound mode x) (λ m y k. cut_reads n password m y k)
  where
    found_reads : (o : Option (InputPiece × List ℕ)) → first_piece mode x ≡ o → Cut mode x o
        → ((m : Mode) (y : List ℕ) → length y ≤ n → Reads password m (cut n password m y).0 (cut n password m y).1 y)
        → (let r = with_front x (λ p next. cut n password (mode_after password p mode) next) o in Reads password mode r.0 r.1 x)
    found_reads None e f again = (refl, no_piece mode x e)
    found_reads (Some (p, next)) e f again = (next, f.0, f.1, again (mode_after password p mode) next (shorter p x next n f.0 h))
