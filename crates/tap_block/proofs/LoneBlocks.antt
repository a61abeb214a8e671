-- A list that is one block from its first character to its last: how it is read, and how its fronts are.
use Rattle.std.proofs.Common.{◌≡◌, ◌≢◌, ℕ, List, [], ◌∷◌, ◌++◌, length, length-append, drop, get_or, Option, Some, None, refl, sym, ◌∙◌, ap, ap₂, subst, append_assoc, append-nil, arith}
use Rattle.tap_block.specs.declared.ends.End.{End}
use Rattle.tap_block.specs.declared.ends.End.TheVariants.{Etx, Etb, Us}
use Rattle.entry_line.specs.Chars.{cr}
use Rattle.tap_block.specs.Chars.{end_char, etb, etx, stx, us}
use Rattle.tap_block.specs.Reading.{AfterLogon, block, IsBody, IsTrailer, items_of, Mode, InputPiece, Reads}
use Rattle.tap_block.proofs.First.{after_trailer, body_cut, body_skipped, first_piece, found, no_piece, not_equal, trailer_cut}
use Rattle.tap_block.proofs.Exists.{Cut, sound, trailer_sound, TrailerCut}

-- where no piece stands at the front a list is read as no pieces
pub no_pieces : (password : Option (List ℕ)) (mode : Mode) (pieces : List InputPiece) (rest x : List ℕ) → first_piece mode x ≡ None → Reads password mode pieces rest x → pieces ≡ []
no_pieces password mode [] rest x none h = refl
no_pieces password mode (p ∷ pieces) rest x none h =
    let f = found mode p h.0 h.2 in
    let e = ap (first_piece mode) h.1 in
    absurd (let no : None ≡ Some (p, h.0) = sym none ∙ (e ∙ f) in cc)

-- where a piece stands at the front a list is read as it and further pieces
pub first_read : (password : Option (List ℕ)) (mode : Mode) (p : InputPiece) (pieces : List InputPiece) (next rest x : List ℕ) → first_piece mode x ≡ Some (p, next) → Reads password mode pieces rest x
    → (others : List InputPiece) × (pieces ≡ p ∷ others)
first_read password mode p [] next rest x some h =
    let P : Option (InputPiece × List ℕ) → Type 0 = λ o. Cut mode x o in
    let cut = subst P some (sound mode x) in
    absurd (h.1 p next (sym h.0 ∙ cut.0) cut.1)
first_read password mode p (q ∷ pieces) next rest x some h =
    let f = found mode q h.0 h.2 in
    let e = ap (first_piece mode) h.1 in
    let same : ◌≡◌ {A = Option (InputPiece × List ℕ)} (Some (q, h.0)) (Some (p, next)) = sym (e ∙ f) ∙ some in
    let pair : ◌≡◌ {A = InputPiece × List ℕ} (q, h.0) (p, next) = cc in
    (pieces, ap (λ (r : InputPiece × List ℕ). r.0 ∷ pieces) pair)

-- a front of a trailer that isn't whole is no trailer
front_of_trailer : (t more : List ℕ) → IsTrailer (t ++ more) → more ≢ [] → trailer_cut t ≡ None
front_of_trailer t [] h n = absurd (n refl)
front_of_trailer [] (c ∷ more) h n = refl
front_of_trailer (a ∷ []) (b ∷ []) h n = rw (not_equal a cr h.0) refl
front_of_trailer (a ∷ []) (b ∷ c ∷ []) h n = rw (not_equal a cr h.0) refl
front_of_trailer (a ∷ []) (b ∷ c ∷ d ∷ []) h n = rw (not_equal a cr h.0) refl
front_of_trailer (a ∷ []) (b ∷ c ∷ d ∷ e ∷ more) h n = elim h [ ]
front_of_trailer (a ∷ b ∷ []) (c ∷ []) h n = rw (not_equal a cr h.0, not_equal b cr h.1) refl
front_of_trailer (a ∷ b ∷ []) (c ∷ d ∷ []) h n = rw (not_equal a cr h.0, not_equal b cr h.1) refl
front_of_trailer (a ∷ b ∷ []) (c ∷ d ∷ e ∷ more) h n = elim h [ ]
front_of_trailer (a ∷ b ∷ c ∷ []) (d ∷ []) h n = rw (not_equal a cr h.0, not_equal b cr h.1, not_equal c cr h.2) refl
front_of_trailer (a ∷ b ∷ c ∷ []) (d ∷ e ∷ more) h n = elim h [ ]
front_of_trailer (a ∷ b ∷ c ∷ d ∷ []) (e ∷ more) h n = elim h [ ]
front_of_trailer (a ∷ b ∷ c ∷ d ∷ e ∷ t) (f ∷ more) h n = elim h [ ]

-- no front of a body, its end and a trailer that isn't whole has a block
front_of_body : (before b t p more : List ℕ) (end : End) → IsBody b → IsTrailer t → p ++ more ≡ b ++ end_char end ∷ t → more ≢ [] → body_cut before p ≡ None
front_of_body before b t [] more end body trailer e n = refl
front_of_body before [] t (c ∷ p) more end body trailer e n =
    let tail : p ++ more ≡ t = ap (drop 1) e in
    let cut : trailer_cut p ≡ None = front_of_trailer p more (subst IsTrailer (sym tail) trailer) n in
    by_end end (ap (λ (x : List ℕ). get_or x 0 0) e) cut
  where
    by_end : (end : End) → c ≡ end_char end → trailer_cut p ≡ None → body_cut before (c ∷ p) ≡ None
    by_end Etx head cut = rw (head, cut) refl
    by_end Etb head cut = rw (head, cut) refl
    by_end Us head cut = rw (head, cut) refl
front_of_body before (d ∷ b) t (c ∷ p) more end body trailer e n =
    let head : c ≡ d = ap (λ (x : List ℕ). get_or x 0 0) e in
    let tail : p ++ more ≡ b ++ end_char end ∷ t = ap (drop 1) e in
    rw (head, not_equal d stx body.0.0, not_equal d etx body.0.1, not_equal d etb body.0.2, not_equal d us body.0.3)
    (front_of_body (before ++ d ∷ []) b t p more end body.1 trailer tail n)

-- a front of a block that isn't the whole block is read as no pieces
pub front_of_block : (b t p more : List ℕ) (end : End) → IsBody b → IsTrailer t → p ++ more ≡ (stx ∷ b) ++ end_char end ∷ t → more ≢ [] → first_piece AfterLogon p ≡ None
front_of_block b t [] more end body trailer e n = refl
front_of_block b t (c ∷ p) more end body trailer e n =
    let head : c ≡ stx = ap (λ (x : List ℕ). get_or x 0 0) e in
    rw head (front_of_body [] b t p more end body trailer (ap (drop 1) e) n)

-- a block is read as itself
pub lone_reads : (password : Option (List ℕ)) (b t : List ℕ) → IsBody b → IsTrailer t → Reads password AfterLogon (block b Etx t ∷ []) [] ((stx ∷ b) ++ etx ∷ t)
lone_reads password b t body trailer = ([], sym (append-nil ((stx ∷ b) ++ etx ∷ t)), (body, trailer), (refl, no_piece AfterLogon [] refl))

-- ---- the converse

snoc_is : (xs ys : List ℕ) (c d : ℕ) → xs ++ c ∷ [] ≡ ys ++ d ∷ [] → xs ≡ ys
snoc_is [] [] c d e = refl
snoc_is [] (y ∷ ys) c d e = absurd (omega (arith, ap length e, length-append ys (d ∷ [])))
snoc_is (x ∷ xs) [] c d e = absurd (omega (arith, ap length e, length-append xs (c ∷ [])))
snoc_is (x ∷ xs) (y ∷ ys) c d e = ap₂ (λ (a : ℕ) (l : List ℕ). a ∷ l) (ap (λ (l : List ℕ). get_or l 0 0) e) (snoc_is xs ys c d (ap (drop 1) e))

-- a list that isn't empty, without its last
init_of : (d : ℕ) (ys : List ℕ) → (front : List ℕ) × (last : ℕ) × (d ∷ ys ≡ front ++ last ∷ [])
init_of d [] = ([], d, refl)
init_of d (e ∷ ys) = let r = init_of e ys in (d ∷ r.0, r.1, ap (λ (l : List ℕ). d ∷ l) r.2)

-- STX, a body, ETX and what follows is one block with what follows as its trailer, where the whole list is read with an item and the
-- list without its last character with none.
pub lone_trailer : (password : Option (List ℕ)) (b t p : List ℕ) (c : ℕ) (ps qs : List InputPiece) (r s : List ℕ) → IsBody b → p ++ c ∷ [] ≡ (stx ∷ b) ++ etx ∷ t
    → Reads password AfterLogon ps r p → items_of password ps ≡ [] → Reads password AfterLogon qs s ((stx ∷ b) ++ etx ∷ t) → items_of password qs ≢ [] → IsTrailer t
lone_trailer password b t p c ps qs r s body e before none whole some = by_cut (trailer_cut t) refl (trailer_sound t)
  where
    at_front : (u : List ℕ) → first_piece AfterLogon ((stx ∷ b) ++ etx ∷ u) ≡ after_trailer b Etx (trailer_cut u)
    at_front u = body_skipped [] b (etx ∷ u) body

    by_cut : (o : Option (List ℕ × List ℕ)) → trailer_cut t ≡ o → TrailerCut t o → IsTrailer t
    by_cut None is h = absurd (some (ap (items_of password) (no_pieces password AfterLogon qs s _ (at_front t ∙ ap (after_trailer b Etx) is) whole)))
    by_cut (Some (u, [])) is h = subst IsTrailer (sym (h.0 ∙ append-nil u)) h.1
    by_cut (Some (u, d ∷ v)) is h =
        let i = init_of d v in
        let a : List ℕ = (stx ∷ b) ++ etx ∷ (u ++ i.0) in
        let all : p ++ c ∷ [] ≡ a ++ i.1 ∷ [] =
        e ∙ ap (λ (z : List ℕ). (stx ∷ b) ++ etx ∷ z) (h.0 ∙ ap (λ (z : List ℕ). u ++ z) i.2 ∙ sym (append_assoc u i.0 (i.1 ∷ []))) ∙ sym (append_assoc (stx ∷ b) (etx ∷ (u ++ i.0)) (i.1 ∷ [])) in
        let front : p ≡ a = snoc_is p a c i.1 all in
        let piece : first_piece AfterLogon p ≡ Some (block b Etx u, i.0) =
        ap (first_piece AfterLogon) (front ∙ sym (append_assoc (stx ∷ b) (etx ∷ u) i.0)) ∙ found AfterLogon (block b Etx u) i.0 (body, h.1) in
        let read = first_read password AfterLogon (block b Etx u) ps i.0 r p piece before in
        absurd (let e2 = sym none ∙ ap (items_of password) read.1 in cc)
