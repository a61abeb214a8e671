-- Replies are heard as their marks.
use Rattle.std.proofs.Common.{◌≡◌, ◌≢◌, ℕ, List, [], ◌∷◌, ◌++◌, refl, ap, sym, ◌∙◌, append_assoc, append-nil, arith, ◌⊎◌, inl, inr}
use Rattle.std.specs.List.{flat_map, filter_map}
use Rattle.entry_line.specs.Chars.{cr}
use Rattle.tap_block.specs.Chars.{characters}
use Rattle.tap_terminal.specs.declared.answers.Answer.{Answer}
use Rattle.tap_terminal.specs.declared.answers.Answer.TheVariants.{Nothing, Id, Go, Ack, Nak, Rs, End}
use Rattle.tap_entry.specs.declared.hearing.Mark.{Mark}
use Rattle.tap_entry.specs.declared.hearing.Mark.TheVariants.{Id as IdMark, Ack as AckMark, Nak as NakMark, Rs as RsMark, End as EndMark, Go as GoMark}
use Rattle.tap_block.specs.Reading.{without_lf}
use Rattle.tap_entry.specs.Marks.{ack, nak, rs, prompt, IsOpen, IsPiece, Cuts, mark_of, AreMarks}
use Rattle.tap_entry.proofs.Cutting.{ends_push, nil_open, stays_open, becomes_piece}
use Rattle.tap_terminal.specs.Replies.{replies}

-- the marks of an answer: Go has an ACK before it
abbrev pub marks_for : Answer → List Mark
marks_for Nothing = []
marks_for Id = IdMark ∷ []
marks_for Go = AckMark ∷ GoMark ∷ []
marks_for Ack = AckMark ∷ []
marks_for Nak = NakMark ∷ []
marks_for (Rs reason) = RsMark ∷ []
marks_for End = EndMark ∷ []

-- two fronts of one list: one is a front of the other
fronts : (p x q y : List ℕ) → p ++ x ≡ q ++ y → ((w : List ℕ) × ((p ≡ q ++ w) × (y ≡ w ++ x))) ⊎ ((w : List ℕ) × ((q ≡ p ++ w) × (x ≡ w ++ y)))
fronts [] x q y e = inr (q, (refl, e))
fronts (c ∷ p) x [] y e = inl (c ∷ p, (refl, sym e))
fronts (c ∷ p) x (d ∷ q) y e =
    let h : c ≡ d = cc in
    let t : p ++ x ≡ q ++ y = cc in
    elim (fronts p x q y t) [
      | inl k ↦ inl (k.0, ((let m = k.1.0 in rw (h, m) refl), k.1.1))
      | inr k ↦ inr (k.0, ((let m = k.1.0 in rw (h, m) refl), k.1.1))
    ]

record CutFirst (p x : List ℕ) (pieces : List (List ℕ)) (rest : List ℕ) : Type 0 where
  others : List (List ℕ)
  form : pieces ≡ p ∷ others
  cuts : Cuts others rest x

-- a piece at the front is the first piece
cut_first : (p x : List ℕ) (pieces : List (List ℕ)) (rest : List ℕ) → IsPiece p → Cuts pieces rest (p ++ x) → CutFirst p x pieces rest
cut_first p x [] rest h k = absurd (k.is_open p x (sym k.form) h.0)
cut_first p x (q ∷ qs) rest h k =
    let e : p ++ x ≡ q ++ (flat_map (λ p. p) qs ++ rest) = k.form ∙ append_assoc q (flat_map (λ p. p) qs) rest in
    by_fronts (fronts p x q (flat_map (λ p. p) qs ++ rest) e)
  where
    made : q ≡ p → x ≡ flat_map (λ p. p) qs ++ rest → CutFirst p x (q ∷ qs) rest
    made e f = record { others = qs; form = ap (λ z. z ∷ qs) e; cuts = record { form = f; each = k.each.1; is_open = k.is_open } }

    by_fronts : ((w : List ℕ) × ((p ≡ q ++ w) × (flat_map (λ p. p) qs ++ rest ≡ w ++ x))) ⊎ ((w : List ℕ) × ((q ≡ p ++ w) × (x ≡ w ++ (flat_map (λ p. p) qs ++ rest)))) → CutFirst p x (q ∷ qs) rest
    by_fronts (inl m) =
        let n : m.0 ≡ [] = h.1 q m.0 m.1.0 k.each.0.0 in
        made (sym (m.1.0 ∙ ap (λ z. q ++ z) n ∙ append-nil q)) (sym (m.1.1 ∙ ap (λ z. z ++ x) n))
    by_fronts (inr m) =
        let n : m.0 ≡ [] = k.each.0.1 p m.0 m.1.0 h.0 in
        made (m.1.0 ∙ ap (λ z. p ++ z) n ∙ append-nil p) (m.1.1 ∙ ap (λ z. z ++ (flat_map (λ p. p) qs ++ rest)) n)

opens : (r : List ℕ) (c : ℕ) → IsOpen r → c ≢ cr → c ≢ 61 → IsOpen (r ++ c ∷ [])
opens r c h n m = stays_open r c h (λ ends. elim (ends_push r c ends) [ inl e ↦ n e | inr e ↦ m e.0 ])

line_piece : (r : List ℕ) → IsOpen r → IsPiece (r ++ cr ∷ [])
line_piece r h = becomes_piece r cr h (r, inl refl)

one_open : (c : ℕ) → c ≢ cr → c ≢ 61 → IsOpen (c ∷ [])
one_open c n m = opens [] c nil_open n m

esc_open : IsOpen (27 ∷ [])
esc_open = one_open 27 (λ e. omega (arith, e)) (λ e. omega (arith, e))

id_piece : IsPiece prompt
id_piece = becomes_piece (73 ∷ 68 ∷ []) 61 (opens (73 ∷ []) 68 (one_open 73 (λ e. omega (arith, e)) (λ e. omega (arith, e))) (λ e. omega (arith, e)) (λ e. omega (arith, e))) ([], inr refl)

ack_piece : IsPiece (ack ∷ cr ∷ [])
ack_piece = line_piece (ack ∷ []) (one_open ack (λ e. omega (arith, e)) (λ e. omega (arith, e)))

nak_piece : IsPiece (nak ∷ cr ∷ [])
nak_piece = line_piece (nak ∷ []) (one_open nak (λ e. omega (arith, e)) (λ e. omega (arith, e)))

rs_piece : IsPiece (rs ∷ cr ∷ [])
rs_piece = line_piece (rs ∷ []) (one_open rs (λ e. omega (arith, e)) (λ e. omega (arith, e)))

end_piece : IsPiece (27 ∷ 4 ∷ cr ∷ [])
end_piece = line_piece (27 ∷ 4 ∷ []) (opens (27 ∷ []) 4 esc_open (λ e. omega (arith, e)) (λ e. omega (arith, e)))

go_piece : IsPiece (27 ∷ 91 ∷ 112 ∷ cr ∷ [])
go_piece = line_piece (27 ∷ 91 ∷ 112 ∷ []) (opens (27 ∷ 91 ∷ []) 112 (opens (27 ∷ []) 91 esc_open (λ e. omega (arith, e)) (λ e. omega (arith, e))) (λ e. omega (arith, e)) (λ e. omega (arith, e)))

abbrev MarksOf : List (List ℕ) → List Mark
MarksOf pieces = filter_map mark_of pieces

no_pieces : (pieces : List (List ℕ)) (rest : List ℕ) → Cuts pieces rest [] → pieces ≡ []
no_pieces [] rest k = refl
no_pieces ([] ∷ ps) rest k = absurd (nil_open [] [] refl k.each.0.0)
no_pieces ((c ∷ p) ∷ ps) rest k = let e = k.form in absurd cc

cut_marks : (answers : List Answer) (pieces : List (List ℕ)) (rest : List ℕ) → Cuts pieces rest (without_lf (characters (replies answers))) → MarksOf pieces ≡ flat_map marks_for answers
cut_marks [] pieces rest k = ap MarksOf (no_pieces pieces rest k)
cut_marks (Nothing ∷ answers) pieces rest k = cut_marks answers pieces rest k
cut_marks (Id ∷ answers) pieces rest k = let f = cut_first prompt _ pieces rest id_piece k in ap MarksOf f.form ∙ ap (λ z. IdMark ∷ z) (cut_marks answers f.others rest f.cuts)
cut_marks (Ack ∷ answers) pieces rest k = let f = cut_first _ _ pieces rest ack_piece k in ap MarksOf f.form ∙ ap (λ z. AckMark ∷ z) (cut_marks answers f.others rest f.cuts)
cut_marks (Nak ∷ answers) pieces rest k = let f = cut_first _ _ pieces rest nak_piece k in ap MarksOf f.form ∙ ap (λ z. NakMark ∷ z) (cut_marks answers f.others rest f.cuts)
cut_marks ((Rs reason) ∷ answers) pieces rest k = let f = cut_first _ _ pieces rest rs_piece k in ap MarksOf f.form ∙ ap (λ z. RsMark ∷ z) (cut_marks answers f.others rest f.cuts)
cut_marks (End ∷ answers) pieces rest k = let f = cut_first _ _ pieces rest end_piece k in ap MarksOf f.form ∙ ap (λ z. EndMark ∷ z) (cut_marks answers f.others rest f.cuts)
cut_marks (Go ∷ answers) pieces rest k =
    let f = cut_first (ack ∷ cr ∷ []) _ pieces rest ack_piece k in
    let g = cut_first (27 ∷ 91 ∷ 112 ∷ cr ∷ []) _ f.others rest go_piece f.cuts in
    ap MarksOf f.form ∙ ap (λ z. AckMark ∷ MarksOf z) g.form ∙ ap (λ z. AckMark ∷ GoMark ∷ z) (cut_marks answers g.others rest g.cuts)

-- the marks of replies are those of the answers
pub reply_marks : (answers : List Answer) (marks : List Mark) → AreMarks (characters (replies answers)) marks → marks ≡ flat_map marks_for answers
reply_marks answers marks h = h.marks_are ∙ cut_marks answers h.pieces h.rest h.cuts
