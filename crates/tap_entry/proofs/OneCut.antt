-- A list of characters has one list of marks.
use Rattle.std.proofs.Common.{◌≡◌, ℕ, List, [], ◌∷◌, ◌++◌, refl, ap, sym, ◌∙◌, subst, append_assoc, append-nil, ◌⊎◌, inl, inr}
use Rattle.std.specs.Option.{option_to_list}
use Rattle.std.specs.List.{AllByRecursion, filter_map, flat_map}
use Rattle.tap_entry.specs.declared.hearing.Mark.{Mark}
use Rattle.tap_entry.specs.Marks.{IsOpen, IsPiece, AreMarks, mark_of}
use Rattle.tap_entry.specs.MarkReaders.{MarkReader, ReaderStandsFor, reader_step, fresh, heard_from, marks_of}
use Rattle.tap_entry.proofs.MarkReaders.{stands_on, stands_nil}
use Rattle.tap_entry.proofs.Steps.{marks_heard}

-- two lists with the same joined list: one is a front of the other
fronts : {A : Type 0} (p q x y : List A) → p ++ x ≡ q ++ y → ((r : List A) × ((q ≡ p ++ r) × (x ≡ r ++ y))) ⊎ ((r : List A) × ((p ≡ q ++ r) × (y ≡ r ++ x)))
fronts [] q x y e = inl (q, (refl, e))
fronts (a ∷ p) [] x y e = inr (a ∷ p, (refl, sym e))
fronts (a ∷ p) (b ∷ q) x y e =
    let h : a ≡ b = cc in
    let t : p ++ x ≡ q ++ y = cc in
    elim (fronts p q x y t) [
      | inl k ↦ (let z = k.1.0 in inl (k.0, (rw (h, z) refl, k.1.1)))
      | inr k ↦ (let z = k.1.0 in inr (k.0, (rw (h, z) refl, k.1.1)))
    ]

same_piece : (p q x y : List ℕ) → IsPiece p → IsPiece q → p ++ x ≡ q ++ y → (p ≡ q) × (x ≡ y)
same_piece p q x y h k e = elim (fronts p q x y e) [
  | inl r ↦ (let n = k.1 p r.0 r.1.0 h.0 in let a = r.1.0 in let b = r.1.1 in (sym (a ∙ ap (λ z. p ++ z) n ∙ append-nil p), b ∙ ap (λ z. z ++ y) n))
  | inr r ↦ (let n = h.1 q r.0 r.1.0 k.0 in let a = r.1.0 in let b = r.1.1 in (a ∙ ap (λ z. q ++ z) n ∙ append-nil q, sym (b ∙ ap (λ z. z ++ x) n)))
]

one_cut : (ps : List (List ℕ)) (r : List ℕ) (qs : List (List ℕ)) (s : List ℕ) → AllByRecursion IsPiece ps → AllByRecursion IsPiece qs → IsOpen r → IsOpen s
    → flat_map (λ p. p) ps ++ r ≡ flat_map (λ p. p) qs ++ s → ps ≡ qs
one_cut [] r [] s h k o u e = refl
one_cut [] r (q ∷ qs) s h k o u e = absurd (o q (flat_map (λ p. p) qs ++ s) (e ∙ append_assoc q (flat_map (λ p. p) qs) s) k.0.0)
one_cut (p ∷ ps) r [] s h k o u e = absurd (u p (flat_map (λ p. p) ps ++ r) (sym e ∙ append_assoc p (flat_map (λ p. p) ps) r) h.0.0)
one_cut (p ∷ ps) r (q ∷ qs) s h k o u e =
    let w = same_piece p q (flat_map (λ p. p) ps ++ r) (flat_map (λ p. p) qs ++ s) h.0 k.0 (sym (append_assoc p (flat_map (λ p. p) ps) r) ∙ e ∙ append_assoc q (flat_map (λ p. p) qs) s) in
    let a = w.0 in
    let b = one_cut ps r qs s h.1 k.1 o u w.1 in
    rw (a, b) refl

pub one_marks : (x : List ℕ) (marks others : List Mark) → AreMarks x marks → AreMarks x others → marks ≡ others
one_marks x marks others h k =
    h.marks_are ∙ ap (filter_map mark_of) (one_cut h.pieces h.rest k.pieces k.rest h.cuts.each k.cuts.each h.cuts.is_open k.cuts.is_open (sym h.cuts.form ∙ k.cuts.form)) ∙ sym k.marks_are

-- a reader of marks that heard further characters
record After (e : MarkReader) (x y : List ℕ) (marks : List Mark) : Type 0 where
  ear : MarkReader
  stands : ReaderStandsFor ear (x ++ y) (marks ++ heard_from e y)

after : (y x : List ℕ) (e : MarkReader) (marks : List Mark) → ReaderStandsFor e x marks → After e x y marks
after [] x e marks h = record { ear = e; stands = subst (λ z. ReaderStandsFor e z (marks ++ [])) (sym (append-nil x)) (subst (λ z. ReaderStandsFor e x z) (sym (append-nil marks)) h) }
after (c ∷ y) x e marks h =
    let k = after y (x ++ c ∷ []) (reader_step e c).ear (marks ++ option_to_list (reader_step e c).mark) (stands_on e x c marks h) in
    record {
      ear = k.ear;
      stands = subst (λ z. ReaderStandsFor k.ear z (marks ++ heard_from e (c ∷ y))) (append_assoc x (c ∷ []) y)
          (subst (λ z. ReaderStandsFor k.ear ((x ++ c ∷ []) ++ y) z) (append_assoc marks (option_to_list (reader_step e c).mark) (heard_from (reader_step e c).ear y)) k.stands);
    }

-- what is computed are the marks
pub marks_found : (x : List ℕ) → AreMarks x (marks_of x)
marks_found x = let k = after x [] fresh [] stands_nil in marks_heard k.ear x (marks_of x) k.stands

pub some_marks : (x : List ℕ) → (marks : List Mark) × AreMarks x marks
some_marks x = (marks_of x, marks_found x)

-- the marks of a front are the first of all
pub marks_front : (x y : List ℕ) (front whole : List Mark) → AreMarks x front → AreMarks (x ++ y) whole → (more : List Mark) × (whole ≡ front ++ more)
marks_front x y front whole h k =
    let a = after x [] fresh [] stands_nil in
    let b = after y x a.ear (marks_of x) a.stands in
    let e = one_marks x (marks_of x) front (marks_found x) h in
    let f = one_marks (x ++ y) whole (marks_of x ++ heard_from a.ear y) k (marks_heard b.ear (x ++ y) (marks_of x ++ heard_from a.ear y) b.stands) in
    (heard_from a.ear y, f ∙ ap (λ z. z ++ heard_from a.ear y) e)
