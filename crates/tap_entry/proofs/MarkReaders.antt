-- A reader of marks goes on by one character.
use Rattle.std.proofs.Common.{◌≡◌, ◌≢◌, ℕ, ◌-◌, ◌≤◌, ◌<◌, ◌==◌, cond, Bool, true, false, not, ◌&&◌, List, [], ◌∷◌, ◌++◌, length, drop, take, nat_lt, refl, ap, sym, ◌∙◌, subst, append_assoc, append-nil, arith, Option, Some, None, inl, inr, length-append}
use Rattle.std.specs.List.{filter_map}
use Rattle.std.specs.Option.{option_to_list}
use Rattle.std.specs.Prelude.{codes}
use Rattle.std.proofs.Math.Seq.{drop-append_seam}
use Rattle.std.proofs.lemmas.Bool.{cases_lt}
use Rattle.std.proofs.lemmas.List.{drop-append-le, take-append-le, take_all, length-take-le}
use Rattle.std.proofs.lemmas.List.Elements.{filter-append, filter_map-append}
use Rattle.std.proofs.lemmas.Bool.Decides.{nat_tests}
use Rattle.entry_line.specs.Chars.{lf, cr}
use Rattle.tap_block.specs.Chars.{eot, esc}
use Rattle.tap_block.proofs.First.{equal, not_equal, by_test}
use Rattle.tap_entry.specs.declared.hearing.Mark.{Mark}
use Rattle.tap_entry.specs.declared.hearing.Mark.TheVariants.{Id}
use Rattle.tap_entry.specs.declared.hearing.Seen.{Seen}
use Rattle.tap_entry.specs.declared.hearing.Seen.TheVariants.{Nothing, I, Id as IdSeen}
use Rattle.tap_block.specs.Reading.{without_lf}
use Rattle.tap_entry.specs.Marks.{ack, nak, rs, prompt, Ends, Cuts, same, mark_of}
use Rattle.entry_line.specs.Kept.{push_within}
use Rattle.tap_entry.specs.MarkReaders.{MarkReader, is_i, saw_id, seen_by, seen_from, ReaderStandsFor, line_mark, ReaderStepped, fresh, reader_step}
use Rattle.entry_line.proofs.Bounds.{take_push}
use Rattle.tap_entry.proofs.Cutting.{nil_open, ends_push, cuts_piece, cuts_more, same_push, same_take}

seen_push : (s : Seen) (x : List ℕ) (c : ℕ) → seen_from s (x ++ c ∷ []) ≡ seen_by (seen_from s x) c
seen_push s [] c = refl
seen_push s (d ∷ x) c = seen_push (seen_by s d) x c

-- `ID` was seen exactly where the characters end in it
seen_id : (s : Seen) (l : List ℕ) → seen_from s (l ++ codes "ID") ≡ IdSeen
seen_id s [] = refl
seen_id s (d ∷ l) = seen_id (seen_by s d) l

data Pushed : List ℕ → Type 0 where
  none : Pushed []
  pushed : (l : List ℕ) (c : ℕ) → Pushed (l ++ c ∷ [])

as_pushed : (x : List ℕ) → Pushed x
as_pushed [] = none
as_pushed (c ∷ x) = further (as_pushed x)
  where
    further : {y : List ℕ} → Pushed y → Pushed (c ∷ y)
    further none = pushed [] c
    further (pushed l d) = pushed (c ∷ l) d

by_i : (s : Seen) (c : ℕ) → is_i (seen_by s c) ≡ true → c ≡ 73
by_i s c h = one (c == 73) refl ((c == 68) && is_i s) h
  where
    one : (b : Bool) → (c == 73) ≡ b → (d : Bool) → is_i (cond b I (cond d IdSeen Nothing)) ≡ true → c ≡ 73
    one true e d k = grind (arith, nat_tests)
    one false e true k = absurd cc
    one false e false k = absurd cc

by_id : (s : Seen) (c : ℕ) → saw_id (seen_by s c) ≡ true → (c ≡ 68) × (is_i s ≡ true)
by_id s c h = one (c == 73) ((c == 68)) refl (is_i s) refl h
  where
    one : (b : Bool) → (d : Bool) → (c == 68) ≡ d → (i : Bool) → is_i s ≡ i → saw_id (cond b I (cond (d && i) IdSeen Nothing)) ≡ true → (c ≡ 68) × (is_i s ≡ true)
    one true d e i f k = absurd cc
    one false true e true f k = (grind (arith, nat_tests), f)
    one false true e false f k = absurd cc
    one false false e i f k = absurd cc

ends_i : (x : List ℕ) → is_i (seen_from Nothing x) ≡ true → (l : List ℕ) × (x ≡ l ++ codes "I")
ends_i x h = from_view x (as_pushed x) h
  where
    from_view : (x : List ℕ) → Pushed x → is_i (seen_from Nothing x) ≡ true → (l : List ℕ) × (x ≡ l ++ codes "I")
    from_view x none h = absurd cc
    from_view x (pushed l c) h = (l, ap (λ k. l ++ k ∷ []) (by_i (seen_from Nothing l) c (ap is_i (sym (seen_push Nothing l c)) ∙ h)))

ends_id : (x : List ℕ) → saw_id (seen_from Nothing x) ≡ true → (l : List ℕ) × (x ≡ l ++ codes "ID")
ends_id x h = from_view x (as_pushed x) h
  where
    from_view : (x : List ℕ) → Pushed x → saw_id (seen_from Nothing x) ≡ true → (l : List ℕ) × (x ≡ l ++ codes "ID")
    from_view x none h = absurd cc
    from_view x (pushed l c) h =
        let k = by_id (seen_from Nothing l) c (ap saw_id (sym (seen_push Nothing l c)) ∙ h) in
        let m = ends_i l k.1 in
        (m.0, ap (λ d. l ++ d ∷ []) k.0 ∙ ap (λ z. z ++ 68 ∷ []) m.1 ∙ append_assoc m.0 (codes "I") (68 ∷ []))

-- the mark of a whole piece
id_mark : (l : List ℕ) → mark_of (l ++ prompt) ≡ Some Id
id_mark l =
    let e : length (l ++ prompt) - 3 ≡ length l = (let k = length-append l prompt in omega (arith, k)) in
    let f : drop (length (l ++ prompt) - 3) (l ++ prompt) ≡ prompt = ap (λ n. drop n (l ++ prompt)) e ∙ drop-append_seam l prompt in
    let g : same (drop (length (l ++ prompt) - 3) (l ++ prompt)) prompt ≡ true = ap (λ z. same z prompt) f in
    rw g refl

and_false : (b : Bool) → (b && false) ≡ false
and_false true = refl
and_false false = refl

and_true : (b : Bool) → (b && true) ≡ b
and_true true = refl
and_true false = refl

line_end : (l w : List ℕ) → length w < 4 → same (l ++ cr ∷ []) (w ++ cr ∷ []) ≡ same (take 4 l) w
line_end l w h = same_push l w cr cr ∙ and_true (same l w) ∙ sym (same_take 4 l w h)

line_mark_is : (l : List ℕ) → mark_of (l ++ cr ∷ []) ≡ line_mark (take 4 l)
line_mark_is l =
    let e : length (l ++ cr ∷ []) - 3 ≤ length l = (let k = length-append l (cr ∷ []) in omega (arith, k)) in
    let f : drop (length (l ++ cr ∷ []) - 3) (l ++ cr ∷ []) ≡ drop (length (l ++ cr ∷ []) - 3) l ++ cr ∷ [] = drop-append-le (length (l ++ cr ∷ []) - 3) l (cr ∷ []) e in
    let g : same (drop (length (l ++ cr ∷ []) - 3) (l ++ cr ∷ [])) prompt ≡ false = ap (λ z. same z prompt) f ∙ same_push (drop (length (l ++ cr ∷ []) - 3) l) (codes "ID") cr 61 ∙ and_false _ in
    rw (g, line_end l (ack ∷ []) (omega arith), line_end l (nak ∷ []) (omega arith), line_end l (rs ∷ []) (omega arith), line_end l (esc ∷ eot ∷ []) (omega arith), line_end l (esc ∷ codes "[p") (omega arith)) refl

-- Without LF.
no_lf : (x : List ℕ) (c : ℕ) → c ≡ lf → without_lf (x ++ c ∷ []) ≡ without_lf x
no_lf x c p = filter-append (λ c. not (c == lf)) x (c ∷ []) ∙ ap (λ z. without_lf x ++ z) (rw (equal c lf p) refl) ∙ append-nil (without_lf x)

with_char : (x : List ℕ) (c : ℕ) → c ≢ lf → without_lf (x ++ c ∷ []) ≡ without_lf x ++ c ∷ []
with_char x c n = filter-append (λ c. not (c == lf)) x (c ∷ []) ∙ ap (λ z. without_lf x ++ z) (rw (not_equal c lf n) refl)

-- the next character completes a piece
completes : (e : MarkReader) (x : List ℕ) (c : ℕ) (marks : List Mark) (mark : Option Mark) → (h : ReaderStandsFor e x marks) → c ≢ lf → Ends (h.rest ++ c ∷ []) → mark_of (h.rest ++ c ∷ []) ≡ mark
    → ReaderStandsFor fresh (x ++ c ∷ []) (marks ++ option_to_list mark)
completes e x c marks mark h n ends is = record {
  pieces = h.pieces ++ (h.rest ++ c ∷ []) ∷ [];
  rest = [];
  cuts = subst (λ z. Cuts (h.pieces ++ (h.rest ++ c ∷ []) ∷ []) [] z) (sym (with_char x c n)) (cuts_piece h.pieces h.rest (without_lf x) c h.cuts ends);
  marks_are = ap (λ z. z ++ option_to_list mark) h.marks_are ∙ sym (filter_map-append mark_of h.pieces ((h.rest ++ c ∷ []) ∷ []) ∙ ap (λ z. filter_map mark_of h.pieces ++ z) (one mark is));
  line_is = refl;
  seen_is = refl;
}
  where
    one : (o : Option Mark) → mark_of (h.rest ++ c ∷ []) ≡ o → filter_map mark_of ((h.rest ++ c ∷ []) ∷ []) ≡ option_to_list o
    one None e = ap (λ o. filter_map (λ _. o) ((h.rest ++ c ∷ []) ∷ [])) e
    one (Some m) e = ap (λ o. filter_map (λ _. o) ((h.rest ++ c ∷ []) ∷ [])) e

-- the next character completes nothing
goes_on : (e : MarkReader) (x : List ℕ) (c : ℕ) (marks : List Mark) → (h : ReaderStandsFor e x marks) → c ≢ lf → (Ends (h.rest ++ c ∷ []) → ⊥)
    → ReaderStandsFor (record { line = push_within 4 e.line c; seen = seen_by e.seen c }) (x ++ c ∷ []) (marks ++ [])
goes_on e x c marks h n open_ = record {
  pieces = h.pieces;
  rest = h.rest ++ c ∷ [];
  cuts = subst (λ z. Cuts h.pieces (h.rest ++ c ∷ []) z) (sym (with_char x c n)) (cuts_more h.pieces h.rest (without_lf x) c h.cuts open_);
  marks_are = append-nil marks ∙ h.marks_are;
  line_is = ap (λ l. push_within 4 l c) h.line_is ∙ take_push 4 h.rest c;
  seen_is = ap (λ s. seen_by s c) h.seen_is ∙ sym (seen_push Nothing h.rest c);
}

pub stands_on : (e : MarkReader) (x : List ℕ) (c : ℕ) (marks : List Mark) → ReaderStandsFor e x marks → ReaderStandsFor (reader_step e c).ear (x ++ c ∷ []) (marks ++ option_to_list (reader_step e c).mark)
stands_on e x c marks h =
    let P : ReaderStepped → Type 0 = λ z. ReaderStandsFor z.ear (x ++ c ∷ []) (marks ++ option_to_list z.mark) in
    by_test P c lf _ _
    (λ p. record { pieces = h.pieces; rest = h.rest; cuts = subst (λ z. Cuts h.pieces h.rest z) (sym (no_lf x c p)) h.cuts; marks_are = append-nil marks ∙ h.marks_are; line_is = h.line_is; seen_is = h.seen_is })
    (λ n. by_test P c cr _ _
    (λ p. completes e x c marks (line_mark e.line) h n (h.rest, inl (ap (λ k. h.rest ++ k ∷ []) p)) (ap (λ k. mark_of (h.rest ++ k ∷ [])) p ∙ line_mark_is h.rest ∙ ap line_mark (sym h.line_is)))
    (λ m. by_prompt (c == 61) refl (saw_id e.seen) refl n m))
  where
    by_prompt : (b : Bool) → (c == 61) ≡ b → (d : Bool) → saw_id e.seen ≡ d → c ≢ lf → c ≢ cr
        → (let z : ReaderStepped = cond (b && d) (record { ear = fresh; mark = Some Id }) (record { ear = record { line = push_within 4 e.line c; seen = seen_by e.seen c }; mark = None }) in
        ReaderStandsFor z.ear (x ++ c ∷ []) (marks ++ option_to_list z.mark))
    by_prompt true f true g n m =
        let q : c ≡ 61 = grind (arith, nat_tests) in
        let k = ends_id h.rest (ap saw_id (sym h.seen_is) ∙ g) in
        let w : h.rest ++ c ∷ [] ≡ k.0 ++ prompt = ap (λ d. h.rest ++ d ∷ []) q ∙ ap (λ z. z ++ 61 ∷ []) k.1 ∙ append_assoc k.0 (codes "ID") (61 ∷ []) in
        completes e x c marks (Some Id) h n (k.0, inr w) (ap mark_of w ∙ id_mark k.0)
    by_prompt true f false g n m = goes_on e x c marks h n (λ ends. elim (ends_push h.rest c ends) [
      | inl p ↦ m p
      | inr p ↦ (let s = ap saw_id (h.seen_is ∙ ap (seen_from Nothing) p.1.1 ∙ seen_id Nothing p.1.0) in absurd cc)
    ])
    by_prompt false f d g n m = goes_on e x c marks h n (λ ends. elim (ends_push h.rest c ends) [
      | inl p ↦ m p
      | inr p ↦ (let s : (c == 61) ≡ true = equal c 61 p.0 in absurd cc)
    ])

pub stands_nil : ReaderStandsFor fresh [] []
stands_nil = record { pieces = []; rest = []; cuts = record { form = refl; each = tt; is_open = nil_open }; marks_are = refl; line_is = refl; seen_is = refl }
