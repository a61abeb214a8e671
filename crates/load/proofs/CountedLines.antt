-- The lines of a group's pages are counted, over a further front of a word.
use Rattle.std.proofs.Common.{◌≡◌, ℕ, ◌+◌, Bool, List, [], ◌++◌, length, map, sum, Option, Some, None, IfSome, IsSome, append-nil, append_assoc, length-append, refl, subst, ap, ap₂, sym, ◌∙◌}
use Rattle.std.proofs.lemmas.Grind.{flat_map-append}
use Rattle.std.proofs.lemmas.List.{map-append}
use Rattle.std.proofs.lemmas.List.Sums.{sum_by-append}
use Rattle.listening.specs.PageLines.{page_line, page_lines}
use Rattle.page_text.specs.Line.{line_of}
use Rattle.page_text.specs.Texts.{text_of}
use Rattle.receiver.specs.Heard.{HeardPage, heard, with_text}
use Rattle.receiver.specs.Listeners.{Listener, StandsFor, is_one_of, ready_answer, ready_pages}
use Rattle.receiver.specs.declared.ready.Ready.{Ready}
use Rattle.load.specs.Counting.{HasLines, lines_of_pages, pages_of_group, ready_line}

-- of a word this piece is left
abbrev pub LinesOn : Listener → ℕ → ℕ → ℕ → Listener → ℕ → ℕ → ℕ → List Bool → List Bool → Type 0
LinesOn first n b s now count bytes total word piece =
    (bits : List Bool) → HasLines first n b s bits → (taken : List Bool) × (word ≡ taken ++ piece) × HasLines now count bytes total (bits ++ taken)

lines-append : (old new : List HeardPage) → lines_of_pages (old ++ new) ≡ lines_of_pages old ++ lines_of_pages new
lines-append old new = ap page_lines (map-append with_text old new) ∙ flat_map-append page_line (map with_text old) (map with_text new)

module _ (old new : Listener) (bits t : List Bool) (count bytes total n b s count' bytes' total' : ℕ) where
  -- some bits more, with what they complete
  lines_further : HasLines old count bytes total bits → new.capcodes ≡ old.capcodes → StandsFor new (bits ++ t)
      → heard (is_one_of old.capcodes) (bits ++ t) ≡ heard (is_one_of old.capcodes) bits ++ ready_pages new.ready
      → n ≡ length (ready_pages new.ready) → b ≡ length (ready_line new.ready) → s ≡ sum (ready_line new.ready)
      → count' ≡ count + n → bytes' ≡ bytes + b → total' ≡ total + s
      → HasLines new count' bytes' total' (bits ++ t)
  lines_further h capcodes stands page pages line values more_count more_bytes more_total =
      let was = heard (is_one_of old.capcodes) bits in
      let is : pages_of_group new (bits ++ t) ≡ was ++ ready_pages new.ready = ap (λ (cs : List ℕ). heard (is_one_of cs) (bits ++ t)) capcodes ∙ page in
      let lines : lines_of_pages (pages_of_group new (bits ++ t)) ≡ lines_of_pages was ++ ready_line new.ready = ap lines_of_pages is ∙ lines-append was (ready_pages new.ready) in
      record {
        stands = stands;
        count_is = more_count ∙ ap₂ (λ (x y : ℕ). x + y) h.count_is pages ∙ sym (length-append was (ready_pages new.ready)) ∙ sym (ap length is);
        bytes_is = more_bytes ∙ ap₂ (λ (x y : ℕ). x + y) h.bytes_is line ∙ sym (length-append (lines_of_pages was) (ready_line new.ready)) ∙ sym (ap length lines);
        sum_is = more_total ∙ ap₂ (λ (x y : ℕ). x + y) h.sum_is values ∙ sym (sum_by-append (λ x. x) (lines_of_pages was) (ready_line new.ready)) ∙ sym (ap sum lines);
      }

module _ (first : Listener) (n0 b0 s0 : ℕ) (word : List Bool) (old new : Listener) (piece rest t : List Bool) where
  pub lines-more : (count bytes total n b s count' bytes' total' : ℕ) → LinesOn first n0 b0 s0 old count bytes total word piece → new.capcodes ≡ old.capcodes → piece ≡ t ++ rest
      → ((bits : List Bool) → StandsFor old bits → StandsFor new (bits ++ t))
      → ((bits : List Bool) → StandsFor old bits → heard (is_one_of old.capcodes) (bits ++ t) ≡ heard (is_one_of old.capcodes) bits ++ ready_pages new.ready)
      → n ≡ length (ready_pages new.ready) → b ≡ length (ready_line new.ready) → s ≡ sum (ready_line new.ready)
      → count' ≡ count + n → bytes' ≡ bytes + b → total' ≡ total + s
      → LinesOn first n0 b0 s0 new count' bytes' total' word rest
  lines-more count bytes total n b s count' bytes' total' so_far capcodes whole stands page pages line values more_count more_bytes more_total = λ bits h.
      let (taken, is, lines) = so_far bits h in (
        taken ++ t,
        is ∙ ap (λ l. taken ++ l) whole ∙ sym (append_assoc taken t rest),
        subst (HasLines new count' bytes' total') (append_assoc bits taken t)
            (lines_further old new (bits ++ taken) t count bytes total n b s count' bytes' total' lines capcodes (stands (bits ++ taken) lines.stands) (page (bits ++ taken) lines.stands)
            pages line values more_count more_bytes more_total),
      )

pub lines-none : (group : Listener) (n b s : ℕ) (word : List Bool) → LinesOn group n b s group n b s word word
lines-none group n b s word = λ bits h. ([], refl, subst (HasLines group n b s) (sym (append-nil bits)) h)

pub lines-all : (first : Listener) (n b s : ℕ) (now : Listener) (count bytes total : ℕ) (word piece : List Bool) → LinesOn first n b s now count bytes total word piece → piece ≡ []
    → (bits : List Bool) → HasLines first n b s bits → HasLines now count bytes total (bits ++ word)
lines-all first n b s now count bytes total word piece so_far end = λ bits h.
    let (taken, is, lines) = so_far bits h in
    subst (λ l. HasLines now count bytes total (bits ++ l)) (sym (is ∙ ap (λ l. taken ++ l) end ∙ append-nil taken)) lines

-- where a page is complete, its line
pub some_line : (r : Option HeardPage) (page : Ready) (text : List ℕ) → Some page ≡ ready_answer r → IfSome r (λ p. text ≡ text_of p.function p.groups)
    → line_of page.capcode page.function text ≡ ready_line r
some_line None page text h k = absurd (cc)
some_line (Some p) page text h k =
    let same : page ≡ record { capcode = p.capcode; function = p.function } = cc in
    ap (λ (q : Ready). line_of q.capcode q.function text) same
    ∙ ap (line_of p.capcode p.function) k
    ∙ sym (append-nil (line_of p.capcode p.function (text_of p.function p.groups)))

-- a page is complete
pub is_ready : (r : Option HeardPage) (page : Ready) → Some page ≡ ready_answer r → IsSome r
is_ready None page h = absurd (cc)
is_ready (Some p) page h = refl

-- one page, where one is complete
pub one_ready : (r : Option HeardPage) (page : Ready) → Some page ≡ ready_answer r → 1 ≡ length (ready_pages r)
one_ready None page h = absurd (cc)
one_ready (Some p) page h = refl

-- none, and no line, where none is
pub none_ready : (r : Option HeardPage) → ◌≡◌ {A = Option Ready} None (ready_answer r) → (0 ≡ length (ready_pages r)) × (0 ≡ length (ready_line r)) × (0 ≡ sum (ready_line r))
none_ready None h = (refl, refl, refl)
none_ready (Some p) h = absurd (cc)
