-- A step on what is held reads on by one character.
use Rattle.std.proofs.Common.{◌≡◌, ◌≢◌, ℕ, ◌+◌, ◌%◌, ◌==◌, cond, Bool, true, false, not, List, [], ◌∷◌, ◌++◌, length, take, refl, ap, sym, ◌∙◌, subst, append_assoc, append-nil, arith, Option, Some, None, inl, inr, length-append}
use Rattle.std.specs.Option.{option_to_list, option_map}
use Rattle.std.proofs.lemmas.Bool.Decides.{eqb_tells}
use Rattle.std.proofs.lemmas.List.Elements.{filter-append, filter_map-append}
use Rattle.tap_block.specs.declared.ends.End.{End}
use Rattle.tap_block.specs.declared.ends.End.TheVariants.{Etx, Etb, Us}
use Rattle.entry_line.specs.Chars.{lf, cr}
use Rattle.tap_block.specs.Chars.{stx, etx, eot, etb, us, end_char}
use Rattle.tap_block.specs.Reading.{Mode, BeforeLogon, AfterLogon, InputPiece, line, skipped, lone_eot, bye, dropped, block, piece_text, IsBody, IsTrailer, Reads, mode_at, mode_by, items_of, item_of, Entry, empty_line, logon, wrong_line, a_block, a_bye, line_item, without_lf, is_right, is_logon}
use Rattle.tap_block.specs.Brief.{Brief, in_line, between, after_eot, in_body, in_trailer, ScannerState, IsTrailerFront, InBody, InTrailer, IsBrief, ScannerStandsFor, answer_of, BodyIs, ReadsOn}
use Rattle.entry_line.specs.Kept.{push_within}
use Rattle.tap_block.specs.Step.{ScannerStepped, silent, brief_by, begin_item, end_body, more_body, is_whole, end_block, step_by, scanner_step}
use Rattle.tap_block.proofs.Fronts.{kept_push, line_short, sum_push}
use Rattle.entry_line.proofs.Bounds.{take_push}
use Rattle.tap_block.proofs.OneReading.{goes_on, mode_at-append}
use Rattle.tap_block.proofs.First.{first_piece, trailer_cut, body_cut, no_piece, not_equal, equal, body_skipped, by_test, line_none, all_push}

-- the beginning of a trailer is no trailer
trailer_none : (t : List ℕ) → IsTrailerFront t → trailer_cut t ≡ None
trailer_none [] h = refl
trailer_none (a ∷ []) h = rw (not_equal a cr h.0.0) refl
trailer_none (a ∷ b ∷ []) h = rw (not_equal a cr h.0.0, not_equal b cr h.0.1.0) refl
trailer_none (a ∷ b ∷ c ∷ []) h = rw (not_equal a cr h.0.0, not_equal b cr h.0.1.0, not_equal c cr h.0.1.1.0) refl
trailer_none (a ∷ b ∷ c ∷ d ∷ t) h = absurd (omega (arith, h.1))

-- a body without its end is no piece
body_none : (b : List ℕ) → IsBody b → body_cut [] b ≡ None
body_none b h = sym (ap (body_cut []) (append-nil b)) ∙ body_skipped [] b [] h

-- nor is one without a whole trailer
end_none : (b t : List ℕ) (e : End) → IsTrailerFront t → body_cut b (end_char e ∷ t) ≡ None
end_none b t Etx h = rw (trailer_none t h) refl
end_none b t Etb h = rw (trailer_none t h) refl
end_none b t Us h = rw (trailer_none t h) refl

-- no form of a rest has a piece at its front
pub brief_none : (mode : Mode) (r kept : List ℕ) (brief : Brief) → IsBrief mode r kept brief → first_piece mode r ≡ None
brief_none BeforeLogon r kept (in_line l) h = rw (line_none r h.1) refl
brief_none AfterLogon r kept between h = ap (first_piece AfterLogon) h
brief_none AfterLogon r kept after_eot h = ap (first_piece AfterLogon) h
brief_none AfterLogon r kept (in_body size total) h = ap (first_piece AfterLogon) h.1.form ∙ body_none h.0 h.1.body
brief_none AfterLogon r kept (in_trailer size total e t) h = ap (first_piece AfterLogon) h.1.form ∙ body_skipped [] h.0 (end_char e ∷ t) h.1.body ∙ end_none h.0 t e h.1.trailer
brief_none AfterLogon r kept (in_line l) h = elim h [ ]
brief_none BeforeLogon r kept between h = elim h [ ]
brief_none BeforeLogon r kept after_eot h = elim h [ ]
brief_none BeforeLogon r kept (in_body size total) h = elim h [ ]
brief_none BeforeLogon r kept (in_trailer size total e t) h = elim h [ ]

-- nor has the empty list
none_nil : (mode : Mode) → first_piece mode [] ≡ None
none_nil BeforeLogon = refl
none_nil AfterLogon = refl

-- what is read with one character more, from the rest before it
pub record Grown (password : Option (List ℕ)) (mode : Mode) (y : List ℕ) (stepped : ScannerStepped) : Type 0 where
  pub new : List InputPiece
  pub rest : List ℕ
  pub further : Option Entry
  pub reads : Reads password mode new rest y
  pub brief_is : IsBrief (mode_at password mode new) rest stepped.held.kept stepped.held.brief
  pub items_are : items_of password new ≡ option_to_list further
  pub answer_is : stepped.answer ≡ option_map answer_of further
  pub body_is : BodyIs further stepped.held.kept
  pub password_is : stepped.held.password ≡ password

-- no further piece
quiet : (mode : Mode) (y : List ℕ) (s : ScannerState) → IsBrief mode y s.kept s.brief → Grown s.password mode y (silent s)
quiet mode y s h = record {
  new = [];
  rest = y;
  further = None;
  reads = (refl, no_piece mode y (brief_none mode y s.kept s.brief h));
  brief_is = h;
  items_are = refl;
  answer_is = refl;
  body_is = tt;
  password_is = refl;
}

-- the step between items
begun : (s : ScannerState) (c : ℕ) → Grown s.password AfterLogon (c ∷ []) (silent (begin_item s c))
begun s c =
    by_test (λ h. Grown s.password AfterLogon (c ∷ []) (silent h)) c stx _ _
    (λ e. quiet AfterLogon (c ∷ []) (record s { kept = []; brief = in_body 0 2 })
    ([], record { form = ap (λ z. z ∷ []) e; body = tt; front = (refl, refl); so_far = refl }))
    (λ n. by_test (λ b. Grown s.password AfterLogon (c ∷ []) (silent (record s { brief = b }))) c eot _ _
    (λ e. quiet AfterLogon (c ∷ []) (record s { brief = after_eot }) (ap (λ z. z ∷ []) e))
    (λ m. record {
      new = skipped c ∷ [];
      rest = [];
      further = None;
      reads = ([], refl, (n, m), (refl, no_piece AfterLogon [] refl));
      brief_is = refl;
      items_are = refl;
      answer_is = refl;
      body_is = tt;
      password_is = refl;
    }))

-- a whole trailer
whole_cr : (t : List ℕ) (c : ℕ) → IsTrailerFront t → c ≡ cr → IsTrailer (t ++ c ∷ [])
whole_cr [] c h e = e
whole_cr (a ∷ []) c h e = (h.0.0, e)
whole_cr (a ∷ b ∷ []) c h e = (h.0.0, h.0.1.0, e)
whole_cr (a ∷ b ∷ d ∷ []) c h e = (h.0.0, h.0.1.0, h.0.1.1.0)
whole_cr (a ∷ b ∷ d ∷ f ∷ t) c h e = absurd (omega (arith, h.1))

-- a fourth character makes a trailer whole
whole_four : (t : List ℕ) (c : ℕ) → IsTrailerFront t → length t ≡ 3 → IsTrailer (t ++ c ∷ [])
whole_four [] c h e = absurd (omega (arith, e))
whole_four (a ∷ []) c h e = absurd (omega (arith, e))
whole_four (a ∷ b ∷ []) c h e = absurd (omega (arith, e))
whole_four (a ∷ b ∷ d ∷ []) c h e = (h.0.0, h.0.1.0, h.0.1.1.0)
whole_four (a ∷ b ∷ d ∷ f ∷ t) c h e = absurd (omega (arith, h.1))

-- the step in a trailer
block_ends : (s : ScannerState) (rest b : List ℕ) (size total c : ℕ) (e : End) (t : List ℕ) → InTrailer rest s.kept size total e t b → IsTrailer (t ++ c ∷ [])
    → Grown s.password AfterLogon (rest ++ c ∷ []) (end_block s size total e (t ++ c ∷ []))
block_ends s rest b size total c e t h w = record {
  new = block b e (t ++ c ∷ []) ∷ [];
  rest = [];
  further = Some (a_block b e (is_right b e (t ++ c ∷ [])));
  reads = ([], ends, (h.body, w), (refl, no_piece AfterLogon [] refl));
  brief_is = refl;
  items_are = refl;
  answer_is = rw (h.front.1, h.so_far) refl;
  body_is = h.front.0;
  password_is = refl;
} where
  ends : rest ++ c ∷ [] ≡ piece_text (block b e (t ++ c ∷ [])) ++ []
  ends = ap (λ z. z ++ c ∷ []) h.form ∙ append_assoc (stx ∷ b) (end_char e ∷ t) (c ∷ []) ∙ sym (append-nil _)

-- any step in a trailer
trailer_step : (s : ScannerState) (rest b : List ℕ) (size total c : ℕ) (e : End) (t : List ℕ) → InTrailer rest s.kept size total e t b
    → Grown s.password AfterLogon (rest ++ c ∷ []) (step_by s (in_trailer size total e t) c)
trailer_step s rest b size total c e t h =
    elim (eqb_tells c cr) [
      | inl p ↦ rw p.0 (block_ends s rest b size total c e t h (whole_cr t c h.trailer p.1))
      | inr p ↦ rw p.0 (by_test (λ (b : ScannerStepped). Grown s.password AfterLogon (rest ++ c ∷ []) b) (length t) 3 _ _
          (λ q. block_ends s rest b size total c e t h (whole_four t c h.trailer q))
          (λ q. quiet AfterLogon (rest ++ c ∷ []) (record s { brief = in_trailer size total e (t ++ c ∷ []) }) (
            b,
            record {
              form = ap (λ z. z ++ c ∷ []) h.form ∙ append_assoc (stx ∷ b) (end_char e ∷ t) (c ∷ []);
              body = h.body;
              trailer = (all_push _ t c h.trailer.0 p.1, (let k = h.trailer.1 in simp length-append (omega arith)));
              front = h.front;
              so_far = h.so_far;
            },
          )))
    ]

-- the step in a body
body_step : (s : ScannerState) (rest b : List ℕ) (size total c : ℕ) → InBody rest s.kept size total b
    → Grown s.password AfterLogon (rest ++ c ∷ []) (step_by s (in_body size total) c)
body_step s rest b size total c h =
    let P : ScannerStepped → Type 0 = λ z. Grown s.password AfterLogon (rest ++ c ∷ []) z in
    by_test P c stx _ _ (λ e. cut_off e)
    (λ n2. by_test P c etx _ _ (λ e. ended Etx e)
    (λ n3. by_test P c etb _ _ (λ e. ended Etb e)
    (λ n23. by_test P c us _ _ (λ e. ended Us e)
    (λ n31. quiet AfterLogon (rest ++ c ∷ []) (more_body s size total c) (
      b ++ c ∷ [],
      record {
        form = ap (λ z. z ++ c ∷ []) h.form;
        body = all_push _ b c h.body (n2, n3, n23, n31);
        front = kept_push s.kept size b c h.front;
        so_far = ap (λ k. (k + c) % 4096) h.so_far ∙ sum_push (stx ∷ b) c;
      },
    )))))
  where
    ended : (e : End) → c ≡ end_char e → Grown s.password AfterLogon (rest ++ c ∷ []) (silent (end_body s size total e))
    ended e p = quiet AfterLogon (rest ++ c ∷ []) (end_body s size total e) (
      b,
      record {
        form = ap (λ z. z ++ c ∷ []) h.form ∙ ap (λ k. (stx ∷ b) ++ k ∷ []) p;
        body = h.body;
        trailer = (tt, omega arith);
        front = h.front;
        so_far = ap (λ k. (k + end_char e) % 4096) h.so_far ∙ sum_push (stx ∷ b) (end_char e);
      },
    )

    cut_off : c ≡ stx → Grown s.password AfterLogon (rest ++ c ∷ []) (silent (begin_item s c))
    cut_off p =
        let g = begun s c in record {
          new = dropped b ∷ g.new;
          rest = g.rest;
          further = g.further;
          reads = (c ∷ [], ap (λ z. z ++ c ∷ []) h.form, (h.body, p), g.reads);
          brief_is = g.brief_is;
          items_are = g.items_are;
          answer_is = g.answer_is;
          body_is = g.body_is;
          password_is = g.password_is;
        }

-- the step behind an EOT
eot_step : (s : ScannerState) (rest : List ℕ) (c : ℕ) → rest ≡ eot ∷ [] → Grown s.password AfterLogon (rest ++ c ∷ []) (step_by s after_eot c)
eot_step s rest c h = rw h (by_test (λ z. Grown s.password AfterLogon (eot ∷ c ∷ []) z) c cr _ _
    (λ p. record {
      new = bye ∷ [];
      rest = [];
      further = Some a_bye;
      reads = ([], ap (λ k. eot ∷ k ∷ []) p, tt, (refl, no_piece AfterLogon [] refl));
      brief_is = refl;
      items_are = refl;
      answer_is = refl;
      body_is = tt;
      password_is = refl;
    })
    (λ n. let g = begun s c in record {
      new = lone_eot ∷ g.new;
      rest = g.rest;
      further = g.further;
      reads = (c ∷ [], refl, n, g.reads);
      brief_is = g.brief_is;
      items_are = g.items_are;
      answer_is = g.answer_is;
      body_is = g.body_is;
      password_is = g.password_is;
    }))

-- the mode that an item leaves, and its brief
begin_mode : (e : Entry) (kept : List ℕ) → IsBrief (mode_by e BeforeLogon) [] kept (brief_by e)
begin_mode empty_line kept = (refl, tt)
begin_mode logon kept = refl
begin_mode wrong_line kept = (refl, tt)
begin_mode (a_block b e right) kept = (refl, tt)
begin_mode a_bye kept = (refl, tt)

-- of a line no body is lent
line_no_body : (password : Option (List ℕ)) (l kept : List ℕ) → BodyIs (Some (line_item password l)) kept
line_no_body password [] kept = tt
line_no_body password (c ∷ l) kept = no_body (is_logon password (c ∷ l))
  where
    no_body : (b : Bool) → BodyIs (Some (cond b logon wrong_line)) kept
    no_body true = tt
    no_body false = tt

-- the step in a line
line_step : (s : ScannerState) (rest l : List ℕ) (c : ℕ) → IsBrief BeforeLogon rest s.kept (in_line l)
    → Grown s.password BeforeLogon (rest ++ c ∷ []) (step_by s (in_line l) c)
line_step s rest l c h =
    let P : ScannerStepped → Type 0 = λ z. Grown s.password BeforeLogon (rest ++ c ∷ []) z in
    by_test P c cr _ _ (λ p. ends p)
    (λ n. by_test (λ (z : ScannerState). Grown s.password BeforeLogon (rest ++ c ∷ []) (silent z)) c lf _ _
    (λ p. quiet BeforeLogon (rest ++ c ∷ []) (record s { brief = in_line l }) (h.0 ∙ ap (take 11) (sym (no_lf p)), all_push _ rest c h.1 n))
    (λ m. quiet BeforeLogon (rest ++ c ∷ []) (record s { brief = in_line (push_within 11 l c) }) (rw h.0 (take_push 11 (without_lf rest) c ∙ ap (take 11) (sym (with_char m))), all_push _ rest c h.1 n)))
  where
    no_lf : c ≡ lf → without_lf (rest ++ c ∷ []) ≡ without_lf rest
    no_lf p = filter-append (λ c. not (c == lf)) rest (c ∷ []) ∙ ap (λ z. without_lf rest ++ z) (rw (equal c lf p) refl) ∙ append-nil (without_lf rest)

    with_char : c ≢ lf → without_lf (rest ++ c ∷ []) ≡ without_lf rest ++ c ∷ []
    with_char n = filter-append (λ c. not (c == lf)) rest (c ∷ []) ∙ ap (λ z. without_lf rest ++ z) (rw (not_equal c lf n) refl)

    same_item : line_item s.password l ≡ line_item s.password (without_lf rest)
    same_item = ap (line_item s.password) h.0 ∙ sym (line_short s.password (without_lf rest))

    ends : c ≡ cr → Grown s.password BeforeLogon (rest ++ c ∷ []) (record { held = record s { brief = brief_by (line_item s.password l) }; answer = Some (answer_of (line_item s.password l)) })
    ends p = record {
      new = line rest ∷ [];
      rest = [];
      further = Some (line_item s.password (without_lf rest));
      reads = ([], ap (λ k. rest ++ k ∷ []) p ∙ sym (append-nil _), h.1, (refl, no_piece _ [] (none_nil _)));
      brief_is = rw same_item (begin_mode (line_item s.password (without_lf rest)) s.kept);
      items_are = refl;
      answer_is = ap (λ e. Some (answer_of e)) same_item;
      body_is = line_no_body s.password (without_lf rest) s.kept;
      password_is = refl;
    }

-- the step in any place
pub grows : (s : ScannerState) (mode : Mode) (rest : List ℕ) (brief : Brief) (c : ℕ) → IsBrief mode rest s.kept brief
    → Grown s.password mode (rest ++ c ∷ []) (step_by s brief c)
grows s BeforeLogon rest (in_line l) c h = line_step s rest l c h
grows s AfterLogon rest between c h = rw h (begun s c)
grows s AfterLogon rest after_eot c h = eot_step s rest c h
grows s AfterLogon rest (in_body size total) c h = body_step s rest h.0 size total c h.1
grows s AfterLogon rest (in_trailer size total e t) c h = trailer_step s rest h.0 size total c e t h.1
grows s AfterLogon rest (in_line l) c h = elim h [ ]
grows s BeforeLogon rest between c h = elim h [ ]
grows s BeforeLogon rest after_eot c h = elim h [ ]
grows s BeforeLogon rest (in_body size total) c h = elim h [ ]
grows s BeforeLogon rest (in_trailer size total e t) c h = elim h [ ]

-- a scanner with that password stands for what is read by it
pub stands_by : (from : Mode) (t : ScannerState) (password : Option (List ℕ)) (pieces : List InputPiece) (rest x : List ℕ) (items : List Entry)
    → t.password ≡ password → Reads password from pieces rest x → items ≡ items_of password pieces
    → IsBrief (mode_at password from pieces) rest t.kept t.brief → ScannerStandsFor from t x items
stands_by from t password pieces rest x items e reads items_are brief_is = record {
  pieces = pieces;
  rest = rest;
  reads = subst (λ w. Reads w from pieces rest x) (sym e) reads;
  items_are = subst (λ w. items ≡ items_of w pieces) (sym e) items_are;
  brief_is = subst (λ w. IsBrief (mode_at w from pieces) rest t.kept t.brief) (sym e) brief_is;
}

-- what stands for x stands for one character more after a step
pub stands_on : (from : Mode) (s : ScannerState) (x : List ℕ) (items : List Entry) (c : ℕ) → ScannerStandsFor from s x items
    → ReadsOn from (scanner_step s c).held x items c (scanner_step s c).answer
stands_on from s x items c h =
    let g = grows s (mode_at s.password from h.pieces) h.rest s.brief c h.brief_is in
    record {
      further = g.further;
      stands = stands_by from (scanner_step s c).held s.password (h.pieces ++ g.new) g.rest (x ++ c ∷ []) (items ++ option_to_list g.further)
          g.password_is (goes_on s.password from h.pieces g.new h.rest g.rest x (c ∷ []) h.reads g.reads)
          (joined h.pieces g.new (option_to_list g.further) h.items_are g.items_are)
          (subst (λ m. IsBrief m g.rest (scanner_step s c).held.kept (scanner_step s c).held.brief) (sym (mode_at-append s.password from h.pieces g.new)) g.brief_is);
      answer_is = g.answer_is;
      body_is = g.body_is;
    }
  where
    joined : (ps new : List InputPiece) (more : List Entry) → items ≡ items_of s.password ps → items_of s.password new ≡ more → items ++ more ≡ items_of s.password (ps ++ new)
    joined ps new more e f = rw (filter_map-append (item_of s.password) ps new) (rw (e, f) refl)

-- the password is the same after a step
abbrev Same : ScannerState → ScannerStepped → Type 0
Same s z = z.held.password ≡ s.password

-- a step keeps the password
pub step-password : (s : ScannerState) (c : ℕ) → (scanner_step s c).held.password ≡ s.password
step-password s c = kept_by s.brief
  where
    begins : Same s (silent (begin_item s c))
    begins = by_test (λ (z : ScannerState). z.password ≡ s.password) c stx _ _ (λ _. refl) (λ _. refl)

    kept_by : (brief : Brief) → Same s (step_by s brief c)
    kept_by (in_line l) = by_test (Same s) c cr _ _ (λ _. refl) (λ _. by_test (λ (z : ScannerState). z.password ≡ s.password) c lf _ _ (λ _. refl) (λ _. refl))
    kept_by between = begins
    kept_by after_eot = by_test (Same s) c cr _ _ (λ _. refl) (λ _. begins)
    kept_by (in_body size total) = by_test (Same s) c stx _ _ (λ _. begins) (λ _. by_test (Same s) c etx _ _ (λ _. refl) (λ _. by_test (Same s) c etb _ _ (λ _. refl) (λ _. by_test (Same s) c us _ _ (λ _. refl) (λ _. refl))))
    kept_by (in_trailer size total e t) = elim (is_whole t c) as (λ b. Same s (cond b (end_block s size total e (t ++ c ∷ [])) (silent (record s { brief = in_trailer size total e (t ++ c ∷ []) })))) [ true ↦ refl | false ↦ refl ]

-- nothing read yet
pub stands_nil : (from : Mode) (s : ScannerState) → IsBrief from [] s.kept s.brief → ScannerStandsFor from s [] []
stands_nil from s h = record {
  pieces = [];
  rest = [];
  reads = (refl, no_piece from [] (none_nil from));
  items_are = refl;
  brief_is = h;
}
