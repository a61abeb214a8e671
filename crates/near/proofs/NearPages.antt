-- The pages of what the slots of a schedule say at clean places.
use Rattle.std.proofs.Common.{◌≡◌, ℕ, zero, suc, ◌+◌, ◌*◌, ◌<◌, nat_le, Bool, true, false, ◌&&◌, cond, List, [], ◌∷◌, ◌++◌, length, map, Option, Some, None, arith, refl, sym, ◌∙◌, ap, ap₂, subst, inl, inr, append-nil, le-leb}
use Rattle.std.specs.List.{filter, All}
use Rattle.std.proofs.lemmas.Bool.{cases_Bool, and_left, both_ways}
use Rattle.std.proofs.lemmas.List.{map-append, length-map}
use Rattle.std.proofs.lemmas.List.Elements.{All-head, All-tail}
use Rattle.std.proofs.lemmas.List.Sorted.{All-permutation}
use Rattle.bch31.specs.Codeword.{IsCodeword}
use Rattle.codeword.specs.declared.functions.Function.{Function}
use Rattle.codeword.specs.declared.functions.Function.TheVariants.{Numeric}
use Rattle.codeword.specs.declared.kinds.WordKind.{WordKind}
use Rattle.codeword.specs.declared.kinds.WordKind.TheVariants.{Address, Message}
use Rattle.codeword.specs.Capcodes.{capcode_at, frame_at, high_of, idle_high}
use Rattle.codeword.specs.Kinds.{kind_of}
use Rattle.codeword.specs.Words.{message_of}
use Rattle.page_text.specs.declared.limits.TheConstants.{MOST_GROUPS}
use Rattle.page_text.specs.Groups.{groups}
use Rattle.page_text.specs.Page.{Page, IsAcceptable}
use Rattle.page_text.proofs.Back.{length-groups, text_of-groups}
use Rattle.scheduler.specs.Slots.{PlanPiece, Idle, Run, run, words, pages_in_order, place, frame, in_frame, IsSchedule}
use Rattle.scheduler.proofs.Pieces.{place-append}
use Rattle.scheduler.proofs.Unique.{shift}
use Rattle.receiver.specs.Heard.{HeardPage, with_text, groups_with, page_if, page_with, groups_to_address, pages_from}
use Rattle.near.specs.Clean.{all_clean, run_is_clean}
use Rattle.near.specs.NearAir.{AreUsable}
use Rattle.near.proofs.NearWords.{AreHeard}
use Rattle.near.proofs.NearKinds.{said, kinds_of, kinds-words, codewords-words, said_where, heard_kinds}

-- ---- pieces that are placed

-- each run starts in the frame of its page
unfoldable pub ArePlaced : ℕ → List PlanPiece → Type 0
ArePlaced start [] = Unit {0}
ArePlaced start (Idle ∷ rest) = ArePlaced (suc start) rest
ArePlaced start (Run page ∷ rest) = (frame_at start ≡ frame page) × ArePlaced (suc start + length (groups page.function page.text)) rest

-- the same for all runs behind the first pieces
abbrev IsWholeFrom : List PlanPiece → List PlanPiece → Type 0
IsWholeFrom front rest = (before : List PlanPiece) (page : Page) (after : List PlanPiece) → front ++ rest ≡ before ++ Run page ∷ after → frame_at (place before) ≡ frame page

whole-later : (front : List PlanPiece) (x : PlanPiece) (rest : List PlanPiece) → IsWholeFrom front (x ∷ rest) → IsWholeFrom (front ++ x ∷ []) rest
whole-later front x rest h before page after e = h before page after (shift front x rest ∙ e)

pub placed : (front rest : List PlanPiece) (start : ℕ) → start ≡ place front → IsWholeFrom front rest → ArePlaced start rest
unfolding ArePlaced run
placed front [] start e h = tt
placed front (Idle ∷ rest) start e h =
    let p = place-append front (Idle ∷ []) in
    placed (front ++ Idle ∷ []) rest (suc start) (omega (arith, p, e)) (whole-later front Idle rest h)
placed front (Run page ∷ rest) start e h =
    let p = place-append front (Run page ∷ []) in
    let r : place (Run page ∷ []) ≡ suc (length (groups page.function page.text)) =
    ap length (append-nil (run page)) ∙ ap suc (length-map (groups page.function page.text) message_of) in (
      ap frame_at e ∙ h front page rest refl,
      placed (front ++ Run page ∷ []) rest (suc start + length (groups page.function page.text)) (omega (arith, p, r, e)) (whole-later front (Run page) rest h),
    )

-- ---- what is said at clean places

-- the page of a run that is clean with the word after it, in front of others
abbrev pub kept_run : Bool → Page → List Page → List Page
kept_run true page rest = page ∷ rest
kept_run false page rest = rest

-- the pages of the runs that are clean with the word after them, in the order of the runs
unfoldable pub kept_runs : (ℕ → Bool) → ℕ → List PlanPiece → List Page
kept_runs test p [] = []
kept_runs test p (Idle ∷ rest) = kept_runs test (suc p) rest
kept_runs test p (Run page ∷ rest) = kept_run (run_is_clean test p page) page (kept_runs test (p + length (run page)) rest)

address_first : (t : Bool) (high : ℕ) (f : Function) (o : Option (List ℕ)) → groups_with (cond t (Some (Address high f)) None) o ≡ cond t (Some []) None
address_first true high f o = refl
address_first false high f o = refl

message_first : (t c : Bool) (g : ℕ) (gs : List ℕ) → groups_with (cond t (Some (Message g)) None) (cond c (Some gs) None) ≡ cond (t && c) (Some (g ∷ gs)) None
message_first true true g gs = refl
message_first true false g gs = refl
message_first false c g gs = refl

-- pieces begin with an address word, which is said where its place is clean
pieces_begin : (test : ℕ → Bool) (p : ℕ) (before : List PlanPiece) → groups_to_address (said_where test p (kinds_of (before ++ Idle ∷ []))) ≡ cond (test p) (Some []) None
unfolding groups_to_address said_where
pieces_begin test p [] = address_first (test p) idle_high Numeric _
pieces_begin test p (Idle ∷ before) = address_first (test p) idle_high Numeric _
pieces_begin test p (Run page ∷ before) = address_first (test p) (high_of page.capcode) page.function _

and_true : (t : Bool) → (t && true) ≡ t
and_true true = refl
and_true false = refl

-- the groups of messages that an address word follows are read where all these are clean
messages_said : (test : ℕ → Bool) (p : ℕ) (gs : List ℕ) (ks : List (Option WordKind))
    → groups_to_address (said_where test (p + length gs) ks) ≡ cond (test (p + length gs)) (Some []) None
    → groups_to_address (said_where test p (said gs ++ ks)) ≡ cond (all_clean test p (suc (length gs))) (Some gs) None
unfolding groups_to_address said_where
messages_said test p [] ks h =
    let e : p + 0 ≡ p = omega arith in
    ap (λ (n : ℕ). groups_to_address (said_where test n ks)) (sym e) ∙ h ∙ ap (λ (n : ℕ). cond (test n) (Some []) None) e
    ∙ sym (ap (λ (t : Bool). cond t (Some []) None) (and_true (test p)))
messages_said test p (g ∷ gs) ks h =
    let e : p + suc (length gs) ≡ suc p + length gs = omega arith in
    let ih = messages_said test (suc p) gs ks
    (ap (λ (n : ℕ). groups_to_address (said_where test n ks)) (sym e) ∙ h ∙ ap (λ (n : ℕ). cond (test n) (Some []) None) e) in
    ap (groups_with (cond (test p) (Some (Message g)) None)) ih ∙ message_first (test p) (all_clean test (suc p) (suc (length gs))) g gs

silent_message : (listens : ℕ → Bool) (p : ℕ) (t : Bool) (g : ℕ) (o : Option (List ℕ)) → page_with listens p (cond t (Some (Message g)) None) o ≡ []
silent_message listens p true g o = refl
silent_message listens p false g o = refl

messages_give_none : (listens test : ℕ → Bool) (p : ℕ) (gs : List ℕ) (ks : List (Option WordKind))
    → pages_from listens p (said_where test p (said gs ++ ks)) ≡ pages_from listens (p + length gs) (said_where test (p + length gs) ks)
unfolding pages_from said_where
messages_give_none listens test p [] ks = let e : p ≡ p + 0 = omega arith in ap (λ (n : ℕ). pages_from listens n (said_where test n ks)) e
messages_give_none listens test p (g ∷ gs) ks =
    let e : suc p + length gs ≡ p + suc (length gs) = omega arith in
    ap (λ (xs : List HeardPage). xs ++ pages_from listens (suc p) (said_where test (suc p) (said gs ++ ks)))
    (silent_message listens p (test p) g (groups_to_address (said_where test (suc p) (said gs ++ ks))))
    ∙ messages_give_none listens test (suc p) gs ks ∙ ap (λ (n : ℕ). pages_from listens n (said_where test n ks)) e

idle_silent : (listens : ℕ → Bool) (start : ℕ) (o : Option (List ℕ)) → AreUsable listens → page_with listens start (Some (Address idle_high Numeric)) o ≡ []
idle_silent listens start None u = refl
idle_silent listens start (Some gs) u =
    let high : high_of (capcode_at start idle_high) ≡ idle_high = omega arith in
    let silent : listens (capcode_at start idle_high) ≡ false = elim (cases_Bool (listens (capcode_at start idle_high))) [
      | inl held ↦ absurd ((u (capcode_at start idle_high) held).not_idle high)
      | inr other ↦ other
    ] in
    ap (λ (t : Bool). page_if t (capcode_at start idle_high) Numeric gs)
    (and_left (listens (capcode_at start idle_high)) (nat_le (length gs) MOST_GROUPS) silent)

text_read : (page : Page) → IsAcceptable page
    → with_text (record { capcode = page.capcode; function = page.function; groups = groups page.function page.text }) ≡ page
text_read page a =
    ap (λ (text : List ℕ). let p : Page = record { capcode = page.capcode; function = page.function; text = text } in p) (text_of-groups page.function page.text a.fits)

page_kept : (b : Bool) (page : Page) (rest : List Page) → IsAcceptable page
    → map with_text (page_if (b && true) page.capcode page.function (groups page.function page.text)) ++ rest ≡ cond b (page ∷ rest) rest
page_kept true page rest a = ap (λ (p : Page). p ∷ rest) (text_read page a)
page_kept false page rest a = refl

run_page : (listens : ℕ → Bool) (start : ℕ) (page : Page) (rest : List Page) → frame_at start ≡ frame page → IsAcceptable page
    → map with_text (page_with listens start (Some (Address (high_of page.capcode) page.function)) (Some (groups page.function page.text))) ++ rest
    ≡ cond (listens page.capcode) (page ∷ rest) rest
run_page listens start page rest f a =
    let c : capcode_at start (high_of page.capcode) ≡ page.capcode = omega arith in
    ap (λ (n : ℕ). map with_text (page_if (listens n && nat_le (length (groups page.function page.text)) MOST_GROUPS) n page.function (groups page.function page.text)) ++ rest) c
    ∙ ap (λ (t : Bool). map with_text (page_if (listens page.capcode && t) page.capcode page.function (groups page.function page.text)) ++ rest)
    (le-leb (length (groups page.function page.text)) MOST_GROUPS (length-groups page.function page.text a.fits))
    ∙ page_kept (listens page.capcode) page rest a

silent_idle : (listens : ℕ → Bool) (p : ℕ) (t : Bool) (o : Option (List ℕ)) → AreUsable listens
    → page_with listens p (cond t (Some (Address idle_high Numeric)) None) o ≡ []
silent_idle listens p true o u = idle_silent listens p o u
silent_idle listens p false o u = refl

run_kept : (listens : ℕ → Bool) (t c : Bool) (p : ℕ) (page : Page) (rest : List Page) → frame_at p ≡ frame page → IsAcceptable page
    → map with_text (page_with listens p (cond t (Some (Address (high_of page.capcode) page.function)) None) (cond c (Some (groups page.function page.text)) None))
    ++ filter (λ page. listens page.capcode) rest
    ≡ filter (λ page. listens page.capcode) (kept_run (t && c) page rest)
run_kept listens true true p page rest f a = run_page listens p page (filter (λ page. listens page.capcode) rest) f a
run_kept listens true false p page rest f a = refl
run_kept listens false c p page rest f a = refl

run_clean : (test : ℕ → Bool) (p : ℕ) (page : Page)
    → (test p && all_clean test (suc p) (suc (length (groups page.function page.text)))) ≡ run_is_clean test p page
unfolding run
run_clean test p page = ap (λ (n : ℕ). test p && all_clean test (suc p) (suc n)) (sym (length-map (groups page.function page.text) message_of))

run_place : (p : ℕ) (page : Page) → suc p + length (groups page.function page.text) ≡ p + length (run page)
unfolding run
run_place p page = let e = length-map (groups page.function page.text) message_of in omega (arith, e)

pub pages_of_pieces : (listens test : ℕ → Bool) (p : ℕ) (before : List PlanPiece) → AreUsable listens → ArePlaced p (before ++ Idle ∷ [])
    → All IsAcceptable (pages_in_order (before ++ Idle ∷ []))
    → map with_text (pages_from listens p (said_where test p (kinds_of (before ++ Idle ∷ []))))
    ≡ filter (λ page. listens page.capcode) (kept_runs test p (before ++ Idle ∷ []))
unfolding pages_from said_where groups_to_address ArePlaced kept_runs
pages_of_pieces listens test p [] u at h = ap (λ (xs : List HeardPage). map with_text (xs ++ [])) (silent_idle listens p (test p) None u)
pages_of_pieces listens test p (Idle ∷ before) u at h =
    let ks = kinds_of (before ++ Idle ∷ []) in
    ap (λ (xs : List HeardPage). map with_text (xs ++ pages_from listens (suc p) (said_where test (suc p) (kinds_of (before ++ Idle ∷ [])))))
    (silent_idle listens p (test p) (groups_to_address (said_where test (suc p) ks)) u)
    ∙ pages_of_pieces listens test (suc p) before u at h
pages_of_pieces listens test p (Run page ∷ before) u at h =
    let gs = groups page.function page.text in
    let ks = kinds_of (before ++ Idle ∷ []) in
    let q = suc p + length (groups page.function page.text) in
    let rest = kept_runs test (suc p + length (groups page.function page.text)) (before ++ Idle ∷ []) in
    let a = All-head IsAcceptable page (pages_in_order (before ++ Idle ∷ [])) h in
    let ih = pages_of_pieces listens test (suc p + length (groups page.function page.text)) before u at.1 (All-tail IsAcceptable page (pages_in_order (before ++ Idle ∷ [])) h) in
    ap₂ (λ (o : Option (List ℕ)) (ys : List HeardPage). map with_text (page_with listens p (cond (test p) (Some (Address (high_of page.capcode) page.function)) None) o ++ ys))
    (messages_said test (suc p) gs ks (pieces_begin test (suc p + length (groups page.function page.text)) before)) (messages_give_none listens test (suc p) gs ks)
    ∙ map-append with_text
    (page_with listens p (cond (test p) (Some (Address (high_of page.capcode) page.function)) None) (cond (all_clean test (suc p) (suc (length gs))) (Some gs) None))
    (pages_from listens q (said_where test q ks))
    ∙ ap (λ (ys : List Page). map with_text (page_with listens p (cond (test p) (Some (Address (high_of page.capcode) page.function)) None) (cond (all_clean test (suc p) (suc (length gs))) (Some gs) None)) ++ ys) ih
    ∙ run_kept listens (test p) (all_clean test (suc p) (suc (length gs))) p page rest at.0 a
    ∙ ap₂ (λ (t : Bool) (n : ℕ). filter (λ page. listens page.capcode) (kept_run t page (kept_runs test n (before ++ Idle ∷ [])))) (run_clean test p page) (run_place p page)

-- ---- the pages of a schedule

-- the slots of a schedule are whole batches, at least one
pub batches_in : (accepted : List Page) (slots : List ℕ) → IsSchedule accepted slots → (n : ℕ) × (length slots ≡ 16 * suc n)
batches_in accepted slots s =
    let b = s.layout.batches.0 in
    let e : length slots ≡ 16 * b = ap length s.slots_are ∙ s.layout.batches.1 in
    let p = ap (λ (ps : List PlanPiece). length (words ps)) s.layout.idle_last.1 in
    let q = place-append s.layout.idle_last.0 (Idle ∷ []) in
    some_batches b (length slots) e (omega (arith, ap length s.slots_are, p, q))
  where
    some_batches : (b l : ℕ) → l ≡ 16 * b → 0 < l → (n : ℕ) × (l ≡ 16 * suc n)
    some_batches zero l e h = absurd (omega arith)
    some_batches (suc n) l e h = (n, e)

-- what the slots of a schedule say at clean places: the pages of the clean runs to the capcodes that are listened to, in their order
pub said_pages : (listens test : ℕ → Bool) (accepted : List Page) (slots : List ℕ) → AreUsable listens → All IsAcceptable accepted
    → (s : IsSchedule accepted slots)
    → map with_text (pages_from listens 0 (said_where test 0 (map kind_of slots))) ≡ filter (λ page. listens page.capcode) (kept_runs test 0 s.pieces)
said_pages listens test accepted slots u h s =
    let before = s.layout.idle_last.0 in
    let e = s.layout.idle_last.1 in
    let ps = before ++ Idle ∷ [] in
    let all : All IsAcceptable (pages_in_order s.pieces) = All-permutation IsAcceptable accepted (pages_in_order s.pieces) s.layout.once h in
    let ends : All IsAcceptable (pages_in_order ps) = subst (λ (xs : List PlanPiece). All IsAcceptable (pages_in_order xs)) e all in
    let is : slots ≡ words ps = s.slots_are ∙ ap words e in
    let at : ArePlaced 0 ps = subst (ArePlaced 0) e (placed [] s.pieces 0 refl s.layout.whole) in
    ap (λ (ks : List (Option WordKind)). map with_text (pages_from listens 0 (said_where test 0 ks))) (ap (map kind_of) is ∙ kinds-words ps ends)
    ∙ pages_of_pieces listens test 0 before u at ends ∙ ap (λ (xs : List PlanPiece). filter (λ page. listens page.capcode) (kept_runs test 0 xs)) (sym e)

pub codewords-slots : (accepted : List Page) (slots : List ℕ) → All IsAcceptable accepted → IsSchedule accepted slots → All IsCodeword slots
codewords-slots accepted slots h s =
    let all : All IsAcceptable (pages_in_order s.pieces) = All-permutation IsAcceptable accepted (pages_in_order s.pieces) s.layout.once h in
    subst (All IsCodeword) (sym s.slots_are) (codewords-words s.pieces all)

-- ---- the pages that a test keeps

filter_step : (p q : Page → Bool) (x : Page) (xs : List Page) → (p x ≡ true → q x ≡ true) → filter p (filter q xs) ≡ filter p xs
    → filter p (filter q (x ∷ xs)) ≡ filter p (x ∷ xs)
filter_step p q x xs h ih = elim (cases_Bool (q x)) [
  | inl in_q ↦
      ap (λ (t : Bool). filter p (cond t (x ∷ filter q xs) (filter q xs))) in_q ∙ ap (λ (ys : List Page). cond (p x) (x ∷ ys) ys) ih
  | inr out_q ↦
      let out_p : p x ≡ false = elim (cases_Bool (p x)) [ inl held ↦ absurd (both_ways (q x) out_q (h held)) | inr out ↦ out ] in
      ap (λ (t : Bool). filter p (cond t (x ∷ filter q xs) (filter q xs))) out_q ∙ ih ∙ sym (ap (λ (t : Bool). cond t (x ∷ filter p xs) (filter p xs)) out_p)
]

pub filter_inner : (p q : Page → Bool) (xs : List Page) → ((x : Page) → p x ≡ true → q x ≡ true) → filter p (filter q xs) ≡ filter p xs
filter_inner p q [] h = refl
filter_inner p q (x ∷ xs) h = filter_step p q x xs (h x) (filter_inner p q xs h)

-- a test that only pages of one frame pass, to capcodes that are listened to
pub record IsKept (listens : ℕ → Bool) (f : ℕ) (kept : Page → Bool) : Type 0 where
  pub frame : (page : Page) → kept page ≡ true → in_frame f page ≡ true
  pub heard : (page : Page) → kept page ≡ true → listens page.capcode ≡ true

-- where every place is clean, every run is
all_clean-always : (p n : ℕ) → all_clean (λ q. true) p n ≡ true
all_clean-always p zero = refl
all_clean-always p (suc n) = all_clean-always (suc p) n

kept_runs-always : (p : ℕ) (ps : List PlanPiece) → kept_runs (λ q. true) p ps ≡ pages_in_order ps
unfolding kept_runs
kept_runs-always p [] = refl
kept_runs-always p (Idle ∷ ps) = kept_runs-always (suc p) ps
kept_runs-always p (Run page ∷ ps) =
    ap₂ (λ (t : Bool) (rest : List Page). kept_run t page rest) (all_clean-always (suc p) (length (run page))) (kept_runs-always (p + length (run page)) ps)

-- What is heard in slots that are all near those of a schedule: of the pages that such a test keeps, those that were accepted, in order.
pub schedule_pages : (listens : ℕ → Bool) (accepted : List Page) (slots ws : List ℕ) → AreUsable listens → All IsAcceptable accepted
    → IsSchedule accepted slots → AreHeard (λ p. true) 0 slots ws
    → (f : ℕ) (kept : Page → Bool) → IsKept listens f kept → filter kept (map with_text (pages_from listens 0 (map kind_of ws))) ≡ filter kept accepted
schedule_pages listens accepted slots ws u h s heard f kept k =
    ap (λ (ks : List (Option WordKind)). filter kept (map with_text (pages_from listens 0 ks))) (heard_kinds (λ p. true) 0 slots ws heard (codewords-slots accepted slots h s))
    ∙ ap (filter kept) (said_pages listens (λ p. true) accepted slots u h s ∙ ap (filter (λ page. listens page.capcode)) (kept_runs-always 0 s.pieces))
    ∙ filter_inner kept (λ page. listens page.capcode) (pages_in_order s.pieces) k.heard
    ∙ sym (filter_inner kept (in_frame f) (pages_in_order s.pieces) k.frame)
    ∙ ap (filter kept) (s.layout.fair f)
    ∙ filter_inner kept (in_frame f) accepted k.frame
