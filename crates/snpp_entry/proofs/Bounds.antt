-- How many cells the pages of a session take, and how much is said in it.
use Rattle.std.proofs.Common.{◌≡◌, ℕ, ◌+◌, ◌-◌, ◌*◌, ◌≤◌, ◌==◌, inl, inr, cond, Bool, true, false, List, [], ◌∷◌, ◌++◌, length, length-append, take, suc, refl, ap, sym, ◌∙◌, arith, not, ◌&&◌, nat_le}
use Rattle.std.proofs.lemmas.Bool.Decides.{nat_tests}
use Rattle.std.proofs.lemmas.List.{length-take, length-map}
use Rattle.std.proofs.lemmas.List.Sums.{sum_by-append, sum_by-cons}
use Rattle.std.specs.List.{sum_by}
use Rattle.entry_line.specs.Chars.{last_character, lf}
use Rattle.std.proofs.Math.Nat.{mul-suc, mul-zero}
use Rattle.codeword.specs.declared.functions.Function.{Function}
use Rattle.page_text.specs.Page.{Page}
use Rattle.page_pool.specs.Cells.{cells_for, cells_of}
use Rattle.page_pool.specs.Gains.{cells_of_all, pages_to}
use Rattle.subscribers.specs.Directory.{Directory}
use Rattle.snpp_entry.specs.declared.answers.SnppAnswer.{SnppAnswer}
use Rattle.snpp_entry.specs.declared.answers.SnppAnswer.TheVariants.{Nothing, Ok, Bye, TooLong, Command, Twice, Missing, Pager, Text, Room}
use Rattle.snpp_entry.specs.Lines.{Cut, cut, cut_on, uncut, with_char, without_cr}
use Rattle.snpp_entry.specs.Replies.{snpp_replies, snpp_reply}
use Rattle.snpp_entry.specs.Rows.{Outcome, Pending, outcome}
use Rattle.snpp_entry.specs.Session.{SnppCourse, course_after, is_bye, has_bye, outcome_answers, outcome_of_piece, outcome_pages, session, snpp_is_too_long, snpp_start, snpp_tell, told_of}
use Rattle.snpp_entry.proofs.Sends.{at_line}

-- ---- cells

cells_sum : (pages : List Page) → cells_of_all pages ≡ sum_by cells_of pages
cells_sum [] = refl
cells_sum (page ∷ pages) = ap (λ (n : ℕ). cells_of page + n) (cells_sum pages) ∙ sym (sum_by-cons cells_of page pages)

-- a page for each of these capcodes
cells_to : (capcodes : List ℕ) (function : Function) (text : List ℕ) → cells_of_all (pages_to capcodes function text) ≡ cells_for (length text) * length capcodes
cells_to [] function text = sym (mul-zero (cells_for (length text)))
cells_to (c ∷ cs) function text = let more = cells_to cs function text in let one = mul-suc (cells_for (length text)) (length cs) in omega (arith, more, one)

-- a line's pages have room
line_within : (directory : Directory) (spare : ℕ) (p : Pending) (line : List ℕ) → cells_of_all (outcome directory spare p line).pages ≤ spare
line_within directory spare p line = elim (at_line directory spare p line) [
  | inl h ↦ (let r = h.room in let e = ap cells_of_all h.pages_are ∙ cells_to h.target.capcodes h.target.function h.text in omega (arith, r, e))
  | inr h ↦ (let e = ap cells_of_all h.none in omega (arith, e))
]

told_within : (directory : Directory) (s : SnppCourse) (ps : List (List ℕ)) → sum_by cells_of (outcome_pages (snpp_tell directory s ps)) ≤ s.spare
told_within directory s [] = omega arith
told_within directory s (piece ∷ ps) =
    let o = outcome_of_piece directory s piece in
    let rest = cond (is_bye o.answer) [] (snpp_tell directory (course_after s o) ps) in
    let one : cells_of_all o.pages ≤ s.spare = line_within directory s.spare s.pending (without_cr piece) in
    let on : sum_by cells_of (outcome_pages rest) ≤ s.spare - cells_of_all o.pages = by_bye (is_bye o.answer) (told_within directory (course_after s o) ps) in
    let same = cells_sum o.pages in
    omega (arith, one, on, same, sum_by-append cells_of o.pages (outcome_pages rest))
  where
    by_bye : (b : Bool) → sum_by cells_of (outcome_pages (snpp_tell directory (course_after s (outcome_of_piece directory s piece)) ps)) ≤ s.spare - cells_of_all (outcome_of_piece directory s piece).pages
        → sum_by cells_of (outcome_pages (cond b [] (snpp_tell directory (course_after s (outcome_of_piece directory s piece)) ps))) ≤ s.spare - cells_of_all (outcome_of_piece directory s piece).pages
    by_bye true h = omega arith
    by_bye false h = h

-- the pages of a session take no more cells than were spare
pub snpp_within : (directory : Directory) (spare : ℕ) (x : List ℕ) → sum_by cells_of (session directory spare x).pages ≤ spare
snpp_within directory spare x = told_within directory (snpp_start spare) (cut (take 999999 x)).pieces

-- ---- what is said

reply_few : (a : SnppAnswer) → length (snpp_reply a) ≤ 21
reply_few Nothing = omega arith
reply_few Ok = omega arith
reply_few Bye = omega arith
reply_few TooLong = omega arith
reply_few Command = omega arith
reply_few Twice = omega arith
reply_few Missing = omega arith
reply_few Pager = omega arith
reply_few Text = omega arith
reply_few Room = omega arith

replies_few : (answers : List SnppAnswer) → length (snpp_replies answers) ≤ 21 * length answers
replies_few [] = omega arith
replies_few (a ∷ answers) = let k = reply_few a in let r = replies_few answers in let e = length-append (snpp_reply a) (snpp_replies answers) in omega (arith, k, r, e)

told_few : (directory : Directory) (s : SnppCourse) (ps : List (List ℕ)) → length (snpp_tell directory s ps) ≤ length ps
told_few directory s [] = omega arith
told_few directory s (piece ∷ ps) = by_bye (is_bye (outcome_of_piece directory s piece).answer) (told_few directory (course_after s (outcome_of_piece directory s piece)) ps)
  where
    by_bye : (b : Bool) → length (snpp_tell directory (course_after s (outcome_of_piece directory s piece)) ps) ≤ length ps
        → suc (length (cond b [] (snpp_tell directory (course_after s (outcome_of_piece directory s piece)) ps))) ≤ suc (length ps)
    by_bye true h = omega arith
    by_bye false h = omega (arith, h)

-- no more pieces than characters
pieces_few : (k : Cut) (x : List ℕ) → length (cut_on k x).pieces ≤ length k.pieces + length x
pieces_few k [] = omega arith
pieces_few k (c ∷ x) = let h = pieces_few (with_char k c) x in let one = by_char (c == lf) in omega (arith, h, one)
  where
    by_char : (b : Bool) → length (cond b (let n : Cut = record { pieces = k.pieces ++ k.rest ∷ []; rest = [] } in n) (record { pieces = k.pieces; rest = k.rest ++ c ∷ [] })).pieces ≤ length k.pieces + 1
    by_char true = omega (arith, length-append k.pieces (k.rest ∷ []))
    by_char false = omega arith

-- an answer for the length comes at the millionth character alone
closing_few : (told : List Outcome) (count : ℕ) → length told ≤ 999999 → length told ≤ count → length told + length (cond (snpp_is_too_long told count) (TooLong ∷ []) []) ≤ count
closing_few told count short few = by_length (snpp_is_too_long told count) refl
  where
    second : (a b : Bool) → (a && b) ≡ true → b ≡ true
    second true b h = h
    second false b h = absurd cc

    by_length : (b : Bool) → snpp_is_too_long told count ≡ b → length told + length (cond b (TooLong ∷ []) []) ≤ count
    by_length true h =
        let long : nat_le last_character count ≡ true = second (not (has_bye told)) (nat_le last_character count) h in
        let many : 1000000 ≤ count = grind (arith, nat_tests, long) in
        omega (arith, short, many)
    by_length false h = omega (arith, few)

-- at most 21 bytes are said for each character
pub snpp_said_few : (directory : Directory) (spare : ℕ) (x : List ℕ) → length (snpp_replies (session directory spare x).answers) ≤ 21 * length x
snpp_said_few directory spare x =
    let told = told_of directory spare x in
    let closing = cond (snpp_is_too_long told (length x)) (TooLong ∷ []) [] in
    let a = replies_few (outcome_answers told ++ closing) in
    let b = length-append (outcome_answers told) closing in
    let c = length-map told (λ (o : Outcome). o.answer) in
    let d = told_few directory (snpp_start spare) (cut (take 999999 x)).pieces in
    let e = pieces_few uncut (take 999999 x) in
    let f = length-take 999999 x in
    let g = closing_few told (length x) (omega (arith, d, e, f)) (omega (arith, d, e, f)) in
    omega (arith, a, b, c, g)
