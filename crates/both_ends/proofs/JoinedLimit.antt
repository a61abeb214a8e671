-- The limit of a million characters drops nothing that matters.
use Rattle.std.proofs.Common.{◌≡◌, ℕ, suc, ◌+◌, ◌*◌, ◌≤◌, cond, Bool, true, false, List, [], ◌∷◌, ◌++◌, length, take, refl, ap, sym, ◌∙◌, arith, append_assoc, Option, length-append, length-take}
use Rattle.entry_line.specs.Chars.{cr}
use Rattle.tap_block.specs.Chars.{stx, end_char}
use Rattle.tap_block.specs.Reading.{Mode, BeforeLogon, InputPiece, line, skipped, lone_eot, bye, dropped, block, piece_text, Reads, Entry, items_of, mode_after}
use Rattle.page_text.specs.Page.{Page}
use Rattle.tap_terminal.specs.declared.answers.Answer.{Answer}
use Rattle.tap_terminal.specs.declared.answers.Answer.TheVariants.{Nothing, Id, Go, Ack, Nak, Rs, End as EndAnswer}
use Rattle.tap_terminal.specs.Replies.{reply_of, replies}
use Rattle.subscribers.specs.Directory.{Directory}
use Rattle.tap_terminal.specs.Session.{Course, ItemDecided, start, decide, tell, answers_of, is_end, closing, is_too_long}
use Rattle.both_ends.proofs.JoinedSessions.{IsPlayed}

-- a reply has at most six characters
reply_short : (a : Answer) → length (reply_of a) ≤ 6
reply_short Nothing = omega arith
reply_short Id = omega arith
reply_short Go = omega arith
reply_short Ack = omega arith
reply_short Nak = omega arith
reply_short (Rs reason) = omega arith
reply_short EndAnswer = omega arith

pub replies_short : (answers : List Answer) → length (replies answers) ≤ 6 * length answers
replies_short [] = omega arith
replies_short (a ∷ answers) = let k = reply_short a in let r = replies_short answers in let e = length-append (reply_of a) (replies answers) in omega (arith, k, r, e)

-- no more is answered than there are items
pub told_few : (directory : Directory) (s : Course) (items : List Entry) → length (answers_of (tell directory s items)) ≤ length items
told_few directory s [] = omega arith
told_few directory s (e ∷ items) = by_end_of (is_end (decide directory s e).told.answer) (told_few directory (decide directory s e).course items)
  where
    by_end_of : (b : Bool) → length (answers_of (tell directory (decide directory s e).course items)) ≤ length items
        → length (answers_of ((decide directory s e).told ∷ cond b [] (tell directory (decide directory s e).course items))) ≤ suc (length items)
    by_end_of true h = omega arith
    by_end_of false h = omega (arith, h)

-- no more items than characters
text_some : (p : InputPiece) → 1 ≤ length (piece_text p)
text_some (line l) = let e = length-append l (cr ∷ []) in omega (arith, e)
text_some (skipped c) = omega arith
text_some lone_eot = omega arith
text_some bye = omega arith
text_some (dropped b) = omega arith
text_some (block b e t) = omega arith

pub items_few : (password : Option (List ℕ)) (mode : Mode) (ps : List InputPiece) (r x : List ℕ) → Reads password mode ps r x → length (items_of password ps) ≤ length x
items_few password mode [] r x h = omega arith
items_few password mode (line l ∷ ps) r x h = let k = items_few password (mode_after password (line l) mode) ps r h.0 h.3 in let e = ap length h.1 ∙ length-append (l ++ cr ∷ []) h.0 in let t = text_some (line l) in omega (arith, k, e, t)
items_few password mode (skipped c ∷ ps) r x h = let k = items_few password (mode_after password (skipped c) mode) ps r h.0 h.3 in let e = ap length h.1 in omega (arith, k, e)
items_few password mode (lone_eot ∷ ps) r x h = let k = items_few password (mode_after password (lone_eot) mode) ps r h.0 h.3 in let e = ap length h.1 in omega (arith, k, e)
items_few password mode (bye ∷ ps) r x h = let k = items_few password (mode_after password (bye) mode) ps r h.0 h.3 in let e = ap length h.1 in omega (arith, k, e)
items_few password mode (dropped b ∷ ps) r x h = let k = items_few password (mode_after password (dropped b) mode) ps r h.0 h.3 in let e = ap length h.1 ∙ length-append (stx ∷ b) h.0 in omega (arith, k, e)
items_few password mode (block b e t ∷ ps) r x h = let k = items_few password (mode_after password (block b e t) mode) ps r h.0 h.3 in let q = ap length h.1 ∙ length-append ((stx ∷ b) ++ end_char e ∷ t) h.0 in omega (arith, k, q)

pub closing_one : (told : List ItemDecided) (n : ℕ) → length (closing told n) ≤ 1
closing_one told n = by_test (is_too_long told n)
  where
    by_test : (b : Bool) → length (cond b (EndAnswer ∷ []) []) ≤ 1
    by_test true = omega arith
    by_test false = omega arith

-- the replies to few characters are short
pub played_short : (theirs : Option (List ℕ)) (directory : Directory) (spare : ℕ) (t : List ℕ) (answers : List Answer) (accepted : List Page) → IsPlayed theirs directory spare t answers accepted
    → length (replies answers) ≤ 6 * length t + 6
played_short theirs directory spare t answers accepted h =
    let told = tell directory (start spare) (items_of theirs h.pieces) in
    let a = replies_short answers in
    let b = ap length h.answers_are ∙ length-append (answers_of told) (closing told (length t)) in
    let c = closing_one told (length t) in
    let d = told_few directory (start spare) (items_of theirs h.pieces) in
    let e = items_few theirs BeforeLogon h.pieces h.rest (take 999999 t) h.reads in
    let f : length (take 999999 t) ≤ length t = simp length-take (omega arith) in
    omega (arith, a, b, c, d, e, f)

pub replies_append : (xs ys : List Answer) → replies (xs ++ ys) ≡ replies xs ++ replies ys
replies_append [] ys = refl
replies_append (x ∷ xs) ys = ap (λ z. reply_of x ++ z) (replies_append xs ys) ∙ sym (append_assoc (reply_of x) (replies xs) (replies ys))
