-- The sessions of the fronts of a list.
use Rattle.std.proofs.Common.{◌≡◌, ℕ, ◌-◌, ◌<◌, ◌≤◌, Bool, true, false, List, [], ◌++◌, length, take, refl, ap, sym, ◌∙◌, subst, append_assoc, append-nil, arith, Option, length-append, ◌⊎◌, inl, inr}
use Rattle.std.proofs.lemmas.Bool.{cases_lt}
use Rattle.std.proofs.lemmas.List.{take_all, take-append-le, map-append}
use Rattle.std.proofs.lemmas.List.Concat.{flat_map-append}
use Rattle.tap_block.specs.Brief.{ScannerState, in_line}
use Rattle.tap_block.specs.Reading.{Entry, BeforeLogon}
use Rattle.tap_block.proofs.Grows.{stands_nil}
use Rattle.subscribers.specs.Directory.{Directory}
use Rattle.tap_terminal.specs.Session.{ItemDecided, Session, Continues, start, tell, has_end, closing, answers_of, pages_of, session_of, IsSession}
use Rattle.tap_terminal.specs.State.{course_at, sum_up}
use Rattle.tap_terminal.proofs.Sessions.{Extended, extend, session_from, one_session, tell-append_open, tell-append_ended, settled, ended_settled, short_settled, too_long, by_length, take_over}

-- a scanner that stands for no character
abbrev fresh : Option (List ℕ) → ScannerState
fresh password = record { password = password; kept = []; brief = in_line [] }

-- a scanner that stands for these characters
scanned : (password : Option (List ℕ)) (x : List ℕ) → Extended (fresh password) [] x []
scanned password x = extend x (fresh password) [] [] (stands_nil BeforeLogon (fresh password) (refl, tt))

-- each list has a session
pub session_exists : (password : Option (List ℕ)) (directory : Directory) (spare : ℕ) (x : List ℕ) → (session : Session) × IsSession password directory spare x session
session_exists password directory spare x =
    let s = scanned password (take 999999 x) in
    (session_of (tell directory (start spare) s.more) (length x), session_from password directory spare s.new x (take 999999 x) s.more s.stands s.password_is refl)

-- the same session
same : (front whole : Session) → whole ≡ front → Continues front whole
same front whole h = record {
  answers = [];
  pages = [];
  answers_are = ap (λ (s : Session). s.answers) h ∙ sym (append-nil front.answers);
  pages_are = ap (λ (s : Session). s.pages) h ∙ sym (append-nil front.pages);
}

-- a session that is over has the same length for ever
pub over_settled : (told : List ItemDecided) (m n : ℕ) → 1000000 ≤ m → 1000000 ≤ n → session_of told n ≡ session_of told m
over_settled told m n h k = by_end (has_end told) refl
  where
    by_end : (b : Bool) → has_end told ≡ b → session_of told n ≡ session_of told m
    by_end true e = settled told n (ended_settled told n e) ∙ sym (settled told m (ended_settled told m e))
    by_end false e = ap (by_length told) (too_long told n e k ∙ sym (too_long told m e h))

-- more was told
longer : (told rest : List ItemDecided) (count : ℕ) → Continues (sum_up told) (session_of (told ++ rest) count)
longer told rest count = record {
  answers = answers_of rest ++ closing (told ++ rest) count;
  pages = pages_of rest;
  answers_are = ap (λ z. z ++ closing (told ++ rest) count) (map-append (λ (t : ItemDecided). t.answer) told rest) ∙ append_assoc (answers_of told) (answers_of rest) (closing (told ++ rest) count);
  pages_are = flat_map-append (λ (t : ItemDecided). t.pages) told rest;
}

-- a front of at most 999,999 characters, by the items of both
short_front : (directory : Directory) (spare : ℕ) (items more : List Entry) (m n : ℕ) → m ≤ 999999
    → Continues (session_of (tell directory (start spare) items) m) (session_of (tell directory (start spare) (items ++ more)) n)
short_front directory spare items more m n h = by_end (has_end told) refl
  where
    told : List ItemDecided
    told = tell directory (start spare) items

    by_end : (b : Bool) → has_end told ≡ b → Continues (session_of told m) (session_of (tell directory (start spare) (items ++ more)) n)
    by_end true e = same _ _ (ap (λ t. session_of t n) (tell-append_ended directory (start spare) items more e) ∙ settled told n (ended_settled told n e) ∙ sym (settled told m (ended_settled told m e)))
    by_end false e =
        subst (λ t. Continues (session_of told m) (session_of t n)) (sym (tell-append_open directory (start spare) items more e))
        (subst (λ s. Continues s (session_of (told ++ tell directory (course_at directory (start spare) items) more) n)) (sym (settled told m (short_settled told m h)))
        (longer told (tell directory (course_at directory (start spare) items) more) n))

-- the answers and the pages of a front are the first of all
pub fronts : (password : Option (List ℕ)) (directory : Directory) (spare : ℕ) (x y : List ℕ) (front whole : Session)
    → IsSession password directory spare x front → IsSession password directory spare (x ++ y) whole → Continues front whole
fronts password directory spare x y front whole h k = by_size (cases_lt (length x) 1000000)
  where
    by_size : (length x < 1000000) ⊎ (1000000 ≤ length x) → Continues front whole
    by_size (inl few) =
        let short : length x ≤ 999999 = omega (arith, few) in
        let s = scanned password x in
        let e = extend (take (999999 - length x) y) s.new x s.more s.stands in
        let a = one_session password directory spare x front _ h (session_from password directory spare s.new x x s.more s.stands s.password_is (take_all 999999 x short)) in
        let b = one_session password directory spare (x ++ y) whole _ k
        (session_from password directory spare e.new (x ++ y) (x ++ take (999999 - length x) y) (s.more ++ e.more) e.stands (e.password_is ∙ s.password_is) (take_over 999999 x y short)) in
        subst (λ z. Continues z whole) (sym a)
        (subst (λ z. Continues (session_of (tell directory (start spare) s.more) (length x)) z) (sym b) (short_front directory spare s.more e.more (length x) (length (x ++ y)) short))
    by_size (inr many) =
        let z = take 999999 x in
        let s = scanned password z in
        let long : 1000000 ≤ length (x ++ y) = simp length-append (omega (arith, many)) in
        let a = one_session password directory spare x front _ h (session_from password directory spare s.new x z s.more s.stands s.password_is refl) in
        let b = one_session password directory spare (x ++ y) whole _ k
        (session_from password directory spare s.new (x ++ y) z s.more s.stands s.password_is (take-append-le 999999 x y (omega (arith, many)))) in
        same front whole (b ∙ over_settled (tell directory (start spare) s.more) (length x) (length (x ++ y)) many long ∙ sym a)
