-- A logged on client and a terminal, block by block.
use Rattle.std.proofs.Common.{◌≡◌, ◌≢◌, ℕ, suc, zero, ◌+◌, ◌-◌, ◌*◌, ◌<◌, ◌≤◌, ◌==◌, cond, Bool, true, false, List, [], ◌∷◌, ◌++◌, length, take, drop, refl, ap, ap₂, sym, ◌∙◌, subst, arith, append_assoc, append-nil, Option, ◌⊎◌, inl, inr, nat_lt, length-append, length-take, length-drop}
use Rattle.std.specs.List.{AllByRecursion, flat_map}
use Rattle.std.proofs.Math.Seq.{take-add, take-append-add}
use Rattle.std.proofs.lemmas.List.{take_all, take-append-le, take-append-drop}
use Rattle.std.proofs.lemmas.List.Sums.{sum_by-append}
use Rattle.std.proofs.lemmas.Bool.{cases_lt}
use Rattle.std.proofs.lemmas.Bool.Decides.{nat_tests}
use Rattle.tap_block.specs.declared.ends.End.{End}
use Rattle.tap_block.specs.declared.ends.End.TheVariants.{Etx, Us}
use Rattle.entry_line.specs.Chars.{cr}
use Rattle.tap_block.specs.Chars.{stx, end_char, written, sum_of}
use Rattle.tap_block.specs.Reading.{IsBody, IsBodyChar, AfterLogon, InputPiece, bye, Reads, Entry, a_block, items_of}
use Rattle.tap_block.specs.Fields.{block_of}
use Rattle.both_ends.proofs.JoinedPieces.{goes_first}
use Rattle.both_ends.proofs.JoinedPieces.{block_first, written_trailer}
use Rattle.tap_block.proofs.First.{first_piece}
use Rattle.tap_block.proofs.LoneBlocks.{front_of_block, no_pieces}
use Rattle.tap_terminal.specs.declared.answers.Answer.TheVariants.{Ack}
use Rattle.page_text.specs.Page.{Page as Accepted}
use Rattle.page_pool.specs.Gains.{pages_to}
use Rattle.subscribers.specs.Directory.{Directory}
use Rattle.tap_terminal.specs.declared.terminal.TheConstants.{LONGEST_CONTENT}
use Rattle.tap_terminal.specs.Verdict.{Verdict, refused, judge_content, by_end, verdict}
use Rattle.tap_terminal.specs.Session.{Course, is_end, decided, tell, answers_of, pages_of}
use Rattle.tap_entry.specs.declared.hearing.Mark.{Mark}
use Rattle.tap_entry.specs.declared.hearing.Mark.TheVariants.{Ack as AckMark, Rs as RsMark, End as EndMark}
use Rattle.tap_entry.specs.declared.outcomes.Outcome.{Outcome}
use Rattle.tap_entry.specs.declared.outcomes.Outcome.TheVariants.{Sent, Abandoned, TriesSpent, Disconnected, NoLogon}
use Rattle.tap_entry.specs.Client.{PageToSend, IsPage, content, count_of, body_at, end_at, block_at, acks, is_ack, Decides, IsUndecided, said_after, good_bye, all_are, Follows, Sends}
use Rattle.both_ends.specs.Joined.{sent_of, AreFor, AreForAll}
use Rattle.both_ends.proofs.JoinedReplies.{marks_for}
use Rattle.both_ends.proofs.JoinedContents.{content_body, content_length, content_some, IsJudged, taken, refused_for, judged, all_take, all_drop}

abbrev pub heard_from : Directory → Course → List Entry → List Mark
heard_from table s items = flat_map marks_for (answers_of (tell table s items))

abbrev pub accepted_from : Directory → Course → List Entry → List Accepted
accepted_from table s items = pages_of (tell table s items)

-- a right block with room is judged by its end
fits_in : (table : Directory) (spare : ℕ) (joined b : List ℕ) (e : End) → length b ≤ 250 → length joined + length b ≤ LONGEST_CONTENT
    → verdict table spare joined b e true ≡ by_end table spare e (joined ++ b)
fits_in table spare joined b e h k =
    let s : nat_lt 250 (length b) ≡ false = grind (arith, nat_tests) in
    let t : nat_lt LONGEST_CONTENT (length joined + length b) ≡ false = grind (arith, nat_tests) in
    rw (s, t) refl

-- What a block of a page under way is answered.
data Answered (table : Directory) (p : PageToSend) (k : ℕ) (s : Course) (items others : List Entry) : Type 0 where
  further : k + 1 < count_of (content p) → (t : Course) → t.joined ≡ take (250 * (k + 1)) (content p)
      → heard_from table s items ≡ AckMark ∷ heard_from table t others → accepted_from table s items ≡ accepted_from table t others → Answered table p k s items others
  accepted : k + 1 ≡ count_of (content p) → (t : Course) → t.joined ≡ [] → (own : List Accepted) → AreFor table p own
      → heard_from table s items ≡ AckMark ∷ heard_from table t others → accepted_from table s items ≡ own ++ accepted_from table t others → Answered table p k s items others
  given_up : k + 1 ≡ count_of (content p) → (t : Course) → t.joined ≡ []
      → heard_from table s items ≡ RsMark ∷ heard_from table t others → accepted_from table s items ≡ accepted_from table t others → Answered table p k s items others

-- the bodies up to k and the next one
body_joins : (x : List ℕ) (k : ℕ) → take (250 * k) x ++ body_at x k ≡ take (250 * (k + 1)) x
body_joins x k = let e : 250 * (k + 1) ≡ 250 * k + 250 = omega arith in sym (ap (λ n. take n x) e ∙ take-add (250 * k) 250 x)

last_whole : (x : List ℕ) (k : ℕ) → k + 1 ≡ count_of x → take (250 * (k + 1)) x ≡ x
last_whole x k e = take_all (250 * (k + 1)) x (omega (arith, e))

-- what is told of a right block by its verdict
told_block : (table : Directory) (s : Course) (b : List ℕ) (e : End) (es : List Entry) (v : Verdict) → verdict table s.spare s.joined b e true ≡ v
    → tell table s (a_block b e true ∷ es) ≡ (let d = decided (a_block b e true) s v in d.told ∷ cond (is_end d.told.answer) [] (tell table d.course es))
told_block table s b e es v h = ap (λ w. let d = decided (a_block b e true) s w in d.told ∷ cond (is_end d.told.answer) [] (tell table d.course es)) h

answered_more : (table : Directory) (p : PageToSend) (k : ℕ) (s : Course) (others : List Entry) → IsPage p → k + 1 < count_of (content p)
    → s.joined ≡ take (250 * k) (content p) → Answered table p k s (a_block (body_at (content p) k) Us true ∷ others) others
answered_more table p k s others h more j =
    let b = body_at (content p) k in
    let n = content_length p h in
    let lb : length b ≤ 250 = simp length-take (omega arith) in
    let lj : s.joined ++ b ≡ take (250 * (k + 1)) (content p) = ap (λ z. z ++ b) j ∙ body_joins (content p) k in
    let l : length s.joined + length b ≤ LONGEST_CONTENT = (let q = ap length lj in let r = length-append s.joined b in let u : length (take (250 * (k + 1)) (content p)) ≤ length (content p) = simp length-take (omega arith) in omega (arith, q, r, u, n)) in
    let v = fits_in table s.spare s.joined b Us lb l in
    let t = told_block table s b Us others _ v in
    further more (record s { joined = s.joined ++ b; spare = s.spare - 0 }) lj (ap (λ z. flat_map marks_for (answers_of z)) t) (ap pages_of t)

answered_last : (table : Directory) (p : PageToSend) (k : ℕ) (s : Course) (others : List Entry) → IsPage p → k + 1 ≡ count_of (content p)
    → s.joined ≡ take (250 * k) (content p) → Answered table p k s (a_block (body_at (content p) k) Etx true ∷ others) others
answered_last table p k s others h last j =
    let b = body_at (content p) k in
    let n = content_length p h in
    let lb : length b ≤ 250 = simp length-take (omega arith) in
    let lj : s.joined ++ b ≡ content p = ap (λ z. z ++ b) j ∙ body_joins (content p) k ∙ last_whole (content p) k last in
    let l : length s.joined + length b ≤ LONGEST_CONTENT = (let q = ap length lj in let r = length-append s.joined b in omega (arith, q, r, n)) in
    let v : verdict table s.spare s.joined b Etx true ≡ judge_content table s.spare (content p) = fits_in table s.spare s.joined b Etx lb l ∙ ap (judge_content table s.spare) lj in
    by_verdict (judge_content table s.spare (content p)) (judged table s.spare p h) v
  where
    by_verdict : (v : Verdict) → IsJudged table p v → verdict table s.spare s.joined (body_at (content p) k) Etx true ≡ v
        → Answered table p k s (a_block (body_at (content p) k) Etx true ∷ others) others
    by_verdict v (taken target known) e = let t = told_block table s (body_at (content p) k) Etx others _ e in
        accepted last (decided (a_block (body_at (content p) k) Etx true) s (record { answer = Ack; joined = []; pages = pages_to target.capcodes target.function p.text })).course refl
        (pages_to target.capcodes target.function p.text) (record { target = target; known = known; pages_are = refl }) (ap (λ z. flat_map marks_for (answers_of z)) t) (ap pages_of t)
    by_verdict v (refused_for reason) e = let t = told_block table s (body_at (content p) k) Etx others _ e in
        given_up last (decided (a_block (body_at (content p) k) Etx true) s (refused reason)).course refl (ap (λ z. flat_map marks_for (answers_of z)) t) (ap pages_of t)

-- The block is read and answered.
record IsTaken (password : Option (List ℕ)) (table : Directory) (p : PageToSend) (k : ℕ) (s : Course) (next : List ℕ) (ps : List InputPiece) (r : List ℕ) : Type 0 where
  others : List InputPiece
  reads : Reads password AfterLogon others r next
  answered : Answered table p k s (items_of password ps) (items_of password others)

-- a part of a content is a body
part_body : (p : PageToSend) (k : ℕ) → IsPage p → IsBody (body_at (content p) k)
part_body p k h = all_take IsBodyChar 250 _ (all_drop IsBodyChar (250 * k) _ (content_body p h))

taken_in : (password : Option (List ℕ)) (table : Directory) (p : PageToSend) (k : ℕ) (s : Course) (next : List ℕ) (ps : List InputPiece) (r x : List ℕ) → IsPage p
    → k < count_of (content p) → s.joined ≡ take (250 * k) (content p) → x ≡ block_at (content p) k ++ next → Reads password AfterLogon ps r x
    → IsTaken password table p k s next ps r
taken_in password table p k s next ps r x h few j form reads = by_end_of (k + 1 == count_of (content p)) refl
  where
    body : IsBody (body_at (content p) k)
    body = part_body p k h

    by_end_of : (b : Bool) → (k + 1 == count_of (content p)) ≡ b → IsTaken password table p k s next ps r
    by_end_of true e =
        let f = block_first password (body_at (content p) k) Etx next ps r x body (form ∙ ap (λ z. block_of (body_at (content p) k) (cond z Etx Us) ++ next) e) reads in
        let last : k + 1 ≡ count_of (content p) = grind (arith, nat_tests) in
        record { others = f.others; reads = f.reads; answered = subst (λ z. Answered table p k s z (items_of password f.others)) (sym f.items) (answered_last table p k s _ h last j) }
    by_end_of false e =
        let f = block_first password (body_at (content p) k) Us next ps r x body (form ∙ ap (λ z. block_of (body_at (content p) k) (cond z Etx Us) ++ next) e) reads in
        let ne : k + 1 ≢ count_of (content p) = grind (arith, nat_tests) in
        let more : k + 1 < count_of (content p) = omega (arith, ne, few) in
        record { others = f.others; reads = f.reads; answered = subst (λ z. Answered table p k s z (items_of password f.others)) (sym f.items) (answered_more table p k s _ h more j) }

pub take_over : (n : ℕ) (x y : List ℕ) → length x ≤ n → take n (x ++ y) ≡ x ++ take (n - length x) y
take_over n x y h = let e : n ≡ length x + (n - length x) = omega arith in ap (λ k. take k (x ++ y)) e ∙ take-append-add x y (n - length x)

pub block_length : (b : List ℕ) (e : End) → length (block_of b e) ≡ length b + 6
block_length b e = let k = length-append (stx ∷ b) (end_char e ∷ (written (sum_of ((stx ∷ b) ++ end_char e ∷ [])) ++ cr ∷ [])) in omega (arith, k)

-- no piece is read of a block that is cut off before its end
cut_off : (password : Option (List ℕ)) (p : PageToSend) (k n : ℕ) (more : List ℕ) (ps : List InputPiece) (r : List ℕ) → IsPage p → n < length (block_at (content p) k)
    → Reads password AfterLogon ps r (take n (block_at (content p) k ++ more)) → ps ≡ []
cut_off password p k n more ps r h short reads =
    let b = block_at (content p) k in
    let front : take n (b ++ more) ≡ take n b = take-append-le n b more (omega (arith, short)) in
    let some : drop n b ≢ [] = (λ none. let l = ap length none in let m = length-drop n b in omega (arith, l, m, short)) in
    no_pieces password AfterLogon ps r (take n (b ++ more))
    (ap (first_piece AfterLogon) front ∙ front_of_block (body_at (content p) k) _ (take n b) (drop n b) (end_at (content p) k) (part_body p k h) (written_trailer _) (take-append-drop n b) some) reads

-- the mark of the End that the length of a session brings, or none
abbrev pub IsClosing : List Mark → Type 0
IsClosing extra = (extra ≡ []) ⊎ (extra ≡ EndMark ∷ [])

-- it is the only mark behind the answers
last_mark : (since : List Mark) (mark : Mark) (rest extra : List Mark) → IsClosing extra → since ++ mark ∷ rest ≡ extra → mark ≡ EndMark
last_mark [] mark rest extra (inl none) e = let q : mark ∷ rest ≡ [] = e ∙ none in absurd cc
last_mark [] mark rest extra (inr one) e = let q : mark ∷ rest ≡ EndMark ∷ [] = e ∙ one in cc
last_mark (c ∷ since) mark rest extra (inl none) e = let q : c ∷ (since ++ mark ∷ rest) ≡ [] = e ∙ none in absurd cc
last_mark (c ∷ since) mark rest extra (inr one) e =
    let q : c ∷ (since ++ mark ∷ rest) ≡ EndMark ∷ [] = e ∙ one in
    let t : since ++ mark ∷ rest ≡ [] = cc in
    let l = ap length t ∙ refl in
    let m = length-append since (mark ∷ rest) in
    absurd (omega (arith, l, m))

acks_push : (done : List Mark) → acks (done ++ AckMark ∷ []) ≡ acks done + 1
acks_push done = sum_by-append (λ m. cond (is_ack m) 1 0) done (AckMark ∷ [])

-- A page that nothing decides isn't accepted: at block k, with j more behind it.
abbrev NoneOpen : Option (List ℕ) → Directory → PageToSend → List ℕ → List Mark → ℕ → ℕ → Type 0
NoneOpen password table p r extra j k = (n : ℕ) → k + suc j ≡ count_of (content p)
    → (s : Course) (done marks : List Mark) (ps : List InputPiece) → acks done ≡ k → IsUndecided (count_of (content p)) (done ++ marks)
    → s.joined ≡ take (250 * k) (content p) → Reads password AfterLogon ps r (take n (block_at (content p) k ++ said_after (content p) k marks))
    → marks ≡ heard_from table s (items_of password ps) ++ extra → accepted_from table s (items_of password ps) ≡ []

abbrev NoneBefore : Option (List ℕ) → Directory → PageToSend → List ℕ → List Mark → ℕ → ℕ → Type 0
NoneBefore password table p r extra zero k = Unit {0}
NoneBefore password table p r extra (suc j) k = NoneOpen password table p r extra j k

none_step : (password : Option (List ℕ)) (table : Directory) (p : PageToSend) (r : List ℕ) (extra : List Mark) → IsPage p → (j k : ℕ) → NoneBefore password table p r extra j (k + 1) → NoneOpen password table p r extra j k
none_step password table p r extra h j k before n left s done marks ps ak undecided joined reads heard = by_size (cases_lt n (length (block_at (content p) k)))
  where
    by_answer : (j : ℕ) → k + suc j ≡ count_of (content p) → NoneBefore password table p r extra j (k + 1) → (qs : List InputPiece) → Answered table p k s (items_of password ps) (items_of password qs)
        → Reads password AfterLogon qs r (take (n - length (block_at (content p) k)) (said_after (content p) k marks)) → accepted_from table s (items_of password ps) ≡ []
    by_answer j left again qs (accepted last t je a ia hm pm) again_reads =
        absurd (undecided done AckMark _ Sent (ap (λ z. done ++ z) (heard ∙ ap (λ z. z ++ extra) hm)) (omega (arith, ak, last), refl))
    by_answer j left again qs (given_up last t je hm pm) again_reads =
        absurd (undecided done RsMark _ Abandoned (ap (λ z. done ++ z) (heard ∙ ap (λ z. z ++ extra) hm)) refl)
    by_answer zero left again qs (further more t je hm pm) again_reads = absurd (omega (arith, left, more))
    by_answer (suc i) left again qs (further more t je hm pm) again_reads =
        let e : marks ≡ AckMark ∷ (heard_from table t (items_of password qs) ++ extra) = heard ∙ ap (λ z. z ++ extra) hm in
        pm ∙ again (n - length (block_at (content p) k)) (omega (arith, left)) t (done ++ AckMark ∷ []) (heard_from table t (items_of password qs) ++ extra) qs (acks_push done ∙ ap (λ n. n + 1) ak)
        (subst (λ z. IsUndecided (count_of (content p)) z) (ap (λ z. done ++ z) e ∙ sym (append_assoc done (AckMark ∷ []) _)) undecided) je
        (subst (λ z. Reads password AfterLogon qs r (take (n - length (block_at (content p) k)) (said_after (content p) k z))) e again_reads) refl

    by_size : (n < length (block_at (content p) k)) ⊎ (length (block_at (content p) k) ≤ n) → accepted_from table s (items_of password ps) ≡ []
    by_size (inl short) = ap (λ z. accepted_from table s (items_of password z)) (cut_off password p k n (said_after (content p) k marks) ps r h short reads)
    by_size (inr whole) =
        let t = taken_in password table p k s (take (n - length (block_at (content p) k)) (said_after (content p) k marks)) ps r _ h (omega (arith, left)) joined (take_over n (block_at (content p) k) (said_after (content p) k marks) whole) reads in
        by_answer j left before t.others t.answered t.reads

none_open : (password : Option (List ℕ)) (table : Directory) (p : PageToSend) (r : List ℕ) (extra : List Mark) → IsPage p → (j k : ℕ) → NoneOpen password table p r extra j k
none_open password table p r extra h zero k = none_step password table p r extra h zero k tt
none_open password table p r extra h (suc j) k = none_step password table p r extra h (suc j) k (none_open password table p r extra h j (k + 1))

-- A page was decided, and what follows is read from here on.
record IsPassed (password : Option (List ℕ)) (table : Directory) (p : PageToSend) (s : Course) (r more : List ℕ) (rest extra : List Mark) (ps : List InputPiece) (outcome : Outcome) : Type 0 where
  others : List InputPiece
  room : ℕ
  reads : Reads password AfterLogon others r (take room more)
  course : Course
  joined : course.joined ≡ []
  heard : rest ≡ heard_from table course (items_of password others) ++ extra
  result : ((outcome ≡ Sent) × ((own : List Accepted) × AreFor table p own × (accepted_from table s (items_of password ps) ≡ own ++ accepted_from table course (items_of password others))))
      ⊎ ((outcome ≡ Abandoned) × (accepted_from table s (items_of password ps) ≡ accepted_from table course (items_of password others)))

-- A page was decided: by the answer to its last block, or by the End that the length of the session brought.
data Comes (password : Option (List ℕ)) (table : Directory) (p : PageToSend) (s : Course) (r more : List ℕ) (rest extra : List Mark) (ps : List InputPiece) (outcome : Outcome) : Type 0 where
  passed : IsPassed password table p s r more rest extra ps outcome → Comes password table p s r more rest extra ps outcome
  ended : outcome ≡ Disconnected → accepted_from table s (items_of password ps) ≡ [] → Comes password table p s r more rest extra ps outcome

abbrev Passes : Option (List ℕ) → Directory → PageToSend → List ℕ → List ℕ → List Mark → List Mark → Outcome → Mark → ℕ → ℕ → Type 0
Passes password table p r more rest extra outcome mark j k = (n : ℕ) → k + suc j ≡ count_of (content p)
    → (s : Course) (done since : List Mark) (ps : List InputPiece) → acks done ≡ k → IsUndecided (count_of (content p)) (done ++ since)
    → Decides (count_of (content p)) (done ++ since) mark outcome
    → s.joined ≡ take (250 * k) (content p) → Reads password AfterLogon ps r (take n (block_at (content p) k ++ (said_after (content p) k since ++ more)))
    → since ++ mark ∷ rest ≡ heard_from table s (items_of password ps) ++ extra → Comes password table p s r more rest extra ps outcome

abbrev PassesBefore : Option (List ℕ) → Directory → PageToSend → List ℕ → List ℕ → List Mark → List Mark → Outcome → Mark → ℕ → ℕ → Type 0
PassesBefore password table p r more rest extra outcome mark zero k = Unit {0}
PassesBefore password table p r more rest extra outcome mark (suc j) k = Passes password table p r more rest extra outcome mark j k

head_is : (c d : Mark) (x y : List Mark) → c ∷ x ≡ d ∷ y → c ≡ d
head_is c d x y e = cc

tail_is : (c d : Mark) (x y : List Mark) → c ∷ x ≡ d ∷ y → x ≡ y
tail_is c d x y e = cc

-- the same where the first mark is known
passes_step : (password : Option (List ℕ)) (table : Directory) (p : PageToSend) (r more : List ℕ) (rest extra : List Mark) (outcome : Outcome) (mark : Mark) → IsPage p → IsClosing extra → (j k : ℕ)
    → PassesBefore password table p r more rest extra outcome mark j (k + 1) → Passes password table p r more rest extra outcome mark j k
passes_step password table p r more rest extra outcome mark h closing j k before n left s done since ps ak undecided decides joined reads heard = by_size (cases_lt n (length (block_at (content p) k)))
  where
    by_answer : (j : ℕ) → k + suc j ≡ count_of (content p) → PassesBefore password table p r more rest extra outcome mark j (k + 1)
        → (qs : List InputPiece) → Answered table p k s (items_of password ps) (items_of password qs) → (since : List Mark)
        → IsUndecided (count_of (content p)) (done ++ since) → Decides (count_of (content p)) (done ++ since) mark outcome
        → since ++ mark ∷ rest ≡ heard_from table s (items_of password ps) ++ extra
        → Reads password AfterLogon qs r (take (n - length (block_at (content p) k)) (said_after (content p) k since ++ more)) → Comes password table p s r more rest extra ps outcome
    by_answer j left again qs (accepted last t je a ia hm pm) [] undecided decides heard reads =
        let e = heard ∙ ap (λ z. z ++ extra) hm in
        let d = subst (λ m. Decides (count_of (content p)) (done ++ []) m outcome) (head_is _ _ _ _ e) decides in
        passed (record { others = qs; room = n - length (block_at (content p) k); reads = reads; course = t; joined = je; heard = tail_is _ _ _ _ e; result = inl (d.1, (a, ia, pm)) })
    by_answer j left again qs (accepted last t je a ia hm pm) (c ∷ since) undecided decides heard reads =
        let e = head_is c AckMark _ _ (heard ∙ ap (λ z. z ++ extra) hm) in
        absurd (undecided done AckMark since Sent (ap (λ m. done ++ m ∷ since) e) (omega (arith, ak, last), refl))
    by_answer j left again qs (given_up last t je hm pm) [] undecided decides heard reads =
        let e = heard ∙ ap (λ z. z ++ extra) hm in
        let d = subst (λ m. Decides (count_of (content p)) (done ++ []) m outcome) (head_is _ _ _ _ e) decides in
        passed (record { others = qs; room = n - length (block_at (content p) k); reads = reads; course = t; joined = je; heard = tail_is _ _ _ _ e; result = inr (d, pm) })
    by_answer j left again qs (given_up last t je hm pm) (c ∷ since) undecided decides heard reads =
        let e = head_is c RsMark _ _ (heard ∙ ap (λ z. z ++ extra) hm) in
        absurd (undecided done RsMark since Abandoned (ap (λ m. done ++ m ∷ since) e) refl)
    by_answer j left again qs (further fewer t je hm pm) [] undecided decides heard reads =
        let d = subst (λ m. Decides (count_of (content p)) (done ++ []) m outcome) (head_is _ _ _ _ (heard ∙ ap (λ z. z ++ extra) hm)) decides in
        let k1 = d.0 in let q = ap acks (append-nil done) in
        absurd (omega (arith, k1, q, ak, fewer))
    by_answer zero left again qs (further fewer t je hm pm) (c ∷ since) undecided decides heard reads = absurd (omega (arith, left, fewer))
    by_answer (suc i) left again qs (further fewer t je hm pm) (c ∷ since) undecided decides heard reads =
        let e = head_is c AckMark _ _ (heard ∙ ap (λ z. z ++ extra) hm) in
        let f : done ++ c ∷ since ≡ (done ++ AckMark ∷ []) ++ since = ap (λ m. done ++ m ∷ since) e ∙ sym (append_assoc done (AckMark ∷ []) since) in
        let u : IsUndecided (count_of (content p)) ((done ++ AckMark ∷ []) ++ since) = subst (λ z. IsUndecided (count_of (content p)) z) f undecided in
        let d : Decides (count_of (content p)) ((done ++ AckMark ∷ []) ++ since) mark outcome = subst (λ z. Decides (count_of (content p)) z mark outcome) f decides in
        let g : said_after (content p) k (c ∷ since) ++ more ≡ block_at (content p) (k + 1) ++ (said_after (content p) (k + 1) since ++ more) =
        ap (λ m. said_after (content p) k (m ∷ since) ++ more) e ∙ append_assoc (block_at (content p) (k + 1)) (said_after (content p) (k + 1) since) more in
        from_there (again (n - length (block_at (content p) k)) (omega (arith, left)) t (done ++ AckMark ∷ []) since qs (acks_push done ∙ ap (λ n. n + 1) ak) u d je
        (subst (λ z. Reads password AfterLogon qs r (take (n - length (block_at (content p) k)) z)) g reads) (tail_is _ _ _ _ (heard ∙ ap (λ z. z ++ extra) hm)))
      where
        also : (os : List InputPiece) (u : Course) → ((outcome ≡ Sent) × ((own : List Accepted) × AreFor table p own × (accepted_from table t (items_of password qs) ≡ own ++ accepted_from table u (items_of password os))))
            ⊎ ((outcome ≡ Abandoned) × (accepted_from table t (items_of password qs) ≡ accepted_from table u (items_of password os)))
            → ((outcome ≡ Sent) × ((own : List Accepted) × AreFor table p own × (accepted_from table s (items_of password ps) ≡ own ++ accepted_from table u (items_of password os))))
            ⊎ ((outcome ≡ Abandoned) × (accepted_from table s (items_of password ps) ≡ accepted_from table u (items_of password os)))
        also os u (inl (o, a)) = inl (o, (a.0, a.1, pm ∙ a.2))
        also os u (inr (o, a)) = inr (o, pm ∙ a)

        from_there : Comes password table p t r more rest extra qs outcome → Comes password table p s r more rest extra ps outcome
        from_there (passed m) = passed (record { others = m.others; room = m.room; reads = m.reads; course = m.course; joined = m.joined; heard = m.heard; result = also m.others m.course m.result })
        from_there (ended o none) = ended o (pm ∙ none)

    by_size : (n < length (block_at (content p) k)) ⊎ (length (block_at (content p) k) ≤ n) → Comes password table p s r more rest extra ps outcome
    by_size (inl short) =
        let none = cut_off password p k n (said_after (content p) k since ++ more) ps r h short reads in
        let m = last_mark since mark rest extra closing (heard ∙ ap (λ z. heard_from table s (items_of password z) ++ extra) none) in
        ended (subst (λ z. Decides (count_of (content p)) (done ++ since) z outcome) m decides) (ap (λ z. accepted_from table s (items_of password z)) none)
    by_size (inr whole) =
        let t = taken_in password table p k s (take (n - length (block_at (content p) k)) (said_after (content p) k since ++ more)) ps r _ h (omega (arith, left)) joined
        (take_over n (block_at (content p) k) (said_after (content p) k since ++ more) whole) reads in
        by_answer j left before t.others t.answered since undecided decides heard t.reads

passes : (password : Option (List ℕ)) (table : Directory) (p : PageToSend) (r more : List ℕ) (rest extra : List Mark) (outcome : Outcome) (mark : Mark) → IsPage p → IsClosing extra → (j k : ℕ) → Passes password table p r more rest extra outcome mark j k
passes password table p r more rest extra outcome mark h closing zero k = passes_step password table p r more rest extra outcome mark h closing zero k tt
passes password table p r more rest extra outcome mark h closing (suc j) k = passes_step password table p r more rest extra outcome mark h closing (suc j) k (passes password table p r more rest extra outcome mark h closing j (k + 1))

none_sent : (outcome : Outcome) → outcome ≢ Sent → (pages : List PageToSend) → sent_of pages (all_are outcome pages) ≡ []
none_sent outcome ne [] = refl
none_sent Sent ne (p ∷ pages) = absurd (ne refl)
none_sent Abandoned ne (p ∷ pages) = none_sent Abandoned ne pages
none_sent TriesSpent ne (p ∷ pages) = none_sent TriesSpent ne pages
none_sent Disconnected ne (p ∷ pages) = none_sent Disconnected ne pages
none_sent NoLogon ne (p ∷ pages) = none_sent NoLogon ne pages

some_block : (p : PageToSend) → IsPage p → 0 + suc (count_of (content p) - 1) ≡ count_of (content p)
some_block p h = let n = content_some p h in omega (arith, n)

-- where no page is sent none is accepted
none_for : (table : Directory) (pages : List PageToSend) (outcomes : List Outcome) (queued : List Accepted) → outcomes ≡ all_are Disconnected pages → queued ≡ [] → AreForAll table (sent_of pages outcomes) queued
none_for table pages outcomes queued is none =
    subst (λ z. AreForAll table (sent_of pages z) queued) (sym is) (subst (λ z. AreForAll table z queued) (sym (none_sent Disconnected (λ e. cc) pages)) none)

-- only EOT CR is said, or a front of it is read
leaves : (password : Option (List ℕ)) (table : Directory) (s : Course) (ps : List InputPiece) (r t : List ℕ) (n : ℕ) → t ≡ good_bye → Reads password AfterLogon ps r (take n t) → accepted_from table s (items_of password ps) ≡ []
leaves password table s ps r t zero e reads = ap (λ z. accepted_from table s (items_of password z)) (no_pieces password AfterLogon ps r (take 0 t) refl reads)
leaves password table s ps r t (suc zero) e reads = ap (λ z. accepted_from table s (items_of password z)) (no_pieces password AfterLogon ps r (take 1 t) (ap (λ z. first_piece AfterLogon (take 1 z)) e) reads)
leaves password table s ps r t (suc (suc n)) e reads =
    let g = goes_first password AfterLogon bye [] ps r (take (suc (suc n)) t) (ap (take (suc (suc n))) e ∙ take_all (suc (suc n)) good_bye (omega arith)) tt reads in ap (λ z. accepted_from table s (items_of password z)) g.form

-- Both logged on: the pages that are marked sent are those accepted.
pub sends_joined : (password : Option (List ℕ)) (table : Directory) (pages : List PageToSend) → AllByRecursion IsPage pages
    → (marks : List Mark) (outcomes : List Outcome) (t r : List ℕ) (s : Course) (ps : List InputPiece) (n : ℕ) (extra : List Mark) → IsClosing extra → Sends pages marks outcomes t → s.joined ≡ []
    → Reads password AfterLogon ps r (take n t) → marks ≡ heard_from table s (items_of password ps) ++ extra
    → AreForAll table (sent_of pages outcomes) (accepted_from table s (items_of password ps))
sends_joined password table [] h marks outcomes t r s ps n extra closing sends joined reads heard =
    leaves password table s ps r t n sends.1 reads
sends_joined password table (p ∷ pages) h marks outcomes t r s ps n extra closing (inl o) joined reads heard =
    let none = none_open password table p r extra h.0 (count_of (content p) - 1) 0 n (some_block p h.0) s [] marks ps refl o.undecided joined
    (subst (λ z. Reads password AfterLogon ps r (take n z)) o.said_is reads) heard in
    none_for table (p ∷ pages) outcomes (accepted_from table s (items_of password ps)) o.outcomes_are none
sends_joined password table (p ∷ pages) h marks outcomes t r s ps n extra closing (inr d) joined reads heard =
    by_passage (passes password table p r d.more d.rest extra d.outcome d.mark h.0 closing (count_of (content p) - 1) 0 n (some_block p h.0) s [] d.since ps refl d.undecided d.decides joined
    (subst (λ z. Reads password AfterLogon ps r (take n z)) (d.said_is ∙ append_assoc (block_at (content p) 0) (said_after (content p) 0 d.since) d.more) reads) (sym d.marks_are ∙ heard))
    (λ m sends. sends_joined password table pages h.1 d.rest d.others d.more r m.course m.others m.room extra closing sends m.joined m.reads m.heard)
  where
    by_result : (u : Course) (os : List InputPiece) → ((d.outcome ≡ Sent) × ((own : List Accepted) × AreFor table p own × (accepted_from table s (items_of password ps) ≡ own ++ accepted_from table u (items_of password os))))
        ⊎ ((d.outcome ≡ Abandoned) × (accepted_from table s (items_of password ps) ≡ accepted_from table u (items_of password os)))
        → (Sends pages d.rest d.others d.more → AreForAll table (sent_of pages d.others) (accepted_from table u (items_of password os)))
        → AreForAll table (sent_of (p ∷ pages) outcomes) (accepted_from table s (items_of password ps))
    by_result u os (inl (e, a)) again =
        let f : Sends pages d.rest d.others d.more = subst (λ o. Follows o pages (λ os more. Sends pages d.rest os more) d.others d.more) e d.follows in
        let q : outcomes ≡ Sent ∷ d.others = d.outcomes_are ∙ ap (λ o. o ∷ d.others) e in
        subst (λ z. AreForAll table (sent_of (p ∷ pages) z) (accepted_from table s (items_of password ps))) (sym q)
        (a.0, accepted_from table u (items_of password os), a.2, a.1, again f)
    by_result u os (inr (e, a)) again =
        let f : Sends pages d.rest d.others d.more = subst (λ o. Follows o pages (λ os more. Sends pages d.rest os more) d.others d.more) e d.follows in
        let q : outcomes ≡ Abandoned ∷ d.others = d.outcomes_are ∙ ap (λ o. o ∷ d.others) e in
        subst (λ z. AreForAll table (sent_of (p ∷ pages) z) (accepted_from table s (items_of password ps))) (sym q)
        (subst (λ z. AreForAll table (sent_of pages d.others) z) (sym a) (again f))

    by_passage : Comes password table p s r d.more d.rest extra ps d.outcome
        → ((m : IsPassed password table p s r d.more d.rest extra ps d.outcome) → Sends pages d.rest d.others d.more → AreForAll table (sent_of pages d.others) (accepted_from table m.course (items_of password m.others)))
        → AreForAll table (sent_of (p ∷ pages) outcomes) (accepted_from table s (items_of password ps))
    by_passage (passed m) again = by_result m.course m.others m.result (again m)
    by_passage (ended e none) again =
        let f : (d.others ≡ all_are Disconnected pages) × (d.more ≡ []) = subst (λ o. Follows o pages (λ os more. Sends pages d.rest os more) d.others d.more) e d.follows in
        let q : outcomes ≡ all_are Disconnected (p ∷ pages) = d.outcomes_are ∙ ap₂ (λ o os. o ∷ os) e f.0 in
        none_for table (p ∷ pages) outcomes (accepted_from table s (items_of password ps)) q none
