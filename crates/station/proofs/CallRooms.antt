-- How much a client says at most.
use Rattle.std.proofs.Common.{◌≡◌, ℕ, ◌+◌, ◌*◌, ◌≤◌, Bool, not, ◌==◌, inl, inr, List, [], ◌∷◌, ◌++◌, length, length-append, length-take, take, Option, Some, None, refl, ◌∙◌, ap, arith}
use Rattle.std.specs.Prelude.{if◌then◌else◌, filter}
use Rattle.std.specs.List.{AllByRecursion, filter_map, flat_map}
use Rattle.std.proofs.lemmas.List.{length-map}
use Rattle.std.proofs.lemmas.List.Filters.{length-filter_both}
use Rattle.entry_line.specs.Chars.{lf, cr, char_of}
use Rattle.tap_block.specs.Chars.{characters}
use Rattle.tap_entry.specs.declared.hearing.Mark.{Mark}
use Rattle.tap_entry.specs.declared.hearing.Mark.TheVariants.{Id, Ack, Nak, Rs, End, Go}
use Rattle.tap_entry.specs.declared.outcomes.Outcome.{Outcome}
use Rattle.tap_entry.specs.declared.outcomes.Outcome.TheVariants.{Sent, Abandoned, TriesSpent, Disconnected, NoLogon}
use Rattle.tap_entry.specs.Client.{Client, Follows, LogsOn, PageToSend, Sends, answered, block_at, body_at, content, end_at, is_nak, logon_line, logons, said_after, said_for, silent, still_calling, turned_away}
use Rattle.tap_block.specs.Reading.{without_lf}
use Rattle.tap_entry.specs.Marks.{AreMarks, Ends, IsPiece, mark_of, prompt}
use Rattle.tap_entry.specs.PagesFile.{IsPassword}
use Rattle.station.specs.AirRoom.{CallFits}
use Rattle.both_ends.proofs.JoinedPages.{block_length}

-- ---- pages

block_few : (x : List ℕ) (k : ℕ) → length (block_at x k) ≤ 256
block_few x k =
    let e : length (block_at x k) ≡ length (body_at x k) + 6 = block_length (body_at x k) (end_at x k) in
    let t : length (body_at x k) ≤ 250 = simp length-take (omega arith) in
    omega (arith, e, t)

after_few : (x : List ℕ) (k : ℕ) (marks : List Mark) → length (said_after x k marks) ≤ 256 * length marks
after_few x k [] = omega arith
after_few x k (Ack ∷ marks) = let a = block_few x (k + 1) in let b = after_few x (k + 1) marks in let c = length-append (block_at x (k + 1)) (said_after x (k + 1) marks) in omega (arith, a, b, c)
after_few x k (Nak ∷ marks) = let a = block_few x k in let b = after_few x k marks in let c = length-append (block_at x k) (said_after x k marks) in omega (arith, a, b, c)
after_few x k (Id ∷ marks) = let b = after_few x k marks in omega (arith, b)
after_few x k (Rs ∷ marks) = let b = after_few x k marks in omega (arith, b)
after_few x k (End ∷ marks) = let b = after_few x k marks in omega (arith, b)
after_few x k (Go ∷ marks) = let b = after_few x k marks in omega (arith, b)

for_few : (x : List ℕ) (marks : List Mark) → length (said_for x marks) ≤ 256 + 256 * length marks
for_few x marks = let a = block_few x 0 in let b = after_few x 0 marks in let c = length-append (block_at x 0) (said_after x 0 marks) in omega (arith, a, b, c)

follows_few : (outcome : Outcome) (pages : List PageToSend) (on : List Outcome → List ℕ → Type 0) (others : List Outcome) (more : List ℕ) (n : ℕ) → (on others more → length more ≤ n + 2) → Follows outcome pages on others more → length more ≤ n + 2
follows_few TriesSpent pages on others more n f k = omega (arith, ap length k.1)
follows_few Disconnected pages on others more n f k = omega (arith, ap length k.1)
follows_few Sent pages on others more n f k = f k
follows_few Abandoned pages on others more n f k = f k
follows_few NoLogon pages on others more n f k = f k

sends_few : (pages : List PageToSend) (marks : List Mark) (outcomes : List Outcome) (said : List ℕ) → Sends pages marks outcomes said → length said ≤ 256 * (length pages + length marks) + 2
sends_few [] marks outcomes said h = omega (arith, ap length h.1)
sends_few (page ∷ pages) marks outcomes said (inl h) = let a = for_few (content page) marks in omega (arith, a, ap length h.said_is)
sends_few (page ∷ pages) marks outcomes said (inr h) =
    let a = for_few (content page) h.since in
    let b = follows_few h.outcome pages (λ others more. Sends pages h.rest others more) h.others h.more (256 * (length pages + length h.rest)) (sends_few pages h.rest h.others h.more) h.follows in
    let c = length-append (said_for (content page) h.since) h.more in
    let d = length-append h.since (h.mark ∷ h.rest) in
    omega (arith, a, b, c, d, ap length h.said_is, ap length h.marks_are)

-- ---- the logon

line_few : (password : Option (List ℕ)) → IsPassword password → length (logon_line password) ≤ 11
line_few None h = omega arith
line_few (Some password) h = let a = length-append password (cr ∷ []) in let b = h.0 in omega (arith, a, b)

again_few : (password : Option (List ℕ)) (since : List Mark) → IsPassword password → length (flat_map (λ m. if is_nak m then logon_line password else []) since) ≤ 11 * length since
again_few password [] h = omega arith
again_few password (Nak ∷ since) h = let a = line_few password h in let b = again_few password since h in let c = length-append (logon_line password) (flat_map (λ m. if is_nak m then logon_line password else []) since) in omega (arith, a, b, c)
again_few password (Id ∷ since) h = let b = again_few password since h in omega (arith, b)
again_few password (Ack ∷ since) h = let b = again_few password since h in omega (arith, b)
again_few password (Rs ∷ since) h = let b = again_few password since h in omega (arith, b)
again_few password (End ∷ since) h = let b = again_few password since h in omega (arith, b)
again_few password (Go ∷ since) h = let b = again_few password since h in omega (arith, b)

logons_few : (password : Option (List ℕ)) (since : List Mark) → IsPassword password → length (logons password since) ≤ 11 + 11 * length since
logons_few password since h = let a = line_few password h in let b = again_few password since h in let c = length-append (logon_line password) (flat_map (λ m. if is_nak m then logon_line password else []) since) in omega (arith, a, b, c)

logs_on_few : (mark : Mark) (pages : List PageToSend) (rest : List Mark) (outcomes : List Outcome) (more : List ℕ) → LogsOn mark pages rest outcomes more → length more ≤ 256 * (length pages + length rest) + 2
logs_on_few Go pages rest outcomes more h = sends_few pages rest outcomes more h
logs_on_few Id pages rest outcomes more h = omega (arith, ap length h.1)
logs_on_few Ack pages rest outcomes more h = omega (arith, ap length h.1)
logs_on_few Nak pages rest outcomes more h = omega (arith, ap length h.1)
logs_on_few Rs pages rest outcomes more h = omega (arith, ap length h.1)
logs_on_few End pages rest outcomes more h = omega (arith, ap length h.1)

client_few : (password : Option (List ℕ)) (pages : List PageToSend) (marks : List Mark) (outcomes : List Outcome) (said : List ℕ) → IsPassword password → Client password pages marks outcomes said
    → length said ≤ 14 + 256 * (length pages + length marks)
client_few password pages marks outcomes said p (silent h) = omega (arith, ap length h.said_is)
client_few password pages marks outcomes said p (turned_away h) = omega (arith, ap length h.said_is)
client_few password pages marks outcomes said p (still_calling h) =
    let a = logons_few password h.since p in
    let b = length-append h.before (Id ∷ h.since) in
    omega (arith, a, b, ap length h.said_is, ap length h.marks_are)
client_few password pages marks outcomes said p (answered h) =
    let a = logons_few password h.since p in
    let b = logs_on_few h.mark pages h.rest outcomes h.more h.logs_on in
    let c = length-append h.before (Id ∷ (h.since ++ h.mark ∷ h.rest)) in
    let d = length-append h.since (h.mark ∷ h.rest) in
    let e = length-append (logons password h.since) h.more in
    omega (arith, a, b, c, d, e, ap length h.said_is, ap length h.marks_are)

-- ---- the marks

piece_some : (p : List ℕ) → Ends p → 1 ≤ length p
piece_some p (l, inl e) = omega (arith, ap length e, length-append l (cr ∷ []))
piece_some p (l, inr e) = omega (arith, ap length e, length-append l prompt)

pieces_few : (pieces : List (List ℕ)) → AllByRecursion IsPiece pieces → length (filter_map mark_of pieces) ≤ length (flat_map (λ p. p) pieces)
pieces_few [] h = omega arith
pieces_few (p ∷ pieces) h = by_mark (mark_of p) refl (piece_some p (h.0).0) (pieces_few pieces h.1) (length-append p (flat_map (λ p. p) pieces))
  where
    by_mark : (m : Option Mark) → mark_of p ≡ m → 1 ≤ length p → length (filter_map mark_of pieces) ≤ length (flat_map (λ p. p) pieces)
        → length (p ++ flat_map (λ p. p) pieces) ≡ length p + length (flat_map (λ p. p) pieces) → length (filter_map mark_of (p ∷ pieces)) ≤ length (flat_map (λ p. p) (p ∷ pieces))
    by_mark None e some on joined = rw e (omega (arith, some, on, joined))
    by_mark (Some m) e some on joined = rw e (omega (arith, some, on, joined))

filter_few : (p : ℕ → Bool) (xs : List ℕ) → length (filter p xs) ≤ length xs
filter_few p xs = let e = length-filter_both p (λ x. not (p x)) (λ x. refl) xs in omega (arith, e)

marks_few : (x : List ℕ) (marks : List Mark) → AreMarks x marks → length marks ≤ length x
marks_few x marks h =
    let a = pieces_few h.pieces (h.cuts).each in
    let b = ap length (h.cuts).form ∙ length-append (flat_map (λ p. p) h.pieces) h.rest in
    let c : length (without_lf x) ≤ length x = filter_few (λ c. not (c == lf)) x in
    omega (arith, a, b, c, ap length h.marks_are)

pub call_fits : CallFits
call_fits bytes told c is room front said f within h =
    let a = client_few told.password told.pages h.marks h.outcomes said (is.whole).password h.client in
    let b = marks_few (take 999999 (characters front)) h.marks h.marks_are in
    let d : length (take 999999 (characters front)) ≤ length (characters front) = simp length-take (omega arith) in
    let e = length-map front char_of in
    let g = ap length f.is ∙ length-append front f.rest in
    omega (arith, a, b, d, e, g, room)
