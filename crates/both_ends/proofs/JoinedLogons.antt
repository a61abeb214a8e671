-- Both ends from the first character on.
use Rattle.std.proofs.Common.{◌≡◌, ◌≢◌, ℕ, ◌-◌, ◌≤◌, cond, Bool, true, false, List, [], ◌∷◌, ◌++◌, length, take, refl, ap, sym, ◌∙◌, subst, arith, append_assoc, append-nil, Option, Some, None, length-append, inl, inr}
use Rattle.std.specs.List.{AllByRecursion, flat_map}
use Rattle.std.specs.Prelude.{codes}
use Rattle.entry_line.specs.Chars.{cr}
use Rattle.tap_block.specs.Chars.{esc, characters}
use Rattle.tap_block.specs.Reading.{BeforeLogon, AfterLogon, InputPiece, line, Reads, Entry, logon, empty_line, wrong_line, line_item, is_logon, without_lf, mode_by, items_of}
use Rattle.both_ends.proofs.JoinedPieces.{goes_first}
use Rattle.tap_terminal.specs.declared.answers.Answer.{Answer}
use Rattle.tap_terminal.specs.declared.answers.Answer.TheVariants.{End}
use Rattle.page_text.specs.Page.{Page as Accepted}
use Rattle.subscribers.specs.Directory.{Directory}
use Rattle.tap_terminal.specs.Session.{ItemDecided, start, tell, answers_of, closing, is_too_long}
use Rattle.tap_entry.specs.Marks.{AreMarks}
use Rattle.tap_entry.specs.declared.hearing.Mark.{Mark}
use Rattle.tap_entry.specs.declared.hearing.Mark.TheVariants.{Id as IdMark, Ack as AckMark, Nak as NakMark, End as EndMark, Go as GoMark}
use Rattle.tap_entry.specs.declared.outcomes.Outcome.{Outcome}
use Rattle.tap_entry.specs.declared.outcomes.Outcome.TheVariants.{NoLogon}
use Rattle.tap_entry.specs.Client.{PageToSend, IsPage, Client, silent, turned_away, still_calling, answered, IsCalling, DecidesLogon, is_nak, password_text, logon_line, logons, LogsOn, Sends, all_are}
use Rattle.tap_terminal.specs.Replies.{replies}
use Rattle.both_ends.specs.Joined.{sent_of, AreForAll}
use Rattle.tap_entry.specs.PagesFile.{IsPassword}
use Rattle.both_ends.proofs.JoinedContents.{all_append, all_weak}
use Rattle.both_ends.proofs.JoinedSessions.{IsPlayed}
use Rattle.both_ends.proofs.JoinedReplies.{marks_for, reply_marks}
use Rattle.both_ends.proofs.JoinedPages.{heard_from, accepted_from, take_over, IsClosing, sends_joined}

-- the logon that the client says is one for the terminal
abbrev pub IsWelcome : Option (List ℕ) → Option (List ℕ) → Type 0
IsWelcome mine theirs = is_logon theirs (without_lf (esc ∷ codes "PG1" ++ password_text mine)) ≡ true

-- a line at the front is the first piece
pub record LineFirst (password : Option (List ℕ)) (l next : List ℕ) (ps : List InputPiece) (r : List ℕ) : Type 0 where
  pub others : List InputPiece
  pub items : items_of password ps ≡ line_item password (without_lf l) ∷ items_of password others
  pub reads : Reads password (mode_by (line_item password (without_lf l)) BeforeLogon) others r next

pub line_first : (password : Option (List ℕ)) (l next : List ℕ) (ps : List InputPiece) (r x : List ℕ) → AllByRecursion (λ c. c ≢ cr) l → x ≡ (l ++ cr ∷ []) ++ next → Reads password BeforeLogon ps r x → LineFirst password l next ps r
line_first password l next ps r x h e reads =
    let g = goes_first password BeforeLogon (line l) next ps r x e h reads in
    record { others = g.others; items = ap (items_of password) g.form; reads = g.reads }

abbrev pub logon_text : Option (List ℕ) → List ℕ
logon_text mine = esc ∷ codes "PG1" ++ password_text mine

pub logon_no_cr : (mine : Option (List ℕ)) → IsPassword mine → AllByRecursion (λ c. c ≢ cr) (logon_text mine)
logon_no_cr mine h = all_append (λ c. c ≢ cr) (esc ∷ codes "PG1") (password_text mine)
    ((λ e. omega (arith, e)), ((λ e. omega (arith, e)), ((λ e. omega (arith, e)), ((λ e. omega (arith, e)), tt)))) (of_word mine h)
  where
    of_word : (mine : Option (List ℕ)) → IsPassword mine → AllByRecursion (λ c. c ≢ cr) (password_text mine)
    of_word None h = tt
    of_word (Some word) h = all_weak (λ c. (33 ≤ c) × (c ≤ 126)) (λ c. c ≢ cr) (λ c k e. let l = k.0 in omega (arith, l, e)) word h.1

pub logon_short : (mine : Option (List ℕ)) → IsPassword mine → length (logon_line mine) ≤ 11
logon_short mine h = let a = length-append (logon_text mine) (cr ∷ []) in let b = length-append (esc ∷ codes "PG1") (password_text mine) in let c = of_word mine h in omega (arith, a, b, c)
  where
    of_word : (mine : Option (List ℕ)) → IsPassword mine → length (password_text mine) ≤ 6
    of_word None h = omega arith
    of_word (Some word) h = let l = h.0 in omega (arith, l)

pub logon_item : (theirs : Option (List ℕ)) (l : List ℕ) → is_logon theirs l ≡ true → line_item theirs l ≡ logon
logon_item theirs [] e = absurd cc
logon_item theirs (c ∷ l) e = rw e refl

flat_append : (xs ys : List Answer) → flat_map marks_for (xs ++ ys) ≡ flat_map marks_for xs ++ flat_map marks_for ys
flat_append [] ys = refl
flat_append (x ∷ xs) ys = ap (λ z. marks_for x ++ z) (flat_append xs ys) ∙ sym (append_assoc (marks_for x) (flat_map marks_for xs) (flat_map marks_for ys))

-- the marks of what closes a session
closing_marks : (told : List ItemDecided) (count : ℕ) → IsClosing (flat_map marks_for (closing told count))
closing_marks told count = by_test (is_too_long told count)
  where
    by_test : (b : Bool) → IsClosing (flat_map marks_for (cond b (End ∷ []) []))
    by_test true = inr refl
    by_test false = inl refl

-- What the terminal made of the CR and the logon: the marks, and what it reads on.
record IsGreeted (theirs : Option (List ℕ)) (table : Directory) (spare : ℕ) (more : List ℕ) (marks : List Mark) (accepted : List Accepted) : Type 0 where
  pieces : List InputPiece
  rest : List ℕ
  room : ℕ
  reads : Reads theirs AfterLogon pieces rest (take room more)
  extra : List Mark
  closing : IsClosing extra
  marks_are : marks ≡ IdMark ∷ AckMark ∷ GoMark ∷ (heard_from table (start spare) (items_of theirs pieces) ++ extra)
  accepted_are : accepted ≡ accepted_from table (start spare) (items_of theirs pieces)

greeted : (mine theirs : Option (List ℕ)) (table : Directory) (spare : ℕ) (more t : List ℕ) (marks : List Mark) (answers : List Answer) (accepted : List Accepted)
    → IsPassword mine → IsWelcome mine theirs → t ≡ cr ∷ (logon_line mine ++ more) → IsPlayed theirs table spare t answers accepted → marks ≡ flat_map marks_for answers
    → IsGreeted theirs table spare more marks accepted
greeted mine theirs table spare more t marks answers accepted secret welcome form session heard =
    let short = logon_short mine secret in
    let a : take 999999 t ≡ ([] ++ cr ∷ []) ++ take 999998 (logon_line mine ++ more) = ap (take 999999) form ∙ take_over 999999 (cr ∷ []) (logon_line mine ++ more) (omega arith) in
    let b : take 999998 (logon_line mine ++ more) ≡ (logon_text mine ++ cr ∷ []) ++ take (999998 - length (logon_line mine)) more = take_over 999998 (logon_line mine) more (omega (arith, short)) in
    let f = line_first theirs [] (take 999998 (logon_line mine ++ more)) session.pieces session.rest (take 999999 t) tt a session.reads in
    let g = line_first theirs (logon_text mine) (take (999998 - length (logon_line mine)) more) f.others session.rest (take 999998 (logon_line mine ++ more)) (logon_no_cr mine secret) b f.reads in
    let i = logon_item theirs (without_lf (logon_text mine)) welcome in
    let items : items_of theirs session.pieces ≡ empty_line ∷ logon ∷ items_of theirs g.others = f.items ∙ ap (λ z. empty_line ∷ z) (g.items ∙ ap (λ z. z ∷ items_of theirs g.others) i) in
    record {
      pieces = g.others;
      rest = session.rest;
      room = 999998 - length (logon_line mine);
      reads = subst (λ z. Reads theirs (mode_by z BeforeLogon) g.others session.rest (take (999998 - length (logon_line mine)) more)) i g.reads;
      extra = flat_map marks_for (closing (tell table (start spare) (items_of theirs session.pieces)) (length t));
      closing = closing_marks (tell table (start spare) (items_of theirs session.pieces)) (length t);
      marks_are = heard ∙ ap (flat_map marks_for) session.answers_are ∙ flat_append (answers_of (tell table (start spare) (items_of theirs session.pieces))) (closing (tell table (start spare) (items_of theirs session.pieces)) (length t))
          ∙ ap (λ z. heard_from table (start spare) z ++ flat_map marks_for (closing (tell table (start spare) (items_of theirs session.pieces)) (length t))) items;
      accepted_are = session.pages_are ∙ ap (accepted_from table (start spare)) items;
    }

-- the empty line is answered by a prompt
prompted : (theirs : Option (List ℕ)) (table : Directory) (spare : ℕ) (more t : List ℕ) (marks : List Mark) (answers : List Answer) (accepted : List Accepted)
    → t ≡ cr ∷ more → IsPlayed theirs table spare t answers accepted → marks ≡ flat_map marks_for answers → (rest : List Mark) × (marks ≡ IdMark ∷ rest)
prompted theirs table spare more t marks answers accepted form session heard =
    let a : take 999999 t ≡ ([] ++ cr ∷ []) ++ take 999998 more = ap (take 999999) form ∙ take_over 999999 (cr ∷ []) more (omega arith) in
    let f = line_first theirs [] (take 999998 more) session.pieces session.rest (take 999999 t) tt a session.reads in (
      heard_from table (start spare) (items_of theirs f.others) ++ flat_map marks_for (closing (tell table (start spare) (items_of theirs session.pieces)) (length t)),
      heard ∙ ap (flat_map marks_for) session.answers_are ∙ flat_append (answers_of (tell table (start spare) (items_of theirs session.pieces))) (closing (tell table (start spare) (items_of theirs session.pieces)) (length t))
          ∙ ap (λ z. heard_from table (start spare) z ++ flat_map marks_for (closing (tell table (start spare) (items_of theirs session.pieces)) (length t))) f.items,
    )

head_is : (c d : Mark) (x y : List Mark) → c ∷ x ≡ d ∷ y → c ≡ d
head_is c d x y e = cc

tail_is : (c d : Mark) (x y : List Mark) → c ∷ x ≡ d ∷ y → x ≡ y
tail_is c d x y e = cc

-- nothing stands before the first prompt
none_before : (before since rest : List Mark) → AllByRecursion (λ m. (m ≢ IdMark) × (m ≢ EndMark)) before → before ++ IdMark ∷ since ≡ IdMark ∷ rest → since ≡ rest
none_before [] since rest h e = tail_is _ _ _ _ e
none_before (b ∷ before) since rest h e = absurd (h.0.0 (head_is _ _ _ _ e))

-- Go is the first mark that decides
go_decides : (since : List Mark) (mark : Mark) (rest ms : List Mark) → IsCalling since → DecidesLogon since mark → since ++ mark ∷ rest ≡ AckMark ∷ GoMark ∷ ms
    → (since ≡ AckMark ∷ []) × (mark ≡ GoMark) × (rest ≡ ms)
go_decides [] mark rest ms c d e = let q = head_is _ _ _ _ e in absurd (subst (λ m. DecidesLogon [] m) q d)
go_decides (a ∷ []) mark rest ms c d e =
    let t = tail_is _ _ _ _ e in (ap (λ z. z ∷ []) (head_is _ _ _ _ e), head_is _ _ _ _ t, tail_is _ _ _ _ t)
go_decides (a ∷ b ∷ since) mark rest ms c d e =
    let q : b ≡ GoMark = head_is _ _ _ _ (tail_is _ _ _ _ e) in absurd (c (a ∷ []) GoMark since (ap (λ m. a ∷ m ∷ since) q) tt)

wrong_item : (theirs : Option (List ℕ)) (c : ℕ) (l : List ℕ) → is_logon theirs (c ∷ l) ≡ false → line_item theirs (c ∷ l) ≡ wrong_line
wrong_item theirs c l e = rw e refl

abbrev pub IsUnwelcome : Option (List ℕ) → Option (List ℕ) → Type 0
IsUnwelcome mine theirs = is_logon theirs (without_lf (logon_text mine)) ≡ false

-- one refused logon line more
record IsShunned (theirs : Option (List ℕ)) (next : List ℕ) (ps : List InputPiece) (r : List ℕ) : Type 0 where
  others : List InputPiece
  items : items_of theirs ps ≡ wrong_line ∷ items_of theirs others
  reads : Reads theirs BeforeLogon others r next

shunned : (mine theirs : Option (List ℕ)) (n : ℕ) (next : List ℕ) (ps : List InputPiece) (r : List ℕ) → IsPassword mine → IsUnwelcome mine theirs → 11 ≤ n → Reads theirs BeforeLogon ps r (take n (logon_line mine ++ next))
    → IsShunned theirs (take (n - length (logon_line mine)) next) ps r
shunned mine theirs n next ps r secret un room reads =
    let short = logon_short mine secret in
    let f = line_first theirs (logon_text mine) (take (n - length (logon_line mine)) next) ps r (take n (logon_line mine ++ next)) (logon_no_cr mine secret) (take_over n (logon_line mine) next (omega (arith, short, room))) reads in
    let i = wrong_item theirs 27 (without_lf (codes "PG1" ++ password_text mine)) un in
    record { others = f.others; items = f.items ∙ ap (λ z. z ∷ items_of theirs f.others) i; reads = subst (λ z. Reads theirs (mode_by z BeforeLogon) f.others r (take (n - length (logon_line mine)) next)) i f.reads }

-- the marks and pages of a session by its items
told_marks : (theirs : Option (List ℕ)) (table : Directory) (spare : ℕ) (t : List ℕ) (marks : List Mark) (answers : List Answer) (accepted : List Accepted) (items : List Entry)
    → (h : IsPlayed theirs table spare t answers accepted) → marks ≡ flat_map marks_for answers → items_of theirs h.pieces ≡ items
    → ((extra : List Mark) × (marks ≡ heard_from table (start spare) items ++ extra)) × (accepted ≡ accepted_from table (start spare) items)
told_marks theirs table spare t marks answers accepted items session heard is = (
  (
    flat_map marks_for (closing (tell table (start spare) (items_of theirs session.pieces)) (length t)),
    heard ∙ ap (flat_map marks_for) session.answers_are ∙ flat_append (answers_of (tell table (start spare) (items_of theirs session.pieces))) (closing (tell table (start spare) (items_of theirs session.pieces)) (length t))
        ∙ ap (λ z. heard_from table (start spare) z ++ flat_map marks_for (closing (tell table (start spare) (items_of theirs session.pieces)) (length t))) is,
  ),
  session.pages_are ∙ ap (accepted_from table (start spare)) is,
)

record IsShut (theirs : Option (List ℕ)) (table : Directory) (spare : ℕ) (t : List ℕ) (marks : List Mark) (accepted : List Accepted) (mine : Option (List ℕ)) : Type 0 where
  one : (x : List ℕ) → t ≡ cr ∷ (logon_line mine ++ x) → (ms : List Mark) × (marks ≡ IdMark ∷ NakMark ∷ ms)
  two : (x : List ℕ) → t ≡ cr ∷ (logon_line mine ++ (logon_line mine ++ x)) → (ms : List Mark) × (marks ≡ IdMark ∷ NakMark ∷ NakMark ∷ ms)
  three : (x : List ℕ) → t ≡ cr ∷ (logon_line mine ++ (logon_line mine ++ (logon_line mine ++ x))) → ((ms : List Mark) × (marks ≡ IdMark ∷ NakMark ∷ NakMark ∷ EndMark ∷ ms)) × (accepted ≡ [])

shut : (mine theirs : Option (List ℕ)) (table : Directory) (spare : ℕ) (t : List ℕ) (marks : List Mark) (answers : List Answer) (accepted : List Accepted)
    → IsPassword mine → IsUnwelcome mine theirs → IsPlayed theirs table spare t answers accepted → marks ≡ flat_map marks_for answers → IsShut theirs table spare t marks accepted mine
shut mine theirs table spare t marks answers accepted secret un session heard = record { one = one; two = two; three = three }
  where
    n : ℕ
    n = length (logon_line mine)

    begun : (y : List ℕ) → t ≡ cr ∷ y → LineFirst theirs [] (take 999998 y) session.pieces session.rest
    begun y form = line_first theirs [] (take 999998 y) session.pieces session.rest (take 999999 t) tt (ap (take 999999) form ∙ take_over 999999 (cr ∷ []) y (omega arith)) session.reads

    one : (x : List ℕ) → t ≡ cr ∷ (logon_line mine ++ x) → (ms : List Mark) × (marks ≡ IdMark ∷ NakMark ∷ ms)
    one x form =
        let f = begun (logon_line mine ++ x) form in
        let g = shunned mine theirs 999998 x f.others session.rest secret un (omega arith) f.reads in
        let m = told_marks theirs table spare t marks answers accepted _ session heard (f.items ∙ ap (λ z. empty_line ∷ z) g.items) in
        (_, m.0.1)

    two : (x : List ℕ) → t ≡ cr ∷ (logon_line mine ++ (logon_line mine ++ x)) → (ms : List Mark) × (marks ≡ IdMark ∷ NakMark ∷ NakMark ∷ ms)
    two x form =
        let short = logon_short mine secret in
        let f = begun (logon_line mine ++ (logon_line mine ++ x)) form in
        let g = shunned mine theirs 999998 (logon_line mine ++ x) f.others session.rest secret un (omega arith) f.reads in
        let k = shunned mine theirs (999998 - length (logon_line mine)) x g.others session.rest secret un (omega (arith, short)) g.reads in
        let m = told_marks theirs table spare t marks answers accepted _ session heard (f.items ∙ ap (λ z. empty_line ∷ z) (g.items ∙ ap (λ z. wrong_line ∷ z) k.items)) in
        (_, m.0.1)

    three : (x : List ℕ) → t ≡ cr ∷ (logon_line mine ++ (logon_line mine ++ (logon_line mine ++ x))) → ((ms : List Mark) × (marks ≡ IdMark ∷ NakMark ∷ NakMark ∷ EndMark ∷ ms)) × (accepted ≡ [])
    three x form =
        let short = logon_short mine secret in
        let f = begun (logon_line mine ++ (logon_line mine ++ (logon_line mine ++ x))) form in
        let g = shunned mine theirs 999998 (logon_line mine ++ (logon_line mine ++ x)) f.others session.rest secret un (omega arith) f.reads in
        let k = shunned mine theirs (999998 - length (logon_line mine)) (logon_line mine ++ x) g.others session.rest secret un (omega (arith, short)) g.reads in
        let l = shunned mine theirs (999998 - length (logon_line mine) - length (logon_line mine)) x k.others session.rest secret un (omega (arith, short)) k.reads in
        let m = told_marks theirs table spare t marks answers accepted _ session heard (f.items ∙ ap (λ z. empty_line ∷ z) (g.items ∙ ap (λ z. wrong_line ∷ z) (k.items ∙ ap (λ z. wrong_line ∷ z) l.items))) in
        ((_, m.0.1), m.1)

-- before the first prompt nothing happens
silent_no : (theirs : Option (List ℕ)) (table : Directory) (spare : ℕ) (t : List ℕ) (marks : List Mark) (answers : List Answer) (accepted : List Accepted) → t ≡ cr ∷ []
    → IsPlayed theirs table spare t answers accepted → marks ≡ flat_map marks_for answers → AllByRecursion (λ m. m ≢ IdMark) marks → ⊥
silent_no theirs table spare t marks answers accepted said_is session heard no_id =
    let p = prompted theirs table spare [] t marks answers accepted said_is session heard in
    (subst (λ z. AllByRecursion (λ m. m ≢ IdMark) z) p.1 no_id).0 refl

no_end : (before rest ms : List Mark) → AllByRecursion (λ m. m ≢ IdMark) before → before ++ EndMark ∷ rest ≡ IdMark ∷ ms → ⊥
no_end [] rest ms k e = let q = head_is _ _ _ _ e in cc
no_end (b ∷ before) rest ms k e = k.0 (head_is _ _ _ _ e)

away_no : (theirs : Option (List ℕ)) (table : Directory) (spare : ℕ) (t : List ℕ) (marks : List Mark) (answers : List Answer) (accepted : List Accepted) → t ≡ cr ∷ []
    → IsPlayed theirs table spare t answers accepted → marks ≡ flat_map marks_for answers → (before rest : List Mark) → AllByRecursion (λ m. m ≢ IdMark) before → marks ≡ before ++ EndMark ∷ rest → ⊥
away_no theirs table spare t marks answers accepted said_is session heard before rest no_id are =
    let p = prompted theirs table spare [] t marks answers accepted said_is session heard in no_end before rest p.0 no_id (sym are ∙ p.1)

welcomed : (mine theirs : Option (List ℕ)) (table : Directory) (spare : ℕ) (pages : List PageToSend) (t : List ℕ) (marks : List Mark) (outcomes : List Outcome) (answers : List Answer) (accepted : List Accepted)
    → AllByRecursion IsPage pages → IsPassword mine → IsWelcome mine theirs → Client mine pages marks outcomes t
    → IsPlayed theirs table spare t answers accepted → marks ≡ flat_map marks_for answers → AreForAll table (sent_of pages outcomes) accepted
welcomed mine theirs table spare pages t marks outcomes answers accepted good secret welcome client session heard = by_client client heard
  where
    by_client : Client mine pages marks outcomes t → marks ≡ flat_map marks_for answers → AreForAll table (sent_of pages outcomes) accepted
    by_client (silent s) heard = absurd (silent_no theirs table spare t marks answers accepted s.said_is session heard s.no_id)
    by_client (turned_away s) heard = absurd (away_no theirs table spare t marks answers accepted s.said_is session heard s.before s.rest s.no_id s.marks_are)
    by_client (still_calling s) heard =
        let g = greeted mine theirs table spare (flat_map (λ m. cond (is_nak m) (logon_line mine) []) s.since) t marks answers accepted secret welcome s.said_is session heard in
        let e = none_before s.before s.since _ s.ignored (sym s.marks_are ∙ g.marks_are) in
        absurd (s.calling (AckMark ∷ []) GoMark _ e tt)
    by_client (answered s) heard =
        let g = greeted mine theirs table spare (flat_map (λ m. cond (is_nak m) (logon_line mine) []) s.since ++ s.more) t marks answers accepted secret welcome
        (s.said_is ∙ ap (λ z. cr ∷ z) (append_assoc (logon_line mine) (flat_map (λ m. cond (is_nak m) (logon_line mine) []) s.since) s.more)) session heard in
        let e = none_before s.before (s.since ++ s.mark ∷ s.rest) _ s.ignored (sym s.marks_are ∙ g.marks_are) in
        let d = go_decides s.since s.mark s.rest _ s.calling s.decides e in
        let reads = subst (λ z. Reads theirs AfterLogon g.pieces g.rest (take g.room (flat_map (λ m. cond (is_nak m) (logon_line mine) []) z ++ s.more))) d.0 g.reads in
        let sends : Sends pages s.rest outcomes s.more = subst (λ m. LogsOn m pages s.rest outcomes s.more) d.1 s.logs_on in
        subst (λ z. AreForAll table (sent_of pages outcomes) z) (sym g.accepted_are)
        (sends_joined theirs table pages good s.rest outcomes s.more g.rest (start spare) g.pieces g.room g.extra g.closing sends refl reads d.2)

again : Option (List ℕ) → List Mark → List ℕ
again mine since = flat_map (λ m. cond (is_nak m) (logon_line mine) []) since

-- the third refusal ends it, and no page was accepted
shut_decides : (mine theirs : Option (List ℕ)) (table : Directory) (spare : ℕ) (t more : List ℕ) (marks rest : List Mark) (accepted : List Accepted) (since : List Mark) (mark : Mark)
    → IsShut theirs table spare t marks accepted mine → t ≡ cr ∷ (logon_line mine ++ (flat_map (λ m. cond (is_nak m) (logon_line mine) []) since ++ more)) → IsCalling since → DecidesLogon since mark
    → marks ≡ IdMark ∷ (since ++ mark ∷ rest) → (mark ≡ EndMark) × (accepted ≡ [])
shut_decides mine theirs table spare t more marks rest accepted [] mark h form calling decides are =
    let o = h.one more form in
    let m : mark ≡ NakMark = head_is _ _ _ _ (tail_is _ _ _ _ (sym are ∙ o.1)) in
    let d : 0 ≡ 2 = subst (λ m. DecidesLogon [] m) m decides in absurd (omega (arith, d))
shut_decides mine theirs table spare t more marks rest accepted (a ∷ since) mark h form calling decides are =
    let o = h.one _ form in
    let m : a ≡ NakMark = head_is _ _ _ _ (tail_is _ _ _ _ (sym are ∙ o.1)) in
    second since m (form ∙ ap (λ z. cr ∷ (logon_line mine ++ (flat_map (λ m. cond (is_nak m) (logon_line mine) []) (z ∷ since) ++ more))) m) (subst (λ z. IsCalling (z ∷ since)) m calling)
    (subst (λ z. DecidesLogon (z ∷ since) mark) m decides) (are ∙ ap (λ z. IdMark ∷ z ∷ (since ++ mark ∷ rest)) m)
  where
    second : (since : List Mark) → a ≡ NakMark → t ≡ cr ∷ (logon_line mine ++ ((logon_line mine ++ flat_map (λ m. cond (is_nak m) (logon_line mine) []) since) ++ more)) → IsCalling (NakMark ∷ since) → DecidesLogon (NakMark ∷ since) mark
        → marks ≡ IdMark ∷ NakMark ∷ (since ++ mark ∷ rest) → (mark ≡ EndMark) × (accepted ≡ [])
    second [] m form calling decides are =
        let o = h.two more (form ∙ ap (λ z. cr ∷ (logon_line mine ++ (z ++ more))) (append-nil (logon_line mine))) in
        let n : mark ≡ NakMark = head_is _ _ _ _ (tail_is _ _ _ _ (tail_is _ _ _ _ (sym are ∙ o.1))) in
        let d : 1 ≡ 2 = subst (λ m. DecidesLogon (NakMark ∷ []) m) n decides in absurd (omega (arith, d))
    second (b ∷ since) m form calling decides are =
        let form2 = form ∙ ap (λ z. cr ∷ (logon_line mine ++ z)) (append_assoc (logon_line mine) (flat_map (λ m. cond (is_nak m) (logon_line mine) []) (b ∷ since)) more) in
        let o = h.two _ form2 in
        let n : b ≡ NakMark = head_is _ _ _ _ (tail_is _ _ _ _ (tail_is _ _ _ _ (sym are ∙ o.1))) in
        third since (form2 ∙ ap (λ q. cr ∷ (logon_line mine ++ (logon_line mine ++ (flat_map (λ m. cond (is_nak m) (logon_line mine) []) (q ∷ since) ++ more)))) n
        ∙ ap (λ z. cr ∷ (logon_line mine ++ (logon_line mine ++ z))) (append_assoc (logon_line mine) (flat_map (λ m. cond (is_nak m) (logon_line mine) []) since) more))
        (subst (λ z. IsCalling (NakMark ∷ z ∷ since)) n calling) (are ∙ ap (λ z. IdMark ∷ NakMark ∷ z ∷ (since ++ mark ∷ rest)) n)
      where
        third : (since : List Mark) → t ≡ cr ∷ (logon_line mine ++ (logon_line mine ++ (logon_line mine ++ (flat_map (λ m. cond (is_nak m) (logon_line mine) []) since ++ more)))) → IsCalling (NakMark ∷ NakMark ∷ since)
            → marks ≡ IdMark ∷ NakMark ∷ NakMark ∷ (since ++ mark ∷ rest) → (mark ≡ EndMark) × (accepted ≡ [])
        third [] form calling are = let o = h.three _ form in (head_is _ _ _ _ (tail_is _ _ _ _ (tail_is _ _ _ _ (tail_is _ _ _ _ (sym are ∙ o.0.1)))), o.1)
        third (d ∷ since) form calling are =
            let o = h.three _ form in
            let e : d ≡ EndMark = head_is _ _ _ _ (tail_is _ _ _ _ (tail_is _ _ _ _ (tail_is _ _ _ _ (sym are ∙ o.0.1)))) in
            absurd (calling (NakMark ∷ NakMark ∷ []) EndMark since (ap (λ z. NakMark ∷ NakMark ∷ z ∷ since) e) tt)

-- a refused client hears that it is
still_shut : (mine theirs : Option (List ℕ)) (table : Directory) (spare : ℕ) (t : List ℕ) (marks : List Mark) (accepted : List Accepted) (since : List Mark)
    → IsShut theirs table spare t marks accepted mine → t ≡ cr ∷ (logon_line mine ++ flat_map (λ m. cond (is_nak m) (logon_line mine) []) since) → IsCalling since → marks ≡ IdMark ∷ since → ⊥
still_shut mine theirs table spare t marks accepted [] h form calling are =
    let o = h.one _ form in let e : [] ≡ NakMark ∷ o.0 = tail_is _ _ _ _ (sym are ∙ o.1) in cc
still_shut mine theirs table spare t marks accepted (a ∷ since) h form calling are =
    let o = h.one _ form in
    let m : a ≡ NakMark = head_is _ _ _ _ (tail_is _ _ _ _ (sym are ∙ o.1)) in
    second since (form ∙ ap (λ z. cr ∷ (logon_line mine ++ flat_map (λ m. cond (is_nak m) (logon_line mine) []) (z ∷ since))) m) (subst (λ z. IsCalling (z ∷ since)) m calling) (are ∙ ap (λ z. IdMark ∷ z ∷ since) m)
  where
    third : (since : List Mark) → t ≡ cr ∷ (logon_line mine ++ (logon_line mine ++ (logon_line mine ++ flat_map (λ m. cond (is_nak m) (logon_line mine) []) since))) → IsCalling (NakMark ∷ NakMark ∷ since)
        → marks ≡ IdMark ∷ NakMark ∷ NakMark ∷ since → ⊥
    third [] form calling are = let o = h.three _ form in let e : [] ≡ EndMark ∷ o.0.0 = tail_is _ _ _ _ (tail_is _ _ _ _ (tail_is _ _ _ _ (sym are ∙ o.0.1))) in cc
    third (d ∷ since) form calling are =
        let o = h.three _ form in
        let e : d ≡ EndMark = head_is _ _ _ _ (tail_is _ _ _ _ (tail_is _ _ _ _ (tail_is _ _ _ _ (sym are ∙ o.0.1)))) in
        calling (NakMark ∷ NakMark ∷ []) EndMark since (ap (λ z. NakMark ∷ NakMark ∷ z ∷ since) e) tt

    second : (since : List Mark) → t ≡ cr ∷ (logon_line mine ++ (logon_line mine ++ flat_map (λ m. cond (is_nak m) (logon_line mine) []) since)) → IsCalling (NakMark ∷ since) → marks ≡ IdMark ∷ NakMark ∷ since → ⊥
    second [] form calling are = let o = h.two _ form in let e : [] ≡ NakMark ∷ o.0 = tail_is _ _ _ _ (tail_is _ _ _ _ (sym are ∙ o.1)) in cc
    second (b ∷ since) form calling are =
        let o = h.two _ form in
        let n : b ≡ NakMark = head_is _ _ _ _ (tail_is _ _ _ _ (tail_is _ _ _ _ (sym are ∙ o.1))) in
        third since (form ∙ ap (λ z. cr ∷ (logon_line mine ++ (logon_line mine ++ flat_map (λ m. cond (is_nak m) (logon_line mine) []) (z ∷ since)))) n) (subst (λ z. IsCalling (NakMark ∷ z ∷ since)) n calling)
        (are ∙ ap (λ z. IdMark ∷ NakMark ∷ z ∷ since) n)

none_before_is : (before since rest : List Mark) → AllByRecursion (λ m. (m ≢ IdMark) × (m ≢ EndMark)) before → before ++ IdMark ∷ since ≡ IdMark ∷ rest → before ++ IdMark ∷ since ≡ IdMark ∷ since
none_before_is [] since rest h e = refl
none_before_is (b ∷ before) since rest h e = absurd (h.0.0 (head_is _ _ _ _ e))

none_no_logon : (pages : List PageToSend) → sent_of pages (all_are NoLogon pages) ≡ []
none_no_logon [] = refl
none_no_logon (p ∷ pages) = none_no_logon pages

-- a refused client marks no page sent, whatever it hears behind the mark that decides
pub unwelcomed_answered : (mine theirs : Option (List ℕ)) (table : Directory) (spare : ℕ) (pages : List PageToSend) (t : List ℕ) (all : List Mark) (outcomes : List Outcome) (answers : List Answer) (accepted : List Accepted)
    → IsPassword mine → IsUnwelcome mine theirs → IsPlayed theirs table spare t answers accepted → all ≡ flat_map marks_for answers
    → (before since : List Mark) (mark : Mark) (behind rest : List Mark) (more : List ℕ) → all ≡ before ++ IdMark ∷ (since ++ mark ∷ behind) → AllByRecursion (λ m. (m ≢ IdMark) × (m ≢ EndMark)) before
    → IsCalling since → DecidesLogon since mark → t ≡ cr ∷ (logons mine since ++ more) → LogsOn mark pages rest outcomes more → AreForAll table (sent_of pages outcomes) accepted
unwelcomed_answered mine theirs table spare pages t all outcomes answers accepted secret un session heard before since mark behind rest more all_are_marks ignored calling decides said_is logs_on =
    let h = shut mine theirs table spare t all answers accepted secret un session heard in
    let p = prompted theirs table spare _ t all answers accepted said_is session heard in
    let d = shut_decides mine theirs table spare t more all behind accepted since mark h
    (said_is ∙ ap (λ z. cr ∷ z) (append_assoc (logon_line mine) (flat_map (λ m. cond (is_nak m) (logon_line mine) []) since) more)) calling decides
    (all_are_marks ∙ none_before_is before (since ++ mark ∷ behind) p.0 ignored (sym all_are_marks ∙ p.1)) in
    let l : LogsOn EndMark pages rest outcomes more = subst (λ m. LogsOn m pages rest outcomes more) d.0 logs_on in
    subst (λ z. AreForAll table (sent_of pages z) accepted) (sym l.0) (subst (λ z. AreForAll table z accepted) (sym (none_no_logon pages)) d.1)

unwelcomed : (mine theirs : Option (List ℕ)) (table : Directory) (spare : ℕ) (pages : List PageToSend) (t : List ℕ) (marks : List Mark) (outcomes : List Outcome) (answers : List Answer) (accepted : List Accepted)
    → IsPassword mine → IsUnwelcome mine theirs → Client mine pages marks outcomes t
    → IsPlayed theirs table spare t answers accepted → marks ≡ flat_map marks_for answers → AreForAll table (sent_of pages outcomes) accepted
unwelcomed mine theirs table spare pages t marks outcomes answers accepted secret un client session heard = by_client client
  where
    h : IsShut theirs table spare t marks accepted mine
    h = shut mine theirs table spare t marks answers accepted secret un session heard

    nothing : outcomes ≡ all_are NoLogon pages → accepted ≡ [] → AreForAll table (sent_of pages outcomes) accepted
    nothing e f = subst (λ z. AreForAll table (sent_of pages z) accepted) (sym e) (subst (λ z. AreForAll table z accepted) (sym (none_no_logon pages)) f)

    by_client : Client mine pages marks outcomes t → AreForAll table (sent_of pages outcomes) accepted
    by_client (silent s) = absurd (silent_no theirs table spare t marks answers accepted s.said_is session heard s.no_id)
    by_client (turned_away s) = absurd (away_no theirs table spare t marks answers accepted s.said_is session heard s.before s.rest s.no_id s.marks_are)
    by_client (still_calling s) =
        let p = prompted theirs table spare _ t marks answers accepted s.said_is session heard in
        absurd (still_shut mine theirs table spare t marks accepted s.since h s.said_is s.calling (s.marks_are ∙ none_before_is s.before s.since p.0 s.ignored (sym s.marks_are ∙ p.1)))
    by_client (answered s) =
        let p = prompted theirs table spare _ t marks answers accepted s.said_is session heard in
        let d = shut_decides mine theirs table spare t s.more marks s.rest accepted s.since s.mark h
        (s.said_is ∙ ap (λ z. cr ∷ z) (append_assoc (logon_line mine) (flat_map (λ m. cond (is_nak m) (logon_line mine) []) s.since) s.more)) s.calling s.decides
        (s.marks_are ∙ none_before_is s.before (s.since ++ s.mark ∷ s.rest) p.0 s.ignored (sym s.marks_are ∙ p.1)) in
        let l : LogsOn EndMark pages s.rest outcomes s.more = subst (λ m. LogsOn m pages s.rest outcomes s.more) d.0 s.logs_on in
        nothing l.0 d.1

pub ends : (mine theirs : Option (List ℕ)) (table : Directory) (spare : ℕ) (pages : List PageToSend) (h t : List ℕ) (marks : List Mark) (outcomes : List Outcome) (answers : List Answer) (accepted : List Accepted)
    → AllByRecursion IsPage pages → IsPassword mine
    → AreMarks (characters h) marks → Client mine pages marks outcomes t → IsPlayed theirs table spare t answers accepted → h ≡ replies answers
    → AreForAll table (sent_of pages outcomes) accepted
ends mine theirs table spare pages h t marks outcomes answers accepted good secret are client session said =
    by_logon (is_logon theirs (without_lf (logon_text mine))) refl (reply_marks answers marks (subst (λ z. AreMarks (characters z) marks) said are))
  where
    by_logon : (b : Bool) → is_logon theirs (without_lf (logon_text mine)) ≡ b → marks ≡ flat_map marks_for answers → AreForAll table (sent_of pages outcomes) accepted
    by_logon true e heard = welcomed mine theirs table spare pages t marks outcomes answers accepted good secret e client session heard
    by_logon false e heard = unwelcomed mine theirs table spare pages t marks outcomes answers accepted secret e client session heard
