-- Both ends, whatever the limit of what is heard leaves.
use Rattle.std.proofs.Common.{◌≡◌, ◌≢◌, ℕ, ◌+◌, ◌-◌, ◌*◌, ◌≤◌, cond, Bool, true, false, List, [], ◌∷◌, ◌++◌, length, take, drop, refl, ap, sym, ◌∙◌, subst, arith, append_assoc, append-nil, Option, length-append}
use Rattle.std.specs.List.{AllByRecursion, flat_map}
use Rattle.std.proofs.lemmas.List.{take_all, length-map, take-append-drop, length-take}
use Rattle.std.proofs.lemmas.List.Sums.{sum_by-append}
use Rattle.entry_line.specs.Chars.{cr, char_of}
use Rattle.tap_block.specs.Chars.{characters}
use Rattle.tap_block.specs.Reading.{BeforeLogon, AfterLogon, Reads, logon, empty_line, is_logon, without_lf, mode_by, items_of}
use Rattle.page_text.specs.Page.{Page as Accepted}
use Rattle.tap_terminal.specs.declared.answers.Answer.{Answer}
use Rattle.tap_terminal.specs.declared.answers.Answer.TheVariants.{Id, Go}
use Rattle.tap_terminal.specs.Replies.{reply_of, replies}
use Rattle.subscribers.specs.Directory.{Directory}
use Rattle.tap_terminal.specs.Session.{start, tell, answers_of, closing, IsSession}
use Rattle.tap_entry.specs.Marks.{AreMarks, AreHeard}
use Rattle.tap_entry.specs.PagesFile.{IsPassword}
use Rattle.tap_entry.specs.declared.hearing.Mark.{Mark}
use Rattle.tap_entry.specs.declared.hearing.Mark.TheVariants.{Id as IdMark, Ack as AckMark, Nak as NakMark, Rs as RsMark, End as EndMark, Go as GoMark}
use Rattle.tap_entry.specs.declared.outcomes.Outcome.{Outcome}
use Rattle.tap_entry.specs.Client.{PageToSend, IsPage, Client, silent, turned_away, still_calling, answered, IsCalling, DecidesLogon, naks, is_nak, logon_line, logons}
use Rattle.tap_entry.proofs.Counts.{naks_push}
use Rattle.tap_entry.proofs.OneCut.{marks_found, marks_front}
use Rattle.tap_entry.specs.MarkReaders.{marks_of}
use Rattle.both_ends.specs.Joined.{sent_of, AreForAll, BothEnds}
use Rattle.both_ends.proofs.JoinedPages.{take_over}
use Rattle.both_ends.proofs.JoinedLogons.{ends, logon_text, logon_short, logon_no_cr, logon_item, line_first, IsWelcome, unwelcomed_answered}
use Rattle.both_ends.proofs.JoinedLimit.{played_short, closing_one, replies_short, replies_append}
use Rattle.both_ends.proofs.JoinedSessions.{IsPlayed, played}
use Rattle.both_ends.proofs.JoinedReplies.{reply_marks}
use Rattle.both_ends.proofs.JoinedSaid.{said_plain}
use Rattle.both_ends.proofs.ShortReplies.{short_replies}

-- while the logon isn't decided there were at most two Naks
few_naks : (front rest : List Mark) → naks front ≤ 2 → IsCalling (front ++ rest) → naks (front ++ rest) ≤ 2
few_naks front [] h c = let e = ap naks (append-nil front) in omega (arith, e, h)
few_naks front (m ∷ rest) h c =
    let e = append_assoc front (m ∷ []) rest in
    subst (λ z. naks z ≤ 2) e (few_naks (front ++ m ∷ []) rest (one_more m (λ d. c front m rest refl d)) (subst IsCalling (sym e) c))
  where
    one_more : (m : Mark) → (DecidesLogon front m → ⊥) → naks (front ++ m ∷ []) ≤ 2
    one_more NakMark n = let a = naks_push front NakMark in let b : naks front ≢ 2 = n in omega (arith, a, b, h)
    one_more IdMark n = let a = naks_push front IdMark in omega (arith, a, h)
    one_more AckMark n = let a = naks_push front AckMark in omega (arith, a, h)
    one_more RsMark n = let a = naks_push front RsMark in omega (arith, a, h)
    one_more EndMark n = let a = naks_push front EndMark in omega (arith, a, h)
    one_more GoMark n = let a = naks_push front GoMark in omega (arith, a, h)

naks_cons : (m : Mark) (since : List Mark) → naks (m ∷ since) ≡ naks (m ∷ []) + naks since
naks_cons m since = sum_by-append (λ m. cond (is_nak m) 1 0) (m ∷ []) since

-- the logon line again for each Nak
again_short : (l : List ℕ) (since : List Mark) → length l ≤ 11 → length (flat_map (λ m. cond (is_nak m) l []) since) ≤ 11 * naks since
again_short l [] h = omega arith
again_short l (NakMark ∷ since) h =
    let k = again_short l since h in let e = length-append l (flat_map (λ m. cond (is_nak m) l []) since) in let n = naks_cons NakMark since in omega (arith, k, e, n, h)
again_short l (IdMark ∷ since) h = let k = again_short l since h in let n = naks_cons IdMark since in omega (arith, k, n)
again_short l (AckMark ∷ since) h = let k = again_short l since h in let n = naks_cons AckMark since in omega (arith, k, n)
again_short l (RsMark ∷ since) h = let k = again_short l since h in let n = naks_cons RsMark since in omega (arith, k, n)
again_short l (EndMark ∷ since) h = let k = again_short l since h in let n = naks_cons EndMark since in omega (arith, k, n)
again_short l (GoMark ∷ since) h = let k = again_short l since h in let n = naks_cons GoMark since in omega (arith, k, n)

-- a client whose logon isn't decided has said few characters
calling_short : (mine : Option (List ℕ)) (since : List Mark) → IsPassword mine → IsCalling since → length (logons mine since) ≤ 33
calling_short mine since secret calling =
    let l = logon_short mine secret in
    let n = few_naks [] since (omega arith) calling in
    let a = again_short (logon_line mine) since l in
    let e = length-append (logon_line mine) (flat_map (λ m. cond (is_nak m) (logon_line mine) []) since) in
    omega (arith, l, n, a, e)

-- the replies to a client that is welcome are short
welcome_short : (mine theirs : Option (List ℕ)) (directory : Directory) (spare : ℕ) (more t : List ℕ) (answers : List Answer) (accepted : List Accepted)
    → IsPassword mine → IsWelcome mine theirs → t ≡ cr ∷ (logon_line mine ++ more) → IsPlayed theirs directory spare t answers accepted → length (replies answers) ≤ 999999
welcome_short mine theirs directory spare more t answers accepted secret welcome form session =
    let short = logon_short mine secret in
    let a : take 999999 t ≡ ([] ++ cr ∷ []) ++ take 999998 (logon_line mine ++ more) = ap (take 999999) form ∙ take_over 999999 (cr ∷ []) (logon_line mine ++ more) (omega arith) in
    let b : take 999998 (logon_line mine ++ more) ≡ (logon_text mine ++ cr ∷ []) ++ take (999998 - length (logon_line mine)) more = take_over 999998 (logon_line mine) more (omega (arith, short)) in
    let f = line_first theirs [] (take 999998 (logon_line mine ++ more)) session.pieces session.rest (take 999999 t) tt a session.reads in
    let g = line_first theirs (logon_text mine) (take (999998 - length (logon_line mine)) more) f.others session.rest (take 999998 (logon_line mine ++ more)) (logon_no_cr mine secret) b f.reads in
    let i = logon_item theirs (without_lf (logon_text mine)) welcome in
    let items : items_of theirs session.pieces ≡ empty_line ∷ logon ∷ items_of theirs g.others = f.items ∙ ap (λ z. empty_line ∷ z) (g.items ∙ ap (λ z. z ∷ items_of theirs g.others) i) in
    let reads : Reads theirs AfterLogon g.others session.rest (take (999998 - length (logon_line mine)) more)
    = subst (λ z. Reads theirs (mode_by z BeforeLogon) g.others session.rest (take (999998 - length (logon_line mine)) more)) i g.reads in
    let w = short_replies theirs directory g.others session.rest (take (999998 - length (logon_line mine)) more) (start spare) reads in
    let n : length (take (999998 - length (logon_line mine)) more) ≤ 999998 = simp length-take (omega arith) in
    let told : answers_of (tell directory (start spare) (items_of theirs session.pieces)) ≡ Id ∷ Go ∷ answers_of (tell directory (start spare) (items_of theirs g.others)) = ap (λ z. answers_of (tell directory (start spare) z)) items in
    let c = closing (tell directory (start spare) (items_of theirs session.pieces)) (length t) in
    let all : replies answers ≡ reply_of Id ++ (reply_of Go ++ replies (answers_of (tell directory (start spare) (items_of theirs g.others)))) ++ replies c
    = ap replies session.answers_are ∙ replies_append (answers_of (tell directory (start spare) (items_of theirs session.pieces))) c ∙ ap (λ z. replies z ++ replies c) told in
    let m = ap length all in
    let p = length-append (reply_of Id ++ (reply_of Go ++ replies (answers_of (tell directory (start spare) (items_of theirs g.others))))) (replies c) in
    let q = replies_short c in
    let r = closing_one (tell directory (start spare) (items_of theirs session.pieces)) (length t) in
    omega (arith, w, n, m, p, q, r)

-- the limit cuts nothing off
whole : (mine theirs : Option (List ℕ)) (directory : Directory) (spare : ℕ) (pages : List PageToSend) (h t : List ℕ) (marks : List Mark) (outcomes : List Outcome) (answers : List Answer) (accepted : List Accepted)
    → AllByRecursion IsPage pages → IsPassword mine → AreHeard h marks → Client mine pages marks outcomes t → IsPlayed theirs directory spare t answers accepted → h ≡ replies answers
    → length (replies answers) ≤ 999999 → AreForAll directory (sent_of pages outcomes) accepted
whole mine theirs directory spare pages h t marks outcomes answers accepted good secret are client session said short =
    let n : length (characters h) ≤ 999999 = (let a = length-map h char_of in let b = ap length said in omega (arith, a, b, short)) in
    ends mine theirs directory spare pages h t marks outcomes answers accepted good secret (subst (λ z. AreMarks z marks) (take_all 999999 (characters h) n) are) client session said

limited : (mine theirs : Option (List ℕ)) (directory : Directory) (spare : ℕ) (pages : List PageToSend) (h t : List ℕ) (marks : List Mark) (outcomes : List Outcome) (answers : List Answer) (accepted : List Accepted)
    → AllByRecursion IsPage pages → IsPassword mine → AreHeard h marks → Client mine pages marks outcomes t → IsPlayed theirs directory spare t answers accepted → h ≡ replies answers
    → AreForAll directory (sent_of pages outcomes) accepted
limited mine theirs directory spare pages h t marks outcomes answers accepted good secret are client session said = by_client client
  where
    short : length (replies answers) ≤ 999999 → AreForAll directory (sent_of pages outcomes) accepted
    short n = whole mine theirs directory spare pages h t marks outcomes answers accepted good secret are client session said n

    few_said : length t ≤ 34 → AreForAll directory (sent_of pages outcomes) accepted
    few_said n = let a = played_short theirs directory spare t answers accepted session in short (omega (arith, n, a))

    by_client : Client mine pages marks outcomes t → AreForAll directory (sent_of pages outcomes) accepted
    by_client (silent s) = few_said (let e = ap length s.said_is in omega (arith, e))
    by_client (turned_away s) = few_said (let e = ap length s.said_is in omega (arith, e))
    by_client (still_calling s) = few_said (let e = ap length s.said_is in let k = calling_short mine s.since secret s.calling in omega (arith, e, k))
    by_client (answered s) = by_logon (is_logon theirs (without_lf (logon_text mine))) refl
      where
        all : List Mark
        all = marks_of (characters h)

        by_logon : (b : Bool) → is_logon theirs (without_lf (logon_text mine)) ≡ b → AreForAll directory (sent_of pages outcomes) accepted
        by_logon true e = short (welcome_short mine theirs directory spare (flat_map (λ m. cond (is_nak m) (logon_line mine) []) s.since ++ s.more) t answers accepted secret e
            (s.said_is ∙ ap (λ z. cr ∷ z) (append_assoc (logon_line mine) (flat_map (λ m. cond (is_nak m) (logon_line mine) []) s.since) s.more)) session)
        by_logon false e =
            let heard = marks_found (characters h) in
            let f = marks_front (take 999999 (characters h)) (drop 999999 (characters h)) marks (marks_of (characters h)) are (subst (λ z. AreMarks z (marks_of (characters h))) (sym (take-append-drop 999999 (characters h))) heard) in
            let told = reply_marks answers (marks_of (characters h)) (subst (λ z. AreMarks (characters z) (marks_of (characters h))) said heard) in
            unwelcomed_answered mine theirs directory spare pages t (marks_of (characters h)) outcomes answers accepted secret e session told
            s.before s.since s.mark (s.rest ++ f.0) s.rest s.more (f.1 ∙ ap (λ z. z ++ f.0) s.marks_are ∙ append_assoc s.before (IdMark ∷ (s.since ++ s.mark ∷ s.rest)) f.0 ∙ ap (λ z. s.before ++ IdMark ∷ z) (append_assoc s.since (s.mark ∷ s.rest) f.0))
            s.ignored s.calling s.decides s.said_is s.logs_on

pub both_ends : BothEnds
both_ends mine theirs directory spare pages h t marks outcomes session good secret are client is_session said =
    limited mine theirs directory spare pages h t marks outcomes session.answers session.pages good secret are client
    (played theirs directory spare t session (subst (λ z. IsSession theirs directory spare z session) (said_plain mine pages marks outcomes t secret good client) is_session)) said
