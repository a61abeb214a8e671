-- What a byte brings a client that sends a page, or that leaves.
use Rattle.std.proofs.Common.{◌≡◌, ◌≢◌, ◌⊎◌, inl, inr, ℕ, ◌+◌, ◌≤◌, List, [], ◌∷◌, ◌++◌, append-nil, append_assoc, length, length-append, drop, suc, zero, Option, Some, None, refl, sym, ◌∙◌, ap, subst, arith}
use Rattle.std.specs.List.{AllByRecursion}
use Rattle.std.specs.Option.{option_to_list}
use Rattle.tap_entry.specs.declared.hearing.Mark.{Mark}
use Rattle.tap_entry.specs.declared.hearing.Mark.TheVariants.{Id, Ack, Nak, Rs, End, Go}
use Rattle.tap_entry.specs.declared.outcomes.Outcome.{Outcome}
use Rattle.tap_entry.specs.declared.outcomes.Outcome.TheVariants.{Sent, Abandoned, TriesSpent, Disconnected, NoLogon}
use Rattle.tap_entry.specs.declared.transfer.SendStep.TheVariants.{Wait as WaitOn, Done}
use Rattle.tap_entry.specs.declared.goodbye.LeaveStep.TheVariants.{Wait as WaitOut, Gone}
use Rattle.tap_entry.specs.Client.{Client, PageToSend, Sends, Follows, Decides, IsUndecided, all_are, block_at, content, count_of, good_bye, said_for}
use Rattle.tap_entry.specs.MarkReaders.{MarkReader, ReaderStandsFor}
use Rattle.tap_entry.specs.Held.{Sender}
use Rattle.tap_entry.specs.Marks.{AreMarks}
use Rattle.tap_entry.specs.PagesFile.{FileContent}
use Rattle.tap_entry.specs.States.{IsPageDecided, LeavesOn, SendingFor, SendsOn}
use Rattle.wires.specs.Line.{Line}
use Rattle.calling.specs.declared.stages.Ending.TheVariants.{Over}
use Rattle.calling.specs.declared.stages.Logon.TheVariants.{Granted}
use Rattle.calling.specs.declared.stages.Stage.TheVariants.{Sending, Leaving}
use Rattle.calling.specs.declared.stages.Step.{Step}
use Rattle.calling.specs.declared.stages.Step.TheVariants.{On, Ends}
use Rattle.calling.specs.Progress.{Between, EndsCall, HeardGo, LeavesAt, Moves, SendsAt, SpokeThen, outcomes_of}
use Rattle.endings.proofs.Lists.{all-append}
use Rattle.calling.proofs.Moving.{silent_speaks, moved, go_on, undecided_no_end}
use Rattle.calling.proofs.Arms.{waits}

-- the page's marks go on, and this is said for them
pub page_on : (told : FileContent) (s next : Sender) (done : List Outcome) (x y : List ℕ) (marks : List Mark) (said piece : List ℕ) (further : Option Mark) → (h : SendsAt told s done x marks said)
    → SendingFor next y h.past (h.since ++ option_to_list further) → next.content ≡ s.content → said_for s.content (h.since ++ option_to_list further) ≡ said_for s.content h.since ++ piece
    → SendsAt told next done y (h.past ++ (h.since ++ option_to_list further)) (said ++ piece)
page_on told s next done x y marks said piece further h k e f = record {
  page = h.page;
  left = h.left;
  past = h.past;
  since = h.since ++ option_to_list further;
  spoken = h.spoken;
  between = h.between;
  stands = k;
  content_is = e ∙ h.content_is;
  marks_are = refl;
  said_is = ap (λ z. z ++ piece) h.said_is
      ∙ (append_assoc h.spoken (said_for (content h.page) h.since) piece
      ∙ ap (λ z. h.spoken ++ z) (sym (subst (λ z. said_for z (h.since ++ option_to_list further) ≡ said_for z h.since ++ piece) h.content_is f)));
}

pub send_waits : (told : FileContent) (s next : Sender) (done : List Outcome) (x y : List ℕ) (marks : List Mark) (said : List ℕ) (further : Option Mark) (a : Line) → (h : SendsAt told s done x marks said)
    → SendsOn s.content y h.past h.since further (WaitOn next) → Moves told y said a a done (On (Sending next))
send_waits told s next done x y marks said further a h k =
    waits told (Sending next) done y (h.past ++ (h.since ++ option_to_list further)) said a
    (subst (SendsAt told next done y (h.past ++ (h.since ++ option_to_list further))) (append-nil said) (page_on told s next done x y marks said [] further h k.0 k.1 (k.2 ∙ sym (append-nil (said_for s.content h.since)))))

-- a block is said, the same or the next
pub send_says : (told : FileContent) (s next : Sender) (done : List Outcome) (x y : List ℕ) (marks : List Mark) (said : List ℕ) (further : Option Mark) (a b : Line) (step : Step) → (h : SendsAt told s done x marks said)
    → SendingFor next y h.past (h.since ++ option_to_list further) × (next.content ≡ s.content)
    × (said_for s.content (h.since ++ option_to_list further) ≡ said_for s.content h.since ++ block_at s.content next.acks)
    → SpokeThen a b (block_at next.content next.acks) (On (Sending next)) Granted step → Moves told y said a b done step
send_says told s next done x y marks said further a b step h k w =
    moved told (Sending next) done y (h.past ++ (h.since ++ option_to_list further)) said (block_at next.content next.acks) a b step
    (page_on told s next done x y marks said (block_at next.content next.acks) further h k.0 k.1 (k.2 ∙ ap (λ z. said_for s.content h.since ++ block_at z next.acks) (sym k.1))) w

-- the pages behind the first of those that are left
behind_first : {A : Type 0} (n : ℕ) (pages : List A) (page : A) (left : List A) → page ∷ left ≡ drop n pages → left ≡ drop (n + 1) pages
behind_first zero [] page left e = cc
behind_first zero (p ∷ pages) page left e = cc
behind_first (suc n) [] page left e = cc
behind_first (suc n) (p ∷ pages) page left e = behind_first n pages page left e ∙ ap (λ k. drop k (p ∷ pages)) (let q : suc (n + 1) ≡ suc n + 1 = omega arith in q)

left_behind : (told : FileContent) (done : List Outcome) (page : PageToSend) (left : List PageToSend) (outcome : Outcome) → page ∷ left ≡ drop (length done) told.pages → left ≡ drop (length (done ++ outcome ∷ [])) told.pages
left_behind told done page left outcome e = behind_first (length done) told.pages page left e ∙ ap (λ n. drop n told.pages) (let q : length done + 1 ≡ length (done ++ outcome ∷ []) = omega (arith, length-append done (outcome ∷ [])) in q)

-- there is room for one outcome more
some_left : (n : ℕ) (pages : List PageToSend) (page : PageToSend) (left : List PageToSend) → page ∷ left ≡ drop n pages → n + 1 ≤ length pages
some_left zero [] page left e = cc
some_left zero (p ∷ pages) page left e = omega arith
some_left (suc n) [] page left e = cc
some_left (suc n) (p ∷ pages) page left e = let d = some_left n pages page left e in omega (arith, d)

pub room_for : (told : FileContent) (done : List Outcome) (page : PageToSend) (left : List PageToSend) → length told.pages ≤ 1000 → page ∷ left ≡ drop (length done) told.pages → length done + 1 ≤ 1000
room_for told done page left few e = let d = some_left (length done) told.pages page left e in omega (arith, d, few)

-- a decided page in the definition
decided_so : (told : FileContent) (s : Sender) (done : List Outcome) (x : List ℕ) (marks : List Mark) (said : List ℕ) (further : Option Mark) (outcome : Outcome) (r : List Mark) (others : List Outcome) (more : List ℕ)
    → (h : SendsAt told s done x marks said) → IsPageDecided s.content h.since further outcome → Follows outcome h.left (Sends h.left r) others more
    → Client told.password told.pages ((h.past ++ (h.since ++ option_to_list further)) ++ r) ((done ++ outcome ∷ []) ++ others) (said ++ more)
decided_so told s done x marks said further outcome r others more h d f =
    let u : IsUndecided (count_of (content h.page)) h.since = subst (λ z. IsUndecided (count_of z) h.since) h.content_is h.stands.undecided in
    let e : Decides (count_of (content h.page)) h.since d.mark outcome = subst (λ z. Decides (count_of z) h.since d.mark outcome) h.content_is d.decides in
    let w = h.between.leads (h.since ++ d.mark ∷ r) (outcome ∷ others) (said_for (content h.page) h.since ++ more) (inr (record {
      since = h.since;
      mark = d.mark;
      rest = r;
      outcome = outcome;
      others = others;
      more = more;
      marks_are = refl;
      undecided = u;
      decides = e;
      outcomes_are = refl;
      said_is = refl;
      follows = f;
    })) in
    let m : h.past ++ (h.since ++ d.mark ∷ r) ≡ (h.past ++ (h.since ++ option_to_list further)) ++ r =
    sym (ap (λ z. (h.past ++ (h.since ++ option_to_list z)) ++ r) d.is_mark ∙ (append_assoc h.past (h.since ++ d.mark ∷ []) r ∙ ap (λ z. h.past ++ z) (append_assoc h.since (d.mark ∷ []) r))) in
    let o : done ++ outcome ∷ others ≡ (done ++ outcome ∷ []) ++ others = sym (append_assoc done (outcome ∷ []) others) in
    let t : h.spoken ++ (said_for (content h.page) h.since ++ more) ≡ said ++ more = sym (ap (λ z. z ++ more) h.said_is ∙ append_assoc h.spoken (said_for (content h.page) h.since) more) in
    subst (λ z. Client told.password told.pages z ((done ++ outcome ∷ []) ++ others) (said ++ more)) m
    (subst (λ z. Client told.password told.pages (h.past ++ (h.since ++ d.mark ∷ r)) z (said ++ more)) o
    (subst (λ z. Client told.password told.pages (h.past ++ (h.since ++ d.mark ∷ r)) (done ++ outcome ∷ others) z) t w))

follows_on : (outcome : Outcome) (left : List PageToSend) (on : List Outcome → List ℕ → Type 0) (others : List Outcome) (more : List ℕ) → (outcome ≡ Sent) ⊎ (outcome ≡ Abandoned) → on others more → Follows outcome left on others more
follows_on Sent left on others more k w = w
follows_on Abandoned left on others more k w = w
follows_on NoLogon left on others more k w = w
follows_on TriesSpent left on others more (inl k) w = cc
follows_on TriesSpent left on others more (inr k) w = cc
follows_on Disconnected left on others more (inl k) w = cc
follows_on Disconnected left on others more (inr k) w = cc

unspent_so : (outcome : Outcome) → (outcome ≡ Sent) ⊎ (outcome ≡ Abandoned) → outcome ≢ TriesSpent
unspent_so outcome (inl k) = λ e. cc
unspent_so outcome (inr k) = λ e. cc

no_end_so : (m : ℕ) (since : List Mark) (mark : Mark) (outcome : Outcome) → Decides m since mark outcome → (outcome ≡ Sent) ⊎ (outcome ≡ Abandoned) → mark ≢ End
no_end_so m since End outcome d (inl k) = cc
no_end_so m since End outcome d (inr k) = cc
no_end_so m since Id outcome d k = λ e. cc
no_end_so m since Ack outcome d k = λ e. cc
no_end_so m since Nak outcome d k = λ e. cc
no_end_so m since Rs outcome d k = λ e. cc
no_end_so m since Go outcome d k = λ e. cc

-- the page is Sent or Abandoned, and the next one may begin
pub page_leads : (told : FileContent) (s : Sender) (next : MarkReader) (done done2 : List Outcome) (x y : List ℕ) (marks : List Mark) (said : List ℕ) (further : Option Mark) (outcome : Outcome) → (h : SendsAt told s done x marks said)
    → SendsOn s.content y h.past h.since further (Done next outcome) → done2 ≡ done ++ outcome ∷ []
    → Between told (drop (length done2) told.pages) (h.past ++ (h.since ++ option_to_list further)) done2 said
page_leads told s next done done2 x y marks said further outcome h k e =
    let past = h.past ++ (h.since ++ option_to_list further) in
    let l = left_behind told done h.page h.left outcome h.between.left_is in
    subst (λ d. Between told (drop (length d) told.pages) past d said) (sym e) (record {
      few = h.between.few;
      left_is = refl;
      go = go_on h.past (h.since ++ option_to_list further) h.between.go;
      no_end = all-append (λ m. m ≢ End) h.past (h.since ++ option_to_list further) h.between.no_end
          (all-append (λ m. m ≢ End) h.since (option_to_list further) (undecided_no_end (count_of s.content) h.since h.stands.undecided)
          (subst (λ z. AllByRecursion (λ m. m ≢ End) (option_to_list z)) (sym k.1.is_mark) (no_end_so (count_of s.content) h.since k.1.mark outcome k.1.decides k.2, tt)));
      unspent = all-append (λ o. o ≢ TriesSpent) done (outcome ∷ []) h.between.unspent (unspent_so outcome k.2, tt);
      leads = λ r others more w.
          decided_so told s done x marks said further outcome r others more h k.1 (follows_on outcome h.left (Sends h.left r) others more k.2 (subst (λ z. Sends z r others more) (sym l) w));
    })

-- the page is TriesSpent or Disconnected, and the call is over
closed_client : (told : FileContent) (s : Sender) (done : List Outcome) (x : List ℕ) (marks : List Mark) (said : List ℕ) (further : Option Mark) (outcome : Outcome) (piece : List ℕ)
    → (h : SendsAt told s done x marks said) → IsPageDecided s.content h.since further outcome → Follows outcome h.left (Sends h.left []) (all_are Disconnected h.left) piece
    → Client told.password told.pages (h.past ++ (h.since ++ option_to_list further)) (outcomes_of told Granted (done ++ outcome ∷ [])) (said ++ piece)
closed_client told s done x marks said further outcome piece h d f =
    let l = left_behind told done h.page h.left outcome h.between.left_is in
    subst (λ z. Client told.password told.pages (h.past ++ (h.since ++ option_to_list further)) ((done ++ outcome ∷ []) ++ all_are Disconnected z) (said ++ piece)) l
    (subst (λ z. Client told.password told.pages z ((done ++ outcome ∷ []) ++ all_are Disconnected h.left) (said ++ piece)) (append-nil (h.past ++ (h.since ++ option_to_list further)))
    (decided_so told s done x marks said further outcome [] (all_are Disconnected h.left) piece h d f))

end_so : (m : ℕ) (since : List Mark) (mark : Mark) → Decides m since mark Disconnected → mark ≡ End
end_so m since End d = refl
end_so m since Id d = elim d [ ]
end_so m since Ack d = let e = d.1 in cc
end_so m since Nak d = let e = d.3 in cc
end_so m since Rs d = cc
end_so m since Go d = elim d [ ]

closing : (told : FileContent) (done : List Outcome) (y : List ℕ) (now : List Mark) (said piece : List ℕ) (a b : Line) (step : Step) → AreMarks y now → Client told.password told.pages now (outcomes_of told Granted done) (said ++ piece) → HeardGo now → EndsCall told now
    → SpokeThen a b piece (Ends (Over Granted)) Granted step → Moves told y said a b done step
closing told done y now said piece a b step m c go o (inl w) = subst (Moves told y said a b done) (sym w.0) (record { marks = now; piece = piece; marks_are = m; client = c; logon = go; spoke = w.1; stands = o })
closing told done y now said piece a b step m c go o (inr w) = subst (Moves told y said a b done) (sym w.0) (record { marks = now; piece = piece; marks_are = m; client = c; logon = go; spoke = w.1; stands = tt })

pub page_closed : (told : FileContent) (s : Sender) (done done2 : List Outcome) (x y : List ℕ) (marks : List Mark) (said : List ℕ) (further : Option Mark) (outcome : Outcome) (a b : Line) (step : Step) → (h : SendsAt told s done x marks said)
    → AreMarks y (h.past ++ (h.since ++ option_to_list further)) → IsPageDecided s.content h.since further outcome → (outcome ≡ TriesSpent) ⊎ (outcome ≡ Disconnected) → done2 ≡ done ++ outcome ∷ []
    → (outcome ≡ TriesSpent → SpokeThen a b good_bye (Ends (Over Granted)) Granted step) → (outcome ≢ TriesSpent → SpokeThen a b [] (Ends (Over Granted)) Granted step) → Moves told y said a b done2 step
page_closed told s done done2 x y marks said further TriesSpent a b step h m d o e w v =
    let c = closed_client told s done x marks said further TriesSpent good_bye h d (refl, refl) in
    subst (λ z. Moves told y said a b z step) (sym e) (closing told (done ++ TriesSpent ∷ []) y _ said good_bye a b step m c (go_on h.past (h.since ++ option_to_list further) h.between.go)
    (inr (inr (record { outcomes = outcomes_of told Granted (done ++ TriesSpent ∷ []); said = said ++ good_bye; client = c; before = done; behind = _; spent = append_assoc done (TriesSpent ∷ []) _ }))) (w refl))
page_closed told s done done2 x y marks said further Disconnected a b step h m d o e w v =
    let c = closed_client told s done x marks said further Disconnected [] h d (refl, refl) in
    let q = end_so (count_of s.content) h.since d.mark d.decides in
    let f : h.past ++ (h.since ++ option_to_list further) ≡ (h.past ++ h.since) ++ End ∷ [] = ap (λ z. h.past ++ (h.since ++ option_to_list z)) (d.is_mark ∙ ap Some q) ∙ sym (append_assoc h.past h.since (End ∷ [])) in
    subst (λ z. Moves told y said a b z step) (sym e) (closing told (done ++ Disconnected ∷ []) y _ said [] a b step m c (go_on h.past (h.since ++ option_to_list further) h.between.go) (inl (h.past ++ h.since, ([], f))) (v (λ z. cc)))
page_closed told s done done2 x y marks said further Sent a b step h m d (inl o) e w v = cc
page_closed told s done done2 x y marks said further Sent a b step h m d (inr o) e w v = cc
page_closed told s done done2 x y marks said further Abandoned a b step h m d (inl o) e w v = cc
page_closed told s done done2 x y marks said further Abandoned a b step h m d (inr o) e w v = cc
page_closed told s done done2 x y marks said further NoLogon a b step h m d (inl o) e w v = cc
page_closed told s done done2 x y marks said further NoLogon a b step h m d (inr o) e w v = cc

-- the first block of the next page
pub page_begins : (told : FileContent) (e : MarkReader) (s : Sender) (page : PageToSend) (left : List PageToSend) (done : List Outcome) (x : List ℕ) (past : List Mark) (said : List ℕ) (a b : Line) (step : Step) → Between told (drop (length done) told.pages) past done said
    → drop (length done) told.pages ≡ page ∷ left → SendingFor s x past [] → s ≡ record { ear = e; content = content page; acks = 0; naks = 0 } → SpokeThen a b (block_at s.content s.acks) (On (Sending s)) Granted step
    → Moves told x said a b done step
page_begins told e s page left done x past said a b step h l k held w =
    moved told (Sending s) done x past said (block_at s.content s.acks) a b step (record {
      page = page;
      left = left;
      past = past;
      since = [];
      spoken = said;
      between = subst (λ z. Between told z past done said) l h;
      stands = k;
      content_is = ap (λ (z : Sender). z.content) held;
      marks_are = sym (append-nil past);
      said_is = ap (λ z. said ++ z) (ap (λ (z : Sender). block_at z.content z.acks) held ∙ sym (append-nil (block_at (content page) 0)));
    }) w

-- good-bye after the last page
pub leaving_begins : (told : FileContent) (e : MarkReader) (done : List Outcome) (x : List ℕ) (past : List Mark) (said : List ℕ) (a b : Line) (step : Step) → Between told (drop (length done) told.pages) past done said
    → drop (length done) told.pages ≡ [] → ReaderStandsFor e x past → SpokeThen a b good_bye (On (Leaving e)) Granted step → Moves told x said a b done step
leaving_begins told e done x past said a b step h l k w =
    moved told (Leaving e) done x past said good_bye a b step (record {
      past = past;
      since = [];
      spoken = said;
      between = subst (λ z. Between told z past done said) l h;
      stands = k;
      marks_are = sym (append-nil past);
      no_end = tt;
      said_is = refl;
    }) w

-- the client that leaves goes on
no_end_further : (further : Option Mark) → further ≢ Some End → AllByRecursion (λ m. m ≢ End) (option_to_list further)
no_end_further None h = tt
no_end_further (Some m) h = ((λ e. h (ap Some e)), tt)

pub leave_waits : (told : FileContent) (e next : MarkReader) (done : List Outcome) (x y : List ℕ) (marks : List Mark) (said : List ℕ) (further : Option Mark) (a : Line) → LeavesAt told e done x marks said
    → LeavesOn y marks further (WaitOut next) → Moves told y said a a done (On (Leaving next))
leave_waits told e next done x y marks said further a h k =
    waits told (Leaving next) done y (marks ++ option_to_list further) said a (record {
      past = h.past;
      since = h.since ++ option_to_list further;
      spoken = h.spoken;
      between = h.between;
      stands = k.0;
      marks_are = ap (λ z. z ++ option_to_list further) h.marks_are ∙ append_assoc h.past h.since (option_to_list further);
      no_end = all-append (λ m. m ≢ End) h.since (option_to_list further) h.no_end (no_end_further further k.1);
      said_is = h.said_is;
    })

pub leave_gone : (told : FileContent) (e : MarkReader) (done : List Outcome) (x y : List ℕ) (marks : List Mark) (said : List ℕ) (further : Option Mark) (a : Line) → LeavesAt told e done x marks said
    → LeavesOn y marks further Gone → Moves told y said a a done (Ends (Over Granted))
leave_gone told e done x y marks said further a h k =
    let now = marks ++ option_to_list further in
    let m : now ≡ h.past ++ (h.since ++ option_to_list further) = ap (λ z. z ++ option_to_list further) h.marks_are ∙ append_assoc h.past h.since (option_to_list further) in
    let w = h.between.leads (h.since ++ option_to_list further) [] good_bye (refl, refl) in
    closing told done y now said [] a a (Ends (Over Granted)) k.0
    (subst (λ z. Client told.password told.pages now (done ++ all_are Disconnected z) (said ++ [])) h.between.left_is
    (subst (λ z. Client told.password told.pages z (done ++ []) (said ++ [])) (sym m)
    (subst (λ z. Client told.password told.pages (h.past ++ (h.since ++ option_to_list further)) (done ++ []) z) (sym (append-nil said ∙ h.said_is)) w)))
    (subst HeardGo (sym m) (go_on h.past (h.since ++ option_to_list further) h.between.go))
    (inl (marks, ([], ap (λ z. marks ++ option_to_list z) k.1)))
    (inl (refl, silent_speaks a))
