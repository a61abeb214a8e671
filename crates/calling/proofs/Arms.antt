-- What a byte brings a client, stage by stage.
use Rattle.std.proofs.Common.{◌≡◌, ◌≢◌, inl, inr, ℕ, List, [], ◌∷◌, ◌++◌, append-nil, append_assoc, length, drop, Option, refl, sym, ◌∙◌, ap, subst}
use Rattle.std.specs.List.{AllByRecursion}
use Rattle.std.specs.Option.{option_to_list}
use Rattle.entry_line.specs.Chars.{cr}
use Rattle.tap_entry.specs.declared.hearing.Mark.{Mark}
use Rattle.tap_entry.specs.declared.hearing.Mark.TheVariants.{Id, Ack, Nak, Rs, End, Go}
use Rattle.tap_entry.specs.declared.outcomes.Outcome.{Outcome}
use Rattle.tap_entry.specs.declared.outcomes.Outcome.TheVariants.{TriesSpent, NoLogon}
use Rattle.tap_entry.specs.declared.logon.CallStep.TheVariants.{Wait, SayLogon, Go as GoesOn, Refused}
use Rattle.tap_entry.specs.Client.{Client, PageToSend, Sends, DecidesLogon, IsCalling, LogsOn, all_are, logon_line, logons, turned_away, answered}
use Rattle.tap_entry.specs.MarkReaders.{MarkReader}
use Rattle.tap_entry.specs.Held.{Caller}
use Rattle.tap_entry.specs.Marks.{AreMarks}
use Rattle.tap_entry.specs.PagesFile.{FileContent}
use Rattle.tap_entry.specs.States.{CallsOn, IsClientRefused}
use Rattle.tap_entry.proofs.FirstMarks.{one_first}
use Rattle.wires.specs.Line.{Line}
use Rattle.calling.specs.declared.stages.Ending.TheVariants.{Over}
use Rattle.calling.specs.declared.stages.Logon.TheVariants.{Pending}
use Rattle.calling.specs.declared.stages.Stage.TheVariants.{Calling}
use Rattle.calling.specs.declared.stages.Step.{Step}
use Rattle.calling.specs.declared.stages.Step.TheVariants.{On, Ends}
use Rattle.calling.specs.Progress.{At, Between, CallsAt, EndsCall, IsIgnored, Moves, SpokeThen, outcomes_of}
use Rattle.endings.proofs.Lists.{all-append, all-map}
use Rattle.calling.proofs.Moving.{silent_speaks, moved, no_go_before, one_id, calling_no_end, ignored_no_end}

-- nothing is to be said, and the client goes on
pub waits : (told : FileContent) (stage : _) (done : List Outcome) (x : List ℕ) (marks : List Mark) (said : List ℕ) (a : Line) → At told stage done x marks said → Moves told x said a a done (On stage)
waits told stage done x marks said a h =
    moved told stage done x marks said [] a a (On stage) (subst (At told stage done x marks) (sym (append-nil said)) h) (inl (refl, silent_speaks a))

pub call_waits : (told : FileContent) (c next : Caller) (done : List Outcome) (x y : List ℕ) (marks : List Mark) (said : List ℕ) (further : Option Mark) (a : Line) → (h : CallsAt told c done x marks said)
    → CallsOn c.password y (marks ++ option_to_list further) h.spoken (Wait next) → Moves told y said a a done (On (Calling next))
call_waits told c next done x y marks said further a h k =
    waits told (Calling next) done y (marks ++ option_to_list further) said a (record { few = h.few; password = k.1 ∙ h.password; none = h.none; spoken = h.spoken; stands = k.0; said_is = h.said_is })

pub call_says : (told : FileContent) (c next : Caller) (done : List Outcome) (x y : List ℕ) (marks : List Mark) (said : List ℕ) (further : Option Mark) (a b : Line) (step : Step) → (h : CallsAt told c done x marks said)
    → CallsOn c.password y (marks ++ option_to_list further) h.spoken (SayLogon next) → SpokeThen a b (logon_line next.password) (On (Calling next)) Pending step → Moves told y said a b done step
call_says told c next done x y marks said further a b step h k s =
    moved told (Calling next) done y (marks ++ option_to_list further) said (logon_line next.password) a b step (record {
      few = h.few;
      password = k.1 ∙ h.password;
      none = h.none;
      spoken = h.spoken ++ logon_line c.password;
      stands = k.0;
      said_is = ap (λ z. z ++ logon_line next.password) h.said_is ∙ ap (λ p. cr ∷ (h.spoken ++ logon_line p)) k.1;
    }) s

-- the client is logged on
pub logon_leads : (told : FileContent) (c : Caller) (next : MarkReader) (done : List Outcome) (x y : List ℕ) (marks : List Mark) (said : List ℕ) (further : Option Mark) → (h : CallsAt told c done x marks said)
    → CallsOn c.password y (marks ++ option_to_list further) h.spoken (GoesOn next) → Between told (drop (length done) told.pages) (marks ++ option_to_list further) done said
logon_leads told c next done x y marks said further h k =
    let past = marks ++ option_to_list further in
    let l = k.1 in
    record {
      few = h.few;
      left_is = refl;
      go = record { before = l.before; since = l.since; rest = []; marks_are = l.marks_are; ignored = l.ignored; calling = l.calling };
      no_end = subst (AllByRecursion (λ m. m ≢ End)) (sym l.marks_are)
          (all-append (λ m. m ≢ End) l.before (Id ∷ (l.since ++ Go ∷ [])) (ignored_no_end l.before l.ignored) ((λ e. cc), all-append (λ m. m ≢ End) l.since (Go ∷ []) (calling_no_end l.since l.calling) ((λ e. cc), tt)));
      unspent = subst (AllByRecursion (λ o. o ≢ TriesSpent)) (sym h.none) tt;
      leads = λ r others more s.
          let s0 : Sends told.pages r others more = subst (λ d. Sends (drop (length d) told.pages) r others more) h.none s in
          subst (λ d. Client told.password told.pages (past ++ r) (d ++ others) (said ++ more)) (sym h.none)
          (subst (λ p. Client p told.pages (past ++ r) others (said ++ more)) h.password
          (answered (record {
            before = l.before;
            since = l.since;
            mark = Go;
            rest = r;
            more = more;
            marks_are = ap (λ z. z ++ r) l.marks_are ∙ (append_assoc l.before (Id ∷ (l.since ++ Go ∷ [])) r ∙ ap (λ z. l.before ++ Id ∷ z) (append_assoc l.since (Go ∷ []) r));
            ignored = l.ignored;
            calling = l.calling;
            decides = tt;
            said_is = ap (λ z. z ++ more) (h.said_is ∙ ap (λ z. cr ∷ z) l.said_is);
            logs_on = s0;
          })));
    }

-- the logon is decided against the client
not_logged_on : (mark : Mark) (pages : List PageToSend) → mark ≢ Go → LogsOn mark pages [] (all_are NoLogon pages) []
not_logged_on Go pages h = absurd (h refl)
not_logged_on Id pages h = (refl, refl)
not_logged_on Ack pages h = (refl, refl)
not_logged_on Nak pages h = (refl, refl)
not_logged_on Rs pages h = (refl, refl)
not_logged_on End pages h = (refl, refl)

refusal_ends : (told : FileContent) (before since : List Mark) (mark : Mark) (marks : List Mark) → marks ≡ before ++ Id ∷ (since ++ mark ∷ []) → AllByRecursion IsIgnored before → IsCalling since → DecidesLogon since mark → mark ≢ Go → EndsCall told marks
refusal_ends told before since Go marks e i c d n = absurd (n refl)
refusal_ends told before since End marks e i c d n = inl (before ++ Id ∷ since, ([], e ∙ sym (append_assoc before (Id ∷ since) (End ∷ []))))
refusal_ends told before since Nak marks e i c d n = inr (inl (record { before = before; since = since; rest = []; marks_are = e; ignored = i; calling = c; third = d }))
refusal_ends told before since Id marks e i c d n = elim d [ ]
refusal_ends told before since Ack marks e i c d n = elim d [ ]
refusal_ends told before since Rs marks e i c d n = elim d [ ]

refused_so : (told : FileContent) (c : Caller) (done : List Outcome) (x y : List ℕ) (old marks : List Mark) (said : List ℕ) (a : Line) → (h : CallsAt told c done x old said) → AreMarks y marks → IsClientRefused c.password marks h.spoken
    → Moves told y said a a done (Ends (Over Pending))
refused_so told c done x y old marks said a h m (inl (before, k)) =
    let all : AllByRecursion (λ m. m ≢ Id) marks = subst (AllByRecursion (λ m. m ≢ Id)) (sym k.0) (all-append (λ m. m ≢ Id) before (End ∷ []) (all-map IsIgnored (λ m. m ≢ Id) (λ m k. k.0) before k.1) ((λ e. cc), tt)) in
    record {
      marks = marks;
      piece = [];
      marks_are = m;
      client = subst (λ d. Client told.password told.pages marks (outcomes_of told Pending d) (said ++ [])) (sym h.none)
          (turned_away (record { before = before; rest = []; marks_are = k.0; no_id = all-map IsIgnored (λ m. m ≢ Id) (λ m k. k.0) before k.1; outcomes_are = refl; said_is = append-nil said ∙ (h.said_is ∙ ap (λ z. cr ∷ z) k.2) }));
      logon = λ g. no_go_before marks all g;
      spoke = silent_speaks a;
      stands = inl (before, ([], k.0));
    }
refused_so told c done x y old marks said a h m (inr (before, (since, (mark, k)))) = record {
  marks = marks;
  piece = [];
  marks_are = m;
  client = subst (λ d. Client told.password told.pages marks (outcomes_of told Pending d) (said ++ [])) (sym h.none)
      (subst (λ p. Client p told.pages marks (all_are NoLogon told.pages) (said ++ [])) h.password
      (answered (record {
        before = before;
        since = since;
        mark = mark;
        rest = [];
        more = [];
        marks_are = k.0;
        ignored = k.1;
        calling = k.2;
        decides = k.3;
        said_is = append-nil said ∙ (h.said_is ∙ ap (λ z. cr ∷ z) (k.5 ∙ sym (append-nil (logons c.password since))));
        logs_on = not_logged_on mark told.pages k.4;
      })));
  logon = λ g.
      let e = one_id marks before (since ++ mark ∷ []) g.before (g.since ++ Go ∷ g.rest) k.0 g.marks_are k.1 g.ignored in
      let w = one_first DecidesLogon (since ++ mark ∷ []) since mark [] g.since Go g.rest (record { form = refl; none = k.2; decides = k.3 }) (record { form = e; none = g.calling; decides = tt }) in
      k.4 w.1;
  spoke = silent_speaks a;
  stands = refusal_ends told before since mark marks k.0 k.1 k.2 k.3 k.4;
}

pub call_refused : (told : FileContent) (c : Caller) (done : List Outcome) (x y : List ℕ) (marks : List Mark) (said : List ℕ) (further : Option Mark) (a : Line) → (h : CallsAt told c done x marks said)
    → CallsOn c.password y (marks ++ option_to_list further) h.spoken Refused → Moves told y said a a done (Ends (Over Pending))
call_refused told c done x y marks said further a h k = refused_so told c done x y marks (marks ++ option_to_list further) said a h k.0 k.1
