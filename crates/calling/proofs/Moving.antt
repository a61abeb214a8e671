-- Where a client stands, and what it would come to if nothing more were heard.
use Rattle.std.proofs.Common.{◌≡◌, ◌≢◌, inl, inr, ℕ, List, [], ◌∷◌, ◌++◌, append-nil, append_assoc, length, drop, Ok, Option, Some, None, refl, sym, ◌∙◌, ap, subst, arith}
use Rattle.std.specs.List.{AllByRecursion}
use Rattle.entry_line.specs.Chars.{cr}
use Rattle.tap_entry.specs.declared.hearing.Mark.{Mark}
use Rattle.tap_entry.specs.declared.hearing.Mark.TheVariants.{Id, Nak, End, Go}
use Rattle.tap_entry.specs.declared.outcomes.Outcome.{Outcome}
use Rattle.tap_entry.specs.declared.outcomes.Outcome.TheVariants.{TriesSpent, Disconnected, NoLogon}
use Rattle.tap_entry.specs.Client.{Client, PageToSend, IsUndecided, all_are, content, count_of, good_bye, said_for, IsCalling, DecidesLogon, silent, still_calling}
use Rattle.tap_entry.specs.Marks.{AreMarks}
use Rattle.tap_entry.specs.PagesFile.{FileContent}
use Rattle.tap_entry.specs.States.{CallsSo}
use Rattle.tap_entry.proofs.FirstMarks.{one_first, places, same, before, behind, all_at}
use Rattle.tap_entry.proofs.OneClient.{one_client}
use Rattle.tap_entry.proofs.Steps.{marks_heard}
use Rattle.wires.specs.Below.{Speaks}
use Rattle.wires.specs.Line.{Line}
use Rattle.wires.specs.declared.Failed.{Failed}
use Rattle.calling.specs.declared.stages.Logon.{Logon}
use Rattle.calling.specs.declared.stages.Logon.TheVariants.{Pending, Granted}
use Rattle.calling.specs.declared.stages.Stage.{Stage}
use Rattle.calling.specs.declared.stages.Stage.TheVariants.{Calling, Sending, Leaving}
use Rattle.calling.specs.declared.stages.Step.{Step}
use Rattle.calling.specs.declared.stages.Step.TheVariants.{On}
use Rattle.calling.specs.Progress.{At, EndsCall, HeardGo, IsIgnored, IsLogon, Moves, RefusesLogon, SpokeThen, logon_of_stage, outcomes_of, unfinished}
use Rattle.endings.proofs.Lists.{all-append, all-map}

-- nothing was said
pub silent_speaks : (a : Line) → Speaks {E = Failed} a a [] (Ok (tt {0}))
silent_speaks a = record {
  tells = refl;
  around = record { count = refl; others = λ _ _. refl; heard = λ _. record { heard = refl; rest = refl; turns = refl }; opened = refl; is_open = refl; asked = refl; gate = refl; hear = refl; hang = refl; lent = refl };
  said = λ _. sym (append-nil _);
  room = λ _. refl;
  steady = λ _ s _ _. (refl, s);
  cause = record { later = omega arith; failed = tt; kept = refl };
}

-- a fact of each mark in its place
pub all_of : (P : Mark → Type 0) (x : List Mark) → ((front : List Mark) (m : Mark) (rest : List Mark) → x ≡ front ++ m ∷ rest → P m) → AllByRecursion P x
all_of P [] f = tt
all_of P (c ∷ x) f = (f [] c x refl, all_of P x (λ front m rest e. f (c ∷ front) m rest (ap (λ z. c ∷ z) e)))

-- a fact of each outcome at one place
all_there : (P : Outcome → Type 0) (a : List Outcome) (m : Outcome) (x : List Outcome) → AllByRecursion P (a ++ m ∷ x) → P m
all_there P [] m x h = h.0
all_there P (c ∷ a) m x h = all_there P a m x h.1

-- there is one first Id
pub one_id : (marks a x b y : List Mark) → marks ≡ a ++ Id ∷ x → marks ≡ b ++ Id ∷ y → AllByRecursion IsIgnored a → AllByRecursion IsIgnored b → x ≡ y
one_id marks a x b y e f h k = elim (places a Id x b Id y (sym e ∙ f)) [
  | same p q r ↦ r
  | before z p ↦ absurd ((all_at IsIgnored a Id z (subst (AllByRecursion IsIgnored) p k)).0 refl)
  | behind z p ↦ absurd ((all_at IsIgnored b Id z (subst (AllByRecursion IsIgnored) p h)).0 refl)
]

-- no End where nothing decides the logon, or the page
pub calling_no_end : (since : List Mark) → IsCalling since → AllByRecursion (λ m. m ≢ End) since
calling_no_end since h = all_of (λ m. m ≢ End) since (λ front m rest e q. h front End rest (e ∙ ap (λ z. front ++ z ∷ rest) q) tt)

pub undecided_no_end : (k : ℕ) (since : List Mark) → IsUndecided k since → AllByRecursion (λ m. m ≢ End) since
undecided_no_end k since h = all_of (λ m. m ≢ End) since (λ front m rest e q. h front End rest Disconnected (e ∙ ap (λ z. front ++ z ∷ rest) q) refl)

pub ignored_no_end : (x : List Mark) → AllByRecursion IsIgnored x → AllByRecursion (λ m. m ≢ End) x
ignored_no_end x h = all-map IsIgnored (λ m. m ≢ End) (λ m k. k.1) x h

ignored_no_id : (x : List Mark) → AllByRecursion IsIgnored x → AllByRecursion (λ m. m ≢ Id) x
ignored_no_id x h = all-map IsIgnored (λ m. m ≢ Id) (λ m k. k.0) x h

-- Go stays heard
pub go_on : (past since : List Mark) → HeardGo past → HeardGo (past ++ since)
go_on past since h = record {
  before = h.before;
  since = h.since;
  rest = h.rest ++ since;
  marks_are = ap (λ z. z ++ since) h.marks_are ∙ (append_assoc h.before (Id ∷ (h.since ++ Go ∷ h.rest)) since ∙ ap (λ z. h.before ++ Id ∷ z) (append_assoc h.since (Go ∷ h.rest) since));
  ignored = h.ignored;
  calling = h.calling;
}

-- no Go was heard where there is no Id
pub no_go_before : (marks : List Mark) → AllByRecursion (λ m. m ≢ Id) marks → HeardGo marks → ⊥
no_go_before marks h k = all_at (λ m. m ≢ Id) k.before Id (k.since ++ Go ∷ k.rest) (subst (AllByRecursion (λ m. m ≢ Id)) k.marks_are h) refl

no_refusal_before : (marks : List Mark) → AllByRecursion (λ m. m ≢ Id) marks → RefusesLogon marks → ⊥
no_refusal_before marks h k = all_at (λ m. m ≢ Id) k.before Id (k.since ++ Nak ∷ k.rest) (subst (AllByRecursion (λ m. m ≢ Id)) k.marks_are h) refl

calls_no_go : (password : Option (List ℕ)) (marks : List Mark) (r : Option ℕ) (spoken : List ℕ) → CallsSo password marks r spoken → HeardGo marks → ⊥
calls_no_go password marks None spoken k go = no_go_before marks (ignored_no_id marks k.0) go
calls_no_go password marks (Some n) spoken (front, (since, k)) go = k.2 go.since Go go.rest (one_id marks front since go.before (go.since ++ Go ∷ go.rest) k.0 go.marks_are k.1 go.ignored) tt

calls_no_refusal : (password : Option (List ℕ)) (marks : List Mark) (r : Option ℕ) (spoken : List ℕ) → CallsSo password marks r spoken → RefusesLogon marks → ⊥
calls_no_refusal password marks None spoken k h = no_refusal_before marks (ignored_no_id marks k.0) h
calls_no_refusal password marks (Some n) spoken (front, (since, k)) h = k.2 h.since Nak h.rest (one_id marks front since h.before (h.since ++ Nak ∷ h.rest) k.0 h.marks_are k.1 h.ignored) h.third

calls_no_end : (password : Option (List ℕ)) (marks : List Mark) (r : Option ℕ) (spoken : List ℕ) → CallsSo password marks r spoken → AllByRecursion (λ m. m ≢ End) marks
calls_no_end password marks None spoken k = ignored_no_end marks k.0
calls_no_end password marks (Some n) spoken (front, (since, k)) =
    subst (AllByRecursion (λ m. m ≢ End)) (sym k.0) (all-append (λ m. m ≢ End) front (Id ∷ since) (ignored_no_end front k.1) ((λ e. cc), calling_no_end since k.2))

-- Go and the third Nak don't both decide the logon
go_no_refusal : (marks : List Mark) → HeardGo marks → RefusesLogon marks → ⊥
go_no_refusal marks g h =
    let e = one_id marks g.before (g.since ++ Go ∷ g.rest) h.before (h.since ++ Nak ∷ h.rest) g.marks_are h.marks_are g.ignored h.ignored in
    let w = one_first DecidesLogon (g.since ++ Go ∷ g.rest) g.since Go g.rest h.since Nak h.rest (record { form = refl; none = g.calling; decides = tt }) (record { form = e; none = h.calling; decides = h.third }) in
    let q = w.1 in cc

calls_client : (password : Option (List ℕ)) (pages : List PageToSend) (marks : List Mark) (r : Option ℕ) (spoken : List ℕ) → CallsSo password marks r spoken → Client password pages marks (all_are NoLogon pages) (cr ∷ spoken)
calls_client password pages marks None spoken k = silent (record { no_id = ignored_no_id marks k.0; outcomes_are = refl; said_is = ap (λ z. cr ∷ z) k.1 })
calls_client password pages marks (Some n) spoken (front, (since, k)) =
    still_calling (record { before = front; since = since; marks_are = k.0; ignored = k.1; calling = k.2; outcomes_are = refl; said_is = ap (λ z. cr ∷ z) k.5 })

-- what a client would come to if nothing more were heard
pub at_client : (told : FileContent) (stage : Stage) (done : List Outcome) (x : List ℕ) (marks : List Mark) (said : List ℕ) → At told stage done x marks said
    → Client told.password told.pages marks (outcomes_of told (logon_of_stage stage) done) said
at_client told (Calling c) done x marks said h =
    subst (λ d. Client told.password told.pages marks (outcomes_of told Pending d) said) (sym h.none)
    (subst (λ z. Client told.password told.pages marks (all_are NoLogon told.pages) z) (sym h.said_is)
    (subst (λ p. Client p told.pages marks (all_are NoLogon told.pages) (cr ∷ h.spoken)) h.password (calls_client c.password told.pages marks c.refusals h.spoken h.stands.calls)))
at_client told (Sending s) done x marks said h =
    let u : IsUndecided (count_of (content h.page)) h.since = subst (λ z. IsUndecided (count_of z) h.since) h.content_is h.stands.undecided in
    let w = h.between.leads h.since (all_are Disconnected (h.page ∷ h.left)) (said_for (content h.page) h.since) (inl (record { undecided = u; outcomes_are = refl; said_is = refl })) in
    subst (λ z. Client told.password told.pages marks (done ++ all_are Disconnected z) said) h.between.left_is
    (subst (λ z. Client told.password told.pages z (done ++ all_are Disconnected (h.page ∷ h.left)) said) (sym h.marks_are)
    (subst (λ z. Client told.password told.pages (h.past ++ h.since) (done ++ all_are Disconnected (h.page ∷ h.left)) z) (sym h.said_is) w))
at_client told (Leaving e) done x marks said h =
    let w = h.between.leads h.since [] good_bye (refl, refl) in
    subst (λ z. Client told.password told.pages marks (done ++ all_are Disconnected z) said) h.between.left_is
    (subst (λ z. Client told.password told.pages z (done ++ []) said) (sym h.marks_are)
    (subst (λ z. Client told.password told.pages (h.past ++ h.since) (done ++ []) z) (sym h.said_is) w))

pub at_logon : (told : FileContent) (stage : Stage) (done : List Outcome) (x : List ℕ) (marks : List Mark) (said : List ℕ) → At told stage done x marks said → IsLogon (logon_of_stage stage) marks
at_logon told (Calling c) done x marks said h = calls_no_go c.password marks c.refusals h.spoken h.stands.calls
at_logon told (Sending s) done x marks said h = subst HeardGo (sym h.marks_are) (go_on h.past h.since h.between.go)
at_logon told (Leaving e) done x marks said h = subst HeardGo (sym h.marks_are) (go_on h.past h.since h.between.go)

pub at_marks : (told : FileContent) (stage : Stage) (done : List Outcome) (x : List ℕ) (marks : List Mark) (said : List ℕ) → At told stage done x marks said → AreMarks x marks
at_marks told (Calling c) done x marks said h = marks_heard c.ear x marks h.stands.hears
at_marks told (Sending s) done x marks said h = subst (AreMarks x) (sym h.marks_are) (marks_heard s.ear x (h.past ++ h.since) h.stands.hears)
at_marks told (Leaving e) done x marks said h = marks_heard e x marks h.stands

pub at_no_end : (told : FileContent) (stage : Stage) (done : List Outcome) (x : List ℕ) (marks : List Mark) (said : List ℕ) → At told stage done x marks said → AllByRecursion (λ m. m ≢ End) marks
at_no_end told (Calling c) done x marks said h = calls_no_end c.password marks c.refusals h.spoken h.stands.calls
at_no_end told (Sending s) done x marks said h =
    subst (AllByRecursion (λ m. m ≢ End)) (sym h.marks_are) (all-append (λ m. m ≢ End) h.past h.since h.between.no_end (undecided_no_end (count_of s.content) h.since h.stands.undecided))
at_no_end told (Leaving e) done x marks said h = subst (AllByRecursion (λ m. m ≢ End)) (sym h.marks_are) (all-append (λ m. m ≢ End) h.past h.since h.between.no_end h.no_end)

at_no_refusal : (told : FileContent) (stage : Stage) (done : List Outcome) (x : List ℕ) (marks : List Mark) (said : List ℕ) → At told stage done x marks said → RefusesLogon marks → ⊥
at_no_refusal told (Calling c) done x marks said h r = calls_no_refusal c.password marks c.refusals h.spoken h.stands.calls r
at_no_refusal told (Sending s) done x marks said h r = go_no_refusal marks (at_logon told (Sending s) done x marks said h) r
at_no_refusal told (Leaving e) done x marks said h r = go_no_refusal marks (at_logon told (Leaving e) done x marks said h) r

-- no page is TriesSpent
at_unspent : (told : FileContent) (stage : Stage) (done : List Outcome) (x : List ℕ) (marks : List Mark) (said : List ℕ) → At told stage done x marks said → AllByRecursion (λ o. o ≢ TriesSpent) done
at_unspent told (Calling c) done x marks said h = subst (AllByRecursion (λ o. o ≢ TriesSpent)) (sym h.none) tt
at_unspent told (Sending s) done x marks said h = h.between.unspent
at_unspent told (Leaving e) done x marks said h = h.between.unspent

all_the_same : (o : Outcome) (pages : List PageToSend) → o ≢ TriesSpent → AllByRecursion (λ o. o ≢ TriesSpent) (all_are o pages)
all_the_same o [] h = tt
all_the_same o (p ∷ pages) h = (h, all_the_same o pages h)

not_spent : (logon : Logon) → unfinished logon ≢ TriesSpent
not_spent Pending = λ e. cc
not_spent Granted = λ e. cc

-- the marks so far don't end the call
pub at_goes_on : (told : FileContent) (stage : Stage) (done : List Outcome) (x : List ℕ) (marks : List Mark) (said : List ℕ) → At told stage done x marks said → EndsCall told marks → ⊥
at_goes_on told stage done x marks said h (inl e) = all_at (λ m. m ≢ End) e.0 End e.1.0 (subst (AllByRecursion (λ m. m ≢ End)) e.1.1 (at_no_end told stage done x marks said h)) refl
at_goes_on told stage done x marks said h (inr (inl r)) = at_no_refusal told stage done x marks said h r
at_goes_on told stage done x marks said h (inr (inr s)) =
    let w = one_client told.password told.pages marks _ _ _ _ (at_client told stage done x marks said h) s.client in
    let a = all-append (λ o. o ≢ TriesSpent) done (all_are (unfinished (logon_of_stage stage)) (drop (length done) told.pages)) (at_unspent told stage done x marks said h) (all_the_same (unfinished (logon_of_stage stage)) (drop (length done) told.pages) (not_spent (logon_of_stage stage))) in
    all_there (λ o. o ≢ TriesSpent) s.before TriesSpent s.behind (subst (AllByRecursion (λ o. o ≢ TriesSpent)) (w.0 ∙ s.spent) a) refl

-- the client goes on, or saying the piece failed
pub moved : (told : FileContent) (stage : Stage) (done : List Outcome) (x : List ℕ) (marks : List Mark) (said piece : List ℕ) (old new : Line) (step : Step) → At told stage done x marks (said ++ piece)
    → SpokeThen old new piece (On stage) (logon_of_stage stage) step → Moves told x said old new done step
moved told stage done x marks said piece old new step h (inl s) = subst (Moves told x said old new done) (sym s.0) (record {
  marks = marks;
  piece = piece;
  marks_are = at_marks told stage done x marks (said ++ piece) h;
  client = at_client told stage done x marks (said ++ piece) h;
  logon = at_logon told stage done x marks (said ++ piece) h;
  spoke = s.1;
  stands = h;
})
moved told stage done x marks said piece old new step h (inr s) = subst (Moves told x said old new done) (sym s.0) (record {
  marks = marks;
  piece = piece;
  marks_are = at_marks told stage done x marks (said ++ piece) h;
  client = at_client told stage done x marks (said ++ piece) h;
  logon = at_logon told stage done x marks (said ++ piece) h;
  spoke = s.1;
  stands = tt;
})
