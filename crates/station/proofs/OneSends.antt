-- What `send` comes to where no call fails.
use Rattle.std.proofs.Common.{◌≡◌, ◌≢◌, ℕ, ◌<◌, ◌≤◌, ◌⊎◌, inl, inr, Bool, true, false, List, [], ◌∷◌, ◌++◌, append-nil, append_assoc, length, length-append, IsTrue, IsFalse, refl, sym, ◌∙◌, ap, ap₂, subst, arith}
use Rattle.std.proofs.lemmas.Bool.{cases_lt}
use Rattle.tap_entry.specs.declared.faults.PagesFault.{PagesFault}
use Rattle.tap_entry.specs.declared.faults.PagesFault.TheVariants as Pages
use Rattle.tap_entry.specs.declared.hearing.Mark.{Mark}
use Rattle.tap_entry.specs.declared.outcomes.Outcome.{Outcome as PageOutcome}
use Rattle.tap_entry.specs.Client.{Client}
use Rattle.tap_entry.specs.Marks.{AreHeard}
use Rattle.tap_entry.specs.PagesFile.{IsFile, IsFileRefused, FileContent}
use Rattle.tap_entry.proofs.OneClient.{one_client}
use Rattle.tap_entry.proofs.OneCut.{one_marks}
use Rattle.tap_entry.proofs.OneFile.{not_wrong, one_line, one_told}
use Rattle.wires.specs.Files.{all_files}
use Rattle.wires.specs.Held.{Connection}
use Rattle.wires.specs.Line.{Line, last}
use Rattle.wires.specs.Written.{Written}
use Rattle.wires.proofs.Written.{still}
use Rattle.wires.proofs.Fronts.{fronts_of}
use Rattle.station.specs.declared.outcomes.Outcome.{Outcome}
use Rattle.station.specs.declared.outcomes.Outcome.TheVariants.{Ended, Misread, Refused}
use Rattle.calling.specs.declared.stages.Ending.{Ending}
use Rattle.calling.specs.declared.stages.Ending.TheVariants.{Over}
use Rattle.calling.specs.declared.stages.Logon.{Logon}
use Rattle.calling.specs.declared.stages.Logon.TheVariants.{Pending, Granted}
use Rattle.endings.specs.declared.statuses.Status.{Status}
use Rattle.endings.specs.declared.statuses.Status.TheVariants.{Done, FileFault, LogonRefused, Memory, OutFault, SomeUnsent, WireFault}
use Rattle.calling.specs.Calls.{HasCalled, HungUp, PutLines, SendsSo, status_of}
use Rattle.calling.specs.Conversations.{IsWithinDue, CallStop, CallStops, hear_failed, long, say_failed, silent, through}
use Rattle.station.specs.OneSend.{FitSend, OneSend}
use Rattle.calling.specs.OutcomeLines.{all_sent, outcome_lines}
use Rattle.calling.specs.Progress.{EndsCall, IsLogon}
use Rattle.station.specs.OneOutcome.{LeftAlike}
use Rattle.station.specs.Rows.{Objects, around}
use Rattle.station.specs.SendRows.{SendRow, SentBy}
use Rattle.serving.specs.Serving.{Around}
use Rattle.wires.specs.Fronts.{IsFront}
use Rattle.endings.specs.Talk.{here}
use Rattle.calling.proofs.CallsUp.{next_here}
use Rattle.station.proofs.LeftAlike.{kept_alike, same_said}

-- ---- what is fed

-- why a call stopped that wasn't lost: all was fed, or the marks ended it, or it has 1,000,000 characters
abbrev pub StoppedSo : FileContent → List ℕ → List ℕ → List Mark → Type 0
StoppedSo told rest fed marks = (fed ≡ rest) ⊎ (EndsCall told marks ⊎ (length fed ≡ 1000000))

-- What a call comes to where this is to be heard.
pub record ComesSo (told : FileContent) (rest fed : List ℕ) (marks : List Mark) (outcomes : List PageOutcome) (said : List ℕ) (logon : Logon) : Type 0 where
  pub front : IsFront fed rest
  pub marks_are : AreHeard fed marks
  pub client : Client told.password told.pages marks outcomes said
  pub is_logon : IsLogon logon marks
  pub within : IsWithinDue told fed
  pub how : StoppedSo told rest fed marks

-- where one is a shorter front of what the other was fed, it doesn't stop there
not_shorter : {B : Type 0} (told : FileContent) (rest x y : List ℕ) (marks : List Mark) → IsFront x y → length x < length y → IsFront y rest → AreHeard x marks → IsWithinDue told y → StoppedSo told rest x marks → B
not_shorter told rest x y marks f lt g m w (inl all) = let a = ap length all in let b = ap length g.is in let c = length-append y g.rest in absurd (omega (arith, lt, a, b, c))
not_shorter told rest x y marks f lt g m w (inr (inl ends)) = absurd (w.early x marks f lt m ends)
not_shorter told rest x y marks f lt g m w (inr (inr many)) = let a = w.most in absurd (omega (arith, lt, a, many))

same_length : (x y : List ℕ) → IsFront x y → length y ≤ length x → y ≡ x
same_length x y f le = f.is ∙ nothing_more f.rest (let a = ap length f.is in let b = length-append x f.rest in omega (arith, a, b, le))
  where
    nothing_more : (r : List ℕ) → length r ≡ 0 → x ++ r ≡ x
    nothing_more [] e = append-nil x
    nothing_more (z ∷ r) e = cc

same_front : (told : FileContent) (rest x y : List ℕ) (marks : List Mark) → IsFront x y → IsFront y rest → AreHeard x marks → IsWithinDue told y → StoppedSo told rest x marks → y ≡ x
same_front told rest x y marks f g m w h = elim (cases_lt (length x) (length y)) [
  | inl lt ↦ not_shorter told rest x y marks f lt g m w h
  | inr le ↦ same_length x y f (omega (arith, le))
]

same_fed : (told : FileContent) (rest x y : List ℕ) (marks marks2 : List Mark) (outcomes outcomes2 : List PageOutcome) (said said2 : List ℕ) (logon logon2 : Logon) → ComesSo told rest x marks outcomes said logon
    → ComesSo told rest y marks2 outcomes2 said2 logon2 → y ≡ x
same_fed told rest x y marks marks2 outcomes outcomes2 said said2 logon logon2 h k = elim (fronts_of x y (h.front).rest (k.front).rest (sym (h.front).is ∙ (k.front).is)) [
  | inl f ↦ same_front told rest x y marks f k.front h.marks_are k.within h.how
  | inr f ↦ sym (same_front told rest y x marks2 f h.front k.marks_are h.within k.how)
]

one_logon : (marks : List Mark) (a b : Logon) → IsLogon a marks → IsLogon b marks → b ≡ a
one_logon marks Pending Pending h k = refl
one_logon marks Granted Granted h k = refl
one_logon marks Pending Granted h k = absurd (h k)
one_logon marks Granted Pending h k = absurd (k h)

-- Two calls came to the same.
pub record SameCall (a b : List PageOutcome) (x y : List ℕ) (l m : Logon) : Type 0 where
  pub outcomes : b ≡ a
  pub saids : y ≡ x
  pub logons : m ≡ l

same_call : (told : FileContent) (rest x y : List ℕ) (marks marks2 : List Mark) (outcomes outcomes2 : List PageOutcome) (said said2 : List ℕ) (logon logon2 : Logon) → ComesSo told rest x marks outcomes said logon
    → ComesSo told rest y marks2 outcomes2 said2 logon2 → SameCall outcomes outcomes2 said said2 logon logon2
same_call told rest x y marks marks2 outcomes outcomes2 said said2 logon logon2 h k =
    let fed : y ≡ x = same_fed told rest x y marks marks2 outcomes outcomes2 said said2 logon logon2 h k in
    let are : AreHeard x marks2 = subst (λ (z : List ℕ). AreHeard z marks2) fed k.marks_are in
    let same : marks2 ≡ marks = one_marks _ marks2 marks are h.marks_are in
    let c = one_client told.password told.pages marks outcomes2 said2 outcomes said (subst (λ (z : List Mark). Client told.password told.pages z outcomes2 said2) same k.client) h.client in
    record {
      outcomes = c.0;
      saids = c.1;
      logons = one_logon marks logon logon2 h.is_logon (subst (λ (z : List Mark). IsLogon logon2 z) same k.is_logon);
    }

-- ---- a call that isn't lost

over_said : (told : FileContent) (old new : Line) (c : Connection) (heard fed : List ℕ) (marks : List Mark) (due said : List ℕ) (logon : Logon) (stop : CallStop) → IsTrue old.tells → IsTrue old.is_open → here old ≡ c
    → CallStops told old new heard fed marks due said (Over logon) stop → (said ≡ due) × StoppedSo told c.rest fed marks
over_said told old new c heard fed marks due said logon silent t o e k = (k.said_is, inl (k.all ∙ (sym (k.nothing_left t o) ∙ ap (λ (z : Connection). z.rest) e)))
over_said told old new c heard fed marks due said logon hear_failed t o e k = let q = k.ending_is in cc
over_said told old new c heard fed marks due said logon through t o e k = (k.said_is, inr (inl k.reason))
over_said told old new c heard fed marks due said logon long t o e k = (k.said_is, inr (inr k.reason))
over_said told old new c heard fed marks due said logon say_failed t o e k = let q = k.ending_is in cc

-- A call over the next connection that came to this, with what was said there.
pub record IsCalled (told : FileContent) (old new : Line) (outcomes : List PageOutcome) (logon : Logon) : Type 0 where
  pub fed : List ℕ
  pub marks : List Mark
  pub said : List ℕ
  pub comes : ComesSo told (old.connection old.opened).rest fed marks outcomes said logon
  pub there : (new.connection old.opened).said ≡ (old.connection old.opened).said ++ said
  pub others : (k : ℕ) → k ≢ old.opened → new.connection k ≡ old.connection k

spoke_over : (old new : Line) (spoke : Ending) (logon : Logon) → HungUp old new spoke (Over logon) → spoke ≡ Over logon
spoke_over old new spoke logon (inl h) = sym h.0
spoke_over old new spoke logon (inr h) = let e = h.0 in cc

is_called : (told : FileContent) (address : List ℕ) (old new : Line) (outcomes : List PageOutcome) (logon : Logon) → IsTrue old.tells → HasCalled told address old new outcomes (Over logon) → IsCalled told old new outcomes logon
is_called told address old new outcomes logon t h =
    let b = h.dialled in
    let c = h.came in
    let same : here b ≡ old.connection old.opened = next_here address old b h.opens t in
    let number : last b ≡ old.opened = (let e = (h.opens.opened t).1 in omega (arith, e)) in
    let tells : IsTrue b.tells = still h.opens.tells t in
    let was_open : IsTrue b.is_open = (h.opens.opened t).2 in
    let stops = subst (λ (z : Ending). CallStops told b new c.heard c.fed c.marks c.due c.said z c.stop) (spoke_over old new h.spoke logon h.hung) c.stops in
    let s = over_said told b new (old.connection old.opened) c.heard c.fed c.marks c.due c.said logon c.stop tells was_open same stops in
    let grew = c.line.grew tells was_open in
    record {
      fed = c.fed;
      marks = c.marks;
      said = c.due;
      comes = record {
        front = record {
          rest = (c.fed_is).rest ++ (new.connection (last b)).rest;
          is =
              sym (ap (λ (z : Connection). z.rest) same) ∙ (grew.rest ∙ (ap (λ (z : List ℕ). z ++ (new.connection (last b)).rest) (c.fed_is).is
              ∙ append_assoc c.fed (c.fed_is).rest (new.connection (last b)).rest));
        };
        marks_are = c.marks_are;
        client = c.client;
        is_logon = h.logon;
        within = c.within;
        how = s.1;
      };
      there = ap (λ (n : ℕ). (new.connection n).said) (sym number) ∙ (grew.said_is ∙ ap₂ (λ (z : Connection) (l : List ℕ). z.said ++ l) same s.0);
      others = λ k ne. c.line.others k (λ o e. ne (e ∙ number)) ∙ h.opens.connections k;
    }

-- two calls over one wire said the same on each connection
called_alike : (told : FileContent) (old new other : Line) (outcomes outcomes2 : List PageOutcome) (logon logon2 : Logon) → IsCalled told old new outcomes logon → IsCalled told old other outcomes2 logon2 → (k : ℕ) → (other.connection k).said ≡ (new.connection k).said
called_alike told old new other outcomes outcomes2 logon logon2 h g k = elim (cases_lt k old.opened) [
  | inl before ↦ elsewhere (λ e. absurd (omega (arith, before, e)))
  | inr from ↦ elim (cases_lt old.opened k) [
    | inl behind ↦ elsewhere (λ e. absurd (omega (arith, behind, e)))
    | inr at ↦ (let e : old.opened ≡ k = omega (arith, from, at) in subst (λ (n : ℕ). (other.connection n).said ≡ (new.connection n).said) e there)
  ]
]
  where
    saids : g.said ≡ h.said
    saids = (same_call told (old.connection old.opened).rest h.fed g.fed h.marks g.marks outcomes outcomes2 h.said g.said logon logon2 h.comes g.comes).saids

    there : (other.connection old.opened).said ≡ (new.connection old.opened).said
    there = g.there ∙ (ap (λ (z : List ℕ). (old.connection old.opened).said ++ z) saids ∙ sym h.there)

    elsewhere : k ≢ old.opened → (other.connection k).said ≡ (new.connection k).said
    elsewhere ne = ap (λ (c : Connection). c.said) (g.others k ne ∙ sym (h.others k ne))

-- ---- what the command comes to

-- The pages were sent, and their lines put.
pub record IsSent (pages : List ℕ) (old new : Around) (outcome : Outcome) : Type 0 where
  pub told : FileContent
  pub outcomes : List PageOutcome
  pub logon : Logon
  pub pages_are : IsFile (old.shelf.file pages) told
  pub called : IsCalled told old.wire new.wire outcomes logon
  pub held : new.out.held ≡ old.out.held ++ outcome_lines outcomes
  pub kept : all_files new.shelf ≡ all_files old.shelf
  pub outcome_is : outcome ≡ Ended (status_of (Over logon) (all_sent outcomes))

-- The file is refused, and nothing was touched.
pub record IsMisread (pages : List ℕ) (old new : Around) (outcome : Outcome) : Type 0 where
  pub fault : PagesFault
  pub not_memory : fault ≢ Pages.Memory
  pub refused : IsFileRefused (old.shelf.file pages) fault
  pub wire : new.wire ≡ old.wire
  pub out : new.out ≡ old.out
  pub kept : all_files new.shelf ≡ all_files old.shelf
  pub outcome_is : outcome ≡ Misread fault

granted : (b : Bool) → IsTrue b → status_of (Over Granted) b ≡ Done
granted true h = refl
granted false h = cc

granted_not : (b : Bool) → IsFalse b → status_of (Over Granted) b ≡ SomeUnsent
granted_not true h = cc
granted_not false h = refl

sent_by : (told : FileContent) (address pages : List ℕ) (old new : Around) (outcomes : List PageOutcome) (logon : Logon) (status : Status) → FitSend pages old → IsFile (old.shelf.file pages) told → all_files new.shelf ≡ all_files old.shelf
    → HasCalled told address old.wire new.wire outcomes (Over logon) → PutLines old.out new.out outcomes → status_of (Over logon) (all_sent outcomes) ≡ status → IsSent pages old new (Ended status)
sent_by told address pages old new outcomes logon status fit is kept called put e = record {
  told = told;
  outcomes = outcomes;
  logon = logon;
  pages_are = is;
  called = is_called told address old.wire new.wire outcomes logon fit.wire_tells called;
  held = put.held fit.out_tells;
  kept = kept;
  outcome_is = ap (λ (x : Status). Ended x) (sym e);
}

by_status : (told : FileContent) (address pages : List ℕ) (old new : Around) (outcomes : List PageOutcome) (status : Status) → FitSend pages old → IsFile (old.shelf.file pages) told → all_files new.shelf ≡ all_files old.shelf → status ≢ WireFault → status ≢ OutFault
    → SendsSo told address old.wire new.wire old.out new.out outcomes status → IsSent pages old new (Ended status)
by_status told address pages old new outcomes Done fit is kept w o h = sent_by told address pages old new outcomes Granted Done fit is kept (h.0).called h.2 (granted (all_sent outcomes) h.1)
by_status told address pages old new outcomes LogonRefused fit is kept w o h = sent_by told address pages old new outcomes Pending LogonRefused fit is kept (h.0).called h.1 refl
by_status told address pages old new outcomes SomeUnsent fit is kept w o h = sent_by told address pages old new outcomes Granted SomeUnsent fit is kept (h.0).called h.2 (granted_not (all_sent outcomes) h.1)
by_status told address pages old new outcomes WireFault fit is kept w o h = absurd (w refl)
by_status told address pages old new outcomes OutFault fit is kept w o h = absurd (o refl)
by_status told address pages old new outcomes other fit is kept w o h = elim h [ ]

is_sent : (address pages : List ℕ) (old new : Around) (status : Status) → FitSend pages old → SentBy address pages old new status → IsSent pages old new (Ended status)
is_sent address pages old new status fit h =
    let is : IsFile (old.shelf.file pages) h.told = h.read.pages_are fit.tells in
    by_status h.told address pages old new (h.sends).outcomes status fit is h.read.unharmed.kept.files
    ((h.sends).wire_well fit.wire_tells fit.wire_steady fit.left (fit.wire_room h.told is)).2
    ((h.sends).out_well fit.out_tells fit.out_steady (fit.out_room h.told is)).1
    (h.sends).sends

-- what a row comes to
view : (address pages : List ℕ) (old new : Around) (outcome : Outcome) → FitSend pages old → outcome ≢ Ended Memory → SendRow address pages old new outcome → IsSent pages old new outcome ⊎ IsMisread pages old new outcome
view address pages old new (Refused fault) fit some h = elim h [ ]
view address pages old new (Misread Pages.Memory) fit some h = elim h [ ]
view address pages old new (Misread fault) fit some h = inr (record { fault = fault; not_memory = λ e. cc; refused = h.0.refused fit.tells; wire = h.1.wire; out = h.1.out; kept = h.0.unharmed.kept.files; outcome_is = refl })
view address pages old new (Ended Memory) fit some h = absurd (some refl)
view address pages old new (Ended FileFault) fit some h = absurd (h.0.unsteady fit.tells fit.steady fit.there)
view address pages old new (Ended status) fit some h = inl (is_sent address pages old new status fit h)

-- a file is refused for one fault, where there was memory
one_fault : (bytes : List ℕ) (a b : PagesFault) → a ≢ Pages.Memory → b ≢ Pages.Memory → IsFileRefused bytes a → IsFileRefused bytes b → b ≡ a
one_fault bytes Pages.Memory b n m h k = absurd (n refl)
one_fault bytes a Pages.Memory n m h k = absurd (m refl)
one_fault bytes Pages.Long Pages.Long n m h k = refl
one_fault bytes Pages.Long (Pages.Line y) n m h k = absurd (omega (arith, h, k.0))
one_fault bytes (Pages.Line x) Pages.Long n m h k = absurd (omega (arith, h.0, k))
one_fault bytes (Pages.Line x) (Pages.Line y) n m h k = ap (λ (z : ℕ). Pages.Line z) (one_line bytes y x k.1 h.1)

-- a file that says pages isn't refused
not_refused : {B : Type 0} (bytes : List ℕ) (told : FileContent) (fault : PagesFault) → fault ≢ Pages.Memory → IsFile bytes told → IsFileRefused bytes fault → B
not_refused bytes told Pages.Memory n h k = absurd (n refl)
not_refused bytes told Pages.Long n h k = let a = h.short in absurd (omega (arith, a, k))
not_refused bytes told (Pages.Line x) n h k = absurd (not_wrong bytes told x h k.1)

-- two that were sent
both_sent : (pages : List ℕ) (old new other : Objects) (outcome another : Outcome) → IsSent pages (around old) (around new) outcome → IsSent pages (around old) (around other) another → (another ≡ outcome) × LeftAlike new other
both_sent pages old new other outcome another h g =
    let same : g.told ≡ h.told = one_told (old.shelf.file pages) g.told h.told g.pages_are h.pages_are in
    let k : IsCalled h.told old.wire other.wire g.outcomes g.logon = subst (λ (z : FileContent). IsCalled z old.wire other.wire g.outcomes g.logon) same g.called in
    let u = h.called in
    let c = same_call h.told (old.wire.connection old.wire.opened).rest u.fed k.fed u.marks k.marks h.outcomes g.outcomes u.said k.said h.logon g.logon u.comes k.comes in (
      g.outcome_is ∙ (ap₂ (λ (l : Logon) (o : List PageOutcome). Ended (status_of (Over l) (all_sent o))) c.logons c.outcomes ∙ sym h.outcome_is),
      kept_alike old new other h.kept g.kept (called_alike h.told old.wire new.wire other.wire h.outcomes g.outcomes h.logon g.logon u k)
          (g.held ∙ (ap (λ (o : List PageOutcome). old.streams.out.held ++ outcome_lines o) c.outcomes ∙ sym h.held)),
    )

-- two that are refused
both_misread : (pages : List ℕ) (old new other : Objects) (outcome another : Outcome) → IsMisread pages (around old) (around new) outcome → IsMisread pages (around old) (around other) another → (another ≡ outcome) × LeftAlike new other
both_misread pages old new other outcome another h k = (
  k.outcome_is ∙ (ap (λ (x : PagesFault). Misread x) (one_fault (old.shelf.file pages) h.fault k.fault h.not_memory k.not_memory h.refused k.refused) ∙ sym h.outcome_is),
  kept_alike old new other h.kept k.kept (same_said old.wire new.wire other.wire h.wire k.wire) (ap (λ (o : Written ℕ). o.held) (k.out ∙ sym h.out)),
)

pub one_send : OneSend
one_send address pages old new other outcome another fit h k some some2 =
    elim (view address pages (around old) (around new) outcome fit some h.row) [
      | inl sent ↦ elim (view address pages (around old) (around other) another fit some2 k.row) [
        | inl sent2 ↦ both_sent pages old new other outcome another sent sent2
        | inr misread2 ↦ not_refused (old.shelf.file pages) sent.told misread2.fault misread2.not_memory sent.pages_are misread2.refused
      ]
      | inr misread ↦ elim (view address pages (around old) (around other) another fit some2 k.row) [
        | inl sent2 ↦ not_refused (old.shelf.file pages) sent2.told misread.fault misread.not_memory sent2.pages_are misread.refused
        | inr misread2 ↦ both_misread pages old new other outcome another misread misread2
      ]
    ]
