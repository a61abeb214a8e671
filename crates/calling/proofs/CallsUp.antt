-- A call from dialling to hanging up, and the statuses of sending pages.
use Rattle.std.proofs.Common.{◌≡◌, ◌≢◌, ◌⊎◌, inl, inr, ℕ, ◌-◌, ◌*◌, ◌≤◌, ◌<◌, Bool, true, false, List, [], ◌∷◌, length, length-append, suc, Option, Result, Ok, Err, IsTrue, refl, sym, ◌∙◌, ap, subst, arith}
use Rattle.std.proofs.lemmas.List.{length-map}
use Rattle.tap_entry.specs.declared.hearing.Mark.{Mark}
use Rattle.tap_entry.specs.declared.outcomes.Outcome.{Outcome}
use Rattle.tap_entry.specs.declared.hearing.Mark.TheVariants.{Id, Ack, Nak, Rs, End, Go}
use Rattle.tap_entry.specs.declared.outcomes.Outcome.TheVariants.{Sent as PageSent, Abandoned, TriesSpent, Disconnected, NoLogon}
use Rattle.tap_entry.specs.Client.{Client, Follows, LogsOn, PageToSend, Sends as SendsPages, all_are, silent, turned_away, still_calling, answered}
use Rattle.tap_entry.specs.PagesFile.{FileContent}
use Rattle.wires.specs.Causes.{Rose}
use Rattle.wires.specs.Held.{Connection}
use Rattle.wires.specs.Line.{Dials, HangsUp, IsBlank, Line, last}
use Rattle.wires.specs.Written.{Puts, Written}
use Rattle.wires.proofs.Opened.{Dials-blank}
use Rattle.wires.proofs.Written.{no_ok, still}
use Rattle.calling.specs.declared.stages.Ending.{Ending}
use Rattle.calling.specs.declared.stages.Ending.TheVariants.{Over, Lost}
use Rattle.calling.specs.declared.stages.Logon.{Logon}
use Rattle.calling.specs.declared.stages.Logon.TheVariants.{Pending, Granted}
use Rattle.endings.specs.declared.statuses.Status.{Status}
use Rattle.endings.specs.declared.statuses.Status.TheVariants.{OutFault, WireFault}
use Rattle.calling.specs.Calls.{CallsUp, HungUp, IsDialled, NoneRose, PutLines, HasSent, SendsSo, SomeRose, WentWell, status_of}
use Rattle.calling.specs.Conversations.{Came, HasRoom, CallStaysOpen, CallStop, CallStops, hear_failed as is_deaf, long as is_long, say_failed as is_mute, silent as is_silent, through as is_through}
use Rattle.calling.specs.OutcomeLines.{all_sent, outcome_lines}
use Rattle.calling.specs.Progress.{logon_of}
use Rattle.endings.specs.Talk.{Grew, here}
use Rattle.calling.proofs.PutOutcomes.{lines_few}

-- a dial that didn't fail
pub dialled_so : {T E : Type 0} (address : List ℕ) (a b : Line) (x : T) → Dials {E = E} a b address (Ok x) → IsDialled address a b
dialled_so address a b x h = record {
  tells = h.keeps.tells;
  count = h.keeps.count;
  lent = h.keeps.lent;
  connections = h.connections;
  asked = h.asked;
  opened = h.opened;
  blank = λ t. subst (λ (n : ℕ). IsBlank (b.connection n)) (let e = (h.opened t).1 in let q : a.opened ≡ b.opened - 1 = omega (arith, e) in q) (Dials-blank a b address x t h);
  gate = h.cause.kept;
  others = h.others;
  steady = λ t s lt. (h.steady t s lt).1;
}

-- one that failed
pub undialled_so : {T E : Type 0} (told : FileContent) (address : List ℕ) (a b : Line) (e : E) (outcomes : List Outcome) → Dials {T = T} a b address (Err e) → outcomes ≡ all_are NoLogon told.pages → CallsUp told address a b outcomes (Lost Pending)
undialled_so {T} {E} told address a b e outcomes h o = inr (record {
  failed = record {
    tells = h.keeps.tells;
    count = h.keeps.count;
    lent = h.keeps.lent;
    connections = h.connections;
    asked = h.asked;
    opened = h.failed;
    gate = h.cause.failed;
    others = h.others;
    unsteady = λ t s lt. no_ok T E e (h.steady t s lt).0;
  };
  outcomes_are = o;
  ending_is = refl;
})

-- why a call stopped, after a hang-up
pub stops_on : (told : FileContent) (old mid now : Line) (heard fed : List ℕ) (marks : List Mark) (due said : List ℕ) (ending : Ending) (stop : CallStop) → now.hear ≡ mid.hear → now.say ≡ mid.say
    → CallStops told old mid heard fed marks due said ending stop → CallStops told old now heard fed marks due said ending stop
stops_on told old mid now heard fed marks due said ending is_silent h s k = record { all = k.all; nothing_left = k.nothing_left; said_is = k.said_is; hear = h ∙ k.hear; say = s ∙ k.say; ending_is = k.ending_is }
stops_on told old mid now heard fed marks due said ending is_deaf h s k = record { all = k.all; said_is = k.said_is; hear = subst (λ (n : ℕ). Rose old.hear n) (sym h) k.hear; say = s ∙ k.say; ending_is = k.ending_is }
stops_on told old mid now heard fed marks due said ending is_through h s k = record { reason = k.reason; said_is = k.said_is; hear = h ∙ k.hear; say = s ∙ k.say; ending_is = k.ending_is }
stops_on told old mid now heard fed marks due said ending is_long h s k = record { reason = k.reason; said_is = k.said_is; hear = h ∙ k.hear; say = s ∙ k.say; ending_is = k.ending_is }
stops_on told old mid now heard fed marks due said ending is_mute h s k = record {
  before = k.before;
  piece = k.piece;
  n = k.n;
  due_is = k.due_is;
  within = k.within;
  said_is = k.said_is;
  earlier = k.earlier;
  hear = h ∙ k.hear;
  say = subst (λ (n : ℕ). Rose old.say n) (sym s) k.say;
  ending_is = k.ending_is;
}

-- a call after a hang-up
abbrev pub hung_up : {T E : Type 0} (told : FileContent) (old mid now : Line) (outcomes : List Outcome) (ending : Ending) (r : Result T E) → Came told old mid outcomes ending → mid.is_open ≡ old.is_open → HangsUp mid now r → Came told old now outcomes ending
hung_up told old mid now outcomes ending r u o h = record {
  heard = u.heard;
  fed = u.fed;
  marks = u.marks;
  due = u.due;
  said = u.said;
  turns = u.turns;
  stop = u.stop;
  fed_is = u.fed_is;
  marks_are = u.marks_are;
  client = u.client;
  logon = u.logon;
  within = u.within;
  line = record {
    tells = h.keeps.tells ∙ u.line.tells;
    count = h.keeps.count ∙ u.line.count;
    lent = h.keeps.lent ∙ u.line.lent;
    opened = h.opened ∙ u.line.opened;
    asked = h.asked ∙ u.line.asked;
    grew = λ k p. subst (λ (c : Connection). Grew (here old) c u.heard u.said u.turns) (sym (h.connections (last old))) (u.line.grew k p);
    others = λ k ne. h.connections k ∙ u.line.others k ne;
    gate = h.gate ∙ u.line.gate;
  };
  turns_are = u.turns_are;
  stops = stops_on told old mid now u.heard u.fed u.marks u.due u.said ending u.stop h.hear h.say u.stops;
  well = λ k p s f. let q = u.well k p s f in record { hear = h.hear ∙ q.hear; say = h.say ∙ q.say; steady = (h.steady (still u.line.tells k) q.steady (still o p)).1; over = q.over };
}

-- the connection that was dialled is the next one
pub next_here : (address : List ℕ) (a b : Line) → IsDialled address a b → IsTrue a.tells → here b ≡ a.connection a.opened
next_here address a b d t = ap b.connection (let e = (d.opened t).1 in let q : b.opened - 1 ≡ a.opened = omega (arith, e) in q) ∙ d.connections a.opened

room_there : (told : FileContent) (address : List ℕ) (a b : Line) → IsDialled address a b → IsTrue a.tells → HasRoom told (a.connection a.opened) → HasRoom told (here b)
room_there told address a b d t r = subst (HasRoom told) (sym (next_here address a b d t)) r

-- dialled, called and hung up
pub called_so : {T E : Type 0} (told : FileContent) (address : List ℕ) (a b c d : Line) (outcomes : List Outcome) (spoke : Ending) (x : T) → IsDialled address a b → CallStaysOpen told b c outcomes spoke → HangsUp {E = E} c d (Ok x) → CallsUp told address a d outcomes spoke
called_so told address a b c d outcomes spoke x o h u = inl (record {
  dialled = b;
  spoke = spoke;
  opens = o;
  asked = λ t. u.asked ∙ (h.came.line.asked ∙ o.asked t);
  came = hung_up told b c d outcomes spoke (Ok x) h.came h.open_stays u;
  logon = h.came.logon;
  shut = λ t. u.shut (still h.came.line.tells (still o.tells t));
  hung = inl (refl, u.cause.kept ∙ (h.hang ∙ o.others.hang));
  well = λ t s lt r.
      let q = h.came.well (still o.tells t) (o.opened t).2 (o.steady t s lt) (room_there told address a b o t r) in
      (u.cause.kept ∙ (h.hang ∙ o.others.hang), (u.steady (still h.came.line.tells (still o.tells t)) q.steady (still h.open_stays (o.opened t).2)).1, q.over);
})

pub called_unhung : {T E : Type 0} (told : FileContent) (address : List ℕ) (a b c d : Line) (outcomes : List Outcome) (spoke : Ending) (logon : Logon) (e : E) → IsDialled address a b → CallStaysOpen told b c outcomes spoke → HangsUp {T = T} c d (Err e) → logon ≡ logon_of spoke
    → CallsUp told address a d outcomes (Lost logon)
called_unhung {T} {E} told address a b c d outcomes spoke logon e o h u l = subst (λ z. CallsUp told address a d outcomes (Lost z)) (sym l) (inl (record {
  dialled = b;
  spoke = spoke;
  opens = o;
  asked = λ t. u.asked ∙ (h.came.line.asked ∙ o.asked t);
  came = hung_up told b c d outcomes spoke (Err e) h.came h.open_stays u;
  logon = h.came.logon;
  shut = λ t. u.shut (still h.came.line.tells (still o.tells t));
  hung = inr (refl, subst (λ (n : ℕ). Rose n d.hang) (h.hang ∙ o.others.hang) u.cause.failed);
  well = λ t s lt r.
      let q = h.came.well (still o.tells t) (o.opened t).2 (o.steady t s lt) (room_there told address a b o t r) in
      no_ok T E e (u.steady (still h.came.line.tells (still o.tells t)) q.steady (still h.open_stays (o.opened t).2)).0;
}))

over_status : (logon : Logon) (b : Bool) → status_of (Over logon) b ≢ WireFault
over_status Pending b e = cc
over_status Granted true e = cc
over_status Granted false e = cc

-- no status of an ending is OutFault
not_out : (ending : Ending) (b : Bool) → status_of ending b ≢ OutFault
not_out (Lost logon) b e = cc
not_out (Over Pending) b e = cc
not_out (Over Granted) true e = cc
not_out (Over Granted) false e = cc

-- no count rose where the wire is steady and fit
none_rose : (told : FileContent) (address : List ℕ) (a d : Line) (outcomes : List Outcome) (ending : Ending) → CallsUp told address a d outcomes ending → IsTrue a.tells → IsTrue a.steady → a.opened < a.count → HasRoom told (a.connection a.opened) → NoneRose a d
none_rose told address a d outcomes ending (inl h) t s lt r =
    let q = h.came.well (still h.opens.tells t) (h.opens.opened t).2 (h.opens.steady t s lt) (room_there told address a h.dialled h.opens t r) in
    record { gate = h.came.line.gate ∙ h.opens.gate; hear = q.hear ∙ h.opens.others.hear; say = q.say ∙ h.opens.others.say; hang = (h.well t s lt r).0 }
none_rose told address a d outcomes ending (inr h) t s lt r = absurd (h.failed.unsteady t s lt)

-- the wire is steady there
steady_after : (told : FileContent) (address : List ℕ) (a d : Line) (outcomes : List Outcome) (ending : Ending) → CallsUp told address a d outcomes ending → IsTrue a.tells → IsTrue a.steady → a.opened < a.count → HasRoom told (a.connection a.opened) → IsTrue d.steady
steady_after told address a d outcomes ending (inl h) t s lt r = (h.well t s lt r).1
steady_after told address a d outcomes ending (inr h) t s lt r = absurd (h.failed.unsteady t s lt)

-- the call isn't lost there
not_lost : (told : FileContent) (address : List ℕ) (a d : Line) (outcomes : List Outcome) (ending : Ending) (b : Bool) → CallsUp told address a d outcomes ending → IsTrue a.tells → IsTrue a.steady → a.opened < a.count → HasRoom told (a.connection a.opened)
    → status_of ending b ≢ WireFault
not_lost told address a d outcomes ending b (inl h) t s lt r e = over_status (logon_of ending) b (ap (λ z. status_of z b) (sym (h.well t s lt r).2) ∙ e)
not_lost told address a d outcomes ending b (inr h) t s lt r e = absurd (h.failed.unsteady t s lt)

-- no count rose where the call is over
over_counts : (told : FileContent) (old new : Line) (heard fed : List ℕ) (marks : List Mark) (due said : List ℕ) (logon : Logon) (stop : CallStop) → CallStops told old new heard fed marks due said (Over logon) stop → (new.hear ≡ old.hear) × (new.say ≡ old.say)
over_counts told old new heard fed marks due said logon is_silent k = (k.hear, k.say)
over_counts told old new heard fed marks due said logon is_deaf k = let e = k.ending_is in cc
over_counts told old new heard fed marks due said logon is_through k = (k.hear, k.say)
over_counts told old new heard fed marks due said logon is_long k = (k.hear, k.say)
over_counts told old new heard fed marks due said logon is_mute k = let e = k.ending_is in cc

-- a count rose where it is lost
lost_counts : (told : FileContent) (old new : Line) (heard fed : List ℕ) (marks : List Mark) (due said : List ℕ) (logon : Logon) (stop : CallStop) → CallStops told old new heard fed marks due said (Lost logon) stop → Rose old.hear new.hear ⊎ Rose old.say new.say
lost_counts told old new heard fed marks due said logon is_silent k = let e = k.ending_is in cc
lost_counts told old new heard fed marks due said logon is_deaf k = inl k.hear
lost_counts told old new heard fed marks due said logon is_through k = let e = k.ending_is in cc
lost_counts told old new heard fed marks due said logon is_long k = let e = k.ending_is in cc
lost_counts told old new heard fed marks due said logon is_mute k = inr k.say

went_well : (told : FileContent) (address : List ℕ) (a d : Line) (outcomes : List Outcome) (logon : Logon) → CallsUp told address a d outcomes (Over logon) → WentWell told address a d outcomes (Over logon)
went_well told address a d outcomes logon (inr h) = let e = h.ending_is in cc
went_well told address a d outcomes logon (inl h) = by_hung h.hung
  where
    by_hung : HungUp a d h.spoke (Over logon) → WentWell told address a d outcomes (Over logon)
    by_hung (inr k) = let e = k.0 in cc
    by_hung (inl k) =
        let n = over_counts told h.dialled d h.came.heard h.came.fed h.came.marks h.came.due h.came.said logon h.came.stop (subst (λ z. CallStops told h.dialled d h.came.heard h.came.fed h.came.marks h.came.due h.came.said z h.came.stop) (sym k.0) h.came.stops) in
        record { called = h; none_rose = record { gate = h.came.line.gate ∙ h.opens.gate; hear = n.0 ∙ h.opens.others.hear; say = n.1 ∙ h.opens.others.say; hang = k.1 } }

some_rose : (told : FileContent) (address : List ℕ) (a d : Line) (outcomes : List Outcome) (logon : Logon) → CallsUp told address a d outcomes (Lost logon) → SomeRose a d
some_rose told address a d outcomes logon (inr h) = inl h.failed.gate
some_rose told address a d outcomes logon (inl h) = by_hung h.hung
  where
    by_count : Rose h.dialled.hear d.hear ⊎ Rose h.dialled.say d.say → SomeRose a d
    by_count (inl n) = inr (inl (subst (λ (m : ℕ). Rose m d.hear) h.opens.others.hear n))
    by_count (inr n) = inr (inr (inl (subst (λ (m : ℕ). Rose m d.say) h.opens.others.say n)))

    by_hung : HungUp a d h.spoke (Lost logon) → SomeRose a d
    by_hung (inr k) = inr (inr (inr k.1))
    by_hung (inl k) = by_count (lost_counts told h.dialled d h.came.heard h.came.fed h.came.marks h.came.due h.came.said logon h.came.stop (subst (λ z. CallStops told h.dialled d h.came.heard h.came.fed h.came.marks h.came.due h.came.said z h.came.stop) (sym k.0) h.came.stops))

-- an outcome for each page
follows_many : (outcome : Outcome) (pages : List PageToSend) (on : List Outcome → List ℕ → Type 0) (others : List Outcome) (more : List ℕ) → (on others more → length others ≡ length pages) → Follows outcome pages on others more → length others ≡ length pages
follows_many TriesSpent pages on others more f k = ap length k.0 ∙ length-map pages (λ _. Disconnected)
follows_many Disconnected pages on others more f k = ap length k.0 ∙ length-map pages (λ _. Disconnected)
follows_many PageSent pages on others more f k = f k
follows_many Abandoned pages on others more f k = f k
follows_many NoLogon pages on others more f k = f k

sends_many : (pages : List PageToSend) (marks : List Mark) (outcomes : List Outcome) (said : List ℕ) → SendsPages pages marks outcomes said → length outcomes ≡ length pages
sends_many [] marks outcomes said k = ap length k.0
sends_many (page ∷ pages) marks outcomes said (inl k) = ap length k.outcomes_are ∙ length-map (page ∷ pages) (λ _. Disconnected)
sends_many (page ∷ pages) marks outcomes said (inr k) =
    let n = follows_many k.outcome pages (λ others more. SendsPages pages k.rest others more) k.others k.more (sends_many pages k.rest k.others k.more) k.follows in
    ap length k.outcomes_are ∙ ap (λ m. suc m) n

logs_on_many : (mark : Mark) (pages : List PageToSend) (rest : List Mark) (outcomes : List Outcome) (said : List ℕ) → LogsOn mark pages rest outcomes said → length outcomes ≡ length pages
logs_on_many Go pages rest outcomes said k = sends_many pages rest outcomes said k
logs_on_many Id pages rest outcomes said k = ap length k.0 ∙ length-map pages (λ _. NoLogon)
logs_on_many Ack pages rest outcomes said k = ap length k.0 ∙ length-map pages (λ _. NoLogon)
logs_on_many Nak pages rest outcomes said k = ap length k.0 ∙ length-map pages (λ _. NoLogon)
logs_on_many Rs pages rest outcomes said k = ap length k.0 ∙ length-map pages (λ _. NoLogon)
logs_on_many End pages rest outcomes said k = ap length k.0 ∙ length-map pages (λ _. NoLogon)

client_many : (password : Option (List ℕ)) (pages : List PageToSend) (marks : List Mark) (outcomes : List Outcome) (said : List ℕ) → Client password pages marks outcomes said → length outcomes ≡ length pages
client_many password pages marks outcomes said (silent k) = ap length k.outcomes_are ∙ length-map pages (λ _. NoLogon)
client_many password pages marks outcomes said (turned_away k) = ap length k.outcomes_are ∙ length-map pages (λ _. NoLogon)
client_many password pages marks outcomes said (still_calling k) = ap length k.outcomes_are ∙ length-map pages (λ _. NoLogon)
client_many password pages marks outcomes said (answered k) = logs_on_many k.mark pages k.rest outcomes k.more k.logs_on

calls_many : (told : FileContent) (address : List ℕ) (a d : Line) (outcomes : List Outcome) (ending : Ending) → CallsUp told address a d outcomes ending → length outcomes ≡ length told.pages
calls_many told address a d outcomes ending (inl h) = client_many told.password told.pages h.came.marks outcomes h.came.due h.came.client
calls_many told address a d outcomes ending (inr h) = ap length h.outcomes_are ∙ length-map told.pages (λ _. NoLogon)

-- the lines fit in 20 bytes a page
pub lines_fit : (told : FileContent) (address : List ℕ) (a d : Line) (outcomes : List Outcome) (ending : Ending) (room : ℕ) → CallsUp told address a d outcomes ending → length told.pages ≤ 1000 → 20 * length told.pages ≤ room → length (outcome_lines outcomes) ≤ room
lines_fit told address a d outcomes ending room h few fits =
    let n = calls_many told address a d outcomes ending h in
    let l = lines_few outcomes 1 (omega (arith, n, few)) in
    omega (arith, l, n, fits)

-- the status
sends_by : (told : FileContent) (address : List ℕ) (a d : Line) (out0 out1 : Written ℕ) (outcomes : List Outcome) (ending : Ending) (b : Bool) → all_sent outcomes ≡ b → CallsUp told address a d outcomes ending → PutLines out0 out1 outcomes → SendsSo told address a d out0 out1 outcomes (status_of ending b)
sends_by told address a d out0 out1 outcomes (Lost logon) b e h p = ((Lost logon, h), some_rose told address a d outcomes logon h, p)
sends_by told address a d out0 out1 outcomes (Over Pending) b e h p = (went_well told address a d outcomes Pending h, p)
sends_by told address a d out0 out1 outcomes (Over Granted) true e h p = (went_well told address a d outcomes Granted h, e, p)
sends_by told address a d out0 out1 outcomes (Over Granted) false e h p = (went_well told address a d outcomes Granted h, e, p)

-- the lines were put
pub sent_so : {T E : Type 0} (told : FileContent) (address : List ℕ) (a d : Line) (out0 out1 : Written ℕ) (outcomes : List Outcome) (ending : Ending) (x : T) (status : Status) → CallsUp told address a d outcomes ending → Puts {E = E} out0 out1 (outcome_lines outcomes) (Ok x)
    → status ≡ status_of ending (all_sent outcomes) → HasSent told address a d out0 out1 status
sent_so told address a d out0 out1 outcomes ending x status h p e = record {
  outcomes = outcomes;
  sends = subst (SendsSo told address a d out0 out1 outcomes) (sym e) (sends_by told address a d out0 out1 outcomes ending (all_sent outcomes) refl h (record { tells = p.tells; held = p.held; room = λ t. omega (arith, p.room t, ap length (p.held t), length-append out0.held (outcome_lines outcomes)); steady = λ t s f. (p.steady t s f).1; faults = p.faults.kept; lent = p.lent }));
  wire_well = λ t s lt r. (none_rose told address a d outcomes ending h t s lt r, steady_after told address a d outcomes ending h t s lt r, λ z. not_lost told address a d outcomes ending (all_sent outcomes) h t s lt r (sym e ∙ z));
  out_well = λ t s f. (p.faults.kept, λ z. not_out ending (all_sent outcomes) (sym e ∙ z));
}

-- a put failed
pub unput_so : {T E : Type 0} (told : FileContent) (address : List ℕ) (a d : Line) (out0 out1 : Written ℕ) (outcomes : List Outcome) (ending : Ending) (x : E) → length told.pages ≤ 1000 → CallsUp told address a d outcomes ending → Puts {T = T} out0 out1 (outcome_lines outcomes) (Err x)
    → HasSent told address a d out0 out1 OutFault
unput_so {T} {E} told address a d out0 out1 outcomes ending x few h p = record {
  outcomes = outcomes;
  sends = ((ending, h), record { tells = p.tells; held = p.held; room = p.room; faults = p.faults.failed; lent = p.lent; unsteady = λ t s f. no_ok T E x (p.steady t s f).0 });
  wire_well = λ t s lt r. (none_rose told address a d outcomes ending h t s lt r, steady_after told address a d outcomes ending h t s lt r, λ z. cc);
  out_well = λ t s f. no_ok T E x (p.steady t s (lines_fit told address a d outcomes ending out0.room h few f)).0;
}
