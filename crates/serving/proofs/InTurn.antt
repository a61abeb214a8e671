-- What the wire is after connections were served in turn, and why sessions were lost.
use Rattle.std.proofs.Common.{◌≡◌, ◌≢◌, ℕ, ◌+◌, ◌-◌, ◌<◌, ◌≤◌, ◌⊎◌, inl, inr, Bool, true, false, List, [], ◌∷◌, length, IsTrue, IsFalse, refl, sym, ◌∙◌, ap, subst, arith}
use Rattle.std.specs.List.{AllByRecursion}
use Rattle.std.specs.Prelude.{if◌then◌else◌}
use Rattle.std.proofs.lemmas.Bool.{cases_lt}
use Rattle.subscribers.specs.Parts.{Parts}
use Rattle.wires.proofs.Written.{still}
use Rattle.wires.specs.Causes.{Rose}
use Rattle.wires.specs.Held.{Connection}
use Rattle.wires.specs.Line.{IsBlank, Keeps, Line, last}
use Rattle.serving.specs.declared.session.SessionEnd.{SessionEnd}
use Rattle.serving.specs.declared.session.SessionEnd.TheVariants.{HungUp, LineLost}
use Rattle.serving.specs.InTurn.{SessionIsAt, LostRaises, WireAfter}
use Rattle.serving.specs.Served.{AllFrom, OpenedNext, Served, ServedInTurn}
use Rattle.serving.specs.Protocols.{Protocol, SessionIn, end_in, is_last}
use Rattle.serving.specs.Sessions.{SessionStop, SessionStops, hear_failed, say_failed, silent, told, ungreeted}
use Rattle.endings.specs.Talk.{Grew, here}
use Rattle.serving.proofs.Protocols.{not_hung_up, not_lost}

-- ---- what the wire is

-- a session on the next connection changes no other connection, and leaves the wire as many
pub session_keeps : {p : Protocol} {settings : Parts} {spare : ℕ} (first : Line) (s : Served p settings spare) → OpenedNext first s.before → Keeps first s.after
session_keeps first s o = record {
  tells = s.ran.line.tells ∙ o.waited.keeps.tells;
  count = s.ran.line.count ∙ o.waited.keeps.count;
  lent = s.ran.line.lent ∙ o.waited.keeps.lent;
}

pub session_opened : {p : Protocol} {settings : Parts} {spare : ℕ} (first : Line) (s : Served p settings spare) → OpenedNext first s.before → IsTrue first.tells → s.after.opened ≡ first.opened + 1
session_opened first s o t = s.ran.line.opened ∙ o.opened t

pub session_others : {p : Protocol} {settings : Parts} {spare : ℕ} (first : Line) (s : Served p settings spare) → OpenedNext first s.before → IsTrue first.tells → (k : ℕ) → k ≢ first.opened → s.after.connection k ≡ first.connection k
session_others first s o t k ne = s.ran.line.others k (λ _ e. ne (omega (arith, e, o.opened t))) ∙ o.waited.connections k

pub turn-keeps : {p : Protocol} {settings : Parts} {spare : ℕ} (first now : Line) (ss : List (Served p settings spare)) → ServedInTurn first now ss → Keeps first now
turn-keeps first now [] h = h.waited.keeps
turn-keeps first now (s ∷ ss) h =
    let one = session_keeps first s h.0 in
    let on = turn-keeps s.after now ss h.1 in
    record { tells = on.tells ∙ one.tells; count = on.count ∙ one.count; lent = on.lent ∙ one.lent }

pub turn-opened : {p : Protocol} {settings : Parts} {spare : ℕ} (first now : Line) (ss : List (Served p settings spare)) → ServedInTurn first now ss → IsTrue first.tells → now.opened ≡ first.opened + length ss
turn-opened first now [] h t = let e = h.opened t in omega (arith, e)
turn-opened first now (s ∷ ss) h t =
    let on = turn-opened s.after now ss h.1 (still (session_keeps first s h.0).tells t) in
    let one = session_opened first s h.0 t in
    omega (arith, on, one)

pub turn-others : {p : Protocol} {settings : Parts} {spare : ℕ} (first now : Line) (ss : List (Served p settings spare)) → ServedInTurn first now ss → IsTrue first.tells
    → (k : ℕ) → (k < first.opened ⊎ first.opened + length ss ≤ k) → now.connection k ≡ first.connection k
turn-others first now [] h t k d = h.waited.connections k
turn-others first now (s ∷ ss) h t k d =
    let one = session_opened first s h.0 t in
    let later : (k < s.after.opened) ⊎ (s.after.opened + length ss ≤ k) = elim d [
      | inl before ↦ inl (omega (arith, one, before))
      | inr behind ↦ inr (omega (arith, one, behind))
    ] in
    let ne : k ≢ first.opened = λ e. elim d [ inl before ↦ absurd (omega (arith, e, before)) | inr behind ↦ absurd (omega (arith, e, behind)) ] in
    turn-others s.after now ss h.1 (still (session_keeps first s h.0).tells t) k later ∙ session_others first s h.0 t k ne

-- the connection that was opened first is afterwards what its session left
pub turn-stays : {p : Protocol} {settings : Parts} {spare : ℕ} (first now : Line) (s : Served p settings spare) (ss : List (Served p settings spare)) → ServedInTurn first now (s ∷ ss) → IsTrue first.tells
    → now.connection first.opened ≡ s.after.connection first.opened
turn-stays first now s ss h t =
    let one = session_opened first s h.0 t in
    turn-others s.after now ss h.1 (still (session_keeps first s h.0).tells t) first.opened (inl (omega (arith, one)))

-- the connections from this number on are those of another wire
abbrev pub SameFrom : ℕ → Line → Line → Type 0
SameFrom k first now = (j : ℕ) → k ≤ j → now.connection j ≡ first.connection j

pub same_on : {p : Protocol} {settings : Parts} {spare : ℕ} (whole first : Line) (k : ℕ) (s : Served p settings spare) → OpenedNext first s.before → IsTrue first.tells → first.opened ≡ k → SameFrom k whole first → SameFrom (k + 1) whole s.after
same_on whole first k s o t at same = λ j le. session_others first s o t j (λ e. omega (arith, e, at, le)) ∙ same j (omega (arith, le))

mute_not_hung_up : (b : Bool) (p : Protocol) (session : SessionIn p) → (if b then end_in p session else LineLost) ≢ HungUp
mute_not_hung_up true p session e = not_hung_up p session e
mute_not_hung_up false p session e = absurd cc

-- a session that ended because nothing was left was fed all
all_fed : (p : Protocol) (settings : Parts) (spare : ℕ) (old new : Line) (heard fed said : List ℕ) (session : SessionIn p) (end : SessionEnd) (stop : SessionStop p) → IsTrue old.tells → IsTrue old.is_open → SessionStops p settings spare old new heard fed said session end stop
    → end ≡ HungUp → fed ≡ (here old).rest
all_fed p settings spare old new heard fed said session end (ungreeted n) t o h e = let bad : LineLost ≡ HungUp = sym h.end_is ∙ e in absurd cc
all_fed p settings spare old new heard fed said session end silent t o h e = h.all ∙ sym (h.nothing_left t o)
all_fed p settings spare old new heard fed said session end hear_failed t o h e = let bad : LineLost ≡ HungUp = sym h.end_is ∙ e in absurd cc
all_fed p settings spare old new heard fed said session end (told answer) t o h e = absurd (not_hung_up p session (sym h.end_is ∙ e))
all_fed p settings spare old new heard fed said session end (say_failed answer n) t o h e = absurd (mute_not_hung_up (is_last p answer) p session (sym h.end_is ∙ e))

at_each : {p : Protocol} {settings : Parts} {spare : ℕ} (whole first now : Line) (k : ℕ) (ss : List (Served p settings spare)) → first.count ≡ whole.count → first.opened ≡ k → SameFrom k whole first → IsTrue first.tells → ServedInTurn first now ss
    → AllFrom (SessionIsAt whole now) k ss
at_each whole first now k [] count at same t h = tt
at_each {p} {settings} {spare} whole first now k (s ∷ ss) count at same t h =
    let keeps = session_keeps first s h.0 in
    let one = session_opened first s h.0 t in
    let tells : IsTrue s.before.tells = still (h.0).waited.keeps.tells t in
    let open_now : IsTrue s.before.is_open = (h.0).is_open t in
    let number : s.before.opened - 1 ≡ k = let e = (h.0).opened t in omega (arith, e, at) in
    let to_hear : s.before.connection k ≡ whole.connection k = (h.0).waited.connections k ∙ same k (omega arith) in
    let stays : now.connection k ≡ s.after.connection k = subst (λ (n : ℕ). now.connection n ≡ s.after.connection n) at (turn-stays first now s ss h t) in
    let here_is : here s.before ≡ whole.connection k = ap (λ (n : ℕ). s.before.connection n) number ∙ to_hear in
    let now_is : s.after.connection (last s.before) ≡ now.connection k = ap (λ (n : ℕ). s.after.connection n) number ∙ sym stays in (
      record {
        within = omega (arith, (h.0).within t, count, at);
        number = omega (arith, (h.0).opened t, at);
        was_open = open_now;
        blank = subst (λ (n : ℕ). IsBlank (s.before.connection n)) at ((h.0).blank t);
        to_hear = to_hear;
        stays = stays;
        grew = subst (λ (c : Connection). Grew c (now.connection k) s.ran.heard s.ran.said s.ran.turns) here_is
            (subst (λ (c : Connection). Grew (here s.before) c s.ran.heard s.ran.said s.ran.turns) now_is (s.ran.line.grew tells open_now));
        all_fed = λ e. all_fed p settings spare s.before s.after s.ran.heard s.ran.fed s.ran.said s.ran.session s.end s.ran.stop tells open_now s.ran.stops e ∙ ap (λ (c : Connection). c.rest) here_is;
      },
      at_each whole s.after now (k + 1) ss (keeps.count ∙ count) (omega (arith, one, at)) (same_on whole first k s h.0 t at same) (still keeps.tells t) h.1,
    )

pub turn-served : {p : Protocol} {settings : Parts} {spare : ℕ} (first now : Line) (ss : List (Served p settings spare)) → ServedInTurn first now ss → IsTrue first.tells → AllFrom (SessionIsAt first now) first.opened ss
turn-served first now ss h t = at_each first first now first.opened ss refl refl (λ j le. refl) t h

pub turn-shut : {p : Protocol} {settings : Parts} {spare : ℕ} (first now : Line) (ss : List (Served p settings spare)) → ServedInTurn first now ss → IsTrue first.tells → (0 < length ss ⊎ IsFalse first.is_open) → IsFalse now.is_open
turn-shut first now [] h t d = elim d [ inl some ↦ absurd (omega (arith, some)) | inr f ↦ h.shut t f ]
turn-shut first now (s ∷ ss) h t d =
    let keeps = session_keeps first s h.0 in
    turn-shut s.after now ss h.1 (still keeps.tells t) (inr (s.closes.shut (still (h.0).waited.keeps.tells t)))

-- no more connections were served than the wire has
pub turn-within : {p : Protocol} {settings : Parts} {spare : ℕ} (first now : Line) (ss : List (Served p settings spare)) → ServedInTurn first now ss → IsTrue first.tells → (k : ℕ) → first.opened ≤ k → k < first.opened + length ss → k < first.count
turn-within first now [] h t k from lt = absurd (omega (arith, from, lt))
turn-within first now (s ∷ ss) h t k from lt =
    let keeps = session_keeps first s h.0 in
    let one = session_opened first s h.0 t in
    elim (cases_lt first.opened k) [
      | inl later ↦ (
          let on = turn-within s.after now ss h.1 (still keeps.tells t) k (omega (arith, later, one)) (omega (arith, lt, one)) in
          omega (arith, on, keeps.count)
          )
      | inr here ↦ omega (arith, here, from, (h.0).within t)
    ]

pub wire_after : {p : Protocol} {settings : Parts} {spare : ℕ} (first now : Line) (ss : List (Served p settings spare)) → ServedInTurn first now ss → WireAfter first now ss
wire_after first now ss h = record {
  keeps = turn-keeps first now ss h;
  opened = turn-opened first now ss h;
  others = turn-others first now ss h;
  served = turn-served first now ss h;
  shut = turn-shut first now ss h;
}

-- ---- why sessions were lost

-- a count is as it was, or rose
abbrev Went : ℕ → ℕ → Type 0
Went a b = (b ≡ a) ⊎ Rose a b

rose_then : (a b c : ℕ) → Rose a b → Rose b c → Rose a c
rose_then a b c h k = omega (arith, h, k)

went_then : (a b c : ℕ) → Went a b → Went b c → Went a c
went_then a b c (inl e) k = subst (λ (n : ℕ). Went n c) e k
went_then a b c (inr h) (inl e) = inr (subst (λ (n : ℕ). Rose a n) (sym e) h)
went_then a b c (inr h) (inr k) = inr (rose_then a b c h k)

rose_within : (a b c d : ℕ) → Went a b → Rose b c → Went c d → Rose a d
rose_within a b c d h k w = elim w [ inl e ↦ subst (λ (n : ℕ). Rose a n) (sym e) (rose_after h) | inr later ↦ rose_then a c d (rose_after h) later ]
  where
    rose_after : Went a b → Rose a c
    rose_after (inl e) = subst (λ (n : ℕ). Rose n c) e k
    rose_after (inr r) = rose_then a b c r k

-- the counts of hear and of say are as they were, or rose
pub record LineWent (old new : Line) : Type 0 where
  pub hear : Went old.hear new.hear
  pub say : Went old.say new.say

line_then : (a b c : Line) → LineWent a b → LineWent b c → LineWent a c
line_then a b c h k = record { hear = went_then a.hear b.hear c.hear h.hear k.hear; say = went_then a.say b.say c.say h.say k.say }

stops_went : (p : Protocol) (settings : Parts) (spare : ℕ) (old new : Line) (heard fed said : List ℕ) (session : SessionIn p) (end : SessionEnd) (stop : SessionStop p) → SessionStops p settings spare old new heard fed said session end stop → LineWent old new
stops_went p settings spare old new heard fed said session end (ungreeted n) h = record { hear = inl h.hear; say = inr h.say }
stops_went p settings spare old new heard fed said session end silent h = record { hear = inl h.hear; say = inl h.say }
stops_went p settings spare old new heard fed said session end hear_failed h = record { hear = inr h.hear; say = inl h.say }
stops_went p settings spare old new heard fed said session end (told answer) h = record { hear = inl h.hear; say = inl h.say }
stops_went p settings spare old new heard fed said session end (say_failed answer n) h = record { hear = inl h.hear; say = inr h.say }

stops_lost : (p : Protocol) (settings : Parts) (spare : ℕ) (old new : Line) (heard fed said : List ℕ) (session : SessionIn p) (end : SessionEnd) (stop : SessionStop p) → SessionStops p settings spare old new heard fed said session end stop
    → end ≡ LineLost → Rose old.hear new.hear ⊎ Rose old.say new.say
stops_lost p settings spare old new heard fed said session end (ungreeted n) h e = inr h.say
stops_lost p settings spare old new heard fed said session end silent h e = let bad : HungUp ≡ LineLost = sym h.end_is ∙ e in absurd cc
stops_lost p settings spare old new heard fed said session end hear_failed h e = inl h.hear
stops_lost p settings spare old new heard fed said session end (told answer) h e = absurd (not_lost p session (sym h.end_is ∙ e))
stops_lost p settings spare old new heard fed said session end (say_failed answer n) h e = inr h.say

-- waits change none of them
went_wait : {p : Protocol} {settings : Parts} {spare : ℕ} (first : Line) (s : Served p settings spare) → OpenedNext first s.before → LineWent first s.before
went_wait first s o = record { hear = inl o.waited.counts.hear; say = inl o.waited.counts.say }

went_session : {p : Protocol} {settings : Parts} {spare : ℕ} (s : Served p settings spare) → LineWent s.before s.after
went_session {p} {settings} {spare} s = stops_went p settings spare s.before s.after s.ran.heard s.ran.fed s.ran.said s.ran.session s.end s.ran.stop s.ran.stops

went_turn : {p : Protocol} {settings : Parts} {spare : ℕ} (first now : Line) (ss : List (Served p settings spare)) → ServedInTurn first now ss → LineWent first now
went_turn first now [] h = record { hear = inl h.waited.counts.hear; say = inl h.waited.counts.say }
went_turn first now (s ∷ ss) h = line_then first s.after now (line_then first s.before s.after (went_wait first s h.0) (went_session s)) (went_turn s.after now ss h.1)

lost_each : {p : Protocol} {settings : Parts} {spare : ℕ} (whole first now : Line) (ss : List (Served p settings spare)) → LineWent whole first → ServedInTurn first now ss → AllByRecursion (LostRaises whole now) ss
lost_each whole first now [] w h = tt
lost_each {p} {settings} {spare} whole first now (s ∷ ss) w h =
    let before = line_then whole first s.before w (went_wait first s h.0) in
    let behind = went_turn s.after now ss h.1 in (
      λ e. elim (stops_lost p settings spare s.before s.after s.ran.heard s.ran.fed s.ran.said s.ran.session s.end s.ran.stop s.ran.stops e) [
        | inl hear ↦ inl (rose_within whole.hear s.before.hear s.after.hear now.hear before.hear hear behind.hear)
        | inr say ↦ inr (rose_within whole.say s.before.say s.after.say now.say before.say say behind.say)
      ],
      lost_each whole s.after now ss (line_then whole s.before s.after before (went_session s)) h.1,
    )

pub turn-lost : {p : Protocol} {settings : Parts} {spare : ℕ} (first now : Line) (ss : List (Served p settings spare)) → ServedInTurn first now ss → AllByRecursion (LostRaises first now) ss
turn-lost first now ss h = lost_each first first now ss (record { hear = inl refl; say = inl refl }) h
