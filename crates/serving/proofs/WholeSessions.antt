-- Over a steady wire, while its connections are fit, the sessions on them are whole.
use Rattle.std.proofs.Common.{◌≡◌, ◌≢◌, ℕ, ◌+◌, ◌-◌, ◌≤◌, suc, Bool, true, false, List, [], ◌∷◌, ◌++◌, append-nil, append_assoc, length, length-append, IsTrue, refl, sym, ◌∙◌, ap, subst, arith}
use Rattle.std.specs.Prelude.{◌||◌, if◌then◌else◌}
use Rattle.std.specs.List.{AllByRecursion, list_any}
use Rattle.std.proofs.lemmas.List.Folds.{list_any-append}
use Rattle.subscribers.specs.Parts.{Parts}
use Rattle.wires.proofs.Written.{still}
use Rattle.wires.specs.Held.{Connection}
use Rattle.wires.specs.Line.{Line, last}
use Rattle.serving.specs.declared.session.SessionEnd.{SessionEnd}
use Rattle.serving.specs.declared.session.SessionEnd.TheVariants.{HungUp, LineLost}
use Rattle.serving.specs.InTurn.{AllInTurn, WellServed}
use Rattle.serving.specs.Protocols.{AnswerIn, IsSessionIn, Protocol, SessionIn, StandsIn, StateIn, answers_in, end_in, ends_as, has_last, is_last, spoken}
use Rattle.serving.specs.Served.{AllFrom, FitWire, IsWhole, NextFit, OpenedNext, Served, ServedInTurn, ServedWhileFit, UsedWell}
use Rattle.serving.specs.Sessions.{HasRoomForReplies, IsAnsweredLast, SessionStop, SessionStops, hear_failed, say_failed, silent, told, ungreeted}
use Rattle.endings.specs.Talk.{here}
use Rattle.serving.proofs.InTurn.{SameFrom, same_on, session_keeps, session_opened, session_others, turn-lost, turn-stays, turn-within, wire_after}
use Rattle.wires.proofs.Fronts.{splice}
use Rattle.serving.proofs.Protocols.{not_lost, stays_in}

-- ---- a session that ended is that of all that is to be heard

-- the last answer ended it
ended_last : (p : Protocol) (settings : Parts) (spare : ℕ) (bytes : List ℕ) (session : SessionIn p) (answer : AnswerIn p) → IsAnsweredLast p settings spare bytes session answer → IsTrue (is_last p answer) → has_last p session ≡ true
ended_last p settings spare bytes session answer h e =
    ap (λ (z : List (AnswerIn p)). list_any (is_last p) z) h.answers ∙ (list_any-append (is_last p) (answers_in p h.earlier) (answer ∷ []) ∙ last_true (has_last p h.earlier) (is_last p answer) e)
  where
    last_true : (a b : Bool) → IsTrue b → (a || (b || false)) ≡ true
    last_true true b e = refl
    last_true false true e = refl
    last_true false false e = cc

-- ---- one session

ends_open : (b : Bool) (by : SessionEnd) → b ≡ false → HungUp ≡ (if b then by else HungUp)
ends_open b by h = rw h refl

ends_over : (b : Bool) (by : SessionEnd) → b ≡ true → by ≡ (if b then by else HungUp)
ends_over b by h = rw h refl

-- a session that isn't lost doesn't end as one
pub whole_end : (p : Protocol) (session : SessionIn p) → ends_as p session ≢ LineLost
whole_end p session = by_end (has_last p session)
  where
    by_end : (b : Bool) → (if b then end_in p session else HungUp) ≢ LineLost
    by_end true e = not_lost p session e
    by_end false e = absurd cc

-- where a reply was cut in a session that wasn't lost, the answer was End
mute_end : (b : Bool) (end by : SessionEnd) → end ≡ (if b then by else LineLost) → end ≢ LineLost → IsTrue b × (end ≡ by)
mute_end true end by h n = (refl, h)
mute_end false end by h n = absurd (n h)

-- What was to be heard, of which this was fed, has this session and this end.
pub record IsAll (p : Protocol) (settings : Parts) (spare : ℕ) (rest : List ℕ) (session : SessionIn p) (end : SessionEnd) : Type 0 where
  pub session_is : IsSessionIn p settings spare rest session
  pub end_is : end ≡ ends_as p session

-- a session that wasn't lost is that of all that was to be heard
all_heard : (p : Protocol) (settings : Parts) (spare left : ℕ) (old new : Line) (state : StateIn p) (heard fed more said rest : List ℕ) (session : SessionIn p) (end : SessionEnd) (stop : SessionStop p) → IsTrue old.tells → IsTrue old.is_open
    → (here old).rest ≡ rest → rest ≡ fed ++ more → IsSessionIn p settings spare fed session → StandsIn p settings spare state fed session left → end ≢ LineLost → SessionStops p settings spare old new heard fed said session end stop
    → IsAll p settings spare rest session end
all_heard p settings spare left old new state heard fed more said rest session end (ungreeted n) t o same cut is stands kept h = absurd (kept h.end_is)
all_heard p settings spare left old new state heard fed more said rest session end silent t o same cut is stands kept h = record {
  session_is = subst (λ (x : List ℕ). IsSessionIn p settings spare x session) (h.all ∙ (sym (h.nothing_left t o) ∙ same)) is;
  end_is = h.end_is ∙ ends_open (has_last p session) (end_in p session) h.no_end;
}
all_heard p settings spare left old new state heard fed more said rest session end hear_failed t o same cut is stands kept h = absurd (kept h.end_is)
all_heard p settings spare left old new state heard fed more said rest session end (told answer) t o same cut is stands kept h =
    let over : has_last p session ≡ true = ended_last p settings spare fed session answer h.last_answer h.is_the_end in
    record {
      session_is = subst (λ (x : List ℕ). IsSessionIn p settings spare x session) (sym cut) (stays_in p settings spare left state fed more session stands over);
      end_is = h.end_is ∙ ends_over (has_last p session) (end_in p session) over;
    }
all_heard p settings spare left old new state heard fed more said rest session end (say_failed answer n) t o same cut is stands kept h =
    let e = mute_end _ end (end_in p session) h.end_is kept in
    let over : has_last p session ≡ true = ended_last p settings spare fed session answer h.last_answer e.0 in
    record {
      session_is = subst (λ (x : List ℕ). IsSessionIn p settings spare x session) (sym cut) (stays_in p settings spare left state fed more session stands over);
      end_is = e.1 ∙ ends_over (has_last p session) (end_in p session) over;
    }

-- what a session on the next connection of a steady wire comes to, where that is fit
pub record IsGood {p : Protocol} {settings : Parts} {spare : ℕ} (first : Line) (s : Served p settings spare) : Type 0 where
  pub whole : IsWhole first s.after first.opened s
  pub used : UsedWell first s.after

good : {p : Protocol} {settings : Parts} {spare : ℕ} (first : Line) (s : Served p settings spare) → OpenedNext first s.before → IsTrue first.tells → IsTrue first.steady → HasRoomForReplies p settings spare (first.connection first.opened) → IsGood first s
good {p} {settings} {spare} first s o t st f =
    let c = first.connection first.opened in
    let tells : IsTrue s.before.tells = still o.waited.keeps.tells t in
    let open_now : IsTrue s.before.is_open = o.is_open t in
    let steady : IsTrue s.before.steady = o.waited.steady t st in
    let number : s.before.opened - 1 ≡ first.opened = let e = o.opened t in omega (arith, e) in
    let same : here s.before ≡ c = ap (λ (n : ℕ). s.before.connection n) number ∙ o.waited.connections first.opened in
    let fits : HasRoomForReplies p settings spare (here s.before) = subst (λ (x : Connection). HasRoomForReplies p settings spare x) (sym same) f in
    let well = s.ran.well tells open_now steady fits in
    let grew = s.ran.line.grew tells open_now in
    let left = (s.after.connection (last s.before)).rest in
    let cut : c.rest ≡ s.ran.fed ++ ((s.ran.fed_is).rest ++ left) =
    sym (ap (λ (x : Connection). x.rest) same) ∙ (grew.rest ∙ (ap (λ (z : List ℕ). z ++ left) (s.ran.fed_is).is ∙ append_assoc s.ran.fed (s.ran.fed_is).rest left)) in
    let all = all_heard p settings spare s.pool.spare s.before s.after s.state s.ran.heard s.ran.fed ((s.ran.fed_is).rest ++ left) s.ran.said c.rest s.ran.session s.end s.ran.stop tells open_now (ap (λ (x : Connection). x.rest) same) cut
    s.ran.session_is s.ran.stands well.not_lost s.ran.stops in
    record {
      whole = record {
        session_is = all.session_is;
        said =
            ap (λ (n : ℕ). (s.after.connection n).said) (sym number)
            ∙ (grew.said_is ∙ (ap (λ (x : Connection). x.said ++ s.ran.said) same ∙ ap (λ (z : List ℕ). c.said ++ z) (s.ran.whole tells open_now steady fits)));
        end_is = all.end_is;
      };
      used = record {
        counts = record {
          hear = well.hear ∙ o.waited.counts.hear;
          say = well.say ∙ o.waited.counts.say;
          hang = s.closes.well tells open_now steady fits ∙ o.waited.counts.hang;
        };
        steady = well.steady;
      };
    }

-- ---- one session after another

-- the first of the next connections is fit
first_fit : (p : Protocol) (settings : Parts) (spare : ℕ) (first : Line) (n : ℕ) → NextFit p settings spare first (suc n) → HasRoomForReplies p settings spare (first.connection first.opened)
first_fit p settings spare first n fit = fit first.opened (omega arith) (omega arith)

-- and those behind it
fit_on : {p : Protocol} {settings : Parts} {spare : ℕ} (first : Line) (s : Served p settings spare) (n : ℕ) → OpenedNext first s.before → IsTrue first.tells → NextFit p settings spare first (suc n) → NextFit p settings spare s.after n
fit_on {p} {settings} {spare} first s n o t fit = λ k from lt.
    let one = session_opened first s o t in
    subst (λ (c : Connection). HasRoomForReplies p settings spare c) (sym (session_others first s o t k (λ e. omega (arith, e, one, from)))) (fit k (omega (arith, from, one)) (omega (arith, lt, one)))

-- what was used well, and once more
used_then : (a b c : Line) → UsedWell a b → UsedWell b c → UsedWell a c
used_then a b c h k = record {
  counts = record { hear = k.counts.hear ∙ h.counts.hear; say = k.counts.say ∙ h.counts.say; hang = k.counts.hang ∙ h.counts.hang };
  steady = k.steady;
}

-- a whole session on a wire whose connections are those of another from its number on
whole_from : {p : Protocol} {settings : Parts} {spare : ℕ} (whole first now : Line) (k : ℕ) (s : Served p settings spare) → whole.connection k ≡ first.connection k → now.connection k ≡ s.after.connection k → first.opened ≡ k
    → IsWhole first s.after first.opened s → IsWhole whole now k s
whole_from {p} {settings} {spare} whole first now k s same stays at h = record {
  session_is = subst (λ (c : Connection). IsSessionIn p settings spare c.rest s.ran.session) (ap (λ (n : ℕ). first.connection n) at ∙ sym same) h.session_is;
  said =
      ap (λ (c : Connection). c.said) (stays ∙ ap (λ (n : ℕ). s.after.connection n) (sym at))
      ∙ (h.said ∙ ap (λ (c : Connection). c.said ++ spoken p s.ran.session) (ap (λ (n : ℕ). first.connection n) at ∙ sym same));
  end_is = h.end_is;
}

wholes : {p : Protocol} {settings : Parts} {spare : ℕ} (whole first now : Line) (k : ℕ) (ss rest : List (Served p settings spare)) → first.opened ≡ k → SameFrom k whole first → IsTrue first.tells → IsTrue first.steady → ServedInTurn first now (ss ++ rest)
    → NextFit p settings spare first (length ss) → AllFrom (IsWhole whole now) k ss
wholes whole first now k [] rest at same t st h fit = tt
wholes {p} {settings} {spare} whole first now k (s ∷ ss) rest at same t st h fit =
    let keeps = session_keeps first s h.0 in
    let one = session_opened first s h.0 t in
    let g = good first s h.0 t st (first_fit p settings spare first (length ss) fit) in (
      whole_from whole first now k s (sym (same k (omega arith))) (subst (λ (n : ℕ). now.connection n ≡ s.after.connection n) at (turn-stays first now s (ss ++ rest) h t)) at g.whole,
      wholes whole s.after now (k + 1) ss rest (omega (arith, one, at)) (same_on whole first k s h.0 t at same) (still keeps.tells t) (g.used).steady h.1 (fit_on first s (length ss) h.0 t fit),
    )

-- the first sessions, as many as have fit connections
pub turn-wholes : {p : Protocol} {settings : Parts} {spare : ℕ} (first now : Line) (ss rest : List (Served p settings spare)) → ServedInTurn first now (ss ++ rest) → IsTrue first.tells → IsTrue first.steady → NextFit p settings spare first (length ss)
    → AllFrom (IsWhole first now) first.opened ss
turn-wholes first now ss rest h t st fit = wholes first first now first.opened ss rest refl (λ j le. refl) t st h fit

-- the last of a list
from-last : {A : Type 0} (P : ℕ → A → Type 0) (b : ℕ) (l : List A) (x : A) → AllFrom P b (l ++ x ∷ []) → P (b + length l) x
from-last P b [] x h = let e : b ≡ b + 0 = omega arith in subst (λ (n : ℕ). P n x) e h.0
from-last P b (y ∷ l) x h = let e : b + 1 + length l ≡ b + suc (length l) = omega arith in subst (λ (n : ℕ). P n x) e (from-last P (b + 1) l x h.1)

used_to : {p : Protocol} {settings : Parts} {spare : ℕ} (first now : Line) (ss rest : List (Served p settings spare)) (s : Served p settings spare) → ServedInTurn first now (ss ++ s ∷ rest) → IsTrue first.tells → IsTrue first.steady
    → NextFit p settings spare first (length ss + 1) → UsedWell first s.after
used_to {p} {settings} {spare} first now [] rest s h t st fit = (good first s h.0 t st (first_fit p settings spare first 0 fit)).used
used_to {p} {settings} {spare} first now (x ∷ ss) rest s h t st fit =
    let more : suc (length ss) + 1 ≡ suc (length ss + 1) = omega arith in
    let fits : NextFit p settings spare first (suc (length ss + 1)) = subst (λ (n : ℕ). NextFit p settings spare first n) more fit in
    let g = good first x h.0 t st (first_fit p settings spare first (length ss + 1) fits) in
    used_then first x.after s.after g.used
    (used_to x.after now ss rest s h.1 (still (session_keeps first x h.0).tells t) (g.used).steady (fit_on first x (length ss + 1) h.0 t fits))

used_all : {p : Protocol} {settings : Parts} {spare : ℕ} (first now : Line) (ss : List (Served p settings spare)) → ServedInTurn first now ss → IsTrue first.tells → IsTrue first.steady → NextFit p settings spare first (length ss) → UsedWell first now
used_all first now [] h t st fit = record { counts = h.waited.counts; steady = h.waited.steady t st }
used_all {p} {settings} {spare} first now (x ∷ ss) h t st fit =
    let g = good first x h.0 t st (first_fit p settings spare first (length ss) fit) in
    used_then first x.after now g.used (used_all x.after now ss h.1 (still (session_keeps first x h.0).tells t) (g.used).steady (fit_on first x (length ss) h.0 t fit))

pub turn-while_fit : {p : Protocol} {settings : Parts} {spare : ℕ} (first now : Line) (ss : List (Served p settings spare)) → ServedInTurn first now ss → IsTrue first.tells → IsTrue first.steady → ServedWhileFit first now ss
turn-while_fit {p} {settings} {spare} first now ss h t st = record {
  each = λ front rest s e fit.
      let turn : ServedInTurn first now (front ++ s ∷ rest) = subst (λ (l : List (Served p settings spare)). ServedInTurn first now l) e h in
      let two : ServedInTurn first now ((front ++ s ∷ []) ++ rest) = subst (λ (l : List (Served p settings spare)). ServedInTurn first now l) (sym (splice front s rest)) turn in
      let many : length (front ++ s ∷ []) ≡ length front + 1 = length-append front (s ∷ []) in (
        from-last (IsWhole first now) first.opened front s (turn-wholes first now (front ++ s ∷ []) rest two t st (subst (λ (n : ℕ). NextFit p settings spare first n) (sym many) fit)),
        used_to first now front rest s turn t st fit,
      );
  all = used_all first now ss h t st;
}

-- ---- over a fit wire

none_lost : {p : Protocol} {settings : Parts} {spare : ℕ} (first now : Line) (k : ℕ) (ss : List (Served p settings spare)) → AllFrom (IsWhole first now) k ss → AllByRecursion (λ (s : Served p settings spare). s.end ≢ LineLost) ss
none_lost first now k [] h = tt
none_lost {p} first now k (s ∷ ss) h = (λ e. whole_end p s.ran.session (sym (h.0).end_is ∙ e), none_lost first now (k + 1) ss h.1)

-- the connections of sessions on a fit wire are fit
pub next_fit : {p : Protocol} {settings : Parts} {spare : ℕ} (first now : Line) (most : ℕ) (ss : List (Served p settings spare)) → length ss ≤ most → FitWire p settings spare first most → ServedInTurn first now ss → NextFit p settings spare first (length ss)
next_fit first now most ss few fit h = λ k from lt. fit.fits k from (omega (arith, lt, few)) (turn-within first now ss h fit.tells k from lt)

pub turn-well : {p : Protocol} {settings : Parts} {spare : ℕ} (first now : Line) (most : ℕ) (ss : List (Served p settings spare)) → length ss ≤ most → ServedInTurn first now ss → FitWire p settings spare first most → WellServed first now ss
turn-well {p} {settings} {spare} first now most ss few h fit =
    let fits = next_fit first now most ss few fit h in
    let whole = wholes first first now first.opened ss [] refl (λ j le. refl) fit.tells fit.steady (subst (λ (l : List (Served p settings spare)). ServedInTurn first now l) (sym (append-nil ss)) h) fits in
    record { used = used_all first now ss h fit.tells fit.steady fits; whole = whole; none_lost = none_lost first now first.opened ss whole }

pub all_in_turn : AllInTurn
all_in_turn p settings spare first now ss h = record {
  after = wire_after first now ss h;
  lost = turn-lost first now ss h;
  while_fit = turn-while_fit first now ss h;
  well = turn-well first now (length ss) ss (omega arith) h;
}
