-- A session that is read from an input, byte by byte.
use Rattle.std.proofs.Common.{◌≡◌, ℕ, ◌≤◌, Bool, true, false, ◌||◌, List, [], ◌∷◌, ◌++◌, append-nil, append_assoc, length, take, Ok, Err, refl, sym, ◌∙◌, ap, subst}
use Rattle.std.proofs.lemmas.Grind.{flat_map-append}
use Rattle.std.proofs.lemmas.List.Folds.{list_any-append}
use Rattle.std.proofs.lemmas.List.{map-append}
use Rattle.page_pool.specs.Pool.{Pool}
use Rattle.subscribers.specs.Parts.{Parts}
use Rattle.entry_line.specs.Chars.{char_of}
use Rattle.tap_block.specs.Chars.{characters}
use Rattle.tap_terminal.specs.declared.answers.Answer.{Answer}
use Rattle.tap_terminal.specs.declared.answers.Answer.TheVariants.{Ack, End, Go, Id, Nak, Nothing, Rs}
use Rattle.tap_terminal.specs.declared.terminal.Stage.{Stage}
use Rattle.tap_terminal.specs.declared.terminal.Stage.TheVariants.{Open, Ended, Forced}
use Rattle.subscribers.specs.Directory.{directory_of}
use Rattle.tap_terminal.specs.State.{TerminalState, IsOver, StandsAt, said, unheard}
use Rattle.tap_terminal.specs.Session.{IsSession, Session, is_end, start, tell}
use Rattle.wires.specs.Causes.{Rose}
use Rattle.wires.specs.declared.Failed.{Failed}
use Rattle.wires.specs.Left.{Left, Takes, Took}
use Rattle.wires.specs.Written.{Puts, Written}
use Rattle.wires.proofs.Left.{Took-from_take, Took-nothing, Took-then}
use Rattle.wires.proofs.Written.{no_ok, still}
use Rattle.serving.specs.Answering.{AnsweredInput, AnsweredToEnd, Answering, AnswersOn, GainedPages, StoppedBroken, StoppedUnprinted}
use Rattle.serving.specs.declared.answering.Course.{Course}
use Rattle.serving.specs.Answers.{answer_line, answer_lines}
use Rattle.serving.specs.TapSessions.{SessionOf, TerminalStandsFor, has_end_answer}
use Rattle.endings.specs.Wrote.{Wrote, WroteFront}
use Rattle.tap_terminal.proofs.Cells.{cells_gain}
use Rattle.serving.proofs.Decisions.{TapFed, answers_end, few_heard, no_end_on, not_end, pages_on, session_stood, stands_on}
use Rattle.wires.proofs.Fronts.{splice}
use Rattle.listening.proofs.Listens.{Wrote-nothing, Wrote-then, WroteFront-then}

-- the line of what is said
answer_lines-said : (a : Answer) → answer_lines (said a) ≡ answer_line a
answer_lines-said Nothing = refl
answer_lines-said Id = append-nil _
answer_lines-said Go = append-nil _
answer_lines-said Ack = append-nil _
answer_lines-said Nak = append-nil _
answer_lines-said (Rs reason) = append-nil _
answer_lines-said End = append-nil _

lines_on : (s t : Session) (a : Answer) → t.answers ≡ s.answers ++ said a → answer_lines t.answers ≡ answer_lines s.answers ++ answer_line a
lines_on s t a e = ap answer_lines e ∙ (flat_map-append answer_line s.answers (said a) ∙ ap (λ (z : List ℕ). answer_lines s.answers ++ z) (answer_lines-said a))

gained_on : (settings : Parts) (spare : ℕ) (before pool pool2 : Pool) (desk : TerminalState) (bytes : List ℕ) (byte : ℕ) (session : Session) (a : Answer) → GainedPages session before pool
    → (h : TapFed settings spare desk bytes byte session a pool pool2) → GainedPages h.longer before pool2
gained_on settings spare before pool pool2 desk bytes byte session a g h = record {
  pages_are = pages_on settings spare before pool pool2 desk bytes byte session a g.pages_are h;
  cells_stay = cells_gain pool pool2 h.gained h.pool ∙ g.cells_stay;
}

-- a byte that was answered, and whose answer was printed
abbrev goes : (settings : Parts) (spare : ℕ) (old now : Left ℕ) (before pool pool2 : Pool) (desk desk2 : TerminalState) (o0 o2 : Written ℕ) (byte : ℕ) (taken ahead : List ℕ) (a : Answer) (o1 : Written ℕ)
    (u : Answering settings spare old now before pool desk o0 o1 taken (byte ∷ ahead)) → TapFed settings spare desk2 u.fed byte u.session a pool pool2
    → is_end a ≡ false → Wrote o0 o2 (answer_lines u.session.answers ++ answer_line a) → Answering settings spare old now before pool2 desk2 o0 o2 taken ahead
goes settings spare old now before pool pool2 desk desk2 o0 o2 byte taken ahead a o1 u h e w = record {
  fed = u.fed ++ byte ∷ [];
  session = h.longer;
  taken_is = u.taken_is ∙ sym (splice u.fed byte ahead);
  took = u.took;
  stands = stands_on settings spare desk2 u.fed byte u.session a pool pool2 h;
  no_end = no_end_on u.session h.longer a h.answers_are u.no_end e;
  gained = gained_on settings spare before pool pool2 desk2 u.fed byte u.session a u.gained h;
  wrote = subst (λ (z : List ℕ). Wrote o0 o2 z) (sym (lines_on u.session h.longer a h.answers_are)) w;
}

-- a byte that is answered Nothing
pub passes : (settings : Parts) (spare : ℕ) (old now : Left ℕ) (before pool pool2 : Pool) (desk desk2 : TerminalState) (o0 o : Written ℕ) (byte : ℕ) (taken ahead : List ℕ)
    (u : Answering settings spare old now before pool desk o0 o taken (byte ∷ ahead)) → TapFed settings spare desk2 u.fed byte u.session Nothing pool pool2
    → Answering settings spare old now before pool2 desk2 o0 o taken ahead
passes settings spare old now before pool pool2 desk desk2 o0 o byte taken ahead u h =
    goes settings spare old now before pool pool2 desk desk2 o0 o byte taken ahead Nothing o u h refl
    (subst (λ (z : List ℕ). Wrote o0 o z) (sym (append-nil (answer_lines u.session.answers))) u.wrote)

-- an answer that was printed, and isn't the End
pub prints_on : {T E : Type 0} (settings : Parts) (spare : ℕ) (old now : Left ℕ) (before pool pool2 : Pool) (desk desk2 : TerminalState) (o0 o1 o2 : Written ℕ) (byte : ℕ) (taken ahead piece : List ℕ)
    (a : Answer) (x : T) → (a ≡ End → ⊥) → piece ≡ answer_line a
    → (u : Answering settings spare old now before pool desk o0 o1 taken (byte ∷ ahead)) → TapFed settings spare desk2 u.fed byte u.session a pool pool2 → Puts {E = E} o1 o2 piece (Ok x)
    → Answering settings spare old now before pool2 desk2 o0 o2 taken ahead
prints_on {T} {E} settings spare old now before pool pool2 desk desk2 o0 o1 o2 byte taken ahead piece a x n p u h k =
    goes settings spare old now before pool pool2 desk desk2 o0 o2 byte taken ahead a o1 u h (not_end a n)
    (Wrote-then {T = T} {E = E} o0 o1 o2 (answer_lines u.session.answers) (answer_line a) x u.wrote (subst (λ (z : List ℕ). Puts {E = E} o1 o2 z (Ok x)) p k))

-- an answer that couldn't be printed
pub unprinted : {T E : Type 0} (settings : Parts) (spare : ℕ) (old now : Left ℕ) (before pool pool2 : Pool) (desk desk2 : TerminalState) (o0 o1 o2 : Written ℕ) (byte : ℕ) (taken ahead piece : List ℕ)
    (a : Answer) (e : E) → piece ≡ answer_line a
    → (u : Answering settings spare old now before pool desk o0 o1 taken (byte ∷ ahead)) → TapFed settings spare desk2 u.fed byte u.session a pool pool2 → Puts {T = T} o1 o2 piece (Err e)
    → StoppedUnprinted settings spare old now before pool2 desk2 o0 o2 taken
unprinted {T} {E} settings spare old now before pool pool2 desk desk2 o0 o1 o2 byte taken ahead piece a e p u h k =
    let stood = stands_on settings spare desk2 u.fed byte u.session a pool pool2 h in
    record {
      unprinted = record {
        fed = u.fed ++ byte ∷ [];
        fed_is = record { rest = ahead; is = u.taken_is ∙ sym (splice u.fed byte ahead) };
        session = h.longer;
        session_is = session_stood settings spare desk2 (u.fed ++ byte ∷ []) h.longer pool2.spare stood;
        took = u.took;
        wrote = subst (λ (z : List ℕ). WroteFront o0 o2 z) (sym (lines_on u.session h.longer a h.answers_are))
            (WroteFront-then {T = T} {E = E} o0 o1 o2 (answer_lines u.session.answers) (answer_line a) e u.wrote (subst (λ (z : List ℕ). Puts {T = T} o1 o2 z (Err e)) p k));
      };
      leaves = record { fed = u.fed ++ byte ∷ []; stands = stood; gained = gained_on settings spare before pool pool2 desk2 u.fed byte u.session a u.gained h };
    }

yes_no : (b : Bool) → b ≡ true → b ≡ false → ⊥
yes_no true h k = cc
yes_no false h k = cc

-- where an End came, nothing that follows changes the session
over_at : (stage : Stage) (settings : Parts) (spare : ℕ) (t : TerminalState) (x : List ℕ) (session : Session) (left : ℕ) → has_end_answer session.answers ≡ true
    → StandsAt stage settings.password (directory_of settings) spare t x session left → IsOver settings.password (directory_of settings) spare x session
over_at Ended settings spare t x session left e h = h
over_at Forced settings spare t x session left e h = h
over_at Open settings spare t x session left e h =
    absurd (yes_no (has_end_answer session.answers) e (ap (λ (s : Session). has_end_answer s.answers) h.session_is ∙ (answers_end (tell (directory_of settings) (start spare) h.items) ∙ h.no_end)))

or_true : (b : Bool) → (b || true) ≡ true
or_true true = refl
or_true false = refl

end_among : (s t : Session) (a : Answer) → a ≡ End → t.answers ≡ s.answers ++ said a → has_end_answer t.answers ≡ true
end_among s t a is e =
    ap has_end_answer e ∙ (list_any-append is_end s.answers (said a) ∙ (ap (λ (z : Answer). has_end_answer s.answers || has_end_answer (said z)) is ∙ or_true (has_end_answer s.answers)))

-- the End that was printed
pub ends : {T E : Type 0} (settings : Parts) (spare : ℕ) (old now : Left ℕ) (before pool pool2 : Pool) (desk desk2 : TerminalState) (o0 o1 o2 : Written ℕ) (byte : ℕ) (taken ahead piece : List ℕ)
    (a : Answer) (x : T) → a ≡ End → piece ≡ answer_line a
    → (u : Answering settings spare old now before pool desk o0 o1 taken (byte ∷ ahead)) → TapFed settings spare desk2 u.fed byte u.session a pool pool2 → Puts {E = E} o1 o2 piece (Ok x)
    → AnsweredToEnd settings spare old now before pool2 desk2 o0 o2 taken
ends {T} {E} settings spare old now before pool pool2 desk desk2 o0 o1 o2 byte taken ahead piece a x is p u h k =
    let all = u.fed ++ byte ∷ [] in
    let stood = stands_on settings spare desk2 u.fed byte u.session a pool pool2 h in
    let over = over_at desk2.stage settings spare desk2 (characters all) h.longer pool2.spare (end_among u.session h.longer a is h.answers_are) stood.at_stage in
    record {
      session = h.longer;
      session_is = λ more.
          let whole : taken ++ more ≡ all ++ (ahead ++ more) = ap (λ (z : List ℕ). z ++ more) (u.taken_is ∙ sym (splice u.fed byte ahead)) ∙ append_assoc all ahead more in
          subst (λ (z : List ℕ). SessionOf settings spare z h.longer) (sym whole)
          (subst (λ (z : List ℕ). IsSession settings.password (directory_of settings) spare z h.longer) (sym (map-append char_of all (ahead ++ more))) (over (characters (ahead ++ more))));
      took = u.took;
      leaves = record { fed = all; stands = stood; gained = gained_on settings spare before pool pool2 desk2 u.fed byte u.session a u.gained h };
      wrote = subst (λ (z : List ℕ). Wrote o0 o2 z) (sym (lines_on u.session h.longer a h.answers_are))
          (Wrote-then {T = T} {E = E} o0 o1 o2 (answer_lines u.session.answers) (answer_line a) x u.wrote (subst (λ (z : List ℕ). Puts {E = E} o1 o2 z (Ok x)) p k));
    }

-- a session begins
pub begins : (settings : Parts) (old : Left ℕ) (pool : Pool) (desk : TerminalState) (o : Written ℕ) → TerminalStandsFor settings pool.spare desk [] unheard pool.spare
    → Answering settings pool.spare old old pool pool desk o o [] []
begins settings old pool desk o s = record {
  fed = [];
  session = unheard;
  taken_is = refl;
  took = Took-nothing old;
  stands = s;
  no_end = refl;
  gained = record { pages_are = sym (append-nil _); cells_stay = refl };
  wrote = Wrote-nothing o;
}

-- all that was taken was fed
all_fed : (settings : Parts) (spare : ℕ) (old now : Left ℕ) (before pool : Pool) (desk : TerminalState) (o0 o : Written ℕ) (taken : List ℕ)
    (u : Answering settings spare old now before pool desk o0 o taken []) → u.fed ≡ taken
all_fed settings spare old now before pool desk o0 o taken u = sym (u.taken_is ∙ append-nil u.fed)

session_now : (settings : Parts) (spare : ℕ) (old now : Left ℕ) (before pool : Pool) (desk : TerminalState) (o0 o : Written ℕ) (taken : List ℕ)
    (u : Answering settings spare old now before pool desk o0 o taken []) → SessionOf settings spare taken u.session
session_now settings spare old now before pool desk o0 o taken u =
    subst (λ (z : List ℕ). SessionOf settings spare z u.session) (all_fed settings spare old now before pool desk o0 o taken u)
    (session_stood settings spare desk u.fed u.session pool.spare u.stands)

-- bytes were taken
pub takes_more : {E : Type 0} (settings : Parts) (spare : ℕ) (old now next : Left ℕ) (before pool : Pool) (desk : TerminalState) (o0 o : Written ℕ) (taken buffer : List ℕ) (n : ℕ)
    → Answering settings spare old now before pool desk o0 o taken [] → Takes {E = E} now next buffer (Ok n)
    → Answering settings spare old next before pool desk o0 o (taken ++ take n buffer) (take n buffer)
takes_more settings spare old now next before pool desk o0 o taken buffer n u t = record {
  fed = u.fed;
  session = u.session;
  taken_is = ap (λ (z : List ℕ). z ++ take n buffer) (sym (all_fed settings spare old now before pool desk o0 o taken u));
  took = Took-then old now next taken (take n buffer) u.took (Took-from_take now next buffer n t);
  stands = u.stands;
  no_end = u.no_end;
  gained = u.gained;
  wrote = u.wrote;
}

-- nothing was left
pub answered_all : {E : Type 0} (settings : Parts) (spare : ℕ) (old now next : Left ℕ) (before pool : Pool) (desk : TerminalState) (o0 o : Written ℕ) (taken buffer : List ℕ) (n : ℕ) → n ≡ 0
    → Answering settings spare old now before pool desk o0 o taken [] → Takes {E = E} now next buffer (Ok n) → AnsweredInput settings spare old next before pool desk o0 o
answered_all {E} settings spare old now next before pool desk o0 o taken buffer n z u t =
    let more = takes_more {E = E} settings spare old now next before pool desk o0 o taken buffer n u t in
    let none : take n buffer ≡ [] = ap (λ (k : ℕ). take k buffer) z in
    let took : Took old next taken = subst (λ (z : List ℕ). Took old next z) (ap (λ (y : List ℕ). taken ++ y) none ∙ append-nil taken) more.took in
    let all = session_now settings spare old now before pool desk o0 o taken u in
    record {
      taken = taken;
      took = took;
      session = u.session;
      session_is = all;
      of_all = λ told.
          let c = t.left (still u.took.tells told) in
          let empty : next.left ≡ [] = sym (ap (λ (y : List ℕ). y ++ next.left) none) ∙ (sym c.0 ∙ c.1.0 z) in
          subst (λ (y : List ℕ). SessionOf settings spare y u.session) (sym (took.left told ∙ (ap (λ (y : List ℕ). taken ++ y) empty ∙ append-nil taken))) all;
      leaves = record { fed = u.fed; stands = u.stands; gained = u.gained };
      wrote = u.wrote;
    }

-- an End came
pub answered_to_end : (settings : Parts) (spare : ℕ) (old now : Left ℕ) (before pool : Pool) (desk : TerminalState) (o0 o : Written ℕ) (taken : List ℕ)
    → AnsweredToEnd settings spare old now before pool desk o0 o taken → AnsweredInput settings spare old now before pool desk o0 o
answered_to_end settings spare old now before pool desk o0 o taken h = record {
  taken = taken;
  took = h.took;
  session = h.session;
  session_is = subst (λ (z : List ℕ). SessionOf settings spare z h.session) (append-nil taken) (h.session_is []);
  of_all = λ told. subst (λ (z : List ℕ). SessionOf settings spare z h.session) (sym (h.took.left told)) (h.session_is now.left);
  leaves = h.leaves;
  wrote = h.wrote;
}

-- a read failed
pub answered_broken : {E : Type 0} (settings : Parts) (spare : ℕ) (old now next : Left ℕ) (before pool : Pool) (desk : TerminalState) (o0 o : Written ℕ) (taken buffer : List ℕ) (e : E)
    → Answering settings spare old now before pool desk o0 o taken [] → Takes now next buffer (Err e) → StoppedBroken settings spare old next before pool desk o0 o
answered_broken {E} settings spare old now next before pool desk o0 o taken buffer e u t = record {
  broken = record {
    taken = taken;
    tells = t.tells ∙ u.took.tells;
    left = λ told. u.took.left told ∙ ap (λ (z : List ℕ). taken ++ z) (sym (t.left (still u.took.tells told)));
    unsteady = λ told s. no_ok ℕ E e (t.steady (still u.took.tells told) (u.took.steady told s)).0;
    faults = subst (λ (k : ℕ). Rose k next.faults) u.took.faults t.faults.failed;
    lent = t.lent ∙ u.took.lent;
    session = u.session;
    session_is = session_now settings spare old now before pool desk o0 o taken u;
    wrote = u.wrote;
  };
  leaves = record { fed = u.fed; stands = u.stands; gained = u.gained };
}

-- a session under way has few characters
pub few_taken : (settings : Parts) (spare : ℕ) (old now : Left ℕ) (before pool : Pool) (desk : TerminalState) (o0 o : Written ℕ) (taken : List ℕ)
    (u : Answering settings spare old now before pool desk o0 o taken []) → length taken ≤ 999999
few_taken settings spare old now before pool desk o0 o taken u =
    few_heard settings spare taken u.session (session_now settings spare old now before pool desk o0 o taken u) u.no_end

-- what holds by the course that was answered, under settings that stay
pub course_ends : (settings then : Parts) (spare : ℕ) (old now : Left ℕ) (before pool : Pool) (desk : TerminalState) (o0 o : Written ℕ) (taken ahead : List ℕ) (r : Course)
    → r ≡ Course.Ended → then ≡ settings → AnswersOn {E = Failed} then spare old now before pool desk o0 o taken ahead (Ok r) → AnsweredToEnd settings spare old now before pool desk o0 o taken
course_ends settings then spare old now before pool desk o0 o taken ahead r e s h =
    subst (λ (p : Parts). AnsweredToEnd p spare old now before pool desk o0 o taken) s
    (subst (λ (z : Course). AnswersOn {E = Failed} then spare old now before pool desk o0 o taken ahead (Ok z)) e h)

pub course_goes : (settings then : Parts) (spare : ℕ) (old now : Left ℕ) (before pool : Pool) (desk : TerminalState) (o0 o : Written ℕ) (taken ahead : List ℕ) (r : Course)
    → r ≡ Course.GoesOn → then ≡ settings → AnswersOn {E = Failed} then spare old now before pool desk o0 o taken ahead (Ok r) → Answering settings spare old now before pool desk o0 o taken ahead
course_goes settings then spare old now before pool desk o0 o taken ahead r e s h =
    subst (λ (p : Parts). Answering p spare old now before pool desk o0 o taken ahead) s
    (subst (λ (z : Course). AnswersOn {E = Failed} then spare old now before pool desk o0 o taken ahead (Ok z)) e h)
