-- A trial, from the answers and from what is heard.
use Rattle.std.proofs.Common.{◌≡◌, inr, ℕ, Bool, List, [], ◌∷◌, ◌++◌, append-nil, append_assoc, drop, length, length-append, take, map, ◌+◌, arith, Ok, Err, refl, sym, ◌∙◌, ap, subst}
use Rattle.std.specs.Prelude.{codes}
use Rattle.bits.specs.Bits.{words_bits}
use Rattle.page_text.specs.Page.{Page}
use Rattle.page_pool.specs.Pool.{Live, Pool, pages}
use Rattle.scheduler.proofs.Schedules.{one_schedule}
use Rattle.air.specs.Air.{IsAir, transmission}
use Rattle.wires.specs.Fronts.{Grows, IsFront}
use Rattle.wires.proofs.Fronts.{front_behind}
use Rattle.subscribers.specs.Directory.{directory_of}
use Rattle.subscribers.specs.Parts.{Parts}
use Rattle.entry_line.specs.Chars.{char_of}
use Rattle.tap_block.specs.Chars.{characters}
use Rattle.tap_terminal.specs.State.{TerminalState}
use Rattle.tap_terminal.specs.Session.{IsSession, Session}
use Rattle.tap_terminal.proofs.Fronts.{fronts}
use Rattle.wires.specs.declared.Failed.{Failed}
use Rattle.wires.specs.Left.{Left}
use Rattle.wires.specs.Stacked.{noisy_bits}
use Rattle.wires.specs.Written.{Puts, Written}
use Rattle.std.proofs.lemmas.Grind.{flat_map-append}
use Rattle.std.proofs.lemmas.List.{map-append}
use Rattle.std.proofs.Math.Seq.{take-append-add}
use Rattle.wires.specs.Causes.{Rose}
use Rattle.wires.proofs.Left.{Took-nothing}
use Rattle.wires.proofs.Noise.{noisy_bits-append}
use Rattle.wires.proofs.Written.{still}
use Rattle.endings.specs.declared.statuses.Status.{Status}
use Rattle.endings.specs.declared.statuses.Status.TheVariants.{BadPages, BadSum, BadText, Done, FileFault, InputFault, LogonRefused, Memory, NotBlock, OutFault, Settings, SomeUnsent, TooLong, Usage, WireFault}
use Rattle.serving.specs.Answering.{AnsweredBroken, AnsweredInput, AnsweredUnprinted, LeavesSession}
use Rattle.serving.specs.Answers.{answer_line, answer_lines}
use Rattle.serving.specs.Leaves.{HasTried, HearingLeaves, LeavesAccepted, WasLast}
use Rattle.listening.specs.Noise.{ListensThrough}
use Rattle.serving.specs.Sent.{IsSent, Times, once, twice}
use Rattle.serving.specs.TapSessions.{SessionOf}
use Rattle.serving.specs.Trying.{HearsPages, TriedAnswers, TriedFront, TriedInput, TriedSession, trial_lines}
use Rattle.endings.specs.Wrote.{Wrote, WroteFront}
use Rattle.listening.proofs.Listens.{Puts-from_wrote, Wrote-then, WroteFront-longer, WroteFront-then}
use Rattle.listening.proofs.NoisyHeard.{through_all, through_begins}

-- each list of pages has a transmission
pub air_of : (accepted : List Page) → (air : List Bool) × IsAir accepted air
air_of [] = ([], refl)
air_of (page ∷ accepted) =
    let s = one_schedule (page ∷ accepted) (λ e. cc) in
    (words_bits (transmission s.0), (s.0, s.1, refl))

-- and is sent once or twice
pub sent_of : (times : Times) (accepted : List Page) → (sent : List Bool) × IsSent times accepted sent
sent_of once accepted = air_of accepted
sent_of twice accepted = let air = air_of accepted in (air.0 ++ air.0, (air.0, air.1, refl))

-- of no page nothing is sent
none_sent : (times : Times) (accepted : List Page) → accepted ≡ [] → IsSent times accepted []
none_sent once accepted e = subst (λ (p : List Page). IsAir p []) (sym e) refl
none_sent twice accepted e = ([], subst (λ (p : List Page). IsAir p []) (sym e) refl, refl)

-- a pool without live pages has no pages
pub no_pages : (w : Pool) → length w.live ≡ 0 → pages w ≡ []
no_pages w e = none w.live e
  where
    none : (es : List Live) → length es ≡ 0 → map (λ (l : Live). l.page) es ≡ []
    none [] e = refl
    none (x ∷ es) e = cc

-- what is heard of no page
pub hears_none : (times : Times) (accepted : List Page) (printed : List Bool → List ℕ) (n : Left Bool) (o : Written ℕ) → printed [] ≡ [] → accepted ≡ [] → HearsPages times accepted printed n n o o Done
hears_none times accepted printed n o silent e = record {
  air = [];
  is_sent = none_sent times accepted e;
  heard = through_all printed [] [] _ n n o o refl (through_begins printed [] n o (silent));
}

-- writes after what was written
wrote_more : {A : Type 0} (a b c : Written A) (p q : List A) → Wrote a b p → Wrote b c q → Wrote a c (p ++ q)
wrote_more a b c p q h k = Wrote-then {T = Unit {0}} {E = Failed} a b c p q (tt {0}) h (Puts-from_wrote b c q (tt {0}) k)

front_more : {A : Type 0} (a b c : Written A) (p q : List A) → Wrote a b p → WroteFront b c q → WroteFront a c (p ++ q)
front_more a b c p q h k = record {
  tells = k.tells ∙ h.tells;
  held = λ t.
      let f = k.held (still h.tells t) in (
        length p + f.0,
        omega (arith, f.1, length-append p q),
        f.2 ∙ (ap (λ (xs : List _). xs ++ take f.0 q) (h.held t) ∙ (append_assoc a.held p (take f.0 q) ∙ ap (λ (xs : List _). a.held ++ xs) (sym (take-append-add p q f.0)))),
      );
  room = λ t. k.room (still h.tells t) ∙ h.room t;
  unfit = λ t s fits.
      let n = length-append p q in
      let one = h.steady t s (omega (arith, n, fits)) in
      k.unfit (still h.tells t) one (omega (arith, n, fits, h.room t, ap length (h.held t), length-append a.held p));
  faults = subst (λ (k : ℕ). Rose k c.faults) h.faults k.faults;
  lent = k.lent ∙ h.lent;
}

-- the answers to a front are a front of the answers
pub front_answers : (settings : Parts) (spare : ℕ) (x rest : List ℕ) (front whole : Session) → SessionOf settings spare x front → SessionOf settings spare (x ++ rest) whole
    → IsFront (answer_lines front.answers) (answer_lines whole.answers)
front_answers settings spare x rest front whole h k =
    let more = fronts settings.password (directory_of settings) spare (characters x) (characters rest) front whole h
    (subst (λ (z : List ℕ). IsSession settings.password (directory_of settings) spare z whole) (map-append char_of x rest) k) in
    record { rest = answer_lines more.answers; is = ap answer_lines more.answers_are ∙ flat_map-append answer_line front.answers more.answers }

-- what is printed of the bits that were heard is a front of what is printed of all
pub front_noisy : (printed : List Bool → List ℕ) → Grows printed → (bits heard rest noise all : List Bool) → bits ≡ heard ++ rest → noisy_bits heard noise ≡ noisy_bits heard all
    → IsFront (printed (noisy_bits heard noise)) (printed (noisy_bits bits all))
front_noisy printed g bits heard rest noise all is of_noise =
    let more = noisy_bits rest (drop (length heard) all) in
    let e : noisy_bits heard noise ++ more ≡ noisy_bits bits all =
    ap (λ (z : List Bool). z ++ more) of_noise ∙ (sym (noisy_bits-append heard rest all) ∙ ap (λ (z : List Bool). noisy_bits z all) (sym is)) in
    subst (λ (z : List Bool). IsFront (printed (noisy_bits heard noise)) (printed z)) e (g (noisy_bits heard noise) more)

pub front_trial : (printed : List Bool → List ℕ) → Grows printed → (session : Session) (bits heard rest noise all : List Bool) → bits ≡ heard ++ rest → noisy_bits heard noise ≡ noisy_bits heard all
    → IsFront (trial_lines printed session (noisy_bits heard noise)) (trial_lines printed session (noisy_bits bits all))
front_trial printed g session bits heard rest noise all is of_noise =
    front_behind (answer_lines session.answers ++ codes "---\n") (printed (noisy_bits heard noise)) (printed (noisy_bits bits all)) (front_noisy printed g bits heard rest noise all is of_noise)

-- a read of the input failed
abbrev pub tries_broken : (settings : Parts) (spare : ℕ) (i0 i : Left ℕ) (n : Left Bool) (o0 o : Written ℕ) → AnsweredBroken settings spare i0 i o0 o → TriedInput settings spare i0 i n n o0 o
tries_broken settings spare i0 i n o0 o h = record {
  broken = h;
  noise_is = refl;
  of_all = λ t session is. front_answers settings spare h.taken i.left h.session session h.session_is (subst (λ (z : List ℕ). SessionOf settings spare z session) (h.left t) is);
}

-- an answer couldn't be printed
abbrev pub tries_unanswered : (settings : Parts) (spare : ℕ) (i0 i : Left ℕ) (n : Left Bool) (o0 o : Written ℕ) (taken : List ℕ) → AnsweredUnprinted settings spare i0 i o0 o taken
    → TriedAnswers settings spare i0 i n n o0 o
tries_unanswered settings spare i0 i n o0 o taken h = record {
  taken = taken;
  unprinted = h;
  noise_is = refl;
  of_all = λ t session is.
      let all : i0.left ≡ h.fed ++ ((h.fed_is).rest ++ i.left) =
      h.took.left t ∙ (ap (λ (z : List ℕ). z ++ i.left) (h.fed_is).is ∙ append_assoc h.fed (h.fed_is).rest i.left) in
      WroteFront-longer o0 o (answer_lines h.session.answers) (answer_lines session.answers) h.wrote
      (front_answers settings spare h.fed ((h.fed_is).rest ++ i.left) h.session session h.session_is (subst (λ (z : List ℕ). SessionOf settings spare z session) all is));
}

abbrev tried : (times : Times) (settings : Parts) (spare : ℕ) (i0 i : Left ℕ) (before after : Pool) (desk : TerminalState) (o0 o1 : Written ℕ) (air : List Bool) → (h : AnsweredInput settings spare i0 i before after desk o0 o1) → pages before ≡ []
    → IsSent times (pages after) air → TriedSession times settings spare i0 i
tried times settings spare i0 i before after desk o0 o1 air h none is = record {
  taken = h.taken;
  took = h.took;
  session = h.session;
  session_is = h.session_is;
  of_all = h.of_all;
  air = air;
  is_sent = subst (λ (p : List Page). IsSent times p air) (h.leaves.gained.pages_are ∙ ap (λ (p : List Page). p ++ h.session.pages) none) is;
}

-- the session that was answered was the terminal's last one
pub was_last : (settings : Parts) (spare : ℕ) (session : Session) (before after : Pool) (desk : TerminalState) → LeavesSession settings spare session before after desk → WasLast settings spare session desk
was_last settings spare session before after desk h = record { fed = h.fed; left = after.spare; stands = h.stands }

-- a session that wasn't transmitted leaves its pages
pub leaves_accepted : (settings : Parts) (spare : ℕ) (session : Session) (before after : Pool) (desk : TerminalState) → pages before ≡ [] → LeavesSession settings spare session before after desk
    → LeavesAccepted settings spare session after desk
leaves_accepted settings spare session before after desk none h = record {
  accepted = h.gained.pages_are ∙ ap (λ (p : List Page). p ++ session.pages) none;
  last = was_last settings spare session before after desk h;
}

-- the line between couldn't be printed
abbrev pub tries_between : (times : Times) (settings : Parts) (spare : ℕ) (printed : List Bool → List ℕ) (i0 i : Left ℕ) (before after : Pool) (desk : TerminalState) (n : Left Bool) (o0 o1 o2 : Written ℕ) (piece : List ℕ) (e : Failed)
    → printed [] ≡ [] → Grows printed → piece ≡ codes "---\n" → AnsweredInput settings spare i0 i before after desk o0 o1 → pages before ≡ [] → Puts {T = Unit {0}} o1 o2 piece (Err e)
    → TriedFront times settings spare printed i0 i n n o0 o2
tries_between times settings spare printed i0 i before after desk n o0 o1 o2 piece e silent g is h none k =
    let a = sent_of times (pages after) in
    let wrote : WroteFront o0 o2 (trial_lines printed h.session []) =
    subst (λ (z : List ℕ). WroteFront o0 o2 z)
    (ap (λ (z : List ℕ). answer_lines h.session.answers ++ z) is ∙ (sym (append-nil (answer_lines h.session.answers ++ codes "---\n"))
    ∙ ap (λ (z : List ℕ). answer_lines h.session.answers ++ codes "---\n" ++ z) (sym (silent))))
    (WroteFront-then {T = Unit {0}} o0 o1 o2 (answer_lines h.session.answers) piece e h.wrote k) in
    record {
      tried = tried times settings spare i0 i before after desk o0 o1 a.0 h none a.1;
      heard = [];
      rest = a.0;
      air_is = refl;
      flips = [];
      took_flips = Took-nothing n;
      of_noise = λ t. refl;
      there = λ t some. absurd (some refl);
      wrote = wrote;
      of_all = λ t.
          WroteFront-longer o0 o2 (trial_lines printed h.session []) (trial_lines printed h.session (noisy_bits a.0 n.left)) wrote (front_trial printed g h.session a.0 [] a.0 [] n.left refl refl);
      few = omega arith;
      fewer = λ t lt. absurd (omega (arith, lt));
      untouched = λ none. refl;
    }

-- the line between was printed, and then what was heard
pub tries_heard : (times : Times) (settings : Parts) (spare : ℕ) (printed : List Bool → List ℕ) (i0 i : Left ℕ) (before after new : Pool) (desk : TerminalState) (n0 n : Left Bool) (o0 o1 o2 o3 : Written ℕ) (piece : List ℕ) (x : Unit {0})
    (status : Status) → Grows printed → piece ≡ codes "---\n" → AnsweredInput settings spare i0 i before after desk o0 o1 → pages before ≡ [] → Puts {E = Failed} o1 o2 piece (Ok x)
    → HearsPages times (pages after) printed n0 n o2 o3 status → HearingLeaves after new status → HasTried times settings spare printed i0 i n0 n o0 o3 new desk status
tries_heard times settings spare printed i0 i before after new desk n0 n o0 o1 o2 o3 piece x status g is h none k q leaves = by_status status q.heard leaves
  where
    between : Wrote o0 o2 (answer_lines h.session.answers ++ codes "---\n")
    between = subst (λ (z : List ℕ). Wrote o0 o2 (answer_lines h.session.answers ++ z)) is (Wrote-then {E = Failed} o0 o1 o2 (answer_lines h.session.answers) piece x h.wrote k)

    last : WasLast settings spare h.session desk
    last = was_last settings spare h.session before after desk h.leaves

    by_status : (s : Status) → ListensThrough printed q.air n0 n o2 o3 s → HearingLeaves after new s → HasTried times settings spare printed i0 i n0 n o0 o3 new desk s
    by_status Done p l = record {
      leaves = record { no_page = l.all refl; last = last };
      tries = record {
        tried = tried times settings spare i0 i before after desk o0 o1 q.air h none q.is_sent;
        flips = p.noise;
        took_flips = p.took;
        of_noise = p.of_all;
        there = p.there;
        wrote = wrote_more o0 o2 o3 (answer_lines h.session.answers ++ codes "---\n") (printed (noisy_bits q.air p.noise)) between p.wrote;
        few = p.few;
        fewer = p.fewer;
        untouched = p.untouched;
      };
    }
    by_status FileFault p l = record {
      leaves = last;
      tries = record {
        tried = tried times settings spare i0 i before after desk o0 o1 q.air h none q.is_sent;
        heard = p.heard;
        rest = p.rest;
        air_is = p.bits_are;
        flips = p.noise;
        failed = p.failed;
        of_noise = p.of_noise;
        there = p.there;
        wrote = wrote_more o0 o2 o3 (answer_lines h.session.answers ++ codes "---\n") (printed (noisy_bits p.heard p.noise)) between p.wrote;
        as_many = p.as_many;
        more = p.more;
        of_all = λ t. front_trial printed g h.session q.air p.heard p.rest p.noise n0.left p.bits_are (p.of_noise t);
      };
    }
    by_status OutFault p l = record {
      leaves = last;
      tries = inr (record {
        tried = tried times settings spare i0 i before after desk o0 o1 q.air h none q.is_sent;
        heard = p.heard;
        rest = p.rest;
        air_is = p.bits_are;
        flips = p.noise;
        took_flips = p.took;
        of_noise = p.of_noise;
        there = p.there;
        wrote = front_more o0 o2 o3 (answer_lines h.session.answers ++ codes "---\n") (printed (noisy_bits p.heard p.noise)) between p.wrote;
        few = p.few;
        fewer = p.fewer;
        untouched = λ none. absurd (omega (arith, p.some, ap length none));
        of_all = λ t.
            WroteFront-longer o0 o3 (trial_lines printed h.session (noisy_bits p.heard p.noise)) (trial_lines printed h.session (noisy_bits q.air n0.left))
            (front_more o0 o2 o3 (answer_lines h.session.answers ++ codes "---\n") (printed (noisy_bits p.heard p.noise)) between p.wrote)
            (front_trial printed g h.session q.air p.heard p.rest p.noise n0.left p.bits_are (p.of_noise t));
      });
    }
    by_status Usage p l = elim p [ ]
    by_status Settings p l = elim p [ ]
    by_status WireFault p l = elim p [ ]
    by_status InputFault p l = elim p [ ]
    by_status NotBlock p l = elim p [ ]
    by_status BadSum p l = elim p [ ]
    by_status BadText p l = elim p [ ]
    by_status TooLong p l = elim p [ ]
    by_status LogonRefused p l = elim p [ ]
    by_status SomeUnsent p l = elim p [ ]
    by_status Memory p l = elim p [ ]
    by_status BadPages p l = elim p [ ]

pub live_none : (w : Pool) → w.live ≡ [] → pages w ≡ []
live_none w e = ap (λ (es : List Live). map (λ (l : Live). l.page) es) e
