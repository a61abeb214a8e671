-- The steps of the client's states.
use Rattle.std.proofs.Common.{◌≡◌, ◌≢◌, ℕ, ◌+◌, ◌≤◌, ◌<◌, cond, Bool, true, false, nat_le, List, [], ◌∷◌, ◌++◌, refl, ap, sym, ◌∙◌, subst, append_assoc, append-nil, arith, Option, Some, None, inl, inr}
use Rattle.std.specs.Option.{option_to_list}
use Rattle.std.proofs.lemmas.Bool.Decides.{nat_tests}
use Rattle.tap_entry.specs.declared.hearing.Mark.{Mark}
use Rattle.tap_entry.specs.declared.hearing.Mark.TheVariants.{Id, Ack, Nak, Rs, End, Go}
use Rattle.tap_entry.specs.declared.outcomes.Outcome.{Outcome}
use Rattle.tap_entry.specs.declared.outcomes.Outcome.TheVariants.{Sent, TriesSpent}
use Rattle.tap_entry.specs.declared.logon.CallStep.TheVariants.{Wait, SayLogon, Refused}
use Rattle.tap_entry.specs.declared.transfer.SendStep.TheVariants.{Wait as WaitOn, Again, NextBlock, Done, Closed}
use Rattle.tap_entry.specs.Marks.{AreMarks}
use Rattle.tap_entry.specs.MarkReaders.{MarkReader, ReaderStandsFor}
use Rattle.tap_entry.specs.Held.{Caller, Sender}
use Rattle.tap_entry.specs.States.{CallsSo, CallsOn, IsClientRefused, call_by, SendingFor, SendsOn, send_by}
use Rattle.tap_entry.specs.Client.{acks, naks, is_nak, DecidesLogon, IsUndecided, Decides, AreSinceAck, logons, logon_line, count_of, block_at, is_last_at, said_for, said_after}
use Rattle.tap_entry.proofs.Counts.{naks_push, acks_push, calling_push, undecided_push, all_push, logons_push, said_push, said_step, since_none, since_ack, since_other, one_since}

pub marks_heard : (e : MarkReader) (x : List ℕ) (marks : List Mark) → ReaderStandsFor e x marks → AreMarks x marks
marks_heard e x marks h = record { pieces = h.pieces; rest = h.rest; cuts = h.cuts; marks_are = h.marks_are }

-- before the first Id a mark changes nothing but Id and End
waits_silent : (c : Caller) (x : List ℕ) (marks : List Mark) (m : Mark) (said : List ℕ) → ReaderStandsFor c.ear x (marks ++ m ∷ []) → c.refusals ≡ None → CallsSo c.password marks None said
    → m ≢ Id → m ≢ End → CallsOn c.password x (marks ++ m ∷ []) said (Wait c)
waits_silent c x marks m said h e k ni ne =
    (record { hears = h; calls = subst (λ r. CallsSo c.password (marks ++ m ∷ []) r said) (sym e) (all_push _ marks m k.0 (ni, ne), k.1) }, refl)

-- after it a mark that decides nothing and is no Nak changes nothing
waits_calling : (c : Caller) (n : ℕ) (x : List ℕ) (marks : List Mark) (m : Mark) (said : List ℕ) → ReaderStandsFor c.ear x (marks ++ m ∷ []) → c.refusals ≡ Some n → CallsSo c.password marks (Some n) said
    → is_nak m ≡ false → ((since : List Mark) → DecidesLogon since m → ⊥) → CallsOn c.password x (marks ++ m ∷ []) said (Wait c)
waits_calling c n x marks m said h e (before, (since, k)) flat d =
    let q : logons c.password (since ++ m ∷ []) ≡ logons c.password since = logons_push c.password since m ∙ ap (λ b. logons c.password since ++ cond b (logon_line c.password) []) flat ∙ append-nil (logons c.password since) in
    let w : naks (since ++ m ∷ []) ≡ naks since = naks_push since m ∙ ap (λ b. naks since + (0 + cond b 1 0)) flat ∙ (let z : naks since + (0 + 0) ≡ naks since = omega arith in z) in (
      record {
        hears = h;
        calls = subst (λ r. CallsSo c.password (marks ++ m ∷ []) r said) (sym e)
            (before, (since ++ m ∷ [], (ap (λ z. z ++ m ∷ []) k.0 ∙ append_assoc before (Id ∷ since) (m ∷ []), k.1, calling_push since m k.2 (d since), k.3 ∙ sym w, k.4, k.5 ∙ sym q)));
      },
      refl,
    )

-- an End, at any place
ended : (c : Caller) (r : Option ℕ) (marks : List Mark) (said : List ℕ) → CallsSo c.password marks r said → IsClientRefused c.password (marks ++ End ∷ []) said
ended c None marks said k = inl (marks, (refl, k.0, k.1))
ended c (Some n) marks said (before, (since, k)) =
    inr (before, (since, (End, (ap (λ z. z ++ End ∷ []) k.0 ∙ append_assoc before (Id ∷ since) (End ∷ []), k.1, k.2, tt, (λ e. cc), k.5))))

pub call_stands : (c : Caller) (r : Option ℕ) (x : List ℕ) (marks : List Mark) (mark : Option Mark) (said : List ℕ) → ReaderStandsFor c.ear x (marks ++ option_to_list mark) → c.refusals ≡ r → CallsSo c.password marks r said
    → CallsOn c.password x (marks ++ option_to_list mark) said (call_by c r mark)
call_stands c None x marks None said h e k = (record { hears = h; calls = subst (λ r. CallsSo c.password (marks ++ []) r said) (sym e) (subst (λ z. CallsSo c.password z None said) (sym (append-nil marks)) k) }, refl)
call_stands c (Some n) x marks None said h e k = (record { hears = h; calls = subst (λ r. CallsSo c.password (marks ++ []) r said) (sym e) (subst (λ z. CallsSo c.password z (Some n) said) (sym (append-nil marks)) k) }, refl)
call_stands c r x marks (Some End) said h e k = (marks_heard c.ear x _ h, ended c r marks said k)
call_stands c None x marks (Some Id) said h e k =
    (record { hears = h; calls = (marks, ([], (refl, k.0, (λ front mark rest e d. nothing front mark rest e), refl, omega arith, ap (λ z. z ++ logon_line c.password) k.1 ∙ sym (append-nil (logon_line c.password))))) }, refl)
  where
    nothing : (front : List Mark) (mark : Mark) (rest : List Mark) → [] ≡ front ++ mark ∷ rest → ⊥
    nothing [] mark rest e = cc
    nothing (f ∷ front) mark rest e = cc
call_stands c None x marks (Some Ack) said h e k = waits_silent c x marks Ack said h e k (λ q. cc) (λ q. cc)
call_stands c None x marks (Some Nak) said h e k = waits_silent c x marks Nak said h e k (λ q. cc) (λ q. cc)
call_stands c None x marks (Some Rs) said h e k = waits_silent c x marks Rs said h e k (λ q. cc) (λ q. cc)
call_stands c None x marks (Some Go) said h e k = waits_silent c x marks Go said h e k (λ q. cc) (λ q. cc)
call_stands c (Some n) x marks (Some Id) said h e k = waits_calling c n x marks Id said h e k refl (λ s d. d)
call_stands c (Some n) x marks (Some Ack) said h e k = waits_calling c n x marks Ack said h e k refl (λ s d. d)
call_stands c (Some n) x marks (Some Rs) said h e k = waits_calling c n x marks Rs said h e k refl (λ s d. d)
call_stands c (Some n) x marks (Some Go) said h e (before, (since, k)) =
    (h, record { before = before; since = since; marks_are = ap (λ z. z ++ Go ∷ []) k.0 ∙ append_assoc before (Id ∷ since) (Go ∷ []); ignored = k.1; calling = k.2; said_is = k.5 })
call_stands c (Some n) x marks (Some Nak) said h e (before, (since, k)) = by_tries (nat_le 2 n) refl
  where
    by_tries : (b : Bool) → nat_le 2 n ≡ b → CallsOn c.password x (marks ++ Nak ∷ []) said (cond b Refused (SayLogon (record c { refusals = Some (n + 1) })))
    by_tries true f =
        let two : 2 ≤ n = grind (arith, nat_tests) in
        let a = k.3 in let b = k.4 in
        (marks_heard c.ear x _ h, inr (before, (since, (Nak, (ap (λ z. z ++ Nak ∷ []) k.0 ∙ append_assoc before (Id ∷ since) (Nak ∷ []), k.1, k.2, omega (arith, two, a, b), (λ e. cc), k.5)))))
    by_tries false f =
        let few : n < 2 = grind (arith, nat_tests) in
        let a = k.3 in (
          record {
            hears = h;
            calls = (
              before,
              (
                since ++ Nak ∷ [],
                (
                  ap (λ z. z ++ Nak ∷ []) k.0 ∙ append_assoc before (Id ∷ since) (Nak ∷ []),
                  k.1,
                  calling_push since Nak k.2 (λ d. let d2 : naks since ≡ 2 = d in omega (arith, d2, a, few)),
                  (let w = naks_push since Nak in omega (arith, w, a)),
                  omega (arith, few),
                  ap (λ z. z ++ logon_line c.password) k.5 ∙ sym (logons_push c.password since Nak),
                ),
              ),
            );
          },
          refl,
        )

-- a mark that changes nothing for a page
idles : (s : Sender) (x : List ℕ) (past since : List Mark) (m : Mark) → IsUndecided (count_of s.content) since → s.acks ≡ acks since
    → (last : List Mark) → AreSinceAck since last → s.naks ≡ naks last → ReaderStandsFor s.ear x (past ++ (since ++ m ∷ []))
    → ((o : Outcome) → Decides (count_of s.content) since m o → ⊥) → acks (m ∷ []) ≡ 0 → naks (m ∷ []) ≡ 0 → said_step s.content (0 + acks since) m ≡ [] → SendsOn s.content x past since (Some m) (WaitOn s)
idles s x past since m u e last l k hears d a n q = (
  record {
    hears = hears;
    undecided = undecided_push (count_of s.content) since m u d;
    acks_are = (let f = acks_push since m in omega (arith, e, f, a));
    last = last ++ m ∷ [];
    since_ack = since_other since last m l a;
    naks_are = (let f = naks_push last m in omega (arith, k, f, n));
  },
  refl,
  ap (λ z. block_at s.content 0 ++ z) (said_push s.content 0 since m ∙ ap (λ z. said_after s.content 0 since ++ z) q ∙ append-nil (said_after s.content 0 since)),
)

more_said : (content : List ℕ) (since : List Mark) (m : Mark) (block : List ℕ) → said_step content (0 + acks since) m ≡ block → said_for content (since ++ m ∷ []) ≡ said_for content since ++ block
more_said content since m block e =
    ap (λ z. block_at content 0 ++ z) (said_push content 0 since m ∙ ap (λ z. said_after content 0 since ++ z) e) ∙ sym (append_assoc (block_at content 0) (said_after content 0 since) block)

pub send_stands : (s : Sender) (x : List ℕ) (past since : List Mark) (mark : Option Mark) → IsUndecided (count_of s.content) since → s.acks ≡ acks since
    → (last : List Mark) → AreSinceAck since last → s.naks ≡ naks last → s.naks ≤ 2
    → ReaderStandsFor s.ear x (past ++ (since ++ option_to_list mark)) → SendsOn s.content x past since mark (send_by s mark)
send_stands s x past since None u a last l n few hears = (
  record {
    hears = hears;
    undecided = subst (λ z. IsUndecided (count_of s.content) z) (sym (append-nil since)) u;
    acks_are = a ∙ ap acks (sym (append-nil since));
    last = last;
    since_ack = subst (λ z. AreSinceAck z last) (sym (append-nil since)) l;
    naks_are = n;
  },
  refl,
  ap (λ z. said_for s.content z) (append-nil since),
)
send_stands s x past since (Some Rs) u a last l n few hears = (hears, record { mark = Rs; is_mark = refl; decides = refl }, inr refl)
send_stands s x past since (Some End) u a last l n few hears = (marks_heard s.ear x _ hears, record { mark = End; is_mark = refl; decides = refl }, inr refl)
send_stands s x past since (Some Id) u a last l n few hears = idles s x past since Id u a last l n hears (λ o d. d) refl refl refl
send_stands s x past since (Some Go) u a last l n few hears = idles s x past since Go u a last l n hears (λ o d. d) refl refl refl
send_stands s x past since (Some Ack) u a last l n few hears = by_place (is_last_at s.content s.acks) refl
  where
    by_place : (b : Bool) → is_last_at s.content s.acks ≡ b → SendsOn s.content x past since (Some Ack) (cond b (Done s.ear Sent) (NextBlock (record s { acks = s.acks + 1; naks = 0 })))
    by_place true e =
        let f : s.acks + 1 ≡ count_of s.content = grind (arith, nat_tests) in
        (hears, record { mark = Ack; is_mark = refl; decides = (ap (λ k. k + 1) (sym a) ∙ f, refl) }, inl refl)
    by_place false e =
        let f : s.acks + 1 ≢ count_of s.content = grind (arith, nat_tests) in (
          record {
            hears = hears;
            undecided = undecided_push (count_of s.content) since Ack u (λ o d. f (ap (λ k. k + 1) a ∙ d.0));
            acks_are = (let w = acks_push since Ack in omega (arith, w, a));
            last = [];
            since_ack = since_ack since;
            naks_are = refl;
          },
          refl,
          more_said s.content since Ack _ (ap (λ k. block_at s.content (k + 1)) (let z : 0 + acks since ≡ s.acks = omega (arith, a) in z)),
          refl,
        )
send_stands s x past since (Some Nak) u a last l n few hears = by_tries (nat_le 2 s.naks) refl
  where
    by_tries : (b : Bool) → nat_le 2 s.naks ≡ b → SendsOn s.content x past since (Some Nak) (cond b (Closed TriesSpent) (Again (record s { naks = s.naks + 1 })))
    by_tries true e =
        let f : 2 ≤ s.naks = grind (arith, nat_tests) in
        (marks_heard s.ear x _ hears, record { mark = Nak; is_mark = refl; decides = (last, l, omega (arith, f, few, n), refl) }, inl refl)
    by_tries false e =
        let f : s.naks < 2 = grind (arith, nat_tests) in (
          record {
            hears = hears;
            undecided = undecided_push (count_of s.content) since Nak u (λ o d. let q = one_since since d.0 last d.1 l in let r = ap naks q in let k = d.2 in omega (arith, f, k, n, r));
            acks_are = (let w = acks_push since Nak in omega (arith, w, a));
            last = last ++ Nak ∷ [];
            since_ack = since_other since last Nak l refl;
            naks_are = (let w = naks_push last Nak in omega (arith, w, n));
          },
          refl,
          more_said s.content since Nak _ (ap (λ k. block_at s.content k) (let z : 0 + acks since ≡ s.acks = omega (arith, a) in z)),
          refl,
        )

pub send_goes : (s : Sender) (x : List ℕ) (past since : List Mark) (mark : Option Mark) → IsUndecided (count_of s.content) since → s.acks ≡ acks since
    → (last : List Mark) → AreSinceAck since last → s.naks ≡ naks last → s.naks ≤ 2
    → ReaderStandsFor s.ear x ((past ++ since) ++ option_to_list mark) → SendsOn s.content x past since mark (send_by s mark)
send_goes s x past since mark u a last l n few hears =
    send_stands s x past since mark u a last l n few (subst (λ z. ReaderStandsFor s.ear x z) (append_assoc past since (option_to_list mark)) hears)

none_in_nothing : (front : List Mark) (mark : Mark) (rest : List Mark) → [] ≡ front ++ mark ∷ rest → ⊥
none_in_nothing [] mark rest e = cc
none_in_nothing (f ∷ front) mark rest e = cc

-- a page begins
pub starts : (e : MarkReader) (x : List ℕ) (past : List Mark) (content : List ℕ) → ReaderStandsFor e x past → SendingFor (record { ear = e; content = content; acks = 0; naks = 0 }) x past []
starts e x past content h = record {
  hears = subst (λ z. ReaderStandsFor e x z) (sym (append-nil past)) h;
  undecided = λ front mark rest o q d. none_in_nothing front mark rest q;
  acks_are = refl;
  last = [];
  since_ack = since_none;
  naks_are = refl;
}
