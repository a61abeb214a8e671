-- Every list of marks has outcomes, and something said.
use Rattle.std.proofs.Common.{◌≡◌, ◌≢◌, ℕ, ◌+◌, List, [], ◌∷◌, ◌++◌, refl, ap, sym, ◌∙◌, subst, append_assoc, append-nil, Option, ◌⊎◌, inl, inr}
use Rattle.std.specs.List.{AllByRecursion}
use Rattle.std.proofs.lemmas.Bool.Decides.{eqb_tells}
use Rattle.entry_line.specs.Chars.{cr}
use Rattle.tap_entry.specs.declared.hearing.Mark.{Mark}
use Rattle.tap_entry.specs.declared.hearing.Mark.TheVariants.{Id, Ack, Nak, Rs, End, Go}
use Rattle.tap_entry.specs.declared.outcomes.Outcome.{Outcome}
use Rattle.tap_entry.specs.declared.outcomes.Outcome.TheVariants.{Sent, Abandoned, TriesSpent, Disconnected, NoLogon}
use Rattle.tap_entry.specs.Client.{PageToSend, content, count_of, acks, naks, AreSinceAck, Follows, Sends, DecidesLogon, LogsOn, Client, silent, turned_away, still_calling, answered, said_for, logons, all_are, good_bye}
use Rattle.tap_entry.proofs.Counts.{since_none, since_ack, since_other, one_since}
use Rattle.tap_entry.proofs.FirstMarks.{NoneIn, Found, find, nothing_first}
use Rattle.tap_entry.proofs.OneClient.{DecidesPage}

-- the marks since the last Ack
record Last (marks : List Mark) : Type 0 where
  last : List Mark
  is : AreSinceAck marks last

last_from : (since last : List Mark) → AreSinceAck since last → (rest : List Mark) → Last (since ++ rest)
last_from since last h [] = record { last = last; is = subst (λ z. AreSinceAck z last) (sym (append-nil since)) h }
last_from since last h (Ack ∷ rest) = subst Last (append_assoc since (Ack ∷ []) rest) (last_from (since ++ Ack ∷ []) [] (since_ack since) rest)
last_from since last h (Id ∷ rest) = subst Last (append_assoc since (Id ∷ []) rest) (last_from (since ++ Id ∷ []) (last ++ Id ∷ []) (since_other since last Id h refl) rest)
last_from since last h (Nak ∷ rest) = subst Last (append_assoc since (Nak ∷ []) rest) (last_from (since ++ Nak ∷ []) (last ++ Nak ∷ []) (since_other since last Nak h refl) rest)
last_from since last h (Rs ∷ rest) = subst Last (append_assoc since (Rs ∷ []) rest) (last_from (since ++ Rs ∷ []) (last ++ Rs ∷ []) (since_other since last Rs h refl) rest)
last_from since last h (End ∷ rest) = subst Last (append_assoc since (End ∷ []) rest) (last_from (since ++ End ∷ []) (last ++ End ∷ []) (since_other since last End h refl) rest)
last_from since last h (Go ∷ rest) = subst Last (append_assoc since (Go ∷ []) rest) (last_from (since ++ Go ∷ []) (last ++ Go ∷ []) (since_other since last Go h refl) rest)

-- whether a mark decides a page
page_test : (m : ℕ) (since : List Mark) (mark : Mark) → DecidesPage m since mark ⊎ (DecidesPage m since mark → ⊥)
page_test m since Rs = inl (Abandoned, refl)
page_test m since End = inl (Disconnected, refl)
page_test m since Id = inr (λ d. elim d.1 [ ])
page_test m since Go = inr (λ d. elim d.1 [ ])
page_test m since Ack = elim (eqb_tells (acks since + 1) m) [
  | inl h ↦ inl (Sent, (h.1, refl))
  | inr h ↦ inr (λ d. h.1 d.1.0)
]
page_test m since Nak = let l = last_from [] [] since_none since in elim (eqb_tells (naks l.last) 2) [
  | inl h ↦ inl (TriesSpent, (l.last, l.is, h.1, refl))
  | inr h ↦ inr (λ d. h.1 (ap naks (one_since since l.last d.1.0 l.is d.1.1) ∙ d.1.2))
]

-- outcomes and said characters for a relation
record Some (on : List Outcome → List ℕ → Type 0) : Type 0 where
  outcomes : List Outcome
  said : List ℕ
  holds : on outcomes said

some_follows : (outcome : Outcome) (pages : List PageToSend) (on : List Outcome → List ℕ → Type 0) → Some on → Some (Follows outcome pages on)
some_follows Sent pages on h = record { outcomes = h.outcomes; said = h.said; holds = h.holds }
some_follows Abandoned pages on h = record { outcomes = h.outcomes; said = h.said; holds = h.holds }
some_follows NoLogon pages on h = record { outcomes = h.outcomes; said = h.said; holds = h.holds }
some_follows TriesSpent pages on h = record { outcomes = all_are Disconnected pages; said = good_bye; holds = (refl, refl) }
some_follows Disconnected pages on h = record { outcomes = all_are Disconnected pages; said = []; holds = (refl, refl) }

some_sends : (pages : List PageToSend) (marks : List Mark) → Some (Sends pages marks)
some_sends [] marks = record { outcomes = []; said = good_bye; holds = (refl, refl) }
some_sends (page ∷ pages) marks = by_first (λ rest. some_sends pages rest) (find (DecidesPage (count_of (content page))) (page_test (count_of (content page))) [] marks (λ f m r e d. nothing_first f m r e))
  where
    by_first : ((rest : List Mark) → Some (Sends pages rest)) → NoneIn (DecidesPage (count_of (content page))) marks ⊎ Found (DecidesPage (count_of (content page))) marks → Some (Sends (page ∷ pages) marks)
    by_first on (inl n) = record {
      outcomes = all_are Disconnected (page ∷ pages);
      said = said_for (content page) marks;
      holds = inl (record { undecided = λ f m r o e d. n f m r e (o, d); outcomes_are = refl; said_is = refl });
    }
    by_first on (inr k) =
        let d = k.first.decides in
        let w = some_follows d.0 pages (Sends pages k.rest) (on k.rest) in
        record {
          outcomes = d.0 ∷ w.outcomes;
          said = said_for (content page) k.front ++ w.said;
          holds = inr (record {
            since = k.front;
            mark = k.mark;
            rest = k.rest;
            outcome = d.0;
            others = w.outcomes;
            more = w.said;
            marks_are = k.first.form;
            undecided = λ f m r o e q. k.first.none f m r e (o, q);
            decides = d.1;
            outcomes_are = refl;
            said_is = refl;
            follows = w.holds;
          });
        }

-- whether a mark decides the logon
logon_test : (since : List Mark) (mark : Mark) → DecidesLogon since mark ⊎ (DecidesLogon since mark → ⊥)
logon_test since Go = inl tt
logon_test since End = inl tt
logon_test since Id = inr (λ d. d)
logon_test since Ack = inr (λ d. d)
logon_test since Rs = inr (λ d. d)
logon_test since Nak = elim (eqb_tells (naks since) 2) [
  | inl h ↦ inl h.1
  | inr h ↦ inr h.1
]

some_logs_on : (mark : Mark) (pages : List PageToSend) (rest : List Mark) → Some (LogsOn mark pages rest)
some_logs_on Go pages rest = let w = some_sends pages rest in record { outcomes = w.outcomes; said = w.said; holds = w.holds }
some_logs_on Id pages rest = record { outcomes = all_are NoLogon pages; said = []; holds = (refl, refl) }
some_logs_on Ack pages rest = record { outcomes = all_are NoLogon pages; said = []; holds = (refl, refl) }
some_logs_on Nak pages rest = record { outcomes = all_are NoLogon pages; said = []; holds = (refl, refl) }
some_logs_on Rs pages rest = record { outcomes = all_are NoLogon pages; said = []; holds = (refl, refl) }
some_logs_on End pages rest = record { outcomes = all_are NoLogon pages; said = []; holds = (refl, refl) }

-- the first Id or End, if there is one
data FirstCall (marks : List Mark) : Type 0 where
  none : AllByRecursion (λ m. (m ≢ Id) × (m ≢ End)) marks → FirstCall marks
  an_end : (before rest : List Mark) → AllByRecursion (λ m. (m ≢ Id) × (m ≢ End)) before → marks ≡ before ++ End ∷ rest → FirstCall marks
  an_id : (before rest : List Mark) → AllByRecursion (λ m. (m ≢ Id) × (m ≢ End)) before → marks ≡ before ++ Id ∷ rest → FirstCall marks

further : (m : Mark) (marks : List Mark) → (m ≢ Id) × (m ≢ End) → FirstCall marks → FirstCall (m ∷ marks)
further m marks h (none k) = none (h, k)
further m marks h (an_end before rest k e) = an_end (m ∷ before) rest (h, k) (ap (λ z. m ∷ z) e)
further m marks h (an_id before rest k e) = an_id (m ∷ before) rest (h, k) (ap (λ z. m ∷ z) e)

first_call : (marks : List Mark) → FirstCall marks
first_call [] = none tt
first_call (Id ∷ marks) = an_id [] marks tt refl
first_call (End ∷ marks) = an_end [] marks tt refl
first_call (Ack ∷ marks) = further Ack marks ((λ e. cc), (λ e. cc)) (first_call marks)
first_call (Nak ∷ marks) = further Nak marks ((λ e. cc), (λ e. cc)) (first_call marks)
first_call (Rs ∷ marks) = further Rs marks ((λ e. cc), (λ e. cc)) (first_call marks)
first_call (Go ∷ marks) = further Go marks ((λ e. cc), (λ e. cc)) (first_call marks)

no_id : (marks : List Mark) → AllByRecursion (λ m. (m ≢ Id) × (m ≢ End)) marks → AllByRecursion (λ m. m ≢ Id) marks
no_id [] h = tt
no_id (m ∷ marks) h = (h.0.0, no_id marks h.1)

some_for : (password : Option (List ℕ)) (pages : List PageToSend) (marks : List Mark) → FirstCall marks → Some (Client password pages marks)
some_for password pages marks (none h) =
    record { outcomes = all_are NoLogon pages; said = cr ∷ []; holds = silent (record { no_id = no_id marks h; outcomes_are = refl; said_is = refl }) }
some_for password pages marks (an_end before rest h e) =
    record { outcomes = all_are NoLogon pages; said = cr ∷ []; holds = turned_away (record { before = before; rest = rest; marks_are = e; no_id = no_id before h; outcomes_are = refl; said_is = refl }) }
some_for password pages marks (an_id before rest h e) = by_first (find DecidesLogon logon_test [] rest (λ f m r e d. nothing_first f m r e))
  where
    by_first : NoneIn DecidesLogon rest ⊎ Found DecidesLogon rest → Some (Client password pages marks)
    by_first (inl n) = record {
      outcomes = all_are NoLogon pages;
      said = cr ∷ logons password rest;
      holds = still_calling (record { before = before; since = rest; marks_are = e; ignored = h; calling = n; outcomes_are = refl; said_is = refl });
    }
    by_first (inr k) =
        let w = some_logs_on k.mark pages k.rest in
        record {
          outcomes = w.outcomes;
          said = cr ∷ (logons password k.front ++ w.said);
          holds = answered (record {
            before = before;
            since = k.front;
            mark = k.mark;
            rest = k.rest;
            more = w.said;
            marks_are = e ∙ ap (λ z. before ++ Id ∷ z) k.first.form;
            ignored = h;
            calling = k.first.none;
            decides = k.first.decides;
            said_is = refl;
            logs_on = w.holds;
          });
        }

pub some_client : (password : Option (List ℕ)) (pages : List PageToSend) (marks : List Mark) → (outcomes : List Outcome) × ((said : List ℕ) × Client password pages marks outcomes said)
some_client password pages marks = let w = some_for password pages marks (first_call marks) in (w.outcomes, (w.said, w.holds))
