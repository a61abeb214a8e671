-- The marks and the pages give one list of outcomes, and one list of said characters.
use Rattle.std.proofs.Common.{◌≡◌, ◌≢◌, ℕ, List, [], ◌∷◌, ◌++◌, refl, ap, sym, ◌∙◌, subst, Option, inl, inr}
use Rattle.std.specs.List.{AllByRecursion}
use Rattle.entry_line.specs.Chars.{cr}
use Rattle.tap_entry.specs.declared.hearing.Mark.{Mark}
use Rattle.tap_entry.specs.declared.hearing.Mark.TheVariants.{Id, Ack, Nak, Rs, End, Go}
use Rattle.tap_entry.specs.declared.outcomes.Outcome.{Outcome}
use Rattle.tap_entry.specs.declared.outcomes.Outcome.TheVariants.{Sent, Abandoned, TriesSpent, Disconnected, NoLogon}
use Rattle.tap_entry.specs.Client.{PageToSend, content, count_of, Decides, Follows, IsDecided, Sends, DecidesLogon, LogsOn, StaysCalling, IsAnswered, Client, silent, turned_away, still_calling, answered, said_for, logons}
use Rattle.tap_entry.proofs.FirstMarks.{First, one_first, same, before, behind, places, all_at}

-- both lists are the same
abbrev pub Same : List Outcome → List ℕ → List Outcome → List ℕ → Type 0
Same outcomes said others other = (outcomes ≡ others) × (said ≡ other)

-- a relation that gives one answer
abbrev One : (List Outcome → List ℕ → Type 0) → Type 0
One on = (a : List Outcome) (s : List ℕ) (b : List Outcome) (t : List ℕ) → on a s → on b t → Same a s b t

-- a mark decides a page, with some outcome
abbrev pub DecidesPage : ℕ → List Mark → Mark → Type 0
DecidesPage m since mark = (outcome : Outcome) × Decides m since mark outcome

one_outcome : (m : ℕ) (since : List Mark) (mark : Mark) (a b : Outcome) → Decides m since mark a → Decides m since mark b → a ≡ b
one_outcome m since Ack a b h k = h.1 ∙ sym k.1
one_outcome m since Rs a b h k = h ∙ sym k
one_outcome m since End a b h k = h ∙ sym k
one_outcome m since Nak a b h k = h.3 ∙ sym k.3
one_outcome m since Id a b h k = elim h [ ]
one_outcome m since Go a b h k = elim h [ ]

one_follows : (outcome : Outcome) (pages : List PageToSend) (on : List Outcome → List ℕ → Type 0) → One on → One (Follows outcome pages on)
one_follows Sent pages on h a s b t p q = h a s b t p q
one_follows Abandoned pages on h a s b t p q = h a s b t p q
one_follows NoLogon pages on h a s b t p q = h a s b t p q
one_follows TriesSpent pages on h a s b t p q = (p.0 ∙ sym q.0, p.1 ∙ sym q.1)
one_follows Disconnected pages on h a s b t p q = (p.0 ∙ sym q.0, p.1 ∙ sym q.1)

first_of : {x : List ℕ} {pages : List PageToSend} {on : List Mark → List Outcome → List ℕ → Type 0} {marks : List Mark} {a : List Outcome} {s : List ℕ} (h : IsDecided x pages on marks a s)
    → First (DecidesPage (count_of x)) marks h.since h.mark h.rest
first_of h = record { form = h.marks_are; none = λ f m r e d. h.undecided f m r d.0 e d.1; decides = (h.outcome, h.decides) }

one_decided : (x : List ℕ) (pages : List PageToSend) (on : List Mark → List Outcome → List ℕ → Type 0) → ((rest : List Mark) → One (on rest)) → (marks : List Mark) → One (IsDecided x pages on marks)
one_decided x pages on h marks a s b t p q =
    let f = one_first (DecidesPage (count_of x)) marks p.since p.mark p.rest q.since q.mark q.rest (first_of p) (first_of q) in
    by_same f.0 f.1 f.2
  where
    by_same : p.since ≡ q.since → p.mark ≡ q.mark → p.rest ≡ q.rest → Same a s b t
    by_same e g r =
        let d : Decides (count_of x) q.since q.mark p.outcome = subst (λ z. Decides (count_of x) q.since z p.outcome) g (subst (λ z. Decides (count_of x) z p.mark p.outcome) e p.decides) in
        let o = one_outcome (count_of x) q.since q.mark p.outcome q.outcome d q.decides in
        let k : Follows q.outcome pages (on q.rest) p.others p.more = subst (λ z. Follows z pages (on q.rest) p.others p.more) o (subst (λ z. Follows p.outcome pages (on z) p.others p.more) r p.follows) in
        let w = one_follows q.outcome pages (on q.rest) (h q.rest) p.others p.more q.others q.more k q.follows in (
          p.outcomes_are ∙ ap (λ z. z ∷ p.others) o ∙ ap (λ z. q.outcome ∷ z) w.0 ∙ sym q.outcomes_are,
          p.said_is ∙ ap (λ z. said_for x z ++ p.more) e ∙ ap (λ z. said_for x q.since ++ z) w.1 ∙ sym q.said_is,
        )

one_sends : (pages : List PageToSend) (marks : List Mark) → One (Sends pages marks)
one_sends [] marks a s b t p q = (p.0 ∙ sym q.0, p.1 ∙ sym q.1)
one_sends (page ∷ pages) marks a s b t (inl p) (inl q) = (p.outcomes_are ∙ sym q.outcomes_are, p.said_is ∙ sym q.said_is)
one_sends (page ∷ pages) marks a s b t (inl p) (inr q) = absurd (p.undecided q.since q.mark q.rest q.outcome q.marks_are q.decides)
one_sends (page ∷ pages) marks a s b t (inr p) (inl q) = absurd (q.undecided p.since p.mark p.rest p.outcome p.marks_are p.decides)
one_sends (page ∷ pages) marks a s b t (inr p) (inr q) =
    one_decided (content page) pages (λ rest others more. Sends pages rest others more) (λ rest. one_sends pages rest) marks a s b t p q

one_logs_on : (mark : Mark) (pages : List PageToSend) (rest : List Mark) → One (LogsOn mark pages rest)
one_logs_on Go pages rest a s b t p q = one_sends pages rest a s b t p q
one_logs_on Id pages rest a s b t p q = (p.0 ∙ sym q.0, p.1 ∙ sym q.1)
one_logs_on Ack pages rest a s b t p q = (p.0 ∙ sym q.0, p.1 ∙ sym q.1)
one_logs_on Nak pages rest a s b t p q = (p.0 ∙ sym q.0, p.1 ∙ sym q.1)
one_logs_on Rs pages rest a s b t p q = (p.0 ∙ sym q.0, p.1 ∙ sym q.1)
one_logs_on End pages rest a s b t p q = (p.0 ∙ sym q.0, p.1 ∙ sym q.1)

abbrev Ignored : Mark → Type 0
Ignored m = (m ≢ Id) × (m ≢ End)

-- the first Id
one_id : (marks a x b y : List Mark) → marks ≡ a ++ Id ∷ x → marks ≡ b ++ Id ∷ y → AllByRecursion Ignored a → AllByRecursion Ignored b → (a ≡ b) × (x ≡ y)
one_id marks a x b y e f h k = elim (places a Id x b Id y (sym e ∙ f)) [
  | same p q r ↦ (p, r)
  | before z p ↦ absurd ((all_at Ignored a Id z (subst (AllByRecursion Ignored) p k)).0 refl)
  | behind z p ↦ absurd ((all_at Ignored b Id z (subst (AllByRecursion Ignored) p h)).0 refl)
]

-- an End before each Id, and an Id before each End, don't go together
not_both : (marks a x b y : List Mark) → marks ≡ a ++ End ∷ x → AllByRecursion (λ m. m ≢ Id) a → marks ≡ b ++ Id ∷ y → AllByRecursion Ignored b → ⊥
not_both marks a x b y e h f k = elim (places a End x b Id y (sym e ∙ f)) [
  | same p q r ↦ absurd (cc)
  | before z p ↦ (all_at Ignored a End z (subst (AllByRecursion Ignored) p k)).1 refl
  | behind z p ↦ all_at (λ m. m ≢ Id) b Id z (subst (AllByRecursion (λ m. m ≢ Id)) p h) refl
]

no_id_there : (marks b y : List Mark) → AllByRecursion (λ m. m ≢ Id) marks → marks ≡ b ++ Id ∷ y → ⊥
no_id_there marks b y h f = all_at (λ m. m ≢ Id) b Id y (subst (AllByRecursion (λ m. m ≢ Id)) f h) refl

module _ (password : Option (List ℕ)) (pages : List PageToSend) (marks : List Mark) (a : List Outcome) (s : List ℕ) (b : List Outcome) (t : List ℕ) where
  both_calling : StaysCalling password pages marks a s → StaysCalling password pages marks b t → Same a s b t
  both_calling p q =
      let f = one_id marks p.before p.since q.before q.since p.marks_are q.marks_are p.ignored q.ignored in
      (p.outcomes_are ∙ sym q.outcomes_are, p.said_is ∙ ap (λ z. cr ∷ logons password z) f.1 ∙ sym q.said_is)

  both_answered : IsAnswered password pages marks a s → IsAnswered password pages marks b t → Same a s b t
  both_answered p q =
      let f = one_id marks p.before (p.since ++ p.mark ∷ p.rest) q.before (q.since ++ q.mark ∷ q.rest) p.marks_are q.marks_are p.ignored q.ignored in
      let g = one_first DecidesLogon (p.since ++ p.mark ∷ p.rest) p.since p.mark p.rest q.since q.mark q.rest
      (record { form = refl; none = p.calling; decides = p.decides }) (record { form = f.1; none = q.calling; decides = q.decides }) in
      by_same g.0 g.1 g.2
    where
      by_same : p.since ≡ q.since → p.mark ≡ q.mark → p.rest ≡ q.rest → Same a s b t
      by_same e g r =
          let l : LogsOn q.mark pages q.rest a p.more = subst (λ z. LogsOn z pages q.rest a p.more) g (subst (λ z. LogsOn p.mark pages z a p.more) r p.logs_on) in
          let w = one_logs_on q.mark pages q.rest a p.more b q.more l q.logs_on in
          (w.0, p.said_is ∙ ap (λ z. cr ∷ (logons password z ++ p.more)) e ∙ ap (λ z. cr ∷ (logons password q.since ++ z)) w.1 ∙ sym q.said_is)

calling_answered : (password : Option (List ℕ)) (pages : List PageToSend) (marks : List Mark) (a : List Outcome) (s : List ℕ) (b : List Outcome) (t : List ℕ) → StaysCalling password pages marks a s → IsAnswered password pages marks b t → ⊥
calling_answered password pages marks a s b t p q =
    let f = one_id marks p.before p.since q.before (q.since ++ q.mark ∷ q.rest) p.marks_are q.marks_are p.ignored q.ignored in
    p.calling q.since q.mark q.rest f.1 q.decides

pub one_client : (password : Option (List ℕ)) (pages : List PageToSend) (marks : List Mark) (a : List Outcome) (s : List ℕ) (b : List Outcome) (t : List ℕ)
    → Client password pages marks a s → Client password pages marks b t → (a ≡ b) × (s ≡ t)
one_client password pages marks a s b t (silent p) (silent q) = (p.outcomes_are ∙ sym q.outcomes_are, p.said_is ∙ sym q.said_is)
one_client password pages marks a s b t (silent p) (turned_away q) = (p.outcomes_are ∙ sym q.outcomes_are, p.said_is ∙ sym q.said_is)
one_client password pages marks a s b t (silent p) (still_calling q) = absurd (no_id_there marks q.before q.since p.no_id q.marks_are)
one_client password pages marks a s b t (silent p) (answered q) = absurd (no_id_there marks q.before (q.since ++ q.mark ∷ q.rest) p.no_id q.marks_are)
one_client password pages marks a s b t (turned_away p) (silent q) = (p.outcomes_are ∙ sym q.outcomes_are, p.said_is ∙ sym q.said_is)
one_client password pages marks a s b t (turned_away p) (turned_away q) = (p.outcomes_are ∙ sym q.outcomes_are, p.said_is ∙ sym q.said_is)
one_client password pages marks a s b t (turned_away p) (still_calling q) = absurd (not_both marks p.before p.rest q.before q.since p.marks_are p.no_id q.marks_are q.ignored)
one_client password pages marks a s b t (turned_away p) (answered q) = absurd (not_both marks p.before p.rest q.before (q.since ++ q.mark ∷ q.rest) p.marks_are p.no_id q.marks_are q.ignored)
one_client password pages marks a s b t (still_calling p) (silent q) = absurd (no_id_there marks p.before p.since q.no_id p.marks_are)
one_client password pages marks a s b t (still_calling p) (turned_away q) = absurd (not_both marks q.before q.rest p.before p.since q.marks_are q.no_id p.marks_are p.ignored)
one_client password pages marks a s b t (still_calling p) (still_calling q) = both_calling password pages marks a s b t p q
one_client password pages marks a s b t (still_calling p) (answered q) = absurd (calling_answered password pages marks a s b t p q)
one_client password pages marks a s b t (answered p) (silent q) = absurd (no_id_there marks p.before (p.since ++ p.mark ∷ p.rest) q.no_id p.marks_are)
one_client password pages marks a s b t (answered p) (turned_away q) = absurd (not_both marks q.before q.rest p.before (p.since ++ p.mark ∷ p.rest) q.marks_are q.no_id p.marks_are p.ignored)
one_client password pages marks a s b t (answered p) (still_calling q) = absurd (calling_answered password pages marks b t a s q p)
one_client password pages marks a s b t (answered p) (answered q) = both_answered password pages marks a s b t p q
