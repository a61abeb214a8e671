-- Worked rows.
use Rattle.std.proofs.Common.{◌≡◌, ℕ, ◌<◌, List, [], ◌∷◌, ◌++◌, refl, ap, arith, None, inl, inr}
use Rattle.std.specs.Prelude.{codes}
use Rattle.entry_line.specs.Chars.{cr}
use Rattle.tap_block.specs.Chars.{stx, etx, esc}
use Rattle.tap_entry.specs.declared.hearing.Mark.{Mark}
use Rattle.tap_entry.specs.declared.hearing.Mark.TheVariants.{Id, Ack, Nak, Rs, End, Go}
use Rattle.tap_entry.specs.declared.outcomes.Outcome.{Outcome}
use Rattle.tap_entry.specs.declared.outcomes.Outcome.TheVariants.{Sent, Abandoned, TriesSpent, Disconnected, NoLogon}
use Rattle.tap_entry.specs.Client.{PageToSend, content, block_at, naks, AreSinceAck, Decides, IsUndecided, IsCalling, Client, answered, said_for, good_bye}
use Rattle.tap_entry.specs.MarkReaders.{marks_of}
use Rattle.tap_entry.proofs.Counts.{calling_push, undecided_push, since_none, one_since}

abbrev hello : PageToSend
hello = record { id = codes "5551234"; text = codes "HELLO" }

abbrev x : PageToSend
x = record { id = codes "999"; text = codes "X" }

hello_block : block_at (content hello) 0 ≡ stx ∷ codes "5551234" ++ cr ∷ [] ++ codes "HELLO" ++ cr ∷ etx ∷ codes "2?<" ++ cr ∷ []
hello_block = refl

x_block : block_at (content x) 0 ≡ stx ∷ codes "999" ++ cr ∷ [] ++ codes "X" ++ cr ∷ etx ∷ codes "122" ++ cr ∷ []
x_block = refl

nothing_yet : (k : ℕ) → IsUndecided k []
nothing_yet k [] mark rest o e d = cc
nothing_yet k (f ∷ front) mark rest o e d = cc

no_call_yet : IsCalling []
no_call_yet [] mark rest e d = cc
no_call_yet (f ∷ front) mark rest e d = cc

abbrev logon : List ℕ
logon = esc ∷ codes "PG1" ++ cr ∷ []

-- one page sent, one abandoned
sent_and_abandoned : Client None (hello ∷ x ∷ []) (Id ∷ Ack ∷ Go ∷ Ack ∷ Rs ∷ End ∷ []) (Sent ∷ Abandoned ∷ [])
    (cr ∷ (logon ++ (block_at (content hello) 0 ++ (block_at (content x) 0 ++ good_bye))))
sent_and_abandoned = answered (record {
  before = [];
  since = Ack ∷ [];
  mark = Go;
  rest = Ack ∷ Rs ∷ End ∷ [];
  more = block_at (content hello) 0 ++ (block_at (content x) 0 ++ good_bye);
  marks_are = refl;
  ignored = tt;
  calling = calling_push [] Ack no_call_yet (λ d. d);
  decides = tt;
  said_is = refl;
  logs_on = inr (record {
    since = [];
    mark = Ack;
    rest = Rs ∷ End ∷ [];
    outcome = Sent;
    others = Abandoned ∷ [];
    more = block_at (content x) 0 ++ good_bye;
    marks_are = refl;
    undecided = nothing_yet _;
    decides = (refl, refl);
    outcomes_are = refl;
    said_is = refl;
    follows = inr (record {
      since = [];
      mark = Rs;
      rest = End ∷ [];
      outcome = Abandoned;
      others = [];
      more = good_bye;
      marks_are = refl;
      undecided = nothing_yet _;
      decides = refl;
      outcomes_are = refl;
      said_is = refl;
      follows = (refl, refl);
    });
  });
})

-- three refusals
refused : Client None (hello ∷ x ∷ []) (Id ∷ Nak ∷ Nak ∷ Nak ∷ []) (NoLogon ∷ NoLogon ∷ []) (cr ∷ (logon ++ (logon ++ logon)))
refused = answered (record {
  before = [];
  since = Nak ∷ Nak ∷ [];
  mark = Nak;
  rest = [];
  more = [];
  marks_are = refl;
  ignored = tt;
  calling = calling_push (Nak ∷ []) Nak (calling_push [] Nak no_call_yet (λ d. cc)) (λ d. cc);
  decides = refl;
  said_is = refl;
  logs_on = (refl, refl);
})

-- the third Nak for a block
few_naks : (k : ℕ) (since : List Mark) (o : Outcome) (last : List Mark) → AreSinceAck since last → naks last < 2 → Decides k since Nak o → ⊥
few_naks k since o last h few d = let q = ap naks (one_since since d.0 last d.1 h) in let e = d.2 in omega (arith, q, e, few)

tries_spent : Client None (hello ∷ x ∷ []) (Id ∷ Ack ∷ Go ∷ Nak ∷ Nak ∷ Nak ∷ []) (TriesSpent ∷ Disconnected ∷ [])
    (cr ∷ (logon ++ ((block_at (content hello) 0 ++ (block_at (content hello) 0 ++ block_at (content hello) 0)) ++ good_bye)))
tries_spent = answered (record {
  before = [];
  since = Ack ∷ [];
  mark = Go;
  rest = Nak ∷ Nak ∷ Nak ∷ [];
  more = said_for (content hello) (Nak ∷ Nak ∷ []) ++ good_bye;
  marks_are = refl;
  ignored = tt;
  calling = calling_push [] Ack no_call_yet (λ d. d);
  decides = tt;
  said_is = refl;
  logs_on = inr (record {
    since = Nak ∷ Nak ∷ [];
    mark = Nak;
    rest = [];
    outcome = TriesSpent;
    others = Disconnected ∷ [];
    more = good_bye;
    marks_are = refl;
    undecided = undecided_push _ (Nak ∷ []) Nak (undecided_push _ [] Nak (nothing_yet _) (λ o d. few_naks 1 [] o [] since_none (omega arith) d)) (λ o d. few_naks 1 (Nak ∷ []) o (Nak ∷ []) (refl, inl refl) (omega arith) d);
    decides = (Nak ∷ Nak ∷ [], (refl, inl refl), refl, refl);
    outcomes_are = refl;
    said_is = refl;
    follows = (refl, refl);
  });
})

-- the replies of a terminal
heard_replies : marks_of (codes "ID=" ++ 6 ∷ 13 ∷ 27 ∷ codes "[p" ++ 13 ∷ 6 ∷ 13 ∷ 21 ∷ 13 ∷ 30 ∷ 13 ∷ 27 ∷ 4 ∷ 13 ∷ []) ≡ Id ∷ Ack ∷ Go ∷ Ack ∷ Nak ∷ Rs ∷ End ∷ []
heard_replies = refl

-- LF inside marks and between them
heard_with_lf : marks_of (10 ∷ 6 ∷ 10 ∷ 13 ∷ 10 ∷ 73 ∷ 10 ∷ 68 ∷ 61 ∷ []) ≡ Ack ∷ Id ∷ []
heard_with_lf = refl

-- a line that ends in `ID=`, and lines that are skipped
heard_skipped : marks_of (codes "x ID=" ++ 6 ∷ codes "OK" ++ 13 ∷ 21 ∷ codes "ID=" ++ 13 ∷ 6 ∷ 6 ∷ 13 ∷ []) ≡ Id ∷ Id ∷ []
heard_skipped = refl
