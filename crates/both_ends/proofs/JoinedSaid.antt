-- What a client says are characters.
use Rattle.std.proofs.Common.{◌≡◌, ℕ, ◌+◌, ◌*◌, ◌≤◌, cond, Bool, true, false, List, [], ◌∷◌, ◌++◌, refl, ap, sym, ◌∙◌, subst, arith, Option, Some, None, inl, inr}
use Rattle.std.specs.List.{AllByRecursion, flat_map}
use Rattle.std.specs.Prelude.{codes}
use Rattle.std.proofs.lemmas.List.{map-append}
use Rattle.entry_line.specs.Chars.{cr, char_of}
use Rattle.tap_block.specs.Chars.{IsChar, esc, characters}
use Rattle.tap_block.proofs.WholeBlocks.{characters_small, block_characters}
use Rattle.tap_entry.specs.PagesFile.{IsPassword}
use Rattle.tap_entry.specs.declared.hearing.Mark.{Mark}
use Rattle.tap_entry.specs.declared.hearing.Mark.TheVariants.{Id, Ack, Nak, Rs, End, Go}
use Rattle.tap_entry.specs.declared.outcomes.Outcome.{Outcome}
use Rattle.tap_entry.specs.declared.outcomes.Outcome.TheVariants.{Sent, Abandoned, TriesSpent, Disconnected, NoLogon}
use Rattle.tap_entry.specs.Client.{PageToSend, IsPage, content, body_at, end_at, block_at, Follows, Sends, LogsOn, Client, silent, turned_away, still_calling, answered, said_after, said_for, is_nak, logon_line, logons}
use Rattle.tap_entry.proofs.Contents.{content_sound, all_part}
use Rattle.both_ends.proofs.JoinedContents.{all_append, all_weak}

-- bytes that are their own characters
abbrev Plain : List ℕ → Type 0
Plain x = characters x ≡ x

joined_plain : (x y : List ℕ) → Plain x → Plain y → Plain (x ++ y)
joined_plain x y h k = map-append char_of x y ∙ ap (λ z. z ++ characters y) h ∙ ap (λ z. x ++ z) k

block_plain : (p : PageToSend) (k : ℕ) → IsPage p → Plain (block_at (content p) k)
block_plain p k h = block_characters (body_at (content p) k) (end_at (content p) k) (all_part IsChar (250 * k) 250 (content p) (content_sound p h).chars)

after_plain : (p : PageToSend) (k : ℕ) (since : List Mark) → IsPage p → Plain (said_after (content p) k since)
after_plain p k [] h = refl
after_plain p k (Ack ∷ since) h = joined_plain (block_at (content p) (k + 1)) (said_after (content p) (k + 1) since) (block_plain p (k + 1) h) (after_plain p (k + 1) since h)
after_plain p k (Nak ∷ since) h = joined_plain (block_at (content p) k) (said_after (content p) k since) (block_plain p k h) (after_plain p k since h)
after_plain p k (Id ∷ since) h = after_plain p k since h
after_plain p k (Rs ∷ since) h = after_plain p k since h
after_plain p k (End ∷ since) h = after_plain p k since h
after_plain p k (Go ∷ since) h = after_plain p k since h

for_plain : (p : PageToSend) (since : List Mark) → IsPage p → Plain (said_for (content p) since)
for_plain p since h = joined_plain (block_at (content p) 0) (said_after (content p) 0 since) (block_plain p 0 h) (after_plain p 0 since h)

follows_plain : (outcome : Outcome) (pages : List PageToSend) (on : List Outcome → List ℕ → Type 0) (others : List Outcome) (more : List ℕ) → ((a : List Outcome) (s : List ℕ) → on a s → Plain s)
    → Follows outcome pages on others more → Plain more
follows_plain Sent pages on others more h f = h others more f
follows_plain Abandoned pages on others more h f = h others more f
follows_plain NoLogon pages on others more h f = h others more f
follows_plain TriesSpent pages on others more h f = subst Plain (sym f.1) refl
follows_plain Disconnected pages on others more h f = subst Plain (sym f.1) refl

sends_plain : (pages : List PageToSend) (marks : List Mark) (outcomes : List Outcome) (said : List ℕ) → AllByRecursion IsPage pages → Sends pages marks outcomes said → Plain said
sends_plain [] marks outcomes said h k = subst Plain (sym k.1) refl
sends_plain (p ∷ pages) marks outcomes said h (inl k) = subst Plain (sym k.said_is) (for_plain p marks h.0)
sends_plain (p ∷ pages) marks outcomes said h (inr k) =
    subst Plain (sym k.said_is) (joined_plain (said_for (content p) k.since) k.more (for_plain p k.since h.0)
    (follows_plain k.outcome pages (λ a s. Sends pages k.rest a s) k.others k.more (λ a s q. sends_plain pages k.rest a s h.1 q) k.follows))

line_plain : (mine : Option (List ℕ)) → IsPassword mine → Plain (logon_line mine)
line_plain None h = refl
line_plain (Some word) h = characters_small (logon_line (Some word))
    (all_append IsChar (esc ∷ codes "PG1") (word ++ cr ∷ []) (omega arith, (omega arith, (omega arith, (omega arith, tt))))
    (all_append IsChar word (cr ∷ []) (all_weak (λ c. (33 ≤ c) × (c ≤ 126)) IsChar (λ c k. let a = k.1 in omega (arith, a)) word h.1) (omega arith, tt)))

again_plain : (mine : Option (List ℕ)) (since : List Mark) → IsPassword mine → Plain (flat_map (λ m. cond (is_nak m) (logon_line mine) []) since)
again_plain mine [] h = refl
again_plain mine (m ∷ since) h = joined_plain (cond (is_nak m) (logon_line mine) []) (flat_map (λ m. cond (is_nak m) (logon_line mine) []) since) (by_nak (is_nak m)) (again_plain mine since h)
  where
    by_nak : (b : Bool) → Plain (cond b (logon_line mine) [])
    by_nak true = line_plain mine h
    by_nak false = refl

logons_plain : (mine : Option (List ℕ)) (since : List Mark) → IsPassword mine → Plain (logons mine since)
logons_plain mine since h = joined_plain (logon_line mine) (flat_map (λ m. cond (is_nak m) (logon_line mine) []) since) (line_plain mine h) (again_plain mine since h)

logs_on_plain : (mark : Mark) (pages : List PageToSend) (rest : List Mark) (outcomes : List Outcome) (said : List ℕ) → AllByRecursion IsPage pages → LogsOn mark pages rest outcomes said → Plain said
logs_on_plain Go pages rest outcomes said h k = sends_plain pages rest outcomes said h k
logs_on_plain Id pages rest outcomes said h k = subst Plain (sym k.1) refl
logs_on_plain Ack pages rest outcomes said h k = subst Plain (sym k.1) refl
logs_on_plain Nak pages rest outcomes said h k = subst Plain (sym k.1) refl
logs_on_plain Rs pages rest outcomes said h k = subst Plain (sym k.1) refl
logs_on_plain End pages rest outcomes said h k = subst Plain (sym k.1) refl

-- all that a client says
pub said_plain : (mine : Option (List ℕ)) (pages : List PageToSend) (marks : List Mark) (outcomes : List Outcome) (said : List ℕ) → IsPassword mine → AllByRecursion IsPage pages → Client mine pages marks outcomes said
    → characters said ≡ said
said_plain mine pages marks outcomes said h k (silent s) = subst Plain (sym s.said_is) refl
said_plain mine pages marks outcomes said h k (turned_away s) = subst Plain (sym s.said_is) refl
said_plain mine pages marks outcomes said h k (still_calling s) = subst Plain (sym s.said_is) (joined_plain (cr ∷ []) (logons mine s.since) refl (logons_plain mine s.since h))
said_plain mine pages marks outcomes said h k (answered s) =
    subst Plain (sym s.said_is) (joined_plain (cr ∷ []) (logons mine s.since ++ s.more) refl (joined_plain (logons mine s.since) s.more (logons_plain mine s.since h) (logs_on_plain s.mark pages s.rest outcomes s.more k s.logs_on)))
