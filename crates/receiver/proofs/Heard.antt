-- What a event of a front end adds to what is heard.
use Rattle.std.proofs.Common.{◌≡◌, ℕ, ◌+◌, ◌*◌, ◌/◌, ◌%◌, ◌<◌, Bool, true, false, List, [], ◌∷◌, ◌++◌, length, length-append, flat_map, map, Option, Some, None, arith, refl, sym, ◌∙◌, ap, ap₂, append_assoc, append-nil, zero-add, eq-eqb, ne_eqb}
use Rattle.std.proofs.lemmas.List.{map-append, length-map}
use Rattle.bits.proofs.Bytes.{flat_map-append}
use Rattle.codeword.specs.declared.kinds.WordKind.{WordKind}
use Rattle.codeword.specs.declared.kinds.WordKind.TheVariants.{Address, Message}
use Rattle.codeword.specs.Kinds.{kind_of}
use Rattle.receiver.specs.Stretches.{is_sync_place}
use Rattle.receiver.specs.Slots.{TableEntry, Batch as BatchEntry, entry_with, slots_from, stretch_slots, entries_from, stretch_entries}
use Rattle.receiver.specs.Heard.{HeardPage, pages_from, kinds_in, stretch_pages}
use Rattle.receiver.specs.UnderWay.{open_from, open_if, open_after, completed}
use Rattle.receiver.specs.Fronts.{FrontEnd, FrontIsAt, FrontStandsFor, HasUnderWay, page_under_way}
use Rattle.receiver.specs.declared.front.FrontEvent.{FrontEvent}
use Rattle.receiver.specs.declared.front.FrontEvent.TheVariants.{Still, Batch, Slot, Lost}
use Rattle.receiver.specs.FrontSteps.{table_entry_of, page_after, completed_by, slots_by, Shows, HearsPage, HasSyncWord, FrontMoves, FrontGoesOn}
use Rattle.receiver.proofs.Slots.{slots_of-push, entries_from-push, slot_place}
use Rattle.receiver.proofs.Pages.{pages_from-push, open_from-push}
use Rattle.receiver.proofs.Fronts.{so_far, front_stretches}

-- ---- what an event adds to a list that is made of the stretches one by one

-- how this list of a stretch grows by an event
abbrev Adds : {X : Type 0} → (List ℕ → List X) → FrontEvent → Option (List ℕ) → List X → Type 0
Adds f Still words more = more ≡ []
Adds f Batch None more = f [] ≡ more
Adds f Batch (Some words) more = (word : ℕ) → length words % 17 ≡ 16 → f (words ++ word ∷ []) ≡ f words ++ more
Adds f (Slot place word) words more =
    (lock_words : List ℕ) → words ≡ Some lock_words → length lock_words % 17 ≡ place → place < 16 → f (lock_words ++ word ∷ []) ≡ f lock_words ++ more
Adds f Lost words more = more ≡ []

one_stretch : {X : Type 0} (f : List ℕ → List X) (before : List (List ℕ)) (words : List ℕ) → flat_map f (before ++ words ∷ []) ≡ flat_map f before ++ f words
one_stretch f before words = flat_map-append f before (words ∷ []) ∙ ap (λ xs. flat_map f before ++ xs) (append-nil (f words))

longer_stretch : {X : Type 0} (f : List ℕ → List X) (before : List (List ℕ)) (words after : List ℕ) (more : List X) → f after ≡ f words ++ more
    → flat_map f (before ++ after ∷ []) ≡ flat_map f (before ++ words ∷ []) ++ more
longer_stretch f before words after more h =
    one_stretch f before after ∙ ap (λ xs. flat_map f before ++ xs) h ∙ sym (append_assoc (flat_map f before) (f words) more)
    ∙ ap (λ xs. xs ++ more) (sym (one_stretch f before words))

moves_add : {X : Type 0} (f : List ℕ → List X) (event : FrontEvent) (before : List (List ℕ)) (words : Option (List ℕ)) (before_after : List (List ℕ)) (words_after : Option (List ℕ)) (more : List X)
    → FrontMoves event before words before_after words_after → Adds f event words more
    → flat_map f (so_far before_after words_after) ≡ flat_map f (so_far before words) ++ more
moves_add f Still before words b2 w2 more m a =
    ap₂ (λ x y. flat_map f (so_far x y)) m.0 m.1 ∙ sym (append-nil (flat_map f (so_far before words))) ∙ ap (λ xs. flat_map f (so_far before words) ++ xs) (sym a)
moves_add f Batch before None b2 w2 more m a =
    ap₂ (λ x y. flat_map f (so_far x y)) m.0 m.1 ∙ one_stretch f before [] ∙ ap (λ xs. flat_map f before ++ xs) a
moves_add f Batch before (Some words) b2 w2 more m a =
    ap₂ (λ x y. flat_map f (so_far x y)) m.0 m.1.1 ∙ longer_stretch f before words (words ++ m.1.0 ∷ []) more (a m.1.0 m.1.2)
moves_add f (Slot place word) before words b2 w2 more m a =
    ap₂ (λ x y. flat_map f (so_far x y)) m.0 m.3 ∙ longer_stretch f before m.1 (m.1 ++ word ∷ []) more (a m.1 m.2 m.4 m.5)
    ∙ ap (λ y. flat_map f (so_far before y) ++ more) (sym m.2)
moves_add f Lost before words b2 w2 more m a =
    ap₂ (λ x y. flat_map f (so_far x y)) m.2 m.3 ∙ ap (λ y. flat_map f (so_far before y)) (sym m.1)
    ∙ sym (append-nil (flat_map f (so_far before words))) ∙ ap (λ xs. flat_map f (so_far before words) ++ xs) (sym a)

-- ---- places

at_sync : (words : List ℕ) → length words % 17 ≡ 16 → is_sync_place (length words) ≡ true
at_sync words h = eq-eqb (length words % 17) 16 h

at_slot : (words : List ℕ) (place : ℕ) → length words % 17 ≡ place → place < 16 → is_sync_place (length words) ≡ false
at_slot words place h p = ne_eqb (length words % 17) 16 (λ e. omega arith)

-- ---- the table

entry_more : (words : List ℕ) (word : ℕ) (at : Bool) (place : ℕ) → is_sync_place (length words) ≡ at → length words % 17 ≡ place
    → stretch_entries (words ++ word ∷ []) ≡ stretch_entries words ++ entry_with at place word ∷ []
entry_more words word at place h p =
    ap (λ (xs : List TableEntry). BatchEntry ∷ xs)
    (entries_from-push 0 words word
    ∙ ap (λ (n : ℕ). entries_from 0 words ++ entry_with (is_sync_place n) (n % 17) word ∷ []) (zero-add (length words))
    ∙ ap₂ (λ (x : Bool) (y : ℕ). entries_from 0 words ++ entry_with x y word ∷ []) h p)

adds_entry : (event : FrontEvent) (words : Option (List ℕ)) → Adds stretch_entries event words (table_entry_of event)
unfolding entries_from
adds_entry Still words = refl
adds_entry Batch None = refl
adds_entry Batch (Some words) = λ word p. entry_more words word true 16 (at_sync words p) p
adds_entry (Slot place word) words = λ lock_words is p q. entry_more lock_words word false place (at_slot lock_words place p q) p
adds_entry Lost words = refl

-- ---- the slots

abbrev slot_of : FrontEvent → List ℕ
slot_of Still = []
slot_of Batch = []
slot_of (Slot place word) = word ∷ []
slot_of Lost = []

adds_slot : (event : FrontEvent) (words : Option (List ℕ)) → Adds stretch_slots event words (slot_of event)
unfolding slots_from
adds_slot Still words = refl
adds_slot Batch None = refl
adds_slot Batch (Some words) = λ word p. slots_of-push words word true (at_sync words p)
adds_slot (Slot place word) words = λ lock_words is p q. slots_of-push lock_words word false (at_slot lock_words place p q)
adds_slot Lost words = refl

length-slot_of : (event : FrontEvent) → length (slot_of event) ≡ slots_by event
length-slot_of Still = refl
length-slot_of Batch = refl
length-slot_of (Slot place word) = refl
length-slot_of Lost = refl

-- ---- the pages

-- a word at a sync place says nothing more, and one in a slot what it says
pub said_sync : (words : List ℕ) (word : ℕ) → length words % 17 ≡ 16 → kinds_in (words ++ word ∷ []) ≡ kinds_in words
said_sync words word p = ap (map kind_of) (slots_of-push words word true (at_sync words p) ∙ append-nil (stretch_slots words))

pub said_slot : (words : List ℕ) (word place : ℕ) → length words % 17 ≡ place → place < 16 → kinds_in (words ++ word ∷ []) ≡ kinds_in words ++ kind_of word ∷ []
said_slot words word place p q = ap (map kind_of) (slots_of-push words word false (at_slot words place p q)) ∙ map-append kind_of (stretch_slots words) (word ∷ [])

adds_page : (listens : ℕ → Bool) (page : Option HeardPage) (event : FrontEvent) (words : Option (List ℕ)) → page ≡ page_under_way listens words
    → Adds (stretch_pages listens) event words (completed_by page event)
unfolding slots_from pages_from
adds_page listens page Still words h = refl
adds_page listens page Batch None h = refl
adds_page listens page Batch (Some words) h = λ word p.
    ap (pages_from listens 0) (said_sync words word p) ∙ sym (append-nil (stretch_pages listens words))
adds_page listens page (Slot place word) words h = λ lock_words is p q.
    ap (pages_from listens 0) (said_slot lock_words word place p q) ∙ pages_from-push listens 0 (kinds_in lock_words) (kind_of word)
    ∙ ap (λ (o : Option HeardPage). stretch_pages listens lock_words ++ completed o (kind_of word)) (sym (h ∙ ap (page_under_way listens) is))
adds_page listens page Lost words h = refl

-- the frame is all that counts of a place
pub open_after-place : (listens : ℕ → Bool) (p q : ℕ) (page : Option HeardPage) (k : Option WordKind) → p % 16 ≡ q % 16 → open_after listens p page k ≡ open_after listens q page k
open_after-place listens p q page None h = refl
open_after-place listens p q page (Some (Address high f)) h = ap (λ (n : ℕ). open_if (listens (8 * high + n / 2)) (8 * high + n / 2) f []) h
open_after-place listens p q None (Some (Message g)) h = refl
open_after-place listens p q (Some page) (Some (Message g)) h = refl

begun : (listens : ℕ → Bool) (page : Option HeardPage) (words words_after : Option (List ℕ)) → page ≡ page_under_way listens words
    → HasSyncWord words words_after → page ≡ page_under_way listens words_after
unfolding slots_from open_from
begun listens page None after h b = h ∙ ap (page_under_way listens) (sym b)
begun listens page (Some words) after h b =
    h ∙ ap (open_from listens 0) (sym (said_sync words b.0 b.2)) ∙ ap (page_under_way listens) (sym b.1)

moves_page : (listens : ℕ → Bool) (page : Option HeardPage) (event : FrontEvent) (before : List (List ℕ)) (words : Option (List ℕ)) (before_after : List (List ℕ)) (words_after : Option (List ℕ))
    → FrontMoves event before words before_after words_after → page ≡ page_under_way listens words → page_after listens page event ≡ page_under_way listens words_after
moves_page listens page Still before words b2 w2 m h = h ∙ ap (page_under_way listens) (sym m.1)
moves_page listens page Batch before words b2 w2 m h = begun listens page words w2 h m.1
moves_page listens page (Slot place word) before words b2 w2 m h =
    let kinds = kinds_in m.1 in
    let place16 : (0 + length kinds) % 16 ≡ place % 16 =
    ap (λ (n : ℕ). n % 16) (zero-add (length kinds) ∙ length-map (stretch_slots m.1) kind_of) ∙ slot_place m.1 (let p = m.4 in let q = m.5 in omega arith) ∙ (let p = m.4 in let q = m.5 in omega arith) in
    ap (λ (o : Option HeardPage). open_after listens place o (kind_of word)) (h ∙ ap (page_under_way listens) m.2)
    ∙ sym (open_after-place listens (0 + length kinds) place (open_from listens 0 kinds) (kind_of word) place16)
    ∙ sym (open_from-push listens 0 kinds (kind_of word))
    ∙ ap (open_from listens 0) (sym (said_slot m.1 word place m.4 m.5))
    ∙ ap (page_under_way listens) (sym m.3)
moves_page listens page Lost before words b2 w2 m h = ap (page_under_way listens) (sym m.3)

-- ---- each event

abbrev pub AlwaysGoesOn : FrontEnd → FrontEnd → FrontEvent → List Bool → List Bool → Type 0
AlwaysGoesOn front after event old bits = (before : List (List ℕ)) (words : Option (List ℕ)) → FrontIsAt front old before words → FrontGoesOn after event before words bits

pub shows : (front after : FrontEnd) (event : FrontEvent) (old bits : List Bool) → AlwaysGoesOn front after event old bits → FrontStandsFor front old → Shows after event old bits
shows front after event old bits goes s =
    let g = goes s.before s.words s.at in
    record {
      stands = record { before = g.before_after; words = g.words_after; at = g.at };
      table =
          ap (flat_map stretch_entries) (front_stretches after bits g.before_after g.words_after g.at)
          ∙ moves_add stretch_entries event s.before s.words g.before_after g.words_after (table_entry_of event) g.moves (adds_entry event s.words)
          ∙ ap (λ (xs : List (List ℕ)). flat_map stretch_entries xs ++ table_entry_of event) (sym (front_stretches front old s.before s.words s.at));
    }

pub hears : (front after : FrontEnd) (event : FrontEvent) (old bits : List Bool) → AlwaysGoesOn front after event old bits
    → (listens : ℕ → Bool) (page : Option HeardPage) → HasUnderWay listens front page old → HearsPage listens page after event old bits
hears front after event old bits goes listens page s =
    let g = goes s.before s.words s.at in
    let now = front_stretches after bits g.before_after g.words_after g.at in
    let was = sym (front_stretches front old s.before s.words s.at) in
    record {
      stands = record {
        before = g.before_after;
        words = g.words_after;
        at = g.at;
        page-is = moves_page listens page event s.before s.words g.before_after g.words_after g.moves s.page-is;
      };
      pages =
          ap (flat_map (stretch_pages listens)) now
          ∙ moves_add (stretch_pages listens) event s.before s.words g.before_after g.words_after (completed_by page event) g.moves (adds_page listens page event s.words s.page-is)
          ∙ ap (λ (xs : List (List ℕ)). flat_map (stretch_pages listens) xs ++ completed_by page event) was;
      slots =
          ap (λ (xs : List (List ℕ)). length (flat_map stretch_slots xs)) now
          ∙ ap length (moves_add stretch_slots event s.before s.words g.before_after g.words_after (slot_of event) g.moves (adds_slot event s.words))
          ∙ length-append (flat_map stretch_slots (so_far s.before s.words)) (slot_of event)
          ∙ ap₂ (λ (xs : List (List ℕ)) (n : ℕ). length (flat_map stretch_slots xs) + n) was (length-slot_of event);
    }
