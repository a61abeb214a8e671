-- How far a transmission has come.
use Rattle.std.specs.Prelude.{◌≡◌, ◌≢◌, ◌⊎◌, ◌+◌, ◌<◌, ◌≤◌, ℕ, true, false, List, [], ◌∷◌, ◌++◌, length, drop, take, Some}
use Rattle.std.specs.List.{filter, find}
use Rattle.std.specs.Option.{option_map}
use Rattle.codeword.specs.declared.batches.TheConstants.{SLOTS}
use Rattle.codeword.specs.declared.functions.Function.TheVariants.{Numeric}
use Rattle.page_text.specs.declared.limits.TheConstants.{LONGEST_TEXT}
use Rattle.page_text.specs.Page.{Page}
use Rattle.page_pool.specs.Pool.{Live, Pool, cells}
use Rattle.page_pool.specs.Pool.{pages as live_pages, live_in_frame as is_live_in}
use Rattle.scheduler.specs.Slots.{PlanPiece, Run, in_frame, pages_in_order, IsLayout}
use Rattle.scheduler.specs.Plan.{without_first, pieces_from, still}
use Rattle.scheduler.specs.Said.{messages, run_slots, slots_of_pieces, HasGroup}
use Rattle.scheduler.specs.declared.slots.Slot.{Slot}
use Rattle.scheduler.specs.declared.slots.Slot.TheVariants.{Address}
use Rattle.scheduler.specs.declared.sendings.Before.{Before}
use Rattle.scheduler.specs.declared.sendings.Before.TheVariants.{Idle, RunEnd, InRun}
use Rattle.scheduler.specs.declared.sendings.Sending.{Sending}

-- the first of some pages
abbrev first_or_none : List Page → Page
first_or_none [] = record { capcode = 0; function = Numeric; text = [] }
first_or_none (page ∷ more) = page

-- the first page of a frame
abbrev pub first_of : ℕ → Pool → Page
first_of f w = first_or_none (filter (in_frame f) (live_pages w))

-- the message slots of a page from one of them on
abbrev pub messages_from : Page → ℕ → List Slot
messages_from page k = drop k (messages page)

-- the pieces that are still to come from a place on, after the run under way
abbrev pub pieces_behind : Pool → ℕ → ℕ → ℕ → List PlanPiece
pieces_behind w place f k = pieces_from (place + length (messages_from (first_of f w) k)) (without_first f (live_pages w)) false

-- the pieces that are still to come, the run under way first
abbrev pub pieces_to_come : Pool → ℕ → Before → List PlanPiece
pieces_to_come w place Idle = pieces_from place (live_pages w) true
pieces_to_come w place RunEnd = pieces_from place (live_pages w) false
pieces_to_come w place (InRun f k) = Run (first_of f w) ∷ pieces_behind w place f k

-- the slots of the run under way that were given
abbrev pub begun : Pool → Before → List Slot
begun w Idle = []
begun w RunEnd = []
begun w (InRun f k) = Address (first_of f w).capcode (first_of f w).function ∷ take k (messages (first_of f w))

-- the slots that are still to come
abbrev pub slots_to_come : Pool → ℕ → Before → List Slot
slots_to_come w place Idle = slots_of_pieces (pieces_from place (live_pages w) true)
slots_to_come w place RunEnd = slots_of_pieces (pieces_from place (live_pages w) false)
slots_to_come w place (InRun f k) =
    messages_from (first_of f w) k ++ slots_of_pieces (pieces_behind w place f k)

-- no run is under way
abbrev pub IsBetween : Before → Type 0
IsBetween Idle = Unit {0}
IsBetween RunEnd = Unit {0}
IsBetween (InRun f k) = ⊥

-- the ticket is that of the first live page of the frame
abbrev pub IsFirst : Pool → ℕ → ℕ → Type 0
IsFirst w f t = Some t ≡ option_map (λ (e : Live). e.ticket) (find (is_live_in f) w.live)

-- the run of the frame's first page is under way, of which message slot k comes next, and this is its text
pub record IsInRun (w : Pool) (f k : ℕ) (text : List ℕ) : Type 0 where
  pub in_batch : f < 8
  pub waits : filter (in_frame f) (live_pages w) ≢ []
  pub text_is : text ≡ (first_of f w).text
  pub more : k < length (messages (first_of f w))

-- where a run is under way, it is the run of this text
abbrev pub HasRun : Pool → Before → List ℕ → Type 0
HasRun w last text = (f k : ℕ) → last ≡ InRun f k → IsInRun w f k text

-- the text of the run under way
abbrev pub text_under_way : Sending → List ℕ
text_under_way s = take s.length s.text

-- what holds between a transmission and its pool
pub record IsSendingOf (s : Sending) (w : Pool) : Type 0 where
  pub in_batch : s.place < SLOTS
  pub short : s.length ≤ LONGEST_TEXT
  pub in_run : HasRun w s.before (text_under_way s)

-- What was given of a transmission of the accepted pages, and which of them are held: whole pieces came before the run under way, and
-- what the pool holds are the accepted pages without those whose runs are whole.
pub record SendingStandsAt (accepted : List Page) (given : List Slot) (w : Pool) (place : ℕ) (last : Before) : Type 0 where
  pub before : List PlanPiece
  pub layout : IsLayout accepted (before ++ pieces_to_come w place last)
  pub given_is : given ≡ slots_of_pieces before ++ begun w last
  pub held : live_pages w ≡ still (pages_in_order before) accepted

-- These are the live pages of before without some of them, in their order: each that stays has its ticket and its places.
unfoldable pub AreLeft : List Live → List Live → Type 0
AreLeft [] new = new ≡ []
AreLeft (e ∷ old) new = AreLeft old new ⊎ ((rest : List Live) × (new ≡ e ∷ rest) × AreLeft old rest)

-- what stays of a pool while pages are taken out of it: its cells, what stands in them, and the pages that aren't taken
pub record KeepsPool (old new : Pool) : Type 0 where
  pub cells : cells new ≡ cells old
  pub region : new.region ≡ old.region
  pub left : AreLeft old.live new.live

-- a part of the run that comes next, or nothing
abbrev pub IsPart : List Slot → List PlanPiece → Type 0
IsPart part pieces = (part ≡ []) ⊎ ((page : Page) × (behind : List PlanPiece) × (rest : List Slot) × (pieces ≡ Run page ∷ behind)
    × (run_slots page ≡ part ++ rest) × (rest ≢ []))

-- These slots were given of a transmission of the accepted pages, and these pages are held: the accepted ones, in order, without
-- those whose runs are whole among the slots.
pub record HeldPages (accepted : List Page) (given : List Slot) (held : List Page) : Type 0 where
  pub before : List PlanPiece
  pub next : List PlanPiece
  pub part : List Slot
  pub layout : IsLayout accepted (before ++ next)
  pub given_is : given ≡ slots_of_pieces before ++ part
  pub in_part : IsPart part next
  pub held_are : held ≡ still (pages_in_order before) accepted

-- one slot was given
pub record GivesOneSlot (slot : Slot) (s : Sending) (w : Pool) (s' : Sending) (w' : Pool) : Type 0 where
  pub follows : IsSendingOf s' w'
  pub next : slots_to_come w s.place s.before ≡ slot ∷ slots_to_come w' s'.place s'.before
  pub group : HasGroup slot
  pub stands : (accepted : List Page) (given : List Slot) → SendingStandsAt accepted given w s.place s.before
      → SendingStandsAt accepted (given ++ slot ∷ []) w' s'.place s'.before
  pub keeps : KeepsPool w w'
