-- What a group stands for that hears transmissions twice.
use Rattle.std.specs.Prelude.{◌≡◌, ℕ, suc, ◌%◌, min, Bool, true, false, not, cond, List, [], ◌∷◌, ◌++◌, length, map, take, Option, Some, None}
use Rattle.std.specs.List.{slice_get}
use Rattle.codeword.specs.declared.kinds.WordKind.{WordKind}
use Rattle.codeword.specs.Kinds.{kind_of}
use Rattle.receiver.specs.Slots.{stretch_slots}
use Rattle.receiver.specs.Heard.{HeardPage}
use Rattle.receiver.specs.UnderWay.{open_from}
use Rattle.receiver.specs.Fronts.{FrontEnd, FrontIsAt}
use Rattle.receiver.specs.Listeners.{Gathered, is_one_of}
use Rattle.receiver.specs.declared.front.FrontEvent.{FrontEvent}
use Rattle.receiver.specs.declared.front.FrontEvent.TheVariants.{Still, Batch, Slot, Lost}
use Rattle.repeats.specs.Twin.{held_slots, twin, says}

-- the first of two meanings that is there
abbrev pub first_kind : Option WordKind → Option WordKind → Option WordKind
first_kind None other = other
first_kind (Some kind) other = Some kind

-- what a slot of a twin stretch says, by the word of the first stretch, if there is one, and the word of the second
abbrev pub twin_kind : Option ℕ → ℕ → Option WordKind
twin_kind None second = kind_of second
twin_kind (Some first) second = first_kind (kind_of first) (kind_of second)

-- Whether a second stretch is under way or awaited, the words held of the first, and how many of these have their partner.
pub record Paired : Type 0 where
  pub second : Bool
  pub held : List ℕ
  pub slot : ℕ

-- a pairing, of its parts
abbrev pub paired_of : Bool → List ℕ → ℕ → Paired
paired_of second held slot = record { second = second; held = held; slot = slot }

-- at the loss of a lock the other stretch is awaited
abbrev pub after_lost : Paired → Paired
after_lost paired = paired_of (not paired.second) (cond paired.second [] paired.held) 0

-- the word of a slot of a first stretch is held, if there is room
abbrev pub after_first : Paired → ℕ → Paired
after_first paired word = paired_of paired.second (take held_slots (paired.held ++ word ∷ [])) paired.slot

-- and one of a second has its partner
abbrev pub after_second : Paired → Paired
after_second paired = paired_of paired.second paired.held (min (suc paired.slot) (length paired.held))

-- The word of a slot: one of a first stretch is held, and no slot of a twin stretch comes. For one of a second the twin stretch has a
-- slot with a word that says what the twin slot says.
abbrev pub JoinsSlot : Bool → Paired → ℕ → ℕ → FrontEvent → Paired → Type 0
JoinsSlot false old place word joined new = (joined ≡ Still) × (new ≡ after_first old word)
JoinsSlot true old place word joined new =
    (chosen : ℕ) × (joined ≡ Slot place chosen) × (kind_of chosen ≡ twin_kind (slice_get old.held old.slot) word) × (new ≡ after_second old)

-- what a pairing makes of an event: the event in the twin stretch
abbrev pub JoinsEvent : Paired → FrontEvent → FrontEvent → Paired → Type 0
JoinsEvent old Still joined new = (joined ≡ Still) × (new ≡ old)
JoinsEvent old Batch joined new = (joined ≡ Batch) × (new ≡ old)
JoinsEvent old (Slot place word) joined new = JoinsSlot old.second old place word joined new
JoinsEvent old Lost joined new = (joined ≡ Lost) × (new ≡ after_lost old)

-- the slots of a lock, if there is one
abbrev pub slots_so_far : Option (List ℕ) → List ℕ
slots_so_far None = []
slots_so_far (Some words) = stretch_slots words

-- the page under way in a twin stretch
abbrev pub twin_under_way : (ℕ → Bool) → List ℕ → List ℕ → Option HeardPage
twin_under_way listens firsts seconds = open_from listens 0 (map says (twin firsts seconds))

-- a first stretch is under way or awaited
pub record InFirst (paired : Paired) (page : Option HeardPage) (before : List (List ℕ)) (words : Option (List ℕ)) : Type 0 where
  pub even : length before % 2 ≡ 0
  pub held-is : paired.held ≡ take held_slots (slots_so_far words)
  pub none : page ≡ None

-- a second stretch is under way or awaited
pub record InSecond (listens : ℕ → Bool) (paired : Paired) (page : Option HeardPage) (before : List (List ℕ)) (words : Option (List ℕ)) : Type 0 where
  pub pairs : List (List ℕ)
  pub first : List ℕ
  pub parts : before ≡ pairs ++ first ∷ []
  pub even : length pairs % 2 ≡ 0
  pub held-is : paired.held ≡ take held_slots (stretch_slots first)
  pub slot-is : paired.slot ≡ min (length (slots_so_far words)) (length paired.held)
  pub page-is : page ≡ twin_under_way listens paired.held (slots_so_far words)

-- a first or a second stretch is under way or awaited
abbrev pub InEither : Bool → (ℕ → Bool) → Paired → Option HeardPage → List (List ℕ) → Option (List ℕ) → Type 0
InEither false listens paired page before words = InFirst paired page before words
InEither true listens paired page before words = InSecond listens paired page before words

-- A front end, the capcodes that are listened to, each capcode with the set of its receivers' numbers, the pairing, the page under way,
-- and the page that the last bit completed.
pub record TwinListener : Type 0 where
  pub front : FrontEnd
  pub capcodes : List ℕ
  pub holders : List (ℕ × ℕ)
  pub paired : Paired
  pub under_way : Option HeardPage
  pub ready : Option HeardPage

-- a listener to transmissions that are sent twice, of its parts
abbrev pub twin_listener_of : FrontEnd → List ℕ → List (ℕ × ℕ) → Paired → Gathered → TwinListener
twin_listener_of front capcodes holders paired gathered =
    record { front = front; capcodes = capcodes; holders = holders; paired = paired; under_way = gathered.under_way; ready = gathered.ready }

-- the group was fed these bits
pub record StandsForTwice (listener : TwinListener) (bits : List Bool) : Type 0 where
  pub before : List (List ℕ)
  pub words : Option (List ℕ)
  pub at : FrontIsAt listener.front bits before words
  pub pairing : InEither listener.paired.second (is_one_of listener.capcodes) listener.paired listener.under_way before words
