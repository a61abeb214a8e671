-- The slots of a transmission by what they say.
use Rattle.std.specs.Prelude.{◌≡◌, ℕ, ◌<◌, ◌^◌, List, [], ◌∷◌, ◌++◌, map}
use Rattle.codeword.specs.declared.words.TheConstants.{IDLE}
use Rattle.codeword.specs.Words.{address_of, message_of}
use Rattle.page_text.specs.Groups.{groups}
use Rattle.page_text.specs.Page.{Page}
use Rattle.scheduler.specs.Slots.{PlanPiece, Run, IsLayout}
use Rattle.scheduler.specs.Slots.{Idle as IdlePiece}
use Rattle.scheduler.specs.declared.slots.Slot.{Slot}
use Rattle.scheduler.specs.declared.slots.Slot.TheVariants.{Idle, Address, Message}

-- the word that stands in a slot
abbrev pub word_in : Slot → ℕ
word_in Idle = IDLE
word_in (Address capcode function) = address_of capcode function
word_in (Message group) = message_of group

-- the message slots of a page's run
abbrev pub messages : Page → List Slot
messages page = map Message (groups page.function page.text)

-- the slots of a page's run: its address, and then the groups of its text
unfoldable pub run_slots : Page → List Slot
run_slots page = Address page.capcode page.function ∷ messages page

-- the slots of pieces
abbrev pub slots_of_pieces : List PlanPiece → List Slot
slots_of_pieces [] = []
slots_of_pieces (IdlePiece ∷ rest) = Idle ∷ slots_of_pieces rest
slots_of_pieces (Run page ∷ rest) = run_slots page ++ slots_of_pieces rest

-- these are the slots of a transmission of the accepted pages, by what they say: their pieces meet the four conditions
pub record AreSlots (accepted : List Page) (slots : List Slot) : Type 0 where
  pub pieces : List PlanPiece
  pub layout : IsLayout accepted pieces
  pub slots_are : slots ≡ slots_of_pieces pieces

-- a group of a message slot has 20 bits
abbrev pub HasGroup : Slot → Type 0
HasGroup Idle = Unit {0}
HasGroup (Address capcode function) = Unit {0}
HasGroup (Message group) = group < 2 ^ 20

-- at the slot of a run one head of a page is looked at, and at an idle slot none
abbrev pub heads_in : Slot → ℕ
heads_in Idle = 0
heads_in (Address capcode function) = 1
heads_in (Message group) = 1
