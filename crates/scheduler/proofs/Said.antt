-- The slots of pieces, and their words.
use Rattle.std.proofs.Common.{◌≡◌, List, [], ◌∷◌, ◌++◌, length, map, refl, sym, ◌∙◌, ap, append_assoc}
use Rattle.std.proofs.lemmas.List.{map-append, length-map}
use Rattle.std.proofs.lemmas.Simd.{map-map}
use Rattle.codeword.specs.declared.words.TheConstants.{IDLE}
use Rattle.page_text.specs.Groups.{groups}
use Rattle.page_text.specs.Page.{Page}
use Rattle.scheduler.specs.Slots.{PlanPiece, Run, run, words, IsSchedule}
use Rattle.scheduler.specs.Slots.{Idle as IdlePiece}
use Rattle.scheduler.specs.Said.{word_in, run_slots, slots_of_pieces, AreSlots}
use Rattle.scheduler.specs.declared.slots.Slot.{Slot}
use Rattle.scheduler.specs.declared.slots.Slot.TheVariants.{Idle, Address}

-- the slots of pieces one after another
pub slots_in-append : (xs ys : List PlanPiece) → slots_of_pieces (xs ++ ys) ≡ slots_of_pieces xs ++ slots_of_pieces ys
slots_in-append [] ys = refl
slots_in-append (IdlePiece ∷ xs) ys = ap (λ rest. Idle ∷ rest) (slots_in-append xs ys)
slots_in-append (Run page ∷ xs) ys =
    ap (λ rest. run_slots page ++ rest) (slots_in-append xs ys) ∙ sym (append_assoc (run_slots page) (slots_of_pieces xs) (slots_of_pieces ys))

-- the words of a page's run
pub map-run_slots : (page : Page) → map word_in (run_slots page) ≡ run page
unfolding run_slots run
map-run_slots page = ap (λ rest. word_in (Address page.capcode page.function) ∷ rest) (map-map _ _ (groups page.function page.text))

-- how many slots a run has
pub length-run_slots : (page : Page) → length (run_slots page) ≡ length (run page)
length-run_slots page = sym (length-map (run_slots page) word_in) ∙ ap length (map-run_slots page)

-- the words of pieces
pub map-slots_in : (pieces : List PlanPiece) → map word_in (slots_of_pieces pieces) ≡ words pieces
map-slots_in [] = refl
map-slots_in (IdlePiece ∷ rest) = ap (λ rest. IDLE ∷ rest) (map-slots_in rest)
map-slots_in (Run page ∷ rest) =
    map-append word_in (run_slots page) (slots_of_pieces rest) ∙ ap (λ front. front ++ map word_in (slots_of_pieces rest)) (map-run_slots page)
    ∙ ap (λ rest. run page ++ rest) (map-slots_in rest)

-- the words of a transmission's slots are its schedule
pub slots_schedule : (accepted : List Page) (slots : List Slot) → AreSlots accepted slots → IsSchedule accepted (map word_in slots)
slots_schedule accepted slots are =
    record { pieces = are.pieces; layout = are.layout; slots_are = ap (map word_in) are.slots_are ∙ map-slots_in are.pieces }
