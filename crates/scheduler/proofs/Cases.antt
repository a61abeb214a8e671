-- What each kind of slot changes.
use Rattle.std.proofs.Common.{◌≡◌, ◌≢◌, ℕ, ◌+◌, ◌/◌, ◌%◌, ◌<◌, Bool, true, false, List, [], ◌∷◌, ◌++◌, length, take, get_or, refl, sym, ◌∙◌, ap, arith, add-one, length-drop, append-nil}
use Rattle.std.specs.List.{filter}
use Rattle.std.proofs.Math.Seq.{take-suc, take-length}
use Rattle.page_text.specs.Page.{Page}
use Rattle.page_pool.specs.Pool.{Pool}
use Rattle.page_pool.specs.Pool.{pages as live_pages}
use Rattle.codeword.specs.Capcodes.{frame_at}
use Rattle.scheduler.specs.Slots.{PlanPiece, Run, run, frame, in_frame}
use Rattle.scheduler.specs.Slots.{Idle as IdlePiece}
use Rattle.scheduler.specs.Plan.{without_first, pieces_from}
use Rattle.scheduler.specs.Said.{messages, run_slots, slots_of_pieces}
use Rattle.scheduler.specs.Sendings.{first_of, messages_from, pieces_to_come, begun, slots_to_come, IsBetween}
use Rattle.scheduler.specs.declared.slots.Slot.{Slot}
use Rattle.scheduler.specs.declared.slots.Slot.TheVariants.{Address}
use Rattle.scheduler.specs.declared.slots.Slot.TheVariants.{Idle as IdleSlot}
use Rattle.scheduler.specs.declared.sendings.Before.{Before}
use Rattle.scheduler.specs.declared.sendings.Before.TheVariants.{Idle, RunEnd, InRun}
use Rattle.scheduler.proofs.Rest.{pieces_from-wait, pieces_from-send, pieces_from-mod, slots_from-not_done}
use Rattle.scheduler.proofs.Said.{length-run_slots}
use Rattle.scheduler.proofs.Giving.{Ends, GoesOn}

-- the length of a run, by its message slots
pub length-run : (page : Page) → length (run page) ≡ 1 + length (messages page)
unfolding run_slots
length-run page = sym (length-run_slots page) ∙ omega arith

-- an idle piece comes where no page of the frame waits
idle : (w : Pool) (p r : ℕ) (was : Bool) → p < 16 → slots_of_pieces (pieces_from p (live_pages w) was) ≢ []
    → filter (in_frame (p / 2)) (live_pages w) ≡ [] → r % 16 ≡ (p + 1) % 16
    → pieces_from p (live_pages w) was ≡ IdlePiece ∷ pieces_from r (live_pages w) true
idle w p r was l h none m =
    let at : frame_at p ≡ p / 2 = omega (arith, l) in
    pieces_from-wait p r (live_pages w) was (ap (λ f. filter (in_frame f) (live_pages w)) at ∙ none) (slots_from-not_done p (live_pages w) was h) m

-- the run of the first page of the frame comes where one waits
sent : (w : Pool) (p r : ℕ) (was : Bool) (page : Page) (more : List Page) → p < 16
    → filter (in_frame (p / 2)) (live_pages w) ≡ page ∷ more → r % 16 ≡ (p + (1 + length (messages page))) % 16
    → pieces_from p (live_pages w) was ≡ Run page ∷ pieces_from r (without_first (p / 2) (live_pages w)) false
sent w p r was page more l first m =
    let at : frame_at p ≡ p / 2 = omega (arith, l) in
    let n : r % 16 ≡ (p + length (run page)) % 16 = m ∙ ap (λ n. (p + n) % 16) (sym (length-run page)) in
    pieces_from-send p r (live_pages w) was page more (ap (λ f. filter (in_frame f) (live_pages w)) at ∙ first) n
    ∙ ap (λ f. Run page ∷ pieces_from r (without_first f (live_pages w)) false) at

-- an idle slot
pub idle_ends : (w : Pool) (p r : ℕ) (last : Before) → IsBetween last → p < 16 → slots_to_come w p last ≢ []
    → filter (in_frame (p / 2)) (live_pages w) ≡ [] → r % 16 ≡ (p + 1) % 16 → Ends IdleSlot IdlePiece w p last w r Idle
idle_ends w p r Idle b l h none m = record { pieces = idle w p r true l h none m; given = refl; none = refl; held = refl }
idle_ends w p r RunEnd b l h none m = record { pieces = idle w p r false l h none m; given = refl; none = refl; held = refl }
idle_ends w p r (InRun f k) b l h none m = absurd b

-- the pieces of a transmission without a run under way
pieces_between : (w : Pool) (p : ℕ) (last : Before) (pieces : List PlanPiece) → IsBetween last
    → ((was : Bool) → pieces_from p (live_pages w) was ≡ pieces) → pieces_to_come w p last ≡ pieces
pieces_between w p Idle pieces b h = h true
pieces_between w p RunEnd pieces b h = h false
pieces_between w p (InRun f k) pieces b h = absurd b

-- nothing was given of a run
begun_between : (w : Pool) (last : Before) → IsBetween last → begun w last ≡ []
begun_between w Idle b = refl
begun_between w RunEnd b = refl
begun_between w (InRun f k) b = absurd b

-- no slot follows the address
no_messages : (page : Page) → length (messages page) ≡ 0 → run_slots page ≡ Address page.capcode page.function ∷ []
unfolding run_slots
no_messages page e = ap (λ l. Address page.capcode page.function ∷ l) (none (messages page) e)
  where
    none : (l : List Slot) → length l ≡ 0 → l ≡ []
    none [] e = refl
    none (x ∷ l) e = absurd (omega (arith, e))

-- the address slot of a page without message slots
pub address_ends : (w w' : Pool) (p r : ℕ) (last : Before) (page : Page) (more : List Page) → IsBetween last → p < 16
    → filter (in_frame (p / 2)) (live_pages w) ≡ page ∷ more → frame page ≡ p / 2 → length (messages page) ≡ 0
    → live_pages w' ≡ without_first (p / 2) (live_pages w) → r % 16 ≡ (p + 1) % 16
    → Ends (Address page.capcode page.function) (Run page) w p last w' r RunEnd
address_ends w w' p r last page more b l first own e taken m = record {
  pieces = pieces_between w p last _ b (λ was. sent w p r was page more l first (omega (arith, m, e))
      ∙ ap (λ ws. Run page ∷ pieces_from r ws false) (sym taken));
  given = ap (λ l. l ++ Address page.capcode page.function ∷ []) (begun_between w last b) ∙ sym (no_messages page e)
      ∙ sym (append-nil (run_slots page));
  none = refl;
  held = taken ∙ ap (λ f. without_first f (live_pages w)) (sym own);
}

-- the address slot of a page with message slots
pub address_goes_on : (w : Pool) (p r : ℕ) (last : Before) (page : Page) (more : List Page) → IsBetween last → p < 16
    → filter (in_frame (p / 2)) (live_pages w) ≡ page ∷ more → first_of (p / 2) w ≡ page → r % 16 ≡ (p + 1) % 16
    → GoesOn (Address page.capcode page.function) w p last w r (InRun (p / 2) 0)
address_goes_on w p r last page more b l first is m =
    let n : (r + length (messages page)) % 16 ≡ (p + (1 + length (messages page))) % 16 = omega (arith, m) in
    record {
      pieces = pieces_between w p last _ b (λ was. sent w p (r + length (messages page)) was page more l first n
          ∙ ap (λ q. Run q ∷ pieces_from (r + length (messages q)) (without_first (p / 2) (live_pages w)) false) (sym is));
      given = ap (λ l. l ++ Address page.capcode page.function ∷ []) (begun_between w last b)
          ∙ ap (λ (q : Page). Address q.capcode q.function ∷ []) (sym is);
      held = refl;
    }

-- one message slot more
one_more : (page : Page) (k : ℕ) (slot : Slot) → k < length (messages page) → get_or (messages page) k slot ≡ slot
    → take k (messages page) ++ slot ∷ [] ≡ take (k + 1) (messages page)
one_more page k slot l e = let u : take (k + 1) (messages page) ≡ take k (messages page) ++ get_or (messages page) k slot ∷ [] = rw add-one (take-suc (messages page) k slot l) in
    sym (u ∙ ap (λ x. take k (messages page) ++ x ∷ []) e)

-- a message slot of the run under way, with others behind it
pub message_goes_on : (w : Pool) (p r f k : ℕ) (slot : Slot) → k < length (messages (first_of f w))
    → get_or (messages (first_of f w)) k slot ≡ slot → r % 16 ≡ (p + 1) % 16
    → GoesOn slot w p (InRun f k) w r (InRun f (k + 1))
message_goes_on w p r f k slot l e m =
    let page : Page = first_of f w in
    let n : (p + length (messages_from page k)) % 16 ≡ (r + length (messages_from page (k + 1))) % 16 =
    omega (arith, m, l, length-drop k (messages page), length-drop (k + 1) (messages page)) in
    record {
      pieces = ap (λ pieces. Run page ∷ pieces) (pieces_from-mod _ _ (without_first f (live_pages w)) false n);
      given = ap (λ l. Address page.capcode page.function ∷ l) (one_more page k slot l e);
      held = refl;
    }

-- the last message slot of the run under way
pub message_ends : (w w' : Pool) (p r f k : ℕ) (slot : Slot) → k + 1 ≡ length (messages (first_of f w))
    → get_or (messages (first_of f w)) k slot ≡ slot → frame (first_of f w) ≡ f
    → live_pages w' ≡ without_first f (live_pages w) → r % 16 ≡ (p + 1) % 16
    → Ends slot (Run (first_of f w)) w p (InRun f k) w' r RunEnd
unfolding run_slots
message_ends w w' p r f k slot l e own taken m =
    let page : Page = first_of f w in
    let n : (p + length (messages_from page k)) % 16 ≡ r % 16 = omega (arith, m, l, length-drop k (messages page)) in
    let all : take k (messages page) ++ slot ∷ [] ≡ messages page =
    one_more page k slot (omega (arith, l)) e ∙ ap (λ n. take n (messages page)) l ∙ take-length (messages page) in
    record {
      pieces = ap (λ pieces. Run page ∷ pieces) (pieces_from-mod _ _ (without_first f (live_pages w)) false n
          ∙ ap (λ ws. pieces_from r ws false) (sym taken));
      given = ap (λ l. Address page.capcode page.function ∷ l) (all ∙ sym (append-nil (messages page)));
      none = refl;
      held = taken ∙ ap (λ g. without_first g (live_pages w)) (sym own);
    }
