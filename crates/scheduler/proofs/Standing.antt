-- What callers join: where a transmission stands, and how many slots it has.
use Rattle.std.proofs.Common.{◌≡◌, ◌≢◌, ℕ, ◌+◌, ◌*◌, ◌≤◌, ◌<◌, List, [], ◌∷◌, ◌++◌, length, map, drop, refl, sym, ◌∙◌, ap, arith, append_assoc, length-drop, inl, inr}
use Rattle.std.specs.List.{sum_by}
use Rattle.std.proofs.lemmas.List.{length-map, take-append-drop}
use Rattle.std.proofs.lemmas.List.Sums.{sum_by-cons}
use Rattle.page_text.specs.declared.limits.TheConstants.{MOST_GROUPS}
use Rattle.page_text.specs.Fits.{Fits}
use Rattle.page_text.specs.Page.{Page}
use Rattle.page_text.proofs.Back.{length-groups}
use Rattle.page_pool.specs.Pool.{Live, Pool, Sound, in_use}
use Rattle.page_pool.specs.Pool.{pages as live_pages}
use Rattle.scheduler.specs.Slots.{run}
use Rattle.scheduler.specs.Said.{word_in, messages, run_slots, slots_of_pieces, AreSlots}
use Rattle.scheduler.specs.Sendings.{first_of, pieces_behind, pieces_to_come, begun, slots_to_come, HasRun, SendingStandsAt, HeldPages}
use Rattle.scheduler.specs.declared.slots.Slot.{Slot}
use Rattle.scheduler.specs.declared.slots.Slot.TheVariants.{Address}
use Rattle.scheduler.specs.declared.sendings.Before.{Before}
use Rattle.scheduler.specs.declared.sendings.Before.TheVariants.{Idle, RunEnd, InRun}
use Rattle.scheduler.proofs.Cases.{length-run}
use Rattle.scheduler.proofs.Given.{length-messages}
use Rattle.scheduler.proofs.Giving.{begun-append}
use Rattle.scheduler.proofs.Said.{slots_in-append, map-slots_in, slots_schedule}
use Rattle.scheduler.proofs.Schedules.{few_slots}

-- what was given, and what is still to come, are the slots of a transmission
pub slots-stands : (accepted : List Page) (given : List Slot) (w : Pool) (place : ℕ) (last : Before) → SendingStandsAt accepted given w place last
    → AreSlots accepted (given ++ slots_to_come w place last)
slots-stands accepted given w place last s = record {
  pieces = s.before ++ pieces_to_come w place last;
  layout = s.layout;
  slots_are = ap (λ l. l ++ slots_to_come w place last) s.given_is ∙ append_assoc (slots_of_pieces s.before) (begun w last) (slots_to_come w place last)
      ∙ ap (λ l. slots_of_pieces s.before ++ l) (begun-append w place last) ∙ sym (slots_in-append s.before (pieces_to_come w place last));
}

-- what the pool holds are the accepted pages without those whose runs were given whole
pub held-stands : (accepted : List Page) (given : List Slot) (w : Pool) (place : ℕ) (last : Before) (text : List ℕ) → HasRun w last text
    → SendingStandsAt accepted given w place last → HeldPages accepted given (live_pages w)
unfolding run_slots
held-stands accepted given w place (InRun f k) text u s =
    let page : Page = first_of f w in
    let more : k < length (messages page) = (u f k refl).more in
    record {
      before = s.before;
      next = pieces_to_come w place (InRun f k);
      part = begun w (InRun f k);
      layout = s.layout;
      given_is = s.given_is;
      in_part = inr (
        page,
        pieces_behind w place f k,
        drop k (messages page),
        refl,
        ap (λ l. Address page.capcode page.function ∷ l) (sym (take-append-drop k (messages page))),
        λ e. absurd (omega (arith, more, length-drop k (messages page), ap length {x = drop k (messages page)} e)),
      );
      held_are = s.held;
    }
held-stands accepted given w place Idle text u s = record {
  before = s.before;
  next = pieces_to_come w place Idle;
  part = [];
  layout = s.layout;
  given_is = s.given_is;
  in_part = inl refl;
  held_are = s.held;
}
held-stands accepted given w place RunEnd text u s = record {
  before = s.before;
  next = pieces_to_come w place RunEnd;
  part = [];
  layout = s.layout;
  given_is = s.given_is;
  in_part = inl refl;
  held_are = s.held;
}

-- the slots of a transmission are whole batches
pub whole-slots : (accepted : List Page) (slots : List Slot) → AreSlots accepted slots → (b : ℕ) × (length slots ≡ 16 * b)
whole-slots accepted slots are =
    let b = are.layout.batches in
    (b.0, ap length are.slots_are ∙ sym (length-map (slots_of_pieces are.pieces) word_in) ∙ ap length (map-slots_in are.pieces) ∙ b.1)

-- they are few
pub few-slots : (accepted : List Page) (slots : List Slot) → accepted ≢ [] → AreSlots accepted slots
    → length slots ≤ sum_by (λ page. length (run page)) accepted + 14 * length accepted + 16
few-slots accepted slots some are =
    let few = few_slots accepted (map word_in slots) some (slots_schedule accepted slots are) in omega (arith, few, length-map slots word_in)

-- a run has an address slot, and no more message slots than the most groups
run_short : (page : Page) → Fits page.function page.text → length (run page) ≤ 1 + MOST_GROUPS
run_short page fits = omega (arith, length-run page, length-messages page, length-groups page.function page.text fits)

-- the runs of all live pages
pub runs-live : (w : Pool) → Sound w → sum_by (λ page. length (run page)) (live_pages w) ≤ (1 + MOST_GROUPS) * length w.live
runs-live w sound = all [] w.live refl
  where
    all : (b es : List Live) → w.live ≡ b ++ es → sum_by (λ (page : Page). length (run page)) (map (λ (e : Live). e.page) es) ≤ (1 + MOST_GROUPS) * length es
    all b [] is = omega arith
    all b (e ∷ es) is =
        let fits : Fits e.page.function e.page.text = (sound.pages e.ticket e (record { before = b; after = es; is = is; ticket = refl })).fits in
        let rest = all (b ++ e ∷ []) es (is ∙ sym (append_assoc b (e ∷ []) es)) in
        omega (arith, rest, run_short e.page fits, sum_by-cons (λ (page : Page). length (run page)) e.page (map (λ (e : Live). e.page) es))

-- no more pages are live than there are cells
pub length-live : (w : Pool) → Sound w → length w.live ≤ 65536
length-live w sound = omega (arith, sound.most, each w.live)
  where
    each : (es : List Live) → length es ≤ in_use es
    each [] = omega arith
    each (e ∷ es) = omega (arith, each es)
