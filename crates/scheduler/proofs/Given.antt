-- One call for a slot, over plain values.
use Rattle.std.proofs.Common.{◌≡◌, ◌≢◌, ℕ, ◌+◌, ◌/◌, ◌%◌, ◌^◌, ◌≤◌, ◌<◌, List, [], ◌∷◌, ◌++◌, length, take, drop, map, get_or, Option, Some, None, refl, sym, ◌∙◌, ap, ap₂, subst, arith}
use Rattle.std.specs.Prelude.{slice_index}
use Rattle.std.specs.Option.{option_map, IsSome}
use Rattle.std.specs.List.{filter, find}
use Rattle.std.proofs.lemmas.List.{length-map, get_or-map}
use Rattle.std.proofs.Math.Seq.{take-append_seam}
use Rattle.codeword.specs.declared.functions.Function.{Function}
use Rattle.page_text.specs.declared.limits.TheConstants.{LONGEST_TEXT}
use Rattle.page_text.specs.Fits.{Fits}
use Rattle.page_text.specs.Groups.{groups, HasGroups}
use Rattle.page_text.specs.Page.{Page}
use Rattle.page_pool.specs.Pool.{Live, Pool, Names, TakesPage, Sound, IsLive}
use Rattle.page_pool.specs.Pool.{pages as live_pages, live_in_frame as is_live_in}
use Rattle.page_pool.proofs.Texts.{fits-short}
use Rattle.scheduler.specs.Slots.{PlanPiece, Run, frame, in_frame}
use Rattle.scheduler.specs.Slots.{Idle as IdlePiece}
use Rattle.scheduler.specs.Plan.{without_first}
use Rattle.scheduler.specs.Said.{messages, HasGroup}
use Rattle.scheduler.specs.Sendings.{first_of, slots_to_come, text_under_way, IsSendingOf, GivesOneSlot, IsBetween, IsFirst, IsInRun, KeepsPool}
use Rattle.scheduler.specs.declared.slots.Slot.{Slot}
use Rattle.scheduler.specs.declared.slots.Slot.TheVariants.{Address, Message}
use Rattle.scheduler.specs.declared.slots.Slot.TheVariants.{Idle as IdleSlot}
use Rattle.scheduler.specs.declared.sendings.Before.TheVariants.{Idle, RunEnd, InRun}
use Rattle.scheduler.specs.declared.sendings.Sending.{Sending}
use Rattle.scheduler.proofs.Live.{First, first-is, none-waits, pages-taken}
use Rattle.scheduler.proofs.Left.{keeps-same, keeps-taken}
use Rattle.scheduler.proofs.Giving.{Ends, GoesOn, next-on, next-end, stands-on, stands-end}
use Rattle.scheduler.proofs.Cases.{idle_ends, address_ends, address_goes_on, message_ends, message_goes_on}

-- a slot that goes on with a run
gives-on : (slot : Slot) (s : Sending) (w : Pool) (s' : Sending) (w' : Pool) → IsSendingOf s' w' → HasGroup slot → KeepsPool w w'
    → GoesOn slot w s.place s.before w' s'.place s'.before → GivesOneSlot slot s w s' w'
gives-on slot s w s' w' f h k g = record {
  follows = f;
  next = next-on slot w s.place s.before w' s'.place s'.before g;
  group = h;
  stands = stands-on slot w s.place s.before w' s'.place s'.before g;
  keeps = k;
}

-- a slot that ends a piece
gives-end : (slot : Slot) (piece : PlanPiece) (s : Sending) (w : Pool) (s' : Sending) (w' : Pool) → IsSendingOf s' w' → HasGroup slot → KeepsPool w w'
    → Ends slot piece w s.place s.before w' s'.place s'.before → GivesOneSlot slot s w s' w'
gives-end slot piece s w s' w' f h k g = record {
  follows = f;
  next = next-end slot w s.place s.before w' s'.place s'.before piece g;
  group = h;
  stands = stands-end slot w s.place s.before w' s'.place s'.before piece g;
  keeps = k;
}

-- no run is under way behind the idle word and behind a run
follows-idle : (s : Sending) (w : Pool) → s.place < 16 → s.length ≤ LONGEST_TEXT → s.before ≡ Idle → IsSendingOf s w
follows-idle s w l m e = record { in_batch = l; short = m; in_run = λ f k h. absurd (let x = sym e ∙ h in cc) }

follows-run_end : (s : Sending) (w : Pool) → s.place < 16 → s.length ≤ LONGEST_TEXT → s.before ≡ RunEnd → IsSendingOf s w
follows-run_end s w l m e = record { in_batch = l; short = m; in_run = λ f k h. absurd (let x = sym e ∙ h in cc) }

follows-in_run : (s : Sending) (w : Pool) (f k : ℕ) → s.place < 16 → s.length ≤ LONGEST_TEXT → s.before ≡ InRun f k → IsInRun w f k (text_under_way s) → IsSendingOf s w
follows-in_run s w f k l m e u = record {
  in_batch = l;
  short = m;
  in_run = λ g j h. (let x = sym e ∙ h in let a : f ≡ g = cc in let b : k ≡ j = cc in
      subst (λ n. IsInRun w g n (text_under_way s)) b (subst (λ n. IsInRun w n k (text_under_way s)) a u));
}

-- where pages of a frame wait, a ticket is answered
pub some-first : (w : Pool) (f : ℕ) (o : Option ℕ) → o ≡ option_map (λ (e : Live). e.ticket) (find (is_live_in f) w.live)
    → filter (in_frame f) (live_pages w) ≢ [] → IsSome o
some-first w f None e h = absurd (h (none-waits w f e))
some-first w f (Some t) e h = refl

-- the ticket is live
pub first-live : (w : Pool) (f t : ℕ) → IsFirst w f t → IsLive w t
first-live w f t h = let x = first-is w f t h in (x.entry, x.names)

-- an idle slot
pub gives-idle : (s s' : Sending) (w : Pool) (f : ℕ) → IsSendingOf s w → IsBetween s.before → slots_to_come w s.place s.before ≢ []
    → f ≡ s.place / 2 → None ≡ option_map (λ (e : Live). e.ticket) (find (is_live_in f) w.live)
    → s'.place ≡ (s.place + 1) % 16 → s'.length ≡ s.length → s'.before ≡ Idle → GivesOneSlot IdleSlot s w s' w
gives-idle s s' w f follows between more at none place kept is =
    gives-end IdleSlot IdlePiece s w s' w (follows-idle s' w (omega (arith, place)) (omega (arith, kept, follows.short)) is) tt (keeps-same w)
    (subst (Ends IdleSlot IdlePiece w s.place s.before w s'.place) (sym is)
    (idle_ends w s.place s'.place s.before between follows.in_batch more (ap (λ g. filter (in_frame g) (live_pages w)) (sym at) ∙ none-waits w f none) (omega (arith, place))))

-- so many message slots has a page
pub length-messages : (page : Page) → length (messages page) ≡ length (groups page.function page.text)
length-messages page = length-map (groups page.function page.text) Message

module _ (w : Pool) (f t : ℕ) (function : Function) (sound : Sound w) (h : IsFirst w f t)
    (function_is : (e : Live) → Names w t e → function ≡ e.page.function) where
  -- its function is that of the frame's first page
  own_function : function ≡ (first_of f w).function
  own_function = let x = first-is w f t h in function_is x.entry x.names ∙ ap (λ (p : Page). p.function) (sym x.is)

  -- its text fits
  pub own_fits : (text : List ℕ) → text ≡ (first_of f w).text → Fits function text
  own_fits text e =
      let x = first-is w f t h in
      let y : text ≡ x.entry.page.text = e ∙ ap (λ (p : Page). p.text) x.is in
      subst (λ (g : Function). Fits g text) (sym (function_is x.entry x.names)) (subst (Fits x.entry.page.function) (sym y) (sound.pages t x.entry x.names).fits)

  -- so many groups
  pub own_groups : (text : List ℕ) → text ≡ (first_of f w).text → length (messages (first_of f w)) ≡ length (groups function text)
  own_groups text e = length-messages (first_of f w) ∙ ap₂ (λ (g : Function) (l : List ℕ). length (groups g l)) (sym own_function) (sym e)

  -- a group
  own_group : (text : List ℕ) (k group : ℕ) → text ≡ (first_of f w).text → k < length (groups function text)
      → group ≡ slice_index (groups function text) k → get_or (messages (first_of f w)) k (Message group) ≡ Message group
  own_group text k group e l g =
      let same : groups function text ≡ groups (first_of f w).function (first_of f w).text = ap₂ groups own_function e in
      ap (λ gs. get_or (map Message gs) k (Message group)) (sym same)
      ∙ get_or-map Message (groups function text) k 0 (Message group) l ∙ ap Message (sym g)

  -- the next message slot, with others behind it
  pub gives-message : (s s' : Sending) (text : List ℕ) (k group : ℕ) → IsSendingOf s w → s.before ≡ InRun f k → text ≡ text_under_way s
      → group < 2 ^ 20 → group ≡ slice_index (groups function text) k → k + 1 < length (groups function text)
      → s'.place ≡ (s.place + 1) % 16 → s'.before ≡ InRun f (k + 1) → s'.text ≡ s.text → s'.length ≡ s.length
      → GivesOneSlot (Message group) s w s' w
  gives-message s s' text k group follows way same small is more place before kept long =
      let u = follows.in_run f k way in
      let e : text ≡ (first_of f w).text = same ∙ u.text_is in
      let n = own_groups text e in
      gives-on (Message group) s w s' w
      (follows-in_run s' w f (k + 1) (omega (arith, place)) (omega (arith, long, follows.short)) before
      (record { in_batch = u.in_batch; waits = u.waits; text_is = ap₂ take long kept ∙ u.text_is; more = omega (arith, n, more) }))
      small (keeps-same w)
      (subst (GoesOn (Message group) w s.place s.before w s'.place) (sym before)
      (subst (λ b. GoesOn (Message group) w s.place b w s'.place (InRun f (k + 1))) (sym way)
      (message_goes_on w s.place s'.place f k (Message group) u.more (own_group text k group e (omega (arith, more)) is) (omega (arith, place)))))

  -- the last message slot
  pub gives-last : (s s' : Sending) (w' : Pool) (text : List ℕ) (k group : ℕ) → IsSendingOf s w → s.before ≡ InRun f k → text ≡ text_under_way s
      → group < 2 ^ 20 → group ≡ slice_index (groups function text) k → length (groups function text) ≤ k + 1 → TakesPage w w' t
      → s'.place ≡ (s.place + 1) % 16 → s'.length ≡ s.length → s'.before ≡ RunEnd → GivesOneSlot (Message group) s w s' w'
  gives-last s s' w' text k group follows way same small is last takes place long before =
      let u = follows.in_run f k way in
      let x = first-is w f t h in
      let e : text ≡ (first_of f w).text = same ∙ u.text_is in
      let n = own_groups text e in
      let l = u.more in
      gives-end (Message group) (Run (first_of f w)) s w s' w' (follows-run_end s' w' (omega (arith, place)) (omega (arith, long, follows.short)) before) small (keeps-taken w w' t takes)
      (subst (Ends (Message group) (Run (first_of f w)) w s.place s.before w' s'.place) (sym before)
      (subst (λ b. Ends (Message group) (Run (first_of f w)) w s.place b w' s'.place RunEnd) (sym way)
      (message_ends w w' s.place s'.place f k (Message group) (omega (arith, n, l, last)) (own_group text k group e (omega (arith, n, l)) is)
      (ap frame x.is ∙ x.own) (pages-taken w w' f t sound h takes) (omega (arith, place)))))

-- the text of the first page of a frame is short enough
pub short : (w : Pool) (f t n : ℕ) → Sound w → IsFirst w f t → ((e : Live) → Names w t e → n ≡ length e.page.text) → n ≤ LONGEST_TEXT
short w f t n sound h e = let x = first-is w f t h in omega (arith, e x.entry x.names, fits-short x.entry.page (sound.pages t x.entry x.names).fits)

module _ (w : Pool) (t capcode : ℕ) (function : Function) (s s' : Sending) (f : ℕ) (follows : IsSendingOf s w) (between : IsBetween s.before)
    (at : f ≡ s.place / 2) (sound : Sound w) (h : IsFirst w f t) (capcode_is : (e : Live) → Names w t e → capcode ≡ e.page.capcode)
    (function_is : (e : Live) → Names w t e → function ≡ e.page.function) (place : s'.place ≡ (s.place + 1) % 16) where
  -- the address is that of the frame's first page
  address_is : (x : First w f t) → Address x.entry.page.capcode x.entry.page.function ≡ Address capcode function
  address_is x = ap₂ Address (sym (capcode_is x.entry x.names)) (sym (function_is x.entry x.names))

  -- so many groups has its text
  counted : (x : First w f t) (n count : ℕ) → ((e : Live) → Names w t e → n ≡ length e.page.text) → HasGroups function n count
      → length (messages x.entry.page) ≡ count
  counted x n count e g =
      length-messages x.entry.page ∙ ap (λ (y : Function). length (groups y x.entry.page.text)) (sym (function_is x.entry x.names))
      ∙ g x.entry.page.text (sym (e x.entry x.names))

  -- the address slot of a page without message slots
  pub gives-tone : (w' : Pool) (n count : ℕ) → ((e : Live) → Names w t e → n ≡ length e.page.text) → HasGroups function n count → count ≡ 0
      → TakesPage w w' t → s'.length ≡ s.length → s'.before ≡ RunEnd → GivesOneSlot (Address capcode function) s w s' w'
  gives-tone w' n count e g zero_is takes long before =
      let x = first-is w f t h in
      let page : Page = x.entry.page in
      let first : filter (in_frame (s.place / 2)) (live_pages w) ≡ page ∷ x.more = ap (λ v. filter (in_frame v) (live_pages w)) (sym at) ∙ x.first in
      gives-end (Address capcode function) (Run page) s w s' w' (follows-run_end s' w' (omega (arith, place)) (omega (arith, long, follows.short)) before) tt (keeps-taken w w' t takes)
      (subst (Ends (Address capcode function) (Run page) w s.place s.before w' s'.place) (sym before)
      (subst (λ a. Ends a (Run page) w s.place s.before w' s'.place RunEnd) (address_is x)
      (address_ends w w' s.place s'.place s.before page x.more between follows.in_batch first (x.own ∙ at) (counted x n count e g ∙ zero_is)
      (pages-taken w w' f t sound h takes ∙ ap (λ v. without_first v (live_pages w)) at) (omega (arith, place)))))

  -- the address slot of a page with message slots
  pub gives-address : (n count : ℕ) → ((e : Live) → Names w t e → n ≡ length e.page.text) → HasGroups function n count → count ≢ 0
      → (old : List ℕ) → ((e : Live) → Names w t e → s'.length ≡ length e.page.text)
      → ((e : Live) → Names w t e → s'.text ≡ e.page.text ++ drop (length e.page.text) old) → s'.before ≡ InRun f 0
      → GivesOneSlot (Address capcode function) s w s' w
  gives-address n count e g some old long copied before =
      let x = first-is w f t h in
      let page : Page = x.entry.page in
      let first : filter (in_frame (s.place / 2)) (live_pages w) ≡ page ∷ x.more = ap (λ v. filter (in_frame v) (live_pages w)) (sym at) ∙ x.first in
      let is : first_of (s.place / 2) w ≡ page = ap (λ v. first_of v w) (sym at) ∙ x.is in
      let c = counted x n count e g in
      let m : length (messages (first_of f w)) ≡ length (messages page) = ap (λ q. length (messages q)) x.is in
      let follows' : IsSendingOf s' w = follows-in_run s' w f 0 (omega (arith, place)) (short w f t s'.length sound h long) before (record {
        in_batch = omega (arith, at, follows.in_batch);
        waits = λ y. (let z = sym x.first ∙ y in cc);
        text_is = ap₂ take (long x.entry x.names) (copied x.entry x.names) ∙ take-append_seam x.entry.page.text (drop (length x.entry.page.text) old)
            ∙ ap (λ (p : Page). p.text) (sym x.is);
        more = omega (arith, c, m, some);
      }) in
      let before' : s'.before ≡ InRun (s.place / 2) 0 = before ∙ ap (λ v. InRun v 0) at in
      gives-on (Address capcode function) s w s' w follows' tt (keeps-same w)
      (subst (GoesOn (Address capcode function) w s.place s.before w s'.place) (sym before')
      (subst (λ a. GoesOn a w s.place s.before w s'.place (InRun (s.place / 2) 0)) (address_is x)
      (address_goes_on w s.place s'.place s.before page x.more between follows.in_batch first is (omega (arith, place)))))
