-- One more slot to a list of slots: the page that it completes, and the page that is under way then.
use Rattle.std.proofs.Common.{◌≡◌, ℕ, suc, ◌+◌, Bool, true, false, ◌&&◌, nat_le, nat_lt, List, [], ◌∷◌, ◌++◌, length, length-append, Option, Some, None, option_map, arith, refl, sym, ◌∙◌, ap, ap₂, inl, inr, append_assoc, append-nil, add-zero}
use Rattle.std.proofs.lemmas.Bool.{cases_Bool, leb-true, leb-false, ltb-true, ltb-false, le-leb, lt-leb, lt-ltb, le-ltb, and_parts, and_from, and_left, and_right, and_cases}
use Rattle.codeword.specs.declared.functions.Function.{Function}
use Rattle.codeword.specs.declared.kinds.WordKind.{WordKind}
use Rattle.codeword.specs.declared.kinds.WordKind.TheVariants.{Address, Message}
use Rattle.page_text.specs.declared.limits.TheConstants.{MOST_GROUPS}
use Rattle.codeword.specs.Capcodes.{capcode_at}
use Rattle.receiver.specs.Heard.{HeardPage, groups_with, groups_to_address, page_if, page_with, pages_from}
use Rattle.receiver.specs.UnderWay.{messages_with, all_groups, open_if, open_with, first_some, open_from, completed, open_after}

-- ---- the groups after a word

-- what the last word makes of groups that only message words gave so far
abbrev ended : Option WordKind → Option (List ℕ) → Option (List ℕ)
ended None all = None
ended (Some (Message group)) all = None
ended (Some (Address high function)) all = all

abbrev first_groups : Option (List ℕ) → Option (List ℕ) → Option (List ℕ)
first_groups None later = later
first_groups (Some gs) later = Some gs

to_address_step : (k last : Option WordKind) (to all : Option (List ℕ))
    → groups_with k (first_groups to (ended last all)) ≡ first_groups (groups_with k to) (ended last (messages_with k all))
to_address_step None None to all = refl
to_address_step None (Some (Message g)) to all = refl
to_address_step None (Some (Address h f)) to all = refl
to_address_step (Some (Address h f)) last to all = refl
to_address_step (Some (Message g)) None None all = refl
to_address_step (Some (Message g)) (Some (Message g2)) None all = refl
to_address_step (Some (Message g)) (Some (Address h f)) None all = refl
to_address_step (Some (Message g)) last (Some gs) all = refl

to_address_last : (k : Option WordKind) → groups_with k None ≡ first_groups None (ended k (Some []))
to_address_last None = refl
to_address_last (Some (Message g)) = refl
to_address_last (Some (Address h f)) = refl

groups_to_address-push : (ws : List (Option WordKind)) (w : Option WordKind) → groups_to_address (ws ++ w ∷ []) ≡ first_groups (groups_to_address ws) (ended w (all_groups ws))
unfolding groups_to_address all_groups
groups_to_address-push [] w = to_address_last w
groups_to_address-push (v ∷ ws) w =
    ap (groups_with v) (groups_to_address-push ws w)
    ∙ to_address_step v w (groups_to_address ws) (all_groups ws)

abbrev grown : Option WordKind → Option (List ℕ) → Option (List ℕ)
grown None all = None
grown (Some (Address high function)) all = None
grown (Some (Message group)) all = option_map (λ gs. gs ++ group ∷ []) all

all_step : (k last : Option WordKind) (all : Option (List ℕ)) → messages_with k (grown last all) ≡ grown last (messages_with k all)
all_step None None all = refl
all_step None (Some (Message g)) all = refl
all_step None (Some (Address h f)) all = refl
all_step (Some (Address h f)) None all = refl
all_step (Some (Address h f)) (Some (Message g)) all = refl
all_step (Some (Address h f)) (Some (Address h2 f2)) all = refl
all_step (Some (Message g)) None all = refl
all_step (Some (Message g)) (Some (Address h f)) all = refl
all_step (Some (Message g)) (Some (Message g2)) None = refl
all_step (Some (Message g)) (Some (Message g2)) (Some gs) = refl

all_last : (k : Option WordKind) → messages_with k (Some []) ≡ grown k (Some [])
all_last None = refl
all_last (Some (Address h f)) = refl
all_last (Some (Message g)) = refl

all_groups-push : (ws : List (Option WordKind)) (w : Option WordKind) → all_groups (ws ++ w ∷ []) ≡ grown w (all_groups ws)
unfolding all_groups
all_groups-push [] w = all_last w
all_groups-push (v ∷ ws) w = ap (messages_with v) (all_groups-push ws w) ∙ all_step v w (all_groups ws)

-- ---- where all are message words, no page is complete or under way

message_first : (k : Option WordKind) (all : Option (List ℕ)) (gs : List ℕ) → messages_with k all ≡ Some gs → (g : ℕ) × (hs : List ℕ) × (k ≡ Some (Message g)) × (all ≡ Some hs)
message_first None all gs h = absurd (let e : None ≡ Some gs = h in cc)
message_first (Some (Address a f)) all gs h = absurd (let e : None ≡ Some gs = h in cc)
message_first (Some (Message g)) None gs h = absurd (let e : None ≡ Some gs = h in cc)
message_first (Some (Message g)) (Some hs) gs h = (g, hs, refl, refl)

pub only_messages : (listens : ℕ → Bool) (place : ℕ) (ws : List (Option WordKind)) (gs : List ℕ) → all_groups ws ≡ Some gs
    → (pages_from listens place ws ≡ []) × (open_from listens place ws ≡ None) × (groups_to_address ws ≡ None)
unfolding all_groups pages_from open_from groups_to_address
only_messages listens place [] gs h = (refl, refl, refl)
only_messages listens place (w ∷ ws) gs h =
    let m = message_first w (all_groups ws) gs h in
    let ih = only_messages listens (suc place) ws m.1 m.3 in (
      ap (λ (k : Option WordKind). page_with listens place k (groups_to_address ws) ++ pages_from listens (suc place) ws) m.2 ∙ ih.0,
      ap (λ (k : Option WordKind). first_some (open_with listens place k (all_groups ws)) (open_from listens (suc place) ws)) m.2 ∙ ih.1,
      ap (λ (k : Option WordKind). groups_with k (groups_to_address ws)) m.2 ∙ ap (option_map (λ hs. m.0 ∷ hs)) ih.2,
    )

-- ---- one more word

none_ended : (k : Option WordKind) → ended k None ≡ None
none_ended None = refl
none_ended (Some (Message g)) = refl
none_ended (Some (Address h f)) = refl

none_grown : (k : Option WordKind) → grown k None ≡ None
none_grown None = refl
none_grown (Some (Address h f)) = refl
none_grown (Some (Message g)) = refl

none_open : (listens : ℕ → Bool) (place : ℕ) (k : Option WordKind) → open_with listens place k None ≡ None
none_open listens place None = refl
none_open listens place (Some (Message g)) = refl
none_open listens place (Some (Address h f)) = refl

first_groups-none : (to : Option (List ℕ)) → first_groups to None ≡ to
first_groups-none None = refl
first_groups-none (Some gs) = refl

not_complete : (t : Bool) (c : ℕ) (f : Function) (gs : List ℕ) → completed (first_some (open_if t c f gs) None) None ≡ []
not_complete true c f gs = refl
not_complete false c f gs = refl

not_complete_message : (t : Bool) (c : ℕ) (f : Function) (gs : List ℕ) (g : ℕ) → completed (first_some (open_if t c f gs) None) (Some (Message g)) ≡ []
not_complete_message true c f gs g = refl
not_complete_message false c f gs g = refl

complete_address : (t : Bool) (c : ℕ) (f : Function) (gs : List ℕ) (h : ℕ) (e : Function) → page_if t c f gs ++ [] ≡ completed (first_some (open_if t c f gs) None) (Some (Address h e))
complete_address true c f gs h e = refl
complete_address false c f gs h e = refl

last_page : (listens : ℕ → Bool) (place : ℕ) (k last : Option WordKind) (gs : List ℕ)
    → page_with listens place k (ended last (Some gs)) ++ completed None last ≡ (page_with listens place k None ++ []) ++ completed (first_some (open_with listens place k (Some gs)) None) last
last_page listens place None last gs = refl
last_page listens place (Some (Message g)) last gs = refl
last_page listens place (Some (Address a f)) None gs = sym (not_complete (listens (capcode_at place a) && nat_le (length gs) MOST_GROUPS) (capcode_at place a) f gs)
last_page listens place (Some (Address a f)) (Some (Message g)) gs = sym (not_complete_message (listens (capcode_at place a) && nat_le (length gs) MOST_GROUPS) (capcode_at place a) f gs g)
last_page listens place (Some (Address a f)) (Some (Address h e)) gs = complete_address (listens (capcode_at place a) && nat_le (length gs) MOST_GROUPS) (capcode_at place a) f gs h e

pages_step : (listens : ℕ → Bool) (place : ℕ) (k last : Option WordKind) (all to : Option (List ℕ)) (pages : List HeardPage) (page : Option HeardPage)
    → ((gs : List ℕ) → all ≡ Some gs → (pages ≡ []) × (page ≡ None) × (to ≡ None))
    → page_with listens place k (first_groups to (ended last all)) ++ (pages ++ completed page last)
    ≡ (page_with listens place k to ++ pages) ++ completed (first_some (open_with listens place k all) page) last
pages_step listens place k last None to pages page only =
    ap (λ (x : Option (List ℕ)). page_with listens place k x ++ (pages ++ completed page last)) (ap (first_groups to) (none_ended last) ∙ first_groups-none to)
    ∙ sym (append_assoc (page_with listens place k to) pages (completed page last))
    ∙ ap (λ (x : Option HeardPage). (page_with listens place k to ++ pages) ++ completed (first_some x page) last) (sym (none_open listens place k))
pages_step listens place k last (Some gs) to pages page only =
    let o = only gs refl in
    let p0 = o.0 in
    let p1 = o.1 in
    let p2 = o.2 in
    rw (p0, p1, p2) (last_page listens place k last gs)

pub pages_from-push : (listens : ℕ → Bool) (place : ℕ) (ws : List (Option WordKind)) (w : Option WordKind)
    → pages_from listens place (ws ++ w ∷ []) ≡ pages_from listens place ws ++ completed (open_from listens place ws) w
unfolding pages_from open_from groups_to_address
pages_from-push listens place [] w = append-nil (page_with listens place w None) ∙ alone w
  where
    alone : (k : Option WordKind) → page_with listens place k None ≡ []
    alone None = refl
    alone (Some (Message g)) = refl
    alone (Some (Address h f)) = refl
pages_from-push listens place (v ∷ ws) w =
    ap₂ (λ (x : Option (List ℕ)) (ys : List HeardPage). page_with listens place v x ++ ys) (groups_to_address-push ws w) (pages_from-push listens (suc place) ws w)
    ∙ pages_step listens place v w (all_groups ws) (groups_to_address ws) (pages_from listens (suc place) ws) (open_from listens (suc place) ws)
    (λ gs e. only_messages listens (suc place) ws gs e)

length_one_more : (gs : List ℕ) (g : ℕ) → nat_le (length (gs ++ g ∷ [])) MOST_GROUPS ≡ nat_lt (length gs) MOST_GROUPS
length_one_more gs g =
    let l = length-append gs (g ∷ []) in
    elim (Rattle.std.proofs.lemmas.Bool.cases_lt (length gs) MOST_GROUPS) [
      | inl low ↦ le-leb (length (gs ++ g ∷ [])) MOST_GROUPS (omega arith) ∙ sym (lt-ltb (length gs) MOST_GROUPS low)
      | inr high ↦ lt-leb (length (gs ++ g ∷ [])) MOST_GROUPS (omega arith) ∙ sym (le-ltb (length gs) MOST_GROUPS high)
    ]

grow_with : (b l m n : Bool) (listens : ℕ → Bool) (place c : ℕ) (f : Function) (gs : List ℕ) (g : ℕ) → nat_lt (length gs) MOST_GROUPS ≡ n → m ≡ n → (l ≡ false → n ≡ false)
    → first_some (open_if (b && m) c f (gs ++ g ∷ [])) None ≡ open_after listens place (first_some (open_if (b && l) c f gs) None) (Some (Message g))
grow_with false l m n listens place c f gs g e mn h = refl
grow_with true false m n listens place c f gs g e mn h = ap (λ (t : Bool). first_some (open_if t c f (gs ++ g ∷ [])) None) (mn ∙ h refl)
grow_with true true m n listens place c f gs g e mn h =
    ap (λ (t : Bool). first_some (open_if t c f (gs ++ g ∷ [])) None) (mn ∙ sym e) ∙ first_none (open_if (nat_lt (length gs) MOST_GROUPS) c f (gs ++ g ∷ []))
  where
    first_none : (o : Option HeardPage) → first_some o None ≡ o
    first_none None = refl
    first_none (Some x) = refl

open_last : (listens : ℕ → Bool) (place at : ℕ) (k last : Option WordKind) (gs : List ℕ)
    → first_some (open_with listens place k (grown last (Some gs))) (open_after listens at None last) ≡ open_after listens at (first_some (open_with listens place k (Some gs)) None) last
open_last listens place at k None gs = ap (λ (x : Option HeardPage). first_some x None) (none_open listens place k)
open_last listens place at k (Some (Address h e)) gs = ap (λ (x : Option HeardPage). first_some x (open_after listens at None (Some (Address h e)))) (none_open listens place k)
open_last listens place at None (Some (Message g)) gs = refl
open_last listens place at (Some (Message a)) (Some (Message g)) gs = refl
open_last listens place at (Some (Address a f)) (Some (Message g)) gs =
    grow_with (listens (capcode_at place a)) (nat_le (length gs) MOST_GROUPS) (nat_le (length (gs ++ g ∷ [])) MOST_GROUPS) (nat_lt (length gs) MOST_GROUPS) listens at (capcode_at place a) f gs g refl
    (length_one_more gs g) (λ e. le-ltb (length gs) MOST_GROUPS (let h = leb-false (length gs) MOST_GROUPS e in omega arith))

open_step : (listens : ℕ → Bool) (place at : ℕ) (k last : Option WordKind) (all : Option (List ℕ)) (page : Option HeardPage)
    → ((gs : List ℕ) → all ≡ Some gs → page ≡ None)
    → first_some (open_with listens place k (grown last all)) (open_after listens at page last) ≡ open_after listens at (first_some (open_with listens place k all) page) last
open_step listens place at k last None page only =
    ap (λ (x : Option (List ℕ)). first_some (open_with listens place k x) (open_after listens at page last)) (none_grown last)
    ∙ ap (λ (x : Option HeardPage). first_some x (open_after listens at page last)) (none_open listens place k)
    ∙ ap (λ (x : Option HeardPage). open_after listens at (first_some x page) last) (sym (none_open listens place k))
open_step listens place at k last (Some gs) page only =
    let e = only gs refl in
    rw e (open_last listens place at k last gs)

pub open_from-push : (listens : ℕ → Bool) (place : ℕ) (ws : List (Option WordKind)) (w : Option WordKind)
    → open_from listens place (ws ++ w ∷ []) ≡ open_after listens (place + length ws) (open_from listens place ws) w
unfolding open_from all_groups
open_from-push listens place [] w = first_word w ∙ ap (λ (n : ℕ). open_after listens n None w) (sym (add-zero place))
  where
    only_if : (t : Bool) (c : ℕ) (f : Function) → first_some (open_if (t && true) c f []) None ≡ open_if t c f []
    only_if true c f = refl
    only_if false c f = refl

    first_word : (k : Option WordKind) → first_some (open_with listens place k (Some [])) None ≡ open_after listens place None k
    first_word None = refl
    first_word (Some (Message g)) = refl
    first_word (Some (Address h f)) = only_if (listens (capcode_at place h)) (capcode_at place h) f
open_from-push listens place (v ∷ ws) w =
    let e : suc place + length ws ≡ place + suc (length ws) = omega arith in
    ap₂ (λ (x : Option (List ℕ)) (y : Option HeardPage). first_some (open_with listens place v x) y) (all_groups-push ws w) (open_from-push listens (suc place) ws w)
    ∙ open_step listens place (suc place + length ws) v w (all_groups ws) (open_from listens (suc place) ws) (λ gs h. (only_messages listens (suc place) ws gs h).1)
    ∙ ap (λ (n : ℕ). open_after listens n (first_some (open_with listens place v (all_groups ws)) (open_from listens (suc place) ws)) w) e
