-- What an event of a front end adds to what is heard twice.
use Rattle.std.proofs.Common.{◌≡◌, ℕ, zero, suc, ◌+◌, ◌%◌, min, Bool, true, false, not, cond, List, [], ◌∷◌, ◌++◌, length, length-append, map, flat_map, take, Option, Some, None, arith, refl, sym, subst, ◌∙◌, ap, ap₂, inl, inr, append_assoc, append-nil, zero-add, eq-eqb, ne_eqb}
use Rattle.std.specs.List.{slice_get}
use Rattle.std.proofs.lemmas.Bool.{cases_lt}
use Rattle.std.proofs.lemmas.Option.{slice_get_past}
use Rattle.bits.proofs.Bytes.{flat_map-append}
use Rattle.bch31.specs.Fix.{fix_of}
use Rattle.codeword.specs.declared.kinds.WordKind.{WordKind}
use Rattle.codeword.specs.Kinds.{kind_of}
use Rattle.receiver.specs.Slots.{slots_from, stretch_slots}
use Rattle.receiver.specs.Heard.{HeardPage, pages_from}
use Rattle.receiver.specs.UnderWay.{open_from, open_after, completed}
use Rattle.receiver.specs.Fronts.{FrontEnd, FrontIsAt}
use Rattle.receiver.specs.FrontSteps.{HasSyncWord, FrontMoves, page_after, completed_by}
use Rattle.receiver.specs.declared.front.FrontEvent.{FrontEvent}
use Rattle.receiver.specs.declared.front.FrontEvent.TheVariants.{Still, Batch, Slot, Lost}
use Rattle.receiver.proofs.Slots.{slots_of-push, slot_place}
use Rattle.receiver.proofs.Heard.{open_after-place}
use Rattle.receiver.proofs.Pages.{pages_from-push, open_from-push}
use Rattle.receiver.proofs.Fronts.{so_far, front_stretches}
use Rattle.repeats.specs.Twin.{held_slots, first_there, twin, twins, says, twin_pages, heard_twice}
use Rattle.repeats.specs.TwinListeners.{Paired, JoinsEvent, JoinsSlot, after_lost, after_first, after_second, first_kind, twin_kind, slots_so_far, twin_under_way, InFirst, InSecond, InEither}

-- ---- the twin stretches so far

-- what is heard twice in these stretches, and in the one under way
abbrev pub told : (ℕ → Bool) → List (List ℕ) → Option (List ℕ) → List HeardPage
told listens before words = flat_map (twin_pages listens) (twins (so_far before words))

pub heard_is_told : (front : FrontEnd) (bits : List Bool) (listens : ℕ → Bool) (before : List (List ℕ)) (words : Option (List ℕ)) → FrontIsAt front bits before words
    → heard_twice listens bits ≡ told listens before words
heard_is_told front bits listens before words at = ap (λ (found : List (List ℕ)). flat_map (twin_pages listens) (twins found)) (front_stretches front bits before words at)

twins-append : (pairs more : List (List ℕ)) → length pairs % 2 ≡ 0 → twins (pairs ++ more) ≡ twins pairs ++ twins more
unfolding twins
twins-append [] more h = refl
twins-append (x ∷ []) more h = absurd (omega arith)
twins-append (x ∷ y ∷ pairs) more h = ap (λ (xs : List (List (Option ℕ))). twin (take held_slots (stretch_slots x)) (stretch_slots y) ∷ xs) (twins-append pairs more (omega arith))

-- a first stretch adds nothing
first_told : (listens : ℕ → Bool) (before : List (List ℕ)) (words : Option (List ℕ)) → length before % 2 ≡ 0
    → told listens before words ≡ flat_map (twin_pages listens) (twins before)
unfolding twins
first_told listens before None h = refl
first_told listens before (Some words) h = ap (flat_map (twin_pages listens)) (twins-append before (words ∷ []) h ∙ append-nil (twins before))

-- a second one adds its twin stretch
second_told : (listens : ℕ → Bool) (pairs : List (List ℕ)) (first : List ℕ) (words : Option (List ℕ)) → length pairs % 2 ≡ 0
    → told listens (pairs ++ first ∷ []) words
    ≡ flat_map (twin_pages listens) (twins pairs) ++ twin_pages listens (twin (take held_slots (stretch_slots first)) (slots_so_far words))
unfolding twins twin pages_from
second_told listens pairs first None h =
    ap (flat_map (twin_pages listens)) (twins-append pairs (first ∷ []) h ∙ append-nil (twins pairs))
    ∙ sym (append-nil (flat_map (twin_pages listens) (twins pairs)))
    ∙ ap (λ (xs : List (Option ℕ)). flat_map (twin_pages listens) (twins pairs) ++ twin_pages listens xs) (sym (no_slots (take held_slots (stretch_slots first))))
  where
    no_slots : (held : List ℕ) → twin held [] ≡ []
    no_slots [] = refl
    no_slots (v ∷ held) = refl
second_told listens pairs first (Some words) h =
    ap (λ (xs : List (List ℕ)). flat_map (twin_pages listens) (twins xs)) (append_assoc pairs (first ∷ []) (words ∷ []))
    ∙ ap (flat_map (twin_pages listens)) (twins-append pairs (first ∷ words ∷ []) h)
    ∙ flat_map-append (twin_pages listens) (twins pairs) (twin (take held_slots (stretch_slots first)) (stretch_slots words) ∷ [])
    ∙ ap (λ (xs : List HeardPage). flat_map (twin_pages listens) (twins pairs) ++ xs) (append-nil (twin_pages listens (twin (take held_slots (stretch_slots first)) (stretch_slots words))))

-- ---- the slots of a step

begins_slots : (words after : Option (List ℕ)) → HasSyncWord words after → slots_so_far after ≡ slots_so_far words
unfolding slots_from
begins_slots None after b = ap slots_so_far b
begins_slots (Some words) after b = ap slots_so_far b.1 ∙ slots_of-push words b.0 true (eq-eqb (length words % 17) 16 b.2) ∙ append-nil (stretch_slots words)

pub slots_same_still : (before b2 : List (List ℕ)) (words w2 : Option (List ℕ)) → FrontMoves Still before words b2 w2 → slots_so_far w2 ≡ slots_so_far words
slots_same_still before b2 words w2 m = ap slots_so_far m.1

pub slots_same_batch : (before b2 : List (List ℕ)) (words w2 : Option (List ℕ)) → FrontMoves Batch before words b2 w2 → slots_so_far w2 ≡ slots_so_far words
slots_same_batch before b2 words w2 m = begins_slots words w2 m.1

slots_more : (place word : ℕ) (before b2 : List (List ℕ)) (words w2 : Option (List ℕ)) → FrontMoves (Slot place word) before words b2 w2
    → slots_so_far w2 ≡ slots_so_far words ++ word ∷ []
slots_more place word before b2 words w2 m =
    ap slots_so_far m.3 ∙ slots_of-push m.1 word false (ne_eqb (length m.1 % 17) 16 (λ e. let p = m.4 in let q = m.5 in omega arith)) ∙ ap (λ (o : Option (List ℕ)). slots_so_far o ++ word ∷ []) (sym m.2)

slots_place : (place word : ℕ) (before b2 : List (List ℕ)) (words w2 : Option (List ℕ)) → FrontMoves (Slot place word) before words b2 w2
    → length (slots_so_far words) % 16 ≡ place % 16
slots_place place word before b2 words w2 m =
    ap (λ (o : Option (List ℕ)). length (slots_so_far o) % 16) m.2
    ∙ slot_place m.1 (let p = m.4 in let q = m.5 in omega arith) ∙ (let p = m.4 in let q = m.5 in omega arith)

-- ---- a step that adds no slot

first_still : (paired : Paired) (page : Option HeardPage) (before b2 : List (List ℕ)) (words w2 : Option (List ℕ)) → b2 ≡ before → slots_so_far w2 ≡ slots_so_far words
    → InFirst paired page before words → InFirst paired page b2 w2
first_still paired page before b2 words w2 e s h = record {
  even = ap (λ (xs : List (List ℕ)). length xs % 2) e ∙ h.even;
  held-is = h.held-is ∙ ap (take held_slots) (sym s);
  none = h.none;
}

second_still : (listens : ℕ → Bool) (paired : Paired) (page : Option HeardPage) (before b2 : List (List ℕ)) (words w2 : Option (List ℕ)) → b2 ≡ before
    → slots_so_far w2 ≡ slots_so_far words → InSecond listens paired page before words → InSecond listens paired page b2 w2
second_still listens paired page before b2 words w2 e s h = record {
  pairs = h.pairs;
  first = h.first;
  parts = e ∙ h.parts;
  even = h.even;
  held-is = h.held-is;
  slot-is = h.slot-is ∙ ap (λ (xs : List ℕ). min (length xs) (length paired.held)) (sym s);
  page-is = h.page-is ∙ ap (twin_under_way listens paired.held) (sym s);
}

pub either_still : (second : Bool) (listens : ℕ → Bool) (paired : Paired) (page : Option HeardPage) (before b2 : List (List ℕ)) (words w2 : Option (List ℕ))
    → b2 ≡ before → slots_so_far w2 ≡ slots_so_far words → InEither second listens paired page before words
    → InEither second listens paired page b2 w2 × (told listens b2 w2 ≡ told listens before words)
either_still false listens paired page before b2 words w2 e s h =
    let n = first_still paired page before b2 words w2 e s h in (
      n,
      first_told listens b2 w2 n.even ∙ ap (λ (xs : List (List ℕ)). flat_map (twin_pages listens) (twins xs)) e ∙ sym (first_told listens before words h.even),
    )
either_still true listens paired page before b2 words w2 e s h = (
  second_still listens paired page before b2 words w2 e s h,
  ap (λ (xs : List (List ℕ)). told listens xs w2) (e ∙ h.parts) ∙ second_told listens h.pairs h.first w2 h.even
      ∙ ap (λ (xs : List ℕ). flat_map (twin_pages listens) (twins h.pairs) ++ twin_pages listens (twin (take held_slots (stretch_slots h.first)) xs)) s
      ∙ sym (second_told listens h.pairs h.first words h.even) ∙ ap (λ (xs : List (List ℕ)). told listens xs words) (sym h.parts),
)

-- ---- the word of a slot

take_push : (n : ℕ) (xs : List ℕ) (x : ℕ) → take n (take n xs ++ x ∷ []) ≡ take n (xs ++ x ∷ [])
take_push zero xs x = refl
take_push (suc n) [] x = refl
take_push (suc n) (y ∷ xs) x = ap (λ (zs : List ℕ). y ∷ zs) (take_push n xs x)

pub first_slot : (listens : ℕ → Bool) (paired : Paired) (page : Option HeardPage) (place word : ℕ) (before b2 : List (List ℕ)) (words w2 : Option (List ℕ))
    → FrontMoves (Slot place word) before words b2 w2 → InFirst paired page before words
    → InFirst (after_first paired word) page b2 w2 × (told listens b2 w2 ≡ told listens before words)
first_slot listens paired page place word before b2 words w2 m h =
    let even : length b2 % 2 ≡ 0 = ap (λ (xs : List (List ℕ)). length xs % 2) m.0 ∙ h.even in (
      record {
        even = even;
        held-is = ap (λ (xs : List ℕ). take held_slots (xs ++ word ∷ [])) h.held-is ∙ take_push held_slots (slots_so_far words) word
            ∙ ap (take held_slots) (sym (slots_more place word before b2 words w2 m));
        none = h.none;
      },
      first_told listens b2 w2 even ∙ ap (λ (xs : List (List ℕ)). flat_map (twin_pages listens) (twins xs)) m.0 ∙ sym (first_told listens before words h.even),
    )

says_kind : (w : ℕ) → says (fix_of w) ≡ kind_of w
unfolding kind_of
says_kind w = refl

says_first : (v w : Option ℕ) → says (first_there v w) ≡ first_kind (says v) (says w)
says_first None w = refl
says_first (Some x) w = refl

pub twin_push : (held ss : List ℕ) (w : ℕ) → map says (twin held (ss ++ w ∷ [])) ≡ map says (twin held ss) ++ twin_kind (slice_get held (length ss)) w ∷ []
unfolding twin
twin_push [] [] w = ap (λ (k : Option WordKind). k ∷ []) (says_kind w)
twin_push [] (s ∷ ss) w = ap (λ (ks : List (Option WordKind)). says (fix_of s) ∷ ks) (twin_push [] ss w)
twin_push (v ∷ held) [] w =
    ap₂ (λ (k : Option WordKind) (xs : List (Option ℕ)). k ∷ map says xs)
    (says_first (fix_of v) (fix_of w) ∙ ap₂ first_kind (says_kind v) (says_kind w)) (no_more held)
  where
    no_more : (held : List ℕ) → twin held [] ≡ []
    no_more [] = refl
    no_more (x ∷ held) = refl
twin_push (v ∷ held) (s ∷ ss) w = ap (λ (ks : List (Option WordKind)). says (first_there (fix_of v) (fix_of s)) ∷ ks) (twin_push held ss w)

length-said : (held ss : List ℕ) → length (map says (twin held ss)) ≡ length ss
unfolding twin
length-said [] [] = refl
length-said (v ∷ held) [] = refl
length-said [] (s ∷ ss) = ap suc (length-said [] ss)
length-said (v ∷ held) (s ∷ ss) = ap suc (length-said held ss)

partner : (held : List ℕ) (n slot : ℕ) → slot ≡ min n (length held) → slice_get held slot ≡ slice_get held n
partner held n slot e = elim (cases_lt n (length held)) [
  | inl low ↦ ap (slice_get held) (omega arith)
  | inr high ↦ slice_get_past held slot (omega arith) ∙ sym (slice_get_past held n high)
]

pub second_slot : (listens : ℕ → Bool) (paired : Paired) (page : Option HeardPage) (place word : ℕ) (before b2 : List (List ℕ)) (words w2 : Option (List ℕ))
    → FrontMoves (Slot place word) before words b2 w2 → InSecond listens paired page before words
    → InSecond listens (after_second paired) (open_after listens place page (twin_kind (slice_get paired.held paired.slot) word)) b2 w2
    × (told listens b2 w2 ≡ told listens before words ++ completed page (twin_kind (slice_get paired.held paired.slot) word))
second_slot listens paired page place word before b2 words w2 m h =
    let more = slots_more place word before b2 words w2 m in
    let at = slots_place place word before b2 words w2 m in
    let ss = slots_so_far words in
    let ks = map says (twin paired.held ss) in
    let k = twin_kind (slice_get paired.held paired.slot) word in
    let lk : length ks ≡ length ss = length-said paired.held ss in
    let same : twin_kind (slice_get paired.held (length ss)) word ≡ k = ap (λ (o : Option ℕ). twin_kind o word) (sym (partner paired.held (length ss) paired.slot h.slot-is)) in
    let longer : map says (twin paired.held (slots_so_far w2)) ≡ ks ++ k ∷ [] =
    ap (λ (xs : List ℕ). map says (twin paired.held xs)) more ∙ twin_push paired.held ss word ∙ ap (λ (x : Option WordKind). ks ++ x ∷ []) same in
    let place16 : (0 + length ks) % 16 ≡ place % 16 = ap (λ (n : ℕ). n % 16) (zero-add (length ks) ∙ lk) ∙ at in
    let ls = ap length more ∙ length-append ss (word ∷ []) in
    let sl = h.slot-is in
    let whole : (o : Option (List ℕ)) → told listens before o ≡ flat_map (twin_pages listens) (twins h.pairs) ++ twin_pages listens (twin paired.held (slots_so_far o)) =
    λ o. ap (λ (xs : List (List ℕ)). told listens xs o) h.parts ∙ second_told listens h.pairs h.first o h.even
    ∙ ap (λ (xs : List ℕ). flat_map (twin_pages listens) (twins h.pairs) ++ twin_pages listens (twin xs (slots_so_far o))) (sym h.held-is) in (
      record {
        pairs = h.pairs;
        first = h.first;
        parts = m.0 ∙ h.parts;
        even = h.even;
        held-is = h.held-is;
        slot-is = omega (arith, ls, sl);
        page-is =
            ap (λ (o : Option HeardPage). open_after listens place o k) h.page-is
            ∙ sym (open_after-place listens (0 + length ks) place (open_from listens 0 ks) k place16)
            ∙ sym (open_from-push listens 0 ks k) ∙ ap (open_from listens 0) (sym longer);
      },
      ap (λ (xs : List (List ℕ)). told listens xs w2) m.0 ∙ whole w2
          ∙ ap (λ (xs : List HeardPage). flat_map (twin_pages listens) (twins h.pairs) ++ xs)
          (ap (pages_from listens 0) longer ∙ pages_from-push listens 0 ks k ∙ ap (λ (o : Option HeardPage). pages_from listens 0 ks ++ completed o k) (sym h.page-is))
          ∙ sym (append_assoc (flat_map (twin_pages listens) (twins h.pairs)) (pages_from listens 0 ks) (completed page k))
          ∙ ap (λ (xs : List HeardPage). xs ++ completed page k) (sym (whole words)),
    )

-- ---- the loss of a lock

lost_told : (listens : ℕ → Bool) (before b2 : List (List ℕ)) (words w2 : Option (List ℕ)) → FrontMoves Lost before words b2 w2
    → told listens b2 w2 ≡ told listens before words
lost_told listens before b2 words w2 m =
    ap₂ (λ (x : List (List ℕ)) (y : Option (List ℕ)). told listens x y) m.2 m.3 ∙ ap (told listens before) (sym m.1)

take_none : (n : ℕ) → [] ≡ take {A = ℕ} n []
take_none zero = refl
take_none (suc n) = refl

pub either_lost : (second : Bool) (listens : ℕ → Bool) (paired : Paired) (page : Option HeardPage) (before b2 : List (List ℕ)) (words w2 : Option (List ℕ))
    → paired.second ≡ second → FrontMoves Lost before words b2 w2 → InEither second listens paired page before words
    → InEither (not second) listens (after_lost paired) None b2 w2 × (told listens b2 w2 ≡ told listens before words)
unfolding twin open_from
either_lost false listens paired page before b2 words w2 e m h = (
  record {
    pairs = before;
    first = m.0;
    parts = m.2;
    even = h.even;
    held-is = ap (λ (b : Bool). cond b [] paired.held) e ∙ h.held-is ∙ ap (λ (o : Option (List ℕ)). take held_slots (slots_so_far o)) m.1;
    slot-is = (let z : 0 ≡ min 0 (length (after_lost paired).held) = omega arith in z)
        ∙ ap (λ (o : Option (List ℕ)). min (length (slots_so_far o)) (length (after_lost paired).held)) (sym m.3);
    page-is = sym (no_page (after_lost paired).held) ∙ ap (λ (o : Option (List ℕ)). twin_under_way listens (after_lost paired).held (slots_so_far o)) (sym m.3);
  },
  lost_told listens before b2 words w2 m,
)
  where
    no_page : (held : List ℕ) → twin_under_way listens held [] ≡ None
    no_page [] = refl
    no_page (v ∷ held) = refl
either_lost true listens paired page before b2 words w2 e m h =
    let l1 = ap length (m.2 ∙ ap (λ (xs : List (List ℕ)). xs ++ m.0 ∷ []) h.parts) ∙ length-append (h.pairs ++ h.first ∷ []) (m.0 ∷ []) in
    let l2 = length-append h.pairs (h.first ∷ []) in
    let ev = h.even in (
      record {
        even = omega (arith, l1, l2, ev);
        held-is = ap (λ (b : Bool). cond b [] paired.held) e ∙ take_none held_slots ∙ ap (λ (o : Option (List ℕ)). take held_slots (slots_so_far o)) (sym m.3);
        none = refl;
      },
      lost_told listens before b2 words w2 m,
    )

-- ---- every event

slot_step : (second : Bool) (place word : ℕ) (joined : FrontEvent) (listens : ℕ → Bool) (paired now : Paired) (page : Option HeardPage) (before b2 : List (List ℕ)) (words w2 : Option (List ℕ))
    → paired.second ≡ second → FrontMoves (Slot place word) before words b2 w2 → JoinsSlot second paired place word joined now → InEither second listens paired page before words
    → InEither now.second listens now (page_after listens page joined) b2 w2 × (told listens b2 w2 ≡ told listens before words ++ completed_by page joined)
slot_step false place word joined listens paired now page before b2 words w2 s m j h =
    let e = first_slot listens paired page place word before b2 words w2 m h in
    let second : now.second ≡ false = ap (λ (x : Paired). x.second) j.1 ∙ s in (
      subst (λ (b : Bool). InEither b listens now (page_after listens page joined) b2 w2) (sym second)
          (subst (λ (x : Paired). InFirst x (page_after listens page joined) b2 w2) (sym j.1)
          (subst (λ (x : FrontEvent). InFirst (after_first paired word) (page_after listens page x) b2 w2) (sym j.0) e.0)),
      e.1 ∙ sym (append-nil (told listens before words)) ∙ ap (λ (x : FrontEvent). told listens before words ++ completed_by page x) (sym j.0),
    )
slot_step true place word joined listens paired now page before b2 words w2 s m j h =
    let e = second_slot listens paired page place word before b2 words w2 m h in
    let k = j.2 in
    let second : now.second ≡ true = ap (λ (x : Paired). x.second) j.3 ∙ s in (
      subst (λ (b : Bool). InEither b listens now (page_after listens page joined) b2 w2) (sym second)
          (subst (λ (x : Paired). InSecond listens x (page_after listens page joined) b2 w2) (sym j.3)
          (subst (λ (x : FrontEvent). InSecond listens (after_second paired) (page_after listens page x) b2 w2) (sym j.1)
          (subst (λ (x : Option WordKind). InSecond listens (after_second paired) (open_after listens place page x) b2 w2) (sym k) e.0))),
      e.1 ∙ ap (λ (x : Option WordKind). told listens before words ++ completed page x) (sym k)
          ∙ ap (λ (x : FrontEvent). told listens before words ++ completed_by page x) (sym j.1),
    )

same_step : (event joined : FrontEvent) (listens : ℕ → Bool) (paired now : Paired) (page : Option HeardPage) (before b2 : List (List ℕ)) (words w2 : Option (List ℕ))
    → joined ≡ event → now ≡ paired → page_after listens page event ≡ page → completed_by page event ≡ []
    → InEither paired.second listens paired page b2 w2 × (told listens b2 w2 ≡ told listens before words)
    → InEither now.second listens now (page_after listens page joined) b2 w2 × (told listens b2 w2 ≡ told listens before words ++ completed_by page joined)
same_step event joined listens paired now page before b2 words w2 j n same none e = (
  subst (λ (x : Paired). InEither x.second listens x (page_after listens page joined) b2 w2) (sym n)
      (subst (λ (x : FrontEvent). InEither paired.second listens paired (page_after listens page x) b2 w2) (sym j)
      (subst (λ (o : Option HeardPage). InEither paired.second listens paired o b2 w2) (sym same) e.0)),
  e.1 ∙ sym (append-nil (told listens before words)) ∙ ap (λ (ps : List HeardPage). told listens before words ++ ps) (sym (ap (completed_by page) j ∙ none)),
)

-- an event of the front end, and what the pairing makes of it
pub twin_step : (event joined : FrontEvent) (listens : ℕ → Bool) (paired now : Paired) (page : Option HeardPage) (before b2 : List (List ℕ)) (words w2 : Option (List ℕ))
    → FrontMoves event before words b2 w2 → JoinsEvent paired event joined now → InEither paired.second listens paired page before words
    → InEither now.second listens now (page_after listens page joined) b2 w2 × (told listens b2 w2 ≡ told listens before words ++ completed_by page joined)
twin_step Still joined listens paired now page before b2 words w2 m j h =
    same_step Still joined listens paired now page before b2 words w2 j.0 j.1 refl refl
    (either_still paired.second listens paired page before b2 words w2 m.0 (slots_same_still before b2 words w2 m) h)
twin_step Batch joined listens paired now page before b2 words w2 m j h =
    same_step Batch joined listens paired now page before b2 words w2 j.0 j.1 refl refl
    (either_still paired.second listens paired page before b2 words w2 m.0 (slots_same_batch before b2 words w2 m) h)
twin_step (Slot place word) joined listens paired now page before b2 words w2 m j h =
    slot_step paired.second place word joined listens paired now page before b2 words w2 refl m j h
twin_step Lost joined listens paired now page before b2 words w2 m j h =
    let e = either_lost paired.second listens paired page before b2 words w2 refl m h in (
      subst (λ (x : Paired). InEither x.second listens x (page_after listens page joined) b2 w2) (sym j.1)
          (subst (λ (x : FrontEvent). InEither (not paired.second) listens (after_lost paired) (page_after listens page x) b2 w2) (sym j.0) e.0),
      e.1 ∙ sym (append-nil (told listens before words)) ∙ ap (λ (x : FrontEvent). told listens before words ++ completed_by page x) (sym j.0),
    )
