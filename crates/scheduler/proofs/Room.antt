-- How many slots suffice.
use Rattle.std.proofs.Common.{◌≡◌, ◌≢◌, ℕ, zero, suc, ◌+◌, ◌-◌, ◌*◌, ◌%◌, ◌≤◌, ◌<◌, Bool, true, false, cond, ◌&&◌, List, [], ◌∷◌, length, eqb, refl, sym, ◌∙◌, arith, eq-eqb, eqb-true, inl, inr}
use Rattle.std.specs.List.{filter, sum_by}
use Rattle.std.proofs.lemmas.Bool.Decides.{eqb_tells}
use Rattle.page_text.specs.Page.{Page}
use Rattle.codeword.specs.Capcodes.{frame_at}
use Rattle.scheduler.specs.Slots.{PlanPiece, Idle, Run, run, frame, in_frame, place}
use Rattle.scheduler.specs.Plan.{is_done, without_first, some_pieces, way, room}
use Rattle.scheduler.proofs.Frames.{true_or_false, filter-yes, size, run_size, length-without_first, sum-without_first}
use Rattle.scheduler.proofs.Pieces.{place-run}
use Rattle.scheduler.proofs.Lays.{Lays, stop, wait, send}

-- a frame is at most seven frames away
pub way_short : (start f : ℕ) → f < 8 → way start f ≤ 14
way_short start f h = elim (eqb_tells (frame_at start) f) [ inl a ↦ rw a.0 (omega arith) | inr a ↦ rw a.0 (omega (arith, a.1)) ]

-- at each place of other frames it comes nearer
pub way_falls : (start f : ℕ) → f < 8 → frame_at start ≢ f → way (start + 1) f + 1 ≤ way start f
way_falls start f h n =
    elim (eqb_tells (frame_at start) f) [
      | inl a ↦ absurd (n a.1)
      | inr a ↦ elim (eqb_tells (frame_at (start + 1)) f) [
        | inl b ↦ rw (a.0, b.0) (omega (arith, a.1, b.1))
        | inr b ↦ rw (a.0, b.0) (omega (arith, a.1, b.1))
      ]
    ]

-- an idle place takes at least one slot from it
pub room_wait : (start : ℕ) (waiting : List Page) (idle : Bool) → filter (in_frame (frame_at start)) waiting ≡ []
    → is_done start waiting idle ≡ false → room (start + 1) waiting true + 1 ≤ room start waiting idle
room_wait start [] true none not =
    elim (eqb_tells (start % 16) 0) [
      | inl a ↦ let k : true ≡ false = sym a.0 ∙ not in cc
      | inr a ↦ rw a.0 (pad start a.1)
    ]
  where
    pad : (start : ℕ) → start % 16 ≢ 0 → cond (eqb ((start + 1) % 16) 0) 0 (16 - (start + 1) % 16) + 1 ≤ 16 - start % 16
    pad start n = elim (eqb_tells ((start + 1) % 16) 0) [ inl b ↦ rw b.0 (omega arith) | inr b ↦ rw b.0 (omega (arith, b.1)) ]
room_wait start [] false none not =
    elim (eqb_tells ((start + 1) % 16) 0) [ inl b ↦ rw b.0 (omega arith) | inr b ↦ rw b.0 (omega (arith, b.1)) ]
room_wait start (page ∷ waiting) idle none not =
    let out : frame_at start ≢ frame page = λ e. absurd (no e) in
    omega (arith, way_falls start (frame page) (omega arith) out)
  where
    no : frame_at start ≡ frame page → ⊥
    no e = let y = filter-yes (in_frame (frame_at start)) page waiting (eq-eqb (frame page) (frame_at start) (sym e)) in cc

-- the room is bounded by the lengths of the runs and the number of pages
pub room_short : (start : ℕ) (waiting : List Page) (idle : Bool)
    → room start waiting idle ≤ sum_by size waiting + 14 * length waiting + 16
room_short start [] idle = elim (true_or_false (idle && eqb (start % 16) 0)) [ inl a ↦ rw a (omega arith) | inr a ↦ rw a (omega arith) ]
room_short start (page ∷ waiting) idle = omega (arith, way_short start (frame page) (omega arith))

-- a run takes at least its length from the room
pub room_send : (start : ℕ) (waiting : List Page) (idle : Bool) (page : Page) (more : List Page)
    → filter (in_frame (frame_at start)) waiting ≡ page ∷ more
    → length (run page) + room (start + length (run page)) (without_first (frame_at start) waiting) false ≤ room start waiting idle
room_send start [] idle page more e = cc
room_send start (other ∷ waiting) idle page more e =
    let a = length-without_first (frame_at start) (other ∷ waiting) page more e in
    let b = sum-without_first (frame_at start) (other ∷ waiting) page more e in
    omega (arith, room_short (start + length (run page)) (without_first (frame_at start) (other ∷ waiting)) false)

-- where all is done, nothing follows
done_stop : (start : ℕ) (waiting : List Page) (idle : Bool) → is_done start waiting idle ≡ true → Lays start waiting idle []
done_stop start [] true d = stop (eqb-true (start % 16) 0 d)
done_stop start [] false d = cc
done_stop start (page ∷ waiting) idle d = cc

-- the choice at one place
some_pieces-chosen : (n start : ℕ) (waiting : List Page) (idle : Bool) (more : List Page)
    → filter (in_frame (frame_at start)) waiting ≡ more → is_done start waiting idle ≡ false
    → room start waiting idle ≤ suc n
    → ((start : ℕ) (waiting : List Page) (idle : Bool) → room start waiting idle ≤ n
    → Lays start waiting idle (some_pieces n start waiting idle))
    → Lays start waiting idle (elim more [
      | [] ↦ Idle ∷ some_pieces n (start + 1) waiting true
      | page ∷ _ ↦ Run page ∷ some_pieces n (start + length (run page)) (without_first (frame_at start) waiting) false
    ])
some_pieces-chosen n start waiting idle [] e d h ih =
    wait e d (ih (start + 1) waiting true (omega (arith, room_wait start waiting idle e d)))
some_pieces-chosen n start waiting idle (page ∷ more) e d h ih =
    send page more e (ih (start + length (run page)) (without_first (frame_at start) waiting) false
    (omega (arith, room_send start waiting idle page more e, run_size page)))

-- with room enough, the plan lays the pieces
pub some_pieces-lays : (n start : ℕ) (waiting : List Page) (idle : Bool) → room start waiting idle ≤ n
    → Lays start waiting idle (some_pieces n start waiting idle)
unfolding some_pieces
some_pieces-lays zero start [] true h =
    elim (eqb_tells (start % 16) 0) [
      | inl a ↦ stop a.1
      | inr a ↦ let none : 16 - start % 16 ≤ 0 = rw a.0 at h in absurd (omega (arith, none))
    ]
some_pieces-lays zero start [] false h = absurd (omega (arith, h))
some_pieces-lays zero start (page ∷ waiting) idle h = absurd (omega (arith, h))
some_pieces-lays (suc n) start waiting idle h =
    elim (true_or_false (is_done start waiting idle)) [
      | inl d ↦ rw (d, some_pieces) (done_stop start waiting idle d)
      | inr d ↦ rw (d, some_pieces) (some_pieces-chosen n start waiting idle (filter (in_frame (frame_at start)) waiting) refl d h
          (λ start waiting idle h. some_pieces-lays n start waiting idle h))
    ]

-- they take no more slots than the room
pub place-lays : (start : ℕ) (waiting : List Page) (idle : Bool) (pieces : List PlanPiece) → Lays start waiting idle pieces
    → place pieces ≤ room start waiting idle
place-lays start waiting idle pieces (stop h) = omega arith
place-lays start waiting idle pieces (wait {pieces = rest} none not r) =
    omega (arith, place-lays _ _ _ _ r, room_wait start waiting idle none not)
place-lays start waiting idle pieces (send {pieces = rest} sent more first r) =
    omega (arith, place-lays _ _ _ _ r, room_send start waiting idle sent more first, place-run sent rest)
