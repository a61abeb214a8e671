-- What a run promises of the pages that receivers hear.
use Rattle.std.proofs.Common.{◌≡◌, ℕ, ◌+◌, ◌≤◌, ◌==◌, Bool, true, false, ◌||◌, map, List, [], ◌∷◌, length, take, drop, Option, Some, None, Ok, refl, sym, ◌∙◌, ap, ap₂, subst, append-nil, append_assoc, arith, eqb-true, ◌++◌, inl, inr}
use Rattle.std.proofs.lemmas.List.{length-take, take-append-drop, take-map}
use Rattle.std.proofs.lemmas.List.Elements.{All-nil, All-cons, All-head, All-tail}
use Rattle.std.specs.Prelude.{◌⊎◌, IsTrue, All}
use Rattle.std.specs.List.{AllByRecursion, concat, sum_by}
use Rattle.std.proofs.lemmas.List.Folds.{list_any-append}
use Rattle.bits.specs.Bits.{bytes_bits, xor}
use Rattle.codeword.specs.Capcodes.{IsUsable}
use Rattle.page_text.specs.Page.{Page, IsAcceptable}
use Rattle.subscribers.specs.Parts.{Parts}
use Rattle.subscribers.specs.Settings.{settings_of}
use Rattle.air.proofs.Near.{near-airs}
use Rattle.air.specs.Air.{IsAir}
use Rattle.air.specs.Near.{IsAirs, Near}
use Rattle.receiver.specs.Heard.{heard, with_text}
use Rattle.receiver.specs.Listeners.{is_one_of}
use Rattle.receiver.specs.Shown.{has_of, pages_in, pages_of_frame}
use Rattle.receiver.specs.Stretches.{first_stretches, stretches}
use Rattle.receiver.proofs.Shown.{shown_by-shown}
use Rattle.wires.specs.Files.{Files}
use Rattle.wires.specs.Left.{Left}
use Rattle.wires.specs.Line.{Line}
use Rattle.wires.specs.Stacked.{noisy_bits}
use Rattle.wires.specs.Written.{Written}
use Rattle.sampler.proofs.Line.{line_back}
use Rattle.station.proofs.ProtocolSessions.{are_acceptable, one_in, queued_at_sends}
use Rattle.station.proofs.AirRooms.{pages_within}
use Rattle.station.proofs.FewCells.{few_cells}
use Rattle.command_lines.proofs.Pairs.{has-listed}
use Rattle.near.proofs.NearAir.{near_air}
use Rattle.page_pool.specs.Cells.{cells_of}
use Rattle.repeats.specs.Kept.{NearOrNone, kept_pages}
use Rattle.repeats.specs.Twin.{held_slots, heard_twice, twins}
use Rattle.repeats.proofs.Kept.{kept_frames}
use Rattle.serving.proofs.FewWords.{slots_by_cells}
use Rattle.serving.specs.Sent.{once, twice}
use Rattle.serving.proofs.WholeSessions.{turn-wholes}
use Rattle.station.specs.declared.outcomes.Outcome.{Outcome}
use Rattle.station.specs.declared.outcomes.Outcome.TheVariants.{Ended, Misread, Refused}
use Rattle.endings.specs.declared.statuses.Status.TheVariants.{Done, FileFault, OutFault, Usage, WireFault}
use Rattle.command_lines.specs.Commands.{AreCommand, Command, IsCapcodeWord, IsReceiverWord, Load, One, Play, PlayLine, Say, Send, Show, Snpp, Station, Trial, Twice, WriteLine, plus_parts}
use Rattle.near.specs.NearAir.{AreUsable}
use Rattle.station.specs.Promises.{AcceptedWhileFit, AreAccepted, FaultPromise, FilePromise, HearLists, HearNear, HearNearLine, HearsTrial, QueuedAtSends, ServedSend, HearsTwice, StationPromise, TrialPromise, TwicePromise, accepted_in}
use Rattle.station.specs.ReadFile.{ReadSettings, Unreadable}
use Rattle.station.specs.Rows.{Acts, Objects, Promises}
use Rattle.serving.specs.Protocols.{Protocol, SessionIn, queued_in, snpp, tap}
use Rattle.serving.specs.Served.{AllFrom, IsWhole, Served, ServedInTurn, airs}
use Rattle.serving.specs.Serving.{Around, AtAppendFault, AtFreshFault}
use Rattle.station.specs.StationRows.{AreFileBits, LeavesWireAndOut, ServedBy, StationRow, TrialRow, with_shelf}

-- ---- capcodes of words are usable

usable_or : (c x : ℕ) (capcodes : List ℕ) (same : Bool) → (c == x) ≡ same → IsUsable c → (is_one_of capcodes x ≡ true → IsUsable x) → is_one_of (c ∷ capcodes) x ≡ true → IsUsable x
usable_or c x capcodes true e u later h = subst IsUsable (eqb-true c x e) u
usable_or c x capcodes false e u later h = later (sym (ap (λ (t : Bool). t || is_one_of capcodes x) e) ∙ h)

AreUsable-parts : (parts : List (List ℕ)) (capcodes : List ℕ) → Say IsCapcodeWord parts capcodes → AreUsable (is_one_of capcodes)
AreUsable-parts [] [] h x k = absurd cc
AreUsable-parts [] (c ∷ capcodes) h x k = elim h [ ]
AreUsable-parts (w ∷ parts) [] h x k = elim h [ ]
AreUsable-parts (w ∷ parts) (c ∷ capcodes) h x k = usable_or c x capcodes (c == x) refl h.0.usable (AreUsable-parts parts capcodes h.1 x) k

either : (a b : Bool) (A : Type 0) → (a ≡ true → A) → (b ≡ true → A) → (a || b) ≡ true → A
either true b A h k e = h refl
either false b A h k e = k e

AreUsable-words : (words receivers : List (List ℕ)) → Say IsReceiverWord words receivers → AreUsable (is_one_of (concat receivers))
AreUsable-words [] [] h x k = absurd cc
AreUsable-words [] (r ∷ receivers) h x k = elim h [ ]
AreUsable-words (w ∷ words) [] h x k = elim h [ ]
AreUsable-words (w ∷ words) (r ∷ receivers) h x k =
    either (is_one_of r x) (is_one_of (concat receivers) x) (IsUsable x) (AreUsable-parts (plus_parts w) r h.0.say x) (AreUsable-words words receivers h.1 x)
    (sym (list_any-append (λ c. c == x) r (concat receivers)) ∙ k)

-- ---- near transmissions

HearNear-from : (receivers : List (List ℕ)) (bits : List Bool) → AreUsable (is_one_of (concat receivers)) → HearNear receivers bits
HearNear-from receivers bits u lists h near number f some most =
    let has = has_of receivers in
    ap (pages_of_frame f) (shown_by-shown has number (map with_text (heard (is_one_of (concat receivers)) bits)) some most)
    ∙ near_air (is_one_of (concat receivers)) lists bits u h near (has number) f (λ c held. has-listed receivers number c held)

HearNearLine-from : (receivers : List (List ℕ)) (samples : List Bool) → AreUsable (is_one_of (concat receivers)) → HearNearLine receivers samples
HearNearLine-from receivers samples u lists bits h near line short =
    subst (λ (heard : List Bool). HearLists receivers lists heard) (sym (line_back bits samples line short)) (HearNear-from receivers bits u lists h near)

-- ---- a trial

noisy_bits-silent : (bs ns : List Bool) → All (λ bit. bit ≡ false) ns → noisy_bits bs ns ≡ bs
noisy_bits-silent [] ns h = refl
noisy_bits-silent (b ∷ bs) [] h = refl
noisy_bits-silent (b ∷ bs) (n ∷ ns) h =
    ap₂ (λ (x : Bool) (xs : List Bool). x ∷ xs) (ap (xor b) (All-head (λ bit. bit ≡ false) n ns h) ∙ xor_none b) (noisy_bits-silent bs ns (All-tail (λ bit. bit ≡ false) n ns h))
  where
    xor_none : (b : Bool) → xor b false ≡ b
    xor_none true = refl
    xor_none false = refl

-- one transmission
one_air : (pages : List Page) (air : List Bool) → IsAir pages air → IsAirs (pages ∷ []) air
unfolding IsAirs
one_air pages air h = (air, [], h, refl, sym (append-nil air))

hears_trial : (receivers : List (List ℕ)) (pages : List Page) (air flips noise : List Bool) → AreUsable (is_one_of (concat receivers)) → All IsAcceptable pages → IsAir pages air
    → noisy_bits air flips ≡ noisy_bits air noise → HearsTrial receivers pages air flips noise
hears_trial receivers pages air flips noise u h a e =
    let all = All-cons (All IsAcceptable) pages [] h (All-nil (All IsAcceptable)) in
    let hears : HearNear receivers (noisy_bits air flips) = HearNear-from receivers (noisy_bits air flips) u in
    record {
      bits = e;
      near = hears (pages ∷ []) all;
      silent = λ quiet. hears (pages ∷ []) all
          (subst (λ (xs : List Bool). Near (pages ∷ []) xs) (sym (e ∙ noisy_bits-silent air noise quiet)) (near-airs (pages ∷ []) air (one_air pages air a)));
    }

-- the bits of a file of a shelf whose files are those of another
file_same : (name : List ℕ) (old now : Files) (bits : Left Bool) (settings : List ℕ) (parts : Parts) → ReadSettings settings old now parts → AreFileBits name now bits
    → IsTrue old.tells → IsTrue bits.tells × (bits.left ≡ bytes_bits (old.file name))
file_same name old now bits settings parts r b t =
    (subst IsTrue (sym (b.tells ∙ r.unharmed.kept.tells)) t, b.left ∙ ap (λ files. bytes_bits (files.file name)) r.unharmed.kept.files)

trial_promise : (settings noise : List ℕ) (receivers : List (List ℕ)) (input0 input : Left ℕ) (old new : Files) (out0 out : Written ℕ) (outcome : Outcome)
    (row : TrialRow once settings noise receivers input0 input old new out0 out outcome) → AreUsable (is_one_of (concat receivers))
    → TrialPromise settings noise receivers input0 input old new out0 out outcome row
trial_promise settings noise receivers input0 input old new out0 out (Refused fault) row u = tt
trial_promise settings noise receivers input0 input old new out0 out (Misread fault) row u = tt
trial_promise settings noise receivers input0 input old new out0 out (Ended Done) row u = λ t.
    let b = file_same noise old row.shelf row.tried.bits settings row.parts row.read row.tried.bits_are t in
    let s = row.tried.tries.tried in
    hears_trial receivers s.session.pages s.air row.tried.tries.flips (bytes_bits (old.file noise)) u
    (are_acceptable tap (old.file settings) row.parts row.parts.cells s.taken s.session (row.read.settings_are t) s.session_is)
    s.is_sent (row.tried.tries.of_noise b.0 ∙ ap (noisy_bits s.air) b.1)
trial_promise settings noise receivers input0 input old new out0 out (Ended Usage) row u = tt
trial_promise settings noise receivers input0 input old new out0 out (Ended status) row u = tt

-- ---- a trial whose transmission is sent twice

-- the kept pages of so few cells: their transmission has no more slots than are held
kept_twice : (listens : ℕ → Bool) (pages : List Page) (bits : List Bool) → AreUsable listens → All IsAcceptable pages → sum_by cells_of pages ≤ 65536 → (near : NearOrNone pages bits)
    → (set : ℕ → Bool) (f : ℕ) → ((capcode : ℕ) → set capcode ≡ true → listens capcode ≡ true)
    → pages_of_frame f (pages_in set (map with_text (heard_twice listens bits))) ≡ pages_of_frame f (pages_in set (kept_pages pages bits near))
unfolding held_slots stretches first_stretches twins
kept_twice listens [] bits u h le near set f a = ap (λ (none : List Bool). pages_of_frame f (pages_in set (map with_text (heard_twice listens none)))) near
kept_twice listens (page ∷ pages) bits u h le near set f a =
    kept_frames listens (page ∷ pages) bits u h (λ slots are. let n = slots_by_cells page pages slots 65536 are le in omega (arith, n)) near set f a

hears_twice : (receivers : List (List ℕ)) (pages : List Page) (air flips noise : List Bool) → AreUsable (is_one_of (concat receivers)) → All IsAcceptable pages → sum_by cells_of pages ≤ 65536
    → noisy_bits air flips ≡ noisy_bits air noise → HearsTwice receivers pages air flips noise
hears_twice receivers pages air flips noise u h few e = record {
  bits = e;
  kept = λ near number f some most.
      let has = has_of receivers in
      let heard = noisy_bits air flips in
      ap (pages_of_frame f) (shown_by-shown has number (map with_text (heard_twice (is_one_of (concat receivers)) heard)) some most)
      ∙ kept_twice (is_one_of (concat receivers)) pages heard u h few near (has number) f (λ c held. has-listed receivers number c held);
}

twice_promise : (settings noise : List ℕ) (receivers : List (List ℕ)) (input0 input : Left ℕ) (old new : Files) (out0 out : Written ℕ) (outcome : Outcome)
    (row : TrialRow twice settings noise receivers input0 input old new out0 out outcome) → AreUsable (is_one_of (concat receivers))
    → TwicePromise settings noise receivers input0 input old new out0 out outcome row
twice_promise settings noise receivers input0 input old new out0 out (Refused fault) row u = tt
twice_promise settings noise receivers input0 input old new out0 out (Misread fault) row u = tt
twice_promise settings noise receivers input0 input old new out0 out (Ended Done) row u = λ t.
    let b = file_same noise old row.shelf row.tried.bits settings row.parts row.read row.tried.bits_are t in
    let s = row.tried.tries.tried in
    let are = row.read.settings_are t in
    let within = pages_within row.parts row.parts.cells s.taken s.session s.session_is in
    let most = few_cells (old.file settings) row.parts are in
    hears_twice receivers s.session.pages s.air row.tried.tries.flips (bytes_bits (old.file noise)) u
    (are_acceptable tap (old.file settings) row.parts row.parts.cells s.taken s.session are s.session_is) (omega (arith, within, most))
    (row.tried.tries.of_noise b.0 ∙ ap (noisy_bits s.air) b.1)
twice_promise settings noise receivers input0 input old new out0 out (Ended Usage) row u = tt
twice_promise settings noise receivers input0 input old new out0 out (Ended status) row u = tt

-- ---- sessions that were served

airs_of : {p : Protocol} {settings : Parts} {spare : ℕ} (sessions : List (Served p settings spare)) → IsAirs (accepted_in sessions) (airs sessions)
unfolding IsAirs
airs_of [] = refl
airs_of (s ∷ sessions) = (s.bits, airs sessions, s.is_air, airs_of sessions, refl)

acceptable_in : (bytes : List ℕ) {p : Protocol} {settings : Parts} {spare : ℕ} (sessions : List (Served p settings spare)) → settings_of bytes ≡ Ok settings → All (All IsAcceptable) (accepted_in sessions)
acceptable_in bytes [] h = All-nil (All IsAcceptable)
acceptable_in bytes {p = p} {settings = settings} {spare = spare} (s ∷ sessions) h =
    All-cons (All IsAcceptable) (queued_in p s.ran.session) (accepted_in sessions) (are_acceptable p bytes settings spare s.ran.fed s.ran.session h s.ran.session_is)
    (acceptable_in bytes sessions h)

-- the pages that whole sessions accepted
accepted_from : {p : Protocol} {settings : Parts} {spare : ℕ} (first now : Line) (k : ℕ) (sessions : List (Served p settings spare)) → AllFrom (IsWhole first now) k sessions → AllFrom (AreAccepted p settings spare first) k (accepted_in sessions)
accepted_from first now k [] h = tt
accepted_from {p} {settings} {spare} first now k (s ∷ sessions) h = (
  λ session is. ap (λ (z : SessionIn p). queued_in p z) (one_in p settings spare (first.connection k).rest session s.ran.session is (h.0).session_is),
  accepted_from first now (k + 1) sessions h.1,
)

-- the first sessions of those that were served in turn
accepted_while : {p : Protocol} {settings : Parts} {spare : ℕ} (first now : Line) (sessions more : List (Served p settings spare)) → ServedInTurn first now (sessions ++ more) → IsTrue first.tells → IsTrue first.steady
    → AcceptedWhileFit p settings spare first (accepted_in sessions)
accepted_while {p} {settings} {spare} first now sessions more h t st n fit =
    let cut : take n sessions ++ (drop n sessions ++ more) ≡ sessions ++ more =
    sym (append_assoc (take n sessions) (drop n sessions) more) ∙ ap (λ (l : List (Served p settings spare)). l ++ more) (take-append-drop n sessions) in
    let turn = subst (λ (l : List (Served p settings spare)). ServedInTurn first now l) (sym cut) h in
    let few : length (take n sessions) ≤ n = simp length-take (omega arith) in
    let whole = turn-wholes first now (take n sessions) (drop n sessions ++ more) turn t st (λ k from lt. fit k from (omega (arith, lt, few))) in
    subst (λ (l : List (List Page)). AllFrom (AreAccepted p settings spare first) first.opened l) (sym (take-map (λ (s : Served p settings spare). queued_in p s.ran.session) n sessions))
    (accepted_from first now first.opened (take n sessions) whole)

-- each SEND that was answered 250 queued a page
all_queued : {p : Protocol} {settings : Parts} {spare : ℕ} (sessions : List (Served p settings spare)) → AllByRecursion (λ (s : Served p settings spare). QueuedAtSends p settings s.ran.fed s.ran.session) sessions
all_queued [] = tt
all_queued {p} {settings} {spare} (s ∷ sessions) = (queued_at_sends p settings spare s.ran.fed s.ran.session s.ran.session_is, all_queued sessions)

-- what sessions send that were served by the settings of a file
served_send : (bytes : List ℕ) {p : Protocol} {settings : Parts} {spare : ℕ} (old : Around) (now : Line) (sessions more : List (Served p settings spare)) → ServedInTurn old.wire now (sessions ++ more) → (IsTrue old.shelf.tells → settings_of bytes ≡ Ok settings)
    → ServedSend old sessions
served_send bytes old now sessions more turn read = record {
  sends = λ t.
      let all = acceptable_in bytes sessions (read t) in
      record {
        acceptable = all;
        airs = airs_of sessions;
        clean = near-airs (accepted_in sessions) (airs sessions) (airs_of sessions);
        heard = λ receivers now u near. HearNear-from receivers now u (accepted_in sessions) all near;
      };
  queued = all_queued sessions;
  whole = λ t st. accepted_while old.wire now sessions more turn t st;
}

-- where these are all
all_send : (bytes : List ℕ) {p : Protocol} {settings : Parts} {spare : ℕ} (old : Around) (now : Line) (sessions : List (Served p settings spare)) → ServedInTurn old.wire now sessions → (IsTrue old.shelf.tells → settings_of bytes ≡ Ok settings)
    → ServedSend old sessions
all_send bytes {p = p} {settings = settings} {spare = spare} old now sessions turn read =
    served_send bytes old now sessions [] (subst (λ (l : List (Served p settings spare)). ServedInTurn old.wire now l) (sym (append-nil sessions)) turn) read

fault_promise : (p : Protocol) (bytes : List ℕ) (settings : Parts) (spare : ℕ) (first : Around) (files : Files) (new : Around) (address name : List ℕ) (most : ℕ)
    (h : AtFreshFault p settings spare (with_shelf first files) new name most ⊎ AtAppendFault p settings spare (with_shelf first files) new address name most)
    → (IsTrue first.shelf.tells → settings_of bytes ≡ Ok settings) → FaultPromise p settings spare first (with_shelf first files) new address name most h
fault_promise p bytes settings spare first files new address name most (inl fresh) read = tt
fault_promise p bytes settings spare first files new address name most (inr fault) read = served_send bytes first new.wire fault.sessions (fault.unsent ∷ []) fault.wire read

file_promise : (p : Protocol) (address settings air : List ℕ) (count : ℕ) (old new : Around) (row : (Unreadable settings old.shelf new.shelf × LeavesWireAndOut old new) ⊎ ServedBy p address settings air count old new FileFault)
    → FilePromise p address settings air count old new row
file_promise p address settings air count old new (inl unread) = tt
file_promise p address settings air count old new (inr by) = fault_promise p (old.shelf.file settings) by.parts by.parts.cells old by.shelf new address air count by.served by.read.settings_are

station_promise : (p : Protocol) (address settings air : List ℕ) (count : ℕ) (old new : Around) (outcome : Outcome) (row : StationRow p address settings air count old new outcome)
    → StationPromise p address settings air count old new outcome row
station_promise p address settings air count old new (Refused fault) row = tt
station_promise p address settings air count old new (Misread fault) row = tt
station_promise p address settings air count old new (Ended Done) row = all_send (old.shelf.file settings) old new.wire row.served.sessions row.served.wire row.read.settings_are
station_promise p address settings air count old new (Ended WireFault) row = all_send (old.shelf.file settings) old new.wire row.served.sessions row.served.wire row.read.settings_are
station_promise p address settings air count old new (Ended OutFault) row =
    all_send (old.shelf.file settings) old new.wire (row.served.sessions ++ row.served.unreported ∷ []) row.served.wire row.read.settings_are
station_promise p address settings air count old new (Ended FileFault) row = file_promise p address settings air count old new row
station_promise p address settings air count old new (Ended status) row = tt

-- ---- a run

pub promised : (words : List (List ℕ)) (command : Option Command) (old new : Objects) (outcome : Outcome) (acts : Acts command old new outcome) → AreCommand words command
    → Promises command old new outcome acts
promised words None old new outcome acts h = tt
promised words (Some (One capcode)) old new outcome acts h = tt
promised words (Some (Load seed count)) old new outcome acts h = tt
promised [] (Some (Play air receivers)) old new outcome acts h = elim h [ ]
promised (name ∷ []) (Some (Play air receivers)) old new outcome acts h = elim h.1 [ ]
promised (name ∷ w ∷ words) (Some (Play air receivers)) old new outcome acts h =
    HearNear-from receivers (bytes_bits (old.shelf.file air)) (AreUsable-words words receivers h.1.2.say)
promised [] (Some (PlayLine line receivers)) old new outcome acts h = elim h [ ]
promised (name ∷ []) (Some (PlayLine line receivers)) old new outcome acts h = elim h.1 [ ]
promised (name ∷ w ∷ words) (Some (PlayLine line receivers)) old new outcome acts h =
    HearNearLine-from receivers (bytes_bits (old.shelf.file line)) (AreUsable-words words receivers h.1.2.say)
promised words (Some (WriteLine air line seed)) old new outcome acts h = tt
promised words (Some (Show air)) old new outcome acts h = tt
promised words (Some (Send address pages)) old new outcome acts h = tt
promised words (Some (Station address settings air count)) old new outcome acts h = station_promise tap address settings air count _ _ outcome acts.row
promised words (Some (Snpp address settings air count)) old new outcome acts h = station_promise snpp address settings air count _ _ outcome acts.row
promised [] (Some (Trial settings noise receivers)) old new outcome acts h = elim h [ ]
promised (name ∷ []) (Some (Trial settings noise receivers)) old new outcome acts h = elim h.1 [ ]
promised (name ∷ s ∷ []) (Some (Trial settings noise receivers)) old new outcome acts h = elim h.1 [ ]
promised (name ∷ s ∷ f ∷ words) (Some (Trial settings noise receivers)) old new outcome acts h =
    trial_promise settings noise receivers _ _ _ _ _ _ outcome acts.row (AreUsable-words words receivers h.1.4.say)
promised [] (Some (Twice settings noise receivers)) old new outcome acts h = elim h [ ]
promised (name ∷ []) (Some (Twice settings noise receivers)) old new outcome acts h = elim h.1 [ ]
promised (name ∷ s ∷ []) (Some (Twice settings noise receivers)) old new outcome acts h = elim h.1 [ ]
promised (name ∷ s ∷ f ∷ words) (Some (Twice settings noise receivers)) old new outcome acts h =
    twice_promise settings noise receivers _ _ _ _ _ _ outcome acts.row (AreUsable-words words receivers h.1.4.say)
