-- Steady objects are fit for a command where they have enough room.
use Rattle.std.proofs.Common.{◌≡◌, inl, inr, ℕ, zero, suc, ◌+◌, ◌*◌, ◌<◌, ◌≤◌, Bool, List, [], ◌∷◌, ◌++◌, length, length-append, codes, decimal, Option, Some, None, Result, Ok, Err, refl, ap, ap₂, subst, arith}
use Rattle.std.proofs.lemmas.Bool.{cases_lt}
use Rattle.std.proofs.lemmas.Fmt.{length-decimal-le}
use Rattle.air.specs.Air.{IsAir, transmission}
use Rattle.bits.specs.Bits.{bytes_bits, words_bits}
use Rattle.page_text.specs.declared.limits.TheConstants.{LONGEST_TEXT}
use Rattle.page_text.specs.Page.{Page}
use Rattle.page_pool.specs.Cells.{cells_for}
use Rattle.scheduler.specs.Plan.{slots_of}
use Rattle.scheduler.proofs.Schedules.{slots_of-schedule}
use Rattle.sampler.specs.Runs.{sampled_bits}
use Rattle.subscribers.specs.Parts.{Parts}
use Rattle.subscribers.specs.Settings.{settings_of}
use Rattle.subscribers.specs.declared.faults.SettingsFault.{SettingsFault}
use Rattle.tap_block.specs.Chars.{characters}
use Rattle.tap_entry.specs.declared.faults.PagesFault.{PagesFault}
use Rattle.tap_entry.specs.declared.faults.PagesFault.TheVariants as Pages
use Rattle.tap_entry.specs.PagesFile.{IsFileRefused, IsWrongLine}
use Rattle.subscribers.specs.Directory.{directory_of}
use Rattle.tap_terminal.specs.Session.{Session}
use Rattle.tap_terminal.proofs.Fronts.{session_exists}
use Rattle.tap_terminal.proofs.Sessions.{one_session}
use Rattle.wires.specs.Line.{Line}
use Rattle.wires.specs.Stacked.{noisy_bits}
use Rattle.station.specs.declared.outcomes.Outcome.{Outcome}
use Rattle.station.specs.declared.outcomes.Outcome.TheVariants.{Ended, Misread, Refused}
use Rattle.endings.specs.declared.statuses.Status.{Status}
use Rattle.endings.specs.declared.statuses.Status.TheVariants.{Done, Usage, Settings, FileFault, WireFault, OutFault, InputFault, NotBlock, BadSum, BadText, TooLong, LogonRefused, SomeUnsent, Memory, BadPages}
use Rattle.station.specs.AirRoom.{most_air, most_said}
use Rattle.one_block.specs.AlphaPage.{alpha_page}
use Rattle.command_lines.specs.Commands.{Command, Load, One, Play, PlayLine, Send, Show, Snpp, Station, Trial, Twice, WriteLine}
use Rattle.station.specs.FitWorlds.{roomy_connection, AreSteady, FitErrWithRoom, FitInMemory, FitWithRoom, HasFiles, longest_line_about, world, roomy}
use Rattle.one_block.specs.LoneBlock.{HasText}
use Rattle.station.specs.OneOutcome.{bits_listened}
use Rattle.station.specs.OneSend.{FitSend}
use Rattle.station.specs.OneStation.{FitStation}
use Rattle.station.specs.OneTrial.{FitTrial}
use Rattle.station.specs.Outcomes.{line_about, pages_line}
use Rattle.listening.specs.PageLines.{play_lines}
use Rattle.serving.specs.ReportLine.{longest_line}
use Rattle.station.specs.Rows.{Acts, Objects, around}
use Rattle.serving.specs.Sent.{IsSent, Times, once, twice}
use Rattle.serving.specs.TapSessions.{SessionOf}
use Rattle.station.specs.StationRows.{lines_by}
use Rattle.endings.specs.Statuses.{status_line}
use Rattle.load.specs.Report.{load_lines}
use Rattle.load.specs.declared.report.Report.{Report}
use Rattle.listening.specs.Table.{table_of}
use Rattle.serving.specs.Trying.{trial_lines}
use Rattle.station.proofs.AirRooms.{air_few}
use Rattle.station.proofs.FitRooms.{shelf_fits}
use Rattle.station.proofs.ProtocolSessions.{one_in}
use Rattle.serving.proofs.Protocols.{exists_in}
use Rattle.serving.specs.Protocols.{IsSessionIn, Protocol, SessionIn, snpp, spoken, tap}
use Rattle.station.proofs.CallRooms.{call_fits}
use Rattle.station.proofs.EntryNumbers.{refusal_few}
use Rattle.load.proofs.OneReport.{load_report, one_report}
use Rattle.serving.proofs.TriedWell.{one_sent}

-- ---- sums of the first values of a function

abbrev sum_to : (ℕ → ℕ) → ℕ → ℕ
sum_to f zero = 0
sum_to f (suc n) = f n + sum_to f n

within_sum : (f : ℕ → ℕ) (n k : ℕ) → k < n → f k ≤ sum_to f n
within_sum f zero k lt = absurd (omega (arith, lt))
within_sum f (suc n) k lt = elim (cases_lt k n) [
  | inl less ↦ (let h = within_sum f n k less in omega (arith, h))
  | inr not_less ↦ (let e : n ≡ k = omega (arith, lt, not_less) in subst (λ (j : ℕ). f j ≤ f n + sum_to f n) e (omega arith))
]

-- ---- what sessions and calls take

abbrev spoken_room : Protocol → Parts → ℕ → List ℕ → ℕ
spoken_room p settings spare rest = length (spoken p (exists_in p settings spare rest).0)

spoken_fits : (p : Protocol) (settings : Parts) (spare : ℕ) (rest : List ℕ) (session : SessionIn p) → IsSessionIn p settings spare rest session → length (spoken p session) ≤ spoken_room p settings spare rest
spoken_fits p settings spare rest session h =
    let some = exists_in p settings spare rest in
    let same : session ≡ some.0 = one_in p settings spare rest session some.0 h some.1 in
    omega (arith, ap (λ (s : SessionIn p). length (spoken p s)) same)

abbrev wire_room : Protocol → Parts → ℕ → Line → ℕ
wire_room p settings spare wire = sum_to (λ k. spoken_room p settings spare (wire.connection k).rest) wire.count

abbrev air_of : List Page → List Bool
air_of [] = []
air_of (page ∷ pages) = words_bits (transmission (slots_of (page ∷ pages)))

is_air_of : (pages : List Page) → IsAir pages (air_of pages)
is_air_of [] = refl
is_air_of (page ∷ pages) = (slots_of (page ∷ pages), slots_of-schedule (page ∷ pages) (λ e. absurd cc), refl)

abbrev sent_by : Times → List Page → List Bool
sent_by once accepted = air_of accepted
sent_by twice accepted = air_of accepted ++ air_of accepted

is_sent_by : (times : Times) (accepted : List Page) → IsSent times accepted (sent_by times accepted)
is_sent_by once accepted = is_air_of accepted
is_sent_by twice accepted = (air_of accepted, is_air_of accepted, refl)

-- ---- each command

-- one page with a text that fits
one_fits : (capcode : ℕ) (body text : List ℕ) (bits : List Bool) → HasText body text → IsAir (alpha_page capcode text ∷ []) bits → length bits ≤ 8 * most_air (cells_for LONGEST_TEXT)
one_fits capcode body text bits h a =
    let few = h.fits.short in
    air_few (alpha_page capcode text ∷ []) bits (cells_for LONGEST_TEXT) a (omega (arith, few))

abbrev station_by : Protocol → ℕ → Line → Result Parts SettingsFault → ℕ
station_by p count wire (Ok parts) = wire_room p parts parts.cells wire + count * most_air parts.cells
station_by p count wire (Err fault) = 0

abbrev station_room : Protocol → ℕ → Objects → List ℕ → ℕ
station_room p count old settings = station_by p count old.wire (settings_of (old.shelf.file settings)) + count * longest_line

fit_station : (p : Protocol) (address settings air : List ℕ) (count : ℕ) (old : Objects) → AreSteady old → HasFiles (Some (Station address settings air count)) old → (room : ℕ) → station_room p count old settings ≤ room
    → FitStation p settings air count (around (roomy room old))
fit_station p address settings air count old s h room le = record {
  tells = s.shelf_tells;
  steady = s.shelf_steady;
  there = h.0;
  wire = λ parts e. record {
    tells = s.wire_tells;
    steady = s.wire_steady;
    fits = λ k from next lt session is.
        let a = spoken_fits p parts parts.cells (old.wire.connection k).rest session is in
        let b = within_sum (λ j. spoken_room p parts parts.cells (old.wire.connection j).rest) old.wire.count k lt in
        omega (arith, a, b, le, ap (station_by p count old.wire) e);
  };
  shelf = λ parts e. shelf_fits p parts parts.cells count (roomy room old).wire (roomy room old).shelf air s.wire_tells s.shelf_tells s.shelf_steady h.1 (omega (arith, le, ap (station_by p count old.wire) e));
  out = record { tells = s.out_tells; steady = s.out_steady; fits = omega (arith, le) };
}

abbrev trial_by : Times → List (List ℕ) → List ℕ → List Bool → Result Parts SettingsFault → ℕ
trial_by times receivers input noise (Ok parts) =
    let some = session_exists parts.password (directory_of parts) parts.cells (characters input) in
    length (trial_lines (lines_by times receivers) some.0 (noisy_bits (sent_by times some.0.pages) noise))
trial_by times receivers input noise (Err fault) = 0

abbrev trial_room : Times → List (List ℕ) → Objects → List ℕ → List ℕ → ℕ
trial_room times receivers old settings noise = trial_by times receivers old.streams.input.left (bytes_bits (old.shelf.file noise)) (settings_of (old.shelf.file settings))

trial_fits : (times : Times) (receivers : List (List ℕ)) (input : List ℕ) (noise : List Bool) (parts : Parts) (session : Session) (air : List Bool) → SessionOf parts parts.cells input session → IsSent times session.pages air
    → length (trial_lines (lines_by times receivers) session (noisy_bits air noise)) ≡ trial_by times receivers input noise (Ok parts)
trial_fits times receivers input noise parts session air h a =
    let some = session_exists parts.password (directory_of parts) parts.cells (characters input) in
    let same : session ≡ some.0 = one_session parts.password (directory_of parts) parts.cells (characters input) session some.0 h some.1 in
    let bits : air ≡ sent_by times some.0.pages = one_sent times some.0.pages (sent_by times some.0.pages) air (is_sent_by times some.0.pages) (subst (λ (z : Session). IsSent times z.pages air) same a) in
    ap₂ (λ (z : Session) (b : List Bool). length (trial_lines (lines_by times receivers) z (noisy_bits b noise))) same bits

fit_trial : (times : Times) (settings noise : List ℕ) (receivers : List (List ℕ)) (old : Objects) → AreSteady old → HasFiles (Some (Trial settings noise receivers)) old → (room : ℕ) → trial_room times receivers old settings noise ≤ room
    → FitTrial times settings noise receivers (roomy room old).shelf (roomy room old).streams
fit_trial times settings noise receivers old s h room le = record {
  tells = s.shelf_tells;
  steady = s.shelf_steady;
  there = h.0;
  noise_there = h.1;
  input_tells = s.input_tells;
  input_steady = s.input_steady;
  out_tells = s.out_tells;
  out_steady = s.out_steady;
  room = λ parts e session air is a.
      let f = trial_fits times receivers old.streams.input.left (bytes_bits (old.shelf.file noise)) parts session air is a in
      omega (arith, f, le, ap (trial_by times receivers old.streams.input.left (bytes_bits (old.shelf.file noise))) e);
}

abbrev send_room : List ℕ → ℕ
send_room rest = most_said 1000 (length rest) + 20 * 1000

fit_send : (address pages : List ℕ) (old : Objects) → AreSteady old → (h : HasFiles (Some (Send address pages)) old) → (room : ℕ) → send_room (old.wire.connection old.wire.opened).rest ≤ room
    → FitSend pages (around (roomy room old))
fit_send address pages old s h room le = record {
  tells = s.shelf_tells;
  steady = s.shelf_steady;
  there = h.0;
  wire_tells = s.wire_tells;
  wire_steady = s.wire_steady;
  left = h.1;
  wire_room = λ told is. let few = is.whole.few in call_fits (old.shelf.file pages) told (roomy_connection room (old.wire.connection old.wire.opened)) is (omega (arith, few, le));
  out_tells = s.out_tells;
  out_steady = s.out_steady;
  out_room = λ told is. let few = is.whole.few in omega (arith, few, le);
}

pub fit_with_room : FitWithRoom
fit_with_room None old s h = (0, λ room le. tt)
fit_with_room (Some (One capcode)) old s h = (
  most_air (cells_for LONGEST_TEXT),
  λ room le. record {
    input_tells = s.input_tells;
    input_steady = s.input_steady;
    tells = s.out_tells;
    steady = s.out_steady;
    of_bytes = s.out_bytes;
    room = λ body text bits is has air. let a = one_fits capcode body text bits has air in omega (arith, a, le);
  },
)
fit_with_room (Some (Load seed count)) old s h = (
  length (load_lines (load_report seed count)),
  λ room le. record { tells = s.out_tells; steady = s.out_steady; room = λ report is. let e = ap (λ (r : Report). length (load_lines r)) (one_report seed count report is) in omega (arith, e, le) },
)
fit_with_room (Some (Play air receivers)) old s h = (length (play_lines receivers (bits_listened air old.shelf)), λ room le. (record { tells = s.shelf_tells; steady = s.shelf_steady; there = h }, record { tells = s.out_tells; steady = s.out_steady; room = le }))
fit_with_room (Some (PlayLine line receivers)) old s h =
    (length (play_lines receivers (sampled_bits (bits_listened line old.shelf))), λ room le. (record { tells = s.shelf_tells; steady = s.shelf_steady; there = h }, record { tells = s.out_tells; steady = s.out_steady; room = le }))
fit_with_room (Some (WriteLine air line seed)) old s h =
    (8 * length (old.shelf.file air), λ room le. record { tells = s.shelf_tells; steady = s.shelf_steady; there = h.0; fresh = h.1; room = le })
fit_with_room (Some (Show air)) old s h = (length (table_of (bits_listened air old.shelf)), λ room le. (record { tells = s.shelf_tells; steady = s.shelf_steady; there = h }, record { tells = s.out_tells; steady = s.out_steady; room = le }))
fit_with_room (Some (Station address settings air count)) old s h = (station_room tap count old settings, λ room le. fit_station tap address settings air count old s h room le)
fit_with_room (Some (Snpp address settings air count)) old s h = (station_room snpp count old settings, λ room le. fit_station snpp address settings air count old s h room le)
fit_with_room (Some (Trial settings noise receivers)) old s h = (trial_room once receivers old settings noise, λ room le. fit_trial once settings noise receivers old s h room le)
fit_with_room (Some (Twice settings noise receivers)) old s h = (trial_room twice receivers old settings noise, λ room le. fit_trial twice settings noise receivers old s h room le)
fit_with_room (Some (Send address pages)) old s h = (send_room (old.wire.connection old.wire.opened).rest, λ room le. fit_send address pages old s h room le)

-- ---- the line about an outcome

status_few : (status : Status) → length (status_line status) ≤ 32
status_few Done = omega arith
status_few Usage = omega arith
status_few Settings = omega arith
status_few FileFault = omega arith
status_few WireFault = omega arith
status_few OutFault = omega arith
status_few InputFault = omega arith
status_few NotBlock = omega arith
status_few BadSum = omega arith
status_few BadText = omega arith
status_few TooLong = omega arith
status_few LogonRefused = omega arith
status_few SomeUnsent = omega arith
status_few Memory = omega arith
status_few BadPages = omega arith

wrong_line_few : (bytes : List ℕ) (n : ℕ) → IsWrongLine bytes n → n < 10000
wrong_line_few bytes n (inl h) = let e = h.0 in omega (arith, e)
wrong_line_few bytes n (inr h) = let e = h.number in let few = h.before.few in omega (arith, e, few)

misread_few : (bytes : List ℕ) (fault : PagesFault) → IsFileRefused bytes fault → length (pages_line fault) ≤ 32
misread_few bytes Pages.Long h = omega arith
misread_few bytes (Pages.Line n) h =
    let lt = wrong_line_few bytes n h.1 in
    let d : length (decimal n) ≤ 4 = length-decimal-le 4 n (omega arith) (omega (arith, lt)) (omega (arith, lt)) in
    let a = length-append (codes "line " ++ decimal n) (codes "\n") in
    let b = length-append (codes "line ") (decimal n) in
    omega (arith, d, a, b)
misread_few bytes Pages.Memory h = omega arith

-- the line about whatever a command comes to
err_few : (command : Option Command) (old new : Objects) (outcome : Outcome) → Acts command old new outcome → length (line_about outcome) ≤ longest_line_about
err_few None old new outcome h = omega (arith, ap (λ (z : Outcome). length (line_about z)) h.0)
err_few (Some (One capcode)) old new (Ended status) h = let a = status_few status in omega (arith, a)
err_few (Some (One capcode)) old new (Refused fault) h = elim h [ ]
err_few (Some (One capcode)) old new (Misread fault) h = elim h [ ]
err_few (Some (Load seed count)) old new (Ended status) h = let a = status_few status in omega (arith, a)
err_few (Some (Load seed count)) old new (Refused fault) h = elim h [ ]
err_few (Some (Load seed count)) old new (Misread fault) h = elim h [ ]
err_few (Some (Play air receivers)) old new (Ended status) h = let a = status_few status in omega (arith, a)
err_few (Some (Play air receivers)) old new (Refused fault) h = elim h [ ]
err_few (Some (Play air receivers)) old new (Misread fault) h = elim h [ ]
err_few (Some (PlayLine line receivers)) old new (Ended status) h = let a = status_few status in omega (arith, a)
err_few (Some (PlayLine line receivers)) old new (Refused fault) h = elim h [ ]
err_few (Some (PlayLine line receivers)) old new (Misread fault) h = elim h [ ]
err_few (Some (WriteLine air line seed)) old new (Ended status) h = let a = status_few status in omega (arith, a)
err_few (Some (WriteLine air line seed)) old new (Refused fault) h = elim h [ ]
err_few (Some (WriteLine air line seed)) old new (Misread fault) h = elim h [ ]
err_few (Some (Show air)) old new (Ended status) h = let a = status_few status in omega (arith, a)
err_few (Some (Show air)) old new (Refused fault) h = elim h [ ]
err_few (Some (Show air)) old new (Misread fault) h = elim h [ ]
err_few (Some (Station address settings air count)) old new (Ended status) h = let a = status_few status in omega (arith, a)
err_few (Some (Station address settings air count)) old new (Refused fault) h = refusal_few h.row.0.seen fault h.row.0.of_seen
err_few (Some (Station address settings air count)) old new (Misread fault) h = elim h.row [ ]
err_few (Some (Snpp address settings air count)) old new (Ended status) h = let a = status_few status in omega (arith, a)
err_few (Some (Snpp address settings air count)) old new (Refused fault) h = refusal_few h.row.0.seen fault h.row.0.of_seen
err_few (Some (Snpp address settings air count)) old new (Misread fault) h = elim h.row [ ]
err_few (Some (Trial settings noise receivers)) old new (Ended status) h = let a = status_few status in omega (arith, a)
err_few (Some (Trial settings noise receivers)) old new (Refused fault) h = refusal_few h.row.0.seen fault h.row.0.of_seen
err_few (Some (Trial settings noise receivers)) old new (Misread fault) h = elim h.row [ ]
err_few (Some (Twice settings noise receivers)) old new (Ended status) h = let a = status_few status in omega (arith, a)
err_few (Some (Twice settings noise receivers)) old new (Refused fault) h = refusal_few h.row.0.seen fault h.row.0.of_seen
err_few (Some (Twice settings noise receivers)) old new (Misread fault) h = elim h.row [ ]
err_few (Some (Send address pages)) old new (Ended status) h = let a = status_few status in omega (arith, a)
err_few (Some (Send address pages)) old new (Refused fault) h = elim h.row [ ]
err_few (Some (Send address pages)) old new (Misread Pages.Memory) h = elim h.row [ ]
err_few (Some (Send address pages)) old new (Misread fault) h = let a = misread_few h.row.0.seen fault h.row.0.of_seen in omega (arith, a)

pub fit_err_with_room : FitErrWithRoom
fit_err_with_room command old tells steady le = record {
  tells = tells;
  steady = steady;
  room = λ new outcome acts. let a = err_few command old.objects new outcome acts in omega (arith, a, le);
}

-- ---- objects in memory

has_files : (command : Option Command) (heard input : List ℕ) (file : List ℕ → List ℕ) → HasFiles command (world heard file input)
has_files None heard input file = tt
has_files (Some (One capcode)) heard input file = tt
has_files (Some (Load seed count)) heard input file = tt
has_files (Some (Play air receivers)) heard input file = refl
has_files (Some (PlayLine line receivers)) heard input file = refl
has_files (Some (WriteLine air line seed)) heard input file = (refl, inl refl)
has_files (Some (Show air)) heard input file = refl
has_files (Some (Station address settings air count)) heard input file = (refl, inl refl)
has_files (Some (Snpp address settings air count)) heard input file = (refl, inl refl)
has_files (Some (Trial settings noise receivers)) heard input file = (refl, refl)
has_files (Some (Twice settings noise receivers)) heard input file = (refl, refl)
has_files (Some (Send address pages)) heard input file = (refl, omega arith)

steady_world : (heard input : List ℕ) (file : List ℕ → List ℕ) → AreSteady (world heard file input)
steady_world heard input file = record { wire_tells = refl; wire_steady = refl; shelf_tells = refl; shelf_steady = refl; input_tells = refl; input_steady = refl; out_tells = refl; out_steady = refl; out_bytes = refl }

pub fit_in_memory : FitInMemory
fit_in_memory command heard input file =
    let old = world heard file input in
    let fit = fit_with_room command old (steady_world heard input file) (has_files command heard input file) in (
      fit.0 + longest_line_about,
      λ room le. (fit.1 room (omega (arith, le)), fit_err_with_room command _ refl refl (omega (arith, le))),
    )
