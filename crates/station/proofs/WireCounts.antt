-- A run leaves a wire as many connections as it had.
use Rattle.std.proofs.Common.{◌≡◌, inl, inr, ℕ, List, [], ◌∷◌, ◌++◌, Option, Some, None, ◌∙◌, ap}
use Rattle.subscribers.specs.Parts.{Parts}
use Rattle.station.specs.declared.outcomes.Outcome.{Outcome}
use Rattle.station.specs.declared.outcomes.Outcome.TheVariants.{Ended, Misread, Refused}
use Rattle.endings.specs.declared.statuses.Status.{Status}
use Rattle.endings.specs.declared.statuses.Status.TheVariants.{Done, FileFault, LogonRefused, Memory, OutFault, SomeUnsent, WireFault}
use Rattle.tap_entry.specs.PagesFile.{FileContent}
use Rattle.tap_entry.specs.declared.outcomes.Outcome.{Outcome as Sent}
use Rattle.calling.specs.declared.stages.Ending.{Ending}
use Rattle.tap_entry.specs.declared.faults.PagesFault.TheVariants as Pages
use Rattle.wires.specs.Line.{Line}
use Rattle.wires.specs.Written.{Written}
use Rattle.calling.specs.Calls.{CallsUp, SendsSo}
use Rattle.station.specs.SendRows.{SendRow}
use Rattle.command_lines.specs.Commands.{Command, Load, One, Play, PlayLine, Send, Show, Snpp, Station, Trial, Twice, WriteLine}
use Rattle.station.specs.Rows.{Acts, HasEndedSo, Objects, Outside, Runs}
use Rattle.serving.specs.Protocols.{Protocol, snpp, tap}
use Rattle.serving.specs.Serving.{Around, HasServed}
use Rattle.station.specs.StationRows.{StationRow, with_shelf}
use Rattle.serving.proofs.InTurn.{turn-keeps}

count-served : (p : Protocol) (settings : Parts) (spare : ℕ) (old new : Around) (address name : List ℕ) (most : ℕ) (status : Status) → HasServed p settings spare old new address name most status → new.wire.count ≡ old.wire.count
count-served p settings spare old new address name most Done h = (turn-keeps old.wire new.wire h.sessions h.wire).count
count-served p settings spare old new address name most WireFault h = (turn-keeps old.wire new.wire h.sessions h.wire).count
count-served p settings spare old new address name most FileFault (inl h) = ap (λ wire. wire.count) h.wire
count-served p settings spare old new address name most FileFault (inr h) = (turn-keeps old.wire new.wire (h.sessions ++ h.unsent ∷ []) h.wire).count
count-served p settings spare old new address name most OutFault h = (turn-keeps old.wire new.wire (h.sessions ++ h.unreported ∷ []) h.wire).count
count-served p settings spare old new address name most other h = elim h [ ]

count-station : (p : Protocol) (address settings air : List ℕ) (count : ℕ) (old new : Around) (outcome : Outcome) → StationRow p address settings air count old new outcome → new.wire.count ≡ old.wire.count
count-station p address settings air count old new (Refused fault) h = ap (λ wire. wire.count) h.1.wire
count-station p address settings air count old new (Misread fault) h = elim h [ ]
count-station p address settings air count old new (Ended Memory) h = ap (λ wire. wire.count) h.1.wire
count-station p address settings air count old new (Ended FileFault) (inl h) = ap (λ wire. wire.count) h.1.wire
count-station p address settings air count old new (Ended FileFault) (inr h) = count-served p h.parts h.parts.cells (with_shelf old h.shelf) new address air count FileFault h.served
count-station p address settings air count old new (Ended status) h = count-served p h.parts h.parts.cells (with_shelf old h.shelf) new address air count status h.served

count-call : (told : FileContent) (address : List ℕ) (old new : Line) (outcomes : List Sent) (ending : Ending) → CallsUp told address old new outcomes ending → new.count ≡ old.count
count-call told address old new outcomes ending (inl h) = h.came.line.count ∙ h.opens.count
count-call told address old new outcomes ending (inr h) = h.failed.count

count-sends : (told : FileContent) (address : List ℕ) (old new : Line) (out0 out1 : Written ℕ) (outcomes : List Sent) (status : Status) → SendsSo told address old new out0 out1 outcomes status → new.count ≡ old.count
count-sends told address old new out0 out1 outcomes Done h = count-call told address old new outcomes _ (inl h.0.called)
count-sends told address old new out0 out1 outcomes LogonRefused h = count-call told address old new outcomes _ (inl h.0.called)
count-sends told address old new out0 out1 outcomes SomeUnsent h = count-call told address old new outcomes _ (inl h.0.called)
count-sends told address old new out0 out1 outcomes WireFault h = count-call told address old new outcomes h.0.0 h.0.1
count-sends told address old new out0 out1 outcomes OutFault h = count-call told address old new outcomes h.0.0 h.0.1
count-sends told address old new out0 out1 outcomes other h = elim h [ ]

count-send : (address name : List ℕ) (old new : Around) (outcome : Outcome) → SendRow address name old new outcome → new.wire.count ≡ old.wire.count
count-send address name old new (Refused fault) h = elim h [ ]
count-send address name old new (Misread Pages.Memory) h = elim h [ ]
count-send address name old new (Misread fault) h = ap (λ wire. wire.count) h.1.wire
count-send address name old new (Ended Memory) h = ap (λ wire. wire.count) h.1.wire
count-send address name old new (Ended FileFault) h = ap (λ wire. wire.count) h.1.wire
count-send address name old new (Ended status) h = count-sends h.told address old.wire new.wire old.out new.out h.sends.outcomes status h.sends.sends

came : (row : Status → Type 0) (outcome : Outcome) (x y : ℕ) → ((status : Status) → row status → x ≡ y) → HasEndedSo row outcome → x ≡ y
came row (Ended status) x y f h = f status h
came row (Refused fault) x y f h = elim h [ ]
came row (Misread fault) x y f h = elim h [ ]

count-acts : (command : Option Command) (old new : Objects) (outcome : Outcome) → Acts command old new outcome → new.wire.count ≡ old.wire.count
count-acts None old new outcome h = ap (λ objects. objects.wire.count) h.1
count-acts (Some (One capcode)) old new outcome h = came _ outcome new.wire.count old.wire.count (λ status r. ap (λ wire. wire.count) r.wire) h
count-acts (Some (Load seed count)) old new outcome h = came _ outcome new.wire.count old.wire.count (λ status r. ap (λ wire. wire.count) r.wire) h
count-acts (Some (Play air receivers)) old new outcome h = came _ outcome new.wire.count old.wire.count (λ status r. ap (λ wire. wire.count) r.wire) h
count-acts (Some (PlayLine line receivers)) old new outcome h = came _ outcome new.wire.count old.wire.count (λ status r. ap (λ wire. wire.count) r.wire) h
count-acts (Some (WriteLine air line seed)) old new outcome h = came _ outcome new.wire.count old.wire.count (λ status r. ap (λ wire. wire.count) r.wire) h
count-acts (Some (Show air)) old new outcome h = came _ outcome new.wire.count old.wire.count (λ status r. ap (λ wire. wire.count) r.wire) h
count-acts (Some (Station address settings air count)) old new outcome h = count-station tap address settings air count _ _ outcome h.row
count-acts (Some (Snpp address settings air count)) old new outcome h = count-station snpp address settings air count _ _ outcome h.row
count-acts (Some (Trial settings noise receivers)) old new outcome h = ap (λ wire. wire.count) h.wire
count-acts (Some (Twice settings noise receivers)) old new outcome h = ap (λ wire. wire.count) h.wire
count-acts (Some (Send address pages)) old new outcome h = count-send address pages _ _ outcome h.row

pub count-runs : (words : List (List ℕ)) (old new : Outside) (result : Status) → Runs words old new result → new.objects.wire.count ≡ old.objects.wire.count
count-runs words old new result h = count-acts h.command old.objects new.objects h.outcome h.acts
