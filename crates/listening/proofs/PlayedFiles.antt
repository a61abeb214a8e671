-- A file that was played.
use Rattle.std.proofs.Common.{◌≡◌, ℕ, Bool, List, subst}
use Rattle.wires.specs.Files.{Files}
use Rattle.wires.specs.Written.{Written}
use Rattle.endings.specs.declared.statuses.Status.{Status}
use Rattle.endings.specs.declared.statuses.Status.TheVariants.{BadPages, BadSum, BadText, Done, FileFault, InputFault, LogonRefused, Memory, NotBlock, OutFault, Settings, SomeUnsent, TooLong, Usage, WireFault}
use Rattle.listening.specs.HeardFile.{HearsFile, Plays}
use Rattle.listening.specs.HeardLine.{HearsSamples, PlaysSamples}

-- a file was heard, so `play` was run
plays : (printed : List Bool → List ℕ) (name : List ℕ) (old new : Files) (o0 o : Written ℕ) (status : Status) → HearsFile printed name old new o0 o status → Plays printed name old new o0 o status
plays printed name old new o0 o Memory h = elim h.listens [ ]
plays printed name old new o0 o Done h = h
plays printed name old new o0 o TooLong h = h
plays printed name old new o0 o FileFault h = h
plays printed name old new o0 o OutFault h = h
plays printed name old new o0 o Usage h = h
plays printed name old new o0 o Settings h = h
plays printed name old new o0 o WireFault h = h
plays printed name old new o0 o InputFault h = h
plays printed name old new o0 o NotBlock h = h
plays printed name old new o0 o BadSum h = h
plays printed name old new o0 o BadText h = h
plays printed name old new o0 o LogonRefused h = h
plays printed name old new o0 o SomeUnsent h = h
plays printed name old new o0 o BadPages h = h

-- a file was heard, and what was printed is what `play` prints
pub plays_same : (a b : List Bool → List ℕ) (name : List ℕ) (old new : Files) (o0 o : Written ℕ) (status : Status) → a ≡ b
    → HearsFile a name old new o0 o status → Plays b name old new o0 o status
plays_same a b name old new o0 o status same h =
    plays b name old new o0 o status (subst (λ (printed : List Bool → List ℕ). HearsFile printed name old new o0 o status) same h)

-- samples of a file were heard, so `play-line` was run
plays_samples : (printed : List Bool → List ℕ) (name : List ℕ) (old new : Files) (o0 o : Written ℕ) (status : Status) → HearsSamples printed name old new o0 o status → PlaysSamples printed name old new o0 o status
plays_samples printed name old new o0 o Memory h = elim h.listens [ ]
plays_samples printed name old new o0 o Done h = h
plays_samples printed name old new o0 o TooLong h = h
plays_samples printed name old new o0 o FileFault h = h
plays_samples printed name old new o0 o OutFault h = h
plays_samples printed name old new o0 o Usage h = h
plays_samples printed name old new o0 o Settings h = h
plays_samples printed name old new o0 o WireFault h = h
plays_samples printed name old new o0 o InputFault h = h
plays_samples printed name old new o0 o NotBlock h = h
plays_samples printed name old new o0 o BadSum h = h
plays_samples printed name old new o0 o BadText h = h
plays_samples printed name old new o0 o LogonRefused h = h
plays_samples printed name old new o0 o SomeUnsent h = h
plays_samples printed name old new o0 o BadPages h = h

pub plays_samples_same : (a b : List Bool → List ℕ) (name : List ℕ) (old new : Files) (o0 o : Written ℕ) (status : Status) → a ≡ b
    → HearsSamples a name old new o0 o status → PlaysSamples b name old new o0 o status
plays_samples_same a b name old new o0 o status same h =
    plays_samples b name old new o0 o status (subst (λ (printed : List Bool → List ℕ). HearsSamples printed name old new o0 o status) same h)
