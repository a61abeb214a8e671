-- What a shelf in memory holds and tells, and exactly what its calls do.
use Rattle.std.specs.Prelude.{◌≡◌, ◌≢◌, ℕ, zero, suc, ◌+◌, ◌-◌, ◌<◌, ◌^◌, ◌⊎◌, ◌↔◌, ◌&&◌, ◌||◌, nat_le, min, String, Vec, string_bytes, Bool, true, false, List, [], ◌∷◌, ◌++◌, length, take, drop, Option, Some, None, is_some, bytes_eq, if◌then◌else◌, Result, IsErr, IfOk, OnOk, OnErr, IsTrue, IsFalse}
use Rattle.std.specs.declared.alloc.Global.{Global}
use Rattle.wires.specs.Calls.{CallsMade, Counts, is_steady, next_fails}
use Rattle.wires.specs.Files.{Files, longest_name}

-- a file in memory: its name and bytes, whether it was made fresh, and how many bytes it can hold once it was
pub record FileInMemory : Type 0 where
  pub name : List ℕ
  pub bytes : List ℕ
  pub fresh : Bool
  pub most : ℕ

-- the first file of a name
abbrev pub look : List FileInMemory → List ℕ → Option FileInMemory
look [] name = None
look (f ∷ fs) name = if bytes_eq f.name name then Some f else look fs name

-- what a look for a name found, as the bytes, the freshness and the room of that name
abbrev pub bytes_of : Option FileInMemory → List ℕ
bytes_of (Some f) = f.bytes
bytes_of None = []

abbrev pub fresh_of : Option FileInMemory → Bool
fresh_of (Some f) = f.fresh
fresh_of None = false

abbrev pub room_of : Option FileInMemory → ℕ
room_of (Some f) = f.most - length f.bytes
room_of None = 0

-- the first file of a name stands at this place
abbrev pub IsPlace : List FileInMemory → List ℕ → ℕ → Type 0
IsPlace [] name i = ⊥
IsPlace (f ∷ fs) name zero = bytes_eq f.name name ≡ true
IsPlace (f ∷ fs) name (suc i) = (bytes_eq f.name name ≡ false) × IsPlace fs name i

-- a file that is given at the start
abbrev pub stored : String Global × Vec ℕ Global → ℕ → FileInMemory
stored p most = record { name = string_bytes p.0; bytes = p.1.items; fresh = false; most = most }

-- a file that was made fresh
abbrev pub fresh_file : List ℕ → ℕ → FileInMemory
fresh_file name most = record { name = name; bytes = []; fresh = true; most = most }

-- the files, whether a further one may be added, and how many bytes a fresh one can hold
pub record FilesInMemory : Type 0 where
  pub files : List FileInMemory
  pub further : Bool
  pub most : ℕ

-- a shelf in memory: its files and its calls
pub record ShelfInMemory : Type 0 where
  pub stored : FilesInMemory
  pub calls : CallsMade

-- the file of a name
abbrev pub file_of : ShelfInMemory → List ℕ → Option FileInMemory
file_of s name = look s.stored.files name

abbrev pub shelf_tells : ShelfInMemory → Files
shelf_tells s = record {
  tells = true;
  there = λ name. is_some (file_of s name);
  file = λ name. bytes_of (file_of s name);
  fresh = λ name. fresh_of (file_of s name);
  room = λ name. room_of (file_of s name);
  fresh_room = s.stored.most;
  further = s.stored.further;
  steady = is_steady s.calls;
  faults = s.calls.faults;
  lent = [];
}

-- a file was read from a place on: as many bytes came as are left there and the buffer has room for
pub record CopiesIn (file : List ℕ) (from : ℕ) (buffer : List ℕ) (n : ℕ) : Type 0 where
  pub count : n ≡ min (length (drop from file)) (length buffer)
  pub moved : take n buffer ≡ take n (drop from file)
  pub size : length file < 2 ^ 64

-- a read fails exactly where its number is one that fails or the name is not there
pub record ReadsInMemory {E : Type 0} (old new : ShelfInMemory) (name : List ℕ) (from : ℕ) (buffer : List ℕ) (result : Result ℕ E) : Type 0 where
  pub calls : Counts old.calls new.calls result
  pub stored : new.stored ≡ old.stored
  pub fails : IsErr result ↔ (IsTrue (next_fails old.calls) ⊎ (file_of old name ≡ None))
  pub copied : IfOk result (λ n. CopiesIn (bytes_of (file_of old name)) from buffer n)

-- whether a name can be made fresh: it is there, or it is short enough for the further file, if there is one
abbrev pub can_freshen : FilesInMemory → List ℕ → Bool
can_freshen s name = is_some (look s.files name) || (s.further && nat_le (length name) longest_name)

-- a name was made fresh: the first file of that name, or else the further one, and all other names stay
pub record FreshensIn (old new : FilesInMemory) (name : List ℕ) : Type 0 where
  pub fresh : look new.files name ≡ Some (fresh_file name old.most)
  pub others : (other : List ℕ) → other ≢ name → look new.files other ≡ look old.files other
  pub further : IsTrue (is_some (look old.files name)) → new.further ≡ old.further
  pub used : IsFalse (is_some (look old.files name)) → IsTrue old.further × IsFalse new.further
  pub most : new.most ≡ old.most

-- making fresh fails exactly where its number is one that fails or the name cannot be made fresh, and then no file changed
pub record FreshensInMemory {T E : Type 0} (old new : ShelfInMemory) (name : List ℕ) (result : Result T E) : Type 0 where
  pub calls : Counts old.calls new.calls result
  pub fails : IsErr result ↔ (IsTrue (next_fails old.calls) ⊎ IsFalse (can_freshen old.stored name))
  pub freshened : OnOk result (FreshensIn old.stored new.stored name)
  pub failed : OnErr result (new.stored ≡ old.stored)

-- whether a piece can be appended to a name: it was made fresh, and has room
abbrev pub can_append : List FileInMemory → List ℕ → List ℕ → Bool
can_append fs name piece = fresh_of (look fs name) && nat_le (length piece) (room_of (look fs name))

-- a piece was appended to the first file of a name, and all other names stay
pub record AppendsIn (old new : List FileInMemory) (name piece : List ℕ) : Type 0 where
  pub bytes : bytes_of (look new name) ≡ bytes_of (look old name) ++ piece
  pub there : is_some (look new name) ≡ is_some (look old name)
  pub fresh : fresh_of (look new name) ≡ fresh_of (look old name)
  pub room : room_of (look new name) + length piece ≡ room_of (look old name)
  pub others : (other : List ℕ) → other ≢ name → look new other ≡ look old other

-- a write fails exactly where its number is one that fails or the piece cannot be appended, and then no file changed
pub record AppendsInMemory {T E : Type 0} (old new : ShelfInMemory) (name piece : List ℕ) (result : Result T E) : Type 0 where
  pub calls : Counts old.calls new.calls result
  pub fails : IsErr result ↔ (IsTrue (next_fails old.calls) ⊎ IsFalse (can_append old.stored.files name piece))
  pub appended : OnOk result (AppendsIn old.stored.files new.stored.files name piece)
  pub failed : OnErr result (new.stored.files ≡ old.stored.files)
  pub further : new.stored.further ≡ old.stored.further
  pub most : new.stored.most ≡ old.stored.most
