-- Where a front end, a hunt or a lock, is in the bits that it was fed.
use Rattle.std.specs.Prelude.{◌≡◌, ℕ, Bool, true, false, List, [], ◌++◌, Option, Some, None}
use Rattle.receiver.specs.Stretches.{stretches, after_sync, words_of_bits}
use Rattle.receiver.specs.Locks.{Lock, lock_of, Hunts, LockHolds}
use Rattle.receiver.specs.Heard.{HeardPage, kinds_in}
use Rattle.receiver.specs.UnderWay.{open_from}

-- a front end: a hunt that keeps these bits, or a lock
pub data FrontEnd : Type 0 where
  Hunt : List Bool → FrontEnd
  Locking : Lock → FrontEnd

-- a front end, of its parts: whether it is a lock, the place of a lock's next word, and the bits that it keeps
abbrev pub front_end_of : Bool → ℕ → List Bool → FrontEnd
front_end_of true place kept = Locking (lock_of place kept)
front_end_of false place kept = Hunt kept

-- The bits end where a lock was lost, or are none. These are their stretches, and what follows gives its own.
pub record IsPast (past : List Bool) (before : List (List ℕ)) : Type 0 where
  pub all : (more : List Bool) → stretches (past ++ more) ≡ before ++ stretches more

-- the bits end in this hunt, which follows these stretches
pub record HuntsAt (hunting : List Bool) (bits : List Bool) (before : List (List ℕ)) : Type 0 where
  pub past : List Bool
  pub piece : List Bool
  pub whole : bits ≡ past ++ piece
  pub earlier : IsPast past before
  pub hunts : Hunts hunting piece

-- the bits end in this lock, which follows these stretches and has these words so far
pub record LocksAt (locked : Lock) (bits : List Bool) (before : List (List ℕ)) (words : List ℕ) : Type 0 where
  pub past : List Bool
  pub window : List Bool
  pub rest : List Bool
  pub whole : bits ≡ past ++ (window ++ rest)
  pub earlier : IsPast past before
  pub found : after_sync window ≡ Some []
  pub holds : LockHolds locked rest
  pub words-is : words ≡ words_of_bits rest

-- the bits end in this hunt or lock, which follows these stretches, and a lock has these words so far
abbrev pub FrontIsAt : FrontEnd → List Bool → List (List ℕ) → Option (List ℕ) → Type 0
FrontIsAt (Hunt hunting) bits before words = HuntsAt hunting bits before × (words ≡ None)
FrontIsAt (Locking locked) bits before words = (lock_words : List ℕ) × LocksAt locked bits before lock_words × (words ≡ Some lock_words)

-- the page under way in the words of a lock
abbrev pub page_under_way : (ℕ → Bool) → Option (List ℕ) → Option HeardPage
page_under_way listens None = None
page_under_way listens (Some words) = open_from listens 0 (kinds_in words)

-- the front end was fed these bits
pub record FrontStandsFor (front : FrontEnd) (bits : List Bool) : Type 0 where
  pub before : List (List ℕ)
  pub words : Option (List ℕ)
  pub at : FrontIsAt front bits before words

-- the front end was fed these bits, and this page is under way at their end
pub record HasUnderWay (listens : ℕ → Bool) (front : FrontEnd) (page : Option HeardPage) (bits : List Bool) : Type 0 where
  pub before : List (List ℕ)
  pub words : Option (List ℕ)
  pub at : FrontIsAt front bits before words
  pub page-is : page ≡ page_under_way listens words
