-- How the map keeps what its ids stand for. No public clause cites this module.
use Rattle.std.specs.Prelude.{ℕ, ◌+◌, ◌≤◌, List, map, length, take, drop, Vec}
use Rattle.std.specs.List.{AllByRecursion}
use Rattle.std.specs.declared.alloc.Global.{Global}
use Rattle.subscribers.specs.declared.directory.Place.{Place}
use Rattle.subscribers.specs.Entries.{most_members}
use Rattle.subscribers.specs.Parts.{Target}

-- an id with the place of its capcodes, as the map stores it
abbrev pub StoredId : Type 0
StoredId = Vec ℕ Global × Place

-- what stands at a place
abbrev pub target_at : List ℕ → Place → Target
target_at capcodes p = record { function = p.function; capcodes = take p.count (drop p.start capcodes) }

-- the ids as lists of bytes, with what they stand for
abbrev pub seen_ids : List ℕ → List StoredId → List (List ℕ × Target)
seen_ids capcodes es = map (λ e. (e.0.items, target_at capcodes e.1)) es

-- a place of as many of the capcodes as a group may have
pub record IsPlaceIn (capcodes : List ℕ) (p : Place) : Type 0 where
  pub some : 1 ≤ p.count
  pub most : p.count ≤ most_members
  pub within : p.start + p.count ≤ length capcodes

-- each id has such a place
abbrev pub ArePlacesIn : List ℕ → List StoredId → Type 0
ArePlacesIn capcodes es = AllByRecursion (λ e. IsPlaceIn capcodes e.1) es
