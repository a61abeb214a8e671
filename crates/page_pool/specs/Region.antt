-- What the fields of a pool stand for, and what holds of them. No public clause cites this module.
use Rattle.std.specs.Prelude.{map}
use Rattle.page_pool.specs.Chain.{walk}
use Rattle.page_pool.specs.Pool.{Pool}
use Rattle.page_pool.specs.Layout.{after_of, entry, IsRegion}
use Rattle.page_pool.specs.declared.pool.Pool.TheInside.{Inside}

-- the live pages, read off the heads from the first on, the number of spare cells, and the bytes
abbrev pub view_of : Inside → Pool
view_of s = record {
  live = map (entry s.bytes.items s.links.items s.heads.items) (walk (after_of s.heads.items) s.count s.first);
  spare = s.spare;
  region = s.bytes.items;
}

-- the invariant of a pool, over its fields
abbrev pub PoolHolds : Inside → Type 0
PoolHolds s = IsRegion s.bytes.items s.links.items s.heads.items s.free s.spare s.first s.last s.count s.frames
