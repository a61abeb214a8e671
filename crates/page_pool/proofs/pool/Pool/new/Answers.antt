use Rattle.std.proofs.Common.{arith, refl}
use Rattle.std.proofs.lemmas.List.{with_items_is}
use Rattle.page_pool.proofs.New as new
use Rattle.page_pool.proofs.pool.Pool.new.Goals as goal

pub invariant_of-result : goal.invariant_of-result
invariant_of-result c =
    let L = with_items_is c.in-Ok.links c.chain_all.new.links (omega (arith, c.chain_all.auto.links, c.deref_mut.ensures.len)) in
    rw L (new.empty c.in-Ok-vec.bytes.items c.chain_all.new.links c.in-Ok-vec-2.heads.items _ c.args.cells c.requires.some c.requires.most
    (c.in-Ok-vec-2.ensures.items_if_clones_equal (λ y h. h)) refl
    (omega (arith, c.in-Ok-vec-2.ensures.len, c.in-Ok-vec-2.heads.ok.0))
    (omega (arith, c.chain_all.auto.links, c.deref_mut.ensures.len, c.in-Ok.ensures.len))
    (omega (arith, c.in-Ok-vec.ensures.len, c.in-Ok-vec.bytes.ok.0))
    c.chain_all.ensures.next c.chain_all.ensures.last)
