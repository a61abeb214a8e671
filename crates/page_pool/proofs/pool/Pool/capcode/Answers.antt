use Rattle.page_pool.proofs.pool.Pool.capcode.Goals as goal

pub returns : goal.returns
returns c e n = (c.address-address.ensures e n).0
