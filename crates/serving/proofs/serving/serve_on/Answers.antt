use Rattle.std.proofs.Common.{[], inl, ◌∙◌, refl, arith}
use Rattle.serving.proofs.Servings.{all_served, at_fresh, at_listen, begun}
use Rattle.serving.proofs.serving.serve_on.Goals as goal

pub returns-in-Err-clause-serves : goal.returns-in-Err-clause-serves
returns-in-Err-clause-serves g c = record {
  served = inl (at_fresh _ _ _ _ _ _ _ _ _ _ c.in-Err.ensures);
  leaves = (c.requires, refl);
}

pub returns-in-Err-listen-clause-serves : goal.returns-in-Err-listen-clause-serves
returns-in-Err-listen-clause-serves g c = record {
  served = at_listen _ _ _ _ _ _ _ _ _ _ _ _ _ c.in_default.ensures c.in-Err-listen.ensures;
  leaves = record { no_page = c.requires; last = refl };
}

pub loop-k-init : goal.loop-k-init
loop-k-init g c = record {
  cells_stay = refl;
  so_far = (
    [],
    begun _ _ _ _ _ _ _ _ _ _ _ c.args.pool.now _ _ c.in_default.ensures c.in_default-listen.ensures c.requires refl,
    refl,
    refl,
  );
}

pub loop-k-preserved : goal.loop-k-preserved
loop-k-preserved g c =
    let i = c.loop-k.invariant in
    let n = i.so_far.3 in
    record {
      cells_stay = c.serve_next.ensures.cells_stay ∙ i.cells_stay;
      so_far = c.in_default-serve_next.ensures.further c.args.pool.now.spare c.args.count _ (g.E.EntryLine.state c.args.entry.now) _ _ i.so_far.1 i.so_far.2 (omega (arith, n)) (omega arith);
    }

pub returns-in-Some-clause-serves : goal.returns-in-Some-clause-serves
returns-in-Some-clause-serves g c =
    let i = c.loop-k.invariant in
    let n = i.so_far.3 in
    c.in-Some.ensures.further c.args.pool.now.spare c.args.count _ (g.E.EntryLine.state c.args.entry.now) _ _ i.so_far.1 i.so_far.2 (omega (arith, n)) (omega arith)

pub returns-clause-serves : goal.returns-clause-serves
returns-clause-serves g c =
    let i = c.loop-k.invariant in
    record {
      served = all_served _ _ _ _ _ _ _ _ _ _ i.so_far.1 (omega (arith, i.so_far.3));
      leaves = record { no_page = i.so_far.1.no_page; last = i.so_far.2 };
    }
