use Rattle.std.proofs.Common.{ℕ, List, ◌≡◌, ◌∙◌, ◌++◌, length, length-append, take, Ok, subst, sym, ap, arith}
use Rattle.std.proofs.lemmas.List.{length-take-le}
use Rattle.wires.specs.declared.Failed.{Failed}
use Rattle.wires.specs.Files.{ReadsAt}
use Rattle.station.proofs.FilesRead.{bytes_then, read_to_end, read_to_limit, there_then, unharmed_then}
use Rattle.station.proofs.files.read_file.Goals as goal

pub returns-then-n-eq0 : goal.returns-then-n-eq0
returns-then-n-eq0 g c =
    let v = c.loop-piece.invariant in
    let r = subst (λ (from : ℕ). ReadsAt {E = Failed} (g.F.Shelf.state c.loop-piece.shelf) (g.F.Shelf.state c.read.new.self) c.args.name.now from c.read.new.into (Ok c.in-Ok.n))
    (c.len-in-loop-piece-2.ensures ∙ c.loop-piece.bytes.ok.0) c.in-Ok.ensures in
    read_to_end {E = Failed} c.args.name.now (g.F.Shelf.state c.args.shelf.now) (g.F.Shelf.state c.loop-piece.shelf) (g.F.Shelf.state c.read.new.self) c.loop-piece.bytes.items c.read.new.into c.in-Ok.n
    c.if-n-eq0.true v.few v.unharmed r v.bytes_are

pub loop-piece-preserved : goal.loop-piece-preserved
loop-piece-preserved g c =
    let v = c.loop-piece.invariant in
    let r = subst (λ (from : ℕ). ReadsAt {E = Failed} (g.F.Shelf.state c.loop-piece.shelf) (g.F.Shelf.state c.read.new.self) c.args.name.now from c.read.new.into (Ok c.in-Ok.n))
    (c.len-in-loop-piece-2.ensures ∙ c.loop-piece.bytes.ok.0) c.in-Ok.ensures in
    let a = g.F.Shelf.state c.args.shelf.now in
    let more = bytes_then {E = Failed} c.args.name.now a (g.F.Shelf.state c.loop-piece.shelf) (g.F.Shelf.state c.read.new.self) c.loop-piece.bytes.items c.read.new.into c.in-Ok.n v.unharmed r v.bytes_are in
    let grown : c.extend_from_slice.new.self.items ≡ c.loop-piece.bytes.items ++ take c.in-Ok.n c.read.new.into = c.in-Ok-extend_from_slice.ensures.items in
    record {
      unharmed = unharmed_then {E = Failed} c.args.name.now a (g.F.Shelf.state c.loop-piece.shelf) (g.F.Shelf.state c.read.new.self) (length c.loop-piece.bytes.items) c.read.new.into c.in-Ok.n v.unharmed r;
      there = λ t some. there_then {E = Failed} c.args.name.now a (g.F.Shelf.state c.loop-piece.shelf) (g.F.Shelf.state c.read.new.self) (length c.loop-piece.bytes.items) c.read.new.into c.in-Ok.n v.unharmed r t;
      bytes_are = λ t. subst (λ (xs : List ℕ). xs ≡ take (length xs) (a.file c.args.name.now)) (sym grown) (more t);
      few = (let two = length-take-le c.in-Ok.n c.read.new.into c.in-Ok.ensures.within in omega (arith, ap length grown, length-append c.loop-piece.bytes.items (take c.in-Ok.n c.read.new.into), two, c.in-Ok.ensures.within, c.min.ensures, c.read.auto.into, c.split_at_mut-into.ensures, c.len-in-loop-piece.ensures, c.loop-piece.bytes.ok.0, v.few));
    }

pub returns : goal.returns
returns g c =
    let v = c.loop-piece.invariant in
    read_to_limit c.args.name.now (g.F.Shelf.state c.args.shelf.now) (g.F.Shelf.state c.loop-piece.shelf) c.loop-piece.bytes.items (omega (arith, c.loop-piece-test.false, c.len.ensures)) v.few v.unharmed v.there v.bytes_are
