use Rattle.std.proofs.Common.{List, ◌<◌, ◌≡◌, ◌∙◌, sym, ap, subst, length, is_some, None, Some, ℕ}
use Rattle.wires.specs.FakeShelf.{FileInMemory, FreshensIn, IsPlace, fresh_file, look}
use Rattle.wires.proofs.FakeShelf.{can_freshen_there, freshens_at, freshens_further, some_holds}
use Rattle.wires.proofs.fake_shelf.fresh_in.Goals as goal

pub returns-in-Some-clause-done : goal.returns-in-Some-clause-done
returns-in-Some-clause-done c =
    let p = subst (λ (fs : List FileInMemory). IsPlace fs c.args.name.now c.in-Some.i) c.deref.ensures.value c.in-Some.ensures.found.0 in
    can_freshen_there c.args.files.now.items c.args.name.now c.in-Some.i c.args.most c.index_mut-file.result.now (is_some c.args.spare.now) p c.index_mut-file.ensures.value

pub returns-in-Some-clause-freshened : goal.returns-in-Some-clause-freshened
returns-in-Some-clause-freshened c t =
    let p = subst (λ (fs : List FileInMemory). IsPlace fs c.args.name.now c.in-Some.i) c.deref.ensures.value c.in-Some.ensures.found.0 in
    let lt = subst (λ (fs : List FileInMemory). c.in-Some.i < length fs) c.deref.ensures.value c.in-Some.ensures.found.1 in
    freshens_at c.args.files.now.items c.args.name.now c.in-Some.i c.args.most c.index_mut-file.result.now c.clear.new.self (is_some c.args.spare.now) p lt
    c.index_mut-file.ensures.value c.clear.ensures c.requires.most

pub returns-clause-freshened : goal.returns-clause-freshened
returns-clause-freshened c t =
    let none : look c.args.files.now.items c.args.name.now ≡ None = subst (λ (fs : List FileInMemory). look fs c.args.name.now ≡ None) c.deref.ensures.value c.in_default.ensures.none in
    let spare : c.args.spare.now ≡ Some c.in-Some-take.further = sym c.take.ensures.value ∙ c.in-Some-take.is in
    let most : c.in-Some-take.further ≡ c.args.most = some_holds c.args.spare.now c.in-Some-take.further c.args.most spare c.requires.spare in
    let named : c.named.result ≡ fresh_file c.args.name.now c.args.most = c.named.ensures ∙ ap (λ (m : ℕ). fresh_file c.args.name.now m) most in
    subst (λ (fs : List FileInMemory). FreshensIn (record { files = c.args.files.now.items; further = is_some c.args.spare.now; most = c.args.most }) (record { files = fs; further = is_some c.take.new.self; most = c.args.most }) c.args.name.now) (sym c.in-Ok.ensures.items)
    (freshens_further c.args.files.now.items c.args.name.now c.args.most c.named.result (is_some c.args.spare.now) (is_some c.take.new.self) none named (ap is_some spare) (ap is_some c.take.ensures.after))
