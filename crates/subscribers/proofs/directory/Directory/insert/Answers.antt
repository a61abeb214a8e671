use Rattle.std.proofs.Common.{◌≡◌, length, arith, ap, ◌∙◌}
use Rattle.std.specs.FinMap.{insert}
use Rattle.subscribers.specs.Parts.{Target}
use Rattle.subscribers.proofs.Directories.{inserted-behind, same_ids-behind, ArePlacesIn-behind}
use Rattle.subscribers.proofs.Turns.{on_err}
use Rattle.subscribers.proofs.directory.Directory.insert.Goals as goal

pub returns-clause-ok : goal.returns-clause-ok
returns-clause-ok c =
    let begins : c.len-start.result ≡ length c.self.inside.capcodes.items = omega (arith, c.self.inside.capcodes.ok.0) in
    let target : Target = record { function = c.args.function; capcodes = c.args.capcodes.now } in
    inserted-behind c.args.function c.self.inside.capcodes.items c.extend_from_slice.new.self.items c.args.capcodes.now c.self.inside.ids.entries c.insert.new.self.entries c.in_ok-key.key c.len-start.result
    c.self.invariant c.in_ok-extend_from_slice.ensures.items begins c.in_ok-insert.ensures.entries
    ∙ ap (λ d. insert d c.in_ok-key.key.items target) c.self.view_is
    ∙ ap (λ i. insert c.args.self.now i target) c.in_ok-key.ensures.items

pub returns-in_err-insert-clause-err : goal.returns-in_err-insert-clause-err
returns-in_err-insert-clause-err c =
    on_err c.from_residual-in_err-insert.result _
    (same_ids-behind c.self.inside.capcodes.items c.extend_from_slice.new.self.items c.args.capcodes.now c.self.inside.ids.entries c.insert.new.self.entries
    c.self.invariant c.in_ok-extend_from_slice.ensures.items c.in_err-insert.ensures.err
    ∙ c.self.view_is)

pub invariant_of-self-2 : goal.invariant_of-self-2
invariant_of-self-2 c =
    let begins : c.len-start.result ≡ length c.self.inside.capcodes.items = omega (arith, c.self.inside.capcodes.ok.0) in
    ArePlacesIn-behind c.args.function c.self.inside.capcodes.items c.extend_from_slice.new.self.items c.args.capcodes.now c.self.inside.ids.entries c.insert.new.self.entries c.in_ok-key.key c.len-start.result
    c.self.invariant c.requires.some c.requires.most c.in_ok-extend_from_slice.ensures.items begins c.in_ok-insert.ensures.entries
