use Rattle.std.proofs.Common.{Some, ap, ◌∙◌, sym}
use Rattle.codeword.specs.declared.kinds.WordKind.{WordKind}
use Rattle.receiver.specs.Listeners.{is_one_of}
use Rattle.receiver.specs.UnderWay.{open_after}
use Rattle.receiver.proofs.gathering.Gathering.slot.Goals as goal

pub returns-in-Message-clause-page : goal.returns-in-Message-clause-page
returns-in-Message-clause-page g c =
    let listens = is_one_of (g.C.CapcodeSet.capcodes c.args.capcodes.now) in
    c.push.ensures.page listens c.args.place
    ∙ sym (ap (open_after listens c.args.place c.args.self.now.under_way) (sym c.kind.ensures.value ∙ c.in-Some.is ∙ ap (λ (k : WordKind). Some k) c.in-Message.is))
