use Rattle.std.proofs.Common.{subst, sym, ◌++◌}
use Rattle.entry_line.specs.Chars.{char_of}
use Rattle.tap_entry.specs.States.{SendingFor, SendsFurther}
use Rattle.tap_entry.proofs.Steps.{send_goes}
use Rattle.tap_entry.proofs.transfer.Sending.feed.Goals as goal

pub returns : goal.returns
returns c x past since h =
    let k = subst (λ z. SendingFor z x past since) (sym c.client.view_is) h in
    subst (λ z. SendsFurther z x past since (char_of c.args.byte) c.take.result) c.client.view_is (
      c.feed-mark.result,
      rw c.take.ensures (send_goes _ _ past since c.feed-mark.result k.undecided k.acks_are k.last k.since_ack k.naks_are c.client.invariant.tries
          (c.feed-mark.ensures x (past ++ since) k.hears)),
    )
