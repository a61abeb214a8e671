use Rattle.std.proofs.Common.{subst, sym, refl}
use Rattle.entry_line.specs.Chars.{char_of}
use Rattle.tap_entry.specs.States.{CallingFor, CallsFurther}
use Rattle.tap_entry.proofs.Steps.{call_stands}
use Rattle.tap_entry.proofs.logon.Calling.feed.Goals as goal

pub returns : goal.returns
returns c x marks said h =
    let k = subst (λ z. CallingFor z x marks said) (sym c.client.view_is) h in
    subst (λ z. CallsFurther z x marks said (char_of c.args.byte) c.take.result) c.client.view_is
    (c.feed-mark.result, rw c.take.ensures (call_stands _ _ _ marks c.feed-mark.result said (c.feed-mark.ensures x marks k.hears) refl k.calls))
