use Rattle.std.proofs.Common.{◌∙◌, List, Ok, Err, ap, subst}
use Rattle.wires.specs.Written.{Puts}
use Rattle.calling.specs.Calls.{status_of}
use Rattle.calling.specs.OutcomeLines.{all_sent, outcome_lines}
use Rattle.calling.proofs.CallsUp.{sent_so, unput_so}
use Rattle.calling.proofs.sending_pages.send.Goals as goal

pub returns-in-Err : goal.returns-in-Err
returns-in-Err g c =
    unput_so c.args.pages.now _ _ _ _ _ c.call-ending.new.outcomes.items c.call-ending.result c.in-Err.field-0 c.call-ending.ensures.few (c.call-ending.ensures.calls c.new-outcomes.ensures)
    (subst (λ (z : List _). Puts (g.O.Sink.state c.args.out.now) (g.O.Sink.state c.put_outcomes.new.out) (outcome_lines z) (Err c.in-Err.field-0)) c.as_slice.ensures.value c.in-Err.ensures)

pub returns : goal.returns
returns g c =
    sent_so c.args.pages.now _ _ _ _ _ c.call-ending.new.outcomes.items c.call-ending.result c.in_default.field-0 c.status.result (c.call-ending.ensures.calls c.new-outcomes.ensures)
    (subst (λ (z : List _). Puts (g.O.Sink.state c.args.out.now) (g.O.Sink.state c.put_outcomes.new.out) (outcome_lines z) (Ok c.in_default.field-0)) c.as_slice.ensures.value c.in_default.ensures)
    (c.status.ensures ∙ ap (λ z. status_of c.call-ending.result (all_sent z)) c.as_slice-2.ensures.value)
