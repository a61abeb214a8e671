use Rattle.std.proofs.Common.{◌*◌, ◌∙◌, ap}
use Rattle.tap_entry.specs.Client.{body_at}
use Rattle.tap_entry.proofs.Contents.{front_of_rest}
use Rattle.tap_entry.proofs.transfer.Sending.body.Goals as goal

pub returns-clause-body : goal.returns-clause-body
returns-clause-body c =
    front_of_rest c.as_slice.result.now (250 * c.self.inside.acks) c.min.result c.min.ensures
    ∙ ap (λ x. body_at x c.self.inside.acks) c.as_slice.ensures.value
    ∙ ap (λ s. body_at s.content s.acks) c.self.view_is
