use Rattle.std.proofs.Common.{subst, sym, ap, ◌∙◌, Some}
use Rattle.tap_entry.specs.MarkReaders.{ReaderStandsFor}
use Rattle.tap_entry.proofs.Steps.{marks_heard}
use Rattle.tap_entry.proofs.goodbye.Leaving.feed.Goals as goal

pub returns-in-Some-End : goal.returns-in-Some-End
returns-in-Some-End c x marks h =
    let k = subst (λ z. ReaderStandsFor z x marks) (sym c.client.view_is) h in
    (c.feed.result, (marks_heard _ _ _ (c.feed.ensures x marks k), c.in-Some-End.is ∙ ap (λ m. Some m) c.in-Some-End.field-0-is))
