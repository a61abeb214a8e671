use Rattle.std.proofs.Common.{◌≡◌, subst, sym, append_assoc}
use Rattle.tap_entry.specs.Client.{content}
use Rattle.tap_entry.specs.MarkReaders.{ReaderStandsFor}
use Rattle.tap_entry.specs.Sound.{IsSound}
use Rattle.tap_entry.proofs.Contents.{content_sound}
use Rattle.tap_entry.proofs.Steps.{starts}
use Rattle.tap_entry.proofs.transfer.LoggedOn.start.Goals as goal

pub invariant_of-result : goal.invariant_of-result
invariant_of-result c =
    let e : c.append-4.new.content.items ≡ content (record { id = c.args.id.now; text = c.args.text.now })
    = simp (c.append-4.ensures, c.append-3.ensures, c.append-2.ensures, c.append.ensures, c.new-content.ensures, c.escape_into-n.ensures.field, append_assoc) in
    subst (λ z. IsSound z 0 0) (sym e) (content_sound _ c.requires.page)

pub returns-clause-stands : goal.returns-clause-stands
returns-clause-stands c x past h = starts _ x past c.append-4.new.content.items (subst (λ z. ReaderStandsFor z x past) (sym c.self.view_is) h)
