use Rattle.std.proofs.Common.{arith, refl, inl}
use Rattle.tap_entry.specs.Seen.{seen_pages}
use Rattle.tap_entry.proofs.FirstLines.{first_none, first_sound}
use Rattle.tap_entry.proofs.Files.{told_of, file_of, refused_of}
use Rattle.tap_entry.proofs.file.Pages.read.Goals as goal

pub returns-in_default-clause-refused : goal.returns-in_default-clause-refused
returns-in_default-clause-refused c = (omega arith, inl (refl, first_none c.args.bytes.now c.in_default.ensures))

pub invariant_of-result : goal.invariant_of-result
invariant_of-result c = told_of c.args.bytes.now c.in-Some.password c.in-Some.rest.now _ (first_sound _ _ _ c.in-Some.ensures) c.in-Ok.ensures.pages

pub returns-in-Ok-clause-file : goal.returns-in-Ok-clause-file
returns-in-Ok-clause-file c =
    file_of c.args.bytes.now c.in-Some.password c.in-Some.rest.now (seen_pages c.in-Ok.pages.items) (omega arith) (first_sound _ _ _ c.in-Some.ensures) c.in-Ok.ensures.pages

pub returns-in-Err-clause-refused : goal.returns-in-Err-clause-refused
returns-in-Err-clause-refused c =
    refused_of c.args.bytes.now c.in-Some.password c.in-Some.rest.now c.in-Err.fault (omega arith) (first_sound _ _ _ c.in-Some.ensures) c.in-Err.ensures.refused
