use Rattle.tap_entry.proofs.OneFile.{one_told, one_line, not_wrong}
use Rattle.tap_entry.proofs.laws.one_file.Goals as goal

pub returns : goal.returns
returns c = record { told = one_told; line = one_line; apart = not_wrong }
