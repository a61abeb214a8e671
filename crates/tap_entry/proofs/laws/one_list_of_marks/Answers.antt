use Rattle.tap_entry.proofs.OneCut.{one_marks, some_marks, marks_front}
use Rattle.tap_entry.proofs.laws.one_list_of_marks.Goals as goal

pub returns : goal.returns
returns c = record { some = some_marks; only = one_marks; fronts = marks_front }
