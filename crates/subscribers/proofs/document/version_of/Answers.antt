use Rattle.std.proofs.Common.{SFits, w64, rules}
use Rattle.std.proofs.lemmas.Int.{to_z-of_z}
use Rattle.subscribers.proofs.Versions.{version_of-other, version_of-none, version_of-named, version_of-unnamed}
use Rattle.subscribers.proofs.document.version_of.Goals as goal

pub returns-in_default : goal.returns-in_default
returns-in_default c = version_of-other _ c.in_default.ensures

pub returns-in_default-named : goal.returns-in_default-named
returns-in_default-named c = version_of-none _ (rw c.in_default-named.is at c.in-Some.ensures)

pub returns-in-Some-version_with : goal.returns-in-Some-version_with
returns-in-Some-version_with c =
    let fits : SFits w64 c.in-Some-named.number = search rules in
    version_of-named _ c.in-Some-named.number _ (rw c.in-Some-named.is at c.in-Some.ensures) (rw (to_z-of_z w64 c.in-Some-named.number fits) at c.in-Some-version_with.ensures)

pub returns-in-None : goal.returns-in-None
returns-in-None c =
    let fits : SFits w64 c.in-Some-named.number = search rules in
    version_of-unnamed _ c.in-Some-named.number (rw c.in-Some-named.is at c.in-Some.ensures) (rw (to_z-of_z w64 c.in-Some-named.number fits) at c.in-None.ensures)
