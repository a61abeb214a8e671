-- A file gives settings, or is refused for one fault.
use Rattle.std.proofs.Common.{◌≡◌, Result, Ok, Err}
use Rattle.subscribers.specs.Parts.{Parts}
use Rattle.subscribers.specs.declared.faults.SettingsFault.{SettingsFault}

pub one_ok : (x : Result Parts SettingsFault) (a b : Parts) → x ≡ Ok a → x ≡ Ok b → b ≡ a
one_ok x a b h k = cc

pub one_err : (x : Result Parts SettingsFault) (a b : SettingsFault) → x ≡ Err a → x ≡ Err b → b ≡ a
one_err x a b h k = cc

pub ok_and_err : {B : Type 0} (x : Result Parts SettingsFault) (a : Parts) (b : SettingsFault) → x ≡ Ok a → x ≡ Err b → B
ok_and_err x a b h k = cc
