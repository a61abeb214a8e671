-- How a run ends, as an exit code and as a line.
use Rattle.std.specs.Prelude.{ℕ, List, [], codes}
use Rattle.endings.specs.declared.statuses.Status.{Status}
use Rattle.endings.specs.declared.statuses.Status.TheVariants.{Done, Usage, Settings, FileFault, WireFault, OutFault, InputFault, NotBlock, BadSum, BadText, TooLong, LogonRefused, SomeUnsent, Memory, BadPages}

abbrev pub exit_code : Status → ℕ
exit_code Done = 0
exit_code Usage = 2
exit_code Settings = 3
exit_code FileFault = 4
exit_code WireFault = 5
exit_code OutFault = 6
exit_code InputFault = 7
exit_code NotBlock = 8
exit_code BadSum = 9
exit_code BadText = 10
exit_code TooLong = 11
exit_code LogonRefused = 12
exit_code SomeUnsent = 13
exit_code Memory = 14
exit_code BadPages = 15

-- the line about a status. Done and OutFault have none, and those of Settings and BadPages say what is refused.
abbrev pub status_line : Status → List ℕ
status_line Usage = codes "pocsag: usage\n"
status_line FileFault = codes "pocsag: file\n"
status_line WireFault = codes "pocsag: line\n"
status_line InputFault = codes "pocsag: input\n"
status_line NotBlock = codes "pocsag: not a block\n"
status_line BadSum = codes "pocsag: wrong sum\n"
status_line BadText = codes "pocsag: text\n"
status_line TooLong = codes "pocsag: air too long\n"
status_line LogonRefused = codes "pocsag: logon refused\n"
status_line SomeUnsent = codes "pocsag: some pages unsent\n"
status_line Memory = codes "pocsag: memory\n"
status_line other = []
