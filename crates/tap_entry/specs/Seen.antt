-- What the pages of a file that was read stand for.
use Rattle.std.specs.Prelude.{List, map}
use Rattle.tap_entry.specs.declared.lines.PageLine.{PageLine}
use Rattle.tap_entry.specs.Client.{PageToSend}

-- a page that was read
abbrev pub seen_page : PageLine → PageToSend
seen_page p = record { id = p.id.items; text = p.text.items }

-- pages that were read
abbrev pub seen_pages : List PageLine → List PageToSend
seen_pages ps = map seen_page ps
