-- What is pending, as the code holds it.
use Rattle.snpp_entry.specs.declared.pending.Held.{Held}
use Rattle.snpp_entry.specs.Rows.{Pending}

-- the id and the text
abbrev pub pending_of : Held → Pending
pending_of p = record { id = p.id; text = p.text }
