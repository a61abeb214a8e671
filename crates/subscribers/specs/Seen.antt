-- What the crate's own structs of the document stand for.
use Rattle.std.specs.Prelude.{List, [], ◌∷◌, map, option_map}
use Rattle.subscribers.specs.declared.tables.Entry.{Entry as EntryRead}
use Rattle.subscribers.specs.declared.tables.GroupTable.{GroupTable}
use Rattle.subscribers.specs.declared.document.Document.{Document}
use Rattle.subscribers.specs.declared.entries.CheckedGroup.{CheckedGroup}
use Rattle.subscribers.specs.declared.entries.Subscriber.{Subscriber}
use Rattle.subscribers.specs.Parts.{Target}
use Rattle.subscribers.specs.Form.{SubscriberEntry, GroupEntry, Form}

-- An entry that was read.
abbrev pub seen_entry : EntryRead → SubscriberEntry
seen_entry e = record { id = e.id.now; capcode = e.capcode; class = e.class.now }

-- Entries that were read.
abbrev pub seen_entries : List EntryRead → List SubscriberEntry
seen_entries es = map seen_entry es

-- A group that was read.
abbrev pub seen_group : GroupTable → GroupEntry
seen_group g = record { id = g.id.now; capcodes = g.capcodes.items; class = g.class.now }

-- Groups that were read.
abbrev pub seen_groups : List GroupTable → List GroupEntry
seen_groups gs = map seen_group gs

-- A document that was read.
abbrev pub seen_document : Document → Form
seen_document d = record {
  cells = d.cells;
  password = option_map (λ s. s.now) d.password;
  entries = seen_entries d.entries.items;
  groups = seen_groups d.groups.items;
}

-- What the id of a subscriber stands for, and what that of a group does.
abbrev pub target_to : Subscriber → Target
target_to s = record { function = s.function; capcodes = s.capcode ∷ [] }

abbrev pub target_of_group : CheckedGroup → Target
target_of_group g = record { function = g.function; capcodes = g.capcodes.items }
