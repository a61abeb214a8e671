use Rattle.std.proofs.Common.{◌++◌, ◌∙◌, append_assoc}
use Rattle.std.specs.Prelude.{codes}
use Rattle.listening.proofs.Tables.{kind_text-address, kind_text-message}
use Rattle.listening.proofs.table.push_kind.Goals as goal

pub returns-in-Address-clause-items : goal.returns-in-Address-clause-items
returns-in-Address-clause-items c =
    rw (
      kind_text-address c.args.place c.args.kind c.in-Some.kind c.in-Address.high c.in-Address.function c.in-Some.is c.in-Address.is,
      c.push_all-in-Address-2.ensures.items,
      c.push_all-in-Address.ensures.items,
      c.push_all.ensures.items,
      c.digits.ensures,
      c.number_in_slot.ensures.value,
      c.letter.ensures,
    )
    (append_assoc (c.args.line.now.items ++ codes "address ") _ _ ∙ append_assoc c.args.line.now.items (codes "address ") _)

pub returns-in-Message-clause-items : goal.returns-in-Message-clause-items
returns-in-Message-clause-items c =
    rw (
      kind_text-message c.args.place c.args.kind c.in-Some.kind c.in-Message.group c.in-Some.is c.in-Message.is,
      c.push_all-in-Message-2.ensures.items,
      c.push_all-in-Message.ensures.items,
      c.group_digits.ensures,
    )
    (append_assoc c.args.line.now.items (codes "message ") _)
