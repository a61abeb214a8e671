use Rattle.std.proofs.Common.{Option, ℕ, refl, ◌∙◌, ap}
use Rattle.std.specs.Option.{unwrap_or}
use Rattle.receiver.proofs.Capcodes.{holder_added, key_added}
use Rattle.receiver.proofs.group.add_holder.Goals as goal

pub returns-in-Ok-clause-has : goal.returns-in-Ok-clause-has
returns-in-Ok-clause-has c =
    holder_added c.args.holders.now.entries c.insert.new.self.entries c.args.number c.number-key.result c.args.capcode c.unwrap_or-old.result _ c.requires.some c.requires.most
    c.number-key.ensures.value (c.unwrap_or-old.ensures ∙ ap (λ (o : Option ℕ). unwrap_or o 0) (c.copied.ensures ∙ c.get.ensures.value)) refl c.in-Ok.ensures.updates.0

pub returns-in-Ok-clause-keys : goal.returns-in-Ok-clause-keys
returns-in-Ok-clause-keys c =
    key_added c.args.holders.now.entries c.insert.new.self.entries c.number-key.result c.args.capcode _ c.number-key.ensures.value c.in-Ok.ensures.updates.0
