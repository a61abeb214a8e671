use Rattle.std.proofs.Common.{◌<◌, ◌^◌, ap, map, rules, ◌∙◌}
use Rattle.std.proofs.lemmas.List.{take_all}
use Rattle.std.specs.FinMap.{insert, from_entries}
use Rattle.subscribers.specs.Made.{numbered}
use Rattle.subscribers.proofs.Digits.{mapped-more, small-more}
use Rattle.subscribers.proofs.numbers.directory_of_numbers.Goals as goal

pub loop-number-init : goal.loop-number-init
loop-number-init c = record { mapped = c.new-directory.ensures; small = tt }

pub loop-number-preserved : goal.loop-number-preserved
loop-number-preserved c =
    let numbers = c.args.numbers.now in
    let item = c.loop-number-item.result in
    let fits : item.0 < 2 ^ 32 = search rules in
    record {
      mapped = c.in_ok-insert.ensures.ok
          ∙ ap (λ id. insert c.loop-number.directory id (numbered item).1) (c.as_bytes.ensures.value ∙ c.format.ensures.text)
          ∙ mapped-more numbers c.loop-number.number-index item c.loop-number-test.true c.loop-number-item.is c.loop-number.directory c.requires c.loop-number.invariant.small fits c.loop-number.invariant.mapped;
      small = small-more numbers c.loop-number.number-index item c.loop-number-test.true c.loop-number-item.is c.loop-number.invariant.small fits;
    }

pub returns : goal.returns
returns c = c.loop-number.invariant.mapped ∙ ap (λ l. from_entries (map numbered l)) (take_all c.loop-number.number-index c.args.numbers.now c.loop-number-test.false)
