use Rattle.std.proofs.Common.{string_bytes, rules, tests, ◌∙◌}
use Rattle.std.specs.List.{list_any}
use Rattle.std.specs.Map as tree
use Rattle.std.specs.Str.{bytes_eq}
use Rattle.std.proofs.lemmas.Iterator.Consumers.{YieldsList-from_rest}
use Rattle.std.proofs.lemmas.Iterator.Search.{all_from_yields_List}
use Rattle.subscribers.proofs.Keys.{has_only-view}
use Rattle.subscribers.specs.Form.{file_keys}
use Rattle.subscribers.proofs.document.has_only_file_keys.Goals as goal

pub returns : goal.returns
returns c =
    let es = c.args.table.now.entries in
    all_from_yields_List (λ k. list_any (bytes_eq (string_bytes k)) (file_keys c.args.version)) _ _ _ c.all.ensures.ran (YieldsList-from_rest (tree.keys_of es) c.keys.ensures.rest) (λ x b q k. search (rules, tests))
    ∙ has_only-view (file_keys c.args.version) es
