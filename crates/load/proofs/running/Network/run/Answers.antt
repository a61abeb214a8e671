use Rattle.std.proofs.Common.{ℕ, ◌/◌, List, [], ap, ap₂, sym, ◌∙◌}
use Rattle.std.proofs.lemmas.List.{length-map}
use Rattle.page_pool.specs.Pool.{Live, pages}
use Rattle.receiver.specs.Listeners.{is_one_of}
use Rattle.tap_block.specs.Chars.{characters}
use Rattle.load.specs.Draws.{draw}
use Rattle.load.specs.Feeding.{IsFed}
use Rattle.load.specs.Generated.{drawn_session, page_begins}
use Rattle.load.specs.Subscribers.{load_cells}
use Rattle.load.specs.declared.report.Report.{Report}
use Rattle.load.proofs.Runs.{fed-none, fed-session, is_load}
use Rattle.load.proofs.running.Network.run.Goals as goal

pub returns : goal.returns
returns c =
    let seed = c.args.seed in
    let network = c.args.self.now in
    let x = characters (drawn_session (draw seed) c.args.count) in
    let none : IsFed network.settings load_cells c.new-terminal.result network.pool [] =
    fed-none network.settings c.new-terminal.result network.pool c.requires.settings c.requires.live c.requires.spare c.new-terminal.ensures.stands in
    let fed : IsFed network.settings load_cells c.feed_session.new.terminal c.feed_session.new.pool x = c.feed_session.ensures.fed seed load_cells c.of-draws.ensures none in
    let report : Report = record {
      pages = c.from-pages.result;
      batches = c.saturating_sub.result / c.from.result;
      lines = c.hear_all-heard.result.lines.count;
      bytes = c.hear_all-heard.result.lines.bytes;
      sum = c.hear_all-heard.result.lines.sum;
      kept = c.hear_all-heard.result.kept;
    } in
    is_load seed c.args.count report fed.session (pages c.feed_session.new.pool) c.hear_all-heard.new.first c.hear_all-heard.new.second c.hear_all-heard.result.words
    (fed-session network.settings c.feed_session.new.terminal c.feed_session.new.pool x c.requires.settings fed)
    fed.pages_are
    (c.hear_all-heard.ensures.heard seed (page_begins (draw seed) c.args.count) (c.feed_session.ensures.further seed c.of-draws.ensures) c.requires.first_unfed c.requires.second_unfed)
    (c.from-pages.ensures ∙ c.count.ensures.count ∙ sym (length-map c.feed_session.new.pool.live (λ (e : Live). e.page)))
    (ap₂ (λ (a b : ℕ). a / b) c.saturating_sub.ensures c.from.ensures)
    (λ n. ap (λ (cs : List ℕ). is_one_of cs n) c.hear_all-heard.ensures.first ∙ c.requires.first n)
    (λ n. ap (λ (cs : List ℕ). is_one_of cs n) c.hear_all-heard.ensures.second ∙ c.requires.second n)
