use Rattle.air.specs.Readers.{words_left}
use Rattle.page_pool.specs.Pool.{pages}
use Rattle.load.proofs.Hearing.{few-words, hears-all, hears-more, hears-none}
use Rattle.load.proofs.running.hear_all.Goals as goal

pub loop-word-init : goal.loop-word-init
loop-word-init c =
    hears-none (pages c.args.pool.now) c.args.draws.now.generator c.args.first.now c.args.second.now (words_left c.over-words.result) c.over-words.ensures.words
    (few-words c.args.pool.now (words_left c.over-words.result) c.requires c.over-words.ensures.words)

pub loop-word-preserved : goal.loop-word-preserved
loop-word-preserved c =
    hears-more (pages c.args.pool.now) c.args.draws.now.generator c.args.first.now c.args.second.now c.loop-word.draws.generator c.flips_at-flips.new.draws.generator
    c.loop-word.first c.loop-word.second c.hear_lines.new.group c.hear_pages.new.group c.loop-word.heard.words
    c.loop-word.heard.lines.count c.loop-word.heard.lines.bytes c.loop-word.heard.lines.sum c.loop-word.heard.kept
    c.hear_lines.new.lines.count c.hear_lines.new.lines.bytes c.hear_lines.new.lines.sum c.hear_pages.new.pages
    c.in-Some.word c.flips_at-flips.result.first c.flips_at-flips.result.second (words_left c.loop-word.words) (words_left c.next.new.self)
    c.loop-word.invariant c.in-Some.ensures.gives
    (λ seed k at. c.flips_at-flips.ensures.further seed k at) (λ seed k at. c.flips_at-flips.ensures.first seed k at) (λ seed k at. c.flips_at-flips.ensures.second seed k at)
    c.hear_lines.ensures.capcodes c.hear_pages.ensures.capcodes c.hear_lines.ensures.few c.hear_pages.ensures.few c.hear_lines.ensures.counted c.hear_pages.ensures.counted

pub returns-clause-heard : goal.returns-clause-heard
returns-clause-heard c =
    hears-all (pages c.args.pool.now) c.args.draws.now.generator c.loop-word.draws.generator c.args.first.now c.args.second.now c.loop-word.first c.loop-word.second c.loop-word.heard.words
    c.loop-word.heard.lines.count c.loop-word.heard.lines.bytes c.loop-word.heard.lines.sum c.loop-word.heard.kept (words_left c.loop-word.words)
    c.loop-word.invariant c.in_default.ensures.gives
