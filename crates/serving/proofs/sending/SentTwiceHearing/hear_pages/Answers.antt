use Rattle.std.proofs.Common.{◌∙◌, refl, sym}
use Rattle.page_pool.specs.Pool.{pages}
use Rattle.listening.specs.TwinLines.{twin_group_lines}
use Rattle.listening.proofs.HeardFronts.{twin_group_lines-none}
use Rattle.serving.specs.Sent.{twice}
use Rattle.serving.proofs.LeftPool.{no_live}
use Rattle.serving.proofs.Recorded.{few_twice, sent_twice}
use Rattle.serving.proofs.Trials.{hears_none, no_pages}
use Rattle.serving.proofs.sending.SentTwiceHearing.hear_pages.Goals as goal

pub returns-then-count-eq0-clause-hears : goal.returns-then-count-eq0-clause-hears
returns-then-count-eq0-clause-hears g c =
    hears_none twice (pages c.args.pool.now) (twin_group_lines c.args.self.now.group) (g.N.BitSource.state c.args.noise.now) (g.O.Sink.state c.args.out.now)
    (twin_group_lines-none c.args.self.now.group) (no_pages c.args.pool.now (sym c.count.ensures.count ∙ c.if-count-eq0.true))

pub returns-then-count-eq0-clause-leaves : goal.returns-then-count-eq0-clause-leaves
returns-then-count-eq0-clause-leaves g c = record { cells_stay = refl; all = λ e. no_live c.args.pool.now (sym c.count.ensures.count ∙ c.if-count-eq0.true) }

pub listen_through-requires-clause-few : goal.listen_through-requires-clause-few
listen_through-requires-clause-few g c = few_twice c.args.pool.now c.record.new.recording _ c.count.ensures.sound c.record.ensures.words c.bits-bits.ensures

pub listen_through-requires-clause-silent : goal.listen_through-requires-clause-silent
listen_through-requires-clause-silent g c = twin_group_lines-none c.args.self.now.group

pub returns-clause-hears : goal.returns-clause-hears
returns-clause-hears g c = record {
  air = _;
  is_sent = sent_twice (pages c.args.pool.now) c.record.new.recording _ c.record.ensures.words c.bits-bits.ensures;
  heard = c.listen_through.ensures.listens;
}
