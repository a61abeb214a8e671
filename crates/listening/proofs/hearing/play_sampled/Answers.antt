use Rattle.std.proofs.Common.{Bool, ◌≡◌, arith, subst}
use Rattle.std.proofs.lemmas.Grind.{common_steps}
use Rattle.std.specs.Prelude.{if◌then◌else◌}
use Rattle.endings.specs.declared.statuses.Status.TheVariants.{Done, FileFault, TooLong}
use Rattle.listening.specs.HeardLine.{HearsSampled}
use Rattle.listening.specs.PageLines.{group_lines}
use Rattle.listening.proofs.HeardSamples.{heard_some, heard_to_end, heard_to_fault, lender_at_end, lender_heard}
use Rattle.listening.proofs.hearing.play_sampled.Goals as goal

pub returns-in_default : goal.returns-in_default
returns-in_default g c =
    let h : HearsSampled (group_lines c.args.group.now) (g.B.BitSource.state c.args.samples.now) (g.B.BitSource.state c.play-status.new.bits.samples.now) (g.O.Sink.state c.args.out.now) (g.O.Sink.state c.play-status.new.out) c.play-status.result
    = heard_some (group_lines c.args.group.now) _ _ c.from.result _ _ _ (g.B.BitSource.state c.args.samples.now) (g.B.BitSource.state c.play-status.new.bits.samples.now) _ (g.O.Sink.state c.args.out.now) (g.O.Sink.state c.play-status.new.out) c.play-status.result
    c.from.ensures c.over-bits.ensures.state c.over-bits.ensures.left c.in_default.not-Done c.play-status.ensures.listens c.play-status.ensures.out_well in
    let names : c.play-status.new.bits.samples.ghost_name ≡ c.over-bits.result.samples.ghost_name
    = lender_heard (group_lines c.args.group.now) c.play-status.new.bits.samples.ghost_name c.over-bits.result.samples.ghost_name c.from.result _ _ _ (g.B.BitSource.state c.args.samples.now) (g.B.BitSource.state c.play-status.new.bits.samples.now) _ (g.O.Sink.state c.args.out.now) (g.O.Sink.state c.play-status.new.out) c.play-status.result
    c.over-bits.ensures.state c.play-status.ensures.listens in
    grind (arith, common_steps, h, names)

pub returns-in-Ok-true : goal.returns-in-Ok-true
returns-in-Ok-true g c =
    let h : HearsSampled (group_lines c.args.group.now) (g.B.BitSource.state c.args.samples.now) (g.B.BitSource.state c.end.new.self.samples.now) (g.O.Sink.state c.args.out.now) (g.O.Sink.state c.play-status.new.out) TooLong
    = subst (λ (more : Bool). HearsSampled (group_lines c.args.group.now) (g.B.BitSource.state c.args.samples.now) (g.B.BitSource.state c.end.new.self.samples.now) (g.O.Sink.state c.args.out.now) (g.O.Sink.state c.play-status.new.out) (if more then TooLong else Done)) c.in-Ok-true.field-0-test
    (heard_to_end (group_lines c.args.group.now) _ _ c.from.result _ _ _ (g.B.BitSource.state c.args.samples.now) (g.B.BitSource.state c.end.new.self.samples.now) _ _ (g.O.Sink.state c.args.out.now) (g.O.Sink.state c.play-status.new.out) c.play-status.result c.in-Ok-true.field-0
    c.from.ensures c.over-bits.ensures.state c.over-bits.ensures.follows c.in-Done.is c.play-status.ensures.listens c.play-status.ensures.out_well c.in-Ok-true.ensures) in
    let names : c.end.new.self.samples.ghost_name ≡ c.over-bits.result.samples.ghost_name
    = lender_at_end (group_lines c.args.group.now) c.end.new.self.samples.ghost_name c.over-bits.result.samples.ghost_name c.from.result _ _ _ (g.B.BitSource.state c.args.samples.now) (g.B.BitSource.state c.end.new.self.samples.now) _ _ (g.O.Sink.state c.args.out.now) (g.O.Sink.state c.play-status.new.out) c.play-status.result _
    c.over-bits.ensures.state c.play-status.ensures.listens c.in-Ok-true.ensures in
    grind (arith, common_steps, h, names)

pub returns-in-Ok-false : goal.returns-in-Ok-false
returns-in-Ok-false g c =
    let h : HearsSampled (group_lines c.args.group.now) (g.B.BitSource.state c.args.samples.now) (g.B.BitSource.state c.end.new.self.samples.now) (g.O.Sink.state c.args.out.now) (g.O.Sink.state c.play-status.new.out) Done
    = subst (λ (more : Bool). HearsSampled (group_lines c.args.group.now) (g.B.BitSource.state c.args.samples.now) (g.B.BitSource.state c.end.new.self.samples.now) (g.O.Sink.state c.args.out.now) (g.O.Sink.state c.play-status.new.out) (if more then TooLong else Done)) c.in-Ok-false.field-0-test
    (heard_to_end (group_lines c.args.group.now) _ _ c.from.result _ _ _ (g.B.BitSource.state c.args.samples.now) (g.B.BitSource.state c.end.new.self.samples.now) _ _ (g.O.Sink.state c.args.out.now) (g.O.Sink.state c.play-status.new.out) c.play-status.result c.in-Ok-false.field-0
    c.from.ensures c.over-bits.ensures.state c.over-bits.ensures.follows c.in-Done.is c.play-status.ensures.listens c.play-status.ensures.out_well c.in-Ok-false.ensures) in
    let names : c.end.new.self.samples.ghost_name ≡ c.over-bits.result.samples.ghost_name
    = lender_at_end (group_lines c.args.group.now) c.end.new.self.samples.ghost_name c.over-bits.result.samples.ghost_name c.from.result _ _ _ (g.B.BitSource.state c.args.samples.now) (g.B.BitSource.state c.end.new.self.samples.now) _ _ (g.O.Sink.state c.args.out.now) (g.O.Sink.state c.play-status.new.out) c.play-status.result _
    c.over-bits.ensures.state c.play-status.ensures.listens c.in-Ok-false.ensures in
    grind (arith, common_steps, h, names)

pub returns-in-Err : goal.returns-in-Err
returns-in-Err g c =
    let h : HearsSampled (group_lines c.args.group.now) (g.B.BitSource.state c.args.samples.now) (g.B.BitSource.state c.end.new.self.samples.now) (g.O.Sink.state c.args.out.now) (g.O.Sink.state c.play-status.new.out) FileFault
    = heard_to_fault (group_lines c.args.group.now) _ _ c.from.result _ _ _ (g.B.BitSource.state c.args.samples.now) (g.B.BitSource.state c.end.new.self.samples.now) _ _ (g.O.Sink.state c.args.out.now) (g.O.Sink.state c.play-status.new.out) c.play-status.result _
    c.from.ensures c.over-bits.ensures.state c.in-Done.is c.play-status.ensures.listens c.play-status.ensures.out_well c.in-Err.ensures in
    let names : c.end.new.self.samples.ghost_name ≡ c.over-bits.result.samples.ghost_name
    = lender_at_end (group_lines c.args.group.now) c.end.new.self.samples.ghost_name c.over-bits.result.samples.ghost_name c.from.result _ _ _ (g.B.BitSource.state c.args.samples.now) (g.B.BitSource.state c.end.new.self.samples.now) _ _ (g.O.Sink.state c.args.out.now) (g.O.Sink.state c.play-status.new.out) c.play-status.result _
    c.over-bits.ensures.state c.play-status.ensures.listens c.in-Err.ensures in
    grind (arith, common_steps, h, names)
