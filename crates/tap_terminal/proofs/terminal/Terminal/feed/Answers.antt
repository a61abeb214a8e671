use Rattle.std.proofs.Common.{◌≡◌, ◌<◌, ◌≤◌, ◌+◌, ◌*◌, refl, ap, sym, subst, ◌∙◌, arith}
use Rattle.tap_block.specs.Brief.{ReadsOn}
use Rattle.entry_line.specs.Chars.{char_of}
use Rattle.tap_block.specs.Reading.{BeforeLogon}
use Rattle.tap_terminal.specs.StateView.{terminal_state_of}
use Rattle.subscribers.specs.Directory.{directory_of}
use Rattle.tap_terminal.specs.State.{TerminalState, Stands, IsItemJudged, KeepsSession, is_open}
use Rattle.tap_terminal.specs.declared.report.Report.{Report}
use Rattle.tap_terminal.specs.Reports.{counter_of, tally}
use Rattle.tap_terminal.proofs.Reports.{tally_added_pages}
use Rattle.tap_terminal.proofs.Feeds.{closed_on, closed_stage, full_on, quiet_on, item_on}
use Rattle.tap_terminal.proofs.terminal.Terminal.feed.Goals as goal

pub returns-in-Ended : goal.returns-in-Ended
returns-in-Ended c = record {
  password = refl;
  hears = λ password spare x session k. closed_on password (directory_of c.args.settings.now) spare c.args.self.now x (char_of c.args.byte) session c.args.pool.now
      (ap (λ (d : TerminalState). is_open d.stage) (sym c.self.view_is) ∙ closed_stage _ c.in-Ended.is) k;
  cells_stay = refl;
}

pub returns-then-self-eq-LAST_CHARACTER-clause-hears : goal.returns-then-self-eq-LAST_CHARACTER-clause-hears
returns-then-self-eq-LAST_CHARACTER-clause-hears c password spare x session k =
    let last : c.self.inside.heard ≡ 999999 = (let h = c.if-self-eq-LAST_CHARACTER.true in omega (arith, h)) in
    full_on password (directory_of c.args.settings.now) spare (terminal_state_of c.self.inside) _ x (char_of c.args.byte) session c.args.pool.now
    c.in-Open.is last refl refl
    (subst (λ (d : TerminalState). Stands password (directory_of c.args.settings.now) spare d x session c.args.pool.now.spare) (sym c.self.view_is) k)

pub invariant_of-self-in-Some-2 : goal.invariant_of-self-in-Some-2
invariant_of-self-in-Some-2 c =
    let kept = c.judge-judged.ensures.keeps in
    let heard : c.self-in-Some.inside.heard ≡ c.self.inside.heard + 1 = ap (λ (d : TerminalState). d.heard) c.self-in-Some.view_is ∙ kept.heard in
    let report : c.self-in-Some.inside.report ≡ c.self.inside.report = ap (λ (d : TerminalState). d.report) c.self-in-Some.view_is ∙ kept.report in
    let before : tally c.self-in-Some.inside.report ≤ 16 * c.self.inside.heard = subst (λ (r : Report). tally r ≤ 16 * c.self.inside.heard) (sym report) c.self.invariant.report_bound in
    let after : tally c.count.new.self ≤ 16 * (c.self.inside.heard + 1) =
    subst (λ (r : Report). tally r ≤ 16 * (c.self.inside.heard + 1)) (sym c.count.ensures)
    (tally_added_pages c.self-in-Some.inside.report (counter_of c.in-Some.item c.judge-judged.result.answer) c.judge-judged.result.pages c.self.inside.heard c.judge-judged.ensures.few before) in
    record {
      heard_bound = c.self-in-Some.invariant.heard_bound;
      wrong_bound = c.self-in-Some.invariant.wrong_bound;
      report_bound = subst (λ n. tally c.count.new.self ≤ 16 * n) (sym heard) after;
    }

pub returns-in-None-clause-hears : goal.returns-in-None-clause-hears
returns-in-None-clause-hears c password spare x session k =
    let few : c.self.inside.heard < 999999 = (let h = c.if-self-eq-LAST_CHARACTER.false in let b = c.self.invariant.heard_bound in omega arith) in
    quiet_on password (directory_of c.args.settings.now) spare (terminal_state_of c.self.inside) _ x (char_of c.args.byte) session c.args.pool.now
    c.in-Open.is few refl refl refl refl c.in-Open.is c.feed.ensures.password
    (λ items s. subst (λ r. ReadsOn BeforeLogon c.feed.new.self x items (char_of c.args.byte) r) c.in-None.is (c.feed.ensures.reads BeforeLogon x items s))
    (subst (λ (d : TerminalState). Stands password (directory_of c.args.settings.now) spare d x session c.args.pool.now.spare) (sym c.self.view_is) k)

pub returns-in-Some-clause-password : goal.returns-in-Some-clause-password
returns-in-Some-clause-password c =
    ap (λ (d : TerminalState). d.password) c.self-in-Some.view_is ∙ c.judge-judged.ensures.keeps.password ∙ ap (λ (d : TerminalState). d.password) c.self.view_is

pub returns-in-Some-clause-hears : goal.returns-in-Some-clause-hears
returns-in-Some-clause-hears c password spare x session k =
    let few : c.self.inside.heard < 999999 = (let h = c.if-self-eq-LAST_CHARACTER.false in let b = c.self.invariant.heard_bound in omega arith) in
    let f = directory_of c.args.settings.now in
    let mid = terminal_state_of (record c.self.inside { heard = c.self.inside.heard + 1; scanner = c.feed.new.self }) in
    let judged = terminal_state_of c.self-in-Some.inside in
    item_on password f spare (terminal_state_of c.self.inside) mid judged c.count.new.self x (char_of c.args.byte) session c.in-Some.item c.judge-judged.result c.args.pool.now c.judge-judged.new.pool
    c.in-Open.is few refl refl refl refl c.feed.ensures.password
    (λ items s. subst (λ r. ReadsOn BeforeLogon c.feed.new.self x items (char_of c.args.byte) r) c.in-Some.is (c.feed.ensures.reads BeforeLogon x items s))
    (λ e h b. subst (λ (d : TerminalState). IsItemJudged f mid d e c.judge-judged.result c.args.pool.now c.judge-judged.new.pool) (sym c.self-in-Some.view_is) (c.judge-judged.ensures.judged e h b))
    (subst (λ (d : TerminalState). KeepsSession mid d) (sym c.self-in-Some.view_is) c.judge-judged.ensures.keeps)
    c.count.ensures
    (subst (λ (d : TerminalState). Stands password f spare d x session c.args.pool.now.spare) (sym c.self.view_is) k)
