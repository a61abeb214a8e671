use Rattle.std.proofs.Common.{◌≡◌, ◌<◌, ◌==◌, true, false, refl, ap, sym, subst, ◌∙◌, arith, List, ℕ}
use Rattle.std.proofs.lemmas.Bool.Decides.{nat_tests}
use Rattle.entry_line.specs.Chars.{char_of}
use Rattle.subscribers.specs.Directory.{directory_of}
use Rattle.snpp_entry.specs.State.{SnppState, SnppStands, AreKept}
use Rattle.snpp_entry.specs.StateView.{snpp_state_of}
use Rattle.snpp_entry.proofs.Feeds.{closed_on, full_on, quiet_on, line_on}
use Rattle.snpp_entry.proofs.snpp.Snpp.feed.Goals as goal

pub returns-then-self : goal.returns-then-self
returns-then-self c spare x k =
    closed_on (directory_of c.args.settings.now) spare c.args.self.now x (char_of c.args.byte) c.args.pool.now (ap (λ (d : SnppState). d.over) (sym c.self.view_is) ∙ c.if-self.true) k

pub returns-then-self-eq-LAST_CHARACTER : goal.returns-then-self-eq-LAST_CHARACTER
returns-then-self-eq-LAST_CHARACTER c spare x k =
    let last : c.self.inside.heard ≡ 999999 = (let h = c.if-self-eq-LAST_CHARACTER.true in omega (arith, h)) in
    full_on (directory_of c.args.settings.now) spare (snpp_state_of c.self.inside) _ x (char_of c.args.byte) c.args.pool.now
    c.if-self.false last refl refl
    (subst (λ (d : SnppState). SnppStands (directory_of c.args.settings.now) spare d x c.args.pool.now.spare) (sym c.self.view_is) k)

pub returns-then-c-ne-LF : goal.returns-then-c-ne-LF
returns-then-c-ne-LF c spare x k =
    let few : c.self.inside.heard < 999999 = (let h = c.if-self-eq-LAST_CHARACTER.false in let b = c.self.invariant.heard_bound in omega arith) in
    let other : (char_of c.args.byte == 10) ≡ false = (let h = c.if-c-ne-LF.true in grind (arith, nat_tests)) in
    quiet_on (directory_of c.args.settings.now) spare (snpp_state_of c.self.inside) _ x (char_of c.args.byte) c.args.pool.now
    c.if-self.false few other refl refl refl c.if-self.false c.push.ensures c.count_within-self-inside.ensures
    (subst (λ (d : SnppState). SnppStands (directory_of c.args.settings.now) spare d x c.args.pool.now.spare) (sym c.self.view_is) k)

pub returns : goal.returns
returns c spare x k =
    let few : c.self.inside.heard < 999999 = (let h = c.if-self-eq-LAST_CHARACTER.false in let b = c.self.invariant.heard_bound in omega arith) in
    let lf : (char_of c.args.byte == 10) ≡ true = (let h = c.if-c-ne-LF.false in grind (arith, nat_tests)) in
    let d = snpp_state_of c.self.inside in
    line_on (directory_of c.args.settings.now) spare d _ x (char_of c.args.byte) c.answer_piece-answer.result.0 c.answer_piece-answer.result.1 c.args.pool.now c.answer_piece-answer.new.pool
    c.if-self.false few lf refl c.clear.ensures refl c.is_bye-self-inside.ensures c.count.ensures
    (λ piece h. c.answer_piece-answer.ensures.done piece (subst (λ (kept : List ℕ). AreKept piece kept c.self.inside.count) (sym c.as_slice.ensures) h))
    (subst (λ (d : SnppState). SnppStands (directory_of c.args.settings.now) spare d x c.args.pool.now.spare) (sym c.self.view_is) k)
