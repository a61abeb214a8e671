use Rattle.std.proofs.Common.{arith}
use Rattle.wires.proofs.Written.{still}
use Rattle.serving.proofs.Stops.{hung_up, hung_up_well}
use Rattle.serving.proofs.talking.session_on.Goals as goal

pub returns : goal.returns
returns g c =
    let r = c.converse-end.ensures in
    record {
      ran = hung_up _ _ _ _ _ _ _ _ _ _ _ r.0 r.1 c.hang_up.ensures;
      closes = record {
        shut = λ k. c.hang_up.ensures.shut (still r.0.line.tells k);
        later = omega (arith, r.2, c.hang_up.ensures.cause.later);
        well = λ k o s f. hung_up_well _ _ _ _ _ _ _ _ _ _ _ r.0 r.1 r.2 c.hang_up.ensures k o s f;
      };
    }
