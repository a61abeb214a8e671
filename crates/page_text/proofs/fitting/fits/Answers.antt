use Rattle.page_text.proofs.Judged.{judged-faults, judged-fits}
use Rattle.page_text.proofs.fitting.fits.Goals as goal

pub returns-clause-fits : goal.returns-clause-fits
returns-clause-fits c = judged-fits c.args.function c.args.text.now c.judge.result c.judge.ensures

pub returns-clause-faults : goal.returns-clause-faults
returns-clause-faults c = judged-faults c.args.function c.args.text.now c.judge.result c.judge.ensures
