use Rattle.page_text.proofs.FitTest.{fits_from_test, test_from_fits}
use Rattle.page_text.proofs.laws.fit_test.Goals as goal

pub returns : goal.returns
returns c function text = (fits_from_test function text, test_from_fits function text)
