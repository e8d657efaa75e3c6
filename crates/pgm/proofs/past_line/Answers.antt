use Rattle.pgm.proofs.Steps.{line_found}
use Rattle.pgm.proofs.past_line.Goals as goal

pub returns-in_err-length : goal.returns-in_err-length
returns-in_err-length c = rw (line_found _ _ _ _ c.in_ok-get.ensures.lookup.0.2 c.line_length.ensures, c.in_err-length.was) c.from_residual-in_err-length.ensures

pub returns : goal.returns
returns c = rw (line_found _ _ _ _ c.in_ok-get.ensures.lookup.0.2 c.line_length.ensures, c.in_ok-length.was)
