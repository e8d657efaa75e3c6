use Rattle.paper.specs.Line.{line_forward}
use Rattle.levels.proofs.level_forward.Given as goal

abbrev pub ghost-turn_lines : goal.ghost-turn_lines
ghost-turn_lines a = line_forward
