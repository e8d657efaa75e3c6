use Rattle.paper.specs.Line.{line_back}
use Rattle.levels.proofs.level_back.Given as goal

abbrev pub ghost-turn_lines : goal.ghost-turn_lines
ghost-turn_lines a = line_back
