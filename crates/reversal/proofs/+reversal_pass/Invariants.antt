-- The measure of `reversal::reversal_pass` is the level. Assumes nothing.
use Rattle.reversal.proofs.+reversal_pass.Given as goal

abbrev pub decreases-reversal_pass : goal.decreases-reversal_pass
decreases-reversal_pass l = l.level
