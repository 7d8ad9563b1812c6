-- The measure is what is left of the input. Assumes nothing.
use Rattle.std.proofs.Common.{◌-◌, ◌≡◌, length}
use Rattle.printing.specs.Printing.{most_output}
use Rattle.bidi_print.proofs.OutputLaws.{Printed}
use Rattle.bidi_print.proofs.print_lines.Given as goal

-- the output of the lines before this place is written
abbrev pub invariant-loop-from : goal.invariant-loop-from
invariant-loop-from g l = record {
  room : length l.out ≡ most_output;
  so_far : Printed (g.W.Write.contents l.initial.output) (g.W.Write.contents l.output) l.input l.from;
}

abbrev pub decreases-loop-from : goal.decreases-loop-from
decreases-loop-from g l = length l.input - l.from
