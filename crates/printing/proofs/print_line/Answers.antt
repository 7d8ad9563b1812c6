-- `printing::print_line` meets its contract: a short buffer is left alone, and in any other the whole text has room.
-- Assumes nothing.
use borrow.Author.Rules.{rules}
use Rattle.printing.proofs.PrintLaws.{prints_nothing, prints_text}
use Rattle.printing.proofs.print_line.Goals as goal

pub returns-then-out-lt-MOST_OUTPUT : goal.returns-then-out-lt-MOST_OUTPUT
returns-then-out-lt-MOST_OUTPUT c = let all = prints_nothing c.if-out-lt-MOST_OUTPUT.true in record { prefix_len = all.0; prints = all.1 }

pub returns : goal.returns
returns c = let all = prints_text c.if-out-lt-MOST_OUTPUT.false c.put_line.ensures.puts in search (rules, all)
