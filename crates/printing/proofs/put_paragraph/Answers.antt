-- `printing::put_paragraph` meets its contract: with room for the longest paragraph Resolve refuses just what is told as refused.
-- Assumes nothing.
use native.Mathlib.Omega.{arith}
use mathlib.Core.Path.{ap}
use Rattle.melvorash.specs.Answers.{levels_page}
use Rattle.writing.proofs.TextLaws.{writes_same}
use Rattle.printing.proofs.TextLaws.{resolve_refused, resolve_taken, resolve_text}
use Rattle.printing.proofs.put_paragraph.Goals as goal

pub put_resolved-requires : goal.put_resolved-requires
put_resolved-requires c = resolve_taken _ _ _ _ _ _ (omega arith) c.resolve_levels.ensures _ (ap levels_page c.in-Ok.is) _ (omega arith)

pub returns-in-Ok : goal.returns-in-Ok
returns-in-Ok c = writes_same (resolve_text _ _ _ _ _ _ (omega arith) c.resolve_levels.ensures _ (ap levels_page c.in-Ok.is)) c.put_resolved.ensures

pub returns-in-Err : goal.returns-in-Err
returns-in-Err c = writes_same (resolve_refused _ _ _ _ _ _ (omega arith) c.resolve_levels.ensures _ _ (ap levels_page c.in-Err.is)) c.put_refusal.ensures
