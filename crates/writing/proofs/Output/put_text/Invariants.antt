-- `writing::Output::put_text` meets its contract: the bytes before the loop's place are written. Assumes nothing.
use mathlib.Core.List.{[], ◌∷◌}
use Rattle.writing.proofs.EachLaws.{EachWritten}
use Rattle.writing.proofs.Output.put_text.Given as goal

abbrev pub invariant-loop-byte : goal.invariant-loop-byte
invariant-loop-byte l = EachWritten (λ b. b ∷ []) l.text l.fn.self l.byte-index l.self
