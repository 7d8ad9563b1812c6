use Rattle.std.proofs.Common.{rules}
use Rattle.laws.proofs.Any.{any_begun, any_next, any_done}
use Rattle.parts.proofs.any.Goals as goal

pub loop-byte-init : goal.loop-byte-init
loop-byte-init g c = λ test computes. any_begun _ _

pub loop-byte-preserved : goal.loop-byte-preserved
loop-byte-preserved g c = λ test computes. any_next test _ _ c.loop-byte.found _ _ c.loop-byte-test.true (computes _ _ (search rules) c.passes-found.ensures) (search rules) (c.loop-byte.invariant test computes)

pub returns : goal.returns
returns g c = λ test computes. any_done test _ _ c.loop-byte.found c.loop-byte-test.false (c.loop-byte.invariant test computes)
