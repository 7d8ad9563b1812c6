-- `weak::last_touched` meets its contract: where none is found, none is touched. Assumes nothing.
use borrow.Author.Rules.{rules}
use Rattle.weak.proofs.TouchedLaws.{none_touched}
use Rattle.weak.proofs.last_touched.Goals as goal

pub returns-in-None-clause-types_value : goal.returns-in-None-clause-types_value
returns-in-None-clause-types_value c = none_touched c.args.types.now 0 (λ k above below. search rules)
