-- `melvorash::levels::explicit_levels` meets its contract: a refusal leaves the buffer, and else the checks give what the work asks for.
-- Assumes nothing.
use Rattle.std.proofs.Common.{ℕ, sym}
use Rattle.rules.specs.Jobs.{explicit_buffer}
use Rattle.rules.proofs.SoundLaws.{levels_sound}
use Rattle.rules.proofs.BaseTheorem.{base_of_small}
use Rattle.melvorash.proofs.AnswerLaws.{levels_handed, levels_written}
use Rattle.rules.specs.Explicit.{X1, explicit_levels}
use Rattle.melvorash.proofs.levels.explicit_levels.Goals as goal

pub explicit_levels-requires : goal.explicit_levels-requires
explicit_levels-requires c =
    let s = levels_sound _ _ _ _ (sym c.in_ok-check_levels.ensures) in
    (rw c.base_of-base.ensures (base_of_small _ _ _ s.asked s.instead), s.fits)

pub returns-in_err-check_levels : goal.returns-in_err-check_levels
unfolding explicit_buffer
returns-in_err-check_levels c =
    levels_handed (λ (b : ℕ). explicit_levels b (X1 b) c.args.classes.now) _ _ _ _ _ _ c.from_residual.ensures.1 c.in_err-check_levels.ensures

pub returns : goal.returns
unfolding explicit_buffer
returns c =
    levels_written (λ (b : ℕ). explicit_levels b (X1 b) c.args.classes.now) _ _ _ _ _ _
    (sym c.in_ok-check_levels.ensures) c.base_of-base.ensures c.explicit_levels.ensures
