-- What a function that writes a text promises: what it leaves in the lent buffer, where it ended, and that the buffer is
-- still the one that was lent.
use Rattle.std.specs.Prelude.{ℕ, ◌≡◌, List}
use Rattle.writing.specs.declared.Output.{Output}
use Rattle.writing.specs.Text.{Puts}

pub record Writes (text : List ℕ) (before after : Output) : Type 0 where
  pub puts : Puts text before.out.now before.at after.out.now after.at
  pub lent : after.out.ghost_name ≡ before.out.ghost_name
