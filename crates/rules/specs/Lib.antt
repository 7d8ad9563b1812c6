-- What a reader must believe: section 3.12 of the Unicode Standard 3.0, as document 01 reads it, the drawing order of marks
-- by its section 3.10 and by source document 001, and the refusals.
-- Where each rule stands:
--   P1 to P3           Paragraph, each under its name
--   X1 to X5, X7       Explicit, each under its name; X6 as X6_level and X6_type; X8 and X9 in level_here and type_here
--   X9                 Classes.is_removed says what is removed, Explicit.kept removes it
--   X10                Runs, and Resolve.resolve_runs for the levels beside a run
--   W1 to W7           Weak, each under its name
--   N1, N2             Neutral, each under its name
--   I1, I2             Implicit, each under its name
--   L1, L2             Line, each under its name; what the passes of L2 reverse, counted, in Reversals
--   R1 to R3           Canonical: R1 is its p, R2 and R3 under their names
--   steps 2a to 2c     Stacking, each under its name; step 2 is for all stretches of a text
-- Document 02 moves some of this: class CR and the pair (Classes.CR, Paragraph.is_pair, Refusals.may_end), the default of a
-- base that the text does not decide (Paragraph.or_else, base_of, Refusals.check_request), and the count that Order answers
-- beside how many positions it placed (Reversals, Jobs.Placing).
-- The words on lists that these are written in (over, part, stretches and the like) are in laws/specs; if is the library's.
-- Refusals has the eleven refusals and each job's order of checks, Jobs what each job answers and leaves in its buffer,
-- Table the eleven rows of document 01 that are proved, Examples the worked drawing orders.
pub mod Classes
pub mod Paragraph
pub mod Explicit
pub mod Runs
pub mod Weak
pub mod Neutral
pub mod Implicit
pub mod Resolve
pub mod Line
pub mod Reversals
pub mod Canonical
pub mod Stacking
pub mod Examples
pub mod Refusals
pub mod Jobs
pub mod Table
