-- `resolve::resolve_gathered` meets its contract: what was gathered, resolved and put back in turn is the resolved levels.
-- Assumes nothing.
use mathlib.Core.Path.{sym}
use lib.Seq.{length-take-le}
use Rattle.resolve.proofs.WholeLaws.{within_types, fronts_equal, front_low, count_kept, resolved_whole}
use Rattle.resolve.proofs.resolve_gathered.Goals as goal

pub slice_bounds-resolve_kept-end : goal.slice_bounds-resolve_kept-end
slice_bounds-resolve_kept-end c =
    within_types c.gather-count.ensures c.requires

pub slice_bounds-resolve_kept-end-2 : goal.slice_bounds-resolve_kept-end-2
slice_bounds-resolve_kept-end-2 c =
    sym (length-take-le _ _ (within_types c.gather-count.ensures c.requires))

pub resolve_kept-requires : goal.resolve_kept-requires
resolve_kept-requires c =
    record { types_len = fronts_equal c.gather-count.ensures c.requires; by_index = front_low c.gather-count.ensures c.requires }

pub put_back-requires-clause-count_value : goal.put_back-requires-clause-count_value
put_back-requires-clause-count_value c = count_kept c.gather-count.ensures c.requires

pub returns : goal.returns
returns c =
    resolved_whole c.gather-count.ensures c.requires c.resolve_kept.new.levels _ c.resolve_kept.auto.levels c.resolve_kept.ensures c.put_back.ensures
