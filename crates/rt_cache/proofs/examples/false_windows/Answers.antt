use Rattle.std.proofs.Common.{Bool, false, not, sym, ap, Option}
use mathlib.Core.Bool.{true≢false}
use Rattle.std.specs.Prelude.{codes, is_some}
use Rattle.std.specs.Option.{option_map_or}
use Rattle.rt_tree.specs.PathTree.{Key, null, of_leaf, is_null, leaf_at, sub, child, put, children_alone}
use Rattle.rt_cache.specs.Brought.{Base}
use Rattle.rt_cache.proofs.examples.false_windows.Goals as goal

-- ---- what tells two bases apart

abbrev has_child : Key → Option Base → Bool
has_child k seen = option_map_or (λ b. not (is_null (child b.tree k))) seen false

abbrev is_whole : Option Base → Bool
is_whole seen = option_map_or (λ b. b.whole) seen false

abbrev is_there : Option Base → Bool
is_there seen = is_some seen

pub returns-clause-nothing : goal.returns-clause-nothing
unfolding null of_leaf is_null leaf_at sub put children_alone
returns-clause-nothing c e = true≢false (ap (is_there) e)

pub returns-clause-dropped : goal.returns-clause-dropped
unfolding null of_leaf is_null leaf_at sub put children_alone
returns-clause-dropped c e = true≢false (ap (has_child (codes "z")) e)

pub returns-clause-alone : goal.returns-clause-alone
unfolding null of_leaf is_null leaf_at sub put children_alone
returns-clause-alone c e = true≢false (ap (has_child (codes "x")) e)

pub returns-clause-at_once : goal.returns-clause-at_once
unfolding null of_leaf is_null leaf_at sub put children_alone
returns-clause-at_once c e = true≢false (sym (ap (is_whole) e))

pub returns-clause-forgotten : goal.returns-clause-forgotten
unfolding null of_leaf is_null leaf_at sub put children_alone
returns-clause-forgotten c e = true≢false (ap (is_there) e)

pub returns-clause-not_whole : goal.returns-clause-not_whole
unfolding null of_leaf is_null leaf_at sub put children_alone
returns-clause-not_whole c e = true≢false (ap (is_whole) e)

pub returns-clause-region_dropped : goal.returns-clause-region_dropped
unfolding null of_leaf is_null leaf_at sub put children_alone
returns-clause-region_dropped c e = true≢false (ap (has_child (codes "x")) e)

pub returns-clause-still_whole : goal.returns-clause-still_whole
unfolding null of_leaf is_null leaf_at sub put children_alone
returns-clause-still_whole c e = true≢false (sym (ap (is_whole) e))

pub returns-clause-still_there : goal.returns-clause-still_there
unfolding null of_leaf is_null leaf_at sub put children_alone
returns-clause-still_there c e = true≢false (sym (ap (has_child (codes "x")) e))

pub returns-clause-ended : goal.returns-clause-ended
unfolding null of_leaf is_null leaf_at sub put children_alone
returns-clause-ended c e = true≢false (sym (ap (is_there) e))

pub returns-clause-hidden : goal.returns-clause-hidden
unfolding null of_leaf is_null leaf_at sub put children_alone
returns-clause-hidden c e = true≢false (ap (is_whole) e)
