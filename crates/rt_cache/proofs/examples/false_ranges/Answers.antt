use Rattle.std.proofs.Common.{Bool, false, not, sym, ap, Option}
use mathlib.Core.Bool.{true≢false}
use Rattle.std.specs.Prelude.{codes, is_some}
use Rattle.std.specs.Option.{option_map_or}
use Rattle.rt_tree.specs.PathTree.{Key, null, of_leaf, is_null, leaf_at, sub, child, put, children_alone}
use Rattle.rt_cache.specs.Brought.{Base}
use Rattle.rt_cache.proofs.examples.false_ranges.Goals as goal

-- ---- what tells two bases apart

abbrev has_child : Key → Option Base → Bool
has_child k seen = option_map_or (λ b. not (is_null (child b.tree k))) seen false

abbrev is_whole : Option Base → Bool
is_whole seen = option_map_or (λ b. b.whole) seen false

abbrev is_there : Option Base → Bool
is_there seen = is_some seen

pub returns-clause-waits : goal.returns-clause-waits
unfolding null of_leaf is_null leaf_at sub put children_alone
returns-clause-waits c e = true≢false (ap (is_there) e)

pub returns-clause-holds : goal.returns-clause-holds
unfolding null of_leaf is_null leaf_at sub put children_alone
returns-clause-holds c e = true≢false (sym (ap (is_there) e))

pub returns-clause-second : goal.returns-clause-second
unfolding null of_leaf is_null leaf_at sub put children_alone
returns-clause-second c e = true≢false (sym (ap (is_there) e))

pub returns-clause-last : goal.returns-clause-last
unfolding null of_leaf is_null leaf_at sub put children_alone
returns-clause-last c e = true≢false (sym (ap (has_child (codes "r")) e))

pub returns-clause-ended : goal.returns-clause-ended
unfolding null of_leaf is_null leaf_at sub put children_alone
returns-clause-ended c e = true≢false (ap (has_child (codes "r")) e)

pub returns-clause-lost : goal.returns-clause-lost
unfolding null of_leaf is_null leaf_at sub put children_alone
returns-clause-lost c e = true≢false (ap (is_there) e)

pub returns-clause-whole : goal.returns-clause-whole
unfolding null of_leaf is_null leaf_at sub put children_alone
returns-clause-whole c e = true≢false (sym (ap (is_whole) e))

pub returns-clause-inherits : goal.returns-clause-inherits
unfolding null of_leaf is_null leaf_at sub put children_alone
returns-clause-inherits c e = true≢false (sym (ap (is_there) e))

pub returns-clause-held : goal.returns-clause-held
unfolding null of_leaf is_null leaf_at sub put children_alone
returns-clause-held c e = true≢false (sym (ap (is_there) e))

pub returns-clause-narrower : goal.returns-clause-narrower
unfolding null of_leaf is_null leaf_at sub put children_alone
returns-clause-narrower c e = true≢false (sym (ap (is_there) e))

pub returns-clause-passed_over : goal.returns-clause-passed_over
unfolding null of_leaf is_null leaf_at sub put children_alone
returns-clause-passed_over c e = true≢false (ap (is_there) e)

pub returns-clause-part : goal.returns-clause-part
unfolding null of_leaf is_null leaf_at sub put children_alone
returns-clause-part c e = true≢false (ap (is_whole) e)

pub returns-clause-old : goal.returns-clause-old
unfolding null of_leaf is_null leaf_at sub put children_alone
returns-clause-old c e = true≢false (sym (ap (has_child (codes "r")) e))

pub returns-clause-wider : goal.returns-clause-wider
unfolding null of_leaf is_null leaf_at sub put children_alone
returns-clause-wider c e = true≢false (sym (ap (is_there) e))

pub returns-clause-narrow : goal.returns-clause-narrow
unfolding null of_leaf is_null leaf_at sub put children_alone
returns-clause-narrow c e = true≢false (ap (is_there) e)

pub returns-clause-old_held : goal.returns-clause-old_held
unfolding null of_leaf is_null leaf_at sub put children_alone
returns-clause-old_held c e = true≢false (sym (ap (is_there) e))
