use Rattle.std.proofs.Common.{◌≡◌, length}
use Rattle.rt_world.specs.steps.Pushing.{has_tag_twice}
use Rattle.rt_sync.proofs.steps.pushes.has_equal_tags.Given as goal

-- none so far
abbrev pub invariant-loop-first : goal.invariant-loop-first
invariant-loop-first l = has_tag_twice l.parts ≡ has_tag_twice l.rest

abbrev pub decreases-loop-first : goal.decreases-loop-first
decreases-loop-first l = length l.rest
