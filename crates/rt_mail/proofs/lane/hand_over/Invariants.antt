use Rattle.std.proofs.Common.{ℕ, ◌≤◌, length}
use Rattle.rt_mail.specs.Lanes.{room, HandsOver}
use Rattle.rt_mail.specs.inside.Histories.{line_of}
use Rattle.rt_mail.proofs.lane.hand_over.Given as goal

-- some are handed over
abbrev pub invariant-loop-waiting : goal.invariant-loop-waiting
invariant-loop-waiting l =
    (k : ℕ) × (k ≤ length l.initial.waiting.items) × (k ≤ room l.initial.inbox)
    × HandsOver k (line_of l.initial.waiting.items l.initial.handed.items) l.initial.inbox (line_of l.waiting.items l.handed.items) l.inbox

abbrev pub decreases-loop-waiting : goal.decreases-loop-waiting
decreases-loop-waiting l = length l.waiting.items
