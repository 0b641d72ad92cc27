use Rattle.std.proofs.Common.{ℕ, ◌-◌, ◌<◌, ◌≤◌, ◌^◌, drop}
use Rattle.rt_tree.specs.inside.KeyWords.{IsPacked, IsWord}
use Rattle.rt_tree.proofs.key.word_of.Given as goal

abbrev pub invariant-loop-at : goal.invariant-loop-at
invariant-loop-at l =
    (l.at ≤ 8)
    × (l.word < 256 ^ l.at)
    × ((w : ℕ) → IsPacked l.word (8 - l.at) (drop l.at l.text) w → IsWord l.text w)
