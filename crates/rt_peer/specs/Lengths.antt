-- How long the text of a tree is.
use Rattle.std.specs.Prelude.{ℕ, ◌-◌, ◌^◌, min, length}
use Rattle.serde_json.specs.Written.{compact_text}
use Rattle.rt_tree.specs.Trees.{PathTree}
use Rattle.rt_tree.specs.Writing.{data_of}

-- how many bytes the tree has as compact JSON
abbrev pub text_length : PathTree → ℕ
text_length t = length (compact_text (data_of t))

-- a number that is counted in 64 bits: the largest such number stands for all above too
abbrev pub capped : ℕ → ℕ
capped n = min n (2 ^ 64 - 1)
