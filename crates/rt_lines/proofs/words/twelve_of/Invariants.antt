use Rattle.std.proofs.Common.{◌≡◌, option_map, ◌++◌, length, take, drop}
use Rattle.rt_lines.specs.Words.{bytes_of}
use Rattle.rt_lines.specs.inside.FormView.{views}
use Rattle.rt_lines.proofs.words.twelve_of.Given as goal

abbrev pub invariant-loop-place : goal.invariant-loop-place
invariant-loop-place l =
    (length l.random ≡ 12)
    × (bytes_of (views l.values) ≡ option_map (λ rest. take l.place l.random ++ rest) (bytes_of (views (drop l.place l.values))))
