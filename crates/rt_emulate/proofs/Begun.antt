-- Lines that stand before others.
use Rattle.std.proofs.Common.{◌++◌, ℕ, List}
use Rattle.std.proofs.Math.Seq.{take-append_seam, take-length}
use Rattle.rt_emulate.specs.Diaries.{IsBegun}

pub begun_append : (xs ys : List ℕ) → IsBegun xs (xs ++ ys)
begun_append xs ys = take-append_seam xs ys

pub begun_self : (xs : List ℕ) → IsBegun xs xs
begun_self xs = take-length xs
