-- Ids that the prover computes.
use Rattle.std.specs.Prelude.{◌≡◌, ◌+◌, [], ◌∷◌, ◌++◌, Some, None, codes, replicate}
use Rattle.rt_push.specs.Digits.{number}
use Rattle.rt_push.specs.PushIds.{push_fault, push_id, used}
use Rattle.rt_push.specs.declared.error.PushError.TheVariants.{Exhausted, MomentTooLarge}
use Rattle.rt_push.specs.declared.error.PushError.TheVariants.{RandomOutOfRange}

-- the moment is written first, and the random part after it, as it was given
abbrev pub IdsAsWritten : Type 0
IdsAsWritten =
    (push_id (1700000000000, 0) ≡ codes "-NjEtLV-------------")
    × (push_id (1700000000001, number (replicate 12 63)) ≡ codes "-NjEtLV0zzzzzzzzzzzz")
    × (push_id (0, number (replicate 11 0 ++ 63 ∷ []) + 1) ≡ codes "------------------0-")

-- the moment last used, and one before it, count up
abbrev pub EarlierCountsUp : Type 0
EarlierCountsUp =
    (used (Some (1700000000000, 0)) 1700000000000 5 ≡ (1700000000000, 1))
    × (used (Some (1700000000000, 1)) 1699999999999 5 ≡ (1700000000000, 2))
    × (used (Some (1700000000000, 1)) 1700000000001 5 ≡ (1700000000001, 5))

-- the first cause counts: the moment, then the random part, then a random part that can't be counted up
abbrev pub FirstCauseCounts : Type 0
FirstCauseCounts =
    let full = Some (7, number (replicate 12 63)) in
    (push_fault full 281474976710656 (64 ∷ []) ≡ Some MomentTooLarge)
    × (push_fault full 7 (replicate 11 0 ++ 64 ∷ []) ≡ Some RandomOutOfRange)
    × (push_fault full 7 (replicate 12 0) ≡ Some Exhausted)
    × (push_fault full 8 (replicate 12 63) ≡ None)
