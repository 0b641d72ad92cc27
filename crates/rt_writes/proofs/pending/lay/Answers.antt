use Rattle.std.proofs.Common.{◌++◌, ◌∷◌, [], subst}
use Rattle.rt_writes.specs.inside.Spots.{ForgetsAll, IsMerged, KeepsBut, KeepsTrees}
use Rattle.rt_writes.proofs.KeptLaws.{more_merged}
use Rattle.rt_writes.proofs.BackLaws.{at_some, merged_back, on_some}
use Rattle.rt_writes.proofs.pending.lay.Goals as goal

pub returns-in-Ok-clause-laid : goal.returns-in-Ok-clause-laid
returns-in-Ok-clause-laid c = λ writes merged.
    subst (λ v. IsMerged (writes ++ record { id = c.args.id; entries = v } ∷ []) c.add_all.new.self) c.as_slice.ensures
    (more_merged writes c.args.merged.now c.add_all.new.self c.args.id c.as_slice.result.now c.in-Ok.ensures.adds c.in-Ok.ensures.trees merged)

pub returns-in-Err-clause-taken_back : goal.returns-in-Err-clause-taken_back
returns-in-Err-clause-taken_back c = λ writes low merged.
    merged_back writes c.args.merged.now c.add_all.new.self c.forget_all.new.self c.args.id c.args.entries.now low merged
    (subst (λ v. KeepsBut (at_some v) (on_some v) c.args.merged.now c.add_all.new.self c.args.id) c.as_slice.ensures c.in-Err.ensures.kept)
    (subst (λ v. ForgetsAll c.add_all.new.self c.forget_all.new.self v c.args.id) c.as_slice-in-Err.ensures c.forget_all.ensures.forgets)
    (subst (λ v. KeepsTrees c.add_all.new.self c.forget_all.new.self v c.args.id) c.as_slice-in-Err.ensures c.forget_all.ensures.trees)
