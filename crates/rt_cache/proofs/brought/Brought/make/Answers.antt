use Rattle.std.proofs.Common.{◌∙◌, ap, sym, subst}
use Rattle.std.specs.List.{All, Contains}
use Rattle.rt_cache.specs.Recover.{recover}
use Rattle.rt_cache.specs.Runs.{IsKept, after}
use Rattle.rt_cache.proofs.brought.Brought.make.Goals as goal

-- the listens kept are registered
pub recover-requires-clause-registered : goal.recover-requires-clause-registered
recover-requires-clause-registered c =
    let h : All (Contains c.in-Recover.registered) c.in-Recover.kept = subst (IsKept c.args.self.now) c.in-Recover.is c.requires.kept in
    subst (λ ks. All (Contains c.as_slice.result.now) ks) (sym c.as_slice-in-Recover.ensures)
    (subst (λ rs. All (Contains rs) c.in-Recover.kept) (sym c.as_slice.ensures) h)

pub returns-in_ok-recover-in-Recover-clause-ok : goal.returns-in_ok-recover-in-Recover-clause-ok
returns-in_ok-recover-in-Recover-clause-ok c =
    c.in_ok-recover-in-Recover.ensures.ok
    ∙ (λ i. recover (c.as_slice.ensures i) (c.as_slice-in-Recover.ensures i) c.args.self.now)
    ∙ ap (after c.args.self.now) (sym c.in-Recover.is)
