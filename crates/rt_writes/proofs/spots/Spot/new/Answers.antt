use Rattle.std.proofs.Common.{ap, ◌∙◌}
use Rattle.rt_writes.specs.declared.spots.Spot.TheViews.{out-roll-Spot}
use Rattle.rt_writes.proofs.SpotLaws.{bare_here, bare_place, bare_under, bare_full, rolled}
use Rattle.rt_writes.proofs.KeptLaws.{bare_tree}
use Rattle.rt_writes.proofs.spots.Spot.new.Goals as goal

pub returns-clause-here : goal.returns-clause-here
returns-clause-here c =
    let opened = out-roll-Spot (record { here = c.new.result; under = c.new-2.result; below = c.new-3.result }) in
    bare_here (rolled c.new.result c.new-2.result c.new-3.result)
    (ap (λ r. r.here.entries) opened ∙ c.new.ensures.empty) (ap (λ r. r.below.entries) opened ∙ c.new-3.ensures.empty)

pub returns-clause-place : goal.returns-clause-place
returns-clause-place c =
    let opened = out-roll-Spot (record { here = c.new.result; under = c.new-2.result; below = c.new-3.result }) in
    bare_place (rolled c.new.result c.new-2.result c.new-3.result)
    (ap (λ r. r.here.entries) opened ∙ c.new.ensures.empty) (ap (λ r. r.below.entries) opened ∙ c.new-3.ensures.empty)

pub returns-clause-under : goal.returns-clause-under
returns-clause-under c =
    let opened = out-roll-Spot (record { here = c.new.result; under = c.new-2.result; below = c.new-3.result }) in
    bare_under (rolled c.new.result c.new-2.result c.new-3.result)
    (ap (λ r. r.under.all.keys) opened ∙ c.new-2.ensures.none.all) (ap (λ r. r.below.entries) opened ∙ c.new-3.ensures.empty)

pub returns-clause-full : goal.returns-clause-full
returns-clause-full c =
    let opened = out-roll-Spot (record { here = c.new.result; under = c.new-2.result; below = c.new-3.result }) in
    bare_full (rolled c.new.result c.new-2.result c.new-3.result)
    (ap (λ r. r.under.full.keys) opened ∙ c.new-2.ensures.none.full) (ap (λ r. r.below.entries) opened ∙ c.new-3.ensures.empty)

pub returns-clause-trees : goal.returns-clause-trees
returns-clause-trees c =
    let opened = out-roll-Spot (record { here = c.new.result; under = c.new-2.result; below = c.new-3.result }) in
    bare_tree (rolled c.new.result c.new-2.result c.new-3.result)
    (ap (λ r. r.under.tree) opened ∙ c.new-2.ensures.tree) (ap (λ r. r.below.entries) opened ∙ c.new-3.ensures.empty)
