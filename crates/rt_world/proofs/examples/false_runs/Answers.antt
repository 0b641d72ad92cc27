use Rattle.std.proofs.Common.{◌≡◌, false, List, [], ◌∷◌, refl, sym, ap, subst, ◌∙◌}
use mathlib.Core.Bool.{true≢false}
use Rattle.rt_tree.specs.PathTree.{null, of_leaf, is_null, leaf_at, sub, put, with_children, children_alone, levels}
use Rattle.rt_tree.specs.Children.{children_of}
use Rattle.rt_tree.specs.TreeEq.{tree_eq}
use Rattle.rt_query.specs.Queries.{plain}
use Rattle.rt_cover.specs.Cover.{Tagged}
use Rattle.rt_world.specs.declared.step.Step.{Step}
use Rattle.rt_world.specs.World.{World}
use Rattle.rt_world.specs.Answers.{Answer, step, world_after}
use Rattle.rt_world.specs.Headline.{Leads, Moves}
use Rattle.rt_world.specs.laws.Script.{fresh, num}
use Rattle.rt_world.specs.laws.False.{a}
use Rattle.rt_world.proofs.Seen.{is_nil}
use Rattle.rt_world.proofs.examples.false_runs.Goals as goal

-- a listen that is done registers a listener
idle : (answer : Answer) → Moves fresh (Step.Listen 1 (plain a)) answer fresh → ⊥
unfolding null of_leaf is_null leaf_at sub put with_children children_alone levels children_of tree_eq
idle answer m = true≢false (ap (λ (w : World). is_nil w.listeners) m.made)

does_nothing : (answers : List Answer) (has : List Tagged) → Leads fresh [] (Step.Listen 1 (plain a) ∷ []) answers fresh has → ⊥
does_nothing [] has l = absurd l
does_nothing (x ∷ []) has l = idle x (subst (λ (v : World). Moves fresh (Step.Listen 1 (plain a)) x v) (sym (l.2).0) l.1)
does_nothing (x ∷ y ∷ rest) has l = absurd l.2

pub returns-clause-nothing : goal.returns-clause-nothing
returns-clause-nothing c = λ answers h. does_nothing answers h.has h.leads

pub returns-clause-short : goal.returns-clause-short
returns-clause-short c = λ answer new h. absurd (h.leads).2

-- ---- a run in which nobody is registered

-- a connection, a listen and a push
abbrev three_steps : List Step
three_steps = Step.Connected ∷ Step.Listen 1 (plain a) ∷ Step.Data 1 a (num 7) ∷ []

-- one is registered after them
one_there : is_nil (world_after fresh three_steps).listeners ≡ false
unfolding null of_leaf is_null leaf_at sub put with_children children_alone levels children_of tree_eq
one_there = refl

registers_nobody : (answers : List Answer) (new : World) (has : List Tagged) → new.listeners ≡ [] → Leads fresh [] three_steps answers new has → ⊥
registers_nobody [] new has none l = absurd l
registers_nobody (x ∷ []) new has none l = absurd l.2
registers_nobody (x ∷ y ∷ []) new has none l = absurd (l.2).2
registers_nobody (x ∷ y ∷ z ∷ []) new has none l =
    let m = l.2 in
    let n = m.2 in
    let first : l.0 ≡ (step fresh Step.Connected).0 = (l.1).made in
    let second : m.0 ≡ (step l.0 (Step.Listen 1 (plain a))).0 = (m.1).made in
    let third : n.0 ≡ (step m.0 (Step.Data 1 a (num 7))).0 = (n.1).made in
    let all : new ≡ world_after fresh three_steps =
    (n.2).0 ∙ third ∙ ap (λ (w : World). (step w (Step.Data 1 a (num 7))).0) (second ∙ ap (λ (w : World). (step w (Step.Listen 1 (plain a))).0) first) in
    true≢false (sym (ap is_nil none) ∙ ap (λ (w : World). is_nil w.listeners) all ∙ one_there)
registers_nobody (x ∷ y ∷ z ∷ more ∷ rest) new has none l = absurd ((l.2).2).2

pub returns-clause-nobody : goal.returns-clause-nobody
returns-clause-nobody c = λ answers new none h. registers_nobody answers new h.has none h.leads
