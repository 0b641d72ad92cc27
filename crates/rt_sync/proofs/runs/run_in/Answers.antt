use Rattle.std.proofs.Common.{◌≡◌, ◌≤◌, ◌+◌, List, [], ◌∷◌, length, ap, sym, subst, refl, append-nil, arith, Option, ◌∙◌}
use Rattle.std.specs.Option.{IfSome}
use Rattle.std.specs.Vec.{vec_capacity, vec_len}
use Rattle.std.specs.Vec.Iter.{into_iter_items}
use Rattle.rt_world.specs.declared.step.Step.{Step}
use Rattle.rt_world.specs.World.{World}
use Rattle.rt_world.specs.Answers.{Answer}
use Rattle.rt_world.specs.Headline.{Headline}
use Rattle.rt_world.specs.laws.Holds.{IsSteady}
use Rattle.rt_sync.specs.Core.{AppliesAll, world_in}
use Rattle.rt_sync.proofs.AppliedAll.{Continues, continues_more, makes_all}
use Rattle.rt_sync.proofs.runs.run_in.Goals as goal

nothing_left : {X : Type 0} (xs : List X) → length xs ≡ 0 → xs ≡ []
nothing_left [] e = refl
nothing_left (x ∷ xs) e = absurd (omega arith)

-- once nothing is left, the answers so far are all
all_told : (old now : Option World) (steps rest : List Step) (told : List Answer) → Continues old steps told now rest → length rest ≡ 0 → AppliesAll old steps told now
all_told old now steps rest told h none =
    let all : AppliesAll now rest [] now = subst (λ left. AppliesAll now left [] now) (sym (nothing_left rest none)) refl in
    subst (λ xs. AppliesAll old steps xs now) (append-nil told) (h [] now all)

pub loop-step-preserved : goal.loop-step-preserved
loop-step-preserved c =
    let left : List Step = into_iter_items c.next.new.self in
    let rest : into_iter_items c.loop-step.step-iterator ≡ c.in-Some.step ∷ into_iter_items c.next.new.self = c.in-Some.ensures.steps.0 in
    let short = ap length rest in
    let more = continues_more (world_in c.args.core.now) c.args.steps.items c.loop-step.items.items (world_in c.loop-step.core) c.in-Some.step left c.apply.result (world_in c.apply.new.self)
    (subst (Continues (world_in c.args.core.now) c.args.steps.items c.loop-step.items.items (world_in c.loop-step.core)) rest c.loop-step.invariant.1) c.apply.ensures.made in
    let room : vec_len c.push_reserved.new.self + length left ≤ vec_capacity c.push_reserved.new.self =
    omega (arith, c.loop-step.invariant.0, c.push_reserved.ensures.len, c.push_reserved.ensures.capacity, short) in (
      room,
      subst (λ told. Continues (world_in c.args.core.now) c.args.steps.items told (world_in c.apply.new.self) left) (sym c.push_reserved.ensures.items) more,
      omega (arith, short, c.in-Some.ensures.steps.1, c.loop-step.invariant.2),
    )

pub returns-clause-answered : goal.returns-clause-answered
returns-clause-answered c =
    all_told (world_in c.args.core.now) (world_in c.loop-step.core) c.args.steps.items (into_iter_items c.loop-step.step-iterator) c.loop-step.items.items c.loop-step.invariant.1
    (sym c.loop-step.invariant.2 ∙ c.in-None.ensures.steps.0)

-- of a sound world
pub returns-clause-headline : goal.returns-clause-headline
returns-clause-headline c w v e f =
    let m = makes_all c.args.steps.items c.loop-step.items.items w v
    (subst (λ (x : Option World × Option World). AppliesAll x.0 c.args.steps.items c.loop-step.items.items x.1) (λ i. (e i, f i)) (returns-clause-answered c)) in
    let steady : IsSteady w = subst (λ o. IfSome o IsSteady) e c.has_failed-has_failed.ensures.steady in
    subst (λ (x : List Answer × World). Headline w c.args.steps.items x.0 x.1) (λ i. (sym m.answers i, sym m.world i))
    (c.holding_law.ensures.headline w c.args.steps.items steady.sound)
