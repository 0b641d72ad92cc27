use Rattle.std.proofs.Common.{rules, ◌≡◌, sym, subst, ◌∙◌}
use Rattle.rt_emulate.specs.Diaries.{IsStamp, secs_at}
use Rattle.rt_emulate.proofs.diary.Diary.at.Goals as goal

pub returns-then-secs-self-clause-time : goal.returns-then-secs-self-clause-time
returns-then-secs-self-clause-time c =
    let e : c.saturating_add-secs.result ≡ secs_at c.args.self.now c.args.now = search rules in
    subst (λ s. IsStamp s c.stamp-self-inside.result) e c.stamp-self-inside.ensures

pub returns-else-secs-self-clause-time : goal.returns-else-secs-self-clause-time
returns-else-secs-self-clause-time c =
    let e : c.self.inside.secs ≡ secs_at c.args.self.now c.args.now = search rules in
    let t : c.self.inside.time ≡ c.args.self.now.time = search rules in
    subst (λ x. IsStamp (secs_at c.args.self.now c.args.now) x) t
    (subst (λ s. IsStamp s c.self.inside.time) e c.self.invariant)
