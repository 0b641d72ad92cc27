use Rattle.std.proofs.Common.{◌≡◌, ◌+◌, ◌++◌, drop, map, length}
use Rattle.std.specs.List.{enumerate_from}
use Rattle.rt_cover.specs.Cover.{Registered}
use Rattle.rt_cover.specs.inside.Endings.{tagged_of, told_of}
use Rattle.rt_cover.specs.inside.Picked.{picked}
use Rattle.rt_cover.proofs.change.Plan.start_at.Given as goal

abbrev pub invariant-loop-number : goal.invariant-loop-number
invariant-loop-number l = record {
  listens : l.self.kept.items ++ map tagged_of (enumerate_from (l.self.given + 1) (picked (λ (x : Registered). x.0) l.listeners (drop l.number-index l.numbers))) ≡ l.initial.self.kept.items ++ map tagged_of (enumerate_from (l.initial.self.given + 1) (picked (λ (x : Registered). x.0) l.listeners l.numbers));
  told : l.self.started.items ++ map told_of (enumerate_from (l.self.given + 1) (picked (λ (x : Registered). x.0) l.listeners (drop l.number-index l.numbers))) ≡ l.initial.self.started.items ++ map told_of (enumerate_from (l.initial.self.given + 1) (picked (λ (x : Registered). x.0) l.listeners l.numbers));
  count : l.self.given + length (picked (λ (x : Registered). x.0) l.listeners (drop l.number-index l.numbers)) ≡ l.initial.self.given + length (picked (λ (x : Registered). x.0) l.listeners l.numbers);
  others : l.self.stopped.items ≡ l.initial.self.stopped.items;
  gone : l.self.lost.items ≡ l.initial.self.lost.items;
}
