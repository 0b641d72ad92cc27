use Rattle.std.proofs.Common.{rules, ◌≡◌, ◌∙◌, ◌<◌, ◌≤◌, ◌-◌, ℕ, ap, sym, arith, length, get_or, true, false, List, nat_le, nat_lt}
use Rattle.std.proofs.lemmas.Bool.{leb-true, leb-false}
use Rattle.std.proofs.lemmas.List.Sorted.{IsPartitionPoint-from_clause, IsPartitionedBy-leb}
use Rattle.std.specs.List.Sorted.{IsPartitionPoint}
use Rattle.rt_cache.specs.declared.by_path.Span.{Span}
use Rattle.rt_cache.proofs.InSpans.{starts_rise, none_from, last_decides}
use Rattle.rt_cache.proofs.by_path.is_within.Goals as goal

pub returns-else-count-gt0 : goal.returns-else-count-gt0
returns-else-count-gt0 c = λ end order.
    let spans : List Span = c.args.spans.now in
    let k : ℕ = c.args.place in
    let none : c.partition_point-count.result ≡ 0 = search rules in
    let point : IsPartitionPoint (λ (s : Span). nat_le s.start k ≡ true) (λ (s : Span). nat_le s.start k ≡ false) spans c.partition_point-count.result =
    IsPartitionPoint-from_clause (λ (s : Span). nat_le s.start k) spans c.partition_point-count.result c.partition_point-count.ensures.partitioned
    (IsPartitionedBy-leb (λ (s : Span). s.start) spans k (starts_rise 0 spans end order))
    (λ a r f g. search rules) in
    ap (nat_lt 0) none ∙ sym (none_from spans k (λ i d lt. leb-false (get_or spans i d).start k (point.1 i d (omega (arith, none)) lt)))

pub returns-then-count-gt0 : goal.returns-then-count-gt0
returns-then-count-gt0 c = λ end order.
    let spans : List Span = c.args.spans.now in
    let k : ℕ = c.args.place in
    let some : 0 < c.partition_point-count.result = c.if-count-gt0.true in
    let bound : c.partition_point-count.result ≤ length spans = search rules in
    let point : IsPartitionPoint (λ (s : Span). nat_le s.start k ≡ true) (λ (s : Span). nat_le s.start k ≡ false) spans c.partition_point-count.result =
    IsPartitionPoint-from_clause (λ (s : Span). nat_le s.start k) spans c.partition_point-count.result c.partition_point-count.ensures.partitioned
    (IsPartitionedBy-leb (λ (s : Span). s.start) spans k (starts_rise 0 spans end order))
    (λ a r f g. search rules) in
    let last : Span = get_or spans (c.partition_point-count.result - 1) (record { start = 0; end = 0 }) in
    sym (last_decides 0 spans end k (c.partition_point-count.result - 1) (record { start = 0; end = 0 }) order (omega (arith, some, bound))
    (leb-true last.start k (point.0 (c.partition_point-count.result - 1) (record { start = 0; end = 0 }) (omega arith) (omega (arith, some))))
    (λ i e l m. leb-false (get_or spans i e).start k (point.1 i e (omega (arith, l, some)) m)))
