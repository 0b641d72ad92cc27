use Rattle.std.proofs.Common.{rules, ◌≡◌, ◌<◌, ◌≤◌, ◌-◌, ℕ, min, arith, length, get_or, true, false, List, nat_lt}
use Rattle.std.proofs.lemmas.Bool.{ltb-true, ltb-false}
use Rattle.std.proofs.lemmas.List.Sorted.{IsPartitionPoint-from_clause, IsPartitionedBy-ltb}
use Rattle.std.specs.List.Sorted.{IsPartitionPoint}
use Rattle.rt_cache.specs.declared.by_path.Span.{Span}
use Rattle.rt_cache.proofs.InSpans.{starts_rise, none_in_front, last_in_front}
use Rattle.rt_cache.proofs.by_path.last_before.Goals as goal

pub returns-then-count-eq0-clause-last : goal.returns-then-count-eq0-clause-last
returns-then-count-eq0-clause-last c = λ all order filled.
    let spans : List Span = c.args.spans.now in
    let end : ℕ = c.args.end in
    let none : c.partition_point-count.result ≡ 0 = search rules in
    let point : IsPartitionPoint (λ (s : Span). nat_lt s.start end ≡ true) (λ (s : Span). nat_lt s.start end ≡ false) spans c.partition_point-count.result =
    IsPartitionPoint-from_clause (λ (s : Span). nat_lt s.start end) spans c.partition_point-count.result c.partition_point-count.ensures.partitioned
    (IsPartitionedBy-ltb (λ (s : Span). s.start) spans end (starts_rise 0 spans all order))
    (λ a r f g. search rules) in
    none_in_front spans end (λ i d lt. ltb-false (get_or spans i d).start end (point.1 i d (omega (arith, none)) lt))

pub returns-then-behind-eq0-clause-last : goal.returns-then-behind-eq0-clause-last
returns-then-behind-eq0-clause-last c = λ all order filled.
    let spans : List Span = c.args.spans.now in
    let end : ℕ = c.args.end in
    let count : ℕ = c.partition_point-count.result in
    let zero : Span = record { start = 0; end = 0 } in
    let some : 0 < count = search rules in
    let bound : count ≤ length spans = search rules in
    let point : IsPartitionPoint (λ (s : Span). nat_lt s.start end ≡ true) (λ (s : Span). nat_lt s.start end ≡ false) spans count =
    IsPartitionPoint-from_clause (λ (s : Span). nat_lt s.start end) spans count c.partition_point-count.ensures.partitioned
    (IsPartitionedBy-ltb (λ (s : Span). s.start) spans end (starts_rise 0 spans all order))
    (λ a r f g. search rules) in
    let front : (get_or spans (count - 1) zero).start < end = ltb-true (get_or spans (count - 1) zero).start end (point.0 (count - 1) zero (omega arith) (omega (arith, some))) in
    let own : (get_or spans (count - 1) zero).start < (get_or spans (count - 1) zero).end = filled (count - 1) zero (omega (arith, some, bound)) in
    let least : c.min-behind.result ≡ min (get_or spans (count - 1) zero).end end = search rules in
    let none : c.min-behind.result ≡ 0 = search rules in
    absurd (omega (arith, front, own, least, none))

pub returns-clause-last : goal.returns-clause-last
returns-clause-last c = λ all order filled.
    let spans : List Span = c.args.spans.now in
    let end : ℕ = c.args.end in
    let count : ℕ = c.partition_point-count.result in
    let zero : Span = record { start = 0; end = 0 } in
    let some : 0 < count = search rules in
    let bound : count ≤ length spans = search rules in
    let point : IsPartitionPoint (λ (s : Span). nat_lt s.start end ≡ true) (λ (s : Span). nat_lt s.start end ≡ false) spans count =
    IsPartitionPoint-from_clause (λ (s : Span). nat_lt s.start end) spans count c.partition_point-count.ensures.partitioned
    (IsPartitionedBy-ltb (λ (s : Span). s.start) spans end (starts_rise 0 spans all order))
    (λ a r f g. search rules) in
    let front : (get_or spans (count - 1) zero).start < end = ltb-true (get_or spans (count - 1) zero).start end (point.0 (count - 1) zero (omega arith) (omega (arith, some))) in
    let own : (get_or spans (count - 1) zero).start < (get_or spans (count - 1) zero).end = filled (count - 1) zero (omega (arith, some, bound)) in
    let least : c.min-behind.result ≡ min (get_or spans (count - 1) zero).end end = search rules in
    last_in_front spans all end (count - 1) zero order filled (omega (arith, some, bound)) front
    (λ i e l m. ltb-false (get_or spans i e).start end (point.1 i e (omega (arith, l, some)) m))
    (c.min-behind.result - 1) (omega (arith, least, front, own))
