use Rattle.std.proofs.Common.{◌≡◌, ◌<◌, ◌∙◌, length, get_or, ltb, arith, sym, rules}
use Rattle.std.proofs.lemmas.List.Sorted.{IsPartitionPoint-from_clause}
use Rattle.rt_parts.specs.declared.listeners.HeldListener.{HeldListener}
use Rattle.rt_writes.specs.laws.Places.{IsBetween, lesser_first, stands, stands_past, stands_not}
use Rattle.rt_parts.proofs.listeners.place_of.Goals as goal

pub returns-then-place-listeners : goal.returns-then-place-listeners
returns-then-place-listeners c =
    let between : IsBetween (λ (l : HeldListener). l.number) c.args.listeners.now c.partition_point-place.result c.args.number =
    IsPartitionPoint-from_clause (λ (l : HeldListener). ltb l.number c.args.number) c.args.listeners.now c.partition_point-place.result c.partition_point-place.ensures.partitioned
    (lesser_first (λ (l : HeldListener). l.number) c.args.listeners.now c.args.number c.requires) (λ a r f' k. search rules) in
    sym (stands_past (λ (l : HeldListener). l.number) c.args.listeners.now c.partition_point-place.result c.args.number c.if-place-listeners.true between)

pub returns-then-number : goal.returns-then-number
returns-then-number c =
    let within : c.partition_point-place.result < length c.args.listeners.now = omega arith in
    let here : (get_or c.args.listeners.now c.partition_point-place.result c.index-listeners-place.result).number ≡ c.args.number = search rules in
    sym (stands (λ (l : HeldListener). l.number) c.args.listeners.now c.partition_point-place.result c.args.number c.index-listeners-place.result c.requires within here)

pub returns-else-number : goal.returns-else-number
returns-else-number c =
    let within : c.partition_point-place.result < length c.args.listeners.now = omega arith in
    let between : IsBetween (λ (l : HeldListener). l.number) c.args.listeners.now c.partition_point-place.result c.args.number =
    IsPartitionPoint-from_clause (λ (l : HeldListener). ltb l.number c.args.number) c.args.listeners.now c.partition_point-place.result c.partition_point-place.ensures.partitioned
    (lesser_first (λ (l : HeldListener). l.number) c.args.listeners.now c.args.number c.requires) (λ a r f' k. search rules) in
    let own : c.number.result ≡ (get_or c.args.listeners.now c.partition_point-place.result c.index-listeners-place.result).number = search rules in
    sym (stands_not (λ (l : HeldListener). l.number) c.args.listeners.now c.partition_point-place.result c.args.number c.index-listeners-place.result c.requires within between (λ e. c.if-number.false (own ∙ e)))
