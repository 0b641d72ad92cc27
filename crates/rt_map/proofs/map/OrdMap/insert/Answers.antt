use Rattle.std.proofs.Common.{◌≡◌, ◌∙◌, ◌+◌, ap, sym, subst, length, Some}
use Rattle.std.specs.Prelude.{is_some}
use Rattle.std.specs.BTreeMap.{is_at, insert_entry}
use Rattle.std.specs.Map.{lookup, keys_of}
use Rattle.std.specs.List.Sorted.{IsStrictlySortedBy}
use Rattle.rt_map.specs.inside.Roots.{root_entries}
use Rattle.rt_map.specs.Maps.{map_of, IsOrdered}
use Rattle.rt_map.specs.Updates.{Updates}
use Rattle.rt_map.proofs.Order.{sorted_insert}
use Rattle.rt_map.proofs.Lookups.{updates-insert}
use Rattle.rt_map.proofs.Parts.{none_of, some_of, length-insert_new, length-insert_old}
use Rattle.rt_map.proofs.map.OrdMap.insert.Goals as goal
use Rattle.rt_map.proofs.map.OrdMap.insert.Goals.{then-is_none, else-is_none}

pub invariant_of-self-then-is_none : goal.invariant_of-self-then-is_none
invariant_of-self-then-is_none g c =
    let es = root_entries c.self.inside.root in
    let none = none_of (lookup (is_at (g.K.Ord.cmp c.args.key)) es) (sym (ap is_some c.in_ok-old.ensures.old) ∙ c.if-is_none.ensures) in (
      ap (λ n. n + 1) c.self.invariant.0 ∙ sym (ap length c.in_ok-old.ensures.ok ∙ length-insert_new g.K.Ord.cmp c.args.key es c.args.value none),
      subst (λ l. IsStrictlySortedBy g.K.Ord.cmp (keys_of l)) (sym c.in_ok-old.ensures.ok) (sorted_insert g.met.K.Ord.total c.args.key c.args.value es c.self.invariant.1),
    )

pub invariant_of-self-else-is_none : goal.invariant_of-self-else-is_none
invariant_of-self-else-is_none g c =
    let es = root_entries c.self.inside.root in
    let found = some_of (lookup (is_at (g.K.Ord.cmp c.args.key)) es) (sym (ap is_some c.in_ok-old.ensures.old) ∙ c.if-is_none.ensures) in (
      c.self.invariant.0 ∙ sym (ap length c.in_ok-old.ensures.ok ∙ length-insert_old g.K.Ord.cmp c.args.key g.met.K.Ord.total es c.args.value found.0 c.self.invariant.1 found.1),
      subst (λ l. IsStrictlySortedBy g.K.Ord.cmp (keys_of l)) (sym c.in_ok-old.ensures.ok) (sorted_insert g.met.K.Ord.total c.args.key c.args.value es c.self.invariant.1),
    )

pub returns-clause-updates : goal.returns-clause-updates
returns-clause-updates g c =
    let ins : map_of (root_entries c.insert.new.self) ≡ map_of (insert_entry g.K.Ord.cmp c.args.self.now.entries c.args.key c.args.value)
    = ap map_of c.in_ok-old.ensures.ok ∙ ap (λ m. map_of (insert_entry g.K.Ord.cmp m.entries c.args.key c.args.value)) c.self.view_is in
    let updates : Updates g.K.Ord.cmp c.args.self.now (map_of (root_entries c.insert.new.self)) c.args.key (Some c.args.value)
    = subst (λ m. Updates g.K.Ord.cmp c.args.self.now m c.args.key (Some c.args.value)) (sym ins) (updates-insert g.met.K.Ord.total c.args.self.now.entries c.args.key c.args.value) in
    elim c.if-is_none.branch [
      | then-is_none w ↦ subst (λ m. Updates g.K.Ord.cmp c.args.self.now m c.args.key (Some c.args.value)) (sym w.self-is) updates
      | else-is_none w ↦ subst (λ m. Updates g.K.Ord.cmp c.args.self.now m c.args.key (Some c.args.value)) (sym w.self-is) updates
    ]

pub returns-clause-ordered : goal.returns-clause-ordered
returns-clause-ordered g c =
    let es = root_entries c.self.inside.root in
    let sorted : IsOrdered g.K.Ord.cmp (map_of (root_entries c.insert.new.self))
    = subst (λ l. IsStrictlySortedBy g.K.Ord.cmp (keys_of l)) (sym c.in_ok-old.ensures.ok) (sorted_insert g.met.K.Ord.total c.args.key c.args.value es c.self.invariant.1) in
    elim c.if-is_none.branch [
      | then-is_none w ↦ subst (IsOrdered g.K.Ord.cmp) (sym w.self-is) sorted
      | else-is_none w ↦ subst (IsOrdered g.K.Ord.cmp) (sym w.self-is) sorted
    ]
