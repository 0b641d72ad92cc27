use Rattle.std.proofs.Common.{◌≡◌, ◌∙◌, ◌+◌, ap, sym, subst, arith, length, None}
use Rattle.std.specs.Prelude.{is_some}
use Rattle.std.specs.BTreeMap.{is_at}
use Rattle.std.specs.Map.{lookup, keys_of, remove_entry}
use Rattle.std.specs.List.Sorted.{IsStrictlySortedBy}
use Rattle.rt_map.specs.inside.Roots.{root_entries}
use Rattle.rt_map.specs.Maps.{map_of, IsOrdered}
use Rattle.rt_map.specs.Updates.{Updates}
use Rattle.rt_map.proofs.Order.{sorted_remove}
use Rattle.rt_map.proofs.Lookups.{updates-remove}
use Rattle.rt_map.proofs.Parts.{none_of, some_of, is_some_copied, length-remove_old, remove_missing}
use Rattle.rt_map.proofs.map.OrdMap.remove.Goals as goal
use Rattle.rt_map.proofs.map.OrdMap.remove.Goals.{then-is_some, else-is_some}

pub returns-then-is_none-clause-entries : goal.returns-then-is_none-clause-entries
returns-then-is_none-clause-entries g c =
    sym (remove_missing g.K.Ord.cmp c.args.key.now c.args.self.now.entries (none_of _ (sym (ap is_some c.get.ensures.value) ∙ is_some_copied c.get.result ∙ c.if-is_none.ensures)))

pub invariant_of-self-then-is_some : goal.invariant_of-self-then-is_some
invariant_of-self-then-is_some g c =
    let es = root_entries c.self.inside.root in
    let found = some_of (lookup (is_at (g.K.Ord.cmp c.args.key.now)) es) (sym (ap is_some c.in_ok-old.ensures.old) ∙ sym c.if-is_some.ensures) in
    let less : length (remove_entry (is_at (g.K.Ord.cmp c.args.key.now)) es) + 1 ≡ length es = length-remove_old g.K.Ord.cmp c.args.key.now es found.0 found.1 in (
      omega (arith, c.self.invariant.0, ap length c.in_ok-old.ensures.ok, less),
      subst (λ l. IsStrictlySortedBy g.K.Ord.cmp (keys_of l)) (sym c.in_ok-old.ensures.ok) (sorted_remove g.met.K.Ord.total c.args.key.now es c.self.invariant.1),
    )

pub returns-clause-updates : goal.returns-clause-updates
returns-clause-updates g c =
    let test = is_at (g.K.Ord.cmp c.args.key.now) in
    let sorted : IsOrdered g.K.Ord.cmp c.args.self.now = subst (IsOrdered g.K.Ord.cmp) c.self.view_is c.self.invariant.1 in
    let gone : map_of (root_entries c.remove.new.self) ≡ map_of (remove_entry test c.args.self.now.entries)
    = ap map_of c.in_ok-old.ensures.ok ∙ ap (λ m. map_of (remove_entry test m.entries)) c.self.view_is in
    let updates : Updates g.K.Ord.cmp c.args.self.now (map_of (root_entries c.remove.new.self)) c.args.key.now None
    = subst (λ m. Updates g.K.Ord.cmp c.args.self.now m c.args.key.now None) (sym gone) (updates-remove g.met.K.Ord.total c.args.self.now.entries c.args.key.now sorted) in
    elim c.if-is_some.branch [
      | then-is_some w ↦ subst (λ m. Updates g.K.Ord.cmp c.args.self.now m c.args.key.now None) (sym w.self-is) updates
      | else-is_some w ↦ subst (λ m. Updates g.K.Ord.cmp c.args.self.now m c.args.key.now None) (sym w.self-is) updates
    ]

pub returns-clause-ordered : goal.returns-clause-ordered
returns-clause-ordered g c =
    let es = root_entries c.self.inside.root in
    let sorted : IsOrdered g.K.Ord.cmp (map_of (root_entries c.remove.new.self))
    = subst (λ l. IsStrictlySortedBy g.K.Ord.cmp (keys_of l)) (sym c.in_ok-old.ensures.ok) (sorted_remove g.met.K.Ord.total c.args.key.now es c.self.invariant.1) in
    elim c.if-is_some.branch [
      | then-is_some w ↦ subst (IsOrdered g.K.Ord.cmp) (sym w.self-is) sorted
      | else-is_some w ↦ subst (IsOrdered g.K.Ord.cmp) (sym w.self-is) sorted
    ]
