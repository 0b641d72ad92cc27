use Rattle.std.proofs.Common.{inl, ◌≡◌, ◌∙◌, ap, sym, subst}
use Rattle.std.specs.Prelude.{is_ok}
use Rattle.std.specs.BTreeMap.{is_at}
use Rattle.std.specs.Map.{lookup, set_value}
use Rattle.rt_map.specs.Maps.{map_of, IsOrdered}
use Rattle.rt_map.specs.inside.Roots.{root_entries}
use Rattle.rt_map.proofs.Parts.{one_of, kept_along, kept-set_value}
use Rattle.rt_map.proofs.map.OrdMap.slot.Goals as goal

pub invariant_of-self-lent : goal.invariant_of-self-lent
invariant_of-self-lent g c = λ w.
    let test = is_at (g.K.Ord.cmp c.args.key.now) in
    let part : c.in_ok-chunk-in-Small.chunk.now ≡ c.in-Small.chunk.value = rw c.in-Small.is at (one_of c.in_ok-chunk-in-Small.ensures.value) in
    let new : (c.make_mut.follows.lender (set_value test c.in_ok-chunk-in-Small.chunk.now w)).value ≡ set_value test c.in-Small.chunk.value w
    = c.make_mut.follows.holds (set_value test c.in_ok-chunk-in-Small.chunk.now w) (ap is_ok c.in_ok-chunk-in-Small.was) ∙ ap (λ es. set_value test es w) part in
    kept_along g.K.Ord.cmp c.self.inside.len _ (set_value test (root_entries c.self.inside.root) w) (rw c.in-Small.is new)
    (kept-set_value g.K.Ord.cmp c.self.inside.len test (root_entries c.self.inside.root) w c.self.invariant)

pub invariant_of-self-lent-in-Large : goal.invariant_of-self-lent-in-Large
invariant_of-self-lent-in-Large g c = λ w.
    let test = is_at (g.K.Ord.cmp c.args.key.now) in
    let part : c.in_ok-table-in-Large.table.now ≡ c.in-Large.table.value = rw c.in-Large.is at (one_of c.in_ok-table-in-Large.ensures.value) in
    let new : (c.make_mut-in-Large.follows.lender (set_value test c.in_ok-table-in-Large.table.now w)).value ≡ set_value test c.in-Large.table.value w
    = c.make_mut-in-Large.follows.holds (set_value test c.in_ok-table-in-Large.table.now w) (ap is_ok c.in_ok-table-in-Large.was) ∙ ap (λ es. set_value test es w) part in
    kept_along g.K.Ord.cmp c.self.inside.len _ (set_value test (root_entries c.self.inside.root) w) (rw c.in-Large.is new)
    (kept-set_value g.K.Ord.cmp c.self.inside.len test (root_entries c.self.inside.root) w c.self.invariant)

pub returns-in_ok-value-in-Small : goal.returns-in_ok-value-in-Small
returns-in_ok-value-in-Small g c =
    let test = is_at (g.K.Ord.cmp c.args.key.now) in
    let part : c.in_ok-chunk-in-Small.chunk.now ≡ c.in-Small.chunk.value = rw c.in-Small.is at (one_of c.in_ok-chunk-in-Small.ensures.value) in
    let was : c.in_ok-chunk-in-Small.chunk.now ≡ c.args.self.now.entries = part ∙ ap root_entries (sym c.in-Small.is) ∙ ap (λ m. m.entries) c.self.view_is in
    rw c.in-Small.is (
      (λ i. inl (c.in_ok-value-in-Small.value.ghost_name, λ w. map_of ((c.make_mut.follows.holds (set_value test c.in_ok-chunk-in-Small.chunk.now w) (ap is_ok c.in_ok-chunk-in-Small.was) ∙ ap (λ es. set_value test es w) was) i))),
      record {
        writes_back = tt;
        absent = tt;
        value = ap (lookup test) (sym was) ∙ c.in_ok-value-in-Small.ensures.value;
        was_ordered = subst (IsOrdered g.K.Ord.cmp) c.self.view_is c.self.invariant.1;
      },
    )

pub returns-in_ok-value-in-Large : goal.returns-in_ok-value-in-Large
returns-in_ok-value-in-Large g c =
    let test = is_at (g.K.Ord.cmp c.args.key.now) in
    let part : c.in_ok-table-in-Large.table.now ≡ c.in-Large.table.value = rw c.in-Large.is at (one_of c.in_ok-table-in-Large.ensures.value) in
    let was : c.in_ok-table-in-Large.table.now ≡ c.args.self.now.entries = part ∙ ap root_entries (sym c.in-Large.is) ∙ ap (λ m. m.entries) c.self.view_is in
    rw c.in-Large.is (
      (λ i. inl (c.in_ok-value-in-Large.value.ghost_name, λ w. map_of ((c.make_mut-in-Large.follows.holds (set_value test c.in_ok-table-in-Large.table.now w) (ap is_ok c.in_ok-table-in-Large.was) ∙ ap (λ es. set_value test es w) was) i))),
      record {
        writes_back = tt;
        absent = tt;
        value = ap (lookup test) (sym was) ∙ c.in_ok-value-in-Large.ensures.value;
        was_ordered = subst (IsOrdered g.K.Ord.cmp) c.self.view_is c.self.invariant.1;
      },
    )
