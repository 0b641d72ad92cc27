-- What a contract sees of linked nodes.
use Rattle.std.specs.Prelude.{◌≡◌, ◌+◌, ℕ, Option, Some, None, refl}
use Rattle.std.specs.Coded.{Coded, code_by, coded×, coded_ℕ, coded_list, coded_option}
use Rattle.slab.specs.Slab.{Slab, get, slab_len, Updates}
use Rattle.rt_tree.specs.PathTree.{Key}
use Rattle.rt_nodes.specs.declared.nodes.Slot.{Slot}

-- a node is stored as the tuple of its fields
abbrev pub slot_code : {X : Type 0} → Coded X → Coded (Slot X)
slot_code {X} code =
    let link = coded_option coded_ℕ in
    code_by (Key × (Option ℕ × (Option ℕ × (Option ℕ × (Option ℕ × X)))))
    (coded× (coded_list coded_ℕ) (coded× link (coded× link (coded× link (coded× link code)))))
    (λ s. (s.key, (s.parent, (s.first_child, (s.previous, (s.next, s.value))))))
    (λ p. record {
      key = p.0;
      parent = p.1.0;
      first_child = p.1.1.0;
      previous = p.1.1.1.0;
      next = p.1.1.1.1.0;
      value = p.1.1.1.1.1;
    }) (λ _. refl)

-- a node without links but the one to its parent
abbrev pub alone : {X : Type 0} → Key → Option ℕ → X → Slot X
alone k parent x = record {
  key = k;
  parent = parent;
  first_child = None;
  previous = None;
  next = None;
  value = x;
}

-- one node more, which was vacant
pub record Inserted {X : Type 0} (old new : Slab (Slot X)) (n : ℕ) (k : Key) (parent : Option ℕ)
    (x : X) : Type 0 where
  pub vacant : get old n ≡ None
  pub updates : Updates old new n (Some (alone k parent x))
  pub len : slab_len new ≡ slab_len old + 1
