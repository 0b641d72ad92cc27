use Rattle.std.proofs.Common.{◌≡◌, ◌+◌, ◌-◌, ℕ, false, cond, Option, Some, None, ap, sym, subst, ◌∙◌, arith, rules}
use Rattle.std.specs.Option.{option_map, option_map_or}
use Rattle.std.specs.BTreeMap.{is_at}
use Rattle.std.specs.Map.{lookup}
use Rattle.slab.specs.Slab.{get}
use Rattle.rt_chain.specs.Chains.{Chain, all_in, is_half}
use Rattle.rt_chain.specs.inside.Links.{is_marked, joined}
use Rattle.rt_chain.specs.inside.Halves.{IsCut, chain_of, half_by, is_behind, is_front}
use Rattle.rt_chain.specs.declared.chain.Half.{Half}
use Rattle.rt_chain.specs.declared.chain.Half.TheVariants.{Front, Behind}
use Rattle.rt_chain.specs.declared.chain.Node.{Node}
use Rattle.rt_chain.proofs.Looks.{absent, has_node, there, value_found}
use Rattle.rt_chain.proofs.Steps.{count_take, if_none, take_behind, take_front, unchanged, untaken}
use Rattle.rt_chain.proofs.chain.Chain.remove.Goals as goal

pub returns-in_err-slot : goal.returns-in_err-slot
returns-in_err-slot g c =
    let a = subst (IsCut g.K.Ord.cmp c.self.inside.places.entries c.self.inside.nodes c.self.inside.last c.self.inside.first c.self.inside.count) c.self.view_is c.self.invariant in
    let missed : lookup (is_at (g.K.Ord.cmp c.args.key.now)) c.self.inside.places.entries ≡ None = search rules in
    let none : lookup (is_at (g.K.Ord.cmp c.args.key.now)) (all_in c.args.self.now) ≡ None = absent a (is_at (g.K.Ord.cmp c.args.key.now)) missed in
    let told = untaken g.K.Ord.cmp c.args.key.now c.args.self.now none in
    let same = c.remove.ensures.entries ∙ sym (unchanged (is_at (g.K.Ord.cmp c.args.key.now)) c.self.inside.places.entries missed) in
    let view = (λ i. chain_of (same i) c.self.inside.nodes) ∙ c.self.view_is in
    let out : c.from_residual.result ≡ None = search rules in
    record {
      front = ap (λ (o : Chain g.row.K.Denot g.row.V.Denot). o.front) view ∙ told.front;
      behind = ap (λ (o : Chain g.row.K.Denot g.row.V.Denot). o.behind) view ∙ told.behind;
      whole = ap (λ (o : Chain g.row.K.Denot g.row.V.Denot). all_in o) view ∙ told.whole;
      was_front = ap (λ (r : Option (Half × g.row.V.Denot)). is_half Front (option_map (λ (p : Half × g.row.V.Denot). p.0) r)) out ∙ told.was_front;
      was_behind = ap (λ (r : Option (Half × g.row.V.Denot)). is_half Behind (option_map (λ (p : Half × g.row.V.Denot). p.0) r)) out ∙ told.was_behind;
      value = ap (option_map (λ (p : Half × g.row.V.Denot). p.1)) out ∙ sym (ap (option_map (λ (q : ℕ × g.row.V.Denot). q.1)) none);
      none = if_none (chain_of c.remove.new.self.entries c.self.inside.nodes ≡ c.args.self.now) c.from_residual.result view;
    }

pub remove-node-requires : goal.remove-node-requires
remove-node-requires g c =
    let a = subst (IsCut g.K.Ord.cmp c.self.inside.places.entries c.self.inside.nodes c.self.inside.last c.self.inside.first c.self.inside.count) c.self.view_is c.self.invariant in
    let n : ℕ = c.in_ok-slot.slot in
    let slot : lookup (is_at (g.K.Ord.cmp c.args.key.now)) c.self.inside.places.entries ≡ Some n = search rules in
    let at = there a (is_at (g.K.Ord.cmp c.args.key.now)) n slot in
    has_node a (is_at (g.K.Ord.cmp c.args.key.now)) n at.0 at.1

pub overflow_sub-self : goal.overflow_sub-self
overflow_sub-self g c =
    let a = subst (IsCut g.K.Ord.cmp c.self.inside.places.entries c.self.inside.nodes c.self.inside.last c.self.inside.first c.self.inside.count) c.self.view_is c.self.invariant in
    let n : ℕ = c.in_ok-slot.slot in
    let slot : lookup (is_at (g.K.Ord.cmp c.args.key.now)) c.self.inside.places.entries ≡ Some n = search rules in
    let at = there a (is_at (g.K.Ord.cmp c.args.key.now)) n slot in
    let node = c.remove-node.result in
    let is : get c.self.inside.nodes n ≡ Some node = c.remove-node.ensures.value in
    let join : (m : ℕ) → get c.join.new.nodes m ≡ option_map (joined node.previous node.next m) (get c.remove-node.new.self m) =
    λ m. c.join.ensures m ∙ (λ i. option_map (joined (c.parts-value.ensures.previous i) (c.parts-value.ensures.next i) m) (get c.remove-node.new.self m)) in
    let half : half_by (is_marked c.self.inside.nodes n) ≡ Front = ap (λ (o : Option (Node g.row.V.Denot)). half_by (option_map_or (λ (x : Node g.row.V.Denot). x.marked) o false)) is ∙ ap half_by (sym c.parts-value.ensures.marked ∙ c.if-marked.true) in
    count_take g.met.K.Ord.total a c.args.key.now n at.0 at.1 half

pub invariant_of-self-then-marked : goal.invariant_of-self-then-marked
invariant_of-self-then-marked g c =
    let a = subst (IsCut g.K.Ord.cmp c.self.inside.places.entries c.self.inside.nodes c.self.inside.last c.self.inside.first c.self.inside.count) c.self.view_is c.self.invariant in
    let n : ℕ = c.in_ok-slot.slot in
    let slot : lookup (is_at (g.K.Ord.cmp c.args.key.now)) c.self.inside.places.entries ≡ Some n = search rules in
    let at = there a (is_at (g.K.Ord.cmp c.args.key.now)) n slot in
    let node = c.remove-node.result in
    let is : get c.self.inside.nodes n ≡ Some node = c.remove-node.ensures.value in
    let join : (m : ℕ) → get c.join.new.nodes m ≡ option_map (joined node.previous node.next m) (get c.remove-node.new.self m) =
    λ m. c.join.ensures m ∙ (λ i. option_map (joined (c.parts-value.ensures.previous i) (c.parts-value.ensures.next i) m) (get c.remove-node.new.self m)) in
    let half : half_by (is_marked c.self.inside.nodes n) ≡ Front = ap (λ (o : Option (Node g.row.V.Denot)). half_by (option_map_or (λ (x : Node g.row.V.Denot). x.marked) o false)) is ∙ ap half_by (sym c.parts-value.ensures.marked ∙ c.if-marked.true) in
    let one : c.self.inside.count - 1 + 1 ≡ c.self.inside.count = omega (arith, count_take g.met.K.Ord.total a c.args.key.now n at.0 at.1 half) in
    let last = c.either-self-inside.ensures
    ∙ (λ i. cond ((c.is_front-stays.ensures ∙ ap (is_front (is_marked c.join.new.nodes)) c.parts-value.ensures.next) i) c.self.inside.last (c.parts-value.ensures.previous i)) in
    let step = take_front g.met.K.Ord.total a c.args.key.now n at.0 at.1 node is c.remove-node.new.self c.join.new.nodes c.remove-node.ensures.updates join c.remove.new.self.entries c.remove.ensures.entries c.remove.ensures.ordered half
    c.either-self-inside.result last (c.self.inside.count - 1) one in
    step.0

pub returns-then-marked : goal.returns-then-marked
returns-then-marked g c =
    let a = subst (IsCut g.K.Ord.cmp c.self.inside.places.entries c.self.inside.nodes c.self.inside.last c.self.inside.first c.self.inside.count) c.self.view_is c.self.invariant in
    let n : ℕ = c.in_ok-slot.slot in
    let slot : lookup (is_at (g.K.Ord.cmp c.args.key.now)) c.self.inside.places.entries ≡ Some n = search rules in
    let at = there a (is_at (g.K.Ord.cmp c.args.key.now)) n slot in
    let node = c.remove-node.result in
    let is : get c.self.inside.nodes n ≡ Some node = c.remove-node.ensures.value in
    let join : (m : ℕ) → get c.join.new.nodes m ≡ option_map (joined node.previous node.next m) (get c.remove-node.new.self m) =
    λ m. c.join.ensures m ∙ (λ i. option_map (joined (c.parts-value.ensures.previous i) (c.parts-value.ensures.next i) m) (get c.remove-node.new.self m)) in
    let half : half_by (is_marked c.self.inside.nodes n) ≡ Front = ap (λ (o : Option (Node g.row.V.Denot)). half_by (option_map_or (λ (x : Node g.row.V.Denot). x.marked) o false)) is ∙ ap half_by (sym c.parts-value.ensures.marked ∙ c.if-marked.true) in
    let one : c.self.inside.count - 1 + 1 ≡ c.self.inside.count = omega (arith, count_take g.met.K.Ord.total a c.args.key.now n at.0 at.1 half) in
    let last = c.either-self-inside.ensures
    ∙ (λ i. cond ((c.is_front-stays.ensures ∙ ap (is_front (is_marked c.join.new.nodes)) c.parts-value.ensures.next) i) c.self.inside.last (c.parts-value.ensures.previous i)) in
    let step = take_front g.met.K.Ord.total a c.args.key.now n at.0 at.1 node is c.remove-node.new.self c.join.new.nodes c.remove-node.ensures.updates join c.remove.new.self.entries c.remove.ensures.entries c.remove.ensures.ordered half
    c.either-self-inside.result last (c.self.inside.count - 1) one in
    let value : Some node.value ≡ Some at.0 = sym (ap (option_map (λ (x : Node g.row.V.Denot). x.value)) is) ∙ value_found a (is_at (g.K.Ord.cmp c.args.key.now)) n at.0 at.1 in
    record {
      front = step.1.front;
      behind = step.1.behind;
      whole = step.1.whole;
      was_front = step.1.was_front;
      was_behind = step.1.was_behind;
      value = ap (λ (x : g.row.V.Denot). Some x) c.parts-value.ensures.value ∙ value ∙ sym (ap (option_map (λ (q : ℕ × g.row.V.Denot). q.1)) at.1);
      none = search rules;
    }

pub invariant_of-self-else-marked : goal.invariant_of-self-else-marked
invariant_of-self-else-marked g c =
    let a = subst (IsCut g.K.Ord.cmp c.self.inside.places.entries c.self.inside.nodes c.self.inside.last c.self.inside.first c.self.inside.count) c.self.view_is c.self.invariant in
    let n : ℕ = c.in_ok-slot.slot in
    let slot : lookup (is_at (g.K.Ord.cmp c.args.key.now)) c.self.inside.places.entries ≡ Some n = search rules in
    let at = there a (is_at (g.K.Ord.cmp c.args.key.now)) n slot in
    let node = c.remove-node.result in
    let is : get c.self.inside.nodes n ≡ Some node = c.remove-node.ensures.value in
    let join : (m : ℕ) → get c.join.new.nodes m ≡ option_map (joined node.previous node.next m) (get c.remove-node.new.self m) =
    λ m. c.join.ensures m ∙ (λ i. option_map (joined (c.parts-value.ensures.previous i) (c.parts-value.ensures.next i) m) (get c.remove-node.new.self m)) in
    let half : half_by (is_marked c.self.inside.nodes n) ≡ Behind = ap (λ (o : Option (Node g.row.V.Denot)). half_by (option_map_or (λ (x : Node g.row.V.Denot). x.marked) o false)) is ∙ ap half_by (sym c.parts-value.ensures.marked ∙ c.if-marked.false) in
    let first = c.either-self-inside-else-marked.ensures
    ∙ (λ i. cond ((c.is_behind-stays.ensures ∙ ap (is_behind (is_marked c.join.new.nodes)) c.parts-value.ensures.previous) i) c.self.inside.first (c.parts-value.ensures.next i)) in
    let step = take_behind g.met.K.Ord.total a c.args.key.now n at.0 at.1 node is c.remove-node.new.self c.join.new.nodes c.remove-node.ensures.updates join c.remove.new.self.entries c.remove.ensures.entries c.remove.ensures.ordered half
    c.either-self-inside-else-marked.result first in
    step.0

pub returns-else-marked : goal.returns-else-marked
returns-else-marked g c =
    let a = subst (IsCut g.K.Ord.cmp c.self.inside.places.entries c.self.inside.nodes c.self.inside.last c.self.inside.first c.self.inside.count) c.self.view_is c.self.invariant in
    let n : ℕ = c.in_ok-slot.slot in
    let slot : lookup (is_at (g.K.Ord.cmp c.args.key.now)) c.self.inside.places.entries ≡ Some n = search rules in
    let at = there a (is_at (g.K.Ord.cmp c.args.key.now)) n slot in
    let node = c.remove-node.result in
    let is : get c.self.inside.nodes n ≡ Some node = c.remove-node.ensures.value in
    let join : (m : ℕ) → get c.join.new.nodes m ≡ option_map (joined node.previous node.next m) (get c.remove-node.new.self m) =
    λ m. c.join.ensures m ∙ (λ i. option_map (joined (c.parts-value.ensures.previous i) (c.parts-value.ensures.next i) m) (get c.remove-node.new.self m)) in
    let half : half_by (is_marked c.self.inside.nodes n) ≡ Behind = ap (λ (o : Option (Node g.row.V.Denot)). half_by (option_map_or (λ (x : Node g.row.V.Denot). x.marked) o false)) is ∙ ap half_by (sym c.parts-value.ensures.marked ∙ c.if-marked.false) in
    let first = c.either-self-inside-else-marked.ensures
    ∙ (λ i. cond ((c.is_behind-stays.ensures ∙ ap (is_behind (is_marked c.join.new.nodes)) c.parts-value.ensures.previous) i) c.self.inside.first (c.parts-value.ensures.next i)) in
    let step = take_behind g.met.K.Ord.total a c.args.key.now n at.0 at.1 node is c.remove-node.new.self c.join.new.nodes c.remove-node.ensures.updates join c.remove.new.self.entries c.remove.ensures.entries c.remove.ensures.ordered half
    c.either-self-inside-else-marked.result first in
    let value : Some node.value ≡ Some at.0 = sym (ap (option_map (λ (x : Node g.row.V.Denot). x.value)) is) ∙ value_found a (is_at (g.K.Ord.cmp c.args.key.now)) n at.0 at.1 in
    record {
      front = step.1.front;
      behind = step.1.behind;
      whole = step.1.whole;
      was_front = step.1.was_front;
      was_behind = step.1.was_behind;
      value = ap (λ (x : g.row.V.Denot). Some x) c.parts-value.ensures.value ∙ value ∙ sym (ap (option_map (λ (q : ℕ × g.row.V.Denot). q.1)) at.1);
      none = search rules;
    }
