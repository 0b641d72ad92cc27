use Rattle.std.proofs.Common.{rules, ◌≡◌, ◌++◌, ◌∷◌, [], ℕ, ◌<◌, ◌≤◌, Bool, true, false, cond, List, Option, Some, None, length, ap, sym, subst, arith, append-nil, append_assoc, min, ◌∙◌}
use Rattle.std.specs.List.Sorted.{IsStrictlySortedBy}
use Rattle.std.specs.Map.{keys_of}
use Rattle.std.specs.Prelude.{nat_lt}
use Rattle.std.proofs.lemmas.Bool.{ltb-true, ltb-false}
use Rattle.std.specs.Vec.Iter.{into_iter_items, into_iter_len}
use Rattle.rt_chain.specs.Chains.{all_in, entries_of}
use Rattle.std.specs.BTreeMap.{IsFromIterResult}
use Rattle.std.proofs.IntoIterSteps.{All-taken}
use Rattle.rt_chain.specs.inside.Halves.{IsCut, chain_of}
use Rattle.rt_chain.specs.inside.Made.{IsMade}
use Rattle.rt_chain.proofs.Making.{grows, halves_made, no_length, nothing_made, places_made}
use Rattle.rt_chain.proofs.Nodes.{pushed_from}
use Rattle.rt_chain.proofs.chain.Chain.from_sorted.Goals as goal

pub loop-key-init : goal.loop-key-init
loop-key-init g c =
    let items : c.in_ok-places.places.items ≡ [] = c.in_ok-places.ensures.items in
    let all : into_iter_items c.into_iter-key-iterator.result ≡ c.args.entries.items = search rules in
    let len : into_iter_len c.into_iter-key-iterator.result ≡ length (into_iter_items c.into_iter-key-iterator.result) = search rules in (
      tt,
      tt,
      subst (λ (es : List (g.row.K.Denot × ℕ)). IsMade g.K.Ord.cmp c.args.front es c.in_ok-nodes.nodes None None None) (sym items) (nothing_made g.K.Ord.cmp c.args.front c.in_ok-nodes.nodes c.in_ok-nodes.ensures.empty),
      ap (λ (es : List (g.row.K.Denot × ℕ)). entries_of (all_in (chain_of es c.in_ok-nodes.nodes)) ++ into_iter_items c.into_iter-key-iterator.result) items,
      subst (λ (es : List (g.row.K.Denot × g.row.V.Denot)). IsStrictlySortedBy g.K.Ord.cmp (keys_of es)) (sym all) c.requires.rises,
      len,
    )

pub loop-key-preserved : goal.loop-key-preserved
loop-key-preserved g c =
    let inv = c.loop-key.invariant in
    let b : Bool = nat_lt c.len-in-loop-key.result c.args.front in
    let rest : into_iter_items c.loop-key.key-iterator ≡ (c.in-Some.key, c.in-Some.value) ∷ into_iter_items c.next.new.self = c.in-Some.ensures.steps.0 in
    let pushed : c.push-in-loop-key.new.self.items ≡ c.loop-key.places.items ++ (c.in-Some.key, c.in_ok-slot.slot) ∷ [] = c.in_ok-push.ensures.items in
    let len : c.len-in-loop-key.result ≡ length c.loop-key.places.items = search rules in
    let low : b ≡ true → length c.loop-key.places.items < c.args.front = λ e. omega (arith, ltb-true c.len-in-loop-key.result c.args.front e, len) in
    let high : b ≡ false → c.args.front ≤ length c.loop-key.places.items = λ e. omega (arith, ltb-false c.len-in-loop-key.result c.args.front e, len) in
    let whole = ap (λ xs. entries_of (all_in (chain_of c.loop-key.places.items c.loop-key.nodes)) ++ xs) (sym rest) ∙ inv.3 in
    let up = subst (λ (es : List (g.row.K.Denot × g.row.V.Denot)). IsStrictlySortedBy g.K.Ord.cmp (keys_of es)) (sym whole) inv.4 in
    let came = pushed_from c.loop-key.nodes c.next_slot.new.nodes c.push.new.nodes c.loop-key.tail None c.in_ok-slot.slot b c.in-Some.value c.next_slot.ensures.same c.push.ensures in
    let grown = grows c.args.front c.loop-key.places.items c.loop-key.nodes c.push.new.nodes c.in-Some.key c.in_ok-slot.slot b c.in-Some.value c.loop-key.tail c.loop-key.last c.loop-key.first
    inv.2 came (into_iter_items c.next.new.self) up low high in
    let made = subst (λ (es : List (g.row.K.Denot × ℕ)). IsMade g.K.Ord.cmp c.args.front es c.push.new.nodes (Some c.in_ok-slot.slot) c.either-last.result c.first_of-first.result) (sym pushed)
    (subst (λ (o : Option ℕ). IsMade g.K.Ord.cmp c.args.front (c.loop-key.places.items ++ (c.in-Some.key, c.in_ok-slot.slot) ∷ []) c.push.new.nodes (Some c.in_ok-slot.slot) o c.first_of-first.result) (sym c.either-last.ensures)
    (subst (λ (o : Option ℕ). IsMade g.K.Ord.cmp c.args.front (c.loop-key.places.items ++ (c.in-Some.key, c.in_ok-slot.slot) ∷ []) c.push.new.nodes (Some c.in_ok-slot.slot) (cond b (Some c.in_ok-slot.slot) c.loop-key.last) o) (sym c.first_of-first.ensures) grown.0)) in (
      tt,
      tt,
      made,
      ap (λ (es : List (g.row.K.Denot × ℕ)). entries_of (all_in (chain_of es c.push.new.nodes)) ++ into_iter_items c.next.new.self) pushed
          ∙ ap (λ xs. xs ++ into_iter_items c.next.new.self) grown.1
          ∙ append_assoc (entries_of (all_in (chain_of c.loop-key.places.items c.loop-key.nodes))) ((c.in-Some.key, c.in-Some.value) ∷ []) (into_iter_items c.next.new.self)
          ∙ whole,
      inv.4,
      omega (arith, inv.5, c.in-Some.ensures.steps.1, ap length rest),
    )

pub invariant_of-result : goal.invariant_of-result
invariant_of-result g c =
    let inv = c.loop-key.invariant in
    let h = c.in_ok-places-2.ensures.ran in
    let made = subst (λ (xs : List (g.row.K.Denot × ℕ)). IsFromIterResult g.K.Ord.cmp xs c.in_ok-places-2.places) (All-taken h.0 h.1 ((h.3.2 tt).0, (h.3.0, h.3.1, (h.3.2 tt).1)) ∙ h.2.0) h.4 in
    let places = places_made g.met.K.Ord.total c.requires.same inv.2 c.in_ok-places-2.places made in
    let count : c.min-count.result ≡ min (length c.loop-key.places.items) c.args.front = search rules in
    subst (λ k. IsCut g.K.Ord.cmp c.in_ok-places-2.places.entries c.loop-key.nodes c.loop-key.last c.loop-key.first k (chain_of c.in_ok-places-2.places.entries c.loop-key.nodes)) (sym count)
    (subst (λ (es : List (g.row.K.Denot × ℕ)). IsCut g.K.Ord.cmp es c.loop-key.nodes c.loop-key.last c.loop-key.first (min (length c.loop-key.places.items) c.args.front) (chain_of es c.loop-key.nodes)) (sym places) inv.2.cut)

pub returns : goal.returns
returns g c =
    let inv = c.loop-key.invariant in
    let h = c.in_ok-places-2.ensures.ran in
    let made = subst (λ (xs : List (g.row.K.Denot × ℕ)). IsFromIterResult g.K.Ord.cmp xs c.in_ok-places-2.places) (All-taken h.0 h.1 ((h.3.2 tt).0, (h.3.0, h.3.1, (h.3.2 tt).1)) ∙ h.2.0) h.4 in
    let places = places_made g.met.K.Ord.total c.requires.same inv.2 c.in_ok-places-2.places made in
    let done : into_iter_items c.loop-key.key-iterator ≡ [] = no_length (into_iter_items c.loop-key.key-iterator) (sym inv.5 ∙ c.in-None.ensures.steps.0) in
    let all : into_iter_items c.into_iter-key-iterator.result ≡ c.args.entries.items = search rules in
    let whole : entries_of (all_in (chain_of c.loop-key.places.items c.loop-key.nodes)) ≡ c.args.entries.items =
    sym (append-nil (entries_of (all_in (chain_of c.loop-key.places.items c.loop-key.nodes)))) ∙ ap (λ xs. entries_of (all_in (chain_of c.loop-key.places.items c.loop-key.nodes)) ++ xs) (sym done) ∙ inv.3 ∙ all in
    let halves = halves_made g.K.Ord.cmp c.args.front c.loop-key.places.items c.loop-key.nodes c.loop-key.tail c.loop-key.last c.loop-key.first inv.2 c.args.entries.items whole in
    record {
      whole = ap (λ (es : List (g.row.K.Denot × ℕ)). entries_of (all_in (chain_of es c.loop-key.nodes))) places ∙ whole;
      front = ap (λ (es : List (g.row.K.Denot × ℕ)). entries_of (chain_of es c.loop-key.nodes).front) places ∙ halves.0;
      behind = ap (λ (es : List (g.row.K.Denot × ℕ)). entries_of (chain_of es c.loop-key.nodes).behind) places ∙ halves.1;
    }
