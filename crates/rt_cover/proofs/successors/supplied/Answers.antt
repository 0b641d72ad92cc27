use Rattle.std.proofs.Common.{rules, ◌≡◌, ◌<◌, ◌≤◌, ◌||◌, ℕ, Bool, List, length, drop, refl, sym, ap, subst, ◌∙◌, arith}
use Rattle.std.specs.List.{list_any}
use Rattle.std.specs.List.Sorted.{IsSorted}
use Rattle.std.proofs.lemmas.List.{length-drop}
use Rattle.rt_cover.specs.Cover.{Tagged}
use Rattle.rt_cover.specs.inside.Endings.{has_supplied}
use Rattle.rt_cover.specs.inside.Index.{by_form, form_of, AreApart}
use Rattle.rt_cover.proofs.AnyLaws.{any_front, any_done}
use Rattle.rt_cover.proofs.SuppliedLaws.{sorted_drop, apart_fewer, any_drop}
use Rattle.rt_cover.proofs.successors.supplied.Goals as goal

pub loop-rest-init : goal.loop-rest-init
loop-rest-init g c = record {
  told = λ t begins. ap (λ (ns : List ℕ). list_any t ns || list_any (has_supplied c.args.listeners.now t) c.args.listens.now) c.new-numbers.ensures.items;
  order = c.requires.order;
  apart = c.requires.apart;
}

pub add_first-requires-clause-order : goal.add_first-requires-clause-order
add_first-requires-clause-order g c = c.loop-rest.invariant.order

pub add_first-requires-clause-apart : goal.add_first-requires-clause-apart
add_first-requires-clause-apart g c = c.loop-rest.invariant.apart

pub loop-rest-smaller : goal.loop-rest-smaller
loop-rest-smaller g c =
    let rest : List Tagged = c.loop-rest.rest.now in
    let n : ℕ = c.in_ok-count.count in
    let less : 0 < n = c.in_ok-count.ensures.some in
    let within : n ≤ length rest = c.in_ok-count.ensures.within in
    let left : length c.behind-rest.result.now ≡ length (drop n rest) = ap length c.behind-rest.ensures in
    omega (arith, less, within, left, length-drop n rest)

pub loop-rest-preserved : goal.loop-rest-preserved
loop-rest-preserved g c =
    let rest : List Tagged = c.loop-rest.rest.now in
    let n : ℕ = c.in_ok-count.count in
    let within : n ≤ length rest = c.in_ok-count.ensures.within in
    record {
      told = λ t begins.
          let has : Tagged → Bool = has_supplied c.args.listeners.now t in
          subst (λ (xs : List Tagged). (list_any t c.add_first.new.numbers.items || list_any has xs) ≡ list_any has c.args.listens.now) (sym c.behind-rest.ensures)
          (any_front has (list_any t c.loop-rest.numbers.items) (list_any t c.add_first.new.numbers.items) (list_any has c.args.listens.now) rest n
          (c.in_ok-count.ensures.numbers t begins) (c.loop-rest.invariant.told t begins));
      order = subst (IsSorted (by_form form_of)) (sym c.behind-rest.ensures) (sorted_drop form_of n rest within c.loop-rest.invariant.order);
      apart = subst (AreApart form_of) (sym c.behind-rest.ensures) (apart_fewer form_of rest (drop n rest) (any_drop n rest) c.loop-rest.invariant.apart);
    }

pub returns : goal.returns
returns g c = λ t begins.
    let has : Tagged → Bool = has_supplied c.args.listeners.now t in
    let none : length c.loop-rest.rest.now ≡ 0 = search rules in
    any_done has (list_any t c.loop-rest.numbers.items) (list_any has c.args.listens.now) c.loop-rest.rest.now none (c.loop-rest.invariant.told t begins)
