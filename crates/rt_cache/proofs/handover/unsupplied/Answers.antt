use Rattle.std.proofs.Common.{rules, ◌≡◌, ◌∙◌, ◌<◌, ◌++◌, ◌∷◌, [], Bool, List, length, get_or, ap, sym, subst, not, true, false}
use Rattle.std.specs.List.{list_any, All}
use Rattle.rt_query.specs.Queries.{Query, is_filtered}
use Rattle.rt_cache.specs.Brought.{is_supplied}
use Rattle.rt_cache.specs.declared.by_path.Lent.{Lent}
use Rattle.rt_cache.specs.inside.ByPath.{AreByQuery, AreApart, is_other_supplier}
use Rattle.rt_cache.specs.inside.Handing.{lent_queries}
use Rattle.rt_cache.proofs.Lending.{one_passes, one_fails, all_passed}
use Rattle.rt_cache.proofs.Unsupplied.{lent_order, lent_filtered, lent_apart, supplied_alike}
use Rattle.rt_cache.proofs.handover.unsupplied.Goals as goal
use Rattle.rt_cache.proofs.handover.unsupplied.Goals.{then-not-has_other_supplier+in_ok-push, else-not-has_other_supplier}

pub has_other_supplier-requires-clause-order : goal.has_other_supplier-requires-clause-order
has_other_supplier-requires-clause-order c =
    subst (AreByQuery (λ (l : Lent). l.query.now)) (sym c.deref.ensures.value)
    (lent_order c.args.queries.now c.loop-one.lent.items c.loop-one.one-index c.requires.order c.requires.filtered c.loop-one.invariant)

pub has_other_supplier-requires-clause-filtered : goal.has_other_supplier-requires-clause-filtered
has_other_supplier-requires-clause-filtered c =
    subst (All (λ (l : Lent). is_filtered l.query.now ≡ true)) (sym c.deref.ensures.value)
    (lent_filtered c.args.queries.now c.loop-one.lent.items c.loop-one.one-index c.requires.order c.requires.filtered c.loop-one.invariant)

pub has_other_supplier-requires-clause-apart : goal.has_other_supplier-requires-clause-apart
has_other_supplier-requires-clause-apart c =
    subst (AreApart (λ (l : Lent). l.query.now)) (sym c.deref.ensures.value)
    (lent_apart c.args.queries.now c.loop-one.lent.items c.loop-one.one-index c.requires.order c.requires.filtered c.loop-one.invariant)

pub loop-one-preserved : goal.loop-one-preserved
loop-one-preserved c =
    let ls : List Lent = c.args.queries.now in
    let lent : List Lent = c.loop-one.lent.items in
    let test : Query → Bool = λ q. not (is_supplied (lent_queries ls) q) in
    let f : Lent = c.one-item.result in
    let within : c.loop-one.one-index < length ls = search rules in
    let at : f ≡ get_or ls c.loop-one.one-index f = search rules in
    let told : c.has_other_supplier.result ≡ is_supplied (lent_queries ls) f.query.now =
    c.has_other_supplier.ensures
    ∙ ap (λ (xs : List Lent). list_any (λ (l : Lent). is_other_supplier l.query.now f.query.now) xs) c.deref.ensures.value
    ∙ ap (λ (x : Lent). list_any (λ (l : Lent). is_other_supplier l.query.now x.query.now) lent) at
    ∙ supplied_alike ls lent c.loop-one.one-index c.requires.order c.requires.filtered c.loop-one.invariant f within
    ∙ ap (λ (x : Lent). is_supplied (lent_queries ls) x.query.now) (sym at) in
    elim c.if-not-has_other_supplier.branch [
      | then-not-has_other_supplier+in_ok-push w ↦
          let no : c.has_other_supplier.result ≡ false = search rules in
          let pushed : c.if-not-has_other_supplier.lent.items ≡ lent ++ f ∷ [] = search rules in
          one_passes test lent c.if-not-has_other_supplier.lent.items ls c.loop-one.one-index f _ within at (ap not (sym told ∙ no)) pushed c.loop-one.invariant
      | else-not-has_other_supplier w ↦
          let yes : c.has_other_supplier.result ≡ true = search rules in
          let same : c.if-not-has_other_supplier.lent.items ≡ lent = search rules in
          one_fails test lent c.if-not-has_other_supplier.lent.items ls c.loop-one.one-index f _ within at (ap not (sym told ∙ yes)) same c.loop-one.invariant
    ]

pub returns : goal.returns
returns c =
    all_passed (λ q. not (is_supplied (lent_queries c.args.queries.now) q)) c.loop-one.lent.items c.args.queries.now c.loop-one.one-index _ c.loop-one-test.false c.loop-one.invariant
