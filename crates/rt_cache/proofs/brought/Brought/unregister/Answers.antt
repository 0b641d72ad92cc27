use Rattle.std.proofs.Common.{◌≡◌, ◌∙◌, ◌<◌, ◌≤◌, ℕ, ap, sym, subst, length, slice_index_or, List}
use Rattle.std.specs.List.{All, Contains}
use Rattle.std.proofs.lemmas.List.Elements.{All-contains, All-contains_itself}
use Rattle.rt_tree.specs.declared.limits.TheConstants.{MAX_KEYS}
use Rattle.rt_query.specs.Queries.{Query}
use Rattle.rt_cache.specs.Brought.{Brought}
use Rattle.rt_cache.specs.Canonical.{IsCanonical, FitsLevels, Belongs}
use Rattle.rt_cache.specs.Recover.{recover, without_places, EndsForms}
use Rattle.rt_cache.specs.inside.Held.{held, pairs_of, AreShort}
use Rattle.rt_cache.proofs.Belonging.{recover_belongs, have_forms}
use Rattle.rt_cache.proofs.Changes.{recover_stays}
use Rattle.rt_cache.proofs.Levels.{recover_fits}
use Rattle.rt_cache.proofs.Removing.{All-without}
use Rattle.rt_cache.proofs.brought.Brought.unregister.Goals as goal

pub end_forms-requires-clause-forms : goal.end_forms-requires-clause-forms
end_forms-requires-clause-forms c =
    have_forms (held c.self.inside.registered c.self.inside.regions.items c.self.inside.windows.items) c.self.invariant.0 c.self.invariant.3

pub end_forms-requires-clause-beside : goal.end_forms-requires-clause-beside
end_forms-requires-clause-beside c = c.self.invariant.3.beside

pub end_forms-requires-clause-ends : goal.end_forms-requires-clause-ends
end_forms-requires-clause-ends c =
    let fs : List Query = c.self.inside.registered in
    let kept : List Query = c.requires.ends.0 in
    let left : List Query = without_places c.args.places.now fs in
    let h : EndsForms c.args.ended.now c.args.begun.now fs left kept (pairs_of c.self.inside.regions.items) =
    subst (λ (x : Brought). EndsForms c.args.ended.now c.args.begun.now x.registered (without_places c.args.places.now x.registered) kept x.regions) (sym c.self.view_is) c.requires.ends.1 in (
      left,
      kept,
      All-without (Contains fs) c.args.places.now fs (All-contains_itself fs),
      h,
    )

pub remove_places-requires-clause-within : goal.remove_places-requires-clause-within
remove_places-requires-clause-within c =
    subst (λ (x : Brought). All (λ (p : ℕ). p < length x.registered) c.args.places.now) (sym c.self.view_is) c.requires.within

-- a refused change leaves all as it was
pub invariant_of-self : goal.invariant_of-self
invariant_of-self c =
    let e = c.in_err-end_forms.ensures.err c.self.inside.registered in (
      subst IsCanonical (sym e) c.self.invariant.0,
      subst FitsLevels (sym e) c.self.invariant.1,
      c.end_forms.ensures.order,
      subst Belongs (sym e) c.self.invariant.3,
      c.self.invariant.4,
    )

pub invariant_of-self-2 : goal.invariant_of-self-2
invariant_of-self-2 c =
    let fs : List Query = c.self.inside.registered in
    let b : Brought = held fs c.self.inside.regions.items c.self.inside.windows.items in
    let kept : List Query = c.requires.ends.0 in
    let left : List Query = without_places c.args.places.now fs in
    let h : EndsForms c.args.ended.now c.args.begun.now fs left kept b.regions =
    subst (λ (x : Brought). EndsForms c.args.ended.now c.args.begun.now x.registered (without_places c.args.places.now x.registered) kept x.regions) (sym c.self.view_is) c.requires.ends.1 in
    let removed : c.remove_places.new.self ≡ left = c.remove_places.ensures in
    let e : held c.remove_places.new.self c.end_forms.new.regions.items c.end_forms.new.windows.items ≡ recover left kept b =
    (λ i. held (removed i) c.end_forms.new.regions.items c.end_forms.new.windows.items)
    ∙ c.in_ok-end_forms.ensures.ok left kept (All-without (Contains fs) c.args.places.now fs (All-contains_itself fs)) h in
    let short : AreShort left = All-without (λ (q : Query). length q.path ≤ MAX_KEYS) c.args.places.now fs c.self.invariant.4 in
    let listens : AreShort kept = λ k d lt. All-contains (λ (q : Query). length q.path ≤ MAX_KEYS) left (slice_index_or kept k d) short (h.registered k d lt) in (
      subst IsCanonical (sym e) (recover_stays left kept b h.apart c.self.invariant.0),
      subst FitsLevels (sym e) (recover_fits left kept b short listens c.self.invariant.0.filtered c.self.invariant.1),
      c.end_forms.ensures.order,
      subst Belongs (sym e) (recover_belongs left kept b h.registered c.self.invariant.3),
      subst AreShort (sym removed) short,
    )

pub returns-clause-ok : goal.returns-clause-ok
returns-clause-ok c = λ kept h.
    let fs : List Query = c.self.inside.registered in
    let left : List Query = without_places c.args.places.now fs in
    let ends : EndsForms c.args.ended.now c.args.begun.now fs left kept (pairs_of c.self.inside.regions.items) =
    subst (λ (x : Brought). EndsForms c.args.ended.now c.args.begun.now x.registered (without_places c.args.places.now x.registered) kept x.regions) (sym c.self.view_is) h in
    (λ i. held (c.remove_places.ensures i) c.end_forms.new.regions.items c.end_forms.new.windows.items)
    ∙ c.in_ok-end_forms.ensures.ok left kept (All-without (Contains fs) c.args.places.now fs (All-contains_itself fs)) ends
    ∙ ap (λ (x : Brought). recover (without_places c.args.places.now x.registered) kept x) c.self.view_is
