use Rattle.std.proofs.Common.{◌≡◌, ◌≤◌, length, sym, subst, List}
use Rattle.std.proofs.lemmas.List.Elements.{All-push}
use Rattle.rt_tree.specs.declared.limits.TheConstants.{MAX_KEYS}
use Rattle.rt_query.specs.Queries.{Query}
use Rattle.rt_cache.specs.Canonical.{IsCanonical, FitsLevels, Belongs}
use Rattle.rt_cache.specs.inside.Held.{held, AreShort}
use Rattle.rt_cache.proofs.Belonging.{Holds, more_holds}
use Rattle.rt_cache.proofs.Levels.{short_path}
use Rattle.rt_cache.proofs.brought.Brought.register.Goals as goal

-- a refused call leaves all as it was
pub invariant_of-self : goal.invariant_of-self
invariant_of-self c =
    let e : c.push.new.self ≡ c.self.inside.registered = c.in_err-push.ensures.err in (
      subst (λ (fs : List Query). IsCanonical (held fs c.self.inside.regions.items c.self.inside.windows.items)) (sym e) c.self.invariant.0,
      subst (λ (fs : List Query). FitsLevels (held fs c.self.inside.regions.items c.self.inside.windows.items)) (sym e) c.self.invariant.1,
      c.self.invariant.2,
      subst (λ (fs : List Query). Belongs (held fs c.self.inside.regions.items c.self.inside.windows.items)) (sym e) c.self.invariant.3,
      subst AreShort (sym e) c.self.invariant.4,
    )

pub invariant_of-self-2 : goal.invariant_of-self-2
invariant_of-self-2 c =
    let h : Holds (held c.push.new.self c.self.inside.regions.items c.self.inside.windows.items) =
    more_holds c.in_ok-form.form c.self.inside.registered c.push.new.self c.self.inside.regions.items c.self.inside.windows.items c.in_ok-push.ensures.ok
    (c.self.invariant.0, c.self.invariant.1, c.self.invariant.3) in
    let short : length (c.in_ok-form.form).path ≤ MAX_KEYS = short_path c.in_ok-form.form c.path.result.now c.path.ensures c.keys.ensures.valid in
    (h.0, h.1, c.self.invariant.2, h.2, subst AreShort (sym c.in_ok-push.ensures.ok) (All-push (λ (q : Query). length q.path ≤ MAX_KEYS) c.self.inside.registered c.in_ok-form.form c.self.invariant.4 short))
