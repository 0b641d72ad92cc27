use Rattle.std.proofs.Common.{◌≡◌, ◌++◌, ◌∷◌, [], true, false, Some, None, sym, ap, subst, rules, ◌∙◌}
use Rattle.rt_query.specs.QueryEq.{query_eq}
use Rattle.rt_cache.specs.Brought.{source}
use Rattle.rt_sync.specs.declared.steps.losses.Had.{Had}
use Rattle.rt_sync.specs.inside.Moving.{HaveSources, is_had}
use Rattle.rt_sync.proofs.MovingLaws.{more_had, more_sources, not_had, others_by, others_none}
use Rattle.rt_sync.proofs.steps.losses.push_had.Goals as goal

pub returns-in_default-clause-those : goal.returns-in_default-clause-those
returns-in_default-clause-those c = λ q.
    let none : source c.args.brought.now c.args.query.now ≡ None = search rules in
    not_had c.args.brought.now c.args.had.now.items c.args.query.now q (others_none c.args.brought.now c.args.query.now none)

pub returns-then-eq-clause-those : goal.returns-then-eq-clause-those
returns-then-eq-clause-those c = λ q.
    let some : source c.args.brought.now c.args.query.now ≡ Some c.in-Some.source.now = search rules in
    let same : query_eq c.in-Some.source.now c.args.query.now ≡ true = search rules in
    not_had c.args.brought.now c.args.had.now.items c.args.query.now q (others_by c.args.brought.now c.args.query.now c.in-Some.source.now true some same)

pub returns-clause-those : goal.returns-clause-those
returns-clause-those c = λ q.
    let some : source c.args.brought.now c.args.query.now ≡ Some c.in-Some.source.now = search rules in
    let other : query_eq c.in-Some.source.now c.args.query.now ≡ false = search rules in
    let z : Had = record { query = c.in_ok-query.query; source = c.in_ok-source.source } in
    let pushed : c.push.new.self.items ≡ c.args.had.now.items ++ z ∷ [] = search rules in
    ap (λ hs. is_had hs q) pushed
    ∙ more_had c.args.brought.now c.args.had.now.items c.args.query.now q z c.in_ok-query.ensures (others_by c.args.brought.now c.args.query.now c.in-Some.source.now false some other)

pub returns-clause-sources : goal.returns-clause-sources
returns-clause-sources c = λ h.
    let some : source c.args.brought.now c.args.query.now ≡ Some c.in-Some.source.now = search rules in
    let z : Had = record { query = c.in_ok-query.query; source = c.in_ok-source.source } in
    let pushed : c.push.new.self.items ≡ c.args.had.now.items ++ z ∷ [] = search rules in
    subst (HaveSources c.args.brought.now) (sym pushed)
    (more_sources c.args.brought.now c.args.had.now.items z
    (ap (source c.args.brought.now) c.in_ok-query.ensures ∙ some ∙ ap (λ x. Some x) (sym c.in_ok-source.ensures)) h)
