use Rattle.std.proofs.Common.{rules, ◌≡◌, ◌<◌, ◌++◌, ◌∷◌, [], ℕ, max, sym, subst, arith, List}
use Rattle.std.proofs.lemmas.List.Elements.{All-push}
use Rattle.rt_cache.specs.declared.by_path.Span.{Span}
use Rattle.rt_cache.specs.inside.Spans.{AreInOrder, AreFilled}
use Rattle.rt_cache.proofs.InSpans.{order_push}
use Rattle.rt_cache.proofs.by_path.push_places.Goals as goal

pub returns-in_ok-push-clause-order : goal.returns-in_ok-push-clause-order
returns-in_ok-push-clause-order c = λ h.
    let span : Span = record { start = c.args.start; end = c.args.end } in
    let items : c.push.new.self.items ≡ c.args.spans.now.items ++ record { start = c.args.start; end = c.args.end } ∷ [] = search rules in
    let most : max c.args.start c.args.end ≡ c.args.end = omega arith in
    subst (λ (n : ℕ). AreInOrder 0 c.push.new.self.items n) (sym most)
    (subst (λ (spans : List Span). AreInOrder 0 spans c.args.end) (sym items) (order_push 0 c.args.spans.now.items span h (omega arith)))

pub returns-in_ok-push-clause-filled : goal.returns-in_ok-push-clause-filled
returns-in_ok-push-clause-filled c = λ h.
    let span : Span = record { start = c.args.start; end = c.args.end } in
    let items : c.push.new.self.items ≡ c.args.spans.now.items ++ record { start = c.args.start; end = c.args.end } ∷ [] = search rules in
    subst AreFilled (sym items) (All-push (λ (s : Span). s.start < s.end) c.args.spans.now.items span h (omega arith))
