use Rattle.std.proofs.Common.{rules, ◌≡◌, ◌∙◌, ◌+◌, ◌<◌, ◌≤◌, ◌++◌, ◌∷◌, ◌||◌, [], ℕ, List, ap, sym, arith, append-nil, length, get_or}
use Rattle.std.specs.List.{list_any, slice_range}
use Rattle.std.proofs.lemmas.List.Folds.{list_any-append}
use Rattle.rt_cache.specs.declared.by_path.Lent.{Lent}
use Rattle.rt_cache.specs.declared.forms.Form.{Form}
use Rattle.rt_cache.specs.inside.Handing.{lent_queries}
use Rattle.rt_cache.specs.inside.Listed.{queries_of}
use Rattle.rt_cache.proofs.Gathering.{slice_more, slice_none, span_any}
use Rattle.rt_cache.proofs.Lending.{lent_more}
use Rattle.rt_cache.proofs.handover.lend_span.Goals as goal

pub loop-place-preserved : goal.loop-place-preserved
loop-place-preserved c =
    let fs : List Form = c.args.forms.now in
    let n : ℕ = c.loop-place.place in
    let m : ℕ = c.args.span.now.end in
    let item : Form = c.index-forms-place.result in
    let lt : n < m = c.loop-place-test.true in
    let within : n < length fs = omega (arith, lt, c.requires.within) in
    let at : item ≡ get_or fs n item = search rules in
    let one : Lent = record { query = c.query.result } in
    let pushed : c.push.new.self.items ≡ c.loop-place.lent.items ++ one ∷ [] = search rules in
    let same : c.query.result.now ≡ item.query = search rules in (
      omega (arith, c.loop-place.invariant.0),
      omega (arith, lt),
      ap (λ (ls : List Lent). lent_queries ls ++ queries_of (slice_range fs (n + 1) m)) pushed
          ∙ lent_more c.loop-place.lent.items one (queries_of (slice_range fs (n + 1) m))
          ∙ ap (λ q. lent_queries c.loop-place.lent.items ++ q ∷ queries_of (slice_range fs (n + 1) m)) same
          ∙ ap (λ (xs : List Form). lent_queries c.loop-place.lent.items ++ queries_of xs) (sym (slice_more fs n m item lt within at))
          ∙ c.loop-place.invariant.2,
    )

pub returns : goal.returns
returns c = λ test exact p.
    let fs : List Form = c.args.forms.now in
    let done : c.args.span.now.end ≤ c.loop-place.place = search rules in
    ap (list_any p)
    (sym (append-nil (lent_queries c.loop-place.lent.items))
    ∙ ap (λ (xs : List Form). lent_queries c.loop-place.lent.items ++ queries_of xs) (sym (slice_none fs c.loop-place.place c.args.span.now.end done))
    ∙ c.loop-place.invariant.2)
    ∙ list_any-append p (lent_queries c.args.lent.now.items) (queries_of (slice_range fs c.args.span.now.start c.args.span.now.end))
    ∙ ap (λ b. list_any p (lent_queries c.args.lent.now.items) || b) (span_any fs c.args.span.now test p c.requires.ordered c.requires.within exact)
