use Rattle.std.proofs.Common.{rules, ◌≡◌, ◌∙◌, ◌<◌, ◌++◌, ◌∷◌, [], ◌&&◌, Bool, length, get_or, sym, true, false}
use Rattle.rt_query.specs.Queries.{Query}
use Rattle.rt_cache.specs.declared.by_path.Lent.{Lent}
use Rattle.rt_cache.specs.inside.Handing.{lent_queries, window_queries, is_staying, staying_of, is_loser}
use Rattle.rt_cache.specs.inside.Held.{pairs_of}
use Rattle.rt_cache.proofs.Lending.{one_passes, one_fails, all_passed}
use Rattle.rt_cache.proofs.handover.losers.Goals as goal
use Rattle.rt_cache.proofs.handover.losers.Goals.{then-loses+in_ok-push, else-loses}

pub loop-form-preserved : goal.loop-form-preserved
loop-form-preserved c = λ kept cut.
    let test : Query → Bool = λ q. is_staying (lent_queries c.args.those.now) c.args.among q && is_loser kept (pairs_of c.args.regions.now) (window_queries c.args.windows.now) (staying_of (lent_queries c.args.those.now) c.args.among (window_queries c.args.windows.now)) q in
    let f : Lent = c.form-item.result in
    let within : c.loop-form.form-index < length c.args.forms.now = search rules in
    let at : f ≡ get_or c.args.forms.now c.loop-form.form-index f = search rules in
    let told : c.loses.result ≡ test f.query.now = c.loses.ensures kept cut in
    elim c.if-loses.branch [
      | then-loses+in_ok-push w ↦
          let yes : c.loses.result ≡ true = search rules in
          let pushed : c.if-loses.lent.items ≡ c.loop-form.lent.items ++ f ∷ [] = search rules in
          one_passes test c.loop-form.lent.items c.if-loses.lent.items c.args.forms.now c.loop-form.form-index f _ within at (sym told ∙ yes) pushed (c.loop-form.invariant kept cut)
      | else-loses w ↦
          let no : c.loses.result ≡ false = search rules in
          let same : c.if-loses.lent.items ≡ c.loop-form.lent.items = search rules in
          one_fails test c.loop-form.lent.items c.if-loses.lent.items c.args.forms.now c.loop-form.form-index f _ within at (sym told ∙ no) same (c.loop-form.invariant kept cut)
    ]

pub returns : goal.returns
returns c = λ kept cut.
    all_passed (λ q. is_staying (lent_queries c.args.those.now) c.args.among q && is_loser kept (pairs_of c.args.regions.now) (window_queries c.args.windows.now) (staying_of (lent_queries c.args.those.now) c.args.among (window_queries c.args.windows.now)) q)
    c.loop-form.lent.items c.args.forms.now c.loop-form.form-index _ c.loop-form-test.false (c.loop-form.invariant kept cut)
