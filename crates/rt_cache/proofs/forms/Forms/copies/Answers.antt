use Rattle.std.proofs.Common.{rules, ◌≡◌, ◌∙◌, ◌+◌, ◌<◌, ◌≤◌, ◌++◌, ◌∷◌, [], ℕ, List, arith, append_assoc, length, get_or, drop, ap, sym, append-nil}
use Rattle.std.proofs.lemmas.List.{drop_more}
use Rattle.rt_tree.specs.declared.limits.TheConstants.{MAX_KEYS}
use Rattle.rt_query.specs.Queries.{Query}
use Rattle.rt_cache.proofs.Levels.{short_more, short_path}
use Rattle.rt_cache.proofs.Parts.{all_dropped}
use Rattle.rt_cache.proofs.forms.Forms.copies.Goals as goal

pub loop-query-preserved : goal.loop-query-preserved
loop-query-preserved c =
    let q : Query = c.query-item.result in
    let within : c.loop-query.query-index < length c.args.queries.now = search rules in
    let at : q ≡ get_or c.args.queries.now c.loop-query.query-index q = search rules in
    let short : (k : ℕ) (d : Query) → k < c.loop-query.query-index + 1 → length (get_or c.args.queries.now k d).path ≤ MAX_KEYS =
    short_more c.args.queries.now c.loop-query.query-index q within at (short_path q c.path.result.now c.path.ensures c.keys.ensures.valid) c.loop-query.invariant.1 in
    let copied : c.in_ok-copy.field-0 ≡ q = search rules in
    let rest : List Query = drop (c.loop-query.query-index + 1) c.args.queries.now in (
      ap (λ (xs : List Query). xs ++ rest) c.in_ok-push.ensures.ok ∙ append_assoc c.loop-query.forms (c.in_ok-copy.field-0 ∷ []) rest
          ∙ ap (λ ys. c.loop-query.forms ++ ys) ((λ i. (copied ∙ at) i ∷ rest) ∙ sym (drop_more c.args.queries.now c.loop-query.query-index q within))
          ∙ c.loop-query.invariant.0,
      short,
    )

pub returns-clause-same : goal.returns-clause-same
returns-clause-same c =
    sym (append-nil c.loop-query.forms)
    ∙ ap (λ (qs : List Query). c.loop-query.forms ++ qs) (sym (all_dropped c.loop-query.query-index c.args.queries.now c.loop-query-test.false))
    ∙ c.loop-query.invariant.0

pub returns-clause-short : goal.returns-clause-short
returns-clause-short c =
    let done : length c.args.queries.now ≤ c.loop-query.query-index = search rules in
    λ k d lt. c.loop-query.invariant.1 k d (omega (arith, done, lt))
