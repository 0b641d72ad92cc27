use Rattle.std.proofs.Common.{rules, ◌≡◌, ◌∙◌, ◌+◌, ◌<◌, ◌≤◌, ◌&&◌, ◌||◌, ℕ, Bool, true, false, List, ◌∷◌, ap, sym, subst, refl, length, get_or, drop}
use Rattle.std.specs.List.{list_any}
use Rattle.rt_tree.specs.PathTree.{Path, path_eq}
use Rattle.rt_query.specs.Queries.{Query}
use Rattle.rt_cache.specs.declared.by_path.Lent.{Lent}
use Rattle.rt_cache.specs.declared.forms.Form.{Form}
use Rattle.rt_cache.specs.declared.windows.Window.{Window}
use Rattle.rt_cache.specs.inside.Handing.{lent_queries, hands_on, is_beside_one}
use Rattle.rt_cache.specs.inside.Listed.{queries_of}
use Rattle.rt_cache.specs.inside.Spans.{has_place}
use Rattle.rt_cache.proofs.Gathering.{AreWhole, any_no, joined, all_lent, whole_more, beside_more, beside_same, covered}
use Rattle.rt_cache.proofs.Lending.{lent_dropped}
use Rattle.rt_cache.proofs.Parts.{all_dropped}
use Rattle.rt_cache.proofs.handover.lend_beside.Goals as goal
use Rattle.rt_cache.proofs.handover.lend_beside.Goals.{then-has_new_path+in_ok-lend_span, else-has_new_path}

pub loop-one-preserved : goal.loop-one-preserved
loop-one-preserved c =
    let ws : List Window = c.args.windows.now in
    let fs : List Form = c.args.forms.now in
    let ls : List Lent = c.args.ended.now in
    let n : ℕ = c.loop-one.one-index in
    let one : Lent = c.one-item.result in
    let w : Query = one.query.now in
    let within : n < length ls = search rules in
    let at : one ≡ get_or ls n one = search rules in
    let rest : List Query = lent_queries (drop (n + 1) ls) in
    let old : List Lent = c.loop-one.lent.items in
    let left : (p : Query → Bool) → list_any (λ f. is_beside_one ws (lent_queries (drop n ls)) f && p f) (queries_of fs) ≡ list_any (λ f. is_beside_one ws (w ∷ rest) f && p f) (queries_of fs) =
    λ p. ap (λ qs. list_any (λ f. is_beside_one ws qs f && p f) (queries_of fs)) (lent_dropped ls n one within at) in
    elim c.if-has_new_path.branch [
      | then-has_new_path+in_ok-lend_span b ↦
          let hands : hands_on ws w ≡ true = c.has_new_path.ensures.new (search rules) in
          let path : b.path.result.now ≡ w.path = search rules in
          let exact : (k : ℕ) (d : Form) → k < length fs → path_eq ((get_or fs k d).query).path w.path ≡ has_place k b.span_at.result =
          λ k d lt. ap (λ (z : Path). path_eq ((get_or fs k d).query).path z) (sym path) ∙ b.span_at.ensures.exact k d lt in
          let now : c.if-has_new_path.lent.items ≡ b.lend_span.new.lent.items = search rules in
          let more : (p : Query → Bool) → list_any p (lent_queries c.if-has_new_path.lent.items) ≡ (list_any p (lent_queries old) || list_any (λ f. path_eq f.path w.path && p f) (queries_of fs)) =
          λ p. ap (λ (xs : List Lent). list_any p (lent_queries xs)) now ∙ b.in_ok-lend_span.ensures (λ f. path_eq f.path w.path) exact p in (
            λ p. joined _ (list_any p (lent_queries old)) _ _ _ (more p) (left p ∙ beside_more ws w rest p (queries_of fs) hands) ∙ c.loop-one.invariant.0 p,
            whole_more (queries_of fs) (lent_queries old) (lent_queries c.if-has_new_path.lent.items) w.path more c.loop-one.invariant.1,
          )
      | else-has_new_path b ↦
          let no : c.has_new_path.result ≡ false = search rules in
          let now : c.if-has_new_path.lent.items ≡ old = search rules in
          let same : (p : Query → Bool) → (list_any p (lent_queries old) || list_any (λ f. is_beside_one ws rest f && p f) (queries_of fs)) ≡ (list_any p (lent_queries old) || list_any (λ f. is_beside_one ws (w ∷ rest) f && p f) (queries_of fs)) =
          λ p. elim (hands_on ws w) as (λ h. hands_on ws w ≡ h → (list_any p (lent_queries old) || list_any (λ f. is_beside_one ws rest f && p f) (queries_of fs)) ≡ (list_any p (lent_queries old) || list_any (λ f. is_beside_one ws (w ∷ rest) f && p f) (queries_of fs))) [
            | true ↦ λ h.
                let there : list_any (λ q. path_eq q.path w.path) (lent_queries old) ≡ true =
                ap (λ (xs : List Lent). list_any (λ q. path_eq q.path w.path) (lent_queries xs)) (sym c.deref.ensures.value) ∙ c.has_new_path.ensures.old no h in
                covered (list_any p (lent_queries old)) (list_any (λ f. path_eq f.path w.path && p f) (queries_of fs)) _ (c.loop-one.invariant.1 w.path there p)
                ∙ ap (λ x. list_any p (lent_queries old) || x) (sym (beside_more ws w rest p (queries_of fs) h))
            | false ↦ λ h. ap (λ x. list_any p (lent_queries old) || x) (sym (beside_same ws w rest p (queries_of fs) h))
          ] refl in (
            λ p. ap (λ (xs : List Lent). list_any p (lent_queries xs) || list_any (λ f. is_beside_one ws rest f && p f) (queries_of fs)) now
                ∙ same p ∙ ap (λ x. list_any p (lent_queries old) || x) (sym (left p)) ∙ c.loop-one.invariant.0 p,
            subst (λ (xs : List Lent). AreWhole (queries_of fs) (lent_queries xs)) (sym now) c.loop-one.invariant.1,
          )
    ]

pub returns : goal.returns
returns c = λ p.
    let done : length c.args.ended.now ≤ c.loop-one.one-index = search rules in
    all_lent (list_any p (lent_queries c.loop-one.lent.items)) _ _
    (ap (λ (xs : List Lent). list_any (λ f. is_beside_one c.args.windows.now (lent_queries xs) f && p f) (queries_of c.args.forms.now)) (all_dropped c.loop-one.one-index c.args.ended.now done) ∙ any_no p (queries_of c.args.forms.now))
    (c.loop-one.invariant.0 p)
