use Rattle.std.proofs.Common.{rules, ◌≡◌, ◌∙◌, Bool, not, sym, ap, get_or, length, true, false, refl, IfOk}
use Rattle.std.specs.declared.result.Result.{Result}
use Rattle.std.specs.declared.result.Result.TheVariants.{Ok, Err}
use Rattle.rt_cache.specs.Recover.{is_among}
use Rattle.rt_cache.specs.inside.Handing.{lent_queries, is_alike, is_staying}
use Rattle.rt_cache.proofs.InSpans.{each_in_order}
use Rattle.rt_cache.proofs.handover.spans_staying.Goals as goal

if_ok_three : {A E : Type 0} (r : Result A E) (P Q R S : A → Type 0) → IfOk r P → IfOk r Q → IfOk r R → ((x : A) → P x → Q x → R x → S x) → IfOk r S
if_ok_three (Ok x) P Q R S p q s f = f x p q s
if_ok_three (Err e) P Q R S p q s f = tt

not_alike : (a : Bool) → not a ≡ is_alike a false
not_alike true = refl
not_alike false = refl

alike : (a : Bool) → not (not a) ≡ is_alike a true
alike true = refl
alike false = refl

pub places_beside-requires-then-among : goal.places_beside-requires-then-among
places_beside-requires-then-among c = record { within = each_in_order 0 c.in_ok-others.others.items (length c.args.windows.now) c.in_ok-others.ensures.order }

pub returns-then-among : goal.returns-then-among
returns-then-among c =
    let yes : c.args.among ≡ true = search rules in
    if_ok_three c.places_beside-then-among.result _ _ _ _ c.places_beside-then-among.ensures.order c.places_beside-then-among.ensures.filled c.places_beside-then-among.ensures.places (λ spans order filled places. record {
      order = order;
      filled = filled;
      places = λ k d lt.
          places k lt ∙ ap not (c.in_ok-others.ensures.places k lt ∙ ap not (c.in_ok-spans.ensures.places k d lt))
          ∙ alike (is_among (lent_queries c.args.those.now) (get_or c.args.windows.now k d).query)
          ∙ ap (λ b. is_staying (lent_queries c.args.those.now) b (get_or c.args.windows.now k d).query) (sym yes);
    })

pub returns-else-among : goal.returns-else-among
returns-else-among c =
    let no : c.args.among ≡ false = search rules in
    record {
      order = c.in_ok-others.ensures.order;
      filled = c.in_ok-others.ensures.filled;
      places = λ k d lt.
          c.in_ok-others.ensures.places k lt ∙ ap not (c.in_ok-spans.ensures.places k d lt)
          ∙ not_alike (is_among (lent_queries c.args.those.now) (get_or c.args.windows.now k d).query)
          ∙ ap (λ b. is_staying (lent_queries c.args.those.now) b (get_or c.args.windows.now k d).query) (sym no);
    }
