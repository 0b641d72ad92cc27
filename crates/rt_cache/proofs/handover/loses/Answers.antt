use Rattle.std.proofs.Common.{rules, ◌≡◌, ◌∙◌, ◌&&◌, ◌||◌, Bool, ap, sym, true, false, refl}
use Rattle.rt_query.specs.Queries.{is_filtered}
use Rattle.rt_cache.specs.Recover.{is_among}
use Rattle.rt_cache.specs.inside.Handing.{lent_queries, window_queries, is_alike, staying_of, is_region_lost, is_window_lost}
use Rattle.rt_cache.specs.inside.Held.{pairs_of}
use Rattle.rt_cache.proofs.handover.loses.Goals as goal

and_no : (b : Bool) → (b && false) ≡ false
and_no true = refl
and_no false = refl

pub returns-then-not-is_filtered : goal.returns-then-not-is_filtered
returns-then-not-is_filtered c = λ kept cut.
    let plain : is_filtered c.args.form.now ≡ false = search rules in
    let here : Bool = is_alike (is_among (lent_queries c.args.those.now) c.args.form.now) c.args.among in
    sym (ap (λ b. here && (b && (is_region_lost kept (pairs_of c.args.regions.now) c.args.form.now
    || is_window_lost (window_queries c.args.windows.now) (staying_of (lent_queries c.args.those.now) c.args.among (window_queries c.args.windows.now)) c.args.form.now))) plain ∙ and_no here)

pub returns-then-not-is_staying : goal.returns-then-not-is_staying
returns-then-not-is_staying c = λ kept cut.
    let no : is_alike (is_among (lent_queries c.args.those.now) c.args.form.now) c.args.among ≡ false = search rules in
    sym (ap (λ b. b && (is_filtered c.args.form.now && (is_region_lost kept (pairs_of c.args.regions.now) c.args.form.now
    || is_window_lost (window_queries c.args.windows.now) (staying_of (lent_queries c.args.those.now) c.args.among (window_queries c.args.windows.now)) c.args.form.now))) no)

pub returns-then-loses_region : goal.returns-then-loses_region
returns-then-loses_region c = λ kept cut.
    let yes : is_alike (is_among (lent_queries c.args.those.now) c.args.form.now) c.args.among ≡ true = search rules in
    let filtered : is_filtered c.args.form.now ≡ true = search rules in
    let lost : c.loses_region.result ≡ true = search rules in
    let region : is_region_lost kept (pairs_of c.args.regions.now) c.args.form.now ≡ true = sym (c.loses_region.ensures kept cut) ∙ lost in
    sym (λ i. yes i && (filtered i && (region i || is_window_lost (window_queries c.args.windows.now) (staying_of (lent_queries c.args.those.now) c.args.among (window_queries c.args.windows.now)) c.args.form.now)))

pub returns : goal.returns
returns c = λ kept cut.
    let yes : is_alike (is_among (lent_queries c.args.those.now) c.args.form.now) c.args.among ≡ true = search rules in
    let filtered : is_filtered c.args.form.now ≡ true = search rules in
    let stays : c.loses_region.result ≡ false = search rules in
    let region : is_region_lost kept (pairs_of c.args.regions.now) c.args.form.now ≡ false = sym (c.loses_region.ensures kept cut) ∙ stays in
    c.loses_window.ensures (lent_queries c.args.those.now) c.args.among c.requires.staying ∙ sym (λ i. yes i && (filtered i && (region i || is_window_lost (window_queries c.args.windows.now) (staying_of (lent_queries c.args.those.now) c.args.among (window_queries c.args.windows.now)) c.args.form.now)))
