-- What a change of cover leaves of what was brought.
use Rattle.std.proofs.Common.{◌≡◌, Bool, true, false, cond, ◌&&◌, List, [], ◌∷◌, ◌++◌, refl, sym, ap, ◌∙◌, Some, None}
use Rattle.std.specs.List.{fold, All}
use Rattle.std.proofs.lemmas.List.Elements.{All-nil, All-cons, All-head, All-tail}
use Rattle.rt_tree.specs.PathTree.{Path, PathTree, null, sub}
use Rattle.rt_query.specs.Queries.{Query}
use Rattle.rt_cache.specs.Brought.{Brought, nothing_brought, region_part}
use Rattle.rt_cache.specs.declared.brought.Base.{Base}
use Rattle.rt_cache.specs.Recover.{reaches, regions_kept, do_plains_overlap}
use Rattle.rt_cache.specs.Runs.{IsAllowed, after, after_all}
use Rattle.rt_cache.specs.laws.Runs.{with_push, pushed, known_after, is_known}
use Rattle.rt_cache.specs.declared.run.BroughtCall.TheVariants.{Recover}
use Rattle.rt_cache.proofs.FilteredRuns.{allowed_each}
use Rattle.rt_cache.proofs.RunLaws.{held_part}
use Rattle.rt_world.specs.Called.{IsCalled}

-- ---- regions, by the law of calls

abbrev pub whole : PathTree → Base
whole t = record { tree = t; whole = true }

fold_append : {A B : Type 0} (f : B → A → B) (b : B) (xs ys : List A) → fold f b (xs ++ ys) ≡ fold f (fold f b xs) ys
fold_append f b [] ys = refl
fold_append f b (x ∷ xs) ys = fold_append f (f b x) xs ys

All-more : {X : Type 0} (P : X → Type 0) (xs : List X) (x : X) → All P xs → P x → All P (xs ++ x ∷ [])
All-more P [] x h e = All-cons P x [] e (All-nil P)
All-more P (y ∷ xs) x h e = All-cons P y (xs ++ x ∷ []) (All-head P y xs h) (All-more P xs x (All-tail P y xs h) e)

both_known : (k r : Bool) (t : PathTree) → cond (k && r) (Some t) None ≡ cond r (cond k (Some t) None) None
both_known true r t = refl
both_known false true t = refl
both_known false false t = refl

-- what the regions show at p stays where a plain listen that is kept reaches p, and goes elsewhere
pub region_after : (registered kept : List Query) (b : Brought) (p : Path) → IsCalled b → do_plains_overlap kept ≡ false
    → region_part (regions_kept kept b.regions) p ≡ cond (reaches kept p) (region_part b.regions p) None
region_after registered kept b p h apart =
    let c = Recover registered kept in
    let now : after_all nothing_brought (h.calls ++ c ∷ []) ≡ after b c = fold_append after nothing_brought h.calls (c ∷ []) ∙ ap (λ x. after x c) h.left in
    let known : is_known (h.calls ++ c ∷ []) p ≡ (is_known h.calls p && reaches kept p) = fold_append (known_after p) false h.calls (c ∷ []) in
    let tree : pushed (h.calls ++ c ∷ []) ≡ pushed h.calls = fold_append with_push null h.calls (c ∷ []) in
    ap (λ (x : Brought). region_part x.regions p) (sym now)
    ∙ held_part (h.calls ++ c ∷ []) p (All-more IsAllowed h.calls c (allowed_each nothing_brought h.calls h.allowed) apart)
    ∙ (λ i. cond (known i) (Some (sub (tree i) p)) None)
    ∙ both_known (is_known h.calls p) (reaches kept p) (sub (pushed h.calls) p)
    ∙ ap (λ o. cond (reaches kept p) o None) (sym (held_part h.calls p (allowed_each nothing_brought h.calls h.allowed)) ∙ ap (λ (x : Brought). region_part x.regions p) h.left)
