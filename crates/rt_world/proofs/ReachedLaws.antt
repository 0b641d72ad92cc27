-- What is brought is reached, and stays so: a change of cover that ends no listener leaves it as it is.
use Rattle.std.proofs.Common.{◌≡◌, true, false, List, [], ◌∷◌, ◌++◌, map, refl, sym, ap, subst, ◌∙◌, slice_index_or, Option, Some, None}
use Rattle.std.specs.List.{fold, All, Contains}
use Rattle.std.specs.Option.{option_map_or}
use Rattle.std.proofs.lemmas.List.Elements.{All-head, All-tail}
use Rattle.rt_tree.specs.PathTree.{Path, PathTree}
use Rattle.rt_tree.specs.Assignments.{Assignment}
use Rattle.rt_query.specs.Queries.{Query}
use Rattle.rt_query.specs.Supply.{form}
use Rattle.rt_cache.specs.Brought.{Window, Brought, push}
use Rattle.rt_cache.specs.Canonical.{IsCanonical}
use Rattle.rt_cache.specs.Recover.{reaches}
use Rattle.rt_cache.proofs.FilteredRuns.{calls_hold}
use Rattle.rt_cache.proofs.RecoverLaws.{nothing_lost, left_reached, left_registered, pushed_reached, pushed_registered}
use Rattle.rt_cover.specs.Cover.{Registered}
use Rattle.rt_world.specs.declared.step.Step.{Step}
use Rattle.rt_world.specs.World.{World, Listener, registered, listening, pending, listen_of}
use Rattle.rt_world.specs.After.{listeners_after, requests_after, listening_after, kept_after, part_pushed, pushed, brought_after, kind}
use Rattle.rt_world.specs.steps.Kind.{Part}
use Rattle.rt_world.specs.Refusals.{refusal}
use Rattle.rt_world.specs.Called.{IsCalled}
use Rattle.rt_world.specs.Reached.{IsReached}
use Rattle.rt_world.specs.Sound.{IsSound}
use Rattle.rt_world.specs.laws.World.{changes_listeners}
use Rattle.rt_world.specs.laws.Steps.{StaysReached, PushIsBrought, ListenBringsNothing}
use Rattle.rt_world.specs.laws.Made.{IsPushOn, IsPartOn}
use Rattle.rt_world.proofs.CalledLaws.{called_pushed}
use Rattle.rt_world.proofs.HeardLaws.{kept-same}
use Rattle.rt_world.proofs.KindLaws.{first_seen, is_still}
use Rattle.rt_world.proofs.Listeners.{registered-renewed}
use Rattle.rt_world.proofs.Reaching.{forms_kept, kept_of, kept_registered, listening_of, listening_still, reached_still, Contains-more}
use Rattle.rt_world.proofs.PartLaws.{parts_may_push}
use Rattle.rt_world.proofs.Putting.{parts_registered}

-- what calls leave is in order
pub canonical : (b : Brought) → IsCalled b → IsCanonical b
canonical b h = subst IsCanonical h.left (calls_hold h.calls h.allowed).0

-- a kept plain listen reaches each region, and each window is of a registered form
record AreReached (fs kept : List Query) (b : Brought) : Type 0 where
  regions : All (λ (r : Path × PathTree). reaches kept r.0 ≡ true) b.regions
  windows : All (λ (x : Query × Window). Contains fs x.0) b.windows

-- what is reached before the step
abbrev AreReachedIn : World → Brought → Type 0
AreReachedIn w b = AreReached (listening (registered w.listeners)) (forms_kept w.kept) b

-- what is reached after the step
abbrev AreReachedAfter : World → Step → Brought → Type 0
AreReachedAfter w s b = AreReached (listening_after w s) (forms_kept (kept_after w s)) b

-- ---- pushes

push_reached : (fs kept : List Query) (q : Query) → Contains fs q → Contains kept q → (entries : List Assignment) → All (IsPushOn q) entries → (b : Brought) → AreReached fs kept b → AreReached fs kept (fold (push q) b entries)
push_reached fs kept q mf mk [] on b h = h
push_reached fs kept q mf mk (a ∷ entries) on b h =
    push_reached fs kept q mf mk entries (All-tail (IsPushOn q) a entries on) (push q b a) (record {
      regions = pushed_reached kept q b a mk (All-head (IsPushOn q) a entries on).under h.regions;
      windows = pushed_registered fs q b a mf h.windows;
    })

-- a part, and parts one after another
part_reached : (w : World) (b : Brought) (p : Part) → IsSound w → AreReachedIn w b → IsPartOn w p → AreReachedIn w (part_pushed w b p)
part_reached w b p h old on = at (listen_of w p.0) refl
  where
    at : (o : Option Query) → listen_of w p.0 ≡ o → AreReachedIn w (option_map_or (λ q. fold (push q) b p.1) o b)
    at None e = old
    at (Some q) e =
        let m = kept_of w.kept p.0 q e in
        push_reached (listening (registered w.listeners)) (forms_kept w.kept) q (listening_of (registered w.listeners) q (kept_registered w h q m)) m p.1 (on q e) b old

parts_reached : (w : World) (parts : List Part) (b : Brought) → IsSound w → AreReachedIn w b → All (IsPartOn w) parts → AreReachedIn w (fold (part_pushed w) b parts)
parts_reached w [] b h old on = old
parts_reached w (p ∷ parts) b h old on =
    parts_reached w parts (part_pushed w b p) h (part_reached w b p h old (All-head (IsPartOn w) p parts on)) (All-tail (IsPartOn w) p parts on)

-- what is brought once the step's push is taken
pushed_still : (w : World) (s : Step) → IsSound w → IsReached w → refusal w s ≡ None → AreReachedIn w (pushed w s)
pushed_still w s h r free = parts_reached w (kind s).parts w.brought h (record { regions = r.regions; windows = r.windows }) (parts_may_push w s free)

-- ---- changes of cover

-- one that reaches all changes the registered forms alone
brings : (w : World) (s : Step) → IsCalled (pushed w s) → AreReachedAfter w s (pushed w s) → brought_after w s ≡ record (pushed w s) { registered = listening_after w s }
brings w s c r = nothing_lost (listening_after w s) (forms_kept (kept_after w s)) (pushed w s) (canonical (pushed w s) c) r.regions r.windows

pub still_listeners : (w : World) (s : Step) → changes_listeners s ≡ false → listeners_after w s ≡ w.listeners
still_listeners w s e = (is_still s e).listeners w

pub push_is_brought : PushIsBrought
push_is_brought w s h c r free e =
    let same = still_listeners w s e in
    let kept : AreReached (listening (registered w.listeners)) (forms_kept (kept_after w s)) (pushed w s) =
    subst (λ ks. AreReached (listening (registered w.listeners)) (forms_kept ks) (pushed w s)) (sym (kept-same w s h same)) (pushed_still w s h r free) in
    let fs : listening_after w s ≡ (pushed w s).registered =
    ap (λ (ls : List Listener). listening (registered ls)) same ∙ sym r.forms ∙ sym (parts_registered w w.brought (kind s).parts) in
    brings w s (called_pushed w h r s c free) (subst (λ (ls : List Listener). AreReached (listening (registered ls)) (forms_kept (kept_after w s)) (pushed w s)) (sym same) kept)
    ∙ (λ i. record (pushed w s) { registered = fs i })

-- ---- a form more

forms_end : (ls : List Listener) (l : Listener) → map (λ (r : Registered). r.1) (registered (ls ++ l ∷ [])) ≡ map (λ (r : Registered). r.1) (registered ls) ++ form l.query ∷ []
forms_end [] l = refl
forms_end (x ∷ ls) l = ap (λ fs. form x.query ∷ fs) (forms_end ls l)

pub listen_brings_nothing : ListenBringsNothing
listen_brings_nothing w seat query h c r =
    let s : Step = Step.Listen seat query in
    let stay : (l : Listener) → Contains w.listeners l → Contains (listeners_after w s) l = λ l m. Contains-more w.listeners (first_seen w seat query ∷ []) l m in
    let fs : listening_after w s ≡ (w.brought).registered ++ form query ∷ [] = forms_end w.listeners (first_seen w seat query) ∙ ap (λ gs. gs ++ form query ∷ []) (sym r.forms) in
    brings w s c (record {
      regions = λ k d lt. reached_still w s h stay (slice_index_or (w.brought).regions k d).0 (r.regions k d lt);
      windows = λ k d lt. listening_still w s stay (slice_index_or (w.brought).windows k d).0 (r.windows k d lt);
    })
    ∙ (λ i. record w.brought { registered = fs i })

-- ---- after a step

pub stays_reached : StaysReached
stays_reached w s =
    let fs = listening_after w s in
    let kept = forms_kept (kept_after w s) in
    record {
      forms = ap listening (sym (registered-renewed (brought_after w s) (pending (requests_after w s)) (listeners_after w s)));
      regions = left_reached fs kept (pushed w s);
      windows = subst (λ (rs : List Registered). All (λ (x : Query × Window). Contains (listening rs) x.0) (brought_after w s).windows)
          (sym (registered-renewed (brought_after w s) (pending (requests_after w s)) (listeners_after w s))) (left_registered fs kept (pushed w s));
    }
