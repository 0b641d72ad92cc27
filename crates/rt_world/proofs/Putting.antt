-- On which listens a push may be put, and that pushes leave the registered forms.
use Rattle.std.proofs.Common.{◌≡◌, Bool, true, false, not, ◌&&◌, List, [], ◌∷◌, refl, sym, ap, subst, ◌∙◌, Some, None}
use mathlib.Core.Bool.{true≢false}
use Rattle.std.specs.List.{fold, list_any, Contains}
use Rattle.std.specs.Option.{option_map_or}
use Rattle.std.proofs.lemmas.List.Elements.{All-contains}
use Rattle.std.proofs.lemmas.List.Folds.{Any-from_list_any, list_any_at}
use Rattle.rt_tree.specs.Assignments.{Assignment}
use Rattle.rt_tree.specs.TreeEq.{both}
use Rattle.rt_query.specs.Queries.{Query}
use Rattle.rt_query.specs.QueryEq.{query_eq}
use Rattle.rt_query.specs.Supply.{does_supply}
use Rattle.rt_query.specs.laws.QueryEq.{query_eq_tells}
use Rattle.rt_cache.specs.Brought.{Brought, may_put, push}
use Rattle.rt_cache.proofs.Belonging.{push_registered}
use Rattle.rt_cover.specs.Cover.{Registered, forms, needed}
use Rattle.rt_cover.specs.laws.CoverLaws.{Contains-from_filter, passes-from_filter, is_covered}
use Rattle.rt_world.specs.World.{World, registered, listening, listen_of}
use Rattle.rt_world.specs.After.{part_pushed}
use Rattle.rt_world.specs.steps.Kind.{Part}
use Rattle.rt_world.specs.laws.Steps.{KeptMayBePut}
use Rattle.rt_world.proofs.Reaching.{forms_kept, kept_of, listening_of, form_listened}

-- pushes leave these
pub entries_registered : (q : Query) (b : Brought) (entries : List Assignment) → (fold (push q) b entries).registered ≡ b.registered
entries_registered q b [] = refl
entries_registered q b (a ∷ entries) = entries_registered q (push q b a) entries ∙ push_registered q b a

pub parts_registered : (w : World) (b : Brought) (parts : List Part) → (fold (part_pushed w) b parts).registered ≡ b.registered
parts_registered w b [] = refl
parts_registered w b (p ∷ parts) = parts_registered w (part_pushed w b p) parts
    ∙ elim (listen_of w p.0) as (λ o. (option_map_or (λ q. fold (push q) b p.1) o b).registered ≡ b.registered) [
      | None ↦ refl
      | Some q ↦ entries_registered q b p.1
    ]

-- ---- listens that are kept

pub kept_may_be_put : KeptMayBePut
kept_may_be_put w tag q h r e =
    let rs : List Registered = registered w.listeners in
    let m : Contains (needed (forms rs)) q = All-contains (Contains (needed (forms rs))) (forms_kept w.kept) q (h.listens).only (kept_of w.kept tag q e) in
    let there : Contains (listening rs) q = listening_of rs q (Contains-from_filter (λ f. not (is_covered (forms rs) f)) (forms rs) q m) in
    let one : list_any (λ f. query_eq f q) (listening rs) ≡ true = list_any_at (λ f. query_eq f q) (listening rs) there.0 q there.1 (ap (λ f. query_eq f q) there.2 ∙ (query_eq_tells q q).1 refl) in
    let free : not (is_covered (forms rs) q) ≡ true = passes-from_filter (λ f. not (is_covered (forms rs) f)) (forms rs) q m in
    subst (λ gs. (list_any (λ f. query_eq f q) gs && not (list_any (λ f. not (query_eq f q) && does_supply f q) gs)) ≡ true) (sym r.forms) (both _ _ one (uncovered rs (is_covered (listening rs) q) refl free))
  where
    -- what supplies it is one of the forms
    uncovered : (rs : List Registered) (b : Bool) → is_covered (listening rs) q ≡ b → not (is_covered (forms rs) q) ≡ true → not (is_covered (listening rs) q) ≡ true
    uncovered rs false t free = ap not t
    uncovered rs true t free =
        let a = Any-from_list_any (λ (f : Query). not (query_eq f q) && does_supply f q) (listening rs) t in
        let m = form_listened rs a.1 (a.0, a.2, a.3) in
        let covered : is_covered (forms rs) q ≡ true = list_any_at (λ (f : Query). not (query_eq f q) && does_supply f q) (forms rs) m.0 a.1 m.1 (ap (λ (f : Query). not (query_eq f q) && does_supply f q) m.2 ∙ a.4) in
        absurd (true≢false (sym free ∙ ap not covered))

-- so it is where as many forms are registered
pub may_put_same : (b c : Brought) (q : Query) → b.registered ≡ c.registered → may_put c q ≡ true → may_put b q ≡ true
may_put_same b c q e may = ap (λ fs. list_any (λ (f : Query). query_eq f q) fs && not (list_any (λ (f : Query). not (query_eq f q) && does_supply f q) fs)) e ∙ may
