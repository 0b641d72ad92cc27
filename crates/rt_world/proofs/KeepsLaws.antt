-- Which listens a step begins and ends, and under which tags.
use Rattle.std.proofs.Common.{◌≡◌, ℕ, ◌+◌, ◌<◌, ◌≤◌, Bool, false, not, List, [], ◌++◌, map, length, refl, sym, ap, subst, ◌∙◌, inl, inr, arith, slice_index_or, None}
use Rattle.std.specs.List.{filter, list_any, enumerate_from, All, AllPairs, Contains}
use Rattle.std.proofs.lemmas.List.Elements.{All-contains, All-map, Contains-append_right, Contains-get_or, filter-append, filter_passes}
use Rattle.std.proofs.lemmas.List.Folds.{list_any_at}
use Rattle.rt_query.specs.Queries.{Query}
use Rattle.rt_query.specs.QueryEq.{query_eq}
use Rattle.rt_query.specs.laws.QueryEq.{query_eq_tells}
use Rattle.rt_cover.specs.Cover.{Registered, Tagged, needed, is_kept, started, kept_for}
use Rattle.rt_cover.specs.State.{shown_with, beyond}
use Rattle.rt_cover.specs.declared.listen.Kept.{Kept}
use Rattle.rt_cover.specs.laws.CoverLaws.{Contains-from_filter}
use Rattle.rt_cover.specs.laws.FormLaws.{same_tests}
use Rattle.rt_cover.specs.laws.KeepLaws as keep
use Rattle.rt_cover.specs.laws.Pairs.{filter_agreeing, filter_all, filter_none}
use Rattle.rt_cover.specs.laws.SoundLaws.{starts, is_told}
use Rattle.rt_world.specs.declared.step.Step.{Step}
use Rattle.rt_world.specs.World.{World, registered, pending}
use Rattle.rt_world.specs.After.{listeners_after, requests_after, brought_after, renewed_after, forms_after, kept_after, started_by}
use Rattle.rt_world.specs.Messages.{next}
use Rattle.rt_world.specs.Refusals.{refusal}
use Rattle.rt_world.specs.Limited.{IsAllowed}
use Rattle.rt_world.specs.Sound.{cover_of, IsSound}
use Rattle.rt_world.specs.Headline.{Keeps}
use Rattle.rt_world.proofs.Listeners.{registered-renewed}
use Rattle.rt_world.proofs.HeardLaws.{map-append, stays}
use Rattle.rt_world.proofs.LimitLaws.{allowed, has_tags}
use Rattle.rt_world.proofs.SoundLaws.{sound_next}

-- those that are kept after it and not before are those that it starts
pub begun_are : (w : World) (s : Step) → IsSound w → beyond (kept_after w s) w.kept ≡ started_by w s
begun_are w s h = starts (cover_of w) (registered (listeners_after w s)) h.listens

-- what is kept for some forms is kept for the forms that are kept then
kept_again : (n : ℕ) (kept : List Tagged) (fs : List Query) → kept_for n kept fs ≡ kept_for n kept (map (λ k. k.form) (kept_for n kept fs))
kept_again n kept fs = λ i. sym stay i ++ map (λ (x : ℕ × Query). record { tag = x.0; form = x.1 }) (enumerate_from n (sym new i))
  where
    lasts : Tagged → Bool
    lasts k = list_any (query_eq k.form) fs

    is_new : Query → Bool
    is_new f = not (is_kept kept f)

    held : List Query
    held = map (λ (k : Tagged). k.form) (kept_for n kept fs)

    one : (f : Query) → list_any (query_eq f) held ≡ list_any (query_eq f) fs
    one f = same_tests (list_any (query_eq f) held) (list_any (query_eq f) fs)
        (λ e. keep.test-from_Contains f fs (All-contains (Contains fs) held f (keep.kept_for_needed n kept fs) (keep.Contains-from_test f held e)))
        (λ e. keep.test-from_Contains f held (All-contains (Contains held) fs f (keep.needed_kept_for n kept fs) (keep.Contains-from_test f fs e)))

    stay : filter (λ k. list_any (query_eq k.form) held) kept ≡ filter lasts kept
    stay = filter_agreeing (λ (k : Tagged). list_any (query_eq k.form) held) lasts kept (λ i d lt. one (slice_index_or kept i d).form)

    old : filter is_new (map (λ (k : Tagged). k.form) (filter lasts kept)) ≡ []
    old = filter_none is_new (map (λ (k : Tagged). k.form) (filter lasts kept))
        (All-map (λ f. is_new f ≡ false) (λ (k : Tagged). k.form) (filter lasts kept) (λ i d lt.
        let k : Tagged = slice_index_or (filter lasts kept) i d in
        let a = Contains-from_filter lasts kept k (Contains-get_or (filter lasts kept) i d lt) in
        ap not (list_any_at (λ (j : Tagged). query_eq j.form k.form) kept a.0 k a.1
        (ap (λ (j : Tagged). query_eq j.form k.form) a.2 ∙ (query_eq_tells k.form k.form).1 refl))))

    new : filter is_new held ≡ filter is_new fs
    new =
        ap (filter is_new) (map-append (λ (k : Tagged). k.form) (filter lasts kept) (started n kept fs))
        ∙ filter-append is_new (map (λ (k : Tagged). k.form) (filter lasts kept)) (map (λ (k : Tagged). k.form) (started n kept fs))
        ∙ (λ i. old i ++ filter is_new (keep.forms-started n (filter is_new fs) i))
        ∙ filter_all is_new (filter is_new fs) (filter_passes is_new fs)

none_above : (w : World) (s : Step) → IsSound w → IsAllowed w s → All (λ (k : Tagged). k.tag ≤ w.limits.last_number) (started_by w s)
none_above w s h a = elim (has_tags w s h a) [
  | inl none ↦ λ i d lt. absurd (omega (arith, lt, ap length none))
  | inr room ↦ λ i d lt.
      let k : Tagged = slice_index_or (started_by w s) i d in
      let m = Contains-append_right (filter (stays w s) w.kept) (started_by w s) k (Contains-get_or (started_by w s) i d lt) in
      let low : k.tag < w.next_tag + length (started_by w s) =
      All-contains (λ (x : Tagged). x.tag < w.next_tag + length (started_by w s)) (kept_after w s) k ((sound_next w s h).listens).below m in
      omega (arith, low, room)
]

-- what starts is in order of its listeners
in_order : (w : World) (s : Step) → IsSound w
    → AllPairs (λ (j k : Kept). j.listener < k.listener) (map (shown_with (registered (renewed_after w s))) (beyond (kept_after w s) w.kept))
in_order w s h =
    let same : registered (renewed_after w s) ≡ registered (listeners_after w s) = registered-renewed (brought_after w s) (pending (requests_after w s)) (listeners_after w s) in
    subst (λ (rs : List Registered). AllPairs (λ (j k : Kept). j.listener < k.listener) (map (shown_with rs) (beyond (kept_after w s) w.kept))) (sym same)
    (is_told (cover_of w) (registered (listeners_after w s)) h.listens
    (subst (AllPairs (λ (l m : Registered). l.0 < m.0)) same ((sound_next w s h).listens).listeners)).by_listener

pub keeps : (w : World) (s : Step) → IsSound w → refusal w s ≡ None → Keeps w (next w s)
keeps w s h r =
    let are = begun_are w s h in
    record {
      kept = kept_again w.next_tag w.kept (needed (forms_after w s));
      order = in_order w s h;
      last = subst (All (λ (k : Tagged). k.tag ≤ w.limits.last_number)) (sym are) (none_above w s h (allowed w s r));
      next = ap (λ ks. w.next_tag + length ks) (sym are);
    }
