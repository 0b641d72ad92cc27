-- A step changes the cover by its change of listeners.
use Rattle.std.proofs.Common.{◌≡◌, ℕ, ◌<◌, Bool, true, false, cond, not, ◌==◌, List, [], ◌∷◌, ◌++◌, length, refl, sym, ap, subst, ◌∙◌, arith, Option, Some, None, nat_lt, ltb-false, suc, slice_index_or}
use Rattle.std.specs.List.{filter, find, list_any, All, Contains}
use Rattle.std.specs.Option.{option_map, option_map_or}
use Rattle.std.proofs.lemmas.Bool.{le-ltb}
use Rattle.std.proofs.lemmas.List.Elements.{Contains-get_or}
use Rattle.rt_query.specs.Queries.{Query}
use Rattle.rt_query.specs.QueryEq.{query_eq}
use Rattle.rt_query.specs.Supply.{form}
use Rattle.rt_cover.specs.Cover.{Registered, Tagged}
use Rattle.rt_cover.specs.Runs.{Change, Add, Remove, Revoke, changed}
use Rattle.rt_cover.specs.State.{with_listener, without_listeners, with_listeners, without_form, left_after}
use Rattle.rt_cover.specs.laws.KeepLaws.{Contains-from_map, length_of_map}
use Rattle.rt_cover.specs.laws.Pairs.{filter_none, filter_all}
use Rattle.rt_world.specs.declared.step.Step.{Step}
use Rattle.rt_world.specs.World.{World, Listener, registered, pending}
use Rattle.rt_world.specs.steps.Revoking.{is_cancelled}
use Rattle.rt_world.specs.After.{kind, listeners_after, requests_after, brought_after, started_by}
use Rattle.rt_world.specs.Messages.{next}
use Rattle.rt_world.specs.Sound.{IsSound}
use Rattle.rt_world.specs.Covering.{cover_in, cover_after}
use Rattle.rt_world.specs.steps.Closing.{numbers_of}
use Rattle.rt_world.proofs.KindLaws.{first_seen, Listening, still, adding, removing, revoking, IsAdding, IsEnding, IsRevoking, orderly, one_ends, seat_ends}
use Rattle.rt_world.proofs.Listeners.{registered-renewed}
use Rattle.rt_world.proofs.ShowLaws.{filter_true}
use Rattle.rt_world.proofs.HeardLaws.{map-append, kept-same, started-same}

-- the registered ones of those listeners that pass
registered-filter : (p : Listener → Bool) (q : Registered → Bool) (ls : List Listener) → ((l : Listener) → Contains ls l → p l ≡ q (l.number, form l.query)) → registered (filter p ls) ≡ filter q (registered ls)
registered-filter p q [] h = refl
registered-filter p q (l ∷ ls) h =
    let rest = registered-filter p q ls (λ m c. h m (suc c.0, omega (arith, c.1), c.2)) in
    at (p l) (h l (0, omega arith, refl)) rest
  where
    at : (b : Bool) → b ≡ q (l.number, form l.query) → registered (filter p ls) ≡ filter q (registered ls) → registered (cond b (l ∷ filter p ls) (filter p ls)) ≡ cond (q (l.number, form l.query)) ((l.number, form l.query) ∷ filter q (registered ls)) (filter q (registered ls))
    at true e rest = ap (λ z. (l.number, form l.query) ∷ z) rest ∙ ap (λ b. cond b ((l.number, form l.query) ∷ filter q (registered ls)) (filter q (registered ls))) e
    at false e rest = rest ∙ ap (λ b. cond b ((l.number, form l.query) ∷ filter q (registered ls)) (filter q (registered ls))) e

pub one_more : (w : World) (q : Query) → IsSound w → registered w.listeners ++ (w.next_listener, q) ∷ [] ≡ with_listener (registered w.listeners) w.next_listener q
one_more w q h = λ i. sym (filter_all (λ (l : Registered). nat_lt l.0 w.next_listener) rs low) i ++ (w.next_listener, q) ∷ sym (filter_none (λ (l : Registered). nat_lt w.next_listener l.0) rs high) i
  where
    rs : List Registered
    rs = registered w.listeners

    below : All (λ (l : Registered). l.0 < w.next_listener) rs
    below k d lt =
        let m = Contains-get_or rs k d lt in
        let x = Contains-from_map (λ (l : Listener). (l.number, form l.query)) w.listeners m.0 (slice_index_or rs k d) (subst (λ n. m.0 < n) (length_of_map (λ (l : Listener). (l.number, form l.query)) w.listeners) m.1) m.2 in
        subst (λ (r : Registered). r.0 < w.next_listener) x.2 (at x.0 x.1)
      where
        at : (l : Listener) → Contains w.listeners l → l.number < w.next_listener
        at l c = subst (λ (y : Listener). y.number < w.next_listener) c.2 (h.below c.0 l c.1)

    low : All (λ (l : Registered). nat_lt l.0 w.next_listener ≡ true) rs
    low k d lt = let b = below k d lt in yes (slice_index_or rs k d).0 w.next_listener b
      where
        yes : (m n : ℕ) → m < n → nat_lt m n ≡ true
        yes m n b = at (nat_lt m n) refl
          where
            at : (c : Bool) → nat_lt m n ≡ c → nat_lt m n ≡ true
            at true e = e
            at false e = absurd (omega (arith, b, ltb-false m n e))

    high : All (λ (l : Registered). nat_lt w.next_listener l.0 ≡ false) rs
    high k d lt = let b = below k d lt in le-ltb w.next_listener (slice_index_or rs k d).0 (omega (arith, b))

pub revoked_left : (w : World) (tag : ℕ) → registered (filter (λ l. not (is_cancelled w tag l)) w.listeners) ≡ left_after (cover_in w) tag
revoked_left w tag = at (find (λ (k : Tagged). k.tag == tag) w.kept)
  where
    at : (o : Option Tagged) → registered (filter (λ l. not (option_map_or (query_eq (form l.query)) (option_map (λ (k : Tagged). k.form) o) false)) w.listeners)
        ≡ option_map_or (λ (k : Tagged). without_form (registered w.listeners) k.form) o (registered w.listeners)
    at None = ap registered (filter_true w.listeners)
    at (Some k) = registered-filter (λ l. not (query_eq (form l.query) k.form)) (λ (l : Registered). not (query_eq l.1 k.form)) w.listeners (λ l c. refl)

-- those that stay where some numbers end
numbered : (stays : Listener → Bool) (numbers : List ℕ) (ls : List Listener) → ((l : Listener) → Contains ls l → stays l ≡ not (list_any (λ n. n == l.number) numbers))
    → registered (filter stays ls) ≡ without_listeners (registered ls) numbers
numbered stays numbers ls h = registered-filter stays (λ (l : Registered). not (list_any (λ n. n == l.0) numbers)) ls h

pub unlistened : (w : World) (n : ℕ) → registered (filter (λ l. not (l.number == n)) w.listeners) ≡ without_listeners (registered w.listeners) (n ∷ [])
unlistened w n = numbered (λ l. not (l.number == n)) (n ∷ []) w.listeners (λ l c. one_ends n l)

pub closed : (w : World) (seat : ℕ) → IsSound w → registered (filter (λ l. not (l.seat == seat)) w.listeners) ≡ without_listeners (registered w.listeners) (numbers_of w seat)
closed w seat h = numbered (λ l. not (l.seat == seat)) (numbers_of w seat) w.listeners (seat_ends w seat h)

-- ---- a step

pub registered_more : (w : World) (s : Step) → IsSound w → (x : IsAdding (kind s)) → registered (listeners_after w s) ≡ with_listener (registered w.listeners) w.next_listener (form x.query)
registered_more w s h x =
    ap registered (x.listeners w)
    ∙ map-append (λ (l : Listener). (l.number, form l.query)) w.listeners (first_seen w x.seat x.query ∷ [])
    ∙ one_more w (form x.query) h

pub registered_fewer : (w : World) (s : Step) → IsSound w → (x : IsEnding (kind s)) → registered (listeners_after w s) ≡ without_listeners (registered w.listeners) (x.numbers w)
registered_fewer w s h x = ap registered (x.listeners w) ∙ numbered (x.stays w) (x.numbers w) w.listeners (x.others w h)

pub registered_left : (w : World) (s : Step) → (x : IsRevoking (kind s)) → registered (listeners_after w s) ≡ left_after (cover_in w) x.tag
registered_left w s x = ap registered (x.listeners w) ∙ revoked_left w x.tag

by_listeners : (w : World) (s : Step) (ls : List Registered) → registered (listeners_after w s) ≡ ls → cover_in (next w s) ≡ with_listeners (cover_in w) ls
by_listeners w s ls e =
    ap (λ (rs : List Registered). record (cover_in (next w s)) { listeners = rs }) (registered-renewed (brought_after w s) (pending (requests_after w s)) (listeners_after w s))
    ∙ ap (with_listeners (cover_in w)) e

unchanged : (w : World) (s : Step) → IsSound w → listeners_after w s ≡ w.listeners → cover_in (next w s) ≡ cover_in w
unchanged w s h e =
    let none : length (started_by w s) ≡ 0 = ap length (started-same w s h e) in
    let tag : (next w s).next_tag ≡ w.next_tag = omega (arith, none) in
    let rs = registered-renewed (brought_after w s) (pending (requests_after w s)) (listeners_after w s) ∙ ap registered e in
    let kept = kept-same w s h e in
    λ i. record { listeners = rs i; kept = kept i; next_tag = tag i; last_tag = w.limits.last_number }

pub follows : (w : World) (s : Step) → IsSound w → cover_in (next w s) ≡ cover_after w s
follows w s h = at (orderly s).listeners
  where
    by : (o : Option (World → Change)) → (kind s).change ≡ o → option_map_or (changed (cover_in w)) (option_map (λ (c : World → Change). c w) o) (cover_in w) ≡ cover_after w s
    by o e = ap (λ x. option_map_or (changed (cover_in w)) (option_map (λ (c : World → Change). c w) x) (cover_in w)) (sym e)

    at : Listening (kind s) → cover_in (next w s) ≡ cover_after w s
    at (still x) = unchanged w s h (x.listeners w) ∙ by None x.change
    at (adding x) = by_listeners w s _ (registered_more w s h x) ∙ by (Some (λ v. Add v.next_listener x.query)) x.change
    at (removing x) = by_listeners w s _ (registered_fewer w s h x) ∙ by (Some (λ v. Remove (x.numbers v))) x.change
    at (revoking x) = by_listeners w s _ (registered_left w s x) ∙ by (Some (λ v. Revoke x.tag)) x.change
