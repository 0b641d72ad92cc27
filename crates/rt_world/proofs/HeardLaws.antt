-- What the server heard of is what is kept.
use Rattle.std.proofs.Common.{◌≡◌, ℕ, zero, suc, ◌+◌, ◌<◌, ◌≤◌, Bool, true, false, cond, not, ◌&&◌, ◌||◌, ◌==◌, List, [], ◌∷◌, ◌++◌, map, length, refl, sym, ap, subst, ◌∙◌, append-nil, append_assoc, arith, slice_index_or, inl, inr, Option, Some, None, is_none, is_some}
use mathlib.Core.Bool.{true≢false}
use Rattle.std.specs.Cmp.{nat_eq_equiv}
use Rattle.std.specs.List.{filter, fold, find, list_any, enumerate_from, All, Contains}
use Rattle.std.specs.Option.{option_map, option_map_or}
use Rattle.std.proofs.lemmas.List.Elements.{All-contains, Contains-get_or, filter-append}
use Rattle.std.proofs.lemmas.List.Folds.{Any-from_list_any, list_any_at, list_any_none}
use Rattle.rt_query.specs.Queries.{Query}
use Rattle.rt_query.specs.QueryEq.{query_eq}
use Rattle.rt_query.specs.Supply.{form}
use Rattle.rt_query.specs.laws.QueryEq.{query_eq_tells}
use Rattle.rt_cover.specs.Cover.{Registered, Tagged, forms, needed, is_kept, started, kept_for}
use Rattle.rt_cover.specs.State.{beyond}
use Rattle.rt_cover.specs.laws.CoverLaws.{Contains-filter, Contains-from_filter, passes-from_filter, is_covered}
use Rattle.rt_cover.specs.laws.KeepLaws.{Contains-from_map, length_of_map, Contains-from_test, test-from_Contains}
use Rattle.rt_cover.specs.laws.Pairs.{AllPairs-three, filter_all, filter_agreeing}
use Rattle.rt_cover.specs.laws.ShownLaws.{found}
use Rattle.rt_cover.specs.laws.SoundLaws.{stops}
use Rattle.rt_world.specs.declared.error.CoreError.{CoreError}
use Rattle.rt_world.specs.declared.error.CoreError.TheVariants.{AlreadyConnected}
use Rattle.rt_wire.specs.declared.client.ClientMessage.{ClientMessage}
use Rattle.rt_wire.specs.declared.request.Asked.{Asked}
use Rattle.rt_world.specs.declared.step.Request.{Request}
use Rattle.rt_world.specs.declared.step.Step.{Step}
use Rattle.rt_world.specs.World.{Reason, World, Listener, registered, listen_of}
use Rattle.rt_world.specs.After.{kind, listeners_after, forms_after, kept_after, started_by}
use Rattle.rt_world.specs.steps.Revoking.{is_cancelled}
use Rattle.rt_world.specs.Messages.{unrevoked, stopped_by, greeting, listens, unlistens, request_message, request_sent, messages_online, messages_of, kept_before, heard_by, next}
use Rattle.rt_world.specs.Refusals.{is_done}
use Rattle.rt_world.specs.Answers.{step_by}
use Rattle.rt_world.specs.Runs.{Event, Opened, Made, Ended, events_before, heard_after}
use Rattle.rt_world.specs.Sound.{cover_of, IsSound}
use Rattle.rt_world.proofs.KindLaws.{Listening, still, adding, removing, revoking, IsRevoking, orderly}
use Rattle.rt_world.proofs.Listeners.{same_number, other_number}
use Rattle.rt_world.proofs.ShowLaws.{filter_true}

-- ---- lists

-- a filter of a filter keeps what passes both
filter-filter : {X : Type 0} (p q : X → Bool) (xs : List X) → filter p (filter q xs) ≡ filter (λ x. q x && p x) xs
filter-filter p q [] = refl
filter-filter p q (x ∷ xs) =
    elim (q x) as (λ b. filter p (cond b (x ∷ filter q xs) (filter q xs)) ≡ cond (b && p x) (x ∷ filter (λ y. q y && p y) xs) (filter (λ y. q y && p y) xs)) [
      | true ↦ ap (λ z. cond (p x) (x ∷ z) z) (filter-filter p q xs)
      | false ↦ filter-filter p q xs
    ]

pub map-append : {X Y : Type 0} (f : X → Y) (xs ys : List X) → map f (xs ++ ys) ≡ map f xs ++ map f ys
map-append f [] ys = refl
map-append f (x ∷ xs) ys = ap (λ z. f x ∷ z) (map-append f xs ys)

pub fold-append : (c : List Tagged) (xs ys : List Event) → fold heard_after c (xs ++ ys) ≡ fold heard_after (fold heard_after c xs) ys
fold-append c [] ys = refl
fold-append c (x ∷ xs) ys = fold-append (heard_after c x) xs ys

-- the one that passes is found
find_only : {X : Type 0} (p : X → Bool) (xs : List X) (x : X) → ((y : X) → Contains xs y → p y ≡ true → y ≡ x) → Contains xs x → p x ≡ true → find p xs ≡ Some x
find_only p [] x only m e = absurd (omega (arith, m.1))
find_only p (y ∷ xs) x only m e =
    elim (p y) as (λ b. p y ≡ b → cond b (Some y) (find p xs) ≡ Some x) [
      | true ↦ λ t. ap Some (only y (0, omega arith, refl) t)
      | false ↦ λ t. find_only p xs x (λ z n. only z (suc n.0, omega (arith, n.1), n.2)) (later m.0 m.1 m.2 t) e
    ] refl
  where
    later : (k : ℕ) → k < length (y ∷ xs) → slice_index_or (y ∷ xs) k x ≡ x → p y ≡ false → Contains xs x
    later zero lt s t = absurd (true≢false (sym e ∙ ap p (sym s) ∙ t))
    later (suc k) lt s t = (k, omega arith, s)

-- ---- tags

-- two listens of one tag are one
one_tag : (w : World) → IsSound w → (j k : Tagged) → Contains w.kept j → Contains w.kept k → j.tag ≡ k.tag → j ≡ k
one_tag w h j k mj mk e = elim (AllPairs-three (λ (x y : Tagged). x.tag < y.tag) w.kept j k (h.listens).tags mj mk) [
  | inl lt ↦ absurd (omega (arith, lt, e))
  | inr more ↦ elim more [ inl gt ↦ absurd (omega (arith, gt, e)) | inr eq ↦ eq ]
]

-- a started listen has a tag from the next one on
started_from : (n : ℕ) (fs : List Query) → All (λ (k : Tagged). n ≤ k.tag) (map (λ (x : ℕ × Query). record { tag = x.0; form = x.1 }) (enumerate_from n fs))
started_from n [] i d lt = absurd (omega arith)
started_from n (f ∷ fs) zero d lt = omega arith
started_from n (f ∷ fs) (suc i) d lt = omega (arith, started_from (n + 1) fs i d (omega arith))

-- ---- what the server heard

-- the messages that begin the listens add them
pub heard-listens : (kept c : List Tagged) → fold heard_after c (map Made (listens kept)) ≡ c ++ kept
heard-listens [] c = sym (append-nil c)
heard-listens (k ∷ kept) c = heard-listens kept (c ++ record { tag = k.tag; form = k.form } ∷ []) ∙ append_assoc c (k ∷ []) kept

-- those that end listens take these out
heard-unlistens : (ended c : List Tagged) → fold heard_after c (map Made (unlistens ended)) ≡ filter (λ k. not (list_any (λ e. k.tag == e.tag) ended)) c
heard-unlistens [] c = sym (filter_true c)
heard-unlistens (e ∷ ended) c =
    heard-unlistens ended (filter (λ k. not (k.tag == e.tag)) c)
    ∙ filter-filter (λ (k : Tagged). not (list_any (λ (x : Tagged). k.tag == x.tag) ended)) (λ k. not (k.tag == e.tag)) c
    ∙ filter_agreeing _ _ c (λ i d lt. neither ((slice_index_or c i d).tag == e.tag) _)
  where
    neither : (a b : Bool) → (not a && not b) ≡ not (a || b)
    neither true b = refl
    neither false b = refl

heard-requests : (c : List Tagged) (rs : List Request) → fold heard_after c (map Made (map request_message rs)) ≡ c
heard-requests c [] = refl
heard-requests c (r ∷ rs) = heard-requests c rs

heard-asked : (c : List Tagged) (n : ℕ) (o : Option (ℕ × Asked)) → fold heard_after c (map Made (option_map_or (λ asked. ClientMessage.Ask n asked.1 ∷ []) o [])) ≡ c
heard-asked c n None = refl
heard-asked c n (Some asked) = refl

-- whether a listen stays
abbrev pub stays : World → Step → Tagged → Bool
stays w s k = list_any (query_eq k.form) (needed (forms_after w s))

-- of the kept listens those stay that are neither revoked, by their tag, nor told to stop
gone_exactly : (w : World) (s : Step) (test : ℕ → Bool) → IsSound w → ((k : Tagged) → Contains w.kept k → test k.tag ≡ true → stays w s k ≡ false)
    → (k : Tagged) → Contains w.kept k
    → (not (test k.tag) && not (list_any (λ e. k.tag == e.tag) (filter (λ x. not (test x.tag)) (filter (λ x. not (stays w s x)) w.kept)))) ≡ stays w s k
gone_exactly w s test h dropped k m =
    elim (test k.tag) as (λ b. test k.tag ≡ b → (not b && not (list_any (λ e. k.tag == e.tag) ended)) ≡ stays w s k) [
      | true ↦ λ t. sym (dropped k m t)
      | false ↦ λ t. elim (stays w s k) as (λ b. stays w s k ≡ b → not (list_any (λ e. k.tag == e.tag) ended) ≡ b) [
        | true ↦ λ e. elim (list_any (λ e. k.tag == e.tag) ended) as (λ b. list_any (λ e. k.tag == e.tag) ended ≡ b → not b ≡ true) [
          | true ↦ λ f.
              let a = Any-from_list_any (λ (x : Tagged). k.tag == x.tag) ended f in
              let there : Contains ended a.1 = (a.0, a.2, a.3) in
              let in_gone = Contains-from_filter (λ (x : Tagged). not (test x.tag)) (filter (λ x. not (stays w s x)) w.kept) a.1 there in
              let same : k ≡ a.1 = one_tag w h k a.1 m (Contains-from_filter (λ x. not (stays w s x)) w.kept a.1 in_gone) (same_number k.tag (a.1).tag a.4) in
              absurd (true≢false (sym (passes-from_filter (λ x. not (stays w s x)) w.kept a.1 in_gone) ∙ ap (λ x. not (stays w s x)) (sym same) ∙ ap not e))
          | false ↦ λ f. refl
        ] refl
        | false ↦ λ e.
            let a = Contains-filter (λ (x : Tagged). not (test x.tag)) (filter (λ x. not (stays w s x)) w.kept) k (Contains-filter (λ x. not (stays w s x)) w.kept k m (ap not e)) (ap not t) in
            ap not (list_any_at (λ (x : Tagged). k.tag == x.tag) ended a.0 k a.1 (ap (λ (x : Tagged). k.tag == x.tag) a.2 ∙ nat_eq_equiv.refl k.tag))
      ] refl
    ] refl
  where
    ended : List Tagged
    ended = filter (λ x. not (test x.tag)) (filter (λ x. not (stays w s x)) w.kept)

-- to hear of what starts and then of what stops is to keep what is needed
heard-change : (w : World) (s : Step) (test : ℕ → Bool) → IsSound w → ((k : Tagged) → Contains w.kept k → test k.tag ≡ true → stays w s k ≡ false)
    → fold heard_after (filter (λ k. not (test k.tag)) w.kept) (map Made (listens (started_by w s) ++ unlistens (filter (λ x. not (test x.tag)) (filter (λ x. not (stays w s x)) w.kept)))) ≡ kept_after w s
heard-change w s test h dropped =
    ap (fold heard_after left) (map-append Made (listens new) (unlistens ended))
    ∙ fold-append left (map Made (listens new)) (map Made (unlistens ended))
    ∙ ap (λ c. fold heard_after c (map Made (unlistens ended))) (heard-listens new left)
    ∙ heard-unlistens ended (left ++ new)
    ∙ filter-append p left new
    ∙ (λ i. old i ++ filter_all p new fresh i)
  where
    left : List Tagged
    left = filter (λ k. not (test k.tag)) w.kept

    new : List Tagged
    new = started_by w s

    ended : List Tagged
    ended = filter (λ x. not (test x.tag)) (filter (λ x. not (stays w s x)) w.kept)

    p : Tagged → Bool
    p k = not (list_any (λ e. k.tag == e.tag) ended)

    old : filter p left ≡ filter (stays w s) w.kept
    old = filter-filter p (λ k. not (test k.tag)) w.kept
        ∙ filter_agreeing (λ (k : Tagged). not (test k.tag) && p k) (stays w s) w.kept (λ i d lt. gone_exactly w s test h dropped (slice_index_or w.kept i d) (Contains-get_or w.kept i d lt))

    low : (k : Tagged) → Contains ended k → k.tag < w.next_tag
    low k m = All-contains (λ (x : Tagged). x.tag < w.next_tag) w.kept k (h.listens).below
        (Contains-from_filter (λ x. not (stays w s x)) w.kept k (Contains-from_filter (λ (x : Tagged). not (test x.tag)) (filter (λ x. not (stays w s x)) w.kept) k m))

    fresh : All (λ (k : Tagged). p k ≡ true) new
    fresh i d lt = ap not (list_any_none (λ e. (slice_index_or new i d).tag == e.tag) ended (λ j x l.
        let below = low (slice_index_or ended j x) (Contains-get_or ended j x l) in
        let above = started_from w.next_tag (filter (λ f. not (is_kept w.kept f)) (needed (forms_after w s))) i d lt in
        other_number (slice_index_or new i d).tag (slice_index_or ended j x).tag (λ e. omega (arith, below, above, e))))

-- the listens that stop are those that do not stay
pub stopped_are : (w : World) (s : Step) → IsSound w → beyond w.kept (kept_after w s) ≡ filter (λ x. not (stays w s x)) w.kept
stopped_are w s h = stops (cover_of w) (registered (listeners_after w s)) h.listens

-- what a step sends while connected
heard-online : (w : World) (s : Step) (test : ℕ → Bool) → IsSound w → ((k : Tagged) → Contains w.kept k → test k.tag ≡ true → stays w s k ≡ false)
    → ((kept : List Tagged) → unrevoked s kept ≡ filter (λ k. not (test k.tag)) kept)
    → fold heard_after (unrevoked s w.kept) (map Made (messages_online w s)) ≡ kept_after w s
heard-online w s test h dropped is =
    ap (fold heard_after (unrevoked s w.kept)) (map-append Made (listens (started_by w s) ++ unlistens (stopped_by w s)) (request_sent w s))
    ∙ fold-append (unrevoked s w.kept) (map Made (listens (started_by w s) ++ unlistens (stopped_by w s))) (map Made (request_sent w s))
    ∙ heard-asked _ w.next_request (kind s).asked
    ∙ (λ i. fold heard_after (is w.kept i) (map Made (listens (started_by w s) ++ unlistens ((ap (unrevoked s) (stopped_are w s h) ∙ is (filter (λ x. not (stays w s x)) w.kept)) i))))
    ∙ heard-change w s test h dropped

-- what opening a connection sends
pub heard-opened : (w : World) (c : List Tagged) → fold heard_after c (Opened ∷ map Made (listens w.kept ++ map request_message w.requests)) ≡ w.kept
heard-opened w c =
    ap (fold heard_after []) (map-append Made (listens w.kept) (map request_message w.requests))
    ∙ fold-append [] (map Made (listens w.kept)) (map Made (map request_message w.requests))
    ∙ heard-requests _ w.requests
    ∙ heard-listens w.kept []

-- where the needed forms are kept already, nothing is new
started_for-same : (n : ℕ) (kept : List Tagged) (fs : List Query) → All (Contains (map (λ (k : Tagged). k.form) kept)) fs → started n kept fs ≡ []
started_for-same n kept fs all = ap (λ new. map (λ (x : ℕ × Query). record { tag = x.0; form = x.1 }) (enumerate_from n new)) nothing
  where
    none : {X : Type 0} (p : X → Bool) (xs : List X) → ((x : X) → Contains xs x → p x ≡ false) → filter p xs ≡ []
    none p [] h = refl
    none p (x ∷ xs) h =
        ap (λ b. cond b (x ∷ filter p xs) (filter p xs)) (h x (0, omega arith, refl)) ∙ none p xs (λ y m. h y (suc m.0, omega (arith, m.1), m.2))

    nothing : filter (λ f. not (is_kept kept f)) fs ≡ []
    nothing = none (λ f. not (is_kept kept f)) fs (λ f m.
        let a = All-contains (Contains (map (λ (k : Tagged). k.form) kept)) fs f all m in
        let x = Contains-from_map (λ (y : Tagged). y.form) kept a.0 f (subst (λ z. a.0 < z) (length_of_map (λ (y : Tagged). y.form) kept) a.1) a.2 in
        ap not (list_any_at (λ k. query_eq k.form f) kept (x.1).0 x.0 (x.1).1 (ap (λ (k : Tagged). query_eq k.form f) (x.1).2 ∙ (query_eq_tells (x.0).form f).1 x.2)))

-- where the forms are those of the kept listens, these stay as they are
kept_for-same : (n : ℕ) (kept : List Tagged) (fs : List Query) → All (Contains fs) (map (λ (k : Tagged). k.form) kept) → All (Contains (map (λ (k : Tagged). k.form) kept)) fs → kept_for n kept fs ≡ kept
kept_for-same n kept fs only all =
    (λ i. filter_all (λ k. list_any (query_eq k.form) fs) kept passes i ++ started_for-same n kept fs all i)
    ∙ append-nil kept
  where
    map_at : (xs : List Tagged) (k : ℕ) (d : Tagged) (x : Query) → k < length xs → slice_index_or (map (λ (y : Tagged). y.form) xs) k x ≡ (slice_index_or xs k d).form
    map_at [] k d x lt = absurd (omega arith)
    map_at (y ∷ xs) zero d x lt = refl
    map_at (y ∷ xs) (suc k) d x lt = map_at xs k d x (omega arith)

    passes : All (λ (k : Tagged). list_any (query_eq k.form) fs ≡ true) kept
    passes k d lt =
        test-from_Contains (slice_index_or kept k d).form fs
        (subst (Contains fs) (map_at kept k d d.form lt) (only k d.form (subst (λ n. k < n) (sym (length_of_map (λ (y : Tagged). y.form) kept)) lt)))

-- where the listeners stay, so do the listens
pub kept-same : (w : World) (s : Step) → IsSound w → listeners_after w s ≡ w.listeners → kept_after w s ≡ w.kept
kept-same w s h e =
    ap (λ ls. kept_for w.next_tag w.kept (needed (forms (registered ls)))) e
    ∙ kept_for-same w.next_tag w.kept (needed (forms (registered w.listeners))) (h.listens).only (h.listens).all

pub started-same : (w : World) (s : Step) → IsSound w → listeners_after w s ≡ w.listeners → started_by w s ≡ []
started-same w s h e =
    ap (λ ls. started w.next_tag w.kept (needed (forms (registered ls)))) e
    ∙ started_for-same w.next_tag w.kept (needed (forms (registered w.listeners))) (h.listens).all

-- messages are heard one after another
heard-messages : (c : List Tagged) (ms : List ClientMessage) → fold heard_after c (map Made ms) ≡ fold heard_by c ms
heard-messages c [] = refl
heard-messages c (m ∷ ms) = heard-messages (heard_by c m) ms

-- before them what the step is besides
heard-before : (s : Step) (c : List Tagged) → fold heard_after c (events_before s) ≡ kept_before s c
heard-before s c = at (kind s).opens (kind s).revoked (λ e. ((orderly s).opens e).0.revoked)
  where
    at : (opens : Bool) (o : Option (ℕ × Reason)) → (opens ≡ true → o ≡ None)
        → fold heard_after c (option_map_or (λ (r : ℕ × Reason). Ended r.0 ∷ []) o (cond opens (Opened ∷ []) []))
        ≡ cond opens [] (option_map_or (λ (r : ℕ × Reason). filter (λ (k : Tagged). not (k.tag == r.0)) c) o c)
    at true None h = refl
    at true (Some r) h = absurd (true≢false (ap is_some (h refl)))
    at false None h = refl
    at false (Some r) h = refl

-- a revoked listen does not stay: the listeners of its form end
revoked_goes : (w : World) (s : Step) (r : IsRevoking (kind s)) → IsSound w → (k : Tagged) → Contains w.kept k → (k.tag == r.tag) ≡ true → stays w s k ≡ false
revoked_goes w s r h k m e =
    elim (stays w s k) as (λ b. stays w s k ≡ b → b ≡ false) [
      | false ↦ λ f. refl
      | true ↦ λ f.
          let in_needed = Contains-from_test k.form (needed (forms_after w s)) f in
          let in_forms = Contains-from_filter (λ g. not (is_covered (forms_after w s) g)) (forms_after w s) k.form in_needed in
          let l = found (registered left) k.form in_forms in
          let x = Contains-from_map (λ (y : Listener). (y.number, form y.query)) left (l.1).0 l.0 (subst (λ z. (l.1).0 < z) (length_of_map (λ (y : Listener). (y.number, form y.query)) left) (l.1).1) (l.1).2 in
          let is_form : form (x.0).query ≡ k.form = ap (λ (z : Registered). z.1) x.2 ∙ l.2 in
          let stayed = passes-from_filter (λ y. not (is_cancelled w r.tag y)) w.listeners x.0 (subst (λ ls. Contains ls x.0) (r.listeners w) x.1) in
          absurd (true≢false (sym stayed ∙ ap not (ap (λ o. option_map_or (query_eq (form (x.0).query)) o false) revoked ∙ (query_eq_tells (form (x.0).query) k.form).1 is_form)))
    ] refl
  where
    left : List Listener
    left = listeners_after w s

    revoked : listen_of w r.tag ≡ Some k.form
    revoked = ap (option_map (λ (x : Tagged). x.form)) (find_only (λ (x : Tagged). x.tag == r.tag) w.kept k
        (λ y n f. one_tag w h y k n m (same_number y.tag r.tag f ∙ sym (same_number k.tag r.tag e))) m e)

-- which tags a step revokes: none of these listens stays
record Revokes (w : World) (s : Step) : Type 0 where
  test : ℕ → Bool
  gone : (k : Tagged) → Contains w.kept k → test k.tag ≡ true → stays w s k ≡ false
  is : (kept : List Tagged) → unrevoked s kept ≡ filter (λ k. not (test k.tag)) kept

revokes : (w : World) (s : Step) → IsSound w → Revokes w s
revokes w s h = at (orderly s).listeners
  where
    left : List Tagged → Option (ℕ × Reason) → List Tagged
    left kept o = option_map_or (λ (r : ℕ × Reason). filter (λ (k : Tagged). not (k.tag == r.0)) kept) o kept

    nothing : (kind s).revoked ≡ None → Revokes w s
    nothing e = record {
      test = λ n. false;
      gone = λ k m f. absurd (true≢false (sym f));
      is = λ kept. ap (left kept) e ∙ sym (filter_true kept);
    }

    at : Listening (kind s) → Revokes w s
    at (still x) = nothing x.revoked
    at (adding x) = nothing x.revoked
    at (removing x) = nothing x.revoked
    at (revoking x) = record { test = λ n. n == x.tag; gone = revoked_goes w s x h; is = λ kept. ap (left kept) x.revoked }

-- a step of a connection that goes on
heard-going : (w : World) (s : Step) (c : List Tagged) → IsSound w → (w.is_connected ≡ true → c ≡ w.kept) → (kind s).opens ≡ false → w.is_connected ≡ true
    → messages_of w s ≡ cond w.is_connected (messages_online w s) []
    → fold heard_after c (events_before s ++ map Made (messages_of w s)) ≡ kept_after w s
heard-going w s c h same o online messages =
    let r = revokes w s h in
    let before : fold heard_after w.kept (events_before s) ≡ unrevoked s w.kept = heard-before s w.kept ∙ ap (λ b. cond b [] (unrevoked s w.kept)) o in
    ap (λ z. fold heard_after z (events_before s ++ map Made (messages_of w s))) (same online)
    ∙ fold-append w.kept (events_before s) (map Made (messages_of w s))
    ∙ (λ i. fold heard_after (before i) (map Made ((messages ∙ ap (λ b. cond b (messages_online w s) []) online) i)))
    ∙ heard-online w s r.test h r.gone r.is

pub heard-done : (w : World) (s : Step) (c : List Tagged) → IsSound w → (w.is_connected ≡ true → c ≡ w.kept) → (next w s).is_connected ≡ true
    → fold heard_after c (events_before s ++ map Made (messages_of w s)) ≡ kept_after w s
heard-done w s c h same online = at (kind s).opens (kind s).closes refl refl
  where
    rest : Bool → List ClientMessage
    rest closes = cond closes [] (cond w.is_connected (messages_online w s) [])

    opening : (kind s).opens ≡ true → fold heard_after c (events_before s ++ map Made (messages_of w s)) ≡ kept_after w s
    opening o =
        let x = ((orderly s).opens o).0 in
        let before : events_before s ≡ Opened ∷ [] = λ i. option_map_or (λ (r : ℕ × Reason). Ended r.0 ∷ []) (x.revoked i) (cond (o i) (Opened ∷ []) []) in
        let messages : messages_of w s ≡ greeting w = ap (λ b. cond b (greeting w) (rest (kind s).closes)) o in
        (λ i. fold heard_after c (before i ++ map Made (messages i))) ∙ heard-opened w c ∙ sym (kept-same w s h (x.listeners w))

    at : (opens closes : Bool) → (kind s).opens ≡ opens → (kind s).closes ≡ closes → fold heard_after c (events_before s ++ map Made (messages_of w s)) ≡ kept_after w s
    at true closes o e = opening o
    at false true o e = absurd (true≢false (sym online ∙ (λ i. cond (o i) true (cond (e i) false w.is_connected))))
    at false false o e =
        heard-going w s c h same o (sym (λ i. cond (o i) true (cond (e i) false w.is_connected)) ∙ online)
        (λ i. cond (o i) (greeting w) (rest (e i)))

pub heard-step : (w : World) (s : Step) (c : List Tagged) (o : Option CoreError) (b : Bool) → IsSound w → (w.is_connected ≡ true → c ≡ w.kept)
    → (step_by o b w s).0.is_connected ≡ true → fold heard_after c (cond (is_none o && not b) (events_before s ++ map Made (messages_of w s)) []) ≡ (step_by o b w s).0.kept
heard-step w s c (Some e) b h same online = same online
heard-step w s c None true h same online = same online
heard-step w s c None false h same online = heard-done w s c h same online

-- ---- step by step

pub heard-events : (s : Step) (c : List Tagged) (ms : List ClientMessage) → fold heard_after c (events_before s ++ map Made ms) ≡ fold heard_by (kept_before s c) ms
heard-events s c ms =
    fold-append c (events_before s) (map Made ms)
    ∙ heard-messages (fold heard_after c (events_before s)) ms
    ∙ ap (λ k. fold heard_by k ms) (heard-before s c)

pub heard_by-append : (c : List Tagged) (xs ys : List ClientMessage) → fold heard_by c (xs ++ ys) ≡ fold heard_by (fold heard_by c xs) ys
heard_by-append c [] ys = refl
heard_by-append c (x ∷ xs) ys = heard_by-append (heard_by c x) xs ys

pub heard_by-listens : (kept : List Tagged) → fold heard_by [] (listens kept) ≡ kept
heard_by-listens kept = sym (heard-messages [] (listens kept)) ∙ heard-listens kept []

pub heard_by-requests : (c : List Tagged) (rs : List Request) → fold heard_by c (map request_message rs) ≡ c
heard_by-requests c rs = sym (heard-messages c (map request_message rs)) ∙ heard-requests c rs

-- to open a connection is done where there is none
pub done_connected : (w : World) → w.is_connected ≡ false → is_done w Step.Connected ≡ true
done_connected w e = λ i. is_none (option_map (λ (x : Bool × CoreError). x.1) (cond (e i) (Some (e i, AlreadyConnected)) None)) && true
