-- Which forms listeners leave that end: those of the ended ones, or registered ones.
use Rattle.std.proofs.Common.{◌≡◌, ℕ, suc, ◌<◌, ◌==◌, Bool, true, false, cond, not, ◌||◌, inl, inr, List, [], ◌∷◌, map, refl, sym, ap, subst, ◌∙◌, slice_index_or, arith, eqb-true, eq-eqb, Option, Some, None}
use mathlib.Core.Bool.{true≢false}
use Rattle.std.specs.List.{filter, find, list_any, All, AllPairs, Contains}
use Rattle.std.specs.Option.{option_map, option_map_or}
use Rattle.std.proofs.lemmas.List.Elements.{All-contains, All-nil, All-cons, Contains-get_or}
use Rattle.std.proofs.lemmas.List.Folds.{Any-from_list_any, list_any-from_Any, list_any_at}
use Rattle.std.proofs.lemmas.List.Kept.{AllPairs-filter}
use Rattle.rt_query.specs.Queries.{Query}
use Rattle.rt_query.specs.QueryEq.{query_eq}
use Rattle.rt_query.specs.Supply.{form}
use Rattle.rt_query.specs.laws.QueryEq.{query_eq_tells}
use Rattle.rt_cache.specs.Brought.{Window}
use Rattle.rt_cache.specs.Recover.{is_among}
use Rattle.rt_cover.specs.declared.change.Delta.{Delta}
use Rattle.rt_cover.specs.declared.listen.Kept.{Kept}
use Rattle.rt_cover.specs.Cover.{Registered, Tagged, forms, is_kept}
use Rattle.rt_cover.specs.State.{Cover, difference, ended_by, left_after, listen_at, needed_forms, numbers_of, removed, revoked, shown_with, started_for, with_listeners, without_form, without_listeners, without_tag}
use Rattle.rt_cover.specs.laws.CoverLaws.{Contains-filter, Contains-from_filter, passes-from_filter, is_covered}
use Rattle.rt_cover.specs.laws.FormLaws.{same_tests}
use Rattle.rt_cover.specs.laws.KeepLaws.{Contains-map, Contains-from_map, length_of_map, forms-started}
use Rattle.rt_cover.specs.laws.Pairs.{Contains-cases, AllPairs-first, AllPairs-rest, AllPairs-map, AllPairs-from_map, filter_agreeing}
use Rattle.rt_cover.specs.laws.SoundLaws.{told_exactly}
use Rattle.rt_world.specs.declared.step.Step.{Step}
use Rattle.rt_world.specs.World.{World, Listener, registered, listening}
use Rattle.rt_world.specs.Covering.{cover_in, cover_after}
use Rattle.rt_world.specs.Messages.{next}
use Rattle.rt_world.specs.Sound.{cover_of, IsSound}
use Rattle.rt_world.specs.laws.Holds.{CoverFollows}
use Rattle.rt_world.specs.laws.Steps.{StaysSound}
use Rattle.rt_sync.specs.inside.Due.{IsDue}
use Rattle.rt_sync.specs.inside.Losing.{forms_at, KeepsNeeded, HasLost}
use Rattle.rt_sync.specs.declared.state.State.{State}
use Rattle.rt_sync.specs.inside.StateView.{IsTied, world_of}
use Rattle.rt_sync.proofs.Losing.{listening_of}
use Rattle.rt_sync.proofs.TagLaws.{cover_tied}

-- whether a listener has the form
abbrev pub has_listener : List Registered → Query → Bool
has_listener ls f = list_any (λ (l : Registered). query_eq l.1 f) ls

differs : (m n : ℕ) → m < n → (m == n) ≡ false
differs m n lt = elim (m == n) as (λ b. (m == n) ≡ b → b ≡ false) [
  | true ↦ λ e. let same : m ≡ n = eqb-true m n e in absurd (omega (arith, lt, same))
  | false ↦ λ e. refl
] refl

-- a listener is found by its number
find_own : (ls : List Registered) (l : Registered) → AllPairs (λ (x y : Registered). x.0 < y.0) ls → Contains ls l → find (λ m. m.0 == l.0) ls ≡ Some l
find_own [] l up m = absurd (omega (arith, m.1))
find_own (x ∷ xs) l up m = elim (Contains-cases x xs l m) [
  | inl e ↦ ap (λ b. cond b (Some x) (find (λ (y : Registered). y.0 == l.0) xs)) (eq-eqb x.0 l.0 (ap (λ (y : Registered). y.0) e)) ∙ ap Some e
  | inr k ↦
      let lt : x.0 < l.0 = All-contains (λ (y : Registered). x.0 < y.0) xs l (AllPairs-first (λ (y z : Registered). y.0 < z.0) x xs up) k in
      ap (λ b. cond b (Some x) (find (λ (y : Registered). y.0 == l.0) xs)) (differs x.0 l.0 lt)
      ∙ find_own xs l (AllPairs-rest (λ (y z : Registered). y.0 < z.0) x xs up) k
]

or_true : (b : Bool) → (b || true) ≡ true
or_true true = refl
or_true false = refl

true_or : (a b : Bool) → a ≡ true → (a || b) ≡ true
true_or true b e = refl
true_or false b e = absurd (true≢false (sym e))

one_more : (o : Option Query) (xs : List Query) (f : Query) → is_among xs f ≡ true → is_among (option_map_or (λ q. q ∷ xs) o xs) f ≡ true
one_more None xs f e = e
one_more (Some q) xs f e = ap (λ b. query_eq q f || b) e ∙ or_true (query_eq q f)

-- the form of a listener of one of these numbers is among theirs
among_ended : (ls : List Registered) (l : Registered) (f : Query) → AllPairs (λ (x y : Registered). x.0 < y.0) ls → Contains ls l → query_eq l.1 f ≡ true
    → (ns : List ℕ) → list_any (λ n. n == l.0) ns ≡ true → is_among (forms_at ls ns) f ≡ true
among_ended ls l f up m same [] e = absurd (true≢false (sym e))
among_ended ls l f up m same (n ∷ ns) e =
    elim (n == l.0) as (λ b. (n == l.0) ≡ b → (b || list_any (λ k. k == l.0) ns) ≡ true → is_among (forms_at ls (n ∷ ns)) f ≡ true) [
      | true ↦ λ t h.
          let found : find (λ (x : Registered). x.0 == n) ls ≡ Some l = ap (λ k. find (λ (x : Registered). x.0 == k) ls) (eqb-true n l.0 t) ∙ find_own ls l up m in
          ap (λ o. is_among (option_map_or (λ q. q ∷ forms_at ls ns) (option_map (λ (x : Registered). x.1) o) (forms_at ls ns)) f) found
          ∙ true_or (query_eq l.1 f) (is_among (forms_at ls ns) f) same
      | false ↦ λ t h. one_more (option_map (λ (x : Registered). x.1) (find (λ (x : Registered). x.0 == n) ls)) (forms_at ls ns) f (among_ended ls l f up m same ns h)
    ] refl e

-- where those of some numbers end
pub numbers_end : (ls : List Registered) (ns : List ℕ) → AllPairs (λ (x y : Registered). x.0 < y.0) ls
    → (f : Query) → has_listener ls f ≡ true → (is_among (forms_at ls ns) f || has_listener (without_listeners ls ns) f) ≡ true
numbers_end ls ns up f here =
    let a = Any-from_list_any (λ (l : Registered). query_eq l.1 f) ls here in
    let l : Registered = a.1 in
    let m : Contains ls l = (a.0, a.2, a.3) in
    elim (list_any (λ n. n == l.0) ns) as (λ b. list_any (λ n. n == l.0) ns ≡ b → (is_among (forms_at ls ns) f || has_listener (without_listeners ls ns) f) ≡ true) [
      | true ↦ λ e. true_or (is_among (forms_at ls ns) f) (has_listener (without_listeners ls ns) f) (among_ended ls l f up m a.4 ns e)
      | false ↦ λ e.
          let k = Contains-filter (λ (x : Registered). not (list_any (λ n. n == x.0) ns)) ls l m (ap not e) in
          ap (λ b. is_among (forms_at ls ns) f || b) (list_any-from_Any (λ (x : Registered). query_eq x.1 f) (without_listeners ls ns) (k.0, l, k.1, k.2, a.4))
          ∙ or_true (is_among (forms_at ls ns) f)
    ] refl

-- where those of a form end
pub form_ends : (ls : List Registered) (g : Query)
    → (f : Query) → has_listener ls f ≡ true → (is_among (g ∷ []) f || has_listener (without_form ls g) f) ≡ true
form_ends ls g f here =
    let a = Any-from_list_any (λ (l : Registered). query_eq l.1 f) ls here in
    let l : Registered = a.1 in
    elim (query_eq l.1 g) as (λ b. query_eq l.1 g ≡ b → (is_among (g ∷ []) f || has_listener (without_form ls g) f) ≡ true) [
      | true ↦ λ e.
          true_or (is_among (g ∷ []) f) (has_listener (without_form ls g) f)
          (true_or (query_eq g f) false (ap (λ q. query_eq q f) (sym ((query_eq_tells l.1 g).0 e)) ∙ a.4))
      | false ↦ λ e.
          let k = Contains-filter (λ (x : Registered). not (query_eq x.1 g)) ls l (a.0, a.2, a.3) (ap not e) in
          ap (λ b. is_among (g ∷ []) f || b) (list_any-from_Any (λ (x : Registered). query_eq x.1 f) (without_form ls g) (k.0, l, k.1, k.2, a.4))
          ∙ or_true (is_among (g ∷ []) f)
    ] refl

-- those of the listen with a tag do
pub listen_ends : (c : Cover) (tag : ℕ) (g : Query) → option_map (λ (k : Tagged). k.form) (listen_at c tag) ≡ Some g → left_after c tag ≡ without_form c.listeners g
listen_ends c tag g e =
    sym (mapped (listen_at c tag)) ∙ ap (λ o. option_map_or (without_form c.listeners) o c.listeners) e
  where
    mapped : (o : Option Tagged) → option_map_or (without_form c.listeners) (option_map (λ (k : Tagged). k.form) o) c.listeners ≡ option_map_or (λ (k : Tagged). without_form c.listeners k.form) o c.listeners
    mapped None = refl
    mapped (Some k) = refl

-- ---- numbers and forms that end

-- what is found is there
found_in : (p : Registered → Bool) (rs : List Registered) (l : Registered) → find p rs ≡ Some l → Contains rs l
found_in p [] l e = cc
found_in p (x ∷ xs) l e =
    elim (p x) as (λ b. cond b (Some x) (find p xs) ≡ Some l → Contains (x ∷ xs) l) [
      | true ↦ λ f. let same : x ≡ l = cc in (0, omega arith, same)
      | false ↦ λ f. let m = found_in p xs l f in (suc m.0, omega (arith, m.1), m.2)
    ] e

listened_by : (rs : List Registered) (l : Registered) → Contains rs l → Contains (listening rs) l.1
listened_by rs l m = Contains-map (λ (r : Registered). r.1) rs m.0 l m.1 m.2

-- the forms at some numbers are listened to
forms_listened : (rs : List Registered) (ns : List ℕ) → All (Contains (listening rs)) (forms_at rs ns)
forms_listened rs [] = All-nil (Contains (listening rs))
forms_listened rs (n ∷ ns) = at (forms_listened rs ns) (find (λ (l : Registered). l.0 == n) rs) refl
  where
    at : All (Contains (listening rs)) (forms_at rs ns) → (o : Option Registered) → find (λ (l : Registered). l.0 == n) rs ≡ o
        → All (Contains (listening rs)) (option_map_or (λ f. f ∷ forms_at rs ns) (option_map (λ (l : Registered). l.1) o) (forms_at rs ns))
    at rest None e = rest
    at rest (Some l) e = All-cons (Contains (listening rs)) l.1 (forms_at rs ns) (listened_by rs l (found_in (λ (x : Registered). x.0 == n) rs l e)) rest

some_is : (x y : Registered) → Some x ≡ Some y → x ≡ y
some_is x y e = cc

-- the numbers of a form are those of its listeners
pub of_form_numbers : (rs : List Registered) → AllPairs (λ (x y : Registered). x.0 < y.0) rs → (g : Query) (l : Registered) → Contains rs l → query_eq l.1 g ≡ list_any (λ n. n == l.0) (numbers_of rs g)
of_form_numbers rs up g l m = same_tests (query_eq l.1 g) (list_any (λ n. n == l.0) (numbers_of rs g)) there back
  where
    of_form : Registered → Bool
    of_form l = query_eq l.1 g

    there : query_eq l.1 g ≡ true → list_any (λ n. n == l.0) (numbers_of rs g) ≡ true
    there e =
        let k = Contains-filter of_form rs l m e in
        let n = Contains-map (λ (x : Registered). x.0) (filter of_form rs) k.0 l k.1 k.2 in
        list_any_at (λ j. j == l.0) (numbers_of rs g) n.0 l.0 n.1 (ap (λ j. j == l.0) n.2 ∙ eq-eqb l.0 l.0 refl)

    back : list_any (λ n. n == l.0) (numbers_of rs g) ≡ true → query_eq l.1 g ≡ true
    back e =
        let a = Any-from_list_any (λ n. n == l.0) (numbers_of rs g) e in
        let x = Contains-from_map (λ (y : Registered). y.0) (filter of_form rs) a.0 a.1 (subst (λ n. a.0 < n) (length_of_map (λ (y : Registered). y.0) (filter of_form rs)) a.2) a.3 in
        let y : Registered = x.0 in
        let my : Contains rs y = Contains-from_filter of_form rs y x.1 in
        let number : y.0 ≡ l.0 = x.2 ∙ eqb-true a.1 l.0 a.4 in
        let both : Some y ≡ Some l = sym (find_own rs y up my) ∙ ap (λ n. find (λ (z : Registered). z.0 == n) rs) number ∙ find_own rs l up m in
        let same : y ≡ l = some_is y l both in
        ap (λ (z : Registered). query_eq z.1 g) (sym same) ∙ passes-from_filter of_form rs y x.1

-- the listeners without those of a form are those without its numbers
form_numbers : (rs : List Registered) → AllPairs (λ (x y : Registered). x.0 < y.0) rs → (g : Query) → without_form rs g ≡ without_listeners rs (numbers_of rs g)
form_numbers rs up g =
    filter_agreeing (λ (l : Registered). not (query_eq l.1 g)) (λ (l : Registered). not (list_any (λ n. n == l.0) (numbers_of rs g))) rs
    (λ k d lt. ap not (of_form_numbers rs up g (slice_index_or rs k d) (Contains-get_or rs k d lt)))

-- numbers rise as listeners do
pub numbers_rise : (rs : List Registered) → AllPairs (λ (x y : Registered). x.0 < y.0) rs → (g : Query) → AllPairs (λ (m n : ℕ). m < n) (numbers_of rs g)
numbers_rise rs up g =
    AllPairs-map (λ (l : Registered). l.0) (λ (m n : ℕ). m < n) (filter (λ (l : Registered). query_eq l.1 g) rs)
    (AllPairs-filter (λ (x y : Registered). x.0 < y.0) (λ (l : Registered). query_eq l.1 g) rs up)

pub seat_rises : (ls : List Listener) → AllPairs (λ (x y : Registered). x.0 < y.0) (registered ls) → (seat : ℕ)
    → AllPairs (λ (m n : ℕ). m < n) (map (λ (l : Listener). l.number) (filter (λ (l : Listener). l.seat == seat) ls))
seat_rises ls up seat =
    AllPairs-map (λ (l : Listener). l.number) (λ (m n : ℕ). m < n) (filter (λ (l : Listener). l.seat == seat) ls)
    (AllPairs-filter (λ (l m : Listener). l.number < m.number) (λ (l : Listener). l.seat == seat) ls
    (AllPairs-from_map (λ (l : Listener). (l.number, form l.query)) (λ (x y : Registered). x.0 < y.0) ls up))

pub one_rises : (n : ℕ) → AllPairs (λ (j k : ℕ). j < k) (n ∷ [])
one_rises n i j d lt within = absurd (omega (arith, lt, within))

-- ---- listens that begin

shown_forms : (rs : List Registered) (ks : List Tagged) → map (λ (k : Kept). k.query) (map (shown_with rs) ks) ≡ map (λ (k : Tagged). k.form) ks
shown_forms rs [] = refl
shown_forms rs (k ∷ ks) = ap (λ fs. k.form ∷ fs) (shown_forms rs ks)

-- the listen with a tag is a kept one
kept_of : (kept : List Tagged) (tag : ℕ) (q : Query) → option_map (λ (k : Tagged). k.form) (find (λ (k : Tagged). k.tag == tag) kept) ≡ Some q → Contains (map (λ (k : Tagged). k.form) kept) q
kept_of [] tag q e = cc
kept_of (k ∷ kept) tag q e =
    elim (k.tag == tag) as (λ b. option_map (λ (x : Tagged). x.form) (cond b (Some k) (find (λ (x : Tagged). x.tag == tag) kept)) ≡ Some q → Contains (map (λ (x : Tagged). x.form) (k ∷ kept)) q) [
      | true ↦ λ f. let same : k.form ≡ q = cc in (0, omega arith, same)
      | false ↦ λ f. let m = kept_of kept tag q f in (suc m.0, omega (arith, m.1), m.2)
    ] e

-- ---- what a step that ends listeners is handed

keeps : (w : World) → IsSound w → KeepsNeeded (cover_in w)
keeps w h = record { forms = (h.listens).forms; only = (h.listens).only; all = (h.listens).all; once = (h.listens).once }

module _ (state : State) where
  abbrev w : World
  w = world_of state

  -- the cover's listeners rise
  pub covered_rise : IsTied state.cover w → IsSound w → AllPairs (λ (x y : Registered). x.0 < y.0) state.cover.listeners
  covered_rise t h = subst (AllPairs (λ (x y : Registered). x.0 < y.0)) (sym t.listened) (h.listens).listeners

  -- what begins where these listeners are left
  begun_told : IsTied state.cover w → IsSound w → (rs : List Registered) (delta : Delta) → delta.started ≡ (difference state.cover (with_listeners state.cover rs)).started
      → map (λ (k : Kept). k.query) delta.started ≡ filter (λ f. not (is_kept state.cover.kept f)) (needed_forms rs)
  begun_told t h rs delta e =
      ap (map (λ (k : Kept). k.query)) (e ∙ ap (λ (d : Delta). d.started) (told_exactly (cover_of w) rs h.listens))
      ∙ shown_forms rs (started_for (cover_of w) rs)
      ∙ forms-started state.cover.next_tag (filter (λ f. not (is_kept state.cover.kept f)) (needed_forms rs))

  lost_after : StaysSound → CoverFollows → IsTied state.cover w → (s : Step) → IsDue w s → (is : Cover) → is ≡ cover_after w s
      → (numbers : List ℕ) → AllPairs (λ (m n : ℕ). m < n) numbers → is.listeners ≡ without_listeners state.cover.listeners numbers
      → (ended : List Query) → All (Contains (listening state.cover.listeners)) ended
      → ((f : Query) → has_listener state.cover.listeners f ≡ true → (is_among ended f || has_listener is.listeners f) ≡ true)
      → ((l : Registered) → Contains state.cover.listeners l → list_any (λ n. n == l.0) numbers ≡ true → is_among ended l.1 ≡ true)
      → (delta : Delta) → delta.started ≡ (difference state.cover (with_listeners state.cover is.listeners)).started → HasLost state.cover is numbers state.listeners.listeners ended delta state.brought
  lost_after sound follows t s d is e numbers rising left ended were told given delta begun = record {
    was_sound = subst KeepsNeeded (sym (cover_tied state.cover w t refl refl)) (keeps w d.good.sound);
    is_sound = subst KeepsNeeded (follows w s d.good.sound ∙ sym e) (keeps (next w s) (sound w s d.good.sound));
    listened = t.listened;
    rises = covered_rise t d.good.sound;
    rising = rising;
    left = left;
    were = were;
    ending = told;
    given = given;
    begun = begun_told t d.good.sound is.listeners delta begun;
    called = d.good.called;
    registered = d.good.reached.forms ∙ ap listening (sym t.listened);
    regions = d.good.reached.regions;
    windows = subst (λ (rs : List Registered). All (λ (x : Query × Window). Contains (listening rs) x.0) state.brought.windows) (sym t.listened) d.good.reached.windows;
  }

  -- those of some numbers
  pub lost_numbers : StaysSound → CoverFollows → IsTied state.cover w → (s : Step) → IsDue w s → (is : Cover) → is ≡ cover_after w s → (numbers : List ℕ) → AllPairs (λ (m n : ℕ). m < n) numbers
      → is ≡ removed state.cover numbers → (ended : List Query) → ended ≡ forms_at state.cover.listeners numbers
      → (delta : Delta) → delta ≡ difference state.cover (removed state.cover numbers) → HasLost state.cover is numbers state.listeners.listeners ended delta state.brought
  lost_numbers sound follows t s d is e numbers rising left ended forms_are delta de =
      lost_after sound follows t s d is e numbers rising (ap (λ (x : Cover). x.listeners) left)
      ended (subst (λ fs. All (Contains (listening state.cover.listeners)) fs) (sym forms_are) (forms_listened state.cover.listeners numbers))
      (λ f here. (λ i. is_among (forms_are i) f || has_listener (left i).listeners f) ∙ numbers_end state.cover.listeners numbers (covered_rise t d.good.sound) f here)
      (λ l m e. ap (λ fs. is_among fs l.1) forms_are ∙ among_ended state.cover.listeners l l.1 (covered_rise t d.good.sound) m ((query_eq_tells l.1 l.1).1 refl) numbers e)
      delta (ap (λ (x : Delta). x.started) de ∙ ap (λ (x : Cover). (difference state.cover (with_listeners state.cover x.listeners)).started) (sym left))

  -- those of a listen
  pub lost_listen : StaysSound → CoverFollows → IsTied state.cover w → (s : Step) → IsDue w s → (is : Cover) → is ≡ cover_after w s → (tag : ℕ) → is ≡ revoked state.cover tag
      → (g : Query) → option_map (λ (k : Tagged). k.form) (listen_at state.cover tag) ≡ Some g → (numbers : List ℕ) → numbers ≡ ended_by state.cover tag → (ended : List Query) → ended ≡ g ∷ []
      → (delta : Delta) → delta ≡ without_tag tag (difference state.cover (revoked state.cover tag)) → HasLost state.cover is numbers state.listeners.listeners ended delta state.brought
  lost_listen sound follows t s d is e tag left g at numbers ne ended one delta de =
      let up = covered_rise t d.good.sound in
      let ns : numbers ≡ numbers_of state.cover.listeners g = ne ∙ ends_of (listen_at state.cover tag) at in
      let rs : is.listeners ≡ without_form state.cover.listeners g = ap (λ (x : Cover). x.listeners) left ∙ listen_ends state.cover tag g at in
      lost_after sound follows t s d is e numbers (subst (AllPairs (λ (m n : ℕ). m < n)) (sym ns) (numbers_rise state.cover.listeners up g))
      (rs ∙ form_numbers state.cover.listeners up g ∙ ap (without_listeners state.cover.listeners) (sym ns))
      ended (subst (λ fs. All (Contains (listening state.cover.listeners)) fs) (sym one) (All-cons (Contains (listening state.cover.listeners)) g [] (kept_listened t d.good.sound) (All-nil (Contains (listening state.cover.listeners)))))
      (λ f here. (λ i. is_among (one i) f || has_listener ((rs) i) f) ∙ form_ends state.cover.listeners g f here)
      (λ l m h. ap (λ fs. is_among fs l.1) one ∙ true_or (query_eq g l.1) false ((query_eq_tells g l.1).1 (sym ((query_eq_tells l.1 g).0 (of_form_numbers state.cover.listeners up g l m ∙ ap (list_any (λ n. n == l.0)) (sym ns) ∙ h)))))
      delta (ap (λ (x : Delta). x.started) de ∙ ap (λ (x : Cover). (difference state.cover (with_listeners state.cover x.listeners)).started) (sym left))
    where
      ends_of : (o : Option Tagged) → option_map (λ (k : Tagged). k.form) o ≡ Some g → option_map_or (λ (k : Tagged). numbers_of state.cover.listeners k.form) o [] ≡ numbers_of state.cover.listeners g
      ends_of None h = cc
      ends_of (Some k) h = let same : k.form ≡ g = cc in ap (numbers_of state.cover.listeners) same

      -- the form of a kept listen is listened to
      kept_listened : IsTied state.cover w → IsSound w → Contains (listening state.cover.listeners) g
      kept_listened t h =
          let m : Contains (needed_forms (registered state.listeners.listeners)) g = All-contains (Contains (needed_forms (registered state.listeners.listeners))) (map (λ (k : Tagged). k.form) state.cover.kept) g (h.listens).only (kept_of state.cover.kept tag g at) in
          subst (λ (rs : List Registered). Contains (listening rs) g) (sym t.listened)
          (listening_of (registered state.listeners.listeners) g (Contains-from_filter (λ f. not (is_covered (forms (registered state.listeners.listeners)) f)) (forms (registered state.listeners.listeners)) g m))
