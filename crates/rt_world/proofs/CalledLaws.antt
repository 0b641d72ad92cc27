-- What is brought is what calls of a cache leave: each push that is not refused is one, and the change of cover behind it.
use Rattle.std.proofs.Common.{◌≡◌, Bool, true, false, cond, not, ◌&&◌, ◌||◌, List, [], ◌∷◌, ◌++◌, map, refl, sym, ap, subst, ◌∙◌, arith, Option, Some, None, slice_index_or}
use mathlib.Core.Bool.{true≢false}
use Rattle.std.specs.List.{cons_option, fold, list_any, All, AllPairs, Contains}
use Rattle.std.specs.Option.{option_map_or}
use Rattle.std.proofs.lemmas.List.Elements.{All-head, All-tail}
use Rattle.std.proofs.lemmas.List.Folds.{list_any_at}
use Rattle.rt_tree.specs.PathTree.{Path, PathTree, null}
use Rattle.rt_tree.specs.Assignments.{is_at_or_above, do_overlap, have_overlap, Assignment}
use Rattle.rt_query.specs.Queries.{Query, is_filtered}
use Rattle.rt_query.specs.QueryEq.{query_eq}
use Rattle.rt_query.specs.Supply.{does_supply}
use Rattle.rt_query.specs.laws.QueryEq.{query_eq_tells}
use Rattle.rt_cache.specs.Brought.{Brought, nothing_brought, may_put, push}
use Rattle.rt_cache.specs.Recover.{plain_spots, do_plains_overlap}
use Rattle.rt_cache.specs.Runs.{AreAllowed, after, after_all}
use Rattle.rt_cache.specs.declared.run.BroughtCall.{BroughtCall}
use Rattle.rt_cache.specs.declared.run.BroughtCall.TheVariants.{Put, Recover}
use Rattle.rt_cache.proofs.Belonging.{may_put-push}
use Rattle.rt_cover.specs.Cover.{Registered, Tagged, forms, needed}
use Rattle.rt_cover.specs.laws.CoverLaws.{Contains-from_filter, passes-from_filter, is_covered}
use Rattle.rt_cover.specs.laws.FormLaws.{supply_unfiltered}
use Rattle.rt_cover.specs.laws.Pairs.{AllPairs-first, AllPairs-rest, AllPairs-map}
use Rattle.rt_world.specs.declared.step.Step.{Step}
use Rattle.rt_world.specs.World.{World, listen_of, registered, pending}
use Rattle.rt_world.specs.After.{kind, listeners_after, requests_after, forms_after, listening_after, kept_after, part_pushed, pushed, brought_after}
use Rattle.rt_world.specs.Messages.{next}
use Rattle.rt_world.specs.steps.Kind.{Part}
use Rattle.rt_world.specs.Refusals.{refusal}
use Rattle.rt_world.specs.Called.{IsCalled}
use Rattle.rt_world.specs.Reached.{IsReached}
use Rattle.rt_world.specs.Sound.{IsSound}
use Rattle.rt_world.specs.laws.Made.{IsPushOn, IsPartOn}
use Rattle.rt_world.proofs.PartLaws.{parts_may_push}
use Rattle.rt_world.proofs.Listeners.{registered-renewed}
use Rattle.rt_world.proofs.Putting.{parts_registered, kept_may_be_put, may_put_same}
use Rattle.rt_world.proofs.Reaching.{forms_kept, listening_of}
use Rattle.rt_world.proofs.SoundLaws.{sound_next}

-- ---- of the plain listens kept none is at or above another

-- a needed plain form is at or above no other needed one
needed_alone : (fs : List Query) (g f : Query) → Contains (needed fs) g → Contains (needed fs) f → is_filtered g ≡ false → is_at_or_above g.path f.path ≡ true → g ≡ f
needed_alone fs g f mg mf plain above =
    let free : not (is_covered fs f) ≡ true = passes-from_filter (λ x. not (is_covered fs x)) fs f mf in
    let there = Contains-from_filter (λ x. not (is_covered fs x)) fs g mg in
    let supplies : does_supply g f ≡ true = supply_unfiltered g f plain ∙ above in
    elim (query_eq g f) as (λ b. query_eq g f ≡ b → g ≡ f) [
      | true ↦ λ e. (query_eq_tells g f).0 e
      | false ↦ λ e.
          let covered : is_covered fs f ≡ true = list_any_at (λ x. not (query_eq x f) && does_supply x f) fs there.0 g there.1
          (ap (λ x. not (query_eq x f) && does_supply x f) there.2 ∙ (λ i. not (e i) && supplies i)) in
          absurd (true≢false (sym free ∙ ap not covered))
    ] refl

-- two listens that are not both plain, or that are apart
abbrev ArePlainApart : Query → Query → Type 0
ArePlainApart f g = is_filtered f ≡ false → is_filtered g ≡ false → do_overlap f.path g.path ≡ false

or_no : (a b : Bool) → a ≡ false → b ≡ false → (a || b) ≡ false
or_no a b e f = λ i. e i || f i

needed_apart : (fs : List Query) (g f : Query) → Contains (needed fs) g → Contains (needed fs) f → (g ≡ f → ⊥) → ArePlainApart g f
needed_apart fs g f mg mf other eg ef = or_no _ _ (never (is_at_or_above g.path f.path) (λ a. other (needed_alone fs g f mg mf eg a)))
    (never (is_at_or_above f.path g.path) (λ a. other (sym (needed_alone fs f g mf mg ef a))))
  where
    never : (b : Bool) → (b ≡ true → ⊥) → b ≡ false
    never true h = absurd (h refl)
    never false h = refl

one_apart : (q : Query) (fs : List Query) → is_filtered q ≡ false → All (ArePlainApart q) fs → list_any (λ (b : Path × PathTree). do_overlap q.path b.0) (plain_spots fs) ≡ false
one_apart q [] e h = refl
one_apart q (f ∷ fs) e h =
    let rest = one_apart q fs e (All-tail (ArePlainApart q) f fs h) in
    elim (is_filtered f) as (λ b. is_filtered f ≡ b → list_any (λ (x : Path × PathTree). do_overlap q.path x.0) (cons_option (cond b None (Some (f.path, null))) (plain_spots fs)) ≡ false) [
      | true ↦ λ g. rest
      | false ↦ λ g. or_no _ _ (All-head (ArePlainApart q) f fs h e g) rest
    ] refl

all_apart : (fs : List Query) → AllPairs ArePlainApart fs → do_plains_overlap fs ≡ false
all_apart [] h = refl
all_apart (f ∷ fs) h =
    let rest = all_apart fs (AllPairs-rest ArePlainApart f fs h) in
    elim (is_filtered f) as (λ b. is_filtered f ≡ b → have_overlap (cons_option (cond b None (Some (f.path, null))) (plain_spots fs)) ≡ false) [
      | true ↦ λ e. rest
      | false ↦ λ e. or_no _ _ (one_apart f fs e (AllPairs-first ArePlainApart f fs h)) rest
    ] refl

-- so it is after a step
pub kept_apart : (w : World) (s : Step) → IsSound w → do_plains_overlap (forms_kept (kept_after w s)) ≡ false
kept_apart w s h =
    let c = (sound_next w s h).listens in
    all_apart (forms_kept (kept_after w s)) (pairs (forms (registered (next w s).listeners)) (forms_kept (kept_after w s)) c.only (AllPairs-map (λ (k : Tagged). k.form) (λ (f g : Query). f ≡ g → ⊥) (kept_after w s) c.once))
  where
    pairs : (all fs : List Query) → All (Contains (needed all)) fs → AllPairs (λ (f g : Query). f ≡ g → ⊥) fs → AllPairs ArePlainApart fs
    pairs all fs m once i j d lt within =
        needed_apart all (slice_index_or fs i d) (slice_index_or fs j d) (m i d (omega (arith, lt, within))) (m j d (omega (arith, within))) (once i j d lt within)

-- ---- calls

run_append : (cs ds : List BroughtCall) (b : Brought) → after_all b (cs ++ ds) ≡ after_all (after_all b cs) ds
run_append [] ds b = refl
run_append (c ∷ cs) ds b = run_append cs ds (after b c)

-- calls that are allowed one after another
allowed_append : (b : Brought) (cs ds : List BroughtCall) → AreAllowed b cs → AreAllowed (after_all b cs) ds → AreAllowed b (cs ++ ds)
allowed_append b [] ds h g = g
allowed_append b (c ∷ cs) ds h g = (h.0, h.1, allowed_append (after b c) cs ds h.2 g)

-- more calls
pub called_more : (b : Brought) (cs : List BroughtCall) → IsCalled b → AreAllowed b cs → IsCalled (after_all b cs)
called_more b cs h ok = record {
  calls = h.calls ++ cs;
  allowed = allowed_append nothing_brought h.calls cs h.allowed (subst (λ x. AreAllowed x cs) (sym h.left) ok);
  left = run_append h.calls cs nothing_brought ∙ ap (λ x. after_all x cs) h.left;
}

-- a push on a listen, entry by entry
abbrev puts : Query → List Assignment → List BroughtCall
puts q entries = map (λ (a : Assignment). Put q a.0 a.1) entries

puts_push : (q : Query) (entries : List Assignment) (b : Brought) → after_all b (puts q entries) ≡ fold (push q) b entries
puts_push q [] b = refl
puts_push q (a ∷ entries) b = puts_push q entries (push q b a)

puts_allowed : (q : Query) (entries : List Assignment) (b : Brought) → may_put b q ≡ true → All (IsPushOn q) entries → AreAllowed b (puts q entries)
puts_allowed q [] b may h = tt
puts_allowed q (a ∷ entries) b may h =
    let on = All-head (IsPushOn q) a entries h in (
      (on.under, on.shallow),
      may,
      puts_allowed q entries (push q b a) (may_put-push q q b a ∙ may) (All-tail (IsPushOn q) a entries h),
    )

-- ---- a step

module _ (w : World) (sound : IsSound w) (reached : IsReached w) where
  -- a part, and parts one after another
  called_part : (b : Brought) (p : Part) → b.registered ≡ w.brought.registered → IsCalled b → IsPartOn w p → IsCalled (part_pushed w b p)
  called_part b p same h on = at (listen_of w p.0) refl
    where
      at : (o : Option Query) → listen_of w p.0 ≡ o → IsCalled (option_map_or (λ q. fold (push q) b p.1) o b)
      at None e = h
      at (Some q) e = subst IsCalled (puts_push q p.1 b) (called_more b (puts q p.1) h
          (puts_allowed q p.1 b (may_put_same b w.brought q same (kept_may_be_put w p.0 q sound reached e)) (on q e)))

  called_parts : (parts : List Part) (b : Brought) → b.registered ≡ w.brought.registered → IsCalled b → All (IsPartOn w) parts → IsCalled (fold (part_pushed w) b parts)
  called_parts [] b same h on = h
  called_parts (p ∷ parts) b same h on =
      called_parts parts (part_pushed w b p) (parts_registered w b (p ∷ []) ∙ same) (called_part b p same h (All-head (IsPartOn w) p parts on)) (All-tail (IsPartOn w) p parts on)

  -- what is brought once the step's push is taken
  pub called_pushed : (s : Step) → IsCalled w.brought → refusal w s ≡ None → IsCalled (pushed w s)
  called_pushed s h free = called_parts (kind s).parts w.brought refl h (parts_may_push w s free)

  kept_needed : (s : Step) → All (Contains (needed (forms_after w s))) (forms_kept (kept_after w s))
  kept_needed s = subst (λ (rs : List Registered). All (Contains (needed (forms rs))) (forms_kept (kept_after w s)))
      (registered-renewed (brought_after w s) (pending (requests_after w s)) (listeners_after w s)) ((sound_next w s sound).listens).only

  -- the listens kept then are registered
  listens_registered : (s : Step) → All (Contains (listening_after w s)) (forms_kept (kept_after w s))
  listens_registered s k d lt =
      let fs = forms_after w s in
      let q : Query = slice_index_or (forms_kept (kept_after w s)) k d in
      listening_of (registered (listeners_after w s)) q (Contains-from_filter (λ f. not (is_covered fs f)) fs q (kept_needed s k d lt))

  pub called_next : (s : Step) → IsCalled w.brought → refusal w s ≡ None → IsCalled (next w s).brought
  called_next s h free =
      called_more (pushed w s) (Recover (listening_after w s) (forms_kept (kept_after w s)) ∷ []) (called_pushed s h free)
      (kept_apart w s sound, listens_registered s, tt)
