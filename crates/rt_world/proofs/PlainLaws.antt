-- What plain listens brought is said by the pushes and the answers.
use Rattle.std.proofs.Common.{◌≡◌, ◌≤◌, ℕ, Bool, true, false, ◌&&◌, cond, ◌⊎◌, inl, inr, arith, length, List, [], ◌∷◌, refl, sym, ap, subst, ◌∙◌, slice_index_or, Option, Some, None, is_some}
use mathlib.Core.Bool.{true≢false}
use Rattle.std.specs.List.{fold, list_all, All, Contains}
use Rattle.std.specs.Option.{option_map, option_map_or}
use Rattle.std.proofs.lemmas.List.Elements.{All-contains, All-map, All-push}
use Rattle.rt_tree.specs.PathTree.{strip}
use Rattle.rt_tree.specs.Assignments.{Assignment}
use Rattle.rt_query.specs.Queries.{Query, is_filtered}
use Rattle.rt_cache.specs.Brought.{Brought, push_plain, push, windows_pushed, is_without_window}
use Rattle.rt_cover.specs.Runs.{Change, Add, Remove, Revoke}
use Rattle.rt_cover.specs.laws.FormLaws.{form_unfiltered}
use Rattle.rt_world.specs.declared.error.CoreError.{CoreError}
use Rattle.rt_world.specs.declared.step.Step.{Step}
use Rattle.rt_world.specs.World.{World, Listener, pending, listen_of}
use Rattle.rt_world.specs.steps.Kind.{Kind, Part}
use Rattle.rt_world.specs.steps.Pushing.{is_idle, push_of}
use Rattle.rt_world.specs.After.{kind, listeners_after, part_pushed, pushed, brought_after, requests_after, renewed}
use Rattle.rt_world.specs.Messages.{next}
use Rattle.rt_world.specs.Refusals.{refusal, is_stale}
use Rattle.rt_world.specs.Answers.{step, step_by}
use Rattle.rt_world.specs.Plain.{IsPlainChange, IsPlainStep, taken_in, brought_by}
use Rattle.rt_world.specs.Sound.{IsSound}
use Rattle.rt_world.specs.laws.Holds.{IsSteady}
use Rattle.rt_world.proofs.KindLaws.{first_seen, Listening, still, adding, removing, revoking, orderly, IsNoListen, listen_or_not}
use Rattle.rt_world.proofs.Listeners.{query-renewed}
use Rattle.rt_world.proofs.Reaching.{forms_kept, form_of, kept_of, kept_registered}
use Rattle.rt_world.proofs.ReachedLaws.{push_is_brought, listen_brings_nothing}

-- ---- listeners of plain queries

-- no query is filtered
abbrev pub AreUnfiltered : List Listener → Type 0
AreUnfiltered ls = All (λ (l : Listener). is_filtered l.query ≡ false) ls

-- so no listen that is kept is filtered
unfiltered_kept : (w : World) → IsSound w → AreUnfiltered w.listeners → (f : Query) → Contains (forms_kept w.kept) f → is_filtered f ≡ false
unfiltered_kept w h p f m =
    let x = form_of w.listeners f (kept_registered w h f m) in
    let low = All-contains (λ (l : Listener). is_filtered l.query ≡ false) w.listeners x.0 p x.1 in
    ap is_filtered (sym x.2) ∙ ap is_filtered (form_unfiltered (x.0).query low)

all_unfiltered : (w : World) (s : Step) → AreUnfiltered w.listeners → IsPlainStep s → AreUnfiltered (listeners_after w s)
all_unfiltered w s p u = at (orderly s).listeners
  where
    changed : (c : World → Change) → (kind s).change ≡ Some c → IsPlainChange (Some (c w))
    changed c e = subst IsPlainChange (ap (option_map (λ (f : World → Change). f w)) e) (u.0 w)

    at : Listening (kind s) → AreUnfiltered (listeners_after w s)
    at (still h) = subst AreUnfiltered (sym (h.listeners w)) p
    at (adding h) =
        subst AreUnfiltered (sym (h.listeners w))
        (All-push (λ (l : Listener). is_filtered l.query ≡ false) w.listeners (first_seen w h.seat h.query) p (changed (λ v. Add v.next_listener h.query) h.change))
    at (removing h) = absurd (changed (λ v. Remove (h.numbers v)) h.change)
    at (revoking h) = absurd (changed (λ v. Revoke h.tag) h.change)

unfiltered_next : (w : World) (s : Step) → AreUnfiltered w.listeners → IsPlainStep s → AreUnfiltered (next w s).listeners
unfiltered_next w s p u =
    All-map (λ (l : Listener). is_filtered l.query ≡ false) (renewed (brought_after w s) (pending (requests_after w s))) (listeners_after w s)
    (λ k d lt. ap is_filtered (query-renewed (brought_after w s) (pending (requests_after w s)) (slice_index_or (listeners_after w s) k d)) ∙ all_unfiltered w s p u k d lt)

pub unfiltered_step : (w : World) (s : Step) → AreUnfiltered w.listeners → IsPlainStep s → AreUnfiltered (step w s).0.listeners
unfiltered_step w s p u = at (refusal w s) (is_stale w s)
  where
    at : (o : Option CoreError) (b : Bool) → AreUnfiltered (step_by o b w s).0.listeners
    at (Some e) b = p
    at None true = p
    at None false = unfiltered_next w s p u

-- ---- what a step brings

-- a push on a plain listen is that of the regions
push_is_plain : (q : Query) → is_filtered q ≡ false → (b : Brought) (entries : List Assignment) → fold (push q) b entries ≡ fold push_plain b entries
push_is_plain q e b entries =
    λ i. fold (λ (x : Brought) (a : Assignment). cond (e i) (option_map_or (λ rest. record x { windows = windows_pushed q rest a.1 x.windows }) (strip q.path a.0) x) (push_plain x a)) b entries

-- ---- what is brought is said by the answer

-- the push of a step that is done
taken_is : (w : World) (tag : ℕ) (entries : List Assignment) → IsSound w → AreUnfiltered w.listeners → is_some (listen_of w tag) ≡ true
    → option_map_or (λ q. fold (push q) w.brought entries) (listen_of w tag) w.brought ≡ fold push_plain w.brought entries
taken_is w tag entries h p there = at (listen_of w tag) refl there
  where
    at : (o : Option Query) → listen_of w tag ≡ o → is_some o ≡ true → option_map_or (λ q. fold (push q) w.brought entries) o w.brought ≡ fold push_plain w.brought entries
    at None e s = absurd (true≢false (sym s))
    at (Some q) e s = push_is_plain q (unfiltered_kept w h p q (kept_of w.kept tag q e)) w.brought entries

-- the push of at most one part, which is not idle
part_taken : (w : World) (parts : List Part) → IsSound w → AreUnfiltered w.listeners → length parts ≤ 1 → list_all (is_idle w) parts ≡ false
    → fold (part_pushed w) w.brought parts ≡ fold (λ (c : Brought) (p : Part). fold push_plain c p.1) w.brought parts
part_taken w [] h pl few fresh = refl
part_taken w (p ∷ []) h pl few fresh = taken_is w p.0 p.1 h pl (at (listen_of w p.0) refl)
  where
    at : (o : Option Query) → listen_of w p.0 ≡ o → is_some (listen_of w p.0) ≡ true
    at (Some q) e = ap is_some e
    at None e = absurd (true≢false (sym (ap (λ o. option_map_or (λ q. list_all (is_without_window w.brought q) p.1) o true && true) e) ∙ fresh))
part_taken w (p ∷ r ∷ parts) h pl few fresh = absurd (omega (arith, few))

-- what a step takes in that is done
brought_done : (w : World) (s : Step) → IsSteady w → AreUnfiltered w.listeners → IsPlainStep s → refusal w s ≡ None → is_stale w s ≡ false
    → brought_after w s ≡ taken_in w.brought s
brought_done w s h p u free fresh = elim (listen_or_not s) [
  | inl x ↦ subst (λ r. brought_after w r ≡ taken_in w.brought r) (sym x.same) (listen_brings_nothing w x.seat x.query h.sound h.called h.reached)
  | inr x ↦ other x (orderly s).listeners
]
  where
    taken : (kind s).parts ≡ [] ⊎ kind s ≡ push_of (kind s).parts → pushed w s ≡ fold (λ (c : Brought) (p : Part). fold push_plain c p.1) w.brought (kind s).parts
    taken (inl e) = ap (fold (part_pushed w) w.brought) e ∙ sym (ap (fold (λ (c : Brought) (p : Part). fold push_plain c p.1) w.brought) e)
    taken (inr e) = part_taken w (kind s).parts h.sound p u.1 (sym (ap (λ (k : Kind). k.is_stale w) e) ∙ fresh)

    changed : (c : World → Change) → (kind s).change ≡ Some c → IsPlainChange (Some (c w))
    changed c e = subst IsPlainChange (ap (option_map (λ (f : World → Change). f w)) e) (u.0 w)

    other : IsNoListen s → Listening (kind s) → brought_after w s ≡ taken_in w.brought s
    other x (still l) =
        push_is_brought w s h.sound h.called h.reached free (ap is_some l.change)
        ∙ taken (orderly s).parts
        ∙ ap (λ b. fold (λ (c : Brought) (p : Part). fold push_plain c p.1) b (kind s).parts) (sym (x.forms w.brought))
    other x (adding l) = absurd (true≢false (sym l.registers ∙ x.registers))
    other x (removing l) = absurd (changed (λ v. Remove (l.numbers v)) l.change)
    other x (revoking l) = absurd (changed (λ v. Revoke l.tag) l.change)

brought_at : (w : World) (s : Step) (o : Option CoreError) (b : Bool) → refusal w s ≡ o → is_stale w s ≡ b → IsSteady w → AreUnfiltered w.listeners → IsPlainStep s
    → (step_by o b w s).0.brought ≡ brought_by w.brought s (step_by o b w s).1
brought_at w s (Some e) b f g h p u = refl
brought_at w s None true f g h p u = refl
brought_at w s None false f g h p u = brought_done w s h p u f g

pub brought_step : (w : World) (s : Step) → IsSteady w → AreUnfiltered w.listeners → IsPlainStep s → (step w s).0.brought ≡ brought_by w.brought s (step w s).1
brought_step w s h p u = brought_at w s (refusal w s) (is_stale w s) refl refl h p u
