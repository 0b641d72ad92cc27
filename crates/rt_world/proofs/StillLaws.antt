-- What a step leaves where no listener begins or ends.
use Rattle.std.proofs.Common.{◌≡◌, Bool, true, false, cond, List, [], ◌∷◌, ◌++◌, map, length, refl, sym, ap, subst, ◌∙◌, arith, suc, append-nil, Option, None}
use Rattle.std.specs.List.{Contains, filter_map, cons_option}
use Rattle.rt_writes.specs.Writes.{Write}
use Rattle.rt_cache.specs.Brought.{Brought}
use Rattle.rt_wire.specs.declared.client.ClientMessage.{ClientMessage}
use Rattle.rt_world.specs.declared.step.Step.{Step}
use Rattle.rt_world.specs.World.{World, Listener, pending}
use Rattle.rt_world.specs.After.{listeners_after, requests_after, started_by, pushed, brought_after, renewed, renewed_after, is_connected_after, listener_given, request_given, counted}
use Rattle.rt_world.specs.Messages.{listens, unlistens, request_sent, messages_of, outgoing_before, next}
use Rattle.rt_world.specs.Answers.{batch_from, batch_note, batch_notes}
use Rattle.rt_world.specs.Touched.{entries_by}
use Rattle.rt_world.specs.Met.{told, do_meet, renewed_met, told_met, all_told}
use Rattle.rt_world.specs.Reached.{IsReached}
use Rattle.rt_world.specs.laws.World.{changes_listeners}
use Rattle.rt_world.specs.laws.Steps.{note_of}
use Rattle.rt_world.specs.laws.Made.{IsMade, LeavesListens, StillLeavesListens}
use Rattle.rt_world.proofs.KeptLaws.{listens_stay}
use Rattle.rt_world.proofs.NamedLaws.{unmet_stays, still_unmoved}
use Rattle.rt_world.proofs.NoteLaws.{batches_are_notes, still_is_quiet}
use Rattle.rt_world.proofs.ReachedLaws.{still_listeners, push_is_brought}

-- ---- lists

pub map_same : {X Y : Type 0} (f g : X → Y) (xs : List X) → ((x : X) → Contains xs x → f x ≡ g x) → map f xs ≡ map g xs
map_same f g [] h = refl
map_same f g (x ∷ xs) h =
    let head = h x (0, omega arith, refl) in
    let tail = map_same f g xs (λ y m. h y (suc m.0, omega (arith, m.1), m.2)) in
    λ i. head i ∷ tail i

gather_same : {X Y : Type 0} (f g : X → Option Y) (xs : List X) → ((x : X) → Contains xs x → f x ≡ g x) → filter_map f xs ≡ filter_map g xs
gather_same f g [] h = refl
gather_same f g (x ∷ xs) h =
    let head = h x (0, omega arith, refl) in
    let tail = gather_same f g xs (λ y m. h y (suc m.0, omega (arith, m.1), m.2)) in
    λ i. cons_option (head i) (tail i)

-- ---- steps

module _ (w : World) (s : Step) (d : IsMade w s) (reached : IsReached w) (still : changes_listeners s ≡ false) (e : listeners_after w s ≡ w.listeners) where
  -- a listener whose path no entry meets stays as it is
  stays : (l : Listener) → Contains w.listeners l → do_meet (entries_by w s) l.query.path ≡ false → renewed (brought_after w s) (pending (requests_after w s)) l ≡ l
  stays l m f = unmet_stays w s d.sound d.called reached d.not_refused l m (subst (λ (ls : List Listener). Contains ls l) (sym e) m) f
      (still_unmoved w s l.query d.sound d.called reached d.not_refused still f)

  -- and is told nothing
  quiet : (l : Listener) → Contains w.listeners l → do_meet (entries_by w s) l.query.path ≡ false → note_of w s l ≡ None
  quiet l m f = ap (λ x. batch_note x (batch_from l.view x)) (stays l m f) ∙ still_is_quiet w l d.sound m

  -- to renew the listeners that are met is to renew them all
  met_renewed : map (renewed_met (entries_by w s) (brought_after w s) (pending (requests_after w s))) w.listeners ≡ renewed_after w s
  met_renewed =
      let new : Listener → Listener = renewed (brought_after w s) (pending (requests_after w s)) in
      map_same (renewed_met (entries_by w s) (brought_after w s) (pending (requests_after w s))) new w.listeners (λ l m.
      elim (do_meet (entries_by w s) l.query.path) as (λ b. do_meet (entries_by w s) l.query.path ≡ b → cond b (new l) l ≡ new l) [
        | true ↦ λ f. refl
        | false ↦ λ f. sym (stays l m f)
      ] refl)
      ∙ ap (map new) (sym e)

  met_told : all_told (entries_by w s) (brought_after w s) (pending (requests_after w s)) w.listeners ≡ batch_notes w s
  met_told =
      gather_same (told_met (entries_by w s) (brought_after w s) (pending (requests_after w s))) (note_of w s) w.listeners (λ l m.
      elim (do_meet (entries_by w s) l.query.path) as (λ b. do_meet (entries_by w s) l.query.path ≡ b → cond b (told (brought_after w s) (pending (requests_after w s)) l) None ≡ note_of w s l) [
        | true ↦ λ f. refl
        | false ↦ λ f. sym (quiet l m f)
      ] refl)
      ∙ ap (filter_map (note_of w s)) (sym e)
      ∙ sym (batches_are_notes w s d.sound)

  leaves_listens : brought_after w s ≡ pushed w s → LeavesListens w s
  leaves_listens eb =
      let k = listens_stay w s d.sound e in
      let none : length (started_by w s) ≡ 0 = ap length k.started in
      record {
        listeners = sym met_renewed ∙ (λ i. map (renewed_met (entries_by w s) (eb i) (pending (requests_after w s))) w.listeners);
        brought = eb;
        kept = k.kept;
        next_tag = omega (arith, none);
        messages = λ i. listens (k.started i) ++ unlistens (k.stopped i) ++ request_sent w s;
        notes = sym met_told ∙ (λ i. all_told (entries_by w s) (eb i) (pending (requests_after w s)) w.listeners);
      }

pub still_leaves_listens : StillLeavesListens
still_leaves_listens w s d p e =
    leaves_listens w s d p e (still_listeners w s e) (push_is_brought w s d.sound d.called p d.not_refused e)

-- ---- the world and the notes, said by what is brought, pending and sent

pub next_is : (w : World) (s : Step) → LeavesListens w s → (b : Brought) (ws : List Write) (ms : List ClientMessage) → pushed w s ≡ b → pending (requests_after w s) ≡ ws → outgoing_before w s ++ messages_of w s ≡ ms
    → next w s ≡ record {
      limits = w.limits;
      listeners = map (renewed_met (entries_by w s) b ws) w.listeners;
      requests = requests_after w s;
      brought = b;
      kept = w.kept;
      is_connected = is_connected_after w s;
      outgoing = ms;
      next_listener = counted w.next_listener (listener_given w s);
      next_request = counted w.next_request (request_given w s);
      next_tag = w.next_tag;
    }
next_is w s h b ws ms eb ew em =
    let ls : renewed_after w s ≡ map (renewed_met (entries_by w s) b ws) w.listeners = h.listeners ∙ (λ i. map (renewed_met (entries_by w s) (eb i) (ew i)) w.listeners) in
    let bs : brought_after w s ≡ b = h.brought ∙ eb in
    λ i. record {
      limits = w.limits;
      listeners = ls i;
      requests = requests_after w s;
      brought = bs i;
      kept = h.kept i;
      is_connected = is_connected_after w s;
      outgoing = em i;
      next_listener = counted w.next_listener (listener_given w s);
      next_request = counted w.next_request (request_given w s);
      next_tag = h.next_tag i;
    }

pub told_is : (w : World) (s : Step) → LeavesListens w s → (b : Brought) (ws : List Write) → pushed w s ≡ b → pending (requests_after w s) ≡ ws → batch_notes w s ≡ all_told (entries_by w s) b ws w.listeners
told_is w s h b ws eb ew = h.notes ∙ (λ i. all_told (entries_by w s) (eb i) (ew i) w.listeners)

-- nothing is sent where nothing is asked for
pub none_sent : (b : Bool) (out ms : List ClientMessage) → ms ≡ [] → out ++ cond b ms [] ≡ out
none_sent true out ms e = ap (λ z. out ++ z) e ∙ append-nil out
none_sent false out ms e = append-nil out

-- where there are no entries all listeners stay, and are told nothing
pub map_unmet : (b : Brought) (ws : List Write) (ls : List Listener) → map (renewed_met [] b ws) ls ≡ ls
map_unmet b ws [] = refl
map_unmet b ws (l ∷ ls) = ap (λ z. l ∷ z) (map_unmet b ws ls)

pub told_unmet : (b : Brought) (ws : List Write) (ls : List Listener) → all_told [] b ws ls ≡ []
told_unmet b ws [] = refl
told_unmet b ws (l ∷ ls) = told_unmet b ws ls
