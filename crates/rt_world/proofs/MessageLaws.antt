-- The messages to be sent are those that the steps make.
use Rattle.std.proofs.Common.{◌≡◌, ℕ, Bool, true, false, cond, not, ◌&&◌, ◌||◌, List, [], ◌∷◌, ◌++◌, map, refl, sym, ap, subst, ◌∙◌, append-nil, append_assoc, Option, Some, None, is_none}
use mathlib.Core.Bool.{true≢false}
use Rattle.std.specs.List.{fold, list_any}
use Rattle.std.specs.Option.{option_map_or}
use Rattle.rt_world.specs.declared.error.CoreError.{CoreError}
use Rattle.rt_wire.specs.declared.client.ClientMessage.{ClientMessage}
use Rattle.rt_world.specs.declared.step.Step.{Step}
use Rattle.rt_world.specs.World.{Reason, World}
use Rattle.rt_world.specs.After.{kind}
use Rattle.rt_wire.specs.declared.limits.TheConstants.{VERSION}
use Rattle.rt_world.specs.Messages.{greeting, listens, request_message, messages_online, messages_of, outgoing_before, next}
use Rattle.rt_world.specs.Refusals.{refusal, is_stale}
use Rattle.rt_world.specs.Answers.{step, step_by, world_after}
use Rattle.rt_world.specs.Runs.{Event, Opened, Made, Ended, events_before, events_of, events, made_after, is_opened}
use Rattle.rt_world.specs.Sound.{IsSound}
use Rattle.rt_world.specs.laws.World.{MessagesAreHeard, SendsAll, ConnectedSendsAll}
use Rattle.rt_world.proofs.HeardLaws.{kept-same}
use Rattle.rt_world.proofs.KindLaws.{orderly}
use Rattle.rt_world.proofs.SoundLaws.{sound_next}
use Rattle.rt_world.proofs.HeadlineLaws.{heard_all}

made-append : (c : List ClientMessage) (xs ys : List Event) → fold made_after c (xs ++ ys) ≡ fold made_after (fold made_after c xs) ys
made-append c [] ys = refl
made-append c (x ∷ xs) ys = made-append (made_after c x) xs ys

made-messages : (c ms : List ClientMessage) → fold made_after c (map Made ms) ≡ c ++ ms
made-messages c [] = sym (append-nil c)
made-messages c (m ∷ ms) = made-messages (c ++ m ∷ []) ms ∙ append_assoc c (m ∷ []) ms

made-done : (w : World) (s : Step) (c : List ClientMessage) → (w.is_connected ≡ true → c ≡ w.outgoing) → (next w s).is_connected ≡ true
    → fold made_after c (events_before s ++ map Made (messages_of w s)) ≡ (next w s).outgoing
made-done w s c same online = at (kind s).opens (kind s).closes refl refl
  where
    rest : Bool → List ClientMessage
    rest closes = cond closes [] (cond w.is_connected (messages_online w s) [])

    -- one that opens a connection begins with none
    opening : (kind s).opens ≡ true → fold made_after c (events_before s ++ map Made (messages_of w s)) ≡ (next w s).outgoing
    opening o =
        let x = ((orderly s).opens o).0 in
        let before : events_before s ≡ Opened ∷ [] = λ i. option_map_or (λ (r : ℕ × Reason). Ended r.0 ∷ []) (x.revoked i) (cond (o i) (Opened ∷ []) []) in
        let messages : messages_of w s ≡ greeting w = ap (λ b. cond b (greeting w) (rest (kind s).closes)) o in
        let out : outgoing_before w s ≡ [] = ap (λ b. cond (b || (kind s).closes) [] w.outgoing) o in
        (λ i. fold made_after c (before i ++ map Made (messages i))) ∙ made-messages [] (greeting w) ∙ (λ i. sym out i ++ sym messages i)

    -- one of a connection that goes on adds its messages
    going : (kind s).opens ≡ false → (kind s).closes ≡ false → fold made_after c (events_before s ++ map Made (messages_of w s)) ≡ (next w s).outgoing
    going o e =
        let on : w.is_connected ≡ true = sym (λ i. cond (o i) true (cond (e i) false w.is_connected)) ∙ online in
        let out : outgoing_before w s ≡ w.outgoing = λ i. cond (o i || e i) [] w.outgoing in
        made-append c (events_before s) (map Made (messages_of w s))
        ∙ (λ i. fold made_after ((before ∙ same on ∙ sym out) i) (map Made (messages_of w s)))
        ∙ made-messages (outgoing_before w s) (messages_of w s)
      where
        before : fold made_after c (events_before s) ≡ c
        before = elim (kind s).revoked as (λ x. fold made_after c (option_map_or (λ (r : ℕ × Reason). Ended r.0 ∷ []) x (cond (kind s).opens (Opened ∷ []) [])) ≡ c) [
          | Some r ↦ refl
          | None ↦ ap (λ b. fold made_after c (cond b (Opened ∷ []) [])) o
        ]

    at : (opens closes : Bool) → (kind s).opens ≡ opens → (kind s).closes ≡ closes → fold made_after c (events_before s ++ map Made (messages_of w s)) ≡ (next w s).outgoing
    at true closes o e = opening o
    at false true o e = absurd (true≢false (sym online ∙ (λ i. cond (o i) true (cond (e i) false w.is_connected))))
    at false false o e = going o e

made-step : (w : World) (s : Step) (c : List ClientMessage) (o : Option CoreError) (b : Bool) → (w.is_connected ≡ true → c ≡ w.outgoing) → (step_by o b w s).0.is_connected ≡ true
    → fold made_after c (cond (is_none o && not b) (events_before s ++ map Made (messages_of w s)) []) ≡ (step_by o b w s).0.outgoing
made-step w s c (Some e) b same online = same online
made-step w s c None true same online = same online
made-step w s c None false same online = made-done w s c same online

made_all : (steps : List Step) (w : World) (c : List ClientMessage) → (w.is_connected ≡ true → c ≡ w.outgoing) → (world_after w steps).is_connected ≡ true
    → fold made_after c (events w steps) ≡ (world_after w steps).outgoing
made_all [] w c same online = same online
made_all (s ∷ rest) w c same online =
    made-append c (events_of w s) (events (step w s).0 rest)
    ∙ made_all rest (step w s).0 (fold made_after c (events_of w s)) (made-step w s c (refusal w s) (is_stale w s) same) online

-- what was there before stays in front, until a connection is opened
made-from : (c : List ClientMessage) (es : List Event) → fold made_after c es ≡ cond (list_any is_opened es) [] c ++ fold made_after [] es
made-from c [] = sym (append-nil c)
made-from c (Opened ∷ es) = refl
made-from c (Ended tag ∷ es) = made-from c es
made-from c (Made m ∷ es) =
    made-from (c ++ m ∷ []) es
    ∙ in_front (list_any is_opened es)
    ∙ ap (λ z. cond (list_any is_opened es) [] c ++ z) (sym (made-from (m ∷ []) es))
  where
    in_front : (b : Bool) → cond b [] (c ++ m ∷ []) ++ fold made_after [] es ≡ cond b [] c ++ (cond b [] (m ∷ []) ++ fold made_after [] es)
    in_front true = refl
    in_front false = append_assoc c (m ∷ []) (fold made_after [] es)

pub messages_are_heard : MessagesAreHeard
messages_are_heard w steps h online =
    record {
      sent = sym (made_all steps w w.outgoing (λ _. refl) online) ∙ made-from w.outgoing (events w steps);
      heard = heard_all steps w w.kept h (λ _. refl) online;
    }

connected_sends : (w : World) → IsSound w → SendsAll (next w Step.Connected)
connected_sends w h =
    let g = sound_next w Step.Connected h in
    record {
      sent = ap (λ kept. ClientMessage.Hello VERSION ∷ (listens kept ++ map request_message w.requests)) (sym (kept-same w Step.Connected h refl));
      tags = (g.listens).tags;
      numbers = g.requests;
    }

pub connected_sends_all : ConnectedSendsAll
connected_sends_all w h ok = subst (λ o. SendsAll (step_by o false w Step.Connected).0) (sym ok) (connected_sends w h)
