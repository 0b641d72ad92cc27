use Rattle.std.proofs.Common.{◌≡◌, ◌<◌, [], ◌∷◌, ◌++◌, suc, ap, subst, sym, ◌∙◌, rules}
use Rattle.rt_mail.specs.Lanes.{room, with_items, HandsOver}
use Rattle.rt_mail.specs.inside.Histories.{line_of}
use Rattle.rt_mail.proofs.Handing.{hands_more, room_more, shorter}
use Rattle.rt_mail.proofs.lane.hand_over.Goals as goal

pub loop-waiting-preserved : goal.loop-waiting-preserved
loop-waiting-preserved c =
    let k = c.loop-waiting.invariant.0 in
    let hands = c.loop-waiting.invariant.3 in
    let w0 = c.args.waiting.now.items in
    let h0 = c.args.handed.now.items in
    let mid = c.loop-waiting.inbox in
    let item = c.in-Some.item in
    let rest = c.pop_front.new.self.items in
    let popped : c.loop-waiting.waiting.items ≡ item ∷ rest = search rules in
    let has_room : 0 < room mid = search rules in
    let told : c.and.result.items ≡ c.loop-waiting.handed.items ++ item ∷ [] = search rules in
    let ring : c.put.new.self ≡ with_items (item ∷ []) mid = search rules in (
      suc k,
      shorter k w0 item rest (sym (ap (λ l. l.waiting) hands.lane) ∙ popped),
      room_more k w0 c.args.inbox.now mid hands.ring c.loop-waiting.invariant.1 has_room,
      subst (λ r. HandsOver (suc k) (line_of w0 h0) c.args.inbox.now (line_of rest c.and.result.items) r) (sym ring)
          (subst (λ hs. HandsOver (suc k) (line_of w0 h0) c.args.inbox.now (line_of rest hs) (with_items (item ∷ []) mid)) (sym told)
          (hands_more k w0 h0 c.args.inbox.now c.loop-waiting.waiting.items c.loop-waiting.handed.items mid item rest hands popped)),
    )
