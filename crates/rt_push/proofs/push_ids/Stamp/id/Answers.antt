use Rattle.std.proofs.Common.{◌≡◌, ◌++◌, length, take, replicate, refl, ap, ◌∙◌}
use Rattle.rt_push.specs.Digits.{text}
use Rattle.rt_push.proofs.DigitLaws.{length-text, drop-first, written-second}
use Rattle.rt_push.proofs.push_ids.Stamp.id.Goals as goal

pub returns : goal.returns
returns c =
    let moment = c.write.new.room in
    let random = c.write-2.new.room in
    let zeros = replicate 12 0 in
    let eight : length moment ≡ 8 = ap length c.write.ensures ∙ length-text 8 c.from.result in
    written-second moment zeros random eight refl ∙ ap (λ xs. xs ++ random) (c.write.ensures ∙ ap (text 8) c.from.ensures)
    ∙ ap (λ xs. text 8 c.args.self.now.moment ++ xs)
    (c.write-2.ensures ∙ ap (λ xs. text (length (take 12 xs)) c.args.self.now.random) (drop-first moment zeros eight))
