use Rattle.std.proofs.Common.{rules, ◌≤◌, ◌<◌, ◌-◌, false, length, string_bytes}
use Rattle.rt_emulate.specs.declared.draft.TheConstants.{MOST_TOLD}
use Rattle.rt_emulate.proofs.RosterLaws.{comes_behind, gets_over, over_stays}
use Rattle.rt_emulate.proofs.draft.Draft.put.Goals as goal

pub returns-then-self : goal.returns-then-self
returns-then-self c =
    over_stays c.args.piece.now (string_bytes c.self.inside.text) c.self.inside.is_over c.args.self.now c.self.view_is
    c.if-self.true

pub returns-then-piece-len : goal.returns-then-piece-len
returns-then-piece-len c =
    let text = string_bytes c.self.inside.text in
    let le : length text ≤ MOST_TOLD = search rules in
    let more : MOST_TOLD - length text < length c.args.piece.now = search rules in
    gets_over c.args.piece.now text c.self.inside.is_over c.args.self.now c.self.view_is c.if-self.false le more

pub returns : goal.returns
returns c =
    let text = string_bytes c.self.inside.text in
    let le : length text ≤ MOST_TOLD = search rules in
    let few : length c.args.piece.now ≤ MOST_TOLD - length text = search rules in
    comes_behind c.push_str.result c.args.piece.now text (string_bytes c.push_str.new.self) c.self.inside.is_over
    c.args.self.now c.self.view_is c.if-self.false le few c.push_str.ensures.bytes
