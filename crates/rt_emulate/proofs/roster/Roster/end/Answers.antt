use Rattle.std.proofs.Common.{rules, ◌≡◌, ◌==◌, not, true, false, sym, ap, if◌then◌else◌}
use Rattle.std.proofs.lemmas.Fn.{filter_same}
use Rattle.rt_emulate.specs.inside.Guests.{is_none_of}
use Rattle.rt_emulate.proofs.roster.Roster.end.Goals as goal

pub returns-then-is_empty : goal.returns-then-is_empty
returns-then-is_empty c =
    let none : is_none_of c.retain.new.self.items ≡ true = search rules in (
      filter_same _ (λ m. not (m == c.args.connection)) _ (λ x b f' k. search rules) _ _ c.retain.ensures.filtered,
      ap (λ b. record (c.args.self.now) {
        version = if b then 0 else c.args.self.now.version;
        is_stale = true;
        askers = c.retain.new.self;
      }) (sym none),
    )

pub returns-else-is_empty : goal.returns-else-is_empty
returns-else-is_empty c =
    let some : is_none_of c.retain.new.self.items ≡ false = search rules in (
      filter_same _ (λ m. not (m == c.args.connection)) _ (λ x b f' k. search rules) _ _ c.retain.ensures.filtered,
      ap (λ b. record (c.args.self.now) {
        version = if b then 0 else c.args.self.now.version;
        is_stale = true;
        askers = c.retain.new.self;
      }) (sym some),
    )
