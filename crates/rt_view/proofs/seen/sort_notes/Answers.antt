use Rattle.std.proofs.Common.{rules}
use Rattle.std.proofs.lemmas.Fn.{always_returns_same}
use Rattle.rt_view.proofs.SeenLaws.{by_key, kept_stable, key_ranks}
use Rattle.rt_view.proofs.seen.sort_notes.Goals as goal

pub returns : goal.returns
returns c = kept_stable c.args.noted.now.items c.sort_by.new.self.items (c.sort_by.ensures.stable by_key key_ranks (always_returns_same _ _ _ (λ a r f' h. search rules)))
