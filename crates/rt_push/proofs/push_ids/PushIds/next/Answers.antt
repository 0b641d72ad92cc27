use Rattle.std.proofs.Common.{sym, subst}
use Rattle.std.specs.Str.{IsUtf8}
use Rattle.rt_push.proofs.Texts.{id_is_text}
use Rattle.rt_push.proofs.push_ids.PushIds.next.Goals as goal

pub returns-clause-text : goal.returns-clause-text
returns-clause-text c = subst IsUtf8 (sym c.id.ensures) (id_is_text _)
