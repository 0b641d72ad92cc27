use Rattle.std.proofs.Common.{◌∙◌, ◌&&◌, ap, List}
use Rattle.std.specs.List.{find, list_any}
use Rattle.rt_query.specs.Queries.{is_filtered}
use Rattle.rt_cache.specs.declared.forms.Form.{Form}
use Rattle.rt_cache.specs.inside.Listed.{queries_of}
use Rattle.rt_cache.proofs.Stamps.{any_filtered, found_filtered}
use Rattle.rt_cache.proofs.forms.Forms.filtered.Goals as goal

pub returns-clause-same : goal.returns-clause-same
returns-clause-same c = λ p.
    ap (λ (fs : List Form). list_any p (queries_of fs)) c.as_slice.ensures.value ∙ any_filtered c.self.inside.items.items c.self.inside.filtered.items c.self.invariant p
    ∙ ap (list_any (λ f. is_filtered f && p f)) c.self.view_is

pub returns-clause-first : goal.returns-clause-first
returns-clause-first c = λ p path tells.
    ap (λ (fs : List Form). find p (queries_of fs)) c.as_slice.ensures.value
    ∙ found_filtered c.self.inside.items.items c.self.inside.filtered.items c.self.invariant p path tells
    ∙ ap (find p) c.self.view_is
