use Rattle.std.specs.Prelude.{IfOk}
use Rattle.std.proofs.Common.{sym, subst}
use Rattle.rt_chain.specs.declared.chain.Half.{Half}
use Rattle.rt_order.specs.declared.cut.Range.{Range}
use Rattle.rt_view.specs.inside.ChildChain.{AllMarked, halves_of}
use Rattle.rt_view.specs.inside.Windows.{Goes}
use Rattle.rt_view.proofs.window.go_over.Goals as goal

pub returns-in-Front-clause-crosses : goal.returns-in-Front-clause-crosses
returns-in-Front-clause-crosses c =
    subst (λ (h : Half). IfOk c.go_back.result (λ child. (from : Range) → AllMarked from c.args.chain.now → Goes h child (halves_of c.args.chain.now) (halves_of c.go_back.new.chain)))
    (sym c.in-Front.is) c.go_back.ensures.crosses

pub returns-in-Behind-clause-crosses : goal.returns-in-Behind-clause-crosses
returns-in-Behind-clause-crosses c =
    subst (λ (h : Half). IfOk c.go_ahead.result (λ child. (from : Range) → AllMarked from c.args.chain.now → Goes h child (halves_of c.args.chain.now) (halves_of c.go_ahead.new.chain)))
    (sym c.in-Behind.is) c.go_ahead.ensures.crosses
