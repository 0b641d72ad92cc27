use Rattle.std.proofs.Common.{rules, ◌≡◌, ◌<◌, ◌==◌, ℕ, true, false, cond, not, set, get_or, length, List, Some, None, arith, sym, ap, subst, ◌∙◌}
use mathlib.Core.Bool.{true≢false}
use Rattle.std.specs.List.{filter, remove, list_any}
use Rattle.rt_query.specs.Queries.{Query}
use Rattle.rt_forms.specs.Numbers.{without_number}
use Rattle.rt_forms.specs.Order.{AreInOrder}
use Rattle.rt_forms.specs.inside.Lists.{entry_at}
use Rattle.rt_forms.specs.inside.Trees.{among}
use Rattle.rt_forms.proofs.ListLaws.{among_at}
use Rattle.rt_forms.proofs.LessLaws.{parted_at, among_none}
use Rattle.rt_forms.proofs.OrderLaws.{set_in_order, remove_in_order}
use Rattle.rt_forms.proofs.standing.leave.Goals as goal

pub returns-in_default-clause-items : goal.returns-in_default-clause-items
returns-in_default-clause-items c =
    let q = c.args.query.now in
    let es : List (Query × List ℕ) = c.args.filtered.now.items in
    let at : entry_at q es ≡ None = ap (entry_at q) (sym c.deref.ensures.value) ∙ sym c.place_of.ensures.place ∙ c.in_default.is in
    absurd (true≢false (sym c.requires.there ∙ ap (list_any (λ m. m == c.args.number)) (among_none q es at)))

pub returns-in_default-clause-less : goal.returns-in_default-clause-less
returns-in_default-clause-less c =
    let q = c.args.query.now in
    let es : List (Query × List ℕ) = c.args.filtered.now.items in
    let at : entry_at q es ≡ None = ap (entry_at q) (sym c.deref.ensures.value) ∙ sym c.place_of.ensures.place ∙ c.in_default.is in
    absurd (true≢false (sym c.requires.there ∙ ap (list_any (λ m. m == c.args.number)) (among_none q es at)))

pub returns-then-leave_entry-clause-items : goal.returns-then-leave_entry-clause-items
returns-then-leave_entry-clause-items c =
    let q = c.args.query.now in
    let es : List (Query × List ℕ) = c.args.filtered.now.items in
    let e : Query × List ℕ = c.index_mut.result.now in
    let left : List ℕ = without_number c.args.number e.1 in
    let at : entry_at q es ≡ Some c.in-Some.place = ap (entry_at q) (sym c.deref.ensures.value) ∙ sym c.place_of.ensures.place ∙ c.in-Some.is in
    let there : e ≡ get_or es c.in-Some.place e = search rules in
    let none : (length (c.leave_entry.new.entry).1 == 0) ≡ true = search rules in
    let items : c.remove-left.new.self.items ≡ remove (set es c.in-Some.place c.leave_entry.new.entry) c.in-Some.place = search rules in
    items ∙ ap (λ (x : Query × List ℕ). remove (set es c.in-Some.place x) c.in-Some.place) c.leave_entry.ensures.entry
    ∙ sym (ap (λ b. cond b (remove (set es c.in-Some.place (e.0, left)) c.in-Some.place) (set es c.in-Some.place (e.0, left)))
    (ap (λ (x : Query × List ℕ). length x.1 == 0) (sym c.leave_entry.ensures.entry) ∙ none))
    ∙ parted_at q c.args.number es c.in-Some.place e at there

pub returns-then-leave_entry-clause-less : goal.returns-then-leave_entry-clause-less
returns-then-leave_entry-clause-less c =
    let q = c.args.query.now in
    let es : List (Query × List ℕ) = c.args.filtered.now.items in
    let e : Query × List ℕ = c.index_mut.result.now in
    let at : entry_at q es ≡ Some c.in-Some.place = ap (entry_at q) (sym c.deref.ensures.value) ∙ sym c.place_of.ensures.place ∙ c.in-Some.is in
    let there : e ≡ get_or es c.in-Some.place e = search rules in
    let is : among q es ≡ e.1 = among_at q es c.in-Some.place e at there in
    let less = c.leave_entry.ensures.less (ap (list_any (λ m. m == c.args.number)) (sym is) ∙ c.requires.there) in
    let new : length (c.leave_entry.new.entry).1 ≡ length (filter (λ m. not (m == c.args.number)) e.1) = ap (λ (x : Query × List ℕ). length x.1) c.leave_entry.ensures.entry in
    let a = ap length is in
    let b = ap (λ ns. length (filter (λ m. not (m == c.args.number)) ns)) is in
    omega (arith, less, new, a, b)

pub returns-then-leave_entry-clause-order : goal.returns-then-leave_entry-clause-order
returns-then-leave_entry-clause-order c =
    let es : List (Query × List ℕ) = c.args.filtered.now.items in
    let e : Query × List ℕ = c.index_mut.result.now in
    let there : e ≡ get_or es c.in-Some.place e = search rules in
    let within : c.in-Some.place < length es = search rules in
    let items : c.remove-left.new.self.items ≡ remove (set es c.in-Some.place c.leave_entry.new.entry) c.in-Some.place = search rules in
    subst AreInOrder (sym items) (remove_in_order (set es c.in-Some.place c.leave_entry.new.entry) c.in-Some.place
    (set_in_order es c.in-Some.place e c.leave_entry.new.entry within (ap (λ (x : Query × List ℕ). x.0) c.leave_entry.ensures.entry ∙ ap (λ (x : Query × List ℕ). x.0) there) c.requires.order))

pub returns-else-leave_entry-clause-items : goal.returns-else-leave_entry-clause-items
returns-else-leave_entry-clause-items c =
    let q = c.args.query.now in
    let es : List (Query × List ℕ) = c.args.filtered.now.items in
    let e : Query × List ℕ = c.index_mut.result.now in
    let left : List ℕ = without_number c.args.number e.1 in
    let at : entry_at q es ≡ Some c.in-Some.place = ap (entry_at q) (sym c.deref.ensures.value) ∙ sym c.place_of.ensures.place ∙ c.in-Some.is in
    let there : e ≡ get_or es c.in-Some.place e = search rules in
    let some : (length (c.leave_entry.new.entry).1 == 0) ≡ false = search rules in
    ap (set es c.in-Some.place) c.leave_entry.ensures.entry
    ∙ sym (ap (λ b. cond b (remove (set es c.in-Some.place (e.0, left)) c.in-Some.place) (set es c.in-Some.place (e.0, left)))
    (ap (λ (x : Query × List ℕ). length x.1 == 0) (sym c.leave_entry.ensures.entry) ∙ some))
    ∙ parted_at q c.args.number es c.in-Some.place e at there

pub returns-else-leave_entry-clause-less : goal.returns-else-leave_entry-clause-less
returns-else-leave_entry-clause-less c =
    let q = c.args.query.now in
    let es : List (Query × List ℕ) = c.args.filtered.now.items in
    let e : Query × List ℕ = c.index_mut.result.now in
    let at : entry_at q es ≡ Some c.in-Some.place = ap (entry_at q) (sym c.deref.ensures.value) ∙ sym c.place_of.ensures.place ∙ c.in-Some.is in
    let there : e ≡ get_or es c.in-Some.place e = search rules in
    let is : among q es ≡ e.1 = among_at q es c.in-Some.place e at there in
    let less = c.leave_entry.ensures.less (ap (list_any (λ m. m == c.args.number)) (sym is) ∙ c.requires.there) in
    let new : length (c.leave_entry.new.entry).1 ≡ length (filter (λ m. not (m == c.args.number)) e.1) = ap (λ (x : Query × List ℕ). length x.1) c.leave_entry.ensures.entry in
    let a = ap length is in
    let b = ap (λ ns. length (filter (λ m. not (m == c.args.number)) ns)) is in
    omega (arith, less, new, a, b)

pub returns-else-leave_entry-clause-order : goal.returns-else-leave_entry-clause-order
returns-else-leave_entry-clause-order c =
    let es : List (Query × List ℕ) = c.args.filtered.now.items in
    let e : Query × List ℕ = c.index_mut.result.now in
    let there : e ≡ get_or es c.in-Some.place e = search rules in
    let within : c.in-Some.place < length es = search rules in
    set_in_order es c.in-Some.place e c.leave_entry.new.entry within (ap (λ (x : Query × List ℕ). x.0) c.leave_entry.ensures.entry ∙ ap (λ (x : Query × List ℕ). x.0) there) c.requires.order
