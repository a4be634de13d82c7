use Rattle.std.proofs.Common.{◌≡◌, ℕ, ◌+◌, ◌-◌, List, Some, length, set, sym, ap, ◌∙◌, arith}
use Rattle.vm_facts.specs.declared.entry.Entry.{Entry}
use Rattle.vm_facts.specs.declared.entry.Entry.TheVariants as entries
use Rattle.table_steps.specs.Joined.{moves_in, last_says}
use Rattle.table_steps.proofs.Joins.{moves_kind, counts_alone, counts_joined}
use Rattle.table_steps.proofs.joining.add_move.Goals as goal

pub returns-in-Some : goal.returns-in-Some
returns-in-Some c =
    let items : List Entry = c.args.journal.now.items in
    let h : last_says moves_in items ≡ Some c.in-Some.count = sym (ap (last_says moves_in) c.as_slice.ensures.value) ∙ sym c.last_moves.ensures ∙ c.in-Some.is in
    let e : c.len-last.result ≡ length items = omega (arith, c.len-last.ensures, c.as_slice.ensures.len, ap length c.as_slice.ensures.value) in
    ap (λ (k : ℕ). set items (k - 1) (entries.Hands (c.in-Some.count + 1))) e ∙ sym (counts_joined moves_in (λ (count : ℕ). entries.Hands count) moves_kind items c.in-Some.count h)

pub returns-in-None : goal.returns-in-None
returns-in-None c =
    let items : List Entry = c.args.journal.now.items in
    c.push_reserved.ensures.items
    ∙ sym (counts_alone moves_in (λ (count : ℕ). entries.Hands count) moves_kind items (sym (ap (last_says moves_in) c.as_slice.ensures.value) ∙ sym c.last_moves.ensures ∙ c.in-None.is))
