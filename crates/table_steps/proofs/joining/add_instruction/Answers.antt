use Rattle.std.proofs.Common.{◌≡◌, ℕ, ◌+◌, ◌-◌, List, Some, length, set, sym, ap, ◌∙◌, arith}
use Rattle.vm_facts.specs.declared.entry.Entry.{Entry}
use Rattle.vm_facts.specs.declared.entry.Entry.TheVariants as entries
use Rattle.table_steps.specs.Joined.{instructions_in, last_says}
use Rattle.table_steps.proofs.Joins.{runs_kind, counts_alone, counts_joined}
use Rattle.table_steps.proofs.joining.add_instruction.Goals as goal

pub returns-in-Some : goal.returns-in-Some
returns-in-Some c =
    let items : List Entry = c.args.journal.now.items in
    let h : last_says (instructions_in c.args.pid) items ≡ Some c.in-Some.count =
    sym (ap (last_says (instructions_in c.args.pid)) c.as_slice.ensures.value) ∙ sym c.last_instructions.ensures ∙ c.in-Some.is in
    let e : c.len-last.result ≡ length items = omega (arith, c.len-last.ensures, c.as_slice.ensures.len, ap length c.as_slice.ensures.value) in
    ap (λ (k : ℕ). set items (k - 1) (entries.Ran c.args.pid (c.in-Some.count + 1))) e
    ∙ sym (counts_joined (instructions_in c.args.pid) (λ (count : ℕ). entries.Ran c.args.pid count) (runs_kind c.args.pid) items c.in-Some.count h)

pub returns-in-None : goal.returns-in-None
returns-in-None c =
    let items : List Entry = c.args.journal.now.items in
    c.push_reserved.ensures.items ∙ sym (counts_alone (instructions_in c.args.pid) (λ (count : ℕ). entries.Ran c.args.pid count) (runs_kind c.args.pid) items
    (sym (ap (last_says (instructions_in c.args.pid)) c.as_slice.ensures.value) ∙ sym c.last_instructions.ensures ∙ c.in-None.is))
