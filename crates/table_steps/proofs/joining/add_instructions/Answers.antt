use Rattle.std.proofs.Common.{◌≡◌, ℕ, ◌+◌, ◌-◌, List, Some, length, set, sym, ap, ◌∙◌, arith}
use Rattle.vm_facts.specs.declared.entry.Entry.{Entry}
use Rattle.vm_facts.specs.declared.entry.Entry.TheVariants as entries
use Rattle.table_steps.specs.Joined.{instructions_in, last_says}
use Rattle.table_steps.proofs.Further.{more_joined}
use Rattle.table_steps.proofs.joining.add_instructions.Goals as goal

pub returns : goal.returns
returns c =
    let items : List Entry = c.args.journal.now.items in
    let h : last_says (instructions_in c.args.pid) items ≡ Some c.in-Some.count =
    sym (ap (last_says (instructions_in c.args.pid)) c.as_slice.ensures.value) ∙ sym c.last_instructions.ensures ∙ c.in-Some.is in
    let e : c.len-last.result ≡ length items = omega (arith, c.len-last.ensures, c.as_slice.ensures.len, ap length c.as_slice.ensures.value) in
    ap (λ (k : ℕ). set items (k - 1) (entries.Ran c.args.pid (c.in-Some.count + c.args.more))) e ∙ sym (more_joined items c.args.pid c.in-Some.count c.args.more h)
