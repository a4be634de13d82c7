-- One more entry in each count.
use Rattle.std.proofs.Common.{◌≡◌, ◌<◌, ℕ, Bool, length, ap, ◌∙◌, arith}
use Rattle.std.specs.Prelude.{if◌then◌else◌}
use Rattle.vm_facts.specs.declared.entry.Entry.{Entry}
use Rattle.flat_laws.specs.Others.{is_refusal}
use Rattle.flat_laws.specs.Visible.{is_end}
use Rattle.process_counts.specs.Counts.{output_length}
use Rattle.load_maker.specs.Counts.{is_granted_fork}
use Rattle.load_maker.proofs.Counted.{instructions_more, sum_more, sum_more_alone, one_more_fits}
use Rattle.load_maker.proofs.counts.counts_of.Goals as goal

pub loop-entry-preserved : goal.loop-entry-preserved
loop-entry-preserved c =
    let journal = c.args.journal.now in
    let i : ℕ = c.loop-entry.entry-index in
    let e : Entry = c.entry-item.result in
    let lt : i < length journal = omega arith in
    let h = c.loop-entry.invariant in
    let made : c.one_if.result ≡ (if is_granted_fork e then 1 else 0) = c.one_if.ensures ∙ ap (λ (b : Bool). if b then 1 else 0) c.is_granted_fork.ensures in
    let ended : c.one_if-in-loop-entry.result ≡ (if is_end e then 1 else 0) = c.one_if-in-loop-entry.ensures ∙ ap (λ (b : Bool). if b then 1 else 0) c.is_end.ensures in
    let refused : c.one_if-in-loop-entry-2.result ≡ (if is_refusal e then 1 else 0) =
    c.one_if-in-loop-entry-2.ensures ∙ ap (λ (b : Bool). if b then 1 else 0) c.is_refusal.ensures in
    record {
      instructions = instructions_more journal i c.loop-entry.counts.instructions c.from-in-loop-entry.result e lt c.entry-item.is h.instructions (c.from-in-loop-entry.ensures ∙ c.counted.ensures);
      processes = sum_more (λ (x : Entry). if is_granted_fork x then 1 else 0) journal c.args.first i c.loop-entry.counts.processes c.one_if.result e lt c.entry-item.is h.processes made;
      ended = sum_more_alone (λ (x : Entry). if is_end x then 1 else 0) journal i c.loop-entry.counts.ended c.one_if-in-loop-entry.result e lt c.entry-item.is h.ended ended;
      refused = sum_more_alone (λ (x : Entry). if is_refusal x then 1 else 0) journal i c.loop-entry.counts.refused c.one_if-in-loop-entry-2.result e lt c.entry-item.is h.refused refused;
      bytes_out = sum_more_alone output_length journal i c.loop-entry.counts.bytes_out c.output_length.result e lt c.entry-item.is h.bytes_out c.output_length.ensures;
      instructions_fit = omega (arith, h.instructions_fit, c.from-in-loop-entry.ensures, c.counted.type_inv);
      processes_fit = one_more_fits 4294967296 i c.loop-entry.counts.processes c.one_if.result (is_granted_fork e) h.processes_fit made;
      ended_fit = one_more_fits 0 i c.loop-entry.counts.ended c.one_if-in-loop-entry.result (is_end e) h.ended_fit ended;
      refused_fit = one_more_fits 0 i c.loop-entry.counts.refused c.one_if-in-loop-entry-2.result (is_refusal e) h.refused_fit refused;
      bytes_fit = omega (arith, h.bytes_fit, c.output_length.type_inv);
    }
