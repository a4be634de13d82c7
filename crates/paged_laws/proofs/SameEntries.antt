-- Entries that are the same.
use Rattle.std.proofs.Common.{◌≡◌, ℕ, true, ap}
use Rattle.std.proofs.lemmas.Bool.{eqb-true}
use Rattle.vm_facts.specs.declared.entry.Entry.{Entry}
use Rattle.vm_facts.specs.declared.entry.Entry.TheVariants as entries
use Rattle.paged_model.specs.Steps.{is_same}
use Rattle.run_laws.proofs.Entries.{entry_is}

pub same_is : (e f : Entry) → is_same e f ≡ true → e ≡ f
same_is (entries.Refused a) (entries.Refused b) h = ap (λ (x : ℕ). entries.Refused x) (eqb-true a b h)
same_is e f h = entry_is e f h
