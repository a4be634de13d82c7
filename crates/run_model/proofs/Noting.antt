-- What a device has noted that notes each request.
use Rattle.std.proofs.Common.{◌≡◌, ℕ, List, [], ◌++◌, ap}
use Rattle.std.proofs.lemmas.List.{append-nil}
use Rattle.vm_facts.specs.SwapImages.{StoreRequest, These}
use Rattle.vm_facts.specs.declared.entry.Entry.{Entry}
use Rattle.flat_state.specs.Flat.{Inputs}
use Rattle.run_model.specs.Swapped.{requests_of, swap_left}

-- the requests of a journal, after those that it had noted
pub all_noted : (A : Inputs) (journal : List Entry) (bytes : List ℕ) (before : List StoreRequest)
    → (swap_left A journal (record { bytes = bytes; noted = λ more. These (before ++ more) })).noted [] ≡ These (before ++ requests_of A journal)
all_noted A journal bytes before = ap (λ (requests : List StoreRequest). These (before ++ requests)) (append-nil (requests_of A journal))
