-- The entry at a place of a journal.
use Rattle.std.proofs.Common.{◌≡◌, ℕ, ◌<◌, ◌≤◌, List, length, get_or, slice_get, Option, Some, None, Bor, option_map, MatchOption, IfSome, HoldsAt, refl, sym}
use Rattle.std.proofs.lemmas.Option.{slice_get_past, slice_get_read}
use Rattle.vm_facts.specs.declared.entry.Entry.{Entry}

pub got : (r : Option (Bor Entry)) (xs : List Entry) (i : ℕ) → IfSome r (λ x. x.now ≡ get_or xs i x.now)
    → MatchOption r (length xs ≤ i) (λ x. (i < length xs) × HoldsAt (λ y. x.now ≡ y) xs i) → option_map (λ (x : Bor Entry). x.now) r ≡ slice_get xs i
got None xs i h m = sym (slice_get_past xs i m)
got (Some x) xs i h m = sym (slice_get_read xs (length xs) i x.now refl m.0 h)
