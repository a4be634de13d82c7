-- The line at a place of a trace.
use Rattle.std.proofs.Common.{◌≡◌, ℕ, ◌<◌, ◌≤◌, List, length, get_or, slice_get, Option, Some, None, Bor, option_map, MatchOption, IfSome, HoldsAt, refl, sym}
use Rattle.std.proofs.lemmas.Option.{slice_get_past, slice_get_read}
use Rattle.paged_model.specs.declared.line.Line.{Line}

pub got : (r : Option (Bor Line)) (xs : List Line) (i : ℕ) → IfSome r (λ x. x.now ≡ get_or xs i x.now)
    → MatchOption r (length xs ≤ i) (λ x. (i < length xs) × HoldsAt (λ y. x.now ≡ y) xs i) → option_map (λ (x : Bor Line). x.now) r ≡ slice_get xs i
got None xs i h m = sym (slice_get_past xs i m)
got (Some x) xs i h m = sym (slice_get_read xs (length xs) i x.now refl m.0 h)
